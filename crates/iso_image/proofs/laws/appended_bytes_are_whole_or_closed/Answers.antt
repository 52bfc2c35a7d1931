use Rattle.iso_image.proofs.Appends.{appending_body, appending_gate}

pub returns-clause-body : Rattle.iso_image.proofs.laws.appended_bytes_are_whole_or_closed.Goals.returns-clause-body
returns-clause-body _ = appending_body

pub returns-clause-gate : Rattle.iso_image.proofs.laws.appended_bytes_are_whole_or_closed.Goals.returns-clause-gate
returns-clause-gate _ = appending_gate
