use Rattle.iso_image.proofs.Adds.{free_behind, adding, added, added_by_gate}

pub returns-clause-behind : Rattle.iso_image.proofs.laws.records_are_told_once_their_gate_opens.Goals.returns-clause-behind
returns-clause-behind _ = free_behind

pub returns-clause-moments : Rattle.iso_image.proofs.laws.records_are_told_once_their_gate_opens.Goals.returns-clause-moments
returns-clause-moments _ = adding

pub returns-clause-whole : Rattle.iso_image.proofs.laws.records_are_told_once_their_gate_opens.Goals.returns-clause-whole
returns-clause-whole _ = added

pub returns-clause-opened : Rattle.iso_image.proofs.laws.records_are_told_once_their_gate_opens.Goals.returns-clause-opened
returns-clause-opened _ = added_by_gate
