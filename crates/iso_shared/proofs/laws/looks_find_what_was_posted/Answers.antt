use Rattle.iso_shared.proofs.PostsBefore.{look_was_posted}

pub returns : Rattle.iso_shared.proofs.laws.looks_find_what_was_posted.Goals.returns
returns c = look_was_posted
