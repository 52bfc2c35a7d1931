abbrev pub ghosts-clash_in : Rattle.iso_core.proofs.judge.judge.Given.ghosts-clash_in
ghosts-clash_in a = record { name = a.blank.name; parts = a.blank.parts }
