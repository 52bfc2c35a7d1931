-- The ledger is the new one.

abbrev pub ghosts-end_with : Rattle.committer.proofs.ends.end_alone.Given.ghosts-end_with
ghosts-end_with g a = record { name = a.blank.name; parts = a.blank.parts }
