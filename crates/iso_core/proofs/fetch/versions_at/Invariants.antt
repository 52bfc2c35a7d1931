-- The ledger is the new one.

abbrev pub ghosts-versions_upto : Rattle.iso_core.proofs.fetch.versions_at.Given.ghosts-versions_upto
ghosts-versions_upto a = record { name = a.blank.name; parts = a.blank.parts }
