-- The ledger is the new one.

abbrev pub ghosts-end_whole : Rattle.device_desk.proofs.table.Table.end.Given.ghosts-end_whole
ghosts-end_whole g a = record { name = a.blank.name; parts = a.blank.parts }
