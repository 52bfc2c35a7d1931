-- The ledger is the new one.

abbrev pub ghosts-bytes_of_a_counter : Rattle.disk_tests.proofs.count_tests.a_counter_runs_and_takes_no_bytes.Given.ghosts-bytes_of_a_counter
ghosts-bytes_of_a_counter g a = record { name = a.blank.name; parts = a.blank.parts }
