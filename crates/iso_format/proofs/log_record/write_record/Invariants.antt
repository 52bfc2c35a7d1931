use Rattle.iso_format.proofs.Words.{◌≡◌, [], take}

abbrev pub invariant-loop-run : Rattle.iso_format.proofs.log_record.write_record.Given.invariant-loop-run
invariant-loop-run l = l.buffer ≡ record { records = []; parts = take l.run-index l.run-items }
