use Rattle.iso_format.proofs.Words.{◌≡◌, ◌-◌, ◌^◌, min, take, body_length}

abbrev pub invariant-loop-run : Rattle.iso_format.proofs.log_record.body_length.Given.invariant-loop-run
invariant-loop-run l = l.total ≡ min (body_length (take l.run-index l.parts)) (2 ^ 64 - 1)
