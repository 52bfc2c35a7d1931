use Rattle.iso_memdisk.proofs.Steps.{IsStable}

abbrev pub invariant-loop-i : Rattle.iso_memdisk.proofs.record.stable_calls.Given.invariant-loop-i
invariant-loop-i l = IsStable l.calls l.i l.stable
