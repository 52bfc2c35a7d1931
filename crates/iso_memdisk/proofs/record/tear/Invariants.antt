use Rattle.iso_memdisk.proofs.Steps.{IsTornSoFar}

abbrev pub invariant-loop-call : Rattle.iso_memdisk.proofs.record.tear.Given.invariant-loop-call
invariant-loop-call l = IsTornSoFar l.calls l.initial.image l.pick l.call-index l.image
