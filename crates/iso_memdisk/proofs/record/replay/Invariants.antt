use Rattle.iso_memdisk.proofs.Words.{◌≡◌, drop, written}

-- what is left makes of the image what all make of the first one
abbrev pub invariant-loop-call : Rattle.iso_memdisk.proofs.record.replay.Given.invariant-loop-call
invariant-loop-call l = written (drop l.call-index l.calls) l.image ≡ written l.calls l.initial.image
