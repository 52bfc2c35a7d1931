use Rattle.iso_alloc.proofs.{Words.{inl, inr, arith}, Bits.bits_alike, free_map.run_length.Goals.{else-byte-ne0-via-then-byte-ne0+else-byte, else-byte-ne0-via-else-byte-ne0}}

pub returns-clause-same : Rattle.iso_alloc.proofs.free_map.run_length.Goals.returns-clause-same
returns-clause-same c = λ k low high. bits_alike c.args.map.now c.args.block k (elim c.else-byte-ne0.branch [
  | else-byte-ne0-via-then-byte-ne0+else-byte w ↦ inr (omega (arith, w.if-byte))
  | else-byte-ne0-via-else-byte-ne0 w ↦ inl (omega (arith, w.if-byte-ne0))
]) low high
