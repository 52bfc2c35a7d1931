use Rattle.par_lines.proofs.Words.{◌≡◌, drop, list_any, wants}

abbrev pub invariant-loop-part : Rattle.par_lines.proofs.par.any_wanted.Given.invariant-loop-part
invariant-loop-part l = list_any (λ p. wants p.stop) l.parts ≡ list_any (λ p. wants p.stop) (drop l.part-index l.parts)
