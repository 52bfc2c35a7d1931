use Rattle.par_lines.proofs.Words.{◌≡◌, drop, list_any, stopped}

abbrev pub invariant-loop-part : Rattle.par_lines.proofs.par.any_stopped.Given.invariant-loop-part
invariant-loop-part l = list_any (λ p. stopped p.stop) l.parts ≡ list_any (λ p. stopped p.stop) (drop l.part-index l.parts)
