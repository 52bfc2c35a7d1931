use Rattle.par_lines.proofs.{Words.{◌+◌, ◌||◌, ap, arith, drop, sym, ◌∙◌, list_any, stopped}, Dealing.{any_next, none_left}}

pub loop-part-preserved : Rattle.par_lines.proofs.par.any_stopped.Goals.loop-part-preserved
loop-part-preserved c =
    c.loop-part.invariant ∙ any_next (λ p. stopped p.stop) c.args.parts.now c.loop-part.part-index c.part-item.result c.loop-part-test.true c.part-item.is
    ∙ ap (λ b. b || list_any (λ p. stopped p.stop) (drop (c.loop-part.part-index + 1) c.args.parts.now)) (sym c.if-has_stopped.ensures)

pub returns-then-has_stopped : Rattle.par_lines.proofs.par.any_stopped.Goals.returns-then-has_stopped
returns-then-has_stopped c =
    sym (c.loop-part.invariant ∙ any_next (λ p. stopped p.stop) c.args.parts.now c.loop-part.part-index c.part-item.result c.loop-part-test.true c.part-item.is
    ∙ ap (λ b. b || list_any (λ p. stopped p.stop) (drop (c.loop-part.part-index + 1) c.args.parts.now)) (sym c.if-has_stopped.ensures))

pub returns : Rattle.par_lines.proofs.par.any_stopped.Goals.returns
returns c = sym (c.loop-part.invariant ∙ none_left (λ p. stopped p.stop) c.loop-part.part-index c.args.parts.now (omega (arith, c.loop-part-test.false)))
