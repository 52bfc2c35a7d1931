use Rattle.par_lines.proofs.{Words.{◌+◌, ◌||◌, ap, arith, drop, sym, ◌∙◌, list_any, wants}, Dealing.{any_next, none_left}}

pub loop-part-preserved : Rattle.par_lines.proofs.par.any_wanted.Goals.loop-part-preserved
loop-part-preserved c =
    c.loop-part.invariant ∙ any_next (λ p. wants p.stop) c.args.parts.now c.loop-part.part-index c.part-item.result c.loop-part-test.true c.part-item.is
    ∙ ap (λ b. b || list_any (λ p. wants p.stop) (drop (c.loop-part.part-index + 1) c.args.parts.now)) (sym c.if-wanted_memory.ensures)

pub returns-then-wanted_memory : Rattle.par_lines.proofs.par.any_wanted.Goals.returns-then-wanted_memory
returns-then-wanted_memory c =
    sym (c.loop-part.invariant ∙ any_next (λ p. wants p.stop) c.args.parts.now c.loop-part.part-index c.part-item.result c.loop-part-test.true c.part-item.is
    ∙ ap (λ b. b || list_any (λ p. wants p.stop) (drop (c.loop-part.part-index + 1) c.args.parts.now)) (sym c.if-wanted_memory.ensures))

pub returns : Rattle.par_lines.proofs.par.any_wanted.Goals.returns
returns c = sym (c.loop-part.invariant ∙ none_left (λ p. wants p.stop) c.loop-part.part-index c.args.parts.now (omega (arith, c.loop-part-test.false)))
