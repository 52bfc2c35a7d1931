use Rattle.iso_alloc.proofs.{Words.{◌∙◌, sym, ◌==◌, ◌||◌, is_unused, is_alone}, Loops.{all_fails, all_goes_on}}

pub returns-then-not-is_idle : Rattle.iso_alloc.proofs.search.is_alone.Goals.returns-then-not-is_idle
returns-then-not-is_idle c =
    sym (all_fails (λ i. (i == c.args.cell) || is_unused c.args.keys.now i) c.loop-other.other c.cell_count-other-end.result (is_alone c.args.size c.args.keys.now c.args.cell) c.loop-other-test.true c.loop-other.invariant (sym c.is_idle.ensures ∙ c.if-not-is_idle.true))

pub loop-other-preserved : Rattle.iso_alloc.proofs.search.is_alone.Goals.loop-other-preserved
loop-other-preserved c =
    all_goes_on (λ i. (i == c.args.cell) || is_unused c.args.keys.now i) c.loop-other.other c.cell_count-other-end.result (is_alone c.args.size c.args.keys.now c.args.cell) c.loop-other-test.true c.loop-other.invariant (sym c.is_idle.ensures ∙ c.if-not-is_idle.false)
