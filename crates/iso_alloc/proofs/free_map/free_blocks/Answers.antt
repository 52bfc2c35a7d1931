use Rattle.iso_alloc.proofs.{Words.{◌≡◌, ◌∙◌, sym, ap, ◌+◌, cond, Bool, arith, map_bit}, Loops.count_run, free_map.free_blocks.Goals.{then-not-is_taken, else-not-is_taken}}
use Rattle.iso_alloc.proofs.free_map.free_blocks.Goals as goal

pub loop-block-preserved : goal.loop-block-preserved
loop-block-preserved c =
    let run = c.run_length-run.result in
    let here : c.if-not-is_taken.count ≡ c.loop-block.count + cond (map_bit c.args.map.now c.loop-block.block) 0 run =
    elim c.if-not-is_taken.branch [
      | then-not-is_taken w ↦ w.count-is ∙ sym (ap (λ (t : Bool). c.loop-block.count + cond t 0 run) (sym c.is_taken.ensures ∙ w.if-not-is_taken.true))
      | else-not-is_taken w ↦ w.count-is ∙ sym (ap (λ (t : Bool). c.loop-block.count + cond t 0 run) (sym c.is_taken.ensures ∙ w.if-not-is_taken.false) ∙ omega arith)
    ] in
    record {
      counted = count_run c.args.map.now c.loop-block.block run c.args.region.size c.loop-block.count c.if-not-is_taken.count _ (map_bit c.args.map.now c.loop-block.block) c.run_length-run.ensures.within c.loop-block.invariant.counted c.run_length-run.ensures.same here;
      few = elim c.if-not-is_taken.branch [ then-not-is_taken w ↦ omega (arith, w.count-is, c.loop-block.invariant.few) | else-not-is_taken w ↦ omega (arith, w.count-is, c.loop-block.invariant.few) ];
      high = c.run_length-run.ensures.within;
    }
