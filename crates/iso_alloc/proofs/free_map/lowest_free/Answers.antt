use Rattle.iso_alloc.proofs.{Words.{◌∙◌, sym, ap, not, map_bit, arith}, Loops.{first_found, first_run}}
use Rattle.iso_alloc.proofs.free_map.lowest_free.Goals as goal

pub returns-then-not-is_taken-clause-value : goal.returns-then-not-is_taken-clause-value
returns-then-not-is_taken-clause-value c =
    sym (first_found (λ k. not (map_bit c.args.map.now k)) c.loop-block.block c.args.region.size _ c.loop-block-test.true c.loop-block.invariant.left (ap not (sym c.is_taken.ensures ∙ c.if-not-is_taken.true)))

pub loop-block-preserved : goal.loop-block-preserved
loop-block-preserved c = record {
  left = first_run (λ k. not (map_bit c.args.map.now k)) c.loop-block.block c.run_length-block.result c.args.region.size _ c.run_length-block.ensures.within c.loop-block.invariant.left
      (λ k low high. ap not (c.run_length-block.ensures.same k low high ∙ sym c.is_taken.ensures ∙ c.if-not-is_taken.false));
  low = omega (arith, c.loop-block.invariant.low);
  high = c.run_length-block.ensures.within;
}
