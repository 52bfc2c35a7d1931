-- Each of the 64 places has the bit of its lane.
use Rattle.merge_write.proofs.{Words.{refl, ◌∙◌, ap, ℕ, ◌+◌, cond, get_or, eqb, bit_at, bit_at-zero}, Bits.all_ones, Chosen.lanes_of_word}
use Rattle.merge_write.proofs.lanes.lay_word.Goals as goal

pub returns : goal.returns
returns c =
    let at = c.args.at in
    let values = c.args.values.now in
    let into = c.args.into.now in
    let r = c.to_le_bytes-masks.result in
    record {
      lanes = λ k below.
          c.lay_lanes.ensures.lanes k below
          ∙ ap (λ (b : ℕ). cond (eqb b 1) (get_or values (at + k) 0) (get_or into (at + k) 0)) (lanes_of_word c.args.mask k r c.to_le_bytes-masks.ensures below);
      before = c.lay_lanes.ensures.before;
      behind = c.lay_lanes.ensures.behind;
    }

pub returns-then-mask-eq18446744073709551615 : goal.returns-then-mask-eq18446744073709551615
returns-then-mask-eq18446744073709551615 c = record {
  lanes = λ k below. rw (ap (λ (n : ℕ). eqb (bit_at n k) 1) c.if-mask-eq18446744073709551615.true ∙ all_ones k below) (c.lay_whole.ensures.lanes k below);
  before = c.lay_whole.ensures.before;
  behind = c.lay_whole.ensures.behind;
}

pub returns-then-mask-eq0 : goal.returns-then-mask-eq0
returns-then-mask-eq0 c = record {
  lanes = λ k below. rw (c.if-mask-eq0.true, bit_at-zero k) refl;
  before = λ k below. refl;
  behind = λ k past. refl;
}
