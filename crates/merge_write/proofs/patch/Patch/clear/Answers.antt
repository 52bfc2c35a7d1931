-- Masks that are all zero set no byte.
use Rattle.merge_write.proofs.{Words.{◌≡◌, ◌∙◌, ℕ, ap, sym, arith, length, get_or, replicate, None, inl, inr, cases_lt, get_or_past}, Values.{cleared_values, length-values_from}}

pub returns : Rattle.merge_write.proofs.patch.Patch.clear.Goals.returns
returns c =
    let masks = c.loop-at.self-inside.masks.items in
    let bytes = c.loop-at.self-inside.bytes.items in
    let zeros : (k : ℕ) → get_or masks k 0 ≡ 0 = λ k. elim (cases_lt k c.loop-at.at) [
      | inl lt ↦ c.loop-at.invariant.zero k lt
      | inr le ↦ get_or_past masks k 0 (omega (arith, c.loop-at.invariant.len))
    ] in
    let e : length c.args.self.now ≡ length c.self.inside.bytes.items =
    ap length (sym c.self.view_is) ∙ length-values_from c.self.inside.masks.items 0 c.self.inside.bytes.items in
    let same : length bytes ≡ length c.self.inside.bytes.items = ap (length {A = ℕ}) c.loop-at.invariant.bytes in
    cleared_values masks 0 bytes zeros ∙ ap (λ (n : ℕ). replicate n None) (same ∙ sym e)
