-- The gate of the half that is not the current one, as it opens over what the half was filled with.
use Rattle.iso_image.proofs.{Words.{◌≡◌, ◌⊎◌, inl, inr, ◌<◌, ◌≤◌, ◌+◌, ◌-◌, ℕ, zero, suc, List, ◌∷◌, length, take, drop, get_or, refl, sym, ◌∙◌, ap, arith, eq-eqb, cases_eq, drop_more, Geometry, image_size, half_size, header_place, base_place, log_place, blocks_of, half_header, superblock, Torn, take-torn, drop-torn, IsOpen, Half, IsHeld, IsFilled, in_form, InHalf, MaySwitch}, Others.{both_open, beside_closed, still_open, still_generation, told_generation}}

super_form : (g : Geometry) (form : ℕ) → superblock 1 (in_form form g) ≡ superblock 1 g
unfolding superblock
super_form g form = refl

header_tail : (form generation base : ℕ) → half_header 1 form generation base ≡ 1 ∷ take 31 (drop 1 (half_header 1 form generation base))
unfolding half_header
header_tail form generation base = refl

pub end_inside : (g : Geometry) (half other : ℕ) → half + other ≡ 1 → header_place g other + half_size g ≤ image_size g
end_inside g zero zero both = absurd (omega arith)
end_inside g zero (suc zero) both = omega arith
end_inside g (suc zero) zero both = omega arith
end_inside g zero (suc (suc other)) both = absurd (omega arith)
end_inside g (suc zero) (suc other) both = absurd (omega arith)
end_inside g (suc (suc half)) other both = absurd (omega arith)

-- a gate byte of a half changes the half alone
pub at_gate : (g : Geometry) (other : ℕ) (old new : List ℕ) → Torn (header_place g other) 1 old new → InHalf g other old new
at_gate g other old new torn = record { from = header_place g other; count = 1; starts = omega arith; ends = omega arith; torn = torn }

-- Once its gate is open the image holds the half that was filled.
pub switched : (g : Geometry) (form : ℕ) (x y : Half) (old new : List ℕ) → MaySwitch g form x y → IsHeld g x old → IsFilled (in_form form g) y old
    → Torn (header_place g y.at) 1 old new → IsOpen (header_place g y.at) new → IsHeld (in_form form g) y new
switched g form x y old new may has filled torn opened =
    let long : header_place g y.at < length new = omega (arith, torn.size, has.image.size, end_inside g x.at y.at may.both) in
    let behind : (k : ℕ) → header_place g y.at + 1 ≤ k → drop k new ≡ drop k old = drop-torn torn in
    let tail : take 31 (drop (header_place g y.at + 1) new) ≡ take 31 (drop 1 (half_header 1 form y.generation y.base)) =
    ap (take 31) (behind (header_place g y.at + 1) (omega arith)) ∙ filled.header in
    let header : take 32 (drop (header_place g y.at) new) ≡ half_header 1 form y.generation y.base =
    ap (take 32) (drop_more new (header_place g y.at) 0 long) ∙ (λ i. opened i ∷ tail i) ∙ sym (header_tail form y.generation y.base) in
    let change = at_gate g y.at old new torn in
    let older = still_generation g x y.at old new may.both has change in
    let newer = told_generation (header_place g y.at) form y.generation y.base new may.generation header in
    let small = may.numbers in
    let less = may.later in
    let minus : y.base + 1 - 1 ≡ y.base = omega arith in
    let (gate, rest, not, is) = filled.log in
    record {
      image = record {
        super = take-torn torn 64 (omega arith) ∙ has.image.super ∙ sym (super_form g form);
        valid = may.valid;
        size = torn.size ∙ has.image.size;
        half = y.at;
        current = both_open x.at y.at may.both g new (still_open g x y.at old new may.both has change) (eq-eqb _ 1 opened) (omega (arith, older, newer, less));
        header = header ∙ ap (half_header 1 form y.generation) (sym minus);
        first = omega arith;
        generation_bound = may.generation;
        base_bound = omega (arith, small);
        base = filled.array ∙ ap (blocks_of g.block g.blocks) (sym (behind (base_place g y.at) (omega arith)));
        told = y.told;
        each = may.each;
        last = omega (arith, small);
        commits = refl;
        log = (gate, rest, not, ap (take g.log) (behind (log_place g y.at) (omega arith)) ∙ is);
      };
      at_is = refl;
      told_is = refl;
    }

-- While the gate is written the image holds the one half or the other.
pub switching : (g : Geometry) (form : ℕ) (x y : Half) (old new : List ℕ) → MaySwitch g form x y → IsHeld g x old → IsFilled (in_form form g) y old
    → Torn (header_place g y.at) 1 old new → IsHeld g x new ⊎ IsHeld (in_form form g) y new
switching g form x y old new may has filled torn = elim (cases_eq (get_or new (header_place g y.at) 0) 1) [
  | inl is ↦ inr (switched g form x y old new may has filled torn is)
  | inr not ↦ inl (beside_closed g x y.at old new may.both has (at_gate g y.at old new torn) not)
]
