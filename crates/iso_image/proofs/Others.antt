-- An image whose bytes change in the half that is not the current one.
use Rattle.iso_image.proofs.{Words.{◌≡◌, ◌⊎◌, inl, inr, ◌<◌, ◌≤◌, ◌+◌, ◌-◌, ℕ, zero, suc, List, take, drop, get_or, Bool, true, false, Some, refl, sym, ◌∙◌, ap, arith, subst, eq-eqb, ne_eqb, from_be_bytes, to_be_bytes, w64, cases_eq, drop-drop, drop-take, take-take, get_or-take, get_or-drop, from_be_bytes-to_be_bytes_8, Geometry, LAST, half_size, header_place, base_place, log_place, IsLog, blocks_of, chosen_half, current_half, generation_at, half_header, is_open_at, Torn, slice-torn, get_or-torn, take-torn, IsClosed, IsOpen, Half, IsHeld, InHalf}, Frames.blocks_same}

-- what is in the one half is outside the other
pub apart : (g : Geometry) (half other at n i len : ℕ) → half + other ≡ 1 → header_place g other ≤ at → at + n ≤ header_place g other + half_size g
    → header_place g half ≤ i → i + len ≤ header_place g half + half_size g → (i + len ≤ at) ⊎ (at + n ≤ i)
apart g zero zero at n i len both from to start end = absurd (omega arith)
apart g zero (suc zero) at n i len both from to start end = inl (omega arith)
apart g (suc zero) zero at n i len both from to start end = inr (omega arith)
apart g zero (suc (suc other)) at n i len both from to start end = absurd (omega arith)
apart g (suc zero) (suc other) at n i len both from to start end = absurd (omega arith)
apart g (suc (suc half)) other at n i len both from to start end = absurd (omega arith)

pub header_gate : (form generation base : ℕ) → get_or (half_header 1 form generation base) 0 0 ≡ 1
unfolding half_header
header_gate form generation base = refl

-- the half with the open gate is the current one
one_open : (half other : ℕ) → half + other ≡ 1 → (g : Geometry) (c : List ℕ) → is_open_at c (header_place g half) ≡ true → is_open_at c (header_place g other) ≡ false → current_half g c ≡ Some half
one_open zero zero both g c is shut = absurd (omega arith)
one_open zero (suc zero) both g c is shut = λ i. chosen_half (is i) (generation_at c (header_place g 0)) (shut i) (generation_at c (header_place g 1))
one_open (suc zero) zero both g c is shut = λ i. chosen_half (shut i) (generation_at c (header_place g 0)) (is i) (generation_at c (header_place g 1))
one_open zero (suc (suc other)) both g c is shut = absurd (omega arith)
one_open (suc zero) (suc other) both g c is shut = absurd (omega arith)
one_open (suc (suc half)) other both g c is shut = absurd (omega arith)

header_number : (form generation base : ℕ) → take 8 (drop 8 (half_header 1 form generation base)) ≡ to_be_bytes w64 generation
unfolding half_header
header_number form generation base = refl

-- the generation that a header tells
pub told_generation : (at form generation base : ℕ) (c : List ℕ) → generation ≤ LAST → take 32 (drop at c) ≡ half_header 1 form generation base → generation_at c at ≡ generation
told_generation at form generation base c small header =
    ap (from_be_bytes w64) (sym (ap (take 8) (drop-take 8 24 (drop at c)) ∙ take-take 8 24 (drop 8 (drop at c)) (omega arith) ∙ ap (take 8) (drop-drop 8 at c))
    ∙ ap (λ (l : List ℕ). take 8 (drop 8 l)) header ∙ header_number form generation base)
    ∙ from_be_bytes-to_be_bytes_8 generation (omega arith)

-- of two open halves the one with the larger generation is chosen
pub both_open : (half other : ℕ) → half + other ≡ 1 → (g : Geometry) (c : List ℕ) → is_open_at c (header_place g half) ≡ true → is_open_at c (header_place g other) ≡ true
    → generation_at c (header_place g half) < generation_at c (header_place g other) → current_half g c ≡ Some other
both_open zero zero both g c one two less = absurd (omega arith)
both_open zero (suc zero) both g c one two less = grind arith
both_open (suc zero) zero both g c one two less = grind arith
both_open zero (suc (suc other)) both g c one two less = absurd (omega arith)
both_open (suc zero) (suc other) both g c one two less = absurd (omega arith)
both_open (suc (suc half)) other both g c one two less = absurd (omega arith)

-- the header of the half that holds
pub held_header : (g : Geometry) (x : Half) (c : List ℕ) → IsHeld g x c → take 32 (drop (header_place g x.at) c) ≡ half_header 1 g.form x.generation x.base
held_header g x c has = grind arith

-- its gate
pub gate_open : (g : Geometry) (x : Half) (c : List ℕ) → IsHeld g x c → get_or c (header_place g x.at) 0 ≡ 1
gate_open g x c has =
    let start : header_place g x.at + 0 ≡ header_place g x.at = omega arith in
    ap (λ (m : ℕ). get_or c m 0) (sym start) ∙ sym (get_or-drop (header_place g x.at) c 0 0) ∙ sym (get_or-take 32 (drop (header_place g x.at) c) 0 0 (omega arith))
    ∙ ap (λ (l : List ℕ). get_or l 0 0) (held_header g x c has) ∙ header_gate g.form x.generation x.base

-- The image holds what it held, where its half is the current one still.
pub beside : (g : Geometry) (x : Half) (other : ℕ) (old new : List ℕ) → x.at + other ≡ 1 → IsHeld g x old → InHalf g other old new → current_half g new ≡ Some x.at → IsHeld g x new
beside g x other old new both has change current =
    let half : ℕ = x.at in
    let is : has.image.half ≡ half = has.at_is in
    let at = change.from in
    let from = change.starts in
    let torn = change.torn in
    let slice : (i len : ℕ) → header_place g x.at ≤ i → i + len ≤ header_place g x.at + half_size g → take len (drop i new) ≡ take len (drop i old) = λ i len start end.
    slice-torn torn i len (apart g x.at other change.from change.count i len both change.starts change.ends start end) in
    let header : take 32 (drop (header_place g x.at) new) ≡ half_header 1 g.form x.generation (x.base + 1 - 1) =
    slice (header_place g x.at) 32 (omega arith) (omega arith) ∙ subst (λ (k : ℕ). take 32 (drop (header_place g k) old) ≡ half_header 1 g.form x.generation (x.base + 1 - 1)) is has.image.header in
    record {
      image = record {
        super = take-torn torn 64 (omega arith) ∙ has.image.super;
        valid = has.image.valid;
        size = torn.size ∙ has.image.size;
        half = x.at;
        current = current;
        header = header;
        first = has.image.first;
        generation_bound = has.image.generation_bound;
        base_bound = has.image.base_bound;
        base = subst (λ (k : ℕ). x.array ≡ blocks_of g.block g.blocks (drop (base_place g k) old)) is has.image.base
            ∙ sym (blocks_same g.block g.blocks (drop (base_place g x.at) new) (drop (base_place g x.at) old) (λ i len fits.
            ap (take len) (drop-drop i (base_place g x.at) new) ∙ slice (base_place g x.at + i) len (omega arith) (omega arith) ∙ ap (take len) (sym (drop-drop i (base_place g x.at) old))));
        told = has.image.told;
        each = has.image.each;
        last = has.image.last;
        commits = has.image.commits;
        log = subst (λ (l : List ℕ). IsLog g (x.base + 1) has.image.told l) (sym (slice (log_place g x.at) g.log (omega arith) (omega arith)))
            (subst (λ (k : ℕ). IsLog g (x.base + 1) has.image.told (take g.log (drop (log_place g k) old))) is has.image.log);
      };
      at_is = refl;
      told_is = has.told_is;
    }

-- the header of the half that holds stays
module _ (g : Geometry) (x : Half) (other : ℕ) (old new : List ℕ) (both : x.at + other ≡ 1) (has : IsHeld g x old) (change : InHalf g other old new) where
  pub still_open : is_open_at new (header_place g x.at) ≡ true
  still_open =
      let outside = apart g x.at other change.from change.count (header_place g x.at) 1 both change.starts change.ends (omega arith) (omega arith) in
      eq-eqb _ 1 (get_or-torn change.torn (header_place g x.at) 0 (elim outside [ inl below ↦ inl (omega arith) | inr behind ↦ inr behind ]) ∙ gate_open g x old has)

  pub still_generation : generation_at new (header_place g x.at) ≡ x.generation
  still_generation =
      told_generation (header_place g x.at) g.form x.generation x.base new has.image.generation_bound
      (slice-torn change.torn (header_place g x.at) 32 (apart g x.at other change.from change.count (header_place g x.at) 32 both change.starts change.ends (omega arith) (omega arith))
      ∙ held_header g x old has)

-- The image holds what it held, where the gate of the other half is closed.
pub beside_closed : (g : Geometry) (x : Half) (other : ℕ) (old new : List ℕ) → x.at + other ≡ 1 → IsHeld g x old → InHalf g other old new → IsClosed (header_place g other) new → IsHeld g x new
beside_closed g x other old new both has change closed =
    beside g x other old new both has change (one_open x.at other both g new (still_open g x other old new both has change) (ne_eqb _ 1 closed))

-- The image holds what it held, where the other half has a lower generation.
pub beside_older : (g : Geometry) (x : Half) (other : ℕ) (old new : List ℕ) → x.at + other ≡ 1 → IsHeld g x old → InHalf g other old new
    → generation_at new (header_place g other) < x.generation → IsHeld g x new
beside_older g x other old new both has change older = elim (cases_eq (get_or new (header_place g other) 0) 1) [
  | inl is ↦
      let same = still_generation g x other old new both has change in
      let turned : other + x.at ≡ 1 = omega (arith, both) in
      beside g x other old new both has change (both_open other x.at turned g new (eq-eqb _ 1 is) (still_open g x other old new both has change) (omega (arith, older, same)))
  | inr not ↦ beside_closed g x other old new both has change not
]

-- where both gates are open, the half that is chosen stays so whatever becomes of the other gate
first_stays : (m n : ℕ) (t : Bool) → chosen_half true m true n ≡ Some 0 → chosen_half true m t n ≡ Some 0
first_stays m n true chosen = chosen
first_stays m n false chosen = refl

second_stays : (m n : ℕ) (t : Bool) → chosen_half true m true n ≡ Some 1 → chosen_half t m true n ≡ Some 1
second_stays m n true chosen = chosen
second_stays m n false chosen = refl

module _ (g : Geometry) (other : ℕ) {old new : List ℕ} (torn : Torn (header_place g other) 1 old new) where
  generation_stays : (k : ℕ) → (header_place g k + 16 ≤ header_place g other) ⊎ (header_place g other + 1 ≤ header_place g k + 8) → generation_at new (header_place g k) ≡ generation_at old (header_place g k)
  generation_stays k beside = ap (from_be_bytes w64) (slice-torn torn (header_place g k + 8) 8 (elim beside [ inl below ↦ inl (omega arith) | inr behind ↦ inr behind ]))

stays : (half other : ℕ) → half + other ≡ 1 → (g : Geometry) (old new : List ℕ) → Torn (header_place g other) 1 old new → current_half g old ≡ Some half
    → is_open_at old (header_place g half) ≡ true → is_open_at old (header_place g other) ≡ true → current_half g new ≡ Some half
stays zero zero both g old new torn current is shut = absurd (omega arith)
stays zero (suc zero) both g old new torn current is open_too = grind (arith, get_or-torn, generation_stays, first_stays)
stays (suc zero) zero both g old new torn current is open_too = grind (arith, get_or-torn, generation_stays, second_stays)
stays zero (suc (suc other)) both g old new torn current is open_too = absurd (omega arith)
stays (suc zero) (suc other) both g old new torn current is open_too = absurd (omega arith)
stays (suc (suc half)) other both g old new torn current is open_too = absurd (omega arith)

-- An open gate of the other half is shut: whatever is there meanwhile, the image holds what it held.
pub beside_shut : (g : Geometry) (x : Half) (other : ℕ) (old new : List ℕ) → x.at + other ≡ 1 → IsHeld g x old → IsOpen (header_place g other) old → Torn (header_place g other) 1 old new → IsHeld g x new
beside_shut g x other old new both has is_open torn =
    beside g x other old new both has (record { from = header_place g other; count = 1; starts = omega arith; ends = omega arith; torn = torn })
    (stays x.at other both g old new torn (has.image.current ∙ ap Some has.at_is) (eq-eqb _ 1 (gate_open g x old has)) (eq-eqb _ 1 is_open))
