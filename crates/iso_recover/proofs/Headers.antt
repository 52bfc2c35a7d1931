-- The headers of both halves, as they are read and as they stand in an image.
use Rattle.iso_recover.proofs.Words.{◌≡◌, ◌⊎◌, inl, inr, ◌<◌, ◌≤◌, ◌+◌, ◌==◌, ℕ, zero, suc, List, length, take, drop, get_or, not, nat_lt, Bool, true, false, cond, Option, Some, None, option_map, IsTrue, refl, ◌∙◌, ap, arith, subst, from_be_bytes, w64, get_or-take, get_or-drop, drop-take, take-take, drop-drop, length-take, eqb-true, position-Some, same_Some, none-some, Geometry, or_else, header_place, is_valid, chosen_half, current_half, generation_at, is_open_at, AreBytes, first_not_zero, half_of, unclean_place, header_at, header_refusal, unrefused_header, valid_form, IsSaid, chosen_by, front_said, header_of}

-- ---- one header

mapped_below : (at n i : ℕ) (o : Option ℕ) → ((j : ℕ) → o ≡ Some j → j < n) → option_map (λ j. at + j) o ≡ Some i → i < at + n
mapped_below at n i None below e = absurd (none-some i e)
mapped_below at n i (Some j) below e =
    let same = same_Some (at + j) i e in
    let inside : j < n = below j refl in
    omega (arith, same, inside)

first_below : (at n i : ℕ) (bytes : List ℕ) → first_not_zero at n bytes ≡ Some i → i < at + n
first_below at n i bytes e =
    mapped_below at n i _ (λ j found.
    let inside = (position-Some (λ b. not (b == 0)) (take n (drop at bytes)) j 0 found).0 in
    omega (arith, inside, length-take n (drop at bytes))) e

either_is : (x y : Option ℕ) (i : ℕ) → or_else x y ≡ Some i → (x ≡ Some i) ⊎ (y ≡ Some i)
either_is None y i e = inr e
either_is (Some x) y i e = inl e

-- a byte that is to be zero lies in the header
pub unclean_below : (bytes : List ℕ) (i : ℕ) → unclean_place bytes ≡ Some i → i < 32
unclean_below bytes i e = elim (either_is (first_not_zero 2 6 bytes) (first_not_zero 24 8 bytes) i e) [
  | inl front ↦ let below = first_below 2 6 i bytes front in omega (arith, below)
  | inr back ↦ let below = first_below 24 8 i bytes back in omega (arith, below)
]

-- what an open header says that passes each test
pub said_is : (g : Geometry) (half : ℕ) (header : List ℕ) → IsTrue (is_valid g) → AreBytes header → length header ≡ 32 → (half_of header).gate ≡ 1
    → header_refusal (header_place g half) header ≡ None → IsSaid g half header (front_said g half header)
said_is g half header valid values size opens passes =
    let is = unrefused_header (header_place g half) header values size opens passes in
    record {
      passes = passes;
      front_is = refl;
      valid = valid_form g (half_of header).form valid is.form;
      generation = is.generation;
      base = is.base;
      spelled = is.spelling;
    }

-- ---- the half that two headers choose

-- it is one of two, and its gate is open
pub record IsChosen (first second : List ℕ) (half : ℕ) : Type 0 where
  pub least : half ≤ 1
  pub opens : (half_of (header_of half first second)).gate ≡ 1

which : (first second : List ℕ) (larger : Bool) (half : ℕ) → (half_of first).gate ≡ 1 → (half_of second).gate ≡ 1 → cond larger 1 0 ≡ half → IsChosen first second half
which first second true half one two e = subst (IsChosen first second) e (record { least = omega arith; opens = two })
which first second false half one two e = subst (IsChosen first second) e (record { least = omega arith; opens = one })

chosen_from : (first second : List ℕ) (a b : Bool) (m n half : ℕ) → ((half_of first).gate == 1) ≡ a → ((half_of second).gate == 1) ≡ b
    → chosen_half a m b n ≡ Some half → IsChosen first second half
chosen_from first second true true m n half one two e =
    which first second (nat_lt m n) half (eqb-true _ 1 one) (eqb-true _ 1 two) (same_Some (cond (nat_lt m n) 1 0) half e)
chosen_from first second true false m n half one two e = subst (IsChosen first second) (same_Some 0 half e) (record { least = omega arith; opens = eqb-true _ 1 one })
chosen_from first second false true m n half one two e = subst (IsChosen first second) (same_Some 1 half e) (record { least = omega arith; opens = eqb-true _ 1 two })
chosen_from first second false false m n half one two e = absurd (none-some half e)

pub chosen_is : (first second : List ℕ) (half : ℕ) → chosen_by first second ≡ Some half → IsChosen first second half
chosen_is first second half e = chosen_from first second ((half_of first).gate == 1) ((half_of second).gate == 1) (half_of first).generation (half_of second).generation half refl refl e

-- ---- the headers that stand in an image

gate_of : (header : List ℕ) → (half_of header).gate ≡ get_or header 0 0
unfolding half_of
gate_of header = refl

generation_of : (header : List ℕ) → (half_of header).generation ≡ from_be_bytes w64 (take 8 (drop 8 header))
unfolding half_of
generation_of header = refl

-- the gate and the generation of a half
module _ (g : Geometry) (half : ℕ) (c : List ℕ) where
  gate_there : ((half_of (header_at g half c)).gate == 1) ≡ is_open_at c (header_place g half)
  gate_there =
      let there : header_place g half + 0 ≡ header_place g half = omega arith in
      ap (λ (b : ℕ). b == 1)
      (gate_of (header_at g half c) ∙ get_or-take 32 (drop (header_place g half) c) 0 0 (omega arith) ∙ get_or-drop (header_place g half) c 0 0
      ∙ ap (λ (n : ℕ). get_or c n 0) there)

  generation_there : (half_of (header_at g half c)).generation ≡ generation_at c (header_place g half)
  generation_there =
      generation_of (header_at g half c)
      ∙ ap (from_be_bytes w64)
      (ap (take 8) (drop-take 8 24 (drop (header_place g half) c)) ∙ take-take 8 24 (drop 8 (drop (header_place g half) c)) (omega arith)
      ∙ ap (take 8) (drop-drop 8 (header_place g half) c))

-- they choose its current half
pub current_is : (g : Geometry) (c : List ℕ) → chosen_by (header_at g 0 c) (header_at g 1 c) ≡ current_half g c
current_is g c = λ i. chosen_half (gate_there g 0 c i) (generation_there g 0 c i) (gate_there g 1 c i) (generation_there g 1 c i)

pub header_there : (g : Geometry) (half : ℕ) (c : List ℕ) → half ≤ 1 → header_of half (header_at g 0 c) (header_at g 1 c) ≡ header_at g half c
header_there g zero c le = refl
header_there g (suc zero) c le = refl
header_there g (suc (suc half)) c le = absurd (omega arith)
