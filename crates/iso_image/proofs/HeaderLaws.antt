-- A header that passes each test is spelled, and what is spelled passes them; so for the form and the current half.
use Rattle.iso_image.proofs.{RefusalWords.{◌≡◌, ◌∙◌, refl, ap, ℕ, zero, suc, ◌+◌, ◌≤◌, ◌==◌, ◌||◌, nat_lt, nat_le, Bool, true, false, cond, List, Option, Some, None, IsTrue, length, get_or, drop, option_map, arith, le-ltb, eqb-true, and_parts, and_from, get_or-drop, get_or-take, Geometry, LAST, or_else, is_valid, half_size, header_place, image_size, current_half, half_header, is_open_at, superblock, AreBytes, limits, HalfHeader, half_of, unclean_place, all_clean, half_again, half_spelled, neither, unless, OpenError, Damaged, UnknownForm, header_at, header_refusal, number_refusal}, LogLaws.none_mapped}

-- a test that is to hold did, and the others followed
pub held : {X : Type 0} (b : Bool) (x : X) (y : Option X) → cond b y (Some x) ≡ None → (b ≡ true) × (y ≡ None)
held true x y e = (refl, e)
held false x y e = absurd cc

-- the form is one of those that are known
abbrev pub IsForm : ℕ → Type 0
IsForm form = IsTrue ((form == 1) || (form == 2))

-- ---- the header of a half

-- what a header says that passes each test
pub record IsHeader (header : List ℕ) (h : HalfHeader) : Type 0 where
  pub form : IsForm h.form
  pub generation : h.generation ≤ LAST
  pub base : h.base ≤ LAST
  pub spelling : header ≡ half_header 1 h.form h.generation h.base

is_clean : (header : List ℕ) → unclean_place header ≡ None → IsTrue (half_of header).clean
is_clean header e = grind (arith, neither, all_clean, none_mapped)

pub unrefused_header : (place : ℕ) (header : List ℕ) → AreBytes header → length header ≡ 32 → (half_of header).gate ≡ 1 → header_refusal place header ≡ None → IsHeader header (half_of header)
unrefused_header place header fits size gate e = search (arith, neither, unless, is_clean, none_mapped, half_spelled)

-- what a header says that was written
pub said_again : (form generation base : ℕ) → generation ≤ LAST → base ≤ LAST
    → half_of (half_header 1 form generation base) ≡ record { gate = 1; form = form; generation = generation; base = base; clean = true }
said_again form generation base m n = half_again 1 form generation base (omega (arith, m)) (omega (arith, n))

clean_again : (form generation base : ℕ) → unclean_place (half_header 1 form generation base) ≡ None
unfolding half_header
clean_again form generation base = refl

pub header_again : (place form generation base : ℕ) → IsForm form → generation ≤ LAST → base ≤ LAST → header_refusal place (half_header 1 form generation base) ≡ None
header_again place form generation base known m n =
    let said = said_again form generation base m n in
    let clean = clean_again form generation base in
    (λ i. cond (((said i).form == 1) || ((said i).form == 2)) (or_else (option_map (λ (j : ℕ). Damaged (place + j) 3) (clean i)) (number_refusal place (said i))) (Some (UnknownForm (said i).form)))
    ∙ all_pass ((form == 1) || (form == 2)) (nat_lt LAST generation) (nat_lt LAST base) (UnknownForm form) (Damaged (place + 8) 8) (Damaged (place + 16) 8) known (le-ltb LAST generation m) (le-ltb LAST base n)
  where
    all_pass : (a b c : Bool) (x y z : OpenError) → a ≡ true → b ≡ false → c ≡ false → cond a (cond b (Some y) (cond c (Some z) None)) (Some x) ≡ None
    all_pass a b c x y z pa pb pc = rw (pa, pb, pc) refl

-- ---- the form, which a superblock does not tell

pub super_form : (g : Geometry) (form : ℕ) → superblock 1 g ≡ superblock 1 (record g { form = form })
unfolding superblock
super_form g form = refl

known_form : (form : ℕ) → IsForm form → IsTrue (nat_le 1 form) × IsTrue (nat_le form 2)
known_form form known = grind arith

pub valid_form : (g : Geometry) (form : ℕ) → IsTrue (is_valid g) → IsForm form → IsTrue (is_valid (record g { form = form }))
unfolding is_valid
valid_form g form valid known =
    let most = and_parts _ _ valid in
    let least = and_parts _ _ most.0 in
    let keeps = known_form form known in
    and_from _ _ (and_from _ _ least.0 keeps.0) keeps.1

one_or_two : (form : ℕ) → 1 ≤ form → form ≤ 2 → IsForm form
one_or_two zero least most = absurd (omega arith)
one_or_two (suc zero) least most = refl
one_or_two (suc (suc zero)) least most = refl
one_or_two (suc (suc (suc n))) least most = absurd (omega arith)

pub form_is : (g : Geometry) → IsTrue (is_valid g) → IsForm g.form
form_is g valid = let keeps = limits g valid in one_or_two g.form keeps.least_form keeps.largest_form

-- ---- the current half

-- it is one of two, and its gate is open
pub record IsCurrent (g : Geometry) (bytes : List ℕ) (half : ℕ) : Type 0 where
  pub least : half ≤ 1
  pub gate : IsTrue (is_open_at bytes (header_place g half))

pub is_current : (g : Geometry) (bytes : List ℕ) (half : ℕ) → current_half g bytes ≡ Some half → IsCurrent g bytes half
is_current g bytes half e = search (arith)

pub gate_again : (g : Geometry) (bytes : List ℕ) (half : ℕ) → IsTrue (is_open_at bytes (header_place g half)) → (half_of (header_at g half bytes)).gate ≡ 1
unfolding half_of
gate_again g bytes half opens =
    get_or-take 32 (drop (header_place g half) bytes) 0 0 (omega arith) ∙ get_or-drop (header_place g half) bytes 0 0
    ∙ ap (λ (at : ℕ). get_or bytes at 0) (plus_zero (header_place g half)) ∙ eqb-true (get_or bytes (header_place g half) 0) 1 opens
  where
    plus_zero : (n : ℕ) → n + 0 ≡ n
    plus_zero n = omega arith

pub half_inside : (g : Geometry) (bytes : List ℕ) (half : ℕ) → half ≤ 1 → length bytes ≡ image_size g → header_place g half + half_size g ≤ length bytes
half_inside g bytes zero least size = omega arith
half_inside g bytes (suc zero) least size = omega arith
half_inside g bytes (suc (suc n)) least size = absurd (omega arith)
