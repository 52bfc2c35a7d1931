-- Entries of which the first ones have left: what is after them, by what is known of all.
use Rattle.tx_table.proofs.{Words.{◌≡◌, ◌∙◌, refl, sym, ap, subst, ℕ, zero, suc, ◌+◌, ◌<◌, ◌≤◌, Bool, true, false, cond, List, [], ◌∷◌, length, drop, slice_get, arith, inl, inr, cases_lt, Option, Some, None, option_map, nat_eq, lookup, remove_entry, Begun, AreBefore, BeginFrom, RisesFrom}, Begins.{begin_earlier, other_number, rises_earlier}}
use Rattle.std.specs.Prelude.{IsSome, if◌then◌else◌}
use Rattle.std.proofs.lemmas.Bool.{eq-eqb}
use Rattle.tx_table.specs.Live.{begin_of}

pub within : (p n : ℕ) → (0 < p → p < n) → p ≤ n
within zero n some = omega arith
within (suc p) n some = omega (arith, some (omega arith))

pub rises_behind : (k p : ℕ) (live : List (ℕ × Begun)) → RisesFrom k live → RisesFrom k (drop p live)
rises_behind k zero live rises = rises
rises_behind k (suc p) [] rises = tt
rises_behind k (suc p) (x ∷ live) rises = rises_behind k p live (rises_earlier k (x.0 + 1) live (omega (arith, rises.0)) rises.1)

pub begin_behind : (k p : ℕ) (live : List (ℕ × Begun)) → BeginFrom k live → BeginFrom k (drop p live)
begin_behind k zero live begin = begin
begin_behind k (suc p) [] begin = tt
begin_behind k (suc p) (x ∷ live) begin = begin_behind k p live (begin_earlier k x.1.at live begin.0 begin.1)

pub before_behind : (tx at p : ℕ) (live : List (ℕ × Begun)) → AreBefore tx at live → AreBefore tx at (drop p live)
before_behind tx at zero live before = before
before_behind tx at (suc p) [] before = tt
before_behind tx at (suc p) (x ∷ live) before = before_behind tx at p live before.1

-- what comes after those after comes after all
pub before_all : (tx at f g p : ℕ) (live : List (ℕ × Begun)) → (0 < p → p < length live) → RisesFrom f live → BeginFrom g live → AreBefore tx at (drop p live) → AreBefore tx at live
before_all tx at f g zero live some rises begin before = before
before_all tx at f g (suc p) [] some rises begin before = tt
before_all tx at f g (suc p) (x ∷ []) some rises begin before = absurd (omega (arith, some (omega arith)))
before_all tx at f g (suc p) (x ∷ y ∷ live) some rises begin before =
    let later = before_all tx at (x.0 + 1) x.1.at p (y ∷ live) (λ low. omega (arith, some (omega arith))) rises.1 begin.1 before in
    ((omega (arith, later.0.0, rises.1.0), omega (arith, later.0.1, begin.1.0)), later)

pub first_behind : (p : ℕ) (live : List (ℕ × Begun)) → slice_get (drop p live) 0 ≡ slice_get live p
first_behind zero [] = refl
first_behind zero (x ∷ live) = refl
first_behind (suc p) [] = refl
first_behind (suc p) (x ∷ live) = first_behind p live

-- A NUMBER THAT IS LOOKED UP
later_none : (tx f : ℕ) (live : List (ℕ × Begun)) → tx < f → RisesFrom f live → lookup (nat_eq tx) live ≡ None
later_none tx f [] lt rises = refl
later_none tx f (x ∷ live) lt rises = rw (other_number tx x (λ e. omega (arith, e, rises.0, lt))) (later_none tx (x.0 + 1) live (omega (arith, rises.0, lt)) rises.1)

rises_at : (k p : ℕ) (live : List (ℕ × Begun)) (x : ℕ × Begun) → slice_get live p ≡ Some x → RisesFrom k live → k ≤ x.0
rises_at k p [] x is rises = absurd (cc is)
rises_at k zero (y ∷ live) x is rises = grind arith
rises_at k (suc p) (y ∷ live) x is rises = omega (arith, rises_at (y.0 + 1) p live x is rises.1, rises.0)

pub none_behind : (tx f p : ℕ) (live : List (ℕ × Begun)) (x : ℕ × Begun) → slice_get live p ≡ Some x → RisesFrom f live → tx < x.0 → lookup (nat_eq tx) (drop p live) ≡ None
none_behind tx f zero [] x is rises lt = refl
none_behind tx f zero (y ∷ live) x is rises lt = let low : tx < y.0 = grind arith in later_none tx y.0 (y ∷ live) low (omega arith, rises.1)
none_behind tx f (suc p) [] x is rises lt = refl
none_behind tx f (suc p) (y ∷ live) x is rises lt = none_behind tx (y.0 + 1) p live x is rises.1 lt

pub found_behind : (tx f p : ℕ) (live : List (ℕ × Begun)) (x : ℕ × Begun) → slice_get live p ≡ Some x → RisesFrom f live → x.0 ≤ tx → lookup (nat_eq tx) (drop p live) ≡ lookup (nat_eq tx) live
found_behind tx f zero live x is rises le = refl
found_behind tx f (suc p) [] x is rises le = refl
found_behind tx f (suc p) (y ∷ live) x is rises le =
    let low = rises_at (y.0 + 1) p live x is rises.1 in
    found_behind tx (y.0 + 1) p live x is rises.1 le ∙ sym (ap (λ (b : Bool). cond b (Some y.1) (lookup (nat_eq tx) live)) (other_number tx y (λ e. omega (arith, e, low, le))))

pub found_at : (tx f i : ℕ) (live : List (ℕ × Begun)) (x : ℕ × Begun) → slice_get live i ≡ Some x → RisesFrom f live → x.0 ≡ tx → lookup (nat_eq tx) live ≡ Some x.1
found_at tx f i [] x is rises same = absurd (cc is)
found_at tx f zero (y ∷ live) x is rises same =
    let first : tx ≡ y.0 = grind arith in
    let value : y.1 ≡ x.1 = grind arith in
    ap (λ (b : Bool). cond b (Some y.1) (lookup (nat_eq tx) live)) (eq-eqb tx y.0 first) ∙ ap Some value
found_at tx f (suc i) (y ∷ live) x is rises same =
    let low = rises_at (y.0 + 1) i live x is rises.1 in
    ap (λ (b : Bool). cond b (Some y.1) (lookup (nat_eq tx) live)) (other_number tx y (λ e. omega (arith, e, low, same))) ∙ found_at tx (y.0 + 1) i live x is rises.1 same

pub none_past : (p : ℕ) (live : List (ℕ × Begun)) → slice_get live p ≡ None → drop p live ≡ []
none_past zero [] is = refl
none_past zero (x ∷ live) is = absurd (cc is)
none_past (suc p) [] is = refl
none_past (suc p) (x ∷ live) is = none_past p live is

-- A NUMBER THAT IS TAKEN OUT
abbrev IsThere : ℕ → Option Begun → Type 0
IsThere tx found = IsSome (option_map (λ begun. begun.at) found)

found_from : (tx k p : ℕ) (live : List (ℕ × Begun)) → RisesFrom k live → IsSome (begin_of tx (drop p live)) → k ≤ tx
found_from tx k p live rises is = elim (cases_lt tx k) [
  | inl below ↦ absurd (let e : IsThere tx None = subst (IsThere tx) (later_none tx k (drop p live) below (rises_behind k p live rises)) is in cc e)
  | inr not ↦ not
]

first_gone : (tx p : ℕ) (live : List (ℕ × Begun)) (x : ℕ × Begun) → slice_get live p ≡ Some x → x.0 ≡ tx → remove_entry (nat_eq tx) (drop p live) ≡ drop (suc p) live
first_gone tx zero [] x is same = refl
first_gone tx zero (y ∷ live) x is same =
    let first : tx ≡ y.0 = grind arith in
    ap (λ (b : Bool). cond b live (y ∷ remove_entry (nat_eq tx) live)) (eq-eqb tx y.0 first)
first_gone tx (suc p) [] x is same = refl
first_gone tx (suc p) (y ∷ live) x is same = first_gone tx p live x is same

pub first_out : (tx p : ℕ) (live : List (ℕ × Begun)) (x : ℕ × Begun) → slice_get live p ≡ Some x → x.0 ≡ tx → remove_entry (nat_eq tx) (drop p live) ≡ drop (p + 1) live
first_out tx p live x is same = let next : suc p ≡ p + 1 = omega arith in first_gone tx p live x is same ∙ ap (λ (n : ℕ). drop n live) next

pub only_out : (tx : ℕ) (live : List (ℕ × Begun)) → length live ≤ 1 → IsSome (begin_of tx live) → remove_entry (nat_eq tx) live ≡ []
only_out tx [] few is = refl
only_out tx (x ∷ []) few is = out (nat_eq tx x.0) is
  where
    out : (b : Bool) → IsThere tx (cond b (Some x.1) None) → cond b [] (x ∷ []) ≡ []
    out true is = refl
    out false is = absurd (cc is)
only_out tx (x ∷ y ∷ live) few is = absurd (omega (arith, few))

pub later_out : (tx f p : ℕ) (live : List (ℕ × Begun)) → RisesFrom f live → IsSome (begin_of tx (drop p live)) → drop p (remove_entry (nat_eq tx) live) ≡ remove_entry (nat_eq tx) (drop p live)
later_out tx f zero live rises is = refl
later_out tx f (suc p) [] rises is = refl
later_out tx f (suc p) (x ∷ live) rises is =
    let low = found_from tx (x.0 + 1) p live rises.1 is in
    ap (λ (b : Bool). drop (suc p) (cond b live (x ∷ remove_entry (nat_eq tx) live))) (other_number tx x (λ e. omega (arith, e, low))) ∙ later_out tx (x.0 + 1) p live rises.1 is

pub fewer : (tx : ℕ) (live : List (ℕ × Begun)) → length (remove_entry (nat_eq tx) live) ≤ length live
fewer tx [] = omega arith
fewer tx (x ∷ live) = elim (nat_eq tx x.0) as (λ b. length (cond b live (x ∷ remove_entry (nat_eq tx) live)) ≤ length (x ∷ live)) [
  | true ↦ omega arith
  | false ↦ omega (arith, fewer tx live)
]

-- at most one is taken out
pub at_most_one : (out : Bool) (n m : ℕ) → n + (if out then 1 else 0) ≡ m → m ≤ n + 1
at_most_one true n m is = omega (arith, is)
at_most_one false n m is = omega (arith, is)
