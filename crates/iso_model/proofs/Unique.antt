-- Runs are told apart by the bytes that they have.
use Rattle.iso_model.proofs.{Words.{◌≡◌, ◌⊎◌, ◌∙◌, sym, refl, ap, ℕ, ◌+◌, ◌-◌, ◌<◌, Bool, true, false, ◌&&◌, ◌==◌, nat_le, nat_lt, List, [], ◌∷◌, length, get_or, Some, None, arith, inl, inr, eq-eqb, ne_eqb, subst, AllByRecursion, and_from, and_parts, cases_order, eqb-true, ltb-true, none-some, same_Some, nat_tests, ext_get_or, Geometry, Run, in_span, or_else, runs, IsRun, AreRuns, recorded, in_run, value_of, value_in}, Lookups.{value_runs, or_else_none, value_of_within, value_of_outside}, Maximal.are_runs, Recorded.effect_recorded}

-- the byte (b, q) is before (c, p)
abbrev Before : (b q c p : ℕ) → Type 0
Before b q c p = (b < c) ⊎ ((b ≡ c) × (q < p))

-- every run begins after the byte
abbrev AllBehind : (b q : ℕ) → List Run → Type 0
AllBehind b q list = AllByRecursion (λ run. Before b q run.block run.off) list

before_on : (b q c p d r : ℕ) → Before b q c p → Before c p d r → Before b q d r
before_on b q c p d r (inl first) (inl second) = inl (omega arith)
before_on b q c p d r (inl first) (inr second) = inl (omega arith)
before_on b q c p d r (inr first) (inl second) = inl (omega arith)
before_on b q c p d r (inr first) (inr second) = inr (omega arith, omega arith)

all_behind_on : (b q c p : ℕ) (list : List Run) → Before b q c p → AllBehind c p list → AllBehind b q list
all_behind_on b q c p [] before all = tt
all_behind_on b q c p (run ∷ list) before all = (before_on b q c p run.block run.off before all.0, all_behind_on b q c p list before all.1)

-- runs after a byte do not have it
behind_value : (b q : ℕ) (run : Run) → Before b q run.block run.off → value_of run b q ≡ None
behind_value b q run (inl later) = value_of_outside run b q (let not : (run.block == b) ≡ false = ne_eqb run.block b (λ e. omega arith) in rw not refl)
behind_value b q run (inr behind) = grind (arith, value_of_outside)

behind_none : (b q : ℕ) (list : List Run) → AllBehind b q list → value_in list b q ≡ None
behind_none b q [] all = refl
behind_none b q (run ∷ list) all = rw (behind_none b q list all.1) (behind_value b q run all.0)

-- the runs after a run begin after the byte after it
rest_behind : (g : Geometry) (x : Run) (list : List Run) → AreRuns g (x ∷ list) → AllBehind x.block (x.off + length x.bytes) list
rest_behind g x [] all = tt
rest_behind g x (y ∷ list) all = (
  all.1,
  all_behind_on x.block (x.off + length x.bytes) y.block (y.off + length y.bytes) list
      (elim all.1 [ inl later ↦ inl later | inr behind ↦ inr (behind.0, omega arith) ]) (rest_behind g y list all.2),
)

pub head_is : (g : Geometry) (x : Run) (list : List Run) → AreRuns g (x ∷ list) → IsRun g x
head_is g x [] all = all
head_is g x (y ∷ list) all = all.0

pub tail_are : (g : Geometry) (x : Run) (list : List Run) → AreRuns g (x ∷ list) → AreRuns g list
tail_are g x [] all = tt
tail_are g x (y ∷ list) all = all.2

-- the first run has its own bytes
own_value : (g : Geometry) (x : Run) (list : List Run) (k : ℕ) → AreRuns g (x ∷ list) → k < length x.bytes
    → value_in (x ∷ list) x.block (x.off + k) ≡ Some (get_or x.bytes k 0)
own_value g x list k all inside =
    let at : x.off + k - x.off ≡ k = omega arith in
    ap (λ o. or_else o (value_of x x.block (x.off + k)))
    (behind_none x.block (x.off + k) list
    (all_behind_on x.block (x.off + k) x.block (x.off + length x.bytes) list (inr (refl, omega arith)) (rest_behind g x list all)))
    ∙ value_of_within x x.block (x.off + k) (get_or x.bytes k 0)
    (and_from _ _ (eq-eqb x.block x.block refl) (within x.off (length x.bytes) k inside)) (rw at refl)
  where
    within : (off n k : ℕ) → k < n → (nat_le off (off + k) && nat_lt (off + k) (off + n)) ≡ true
    within off n k inside = grind (arith, nat_tests)

-- the lists have the same value at each byte of the array
abbrev SameValues : Geometry → List Run → List Run → Type 0
SameValues g xs ys = (b p : ℕ) → b < g.blocks → p < g.block → value_in xs b p ≡ value_in ys b p

not_earlier : (g : Geometry) (x y : Run) (xs ys : List Run) → AreRuns g (x ∷ xs) → AreRuns g (y ∷ ys) → SameValues g (x ∷ xs) (y ∷ ys)
    → Before x.block x.off y.block y.off → ⊥
not_earlier g x y xs ys first second same before =
    let is = head_is g x xs first in
    let some : 0 < length x.bytes = is.some in
    let none : value_in (y ∷ ys) x.block x.off ≡ None =
    behind_none x.block x.off (y ∷ ys) (
      before,
      all_behind_on x.block x.off y.block (y.off + length y.bytes) ys
          (elim before [ inl later ↦ inl later | inr behind ↦ inr (behind.0, omega arith) ]) (rest_behind g y ys second),
    ) in
    let e : x.off + 0 ≡ x.off = omega arith in
    let has : value_in (x ∷ xs) x.block x.off ≡ Some (get_or x.bytes 0 0) = (rw e at (own_value g x xs 0 first some)) in
    none-some (get_or x.bytes 0 0) (sym none ∙ sym (same x.block x.off is.block (omega arith)) ∙ has)

same_start : (b q c p : ℕ) → (Before b q c p → ⊥) → (Before c p b q → ⊥) → (b ≡ c) × (q ≡ p)
same_start b q c p first second = elim (cases_order b c) [
  | inr (inl less) ↦ absurd (first (inl less))
  | inr (inr more) ↦ absurd (second (inl more))
  | inl same ↦ elim (cases_order q p) [
    | inl equal ↦ (same, equal)
    | inr (inl less) ↦ absurd (first (inr (same, less)))
    | inr (inr more) ↦ absurd (second (inr (sym same, more)))
  ]
]

not_shorter : (g : Geometry) (x y : Run) (xs ys : List Run) → AreRuns g (x ∷ xs) → AreRuns g (y ∷ ys) → SameValues g (x ∷ xs) (y ∷ ys)
    → x.block ≡ y.block → x.off ≡ y.off → length x.bytes < length y.bytes → ⊥
not_shorter g x y xs ys first second same block off shorter =
    let is = head_is g y ys second in
    let inside : x.off + length x.bytes < g.block = omega arith in
    let none : value_in (x ∷ xs) x.block (x.off + length x.bytes) ≡ None =
    ap (λ o. or_else o (value_of x x.block (x.off + length x.bytes))) (behind_none x.block (x.off + length x.bytes) xs (rest_behind g x xs first))
    ∙ value_of_outside x x.block (x.off + length x.bytes) (past (x.block == x.block) x.off (length x.bytes)) in
    let has : value_in (y ∷ ys) x.block (x.off + length x.bytes) ≡ Some (get_or y.bytes (length x.bytes) 0) =
    (rw (block, off) (own_value g y ys (length x.bytes) second shorter)) in
    none-some (get_or y.bytes (length x.bytes) 0) (sym none ∙ same x.block (x.off + length x.bytes) (rw block is.block) inside ∙ has)
  where
    past : (t : Bool) (off n : ℕ) → (t && (nat_le off (off + n) && nat_lt (off + n) (off + n))) ≡ false
    past true off n = grind (arith, nat_tests)
    past false off n = refl

same_head : (g : Geometry) (x y : Run) (xs ys : List Run) → AreRuns g (x ∷ xs) → AreRuns g (y ∷ ys) → SameValues g (x ∷ xs) (y ∷ ys) → x ≡ y
same_head g x y xs ys first second same =
    let back : SameValues g (y ∷ ys) (x ∷ xs) = λ b p block inside. sym (same b p block inside) in
    let start = same_start x.block x.off y.block y.off (not_earlier g x y xs ys first second same) (not_earlier g y x ys xs second first back) in
    let size : length x.bytes ≡ length y.bytes = equal (length x.bytes) (length y.bytes)
    (not_shorter g x y xs ys first second same start.0 start.1) (not_shorter g y x ys xs second first back (sym start.0) (sym start.1)) in
    let is = head_is g x xs first in
    let bytes : x.bytes ≡ y.bytes = ext_get_or 0 x.bytes y.bytes size (λ k inside.
    same_Some (get_or x.bytes k 0) (get_or y.bytes k 0)
    (sym (own_value g x xs k first inside) ∙ same x.block (x.off + k) is.block (omega arith) ∙ rw (start.0, start.1) (own_value g y ys k second (omega arith)))) in
    λ i. record { block = start.0 i; off = start.1 i; bytes = bytes i }
  where
    equal : (m n : ℕ) → (m < n → ⊥) → (n < m → ⊥) → m ≡ n
    equal m n first second = elim (cases_order m n) [ inl same ↦ same | inr (inl less) ↦ absurd (first less) | inr (inr more) ↦ absurd (second more) ]

-- what the other runs have, where the first is the same
rest_at : (g : Geometry) (x : Run) (xs : List Run) (b p : ℕ) → AreRuns g (x ∷ xs) → in_run b p x ≡ true → value_in xs b p ≡ None
rest_at g x xs b p all within =
    let both = and_parts (x.block == b) (in_span p (record { off = x.off; len = length x.bytes })) within in
    let below = and_parts (nat_le x.off p) (nat_lt p (x.off + length x.bytes)) both.1 in
    behind_none b p xs (all_behind_on b p x.block (x.off + length x.bytes) xs
    (inr (sym (eqb-true x.block b both.0), ltb-true p (x.off + length x.bytes) below.1)) (rest_behind g x xs all))

same_rest : (g : Geometry) (x : Run) (xs ys : List Run) → AreRuns g (x ∷ xs) → AreRuns g (x ∷ ys) → SameValues g (x ∷ xs) (x ∷ ys) → SameValues g xs ys
same_rest g x xs ys first second same b p block inside = search (arith, rest_at, value_of_outside, or_else_none)

-- maximal rising runs with the same values are the same runs
pub same_runs : (g : Geometry) (xs ys : List Run) → AreRuns g xs → AreRuns g ys → SameValues g xs ys → xs ≡ ys
same_runs g [] [] first second same = refl
same_runs g [] (y ∷ ys) first second same = absurd (nothing g y ys second same)
  where
    nothing : (g : Geometry) (y : Run) (ys : List Run) → AreRuns g (y ∷ ys) → SameValues g [] (y ∷ ys) → ⊥
    nothing g y ys second same = let is = head_is g y ys second in
        let some : 0 < length y.bytes = is.some in
        none-some (get_or y.bytes 0 0) (same y.block (y.off + 0) is.block (omega arith) ∙ own_value g y ys 0 second some)
same_runs g (x ∷ xs) [] first second same =
    let is = head_is g x xs first in
    let some : 0 < length x.bytes = is.some in
    absurd (none-some (get_or x.bytes 0 0) (sym (same x.block (x.off + 0) is.block (omega arith)) ∙ own_value g x xs 0 first some))
same_runs g (x ∷ xs) (y ∷ ys) first second same =
    let head : x ≡ y = same_head g x y xs ys first second same in
    let again : AreRuns g (x ∷ ys) = subst (λ (r : Run). AreRuns g (r ∷ ys)) (sym head) second in
    let values : SameValues g (x ∷ xs) (x ∷ ys) = subst (λ (r : Run). SameValues g (x ∷ xs) (r ∷ ys)) (sym head) same in
    let tail : xs ≡ ys = same_runs g xs ys (tail_are g x xs first) (tail_are g x ys again) (same_rest g x xs ys first again values) in
    λ i. head i ∷ tail i

-- the runs of the writes that a record represents are its runs
pub runs_recorded : (g : Geometry) (list : List Run) → AreRuns g list → runs g (recorded g list) ≡ list
runs_recorded g list all = grind (arith, same_runs, are_runs, value_runs, effect_recorded)
