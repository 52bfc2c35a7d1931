-- Patches whose blocks rise.
use Rattle.tx_table.proofs.Words.{◌≡◌, ◌≢◌, ◌∙◌, refl, ap, ℕ, zero, suc, ◌+◌, ◌<◌, ◌≤◌, Bool, true, false, ◌==◌, ◌||◌, cond, inl, inr, List, [], ◌∷◌, ◌++◌, length, get_or, set, take, drop, arith, ne_eqb, Option, None, replicate, both_ways, cases_eq, cases_lt, get_or_default, laid, common_steps, has_patch, patch_at, RisesFrom, or_parts}

pub at_least : {A : Type 0} (f j : ℕ) (es : List (ℕ × A)) (d : ℕ × A) → RisesFrom f es → j < length es → f ≤ (get_or es j d).0
at_least f j [] d rises lt = absurd (omega arith)
at_least f zero (x ∷ es) d rises lt = rises.0
at_least f (suc j) (x ∷ es) d rises lt = let later = at_least (x.0 + 1) j es d rises.1 (omega arith) in omega (arith, later, rises.0)

pub in_order : {A : Type 0} (f i j : ℕ) (es : List (ℕ × A)) (d : ℕ × A) → RisesFrom f es → i ≤ j → j < length es → (get_or es i d).0 ≤ (get_or es j d).0
in_order f i j [] d rises le lt = absurd (omega arith)
in_order f zero zero (x ∷ es) d rises le lt = omega arith
in_order f zero (suc j) (x ∷ es) d rises le lt = let later = at_least (x.0 + 1) j es d rises.1 (omega arith) in omega (arith, later)
in_order f (suc i) zero (x ∷ es) d rises le lt = absurd (omega arith)
in_order f (suc i) (suc j) (x ∷ es) d rises le lt = in_order (x.0 + 1) i j es d rises.1 (omega arith) (omega arith)

-- a patch at a place with the block is that of the block
pub found_at : (f size b i : ℕ) (es : List (ℕ × List (Option ℕ))) (d : ℕ × List (Option ℕ)) → RisesFrom f es → i < length es → (get_or es i d).0 ≡ b
    → (has_patch b es ≡ true) × (patch_at size b es ≡ (get_or es i d).1)
found_at f size b i [] d rises lt same = absurd (omega arith)
found_at f size b zero (x ∷ es) d rises lt same = let here : (x.0 == b) ≡ true = grind (arith, common_steps) in (rw here refl, rw here refl)
found_at f size b (suc i) (x ∷ es) d rises lt same =
    let later = at_least (x.0 + 1) i es d rises.1 (omega arith) in
    let other : (x.0 == b) ≡ false = ne_eqb x.0 b (λ e. omega (arith, later, same)) in
    let rest = found_at (x.0 + 1) size b i es d rises.1 (omega arith) same in
    (rw other rest.0, rw other rest.1)

-- where no place has the block there is none
pub found_none : (size b : ℕ) (es : List (ℕ × List (Option ℕ))) → ((k : ℕ) → (d : ℕ × List (Option ℕ)) → k < length es → (get_or es k d).0 ≢ b)
    → (has_patch b es ≡ false) × (patch_at size b es ≡ replicate size None)
found_none size b [] other = (refl, refl)
found_none size b (x ∷ es) other =
    let here : (x.0 == b) ≡ false = ne_eqb x.0 b (other 0 x (omega arith)) in
    let rest = found_none size b es (λ k d lt. other (suc k) d (omega arith)) in
    (rw here rest.0, rw here rest.1)

-- no value, nothing laid
pub laid_none : (n : ℕ) (old : List ℕ) → length old ≡ n → old ≡ laid (replicate n None) old
laid_none zero [] same = refl
laid_none zero (x ∷ old) same = absurd (omega arith)
laid_none (suc n) [] same = absurd (omega arith)
laid_none (suc n) (x ∷ old) same = ap (λ (l : List ℕ). x ∷ l) (laid_none n old (omega arith))

-- a block further on, or none
pub other_places : {A : Type 0} (block i : ℕ) (es : List (ℕ × A)) (d : ℕ × A) → RisesFrom 0 es → i < length es
    → ((k : ℕ) → k < i → (x : ℕ × A) → (get_or es k x).0 < block) → block ≤ (get_or es i d).0 → (get_or es i d).0 ≢ block
    → (k : ℕ) → (x : ℕ × A) → k < length es → (get_or es k x).0 ≢ block
other_places block i es d rises inside before least other k x lt same = elim (cases_lt k i) [
  | inl less ↦ (let h = before k less x in omega (arith, h, same))
  | inr more ↦
      (let up = in_order 0 i k es x rises more lt in
      let key : (get_or es i x).0 ≡ (get_or es i d).0 = ap (λ y. y.0) (get_or_default es i x d inside) in
      other (omega (arith, up, same, key, least)))
]

pub has_set : (b key i : ℕ) (values : List (Option ℕ)) (es : List (ℕ × List (Option ℕ))) (d : ℕ × List (Option ℕ)) → i < length es → key ≡ (get_or es i d).0
    → has_patch b (set es i (key, values)) ≡ has_patch b es
has_set b key i values [] d lt same = absurd (omega arith)
has_set b key zero values (x ∷ es) d lt same = ap (λ (k : ℕ). (k == b) || has_patch b es) same
has_set b key (suc i) values (x ∷ es) d lt same = ap (λ (t : Bool). (x.0 == b) || t) (has_set b key i values es d (omega arith) same)

pub patch_set : (size b f key i : ℕ) (values : List (Option ℕ)) (es : List (ℕ × List (Option ℕ))) (d : ℕ × List (Option ℕ)) → RisesFrom f es → i < length es → key ≡ (get_or es i d).0
    → patch_at size b (set es i (key, values)) ≡ cond (key == b) values (patch_at size b es)
patch_set size b f key i values [] d rises lt same = absurd (omega arith)
patch_set size b f key zero values (x ∷ es) d rises lt same = grind arith
patch_set size b f key (suc i) values (x ∷ es) d rises lt same =
    let later = at_least (x.0 + 1) i es d rises.1 (omega arith) in
    let rest = patch_set size b (x.0 + 1) key i values es d rises.1 (omega arith) same in
    elim (cases_eq x.0 b) [
      | inl here ↦
          (let yes : (x.0 == b) ≡ true = grind (arith, common_steps) in
          let no : (key == b) ≡ false = ne_eqb key b (λ e. omega (arith, later, same, here)) in
          rw (yes, no) refl)
      | inr there ↦ (let no : (x.0 == b) ≡ false = ne_eqb x.0 b there in rw no rest)
    ]

pub set_value : (size b block key : ℕ) (new : List (Option ℕ)) (es fs : List (ℕ × List (Option ℕ))) (f : List (Option ℕ) → List (Option ℕ)) → key ≡ block → es ≡ fs
    → new ≡ f (patch_at size block fs) → cond (key == b) new (patch_at size b es) ≡ cond (block == b) (f (patch_at size b fs)) (patch_at size b fs)
set_value size b block key new es fs f same entries is = grind arith

pub all_blank : (size b : ℕ) (es : List (ℕ × List (Option ℕ))) → ((k : ℕ) → (d : ℕ × List (Option ℕ)) → k < length es → (get_or es k d).1 ≡ replicate size None)
    → patch_at size b es ≡ replicate size None
all_blank size b [] all = refl
all_blank size b (x ∷ es) all = elim (cases_eq x.0 b) [
  | inl same ↦ (let here : (x.0 == b) ≡ true = grind (arith, common_steps) in rw here (all 0 x (omega arith)))
  | inr other ↦ (let here : (x.0 == b) ≡ false = ne_eqb x.0 b other in rw here (all_blank size b es (λ k d lt. all (suc k) d (omega arith))))
]

-- a patch more, of a block that has none
none_at : (size b : ℕ) (es : List (ℕ × List (Option ℕ))) → has_patch b es ≡ false → patch_at size b es ≡ replicate size None
none_at size b [] none = refl
none_at size b (x ∷ es) none =
    let parts = or_parts (x.0 == b) (has_patch b es) none in
    rw parts.0 (none_at size b es parts.1)

pub has_insert : (b i : ℕ) (es : List (ℕ × List (Option ℕ))) (e : ℕ × List (Option ℕ)) → has_patch b (take i es ++ e ∷ drop i es) ≡ ((e.0 == b) || has_patch b es)
has_insert b zero es e = refl
has_insert b (suc i) [] e = refl
has_insert b (suc i) (x ∷ es) e = ap (λ (t : Bool). (x.0 == b) || t) (has_insert b i es e) ∙ swap (x.0 == b) (e.0 == b) (has_patch b es)
  where
    swap : (s t u : Bool) → (s || (t || u)) ≡ (t || (s || u))
    swap true true u = refl
    swap true false u = refl
    swap false t u = refl

pub patch_insert : (size b i : ℕ) (es : List (ℕ × List (Option ℕ))) (e : ℕ × List (Option ℕ)) → has_patch e.0 es ≡ false → e.1 ≡ replicate size None
    → patch_at size b (take i es ++ e ∷ drop i es) ≡ patch_at size b es
patch_insert size b zero es e none blank = grind (arith, none_at)
patch_insert size b (suc i) [] e none blank = grind arith
patch_insert size b (suc i) (x ∷ es) e none blank =
    ap (λ (l : List (Option ℕ)). cond (x.0 == b) x.1 l) (patch_insert size b i es e (or_parts (x.0 == e.0) (has_patch e.0 es) none).1 blank)

pub rises_insert : (f i : ℕ) (es : List (ℕ × List (Option ℕ))) (e : ℕ × List (Option ℕ)) → RisesFrom f es → f ≤ e.0
    → ((k : ℕ) → k < i → (get_or es k e).0 < e.0) → ((k : ℕ) → i ≤ k → k < length es → e.0 ≤ (get_or es k e).0) → has_patch e.0 es ≡ false → i ≤ length es
    → RisesFrom f (take i es ++ e ∷ drop i es)
rises_insert f zero [] e rises le before after none within = (le, tt)
rises_insert f (suc i) [] e rises le before after none within = absurd (omega arith)
rises_insert f zero (x ∷ es) e rises le before after none within =
    let apart = (or_parts (x.0 == e.0) (has_patch e.0 es) none).0 in
    let first : e.0 ≤ x.0 = after 0 (omega arith) (omega arith) in
    let next : e.0 + 1 ≤ x.0 = elim (cases_eq x.0 e.0) [
      | inl same ↦ (let here : (x.0 == e.0) ≡ true = grind (arith, common_steps) in absurd (both_ways (x.0 == e.0) apart here))
      | inr other ↦ omega (arith, other, first)
    ] in
    (le, (next, rises.1))
rises_insert f (suc i) (x ∷ es) e rises le before after none within =
    let first : x.0 < e.0 = before 0 (omega arith) in (
      rises.0,
      rises_insert (x.0 + 1) i es e rises.1 (omega arith) (λ k lt. before (suc k) (omega arith)) (λ k le' lt. after (suc k) (omega arith) (omega arith))
          (or_parts (x.0 == e.0) (has_patch e.0 es) none).1 (omega arith),
    )
