-- No level of a region comes near the greatest one.
use Rattle.iso_tree.proofs.{Words.{◌≡◌, ◌≢◌, ◌∙◌, sym, refl, ap, subst, ℕ, zero, suc, ◌+◌, ◌-◌, ◌<◌, ◌≤◌, ◌==◌, true, false, cond, List, [], ◌∷◌, length, arith, inl, inr, eq-eqb, ne_eqb, cases_eq, cases_lt, IsIn, Tree, nodes_in, IsApart, ◌++◌, flat_map, length-append}, Shapes.IsSized}

-- A tree of a level has at least 2 to that level nodes: no level of a region comes near 31.
unfoldable pub doubled : (level : ℕ) → ℕ
doubled zero = 1
doubled (suc level) = doubled level + doubled level

pub nodes_many : (n level : ℕ) (t : Tree level) → IsSized n level t → doubled level ≤ length (nodes_in level t)
unfolding doubled
nodes_many n zero t is = omega arith
nodes_many n (suc level) (block, []) is = absurd (omega (arith, is.0))
nodes_many n (suc level) (block, c ∷ []) is = absurd (omega (arith, is.0))
nodes_many n (suc level) (block, c ∷ d ∷ ds) is =
    omega (
      arith,
      nodes_many n level c.1 is.2.0.1,
      nodes_many n level d.1 is.2.1.0.1,
      length-append (nodes_in level c.1) (nodes_in level d.1 ++ flat_map (λ c. nodes_in level c.1) ds),
      length-append (nodes_in level d.1) (flat_map (λ c. nodes_in level c.1) ds),
    )

abbrev without : (m : ℕ) → List ℕ → List ℕ
without m [] = []
without m (x ∷ xs) = cond (x == m) (without m xs) (x ∷ without m xs)

in_without : (m k : ℕ) (xs : List ℕ) → IsIn k (without m xs) → IsIn k xs × (k ≢ m)
in_without m k [] is = absurd is
in_without m k (x ∷ xs) is = elim (cases_eq x m) [
  | inl here ↦
      (let test : (x == m) ≡ true = eq-eqb x m here in
      let rest = in_without m k xs (subst (λ t. IsIn k (cond t (without m xs) (x ∷ without m xs))) test is) in
      (inr rest.0, rest.1))
  | inr other ↦
      (let test : (x == m) ≡ false = ne_eqb x m other in
      elim (subst (λ t. IsIn k (cond t (without m xs) (x ∷ without m xs))) test is) [
        | inl same ↦ (inl same, λ e. other (same ∙ e))
        | inr later ↦ (let rest = in_without m k xs later in (inr rest.0, rest.1))
      ])
]

apart_without : (m : ℕ) (xs : List ℕ) → IsApart xs → IsApart (without m xs)
apart_without m [] apart = tt
apart_without m (x ∷ xs) apart = elim (x == m) as (λ t. IsApart (cond t (without m xs) (x ∷ without m xs))) [
  | true ↦ apart_without m xs apart.1
  | false ↦ (λ is. apart.0 (in_without m x xs is).0, apart_without m xs apart.1)
]

none_left : (m : ℕ) (xs : List ℕ) → (IsIn m xs → ⊥) → length (without m xs) ≡ length xs
none_left m [] none = refl
none_left m (x ∷ xs) none =
    rw (ne_eqb x m (λ e. none (inl e))) (ap suc (none_left m xs (λ is. none (inr is))))

length_without : (m : ℕ) (xs : List ℕ) → IsApart xs → length xs ≤ length (without m xs) + 1
length_without m [] apart = omega arith
length_without m (x ∷ xs) apart = elim (cases_eq x m) [
  | inl here ↦
      (let test : (x == m) ≡ true = eq-eqb x m here in
      let same : length (without m xs) ≡ length xs = none_left m xs (subst (λ (k : ℕ). IsIn k xs → ⊥) here apart.0) in
      rw test (omega arith))
  | inr other ↦
      (let test : (x == m) ≡ false = ne_eqb x m other in
      let rest = length_without m xs apart.1 in
      rw test (omega arith))
]

-- distinct numbers below n are at most n
pub at_most : (n : ℕ) (xs : List ℕ) → IsApart xs → ((k : ℕ) → IsIn k xs → k < n) → length xs ≤ n
at_most zero [] apart below = omega arith
at_most zero (x ∷ xs) apart below = absurd (omega (arith, below x (inl refl)))
at_most (suc n) xs apart below =
    let rest = at_most n (without n xs) (apart_without n xs apart) (λ k is. let was = in_without n k xs is in omega (arith, below k was.0, was.1)) in
    omega (arith, length_without n xs apart)

step : (k x : ℕ) → x ≤ doubled k → x + x ≤ doubled (suc k)
unfolding doubled
step k x le = omega arith

first : 1 ≤ doubled 0
unfolding doubled
first = omega arith

many : 32768 ≤ doubled 15
many = step 14 16384 (step 13 8192 (step 12 4096 (step 11 2048 (step 10 1024 (step 9 512 (step 8 256 (step 7 128 (step 6 64 (step 5 32 (step 4 16 (step 3 8 (step 2 4 (step 1 2 (step 0 1 first))))))))))))))

more : (d : ℕ) → 32768 ≤ doubled (d + 15)
more zero = many
more (suc d) =
    let e : suc d + 15 ≡ suc (d + 15) = omega arith in
    let rest = step (d + 15) 32768 (more d) in
    subst (λ (k : ℕ). 32768 ≤ doubled k) (sym e) (omega arith)

-- the level of a tree whose nodes are distinct blocks of a region
pub level_low : (n level blocks : ℕ) (t : Tree level) → IsSized n level t → IsApart (nodes_in level t) → ((k : ℕ) → IsIn k (nodes_in level t) → k < blocks) → blocks < 32768 → level < 15
level_low n level blocks t sized apart below few = elim (cases_lt level 15) [
  | inl low ↦ low
  | inr past ↦
      (let e : level - 15 + 15 ≡ level = omega arith in
      let least : 32768 ≤ doubled level = subst (λ (k : ℕ). 32768 ≤ doubled k) e (more (level - 15)) in
      absurd (omega (arith, nodes_many n level t sized, at_most blocks (nodes_in level t) apart below)))
]
