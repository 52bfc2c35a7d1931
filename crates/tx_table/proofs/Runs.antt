-- The runs of the patches are those of the accesses.
use Rattle.tx_table.proofs.Words.{◌≡◌, ◌∙◌, refl, sym, ap, subst, ℕ, zero, suc, ◌+◌, ◌<◌, ◌≤◌, Bool, true, false, ◌==◌, ◌&&◌, cond, inl, inr, List, [], ◌∷◌, ◌++◌, map, arith, ne_eqb, Option, Some, None, replicate, flat_map, slice_index, AllByRecursion, range_with_len, cases_eq, common_steps, Geometry, Run, covered, block_runs, effect_at, effects_from, is_write, or_else, runs, runs_from, Row, AreEffects, patch_at, RisesFrom, access_of, IsRow}

-- no value, no run
no_runs : (b p n : ℕ) → runs_from b p (replicate n None) ≡ []
no_runs b p zero = refl
no_runs b p (suc n) = no_runs b (p + 1) n

-- no patch below the first block
none_below : (size from b : ℕ) (es : List (ℕ × List (Option ℕ))) → RisesFrom from es → b < from → patch_at size b es ≡ replicate size None
none_below size from b [] rises less = refl
none_below size from b (x ∷ es) rises less =
    let apart : (x.0 == b) ≡ false = ne_eqb x.0 b (λ same. omega (arith, same, rises.0)) in
    rw apart (none_below size (x.0 + 1) b es rises.1 (omega (arith, rises.0)))

-- the patches of blocks at which nothing is written have no runs
past_runs : (size from : ℕ) (es : List (ℕ × List (Option ℕ))) (f : ℕ → List (Option ℕ)) → RisesFrom from es
    → ((b : ℕ) → from ≤ b → patch_at size b es ≡ f b) → ((b : ℕ) → from ≤ b → f b ≡ replicate size None)
    → flat_map (λ e. runs_from e.0 0 e.1) es ≡ []
past_runs size from [] f rises are none = refl
past_runs size from (x ∷ es) f rises are none =
    let here : (x.0 == x.0) ≡ true = grind (arith, common_steps) in
    let at : patch_at size x.0 (x ∷ es) ≡ replicate size None = are x.0 rises.0 ∙ none x.0 rises.0 in
    let is : patch_at size x.0 (x ∷ es) ≡ x.1 = rw here refl in
    let value : x.1 ≡ replicate size None = sym is ∙ at in
    let empty : runs_from x.0 0 x.1 ≡ [] = ap (runs_from x.0 0) value ∙ no_runs x.0 0 size in
    ap (λ (l : List Run). l ++ flat_map (λ e. runs_from e.0 0 e.1) es) empty
    ∙ past_runs size (x.0 + 1) es f rises.1
    (λ b le. (let apart : (x.0 == b) ≡ false = ne_eqb x.0 b (λ same. omega (arith, same, le)) in
    let step : patch_at size b (x ∷ es) ≡ f b = are b (omega (arith, le, rises.0)) in
    let e : patch_at size b (x ∷ es) ≡ patch_at size b es = rw apart refl in sym e ∙ step))
    (λ b le. none b (omega (arith, le, rises.0)))

runs_are : (size n from : ℕ) (es : List (ℕ × List (Option ℕ))) (f : ℕ → List (Option ℕ)) → RisesFrom from es
    → ((b : ℕ) → from ≤ b → patch_at size b es ≡ f b) → ((b : ℕ) → from + n ≤ b → f b ≡ replicate size None)
    → flat_map (λ e. runs_from e.0 0 e.1) es ≡ flat_map (λ b. runs_from b 0 (f b)) (range_with_len from n)
runs_are size zero from es f rises are none = past_runs size from es f rises are (λ b le. none b (omega arith))
runs_are size (suc n) from [] f rises are none =
    let empty : runs_from from 0 (f from) ≡ [] = ap (runs_from from 0) (sym (are from (omega arith))) ∙ no_runs from 0 size in
    runs_are size n (from + 1) [] f tt (λ b le. are b (omega arith)) (λ b le. none b (omega arith))
    ∙ ap (λ (l : List Run). l ++ flat_map (λ b. runs_from b 0 (f b)) (range_with_len (from + 1) n)) (sym empty)
runs_are size (suc n) from (x ∷ es) f rises are none = elim (cases_eq x.0 from) [
  | inl same ↦
      (let here : (x.0 == from) ≡ true = grind (arith, common_steps) in
      let e : patch_at size from (x ∷ es) ≡ x.1 = rw here refl in
      let value : x.1 ≡ f from = sym e ∙ are from (omega arith) in
      let first : runs_from x.0 0 x.1 ≡ runs_from from 0 (f from) = ap (λ (k : ℕ). runs_from k 0 x.1) same ∙ ap (runs_from from 0) value in
      let rest = runs_are size n (from + 1) es f (subst (λ (k : ℕ). RisesFrom (k + 1) es) same rises.1)
      (λ b le. (let apart : (x.0 == b) ≡ false = ne_eqb x.0 b (λ eq. omega (arith, same, eq, le)) in
      let e' : patch_at size b (x ∷ es) ≡ patch_at size b es = rw apart refl in sym e' ∙ are b (omega arith)))
      (λ b le. none b (omega arith)) in
      ap (λ (l : List Run). l ++ flat_map (λ e. runs_from e.0 0 e.1) es) first ∙ ap (λ (l : List Run). runs_from from 0 (f from) ++ l) rest)
  | inr other ↦
      (let later : from + 1 ≤ x.0 = omega (arith, other, rises.0) in
      let value : f from ≡ replicate size None = sym (are from (omega arith)) ∙ none_below size (from + 1) from (x ∷ es) (later, rises.1) (omega arith) in
      let empty : runs_from from 0 (f from) ≡ [] = ap (runs_from from 0) value ∙ no_runs from 0 size in
      runs_are size n (from + 1) (x ∷ es) f (later, rises.1) (λ b le. are b (omega arith)) (λ b le. none b (omega arith))
      ∙ ap (λ (l : List Run). l ++ flat_map (λ b. runs_from b 0 (f b)) (range_with_len (from + 1) n)) (sym empty))
]

-- nothing is written past the last block
past_effect : (size blocks : ℕ) (rows : List Row) (b p : ℕ) → AllByRecursion (λ r. IsRow size r × (r.block < blocks)) rows → blocks ≤ b
    → effect_at (map access_of rows) b p ≡ None
past_effect size blocks [] b p all past = refl
past_effect size blocks (row ∷ rows) b p all past =
    let apart : (row.block == b) ≡ false = ne_eqb row.block b (λ same. omega (arith, same, all.0.1)) in
    let rest = past_effect size blocks rows b p all.1 past in
    rw (rest, apart) (none_of (is_write (access_of row)) (covered (access_of row).spans p) (slice_index row.bytes.items p))
  where
    none_of : (t u : Bool) (x : ℕ) → or_else None (cond (t && false && u) (Some x) None) ≡ None
    none_of true u x = refl
    none_of false u x = refl

past_effects : (size blocks : ℕ) (rows : List Row) (b p n : ℕ) → AllByRecursion (λ r. IsRow size r × (r.block < blocks)) rows → blocks ≤ b
    → effects_from (map access_of rows) b p n ≡ replicate n None
past_effects size blocks rows b p zero all past = refl
past_effects size blocks rows b p (suc n) all past =
    rw (past_effect size blocks rows b p all past) (ap (λ (l : List (Option ℕ)). None ∷ l) (past_effects size blocks rows b (p + 1) n all past))

pub runs_of_patches : (size blocks : ℕ) (rows : List Row) (es : List (ℕ × List (Option ℕ))) (g : Geometry) → g.block ≡ size → g.blocks ≡ blocks
    → AllByRecursion (λ r. IsRow size r × (r.block < blocks)) rows → RisesFrom 0 es → AreEffects size (map access_of rows) es
    → flat_map (λ e. runs_from e.0 0 e.1) es ≡ runs g (map access_of rows)
unfolding runs
runs_of_patches size blocks rows es g is_size is_blocks all rises are =
    runs_are size blocks 0 es (λ b. effects_from (map access_of rows) b 0 size) rises (λ b le. are.each b)
    (λ b le. past_effects size blocks rows b 0 size all (omega arith))
    ∙ λ i. flat_map (block_runs (sym is_size i) (map access_of rows)) (range_with_len 0 (sym is_blocks i))
