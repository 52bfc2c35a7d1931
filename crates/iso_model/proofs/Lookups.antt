-- Which value runs have at a byte.
use Rattle.iso_model.proofs.Words.{◌≡◌, ◌≢◌, ◌⊎◌, ◌∙◌, sym, refl, ap, ℕ, zero, suc, ◌+◌, ◌-◌, ◌<◌, ◌≤◌, Bool, true, false, ◌&&◌, ◌==◌, nat_le, nat_lt, cond, IsTrue, List, [], ◌∷◌, ◌++◌, length, get_or, Option, Some, None, arith, inl, inr, eq-eqb, ne_eqb, AllByRecursion, flat_map, range_with_len, cases_eq, eqb-true, nat_tests, Access, Geometry, Run, or_else, effect_at, effects_from, joined, runs_from, block_runs, runs, in_run, value_of, value_in}

-- the runs stand in block b, from p on
abbrev pub StandIn : (b p : ℕ) → List Run → Type 0
StandIn b p runs = AllByRecursion (λ run. (run.block ≡ b) × (p ≤ run.off)) runs

pub stand_earlier : (b p q : ℕ) (runs : List Run) → q ≤ p → StandIn b p runs → StandIn b q runs
stand_earlier b p q [] le all = tt
stand_earlier b p q (run ∷ runs) le all = ((all.0.0, omega arith), stand_earlier b p q runs le all.1)

pub joined_stand : (b p value : ℕ) (runs : List Run) → StandIn b (p + 1) runs → StandIn b p (joined b p value runs)
joined_stand b p value [] all = ((refl, omega arith), tt)
joined_stand b p value (run ∷ runs) all = grind (arith, stand_earlier)

pub runs_stand : (b p : ℕ) (values : List (Option ℕ)) → StandIn b p (runs_from b p values)
runs_stand b p [] = tt
runs_stand b p (None ∷ values) = stand_earlier b (p + 1) p (runs_from b (p + 1) values) (omega arith) (runs_stand b (p + 1) values)
runs_stand b p (Some value ∷ values) = joined_stand b p value (runs_from b (p + 1) values) (runs_stand b (p + 1) values)

pub or_else_none : (o : Option ℕ) → or_else o None ≡ o
or_else_none o = grind arith

pub or_else_assoc : (x y z : Option ℕ) → or_else (or_else x y) z ≡ or_else x (or_else y z)
or_else_assoc x y z = grind arith

-- a run has no byte of another block, and none before it
value_of_other : (run : Run) (b q : ℕ) → run.block ≢ b → value_of run b q ≡ None
value_of_other run b q other = let not : (run.block == b) ≡ false = ne_eqb run.block b other in rw not refl

value_of_before : (run : Run) (b q : ℕ) → q < run.off → value_of run b q ≡ None
value_of_before run b q before = grind arith

pub value_before : (b p q : ℕ) (runs : List Run) → StandIn b p runs → q < p → value_in runs b q ≡ None
value_before b p q [] all before = refl
value_before b p q (run ∷ runs) all before =
    rw (value_before b p q runs all.1 before) (value_of_before run b q (omega arith))

pub value_elsewhere : (b p c q : ℕ) (runs : List Run) → StandIn b p runs → b ≢ c → value_in runs c q ≡ None
value_elsewhere b p c q [] all other = refl
value_elsewhere b p c q (run ∷ runs) all other =
    rw (value_elsewhere b p c q runs all.1 other) (value_of_other run c q (λ e. other (sym all.0.0 ∙ e)))

pub value_of_within : (run : Run) (b q x : ℕ) → in_run b q run ≡ true → get_or run.bytes (q - run.off) 0 ≡ x → value_of run b q ≡ Some x
value_of_within run b q x within value = rw (within, value) refl

pub value_of_outside : (run : Run) (b q : ℕ) → in_run b q run ≡ false → value_of run b q ≡ None
value_of_outside run b q outside = rw outside refl

-- the tests of a run in its own block
in_run_of : (b p q : ℕ) (bytes : List ℕ) → in_run b q (record { block = b; off = p; bytes = bytes }) ≡ (nat_le p q && nat_lt q (p + length bytes))
in_run_of b p q bytes = let same : (b == b) ≡ true = eq-eqb b b refl in rw same refl

within_span : (p q n : ℕ) → p ≤ q → q < p + n → (nat_le p q && nat_lt q (p + n)) ≡ true
within_span p q n from below = grind (arith, nat_tests)

outside_span : (p q n : ℕ) → (q < p) ⊎ (p + n ≤ q) → (nat_le p q && nat_lt q (p + n)) ≡ false
outside_span p q n outside = grind (arith, nat_tests)

same_tests : (p q n : ℕ) → p < q → (nat_le p q && nat_lt q (p + suc n)) ≡ (nat_le (p + 1) q && nat_lt q (p + 1 + n))
same_tests p q n behind = grind (arith, nat_tests)

value_of_same : (x y : Run) (b q : ℕ) → in_run b q x ≡ in_run b q y → get_or x.bytes (q - x.off) 0 ≡ get_or y.bytes (q - y.off) 0 → value_of x b q ≡ value_of y b q
value_of_same x y b q tests values = rw (tests, values) refl

-- a run of one byte
value_of_one : (b p value q : ℕ) → value_of (record { block = b; off = p; bytes = value ∷ [] }) b q ≡ cond (q == p) (Some value) None
value_of_one b p value q = grind (arith, value_of_within, in_run_of, within_span, value_of_outside, outside_span)

-- a run with one more byte before it
value_of_longer : (b p value : ℕ) (bytes : List ℕ) (q : ℕ)
    → value_of (record { block = b; off = p; bytes = value ∷ bytes }) b q ≡ cond (q == p) (Some value) (value_of (record { block = b; off = p + 1; bytes = bytes }) b q)
value_of_longer b p value bytes q = search (arith, value_of_within, in_run_of, within_span, value_of_outside, outside_span, same_tests, value_of_same)

or_else_cond : (o : Option ℕ) (test : Bool) (x : ℕ) (y : Option ℕ) → (IsTrue test → o ≡ None) → or_else o (cond test (Some x) y) ≡ cond test (Some x) (or_else o y)
or_else_cond o true x y none = rw (none refl) refl
or_else_cond o false x y none = refl

pub value_joined : (b p value q : ℕ) (runs : List Run) → StandIn b (p + 1) runs
    → value_in (joined b p value runs) b q ≡ cond (q == p) (Some value) (value_in runs b q)
value_joined b p value q [] all = value_of_one b p value q
value_joined b p value q (run ∷ runs) all = elim (cases_eq run.off (p + 1)) [
  | inl e ↦
      (let same : (run.off == p + 1) ≡ true = eq-eqb run.off (p + 1) e in
      let longer = value_of_longer b p value run.bytes q in
      let block = all.0.0 in
      rw same
      (ap (or_else (value_in runs b q)) (longer ∙ ap (λ (r : Run). cond (q == p) (Some value) (value_of r b q))
      (λ i. record { block = sym block i; off = sym e i; bytes = run.bytes }))
      ∙ or_else_cond (value_in runs b q) (q == p) value (value_of run b q) (λ t. value_before b (p + 1) q runs all.1 (omega (arith, eqb-true q p t)))))
  | inr apart ↦
      (let not : (run.off == p + 1) ≡ false = ne_eqb run.off (p + 1) apart in
      rw not
      (ap (or_else (value_in (run ∷ runs) b q)) (value_of_one b p value q)
      ∙ or_else_cond (value_in (run ∷ runs) b q) (q == p) value None (λ t. value_before b (p + 1) q (run ∷ runs) all (omega (arith, eqb-true q p t)))
      ∙ ap (λ o. cond (q == p) (Some value) o) (or_else_none (value_in (run ∷ runs) b q))))
]

-- the value in the runs of a list of values
pub value_runs_from : (b p : ℕ) (values : List (Option ℕ)) (k : ℕ) → value_in (runs_from b p values) b (p + k) ≡ get_or values k None
value_runs_from b p [] k = refl
value_runs_from b p (None ∷ values) zero = value_before b (p + 1) (p + 0) (runs_from b (p + 1) values) (runs_stand b (p + 1) values) (omega arith)
value_runs_from b p (None ∷ values) (suc k) =
    let e : p + suc k ≡ p + 1 + k = omega arith in
    rw e (value_runs_from b (p + 1) values k)
value_runs_from b p (Some value ∷ values) zero = grind (arith, value_joined, runs_stand)
value_runs_from b p (Some value ∷ values) (suc k) =
    let there : (p + suc k == p) ≡ false = ne_eqb (p + suc k) p (λ same. omega arith) in
    let e : p + suc k ≡ p + 1 + k = omega arith in
    value_joined b p value (p + suc k) (runs_from b (p + 1) values) (runs_stand b (p + 1) values)
    ∙ rw there (rw e (value_runs_from b (p + 1) values k))

pub length-effects : (accesses : List Access) (b p n : ℕ) → length (effects_from accesses b p n) ≡ n
length-effects accesses b p zero = refl
length-effects accesses b p (suc n) = ap suc (length-effects accesses b (p + 1) n)

pub effects_at : (accesses : List Access) (b p n k : ℕ) → k < n → get_or (effects_from accesses b p n) k None ≡ effect_at accesses b (p + k)
effects_at accesses b p zero k below = absurd (omega arith)
effects_at accesses b p (suc n) zero below = let e : p + 0 ≡ p = omega arith in rw e refl
effects_at accesses b p (suc n) (suc k) below =
    let e : p + suc k ≡ p + 1 + k = omega arith in
    rw e (effects_at accesses b (p + 1) n k (omega arith))

pub value_block_runs : (size : ℕ) (accesses : List Access) (b p : ℕ) → p < size → value_in (block_runs size accesses b) b p ≡ effect_at accesses b p
value_block_runs size accesses b p inside =
    let e : 0 + p ≡ p = omega arith in
    rw e at (value_runs_from b 0 (effects_from accesses b 0 size) p ∙ effects_at accesses b 0 size p inside)

pub value_append : (xs ys : List Run) (b p : ℕ) → value_in (xs ++ ys) b p ≡ or_else (value_in ys b p) (value_in xs b p)
value_append [] ys b p = sym (or_else_none (value_in ys b p))
value_append (x ∷ xs) ys b p =
    ap (λ o. or_else o (value_of x b p)) (value_append xs ys b p)
    ∙ or_else_assoc (value_in ys b p) (value_in xs b p) (value_of x b p)

-- runs of later blocks
value_later : (size : ℕ) (accesses : List Access) (a n b p : ℕ) → b < a → value_in (flat_map (block_runs size accesses) (range_with_len a n)) b p ≡ None
value_later size accesses a zero b p before = refl
value_later size accesses a (suc n) b p before =
    value_append (block_runs size accesses a) (flat_map (block_runs size accesses) (range_with_len (a + 1) n)) b p
    ∙ ap (λ o. or_else o (value_in (block_runs size accesses a) b p)) (value_later size accesses (a + 1) n b p (omega arith))
    ∙ value_elsewhere a 0 b p (block_runs size accesses a) (runs_stand a 0 (effects_from accesses a 0 size)) (λ e. omega arith)

value_blocks : (size : ℕ) (accesses : List Access) (a n b p : ℕ) → a ≤ b → b < a + n → p < size
    → value_in (flat_map (block_runs size accesses) (range_with_len a n)) b p ≡ effect_at accesses b p
value_blocks size accesses a zero b p from below inside = absurd (omega arith)
value_blocks size accesses a (suc n) b p from below inside =
    value_append (block_runs size accesses a) (flat_map (block_runs size accesses) (range_with_len (a + 1) n)) b p
    ∙ elim (cases_eq a b) [
      | inl e ↦
          ap (λ o. or_else o (value_in (block_runs size accesses a) b p)) (value_later size accesses (a + 1) n b p (omega arith))
          ∙ rw e (value_block_runs size accesses b p inside)
      | inr other ↦
          ap (or_else (value_in (flat_map (block_runs size accesses) (range_with_len (a + 1) n)) b p))
          (value_elsewhere a 0 b p (block_runs size accesses a) (runs_stand a 0 (effects_from accesses a 0 size)) other)
          ∙ or_else_none (value_in (flat_map (block_runs size accesses) (range_with_len (a + 1) n)) b p)
          ∙ value_blocks size accesses (a + 1) n b p (omega arith) (omega arith) inside
    ]

-- the runs have the values that the list writes, and no others
pub value_runs : (g : Geometry) (accesses : List Access) (b p : ℕ) → b < g.blocks → p < g.block → value_in (runs g accesses) b p ≡ effect_at accesses b p
unfolding runs
value_runs g accesses b p block inside = value_blocks g.block accesses 0 g.blocks b p (omega arith) (omega arith) inside
