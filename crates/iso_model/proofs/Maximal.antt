-- The runs of what a list writes are maximal, rising and in the array.
use Rattle.iso_model.proofs.{Words.{◌≡◌, sym, ℕ, zero, suc, ◌+◌, ◌<◌, ◌≤◌, true, false, ◌==◌, List, [], ◌∷◌, ◌++◌, length, Option, Some, None, arith, inl, inr, eq-eqb, ne_eqb, AllByRecursion, flat_map, range_with_len, cases_eq, Access, Geometry, Run, effects_from, joined, runs_from, block_runs, runs, IsRun, AreRuns}, Lookups.{StandIn, runs_stand, length-effects}}

-- the first run may be exchanged for one that begins earlier and ends where it does
longer_runs : (g : Geometry) (x y : Run) (runs : List Run) → IsRun g y → y.block ≡ x.block → y.off + length y.bytes ≡ x.off + length x.bytes
    → AreRuns g (x ∷ runs) → AreRuns g (y ∷ runs)
longer_runs g x y [] is block end all = is
longer_runs g x y (z ∷ runs) is block end all = grind arith

joined_runs : (g : Geometry) (b p value : ℕ) (runs : List Run) → b < g.blocks → p < g.block → StandIn b (p + 1) runs → AreRuns g runs → AreRuns g (joined b p value runs)
joined_runs g b p value [] block inside stand all = record { block = block; some = omega arith; fits = omega arith }
joined_runs g b p value (run ∷ runs) block inside stand all =
    elim (cases_eq run.off (p + 1)) [
      | inl e ↦
          (let same : (run.off == p + 1) ≡ true = eq-eqb run.off (p + 1) e in
          let is : IsRun g run = first_is g run runs all in
          rw same (longer_runs g run (record { block = b; off = p; bytes = value ∷ run.bytes }) runs
          (record { block = block; some = omega arith; fits = omega (arith, is.fits) }) (sym stand.0.0) (omega arith) all))
      | inr apart ↦
          (let not : (run.off == p + 1) ≡ false = ne_eqb run.off (p + 1) apart in
          rw not (record { block = block; some = omega arith; fits = omega arith }, inr (sym stand.0.0, omega arith), all))
    ]
  where
    first_is : (g : Geometry) (x : Run) (runs : List Run) → AreRuns g (x ∷ runs) → IsRun g x
    first_is g x [] all = all
    first_is g x (y ∷ runs) all = all.0

runs_from_are : (g : Geometry) (b p : ℕ) (values : List (Option ℕ)) → b < g.blocks → p + length values ≤ g.block → AreRuns g (runs_from b p values)
runs_from_are g b p [] block fits = tt
runs_from_are g b p (None ∷ values) block fits = runs_from_are g b (p + 1) values block (omega arith)
runs_from_are g b p (Some value ∷ values) block fits =
    joined_runs g b p value (runs_from b (p + 1) values) block (omega arith) (runs_stand b (p + 1) values) (runs_from_are g b (p + 1) values block (omega arith))

-- the runs stand in block a or later
abbrev StandFrom : (a : ℕ) → List Run → Type 0
StandFrom a runs = AllByRecursion (λ run. a ≤ run.block) runs

stand_append : (a : ℕ) (xs ys : List Run) → StandFrom a xs → StandFrom a ys → StandFrom a (xs ++ ys)
stand_append a [] ys first second = second
stand_append a (x ∷ xs) ys first second = (first.0, stand_append a xs ys first.1 second)

stand_in_from : (a p : ℕ) (xs : List Run) → StandIn a p xs → StandFrom a xs
stand_in_from a p [] all = tt
stand_in_from a p (x ∷ xs) all = (omega arith, stand_in_from a p xs all.1)

stand_from_later : (a c : ℕ) (xs : List Run) → a ≤ c → StandFrom c xs → StandFrom a xs
stand_from_later a c [] le all = tt
stand_from_later a c (x ∷ xs) le all = (omega arith, stand_from_later a c xs le all.1)

stand_blocks : (size : ℕ) (accesses : List Access) (a n : ℕ) → StandFrom a (flat_map (block_runs size accesses) (range_with_len a n))
stand_blocks size accesses a zero = tt
stand_blocks size accesses a (suc n) =
    stand_append a (block_runs size accesses a) (flat_map (block_runs size accesses) (range_with_len (a + 1) n))
    (stand_in_from a 0 (block_runs size accesses a) (runs_stand a 0 (effects_from accesses a 0 size)))
    (stand_from_later a (a + 1) (flat_map (block_runs size accesses) (range_with_len (a + 1) n)) (omega arith) (stand_blocks size accesses (a + 1) n))

append_runs : (g : Geometry) (a p : ℕ) (xs ys : List Run) → StandIn a p xs → StandFrom (a + 1) ys → AreRuns g xs → AreRuns g ys → AreRuns g (xs ++ ys)
append_runs g a p [] ys stand later first second = second
append_runs g a p (x ∷ []) [] stand later first second = first
append_runs g a p (x ∷ []) (y ∷ ys) stand later first second = (first, inl (omega arith), second)
append_runs g a p (x ∷ z ∷ xs) ys stand later first second = (first.0, first.1, append_runs g a p (z ∷ xs) ys stand.1 later first.2 second)

blocks_are_runs : (g : Geometry) (accesses : List Access) (a n : ℕ) → a + n ≤ g.blocks → AreRuns g (flat_map (block_runs g.block accesses) (range_with_len a n))
blocks_are_runs g accesses a zero fits = tt
blocks_are_runs g accesses a (suc n) fits =
    append_runs g a 0 (block_runs g.block accesses a) (flat_map (block_runs g.block accesses) (range_with_len (a + 1) n))
    (runs_stand a 0 (effects_from accesses a 0 g.block)) (stand_blocks g.block accesses (a + 1) n)
    (runs_from_are g a 0 (effects_from accesses a 0 g.block) (omega arith) (omega (arith, length-effects accesses a 0 g.block)))
    (blocks_are_runs g accesses (a + 1) n (omega arith))

-- the runs of a list of accesses
pub are_runs : (g : Geometry) (accesses : List Access) → AreRuns g (runs g accesses)
unfolding runs
are_runs g accesses = blocks_are_runs g accesses 0 g.blocks (omega arith)
