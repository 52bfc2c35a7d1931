-- Memory for the commits of a plan.
use Rattle.iso_core.proofs.{Words.{◌≡◌, ◌∙◌, inl, inr, nat_lt, sym, refl, ap, ℕ, ◌+◌, ◌^◌, ◌<◌, ◌≤◌, cond, List, [], ◌∷◌, length, sum_by, arith, AllByRecursion, cases_lt, le-ltb, lt-ltb, length-append, length-map, sum_by-IsPermutation, sum_by-cons, Commit, Geometry, Run, record_length, runs, written, limits, are_runs, World, IsWorld, BlockVersions, PartSpan, HasRoom, part_of, parts_below, Plan, IsAhead, all_parts, parts_of, all_append}, Judging.used_ahead}
use Rattle.std.specs.List.Sorted.{IsPermutation}

-- room for the sorted parts is room for the parts in order
pub room_sorted : (xs ys : List PartSpan) (index : List BlockVersions) → IsPermutation xs ys → HasRoom ys index → HasRoom xs index
room_sorted xs ys index same room b = grind (arith, sum_by-IsPermutation)

-- the parts of all records lie in the array
pub all_below : (g : Geometry) (commits : List Commit) → AllByRecursion (λ (part : PartSpan). part.block < g.blocks) (all_parts g commits)
all_below g [] = tt
all_below g (c ∷ commits) = all_append (λ (part : PartSpan). part.block < g.blocks) (parts_of g c) (all_parts g commits) (parts_below g (runs g c.accesses) (are_runs g c.accesses)) (all_below g commits)

few_runs : (rs : List Run) → length rs ≤ sum_by (λ (run : Run). 8 + length run.bytes) rs
few_runs [] = omega arith
few_runs (r ∷ rs) = omega (arith, sum_by-cons (λ (run : Run). 8 + length run.bytes) r rs, few_runs rs)

-- there are not more of them than bytes in their records
pub all_few : (g : Geometry) (commits : List Commit) → length (all_parts g commits) ≤ sum_by (λ (c : Commit). record_length (written g c).parts) commits
all_few g [] = omega arith
all_few g (c ∷ commits) =
    let both = length-append (parts_of g c) (all_parts g commits) in
    let one : length (parts_of g c) ≡ length (runs g c.accesses) = length-map (runs g c.accesses) part_of in
    omega (arith, both, one, few_runs (runs g c.accesses), all_few g commits, sum_by-cons (λ (d : Commit). record_length (written g d).parts) c commits)

abbrev high : ℕ → PartSpan → ℕ
high n part = cond (nat_lt part.block n) 0 1

none_high : (n : ℕ) (ps : List PartSpan) → AllByRecursion (λ (part : PartSpan). part.block < n) ps → sum_by (high n) ps ≡ 0
none_high n [] all = refl
none_high n (p ∷ ps) all =
    let one : high n p ≡ 0 = rw (lt-ltb p.block n all.0) refl in
    omega (arith, sum_by-cons (high n) p ps, one, none_high n ps all.1)

all_low : (n : ℕ) (ps : List PartSpan) → sum_by (high n) ps ≡ 0 → AllByRecursion (λ (part : PartSpan). part.block < n) ps
all_low n [] e = tt
all_low n (p ∷ ps) e =
    let s = sum_by-cons (high n) p ps in
    elim (cases_lt p.block n) [
      | inl lt ↦ (lt, all_low n ps (omega (arith, e, s)))
      | inr le ↦ (let one : high n p ≡ 1 = rw (le-ltb p.block n le) refl in absurd (omega (arith, e, s, one)))
    ]

-- what lies in the array lies there in any order
pub sorted_below : (n : ℕ) (xs ys : List PartSpan) → IsPermutation xs ys → AllByRecursion (λ (part : PartSpan). part.block < n) xs → AllByRecursion (λ (part : PartSpan). part.block < n) ys
sorted_below n xs ys same all = all_low n ys (sum_by-IsPermutation (high n) xs ys same ∙ none_high n xs all)

ones : (ps : List PartSpan) → sum_by (λ (part : PartSpan). 1) ps ≡ length ps
ones [] = refl
ones (p ∷ ps) = let e = sum_by-cons (λ (part : PartSpan). 1) p ps in omega (arith, e, ones ps)

pub sorted_many : (xs ys : List PartSpan) → IsPermutation xs ys → length ys ≡ length xs
sorted_many xs ys same = sym (ones ys) ∙ sum_by-IsPermutation (λ (part : PartSpan). 1) xs ys same ∙ ones xs

pub few_staged : (W : World) (more : List Commit) (plan : Plan) (ys : List PartSpan) → IsWorld W → IsAhead W more plan → IsPermutation plan.parts.items ys → length ys < 2 ^ 32
few_staged W more plan ys base is same =
    let parts = ap (λ (l : List PartSpan). length l) is.parts in
    omega (arith, sorted_many plan.parts.items ys same, parts, all_few W.geometry more, used_ahead W more base, is.world.room, (limits W.geometry base.valid).largest_log)
