-- Two versions of 64 bytes at most take few bytes.
use Rattle.std.proofs.{Common.{◌≡◌, ◌∙◌, ℕ, suc, ◌+◌, ◌*◌, ◌^◌, ◌<◌, ◌≤◌, Bool, true, false, cond, nat_lt, List, [], ◌∷◌, length, arith}, lemmas.List.Sums.sum_by-cons}
use Rattle.mv_index.{specs.declared.version.Version.Version, specs.Shown.AllLie, specs.Versions.{BlockVersions, versions_in}, specs.Weights.{bytes_above, part_bytes_above}, proofs.Weights.weight_first}

one_row : (n : ℕ) (index : List BlockVersions) → length index ≡ 1 → bytes_above n index ≡ part_bytes_above n (versions_in index 0)
one_row n [] one = absurd (omega (arith, one))
one_row n (row ∷ []) one = sum_by-cons (λ (r : BlockVersions). part_bytes_above n r.versions) row [] ∙ omega arith
one_row n (row ∷ other ∷ rows) one = absurd (omega (arith, one))

small : (v : Version) → v.len ≤ 64 → (b : Bool) → cond b (8 + v.len) 0 ≤ 72
small v le true = omega (arith, le)
small v le false = omega arith

all_small : (n : ℕ) (xs : List Version) → AllLie 64 300 xs → part_bytes_above n xs ≤ 72 * length xs
all_small n [] lie = omega arith
all_small n (v ∷ xs) lie =
    let fits = (lie 0 (omega arith)).fits in
    let one = small v (omega (arith, fits)) (nat_lt n v.number) in
    let rest = all_small n xs (λ i below. lie (suc i) (omega (arith, below))) in
    omega (arith, one, rest, weight_first n v xs)

pub two_small : (n : ℕ) (index : List BlockVersions) → length index ≡ 1 → ((b : ℕ) → AllLie 64 300 (versions_in index b)) → length (versions_in index 0) ≡ 2 → bytes_above n index < 2 ^ 64
two_small n index one lie count = (let small = all_small n (versions_in index 0) (lie 0) in omega (arith, one_row n index one, small, count))
