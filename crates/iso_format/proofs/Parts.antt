-- The record of parts that lie in an image is short.
use Rattle.iso_format.proofs.Words.{limits, ◌≡◌, ℕ, zero, suc, ◌+◌, ◌*◌, ◌^◌, ◌<◌, ◌≤◌, inl, inr, List, [], ◌∷◌, length, get_or, flat_map, arith, refl, mul-le-mul_right, length-append, sum_by-cons, Geometry, Run, record_length, IsRun, AreRuns, ComesAfter, body_length, part, spell, LieInAnImage}

-- where a run begins, where each block has a byte more
place : Geometry → Run → ℕ
place g run = run.block * (g.block + 1) + run.off

-- what a run takes of a record is at most eight times what it takes of the blocks
last_run : (g : Geometry) (x : Run) → IsRun g x → 8 + length x.bytes + 8 * place g x ≤ 8 * (g.blocks * (g.block + 1))
unfolding place
last_run g x r = grind arith

next_run : (g : Geometry) (x y : Run) → IsRun g x → ComesAfter x y → 8 + length x.bytes + 8 * place g x ≤ 8 * place g y
unfolding place
next_run g x y r (inl later) =
    let size : (x.block + 1) * (g.block + 1) ≤ y.block * (g.block + 1) = mul-le-mul_right (g.block + 1) (omega arith) in
    omega (arith, size, r.fits)
next_run g x y r (inr same) = rw (← same.0) (omega (arith, same.1))

body_fits : (g : Geometry) (x : Run) (more : List Run) → AreRuns g (x ∷ more) → body_length (x ∷ more) + 8 * place g x ≤ 8 * (g.blocks * (g.block + 1))
body_fits g x [] r = omega (arith, last_run g x r)
body_fits g x (y ∷ more) r =
    let first = next_run g x y r.0 r.1 in
    let rest = body_fits g y more r.2 in
    let step = sum_by-cons (λ (run : Run). 8 + length run.bytes) x (y ∷ more) in
    omega arith

-- the length of the body of a record whose parts lie in an image
pub body_bound : (parts : List Run) → LieInAnImage parts → body_length parts < 2 ^ 30
body_bound [] h = omega arith
body_bound (x ∷ more) h =
    let g = h.0 in
    let b = limits g h.1 in
    let fits = body_fits g x more h.2 in
    let size : g.blocks * (g.block + 1) ≤ 16384 * (g.block + 1) = mul-le-mul_right (g.block + 1) b.most_blocks in
    omega (arith, fits, size, b.largest_block)

-- there are not more parts than bytes
pub count_bound : (parts : List Run) → length parts ≤ body_length parts
count_bound [] = omega arith
count_bound (x ∷ more) = omega (arith, count_bound more, sum_by-cons (λ (run : Run). 8 + length run.bytes) x more)

run_at : (g : Geometry) (parts : List Run) (i : ℕ) (d : Run) → AreRuns g parts → i < length parts → IsRun g (get_or parts i d)
run_at g [] i d r lt = absurd (omega arith)
run_at g (x ∷ []) zero d r lt = r
run_at g (x ∷ []) (suc i) d r lt = absurd (omega arith)
run_at g (x ∷ y ∷ more) zero d r lt = r.0
run_at g (x ∷ y ∷ more) (suc i) d r lt = run_at g (y ∷ more) i d r.2 (omega arith)

-- no part has more bytes than a block
pub part_bound : (parts : List Run) (i : ℕ) (d : Run) → LieInAnImage parts → i < length parts → length (get_or parts i d).bytes ≤ 4096
part_bound parts i d h lt = omega (arith, (run_at h.0 parts i d h.2 lt).fits, (limits h.0 h.1).largest_block)

pub length-flat_map-part : (parts : List Run) → length (flat_map part parts) ≡ body_length parts
length-flat_map-part [] = refl
length-flat_map-part (x ∷ more) =
    omega (arith, length-flat_map-part more, sum_by-cons (λ (run : Run). 8 + length run.bytes) x more, length-append (part x) (flat_map part more))

-- how long a record is
pub length-spell : (gate kind n : ℕ) (parts : List Run) → length (spell gate kind n parts) ≡ record_length parts
unfolding spell
length-spell gate kind n parts = omega (arith, length-flat_map-part parts)
