-- The next record of a half may be taken in.
use Rattle.version_read.proofs.{Words.{◌≡◌, inl, inr, sym, ap, ℕ, zero, suc, ◌+◌, ◌*◌, ◌^◌, ◌<◌, ◌≤◌, IsTrue, List, [], ◌∷◌, length, map, sum_by, arith, subst, AllByRecursion, length-map, sum_by-append, sum_by-cons, mul-le-mul_right, Geometry, Run, record_length, is_valid, log_place, AreRuns, IsRecord, IsRun, Written, records, limits, length-records, sum_by-map, Half, MayFollow, last_told, next_gate, told_bytes, log_inside, IsIndexOf, BlockVersions, no_version, versions_in, all_at, PartSpan, BlocksRise, IsPart, MayTake, no_part, part_of, parts_length}, Lying.{count_le, numbers_below, runs_all}}

pub parts_all : (g : Geometry) (parts : List Run) → g.block ≤ 4096 → AllByRecursion (IsRun g) parts → AllByRecursion (IsPart g.blocks) (map part_of parts)
parts_all g [] small all = tt
parts_all g (run ∷ parts) small all = (record { block = all.0.block; fits = omega (arith, all.0.fits, small) }, parts_all g parts small all.1)

blocks_all : (g : Geometry) (parts : List Run) → AllByRecursion (IsRun g) parts → AllByRecursion (λ part. part.block < g.blocks) (map part_of parts)
blocks_all g [] all = tt
blocks_all g (run ∷ parts) all = (all.0.block, blocks_all g parts all.1)

pub parts_below : (g : Geometry) (parts : List Run) → AreRuns g parts → AllByRecursion (λ part. part.block < g.blocks) (map part_of parts)
parts_below g parts are = blocks_all g parts (runs_all g parts are)

small_all : (g : Geometry) (parts : List Run) → g.block ≤ 4096 → AllByRecursion (IsRun g) parts → AllByRecursion (λ run. length run.bytes < 2 ^ 16) parts
small_all g [] small all = tt
small_all g (run ∷ parts) small all = (omega (arith, all.0.fits, small), small_all g parts small all.1)

pub parts_small : (g : Geometry) (parts : List Run) → IsTrue (is_valid g) → AreRuns g parts → AllByRecursion (λ run. length run.bytes < 2 ^ 16) parts
parts_small g parts valid are = small_all g parts (limits g valid).largest_block (runs_all g parts are)

-- the blocks of runs do not fall
far : (g : Geometry) (b : ℕ) (x : Run) (rest : List Run) → b ≤ x.block → AreRuns g (x ∷ rest) → AllByRecursion (λ part. b ≤ part.block) (map part_of (x ∷ rest))
far g b x [] le are = (le, tt)
far g b x (y ∷ rest) le are = (le, far g b y rest (elim are.1 [ inl lt ↦ omega (arith, le, lt) | inr same ↦ omega (arith, le, same.0) ]) are.2)

rest_runs : (g : Geometry) (x : Run) (rest : List Run) → AreRuns g (x ∷ rest) → AreRuns g rest
rest_runs g x [] are = tt
rest_runs g x (y ∷ rest) are = are.2

pub parts_rise : (g : Geometry) (parts : List Run) → AreRuns g parts → BlocksRise (map part_of parts)
parts_rise g [] are i j le below = absurd (omega (arith, below))
parts_rise g (x ∷ rest) are zero j le below = all_at (λ part. x.block ≤ part.block) no_part (map part_of (x ∷ rest)) (far g x.block x rest (omega arith) are) j below
parts_rise g (x ∷ rest) are (suc i) zero le below = absurd (omega (arith, le))
parts_rise g (x ∷ rest) are (suc i) (suc j) le below = parts_rise g rest (rest_runs g x rest are) i j (omega (arith, le)) (omega (arith, below))

parts_length_of : (parts : List Run) → 20 + parts_length (map part_of parts) ≡ record_length parts
parts_length_of parts = ap (λ (n : ℕ). 20 + n) (sum_by-map (λ (part : PartSpan). 8 + part.len) part_of parts)

count_parts : (parts : List Run) → length parts ≤ sum_by (λ run. 8 + length run.bytes) parts
count_parts [] = omega arith
count_parts (run ∷ parts) = omega (arith, count_parts parts, sum_by-cons (λ (r : Run). 8 + length r.bytes) run parts)

-- the next record fits the log
fits_log : (g : Geometry) (x : Half) (w : Written) → MayFollow g x (w ∷ []) → length (told_bytes g x) + record_length w.parts < g.log
fits_log g x w may = grind (arith, length-records, sum_by-append, sum_by-cons)

pub parts_few : (g : Geometry) (x : Half) (w : Written) → IsTrue (is_valid g) → MayFollow g x (w ∷ []) → length (map part_of w.parts) < 2 ^ 32
parts_few g x w valid may = omega (arith, length-map w.parts part_of, count_parts w.parts, fits_log g x w may, (limits g valid).largest_log)

pub may_take : (g : Geometry) (x : Half) (t : ℕ) (w : Written) (index : List BlockVersions) → IsTrue (is_valid g) → x.at ≤ 1 → AllByRecursion (IsRecord g) x.told → MayFollow g x (w ∷ [])
    → IsIndexOf g (x.base + 1) (log_place g x.at) t x.told index → MayTake (last_told x + 1) (next_gate g x) (map part_of w.parts) index
may_take g x t w index valid half are may has =
    let lim = limits g valid in
    let room = fits_log g x w may in
    record {
      parts_fit = subst (λ (n : ℕ). AllByRecursion (IsPart n) (map part_of w.parts)) (sym has.blocks) (parts_all g w.parts lim.largest_block (runs_all g w.parts may.each.0.runs));
      rising = λ b i below. (let lt = all_at (λ v. v.number < x.base + 1 + length x.told) no_version (versions_in index b) (numbers_below g (x.base + 1) (log_place g x.at) t x.told index has b are) i below in omega (arith, lt));
      place = omega (arith, parts_length_of w.parts, room, log_inside g x.at half, lim.image);
      count =
          let crude : g.blocks * length (records g (x.base + 1) x.told) ≤ 16384 * length (records g (x.base + 1) x.told) = mul-le-mul_right (length (records g (x.base + 1) x.told)) lim.most_blocks in
          omega (arith, count_le g (x.base + 1) (log_place g x.at) t x.told index has, crude, room, lim.largest_log, count_parts w.parts, length-map w.parts part_of);
    }
