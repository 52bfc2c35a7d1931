-- What holds of each version that the records of a log make.
use Rattle.version_read.proofs.Words.{◌≡◌, ap, ℕ, zero, suc, ◌+◌, ◌*◌, ◌<◌, ◌≤◌, ◌==◌, Bool, true, false, cond, nat_le, List, [], ◌∷◌, ◌++◌, length, take, sum_by, arith, length-append, AllByRecursion, get_or_past, sum_by-cons, Geometry, Run, record_length, base_place, image_size, log_place, AreRuns, IsRecord, IsRun, Written, records, length-records, log_inside, Version, IsIndexOf, placed, version_of, versions_of, Lies, BlockVersions, count_of, no_versions, shown_since, still_shows, upto, versions_in, all_shown}

pub all_append : {X : Type 0} (P : X → Type 0) (xs ys : List X) → AllByRecursion P xs → AllByRecursion P ys → AllByRecursion P (xs ++ ys)
all_append P [] ys first second = second
all_append P (x ∷ xs) ys first second = (first.0, all_append P xs ys first.1 second)

pub all_first : {X : Type 0} (P : X → Type 0) (m : ℕ) (xs : List X) → AllByRecursion P xs → AllByRecursion P (take m xs)
all_first P zero xs all = tt
all_first P (suc m) [] all = tt
all_first P (suc m) (x ∷ xs) all = (all.0, all_first P m xs all.1)

pub all_cond : {X : Type 0} (P : X → Type 0) (x : X) (xs : List X) → P x → AllByRecursion P xs → (b : Bool) → AllByRecursion P (cond b (x ∷ xs) xs)
all_cond P x xs one rest true = (one, rest)
all_cond P x xs one rest false = rest

pub all_upto : (P : Version → Type 0) (n : ℕ) (versions : List Version) → AllByRecursion P versions → AllByRecursion P (upto n versions)
all_upto P n [] all = tt
all_upto P n (v ∷ versions) all = all_cond P v (upto n versions) all.0 (all_upto P n versions all.1) (nat_le v.number n)

pub runs_all : (g : Geometry) (parts : List Run) → AreRuns g parts → AllByRecursion (IsRun g) parts
runs_all g [] all = tt
runs_all g (x ∷ []) all = (all, tt)
runs_all g (x ∷ y ∷ more) all = (all.0, runs_all g (y ∷ more) all.2)

every_placed : (P : Version → Type 0) (g : Geometry) (b n at end : ℕ) (parts : List Run) → AllByRecursion (IsRun g) parts → at + sum_by (λ run. 8 + length run.bytes) parts ≤ end
    → ((a : ℕ) (run : Run) → IsRun g run → at ≤ a → a + (8 + length run.bytes) ≤ end → P (version_of n a run)) → AllByRecursion P (placed b n at parts)
every_placed P g b n at end [] runs fits each = tt
every_placed P g b n at end (run ∷ parts) runs fits each =
    let sum = sum_by-cons (λ (r : Run). 8 + length r.bytes) run parts in
    all_cond P (version_of n at run) (placed b n (at + (8 + length run.bytes)) parts) (each at run runs.0 (omega arith) (omega (arith, sum, fits)))
    (every_placed P g b n (at + (8 + length run.bytes)) end parts runs.1 (omega (arith, sum, fits)) (λ a r is from inside. each a r is (omega (arith, from)) inside)) (run.block == b)

-- any property of all versions of a log, given for each run with its number and its place
pub every_version : (P : Version → Type 0) (g : Geometry) (b k at end : ℕ) (told : List Written) → AllByRecursion (IsRecord g) told → at + sum_by (λ w. record_length w.parts) told ≤ end
    → ((n a : ℕ) (run : Run) → k ≤ n → n < k + length told → IsRun g run → at + 20 ≤ a → a + (8 + length run.bytes) ≤ end → P (version_of n a run)) → AllByRecursion P (versions_of b k at told)
every_version P g b k at end [] are fits each = tt
every_version P g b k at end (w ∷ told) are fits each =
    let sum = sum_by-cons (λ (v : Written). record_length v.parts) w told in
    all_append P (placed b k (at + 20) w.parts) (versions_of b (k + 1) (at + record_length w.parts) told)
    (every_placed P g b k (at + 20) end w.parts (runs_all g w.parts are.0.runs) (omega (arith, sum, fits)) (λ a run is from inside. each k a run (omega arith) (omega arith) is from inside))
    (every_version P g b (k + 1) (at + record_length w.parts) end told are.1 (omega (arith, sum, fits))
    (λ n a run from to is behind inside. each n a run (omega (arith, from)) (omega (arith, to)) is (omega (arith, behind)) inside))

-- so it holds of the versions of an index
module _ (g : Geometry) (first place t : ℕ) (told : List Written) (index : List BlockVersions) (has : IsIndexOf g first place t told index) where
  none_past : (b : ℕ) → g.blocks ≤ b → versions_in index b ≡ []
  none_past b past = ap (λ (row : BlockVersions). row.versions) (get_or_past index b no_versions (omega (arith, past, has.blocks)))

  pub every_in : (P : Version → Type 0) (b : ℕ) → AllByRecursion P (versions_of b first place told) → AllByRecursion P (versions_in index b)
  every_in P b all = grind (arith, all_shown, none_past)

  -- no number is above the last record's
  pub numbers_below : (b : ℕ) → AllByRecursion (IsRecord g) told → AllByRecursion (λ v. v.number < first + length told) (versions_in index b)
  numbers_below b are = every_in (λ v. v.number < first + length told) b
      (every_version (λ v. v.number < first + length told) g b first place (place + sum_by (λ w. record_length w.parts) told) told are (omega arith) (λ n a run from to is behind inside. to))

pub all_lie : (g : Geometry) (first at t b : ℕ) (told : List Written) (index : List BlockVersions) → at ≤ 1 → AllByRecursion (IsRecord g) told → length (records g first told) ≤ g.log → IsIndexOf g first (log_place g at) t told index
    → AllByRecursion (Lies g.block (image_size g)) (versions_in index b)
all_lie g first at t b told index half are room has =
    let fits : log_place g at + sum_by (λ w. record_length w.parts) told ≤ image_size g = omega (arith, room, length-records g first told, log_inside g at half) in
    every_in g first (log_place g at) t told index has (Lies g.block (image_size g)) b
    (every_version (Lies g.block (image_size g)) g b first (log_place g at) (image_size g) told are fits (λ n a run from to is behind inside. record { fits = is.fits; inside = omega (arith, inside) }))

-- a block of the base
pub base_lies : (g : Geometry) (at b : ℕ) → at ≤ 1 → b < g.blocks → base_place g at + b * g.block + g.block ≤ image_size g
base_lies g at b half below = grind (arith, log_inside)

-- an index has no more versions than its blocks times the bytes of the records
length_cond : (b : Bool) (v : Version) (xs : List Version) (n m : ℕ) → length xs ≤ n → n + 8 ≤ m → length (cond b (v ∷ xs) xs) ≤ m
length_cond true v xs n m le more = omega (arith, le, more)
length_cond false v xs n m le more = omega (arith, le, more)

few_placed : (b n at : ℕ) (parts : List Run) → length (placed b n at parts) ≤ sum_by (λ run. 8 + length run.bytes) parts
few_placed b n at [] = omega arith
few_placed b n at (run ∷ parts) =
    length_cond (run.block == b) (version_of n at run) (placed b n (at + (8 + length run.bytes)) parts) (sum_by (λ r. 8 + length r.bytes) parts) (sum_by (λ r. 8 + length r.bytes) (run ∷ parts))
    (few_placed b n (at + (8 + length run.bytes)) parts) (omega (arith, sum_by-cons (λ (r : Run). 8 + length r.bytes) run parts))

few_versions : (b n at : ℕ) (told : List Written) → length (versions_of b n at told) ≤ sum_by (λ w. record_length w.parts) told
few_versions b n at [] = omega arith
few_versions b n at (w ∷ told) =
    omega (
      arith,
      length-append (placed b n (at + 20) w.parts) (versions_of b (n + 1) (at + record_length w.parts) told),
      few_placed b n (at + 20) w.parts,
      few_versions b (n + 1) (at + record_length w.parts) told,
      sum_by-cons (λ (v : Written). record_length v.parts) w told,
    )

few_shown : (t : ℕ) (versions : List Version) → length (shown_since t versions) ≤ length versions
few_shown t [] = omega arith
few_shown t (v ∷ versions) = one_step (still_shows t v versions) v (shown_since t versions) (length versions) (few_shown t versions)
  where
    one_step : (b : Bool) (v : Version) (xs : List Version) (n : ℕ) → length xs ≤ n → length (cond b (v ∷ xs) xs) ≤ suc n
    one_step true v xs n le = omega (arith, le)
    one_step false v xs n le = omega (arith, le)

few_rows : (most : ℕ) (rows : List BlockVersions) → ((b : ℕ) → b < length rows → length (versions_in rows b) ≤ most) → count_of rows ≤ length rows * most
few_rows most [] each = omega arith
few_rows most (row ∷ rows) each =
    let rest = few_rows most rows (λ b below. each (suc b) (omega (arith, below))) in
    omega (arith, sum_by-cons (λ (r : BlockVersions). length r.versions) row rows, each 0 (omega arith), rest)

pub count_le : (g : Geometry) (first place t : ℕ) (told : List Written) (index : List BlockVersions) → IsIndexOf g first place t told index → count_of index ≤ g.blocks * length (records g first told)
count_le g first place t told index has = grind (arith, few_rows, few_shown, few_versions, length-records)
