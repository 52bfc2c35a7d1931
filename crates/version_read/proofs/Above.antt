-- How many bytes the records above a number take, by their index.
use Rattle.version_read.proofs.Words.{◌≡◌, ◌∙◌, sym, ap, ℕ, zero, suc, ◌+◌, ◌-◌, ◌*◌, ◌<◌, List, [], ◌∷◌, length, drop, sum_by, arith, AllByRecursion, sum_by-cons, Geometry, record_length, IsRecord, Written, records, length-records, IsIndexOf, placed, versions_of, BlockVersions, bytes_above, part_bytes_above, blocks_below, rows_total, total, total_add, total_same, total_zero, part_bytes_above-append, part_bytes_above-shown_since, placed_above, placed_below}

-- how many bytes the parts above m of these records take, over all blocks
abbrev bytes_of : (g : Geometry) (m n at : ℕ) → List Written → ℕ
bytes_of g m n at told = total (λ b. part_bytes_above m (versions_of b n at told)) 0 g.blocks

-- those of the first record and those of the others
first_and_others : (g : Geometry) (m n at : ℕ) (w : Written) (told : List Written)
    → bytes_of g m n at (w ∷ told) ≡ total (λ b. part_bytes_above m (placed b n (at + 20) w.parts)) 0 g.blocks + bytes_of g m (n + 1) (at + record_length w.parts) told
first_and_others g m n at w told =
    total_same (λ b. part_bytes_above m (versions_of b n at (w ∷ told))) (λ b. part_bytes_above m (placed b n (at + 20) w.parts) + part_bytes_above m (versions_of b (n + 1) (at + record_length w.parts) told)) 0 g.blocks
    (λ b from to. part_bytes_above-append m (placed b n (at + 20) w.parts) (versions_of b (n + 1) (at + record_length w.parts) told))
    ∙ total_add (λ b. part_bytes_above m (placed b n (at + 20) w.parts)) (λ b. part_bytes_above m (versions_of b (n + 1) (at + record_length w.parts) told)) 0 g.blocks

-- records that are all above
all_above : (g : Geometry) (m n at : ℕ) (told : List Written) → m < n → AllByRecursion (IsRecord g) told → bytes_of g m n at told + 20 * length told ≡ sum_by (λ w. record_length w.parts) told
all_above g m n at [] lt are = omega (arith, total_zero 0 g.blocks)
all_above g m n at (w ∷ told) lt are =
    let split = first_and_others g m n at w told in
    let first = placed_above m n g.blocks (at + 20) w.parts lt (blocks_below g w.parts are.0.runs) in
    let rest = all_above g m (n + 1) (at + record_length w.parts) told (omega (arith, lt)) are.1 in
    let sum = sum_by-cons (λ (x : Written). record_length x.parts) w told in
    omega (arith, split, first, rest, sum)

-- the first k are not above
others_above : (g : Geometry) (m n at k : ℕ) (told : List Written) → n + k ≡ m + 1 → AllByRecursion (IsRecord g) told
    → bytes_of g m n at told + 20 * (length told - k) ≡ sum_by (λ w. record_length w.parts) (drop k told)
others_above g m n at zero told is are = (let all = all_above g m n at told (omega (arith, is)) are in omega (arith, all))
others_above g m n at (suc k) [] is are = omega (arith, total_zero 0 g.blocks)
others_above g m n at (suc k) (w ∷ told) is are =
    let split = first_and_others g m n at w told in
    let first : total (λ b. part_bytes_above m (placed b n (at + 20) w.parts)) 0 g.blocks ≡ 0 =
    total_same (λ b. part_bytes_above m (placed b n (at + 20) w.parts)) (λ b. 0) 0 g.blocks (λ b from to. placed_below b m n (at + 20) w.parts (omega (arith, is))) ∙ total_zero 0 g.blocks in
    let rest = others_above g m (n + 1) (at + record_length w.parts) k told (omega (arith, is)) are.1 in
    omega (arith, split, first, rest)

-- The parts above a number in the index, each with its head, and the heads of their records are the records above it.
pub records_above : (g : Geometry) (first place t k : ℕ) (told : List Written) (index : List BlockVersions) → AllByRecursion (IsRecord g) told → IsIndexOf g first place t told index → t < first + k
    → bytes_above (first + k - 1) index + 20 * (length told - k) ≡ length (records g (first + k) (drop k told))
records_above g first place t k told index are has above =
    let rows : bytes_above (first + k - 1) index ≡ bytes_of g (first + k - 1) first place told =
    rows_total (part_bytes_above (first + k - 1)) (λ b. part_bytes_above (first + k - 1) (versions_of b first place told)) 0 index
    (λ i below. let s : 0 + i ≡ i = omega arith in
    ap (λ (b : ℕ). part_bytes_above (first + k - 1) (versions_of b first place told)) s
    ∙ sym (ap (part_bytes_above (first + k - 1)) (has.each i (omega (arith, below, has.blocks))) ∙ part_bytes_above-shown_since t (first + k - 1) (versions_of i first place told) (omega (arith, above))))
    ∙ ap (total (λ b. part_bytes_above (first + k - 1) (versions_of b first place told)) 0) has.blocks in
    let bytes = others_above g (first + k - 1) first place k told (omega (arith, above)) are in
    omega (arith, rows, bytes, length-records g (first + k) (drop k told))
