-- What the test of a file block says of its numbers, and the lengths of file blocks and pieces.
use Rattle.script_model.proofs.{Words.{◌≡◌, refl, ℕ, zero, suc, ◌+◌, ◌-◌, ◌*◌, ◌/◌, ◌%◌, ◌<◌, ◌≤◌, true, List, [], ◌∷◌, ◌++◌, length, flat_map, map, nat_le, nat_lt, arith, subst, AreBytes, range_with_len, Area, and_parts, leb-true, ltb-true, le-div, to_be_bytes, w32, bytes_append, bytes_cons, no_bytes, replicate, replicate_bytes, word_bytes, length-append, length-replicate, all_from, are_entries, blocks_for, bytes_of, data_count, entries_of, entry_at, entry_count, file_block, has_zeros, is_file, is_handed, most_bytes, piece_len}, TakenBlocks.AreBelow}

-- a file block that passed its test: how many bytes it may have, and that its numbers are those of blocks of the region
pub record IsFileBlock (a : Area) (file : List ℕ) : Type 0 where
  pub few : bytes_of file ≤ most_bytes a.size
  pub entries : AreBelow a.blocks (entries_of a.size file)
  pub entry : (i : ℕ) → i < data_count a.size file → entry_at file i < a.blocks

entries_below : (blocks : ℕ) (file : List ℕ) (i n : ℕ) → all_from (λ i. is_handed blocks (entry_at file i)) i n ≡ true → AreBelow blocks (map (entry_at file) (range_with_len i n))
entries_below blocks file i zero all = tt
entries_below blocks file i (suc n) all =
    let parts = and_parts (is_handed blocks (entry_at file i)) _ all in
    let handed = and_parts (nat_le 1 (entry_at file i)) (nat_lt (entry_at file i) blocks) parts.0 in
    (ltb-true (entry_at file i) blocks handed.1, entries_below blocks file (i + 1) n parts.1)

entry_below : (blocks : ℕ) (file : List ℕ) (i n k : ℕ) → AreBelow blocks (map (entry_at file) (range_with_len i n)) → k < n → entry_at file (i + k) < blocks
entry_below blocks file i zero k all less = absurd (omega arith)
entry_below blocks file i (suc n) zero all less = subst (λ (j : ℕ). entry_at file j < blocks) (omega arith) all.0
entry_below blocks file i (suc n) (suc k) all less = subst (λ (j : ℕ). entry_at file j < blocks) (omega arith) (entry_below blocks file (i + 1) n k all.1 (omega arith))

nothing : (k : ℕ) → 0 + k ≡ k
nothing k = omega arith

pub file_block_is : (a : Area) (file : List ℕ) → is_file a file ≡ true → IsFileBlock a file
unfolding is_file
file_block_is a file is =
    let one = and_parts _ _ is in
    let two = and_parts (are_entries a.blocks file (data_count a.size file)) (has_zeros file (data_count a.size file)) one.1 in
    let all = entries_below a.blocks file 0 (data_count a.size file) two.0 in
    record { few = leb-true _ _ (and_parts _ _ one.0).1; entries = all; entry = λ k less. subst (λ (j : ℕ). entry_at file j < a.blocks) (nothing k) (entry_below a.blocks file 0 (data_count a.size file) k all less) }

more_blocks : (q size : ℕ) → (q + 1) * size ≡ q * size + size
more_blocks q size = grind arith

-- the numbers of the blocks that these bytes take have room in a file block
pub count_fits : (size bytes : ℕ) → 256 ≤ size → bytes ≤ most_bytes size → blocks_for size bytes ≤ entry_count size
count_fits size bytes least few = grind (arith, more_blocks)

-- byte p of a file is in one of its blocks
pub place_below : (size bytes p : ℕ) → 0 < size → p < bytes → p / size < blocks_for size bytes
place_below size bytes p some below = grind (arith, more_blocks, le-div)

-- a piece that has a byte ends in its block
pub record IsPiece (size from to : ℕ) : Type 0 where
  pub some : 1 ≤ piece_len size from to
  pub fits : from % size + piece_len size from to ≤ size

pub piece_is : (size from to : ℕ) → 0 < size → from < to → IsPiece size from to
piece_is size from to some less = grind arith

-- THE BYTES OF A FILE BLOCK
length-entries : (entries : List ℕ) → length (flat_map (to_be_bytes w32) entries) ≡ 4 * length entries
length-entries [] = refl
length-entries (e ∷ entries) = omega (arith, length-append (to_be_bytes w32 e) (flat_map (to_be_bytes w32) entries), length-entries entries)

entries_bytes : (entries : List ℕ) → AreBytes (flat_map (to_be_bytes w32) entries)
entries_bytes [] = no_bytes
entries_bytes (e ∷ entries) = bytes_append (to_be_bytes w32 e) (flat_map (to_be_bytes w32) entries) (word_bytes e) (entries_bytes entries)

pub length-file_block : (size bytes : ℕ) (entries : List ℕ) → 256 ≤ size → length entries ≤ entry_count size → length (file_block size bytes entries) ≡ size
length-file_block size bytes entries least few =
    let numbers = flat_map (to_be_bytes w32) entries in
    let rest = replicate {A = ℕ} (size - 64 - 4 * length entries) 0 in
    let a = length-append (replicate {A = ℕ} 56 0) (numbers ++ rest) in
    let b = length-append numbers rest in
    let c = length-replicate {A = ℕ} (size - 64 - 4 * length entries) 0 in
    omega (arith, a, b, c, length-entries entries)

pub file_block_bytes : (size bytes : ℕ) (entries : List ℕ) → AreBytes (file_block size bytes entries)
file_block_bytes size bytes entries =
    let numbers = flat_map (to_be_bytes w32) entries in
    let rest = replicate {A = ℕ} (size - 64 - 4 * length entries) 0 in
    let word = to_be_bytes w32 bytes in
    bytes_append (3 ∷ 0 ∷ 0 ∷ 0 ∷ word) (replicate 56 0 ++ (numbers ++ rest))
    (bytes_cons 3 (0 ∷ 0 ∷ 0 ∷ word) (omega arith) (bytes_cons 0 (0 ∷ 0 ∷ word) (omega arith) (bytes_cons 0 (0 ∷ word) (omega arith) (bytes_cons 0 word (omega arith) (word_bytes bytes)))))
    (bytes_append (replicate 56 0) (numbers ++ rest) (replicate_bytes 56 0 (omega arith))
    (bytes_append numbers rest (entries_bytes entries) (replicate_bytes (size - 64 - 4 * length entries) 0 (omega arith))))
