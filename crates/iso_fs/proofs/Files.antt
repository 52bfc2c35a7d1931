-- What the test of a file block says, and the blocks that a file uses.
use Rattle.iso_fs.proofs.{Words.{◌≡◌, ◌⊎◌, ◌∙◌, sym, ap, ℕ, zero, suc, ◌+◌, ◌-◌, ◌*◌, ◌/◌, ◌<◌, ◌≤◌, ◌==◌, ◌&&◌, true, false, List, nat_le, arith, nat_lt, slice_index, get, and_parts, leb-true, ltb-true, le-div, Area, Array, tree_map, all_at, FileAreas, are_entries, blocks_for, bytes_of, data_count, entry_at, has_zeros, is_file, is_handed, most_bytes, AreFileRegions, Uses, file_at}, Lookups.names_by}

pub record FileParts (a : Area) (file : List ℕ) : Type 0 where
  pub few : bytes_of file ≤ most_bytes a.size
  pub entries : are_entries a.blocks file (data_count a.size file) ≡ true
  pub zeros : has_zeros file (data_count a.size file) ≡ true

pub file_parts : (a : Area) (file : List ℕ) → is_file a file ≡ true → FileParts a file
unfolding is_file
file_parts a file is =
    let one = and_parts _ _ is in
    let two = and_parts (are_entries a.blocks file (data_count a.size file)) (has_zeros file (data_count a.size file)) one.1 in
    record { few = leb-true _ _ (and_parts _ _ one.0).1; entries = two.0; zeros = two.1 }

-- a block that a region of `blocks` blocks hands out
pub record IsHanded (blocks number : ℕ) : Type 0 where
  pub some : 1 ≤ number
  pub below : number < blocks

pub handed_is : (blocks number : ℕ) → is_handed blocks number ≡ true → IsHanded blocks number
handed_is blocks number is = let parts = and_parts (nat_le 1 number) (nat_lt number blocks) is in record { some = leb-true 1 number parts.0; below = ltb-true number blocks parts.1 }

pub entry_handed : (a : Area) (file : List ℕ) → FileParts a file → (i : ℕ) → i < data_count a.size file → IsHanded a.blocks (entry_at file i)
entry_handed a file parts i below = handed_is a.blocks (entry_at file i) (all_at (λ i. is_handed a.blocks (entry_at file i)) 0 (data_count a.size file) i parts.entries (omega arith) (omega arith))

more_blocks : (q size : ℕ) → (q + 1) * size ≡ q * size + size
more_blocks q size = grind arith

-- byte p of a file is in one of its blocks
pub place_below : (size bytes p : ℕ) → 0 < size → p < bytes → p / size < blocks_for size bytes
place_below size bytes p some below = grind (arith, more_blocks, le-div) steps 100000

pub entry_inside : (a : Area) (file : List ℕ) → FileParts a file → 0 < a.size → (p : ℕ) → p < bytes_of file → IsHanded a.blocks (entry_at file (p / a.size))
entry_inside a file parts some p below = entry_handed a file parts (p / a.size) (place_below a.size (bytes_of file) p some below)

-- each block that a file uses is handed out
pub uses_handed : (a : FileAreas) (A : Array) → AreFileRegions a A → (name : List ℕ) (place block : ℕ) → Uses a A name place block → IsHanded a.files.blocks block
uses_handed a A regions name zero block uses =
    let by = names_by (get (tree_map a.tree A) name) uses.number uses.named in
    handed_is a.files.blocks block (ap (is_handed a.files.blocks) (sym uses.is ∙ sym by.number_is) ∙ ((and_parts _ _ (regions.named name by.value by.is)).1))
uses_handed a A regions name (suc i) block uses =
    let is = entry_handed a.files (file_at a A uses.number) (file_parts a.files (file_at a A uses.number) (regions.files name uses.number uses.named)) i (omega arith) in
    record { some = Rattle.std.proofs.Common.subst (λ (k : ℕ). 1 ≤ k) uses.is is.some; below = Rattle.std.proofs.Common.subst (λ (k : ℕ). k < a.files.blocks) uses.is is.below }

-- the lesser of two numbers
pub record IsLeast (m n k : ℕ) : Type 0 where
  pub first : k ≤ m
  pub second : k ≤ n
  pub either : (k ≡ m) ⊎ (k ≡ n)

pub least_is : (m n : ℕ) → IsLeast m n (Rattle.store_model.specs.FileCalls.least m n)
least_is m n = grind arith steps 100000

-- THE TEST, STEP BY STEP
pub file_is : (a : Area) (file : List ℕ) → (slice_index file 0 == 3) ≡ true → nat_le (bytes_of file) (most_bytes a.size) ≡ true
    → is_file a file ≡ (are_entries a.blocks file (data_count a.size file) && has_zeros file (data_count a.size file))
unfolding is_file
file_is a file kind small = λ i. (kind i && small i) && (are_entries a.blocks file (data_count a.size file) && has_zeros file (data_count a.size file))

pub file_not_kind : (a : Area) (file : List ℕ) → (slice_index file 0 == 3) ≡ false → is_file a file ≡ false
unfolding is_file
file_not_kind a file kind = λ i. (kind i && nat_le (bytes_of file) (most_bytes a.size)) && (are_entries a.blocks file (data_count a.size file) && has_zeros file (data_count a.size file))

pub file_not_small : (a : Area) (file : List ℕ) → (slice_index file 0 == 3) ≡ true → nat_le (bytes_of file) (most_bytes a.size) ≡ false → is_file a file ≡ false
unfolding is_file
file_not_small a file kind large = λ i. (kind i && large i) && (are_entries a.blocks file (data_count a.size file) && has_zeros file (data_count a.size file))

-- the numbers of a file have room in its block
pub count_fits : (size bytes : ℕ) → 256 ≤ size → bytes ≤ most_bytes size → 64 + 4 * ((bytes + (size - 1)) / size) ≤ size
count_fits size bytes least few = grind (arith, more_blocks) steps 100000

-- the blocks that these bytes take have room for them
pub count_covers : (size bytes : ℕ) → 0 < size → bytes ≤ (bytes + (size - 1)) / size * size
count_covers size bytes some = grind arith steps 100000

pub count_mono : (size m n : ℕ) → 0 < size → m ≤ n → (m + (size - 1)) / size ≤ (n + (size - 1)) / size
count_mono size m n some le = grind (arith, more_blocks) steps 100000
