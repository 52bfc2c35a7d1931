-- The bytes of a file block, which names the data blocks of a file.
use Rattle.std.specs.{Prelude.{ℕ, ◌+◌, ◌-◌, ◌*◌, ◌/◌, ◌%◌, Bool, ◌&&◌, ◌==◌, cond, List, ◌∷◌, ◌++◌, slice_index, nat_le, nat_lt, drop, length, map, replicate}, List.{list_all, flat_map, range_with_len}, Int.{w32, to_be_bytes, from_be_bytes}}
use Rattle.iso_model.specs.declared.access.Span.{Span}
use Rattle.store_model.specs.{declared.stores.Area.Area, Stores.bytes_in, Cells.{word_at, is_zero, all_from}}

-- how many numbers a file block has room for, and how many bytes a file may have
abbrev pub entry_count : (size : ℕ) → ℕ
entry_count size = (size - 64) / 4

abbrev pub most_bytes : (size : ℕ) → ℕ
most_bytes size = entry_count size * size

-- how many blocks `bytes` bytes take
abbrev pub blocks_for : (size bytes : ℕ) → ℕ
blocks_for size bytes = (bytes + (size - 1)) / size

-- how many bytes the file has, and the number of its data block i
abbrev pub bytes_of : (file : List ℕ) → ℕ
bytes_of file = word_at 4 file

abbrev pub entry_at : (file : List ℕ) → (i : ℕ) → ℕ
entry_at file i = word_at (64 + 4 * i) file

abbrev pub data_count : (size : ℕ) → (file : List ℕ) → ℕ
data_count size file = blocks_for size (bytes_of file)

abbrev pub entries_of : (size : ℕ) → (file : List ℕ) → List ℕ
entries_of size file = map (entry_at file) (range_with_len 0 (data_count size file))

-- whether a number is that of a block that a region of `blocks` blocks hands out
abbrev pub is_handed : (blocks : ℕ) → (number : ℕ) → Bool
is_handed blocks number = nat_le 1 number && nat_lt number blocks

abbrev pub are_entries : (blocks : ℕ) → (file : List ℕ) → (count : ℕ) → Bool
are_entries blocks file count = all_from (λ i. is_handed blocks (entry_at file i)) 0 count

-- whether the zeros of a file block with `count` numbers are zero
abbrev pub has_zeros : (file : List ℕ) → (count : ℕ) → Bool
has_zeros file count =
    list_all is_zero (bytes_in (record { off = 1; len = 3 }) file) && list_all is_zero (bytes_in (record { off = 8; len = 56 }) file) && list_all is_zero (drop (64 + 4 * count) file)

-- whether a block is a file block that is well formed
unfoldable pub is_file : Area → (file : List ℕ) → Bool
is_file a file =
    (slice_index file 0 == 3) && nat_le (bytes_of file) (most_bytes a.size)
    && (are_entries a.blocks file (data_count a.size file) && has_zeros file (data_count a.size file))

-- the bytes of a file block
abbrev pub file_block : (size bytes : ℕ) → (entries : List ℕ) → List ℕ
file_block size bytes entries =
    (3 ∷ 0 ∷ 0 ∷ 0 ∷ to_be_bytes w32 bytes) ++ (replicate 56 0 ++ (flat_map (to_be_bytes w32) entries ++ replicate (size - 64 - 4 * length entries) 0))

-- the number that a value of the tree spells, and whether it is that of a block of the region
abbrev pub number_of : (value : List ℕ) → ℕ
number_of value = from_be_bytes w32 value

abbrev pub is_number : Area → (value : List ℕ) → Bool
is_number a value = (length value == 4) && is_handed a.blocks (number_of value)

-- the mark over the bytes of a data block that a range of the file has, from the byte `from` to before `to`
abbrev pub piece_len : (size from to : ℕ) → ℕ
piece_len size from to = cond (nat_lt (to - from) (size - from % size)) (to - from) (size - from % size)

abbrev pub piece_mark : (size from to : ℕ) → Span
piece_mark size from to = record { off = from % size; len = piece_len size from to }
