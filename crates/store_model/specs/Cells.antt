-- A block of cells as an image has it: a head of 64 bytes, key parts of 31, value parts of 33. Other numbers here are another format.
use Rattle.std.specs.{Prelude.{ℕ, zero, suc, ◌+◌, ◌-◌, ◌*◌, ◌/◌, Bool, true, ◌&&◌, ◌==◌, List, ◌∷◌, ◌++◌, Option, nat_le, slice_index, take, drop, length, replicate}, List.list_all, Int.{w32, from_be_bytes}, Str.bytes_eq}
use Rattle.iso_model.specs.{declared.access.Span.Span, Conflict.first_from}
use Rattle.store_model.specs.Stores.{bytes_in}

-- how many cells a block of `size` bytes has
abbrev pub cell_count : (size : ℕ) → ℕ
cell_count size = size / 64 - 1

-- where the key parts end and the value parts begin
abbrev pub keys_end : (size : ℕ) → ℕ
keys_end size = 64 + 31 * cell_count size

-- the marks: the head and all key parts, one key part, one value part, the number of the next block
abbrev pub keys_mark : (size : ℕ) → Span
keys_mark size = record { off = 0; len = keys_end size }

abbrev pub key_mark : (cell : ℕ) → Span
key_mark cell = record { off = 64 + 31 * cell; len = 31 }

abbrev pub value_mark : (size cell : ℕ) → Span
value_mark size cell = record { off = keys_end size + 33 * cell; len = 33 }

abbrev pub next_mark : Span
next_mark = record { off = 0; len = 4 }

-- the number in the four bytes from a place on
abbrev pub word_at : (at : ℕ) → List ℕ → ℕ
word_at at bytes = from_be_bytes w32 (bytes_in (record { off = at; len = 4 }) bytes)

abbrev pub is_zero : ℕ → Bool
is_zero b = b == 0

-- whether a part is a length of at most `most`, as many bytes as it says, and zeros
abbrev pub is_part : (most : ℕ) → List ℕ → Bool
is_part most part = nat_le (slice_index part 0) most && list_all is_zero (drop (1 + slice_index part 0) part)

-- the bytes that a part spells
abbrev pub text_of : List ℕ → List ℕ
text_of part = take (slice_index part 0) (drop 1 part)

-- the part that spells these bytes, with room for `room` bytes
abbrev pub part_of : (room : ℕ) → List ℕ → List ℕ
part_of room text = length text ∷ text ++ replicate (room - length text) 0

-- the key part and the value part of a pair
abbrev pub key_part : List ℕ → List ℕ
key_part key = part_of 30 key

abbrev pub value_part : List ℕ → List ℕ
value_part value = part_of 32 value

-- whether a cell is not used, and the key of one that is
abbrev pub is_unused : List ℕ → (cell : ℕ) → Bool
is_unused keys cell = slice_index (bytes_in (key_mark cell) keys) 0 == 0

abbrev pub key_at : List ℕ → (cell : ℕ) → List ℕ
key_at keys cell = text_of (bytes_in (key_mark cell) keys)

-- whether all numbers from i on, n of them, pass the test
abbrev pub all_from : (ℕ → Bool) → (i n : ℕ) → Bool
all_from test i zero = true
all_from test i (suc n) = test i && all_from test (i + 1) n

-- whether the key parts are well formed: keys of at most 28 bytes, though a part has room for 30
abbrev pub are_key_parts : (size : ℕ) → List ℕ → Bool
are_key_parts size keys = all_from (λ i. is_part 28 (bytes_in (key_mark i) keys)) 0 (cell_count size)

-- the first cell that has the key, and the first that is not used
abbrev pub cell_with : (size : ℕ) → List ℕ → List ℕ → Option ℕ
cell_with size key keys = first_from (λ i. bytes_eq (key_at keys i) key) 0 (cell_count size)

abbrev pub unused_cell : (size : ℕ) → List ℕ → Option ℕ
unused_cell size keys = first_from (λ i. is_unused keys i) 0 (cell_count size)

-- the bytes of a block with others in their place from a place on
abbrev pub laid_at : (at : ℕ) → List ℕ → List ℕ → List ℕ
laid_at at bytes block = take at block ++ (bytes ++ drop (at + length bytes) block)

-- zeros, but for these bytes from a place on, in a block of this size
abbrev pub block_with : (size at : ℕ) → List ℕ → List ℕ
block_with size at bytes = laid_at at bytes (replicate size 0)
