-- The free map of a region: a bit for each block, after the head of the region's first block.
use Rattle.std.specs.{Prelude.{ℕ, zero, suc, ◌+◌, ◌/◌, ◌%◌, ◌^◌, Bool, ◌==◌, not, cond, List, Option, slice_index, slice_set, bit_and, bit_or, bit_xor}, Int.bit_at}
use Rattle.iso_model.specs.{declared.access.Span.Span, Conflict.first_from}

-- how many bytes the bits of `blocks` blocks take
abbrev pub map_bytes : (blocks : ℕ) → ℕ
map_bytes blocks = (blocks + 7) / 8

-- the mark over head and map of a region of `blocks` blocks
abbrev pub map_mark : (blocks : ℕ) → Span
map_mark blocks = record { off = 0; len = 64 + map_bytes blocks }

-- where the byte with the bit of a block is, and the mark over it
abbrev pub bit_place : (block : ℕ) → ℕ
bit_place block = 64 + block / 8

abbrev pub bit_mark : (block : ℕ) → Span
bit_mark block = record { off = bit_place block; len = 1 }

-- whether the bit of a block is set: it is in use
abbrev pub map_bit : List ℕ → (block : ℕ) → Bool
map_bit map block = bit_at (slice_index map (bit_place block)) (block % 8) == 1

-- a byte with the bit of a block set, and with the bit clear
abbrev pub set_bit : ℕ → (block : ℕ) → ℕ
set_bit byte block = bit_or byte (2 ^ (block % 8))

abbrev pub clear_bit : ℕ → (block : ℕ) → ℕ
clear_bit byte block = bit_xor byte (bit_and byte (2 ^ (block % 8)))

-- the map with the bit of a block set, and with it clear
abbrev pub with_bit : List ℕ → (block : ℕ) → List ℕ
with_bit map block = slice_set map (bit_place block) (set_bit (slice_index map (bit_place block)) block)

abbrev pub without_bit : List ℕ → (block : ℕ) → List ℕ
without_bit map block = slice_set map (bit_place block) (clear_bit (slice_index map (bit_place block)) block)

-- how many of n blocks from one on are free, and the lowest of them
abbrev pub free_count : List ℕ → (from n : ℕ) → ℕ
free_count map from zero = 0
free_count map from (suc n) = cond (map_bit map from) 0 1 + free_count map (from + 1) n

abbrev pub lowest_free : List ℕ → (from n : ℕ) → Option ℕ
lowest_free map from n = first_from (λ k. not (map_bit map k)) from n
