-- Words with a bit for each byte of a block.
use Rattle.std.specs.{Prelude.{ℕ, ◌/◌, ◌%◌, ◌==◌, Bool, List, slice_index}, Int.bit_at}

abbrev pub has_bit : ℕ → ℕ → Bool
has_bit word i = bit_at word i == 1

-- whether the words have the bit of the byte at p
abbrev pub is_seen : List ℕ → ℕ → Bool
is_seen words p = has_bit (slice_index words (p / 64)) (p % 64)
