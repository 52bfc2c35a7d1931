-- What bytes say: the header of a half, and a superblock with the first test that it fails.
use Rattle.std.specs.{Prelude.{ℕ, zero, suc, ◌+◌, Bool, ◌&&◌, ◌==◌, nat_eq, not, if◌then◌else◌, List, [], ◌∷◌, Option, Some, None, Result, Ok, Err, take, drop, nat_le, slice_index, codes, option_map, position}, List.{list_all, position_from, starts_with}, Int.{Width, w32, w64, byte_len, from_be_bytes}}
use Rattle.iso_model.specs.{declared.access.Geometry.Geometry, declared.access.Mode.Mode, declared.access.Mode.TheVariants.{Serial, Snapshot}, Effect.or_else, Geometry.{is_block_size, is_region}}
use Rattle.iso_format.specs.{declared.half.HalfHeader.HalfHeader, declared.superblock.SuperError.SuperError, declared.superblock.SuperError.TheVariants.{NotIsotope, BadGeometry}}

-- the number in the bytes from a place on, the highest byte first
abbrev pub number_at : Width → (at : ℕ) → List ℕ → ℕ
number_at w at bytes = from_be_bytes w (take (byte_len w) (drop at bytes))

-- whether n bytes from a place on are zero
abbrev pub are_zero : (at n : ℕ) → List ℕ → Bool
are_zero at n bytes = list_all (λ b. b == 0) (take n (drop at bytes))

-- the first of n bytes from a place on that is not zero
abbrev pub first_not_zero : (at n : ℕ) → List ℕ → Option ℕ
first_not_zero at n bytes = option_map (λ i. at + i) (position (λ b. not (b == 0)) (take n (drop at bytes)))

-- the first byte of a half's header that is to be zero and is not
abbrev pub unclean_place : List ℕ → Option ℕ
unclean_place bytes = or_else (first_not_zero 2 6 bytes) (first_not_zero 24 8 bytes)

-- what the header of a half says
unfoldable pub half_of : List ℕ → HalfHeader
half_of bytes = record {
  gate = slice_index bytes 0;
  form = slice_index bytes 1;
  generation = number_at w64 8 bytes;
  base = number_at w64 16 bytes;
  clean = are_zero 2 6 bytes && are_zero 24 8 bytes;
}

abbrev pub mode_of : ℕ → Mode
mode_of zero = Serial
mode_of (suc b) = Snapshot

-- the numbers in a superblock, which does not spell the form
abbrev pub geometry_of : List ℕ → Geometry
geometry_of bytes = record {
  block = number_at w32 12 bytes;
  blocks = number_at w32 16 bytes;
  log = number_at w32 20 bytes;
  mode = mode_of (slice_index bytes 24);
  hash = number_at w32 28 bytes;
  tree = number_at w32 32 bytes;
  form = 1;
}

-- whether the regions of the stores keep their limits
abbrev pub has_regions : Geometry → Bool
has_regions g = is_region g 3 g.hash && is_region g 2 g.tree && nat_le (g.hash + g.tree) g.blocks

-- the first of these fields that is wrong, counted from 1: version, block size, blocks, log bytes, mode, zero bytes, regions
abbrev pub wrong_field : List ℕ → Geometry → Option ℕ
wrong_field bytes g =
    position_from not 1
    ((number_at w32 8 bytes == 1)
    ∷ is_block_size g.block
    ∷ (nat_le 1 g.blocks && nat_le g.blocks 16384)
    ∷ (nat_le 64 g.log && nat_le g.log 67108864)
    ∷ nat_le (slice_index bytes 24) 1
    ∷ (are_zero 25 3 bytes && are_zero 36 27 bytes)
    ∷ has_regions g
    ∷ [])

abbrev pub unless_wrong : Option ℕ → Geometry → Result Geometry SuperError
unless_wrong None g = Ok g
unless_wrong (Some field) g = Err (BadGeometry field)

-- the geometry that 64 bytes spell, or the first test that they fail
unfoldable pub super_of : List ℕ → Result Geometry SuperError
super_of bytes =
    if starts_with nat_eq bytes (codes "ISOTOPE1") && (slice_index bytes 63 == 1)
    then unless_wrong (wrong_field bytes (geometry_of bytes)) (geometry_of bytes) else Err NotIsotope
