-- The fixed numbers of an image, their limits, and where things stand in it.
use Rattle.std.specs.{Prelude.{ℕ, ◌+◌, ◌-◌, ◌*◌, Bool, true, false, ◌&&◌, ◌||◌, ◌==◌, [], ◌∷◌, nat_le}, List.list_any}
use Rattle.iso_model.specs.{declared.access.Geometry.Geometry, declared.access.Mode.Mode, declared.access.Mode.TheVariants.{Serial, Snapshot}}

abbrev pub is_serial : Mode → Bool
is_serial Serial = true
is_serial Snapshot = false

-- whether the two modes are one
abbrev pub same_mode : Mode → Mode → Bool
same_mode Serial Serial = true
same_mode Snapshot Snapshot = true
same_mode Serial Snapshot = false
same_mode Snapshot Serial = false

abbrev pub is_block_size : ℕ → Bool
is_block_size size = list_any (λ n. size == n) (64 ∷ 128 ∷ 256 ∷ 512 ∷ 1024 ∷ 2048 ∷ 4096 ∷ [])

-- whether a store's region may have `blocks` blocks, of which it needs at least `least` where it is there
abbrev pub is_region : Geometry → (least blocks : ℕ) → Bool
is_region g least blocks =
    (blocks == 0) || (nat_le least blocks && nat_le blocks (8 * (g.block - 64)) && nat_le 256 g.block && is_serial g.mode)

-- whether the numbers keep their limits
unfoldable pub is_valid : Geometry → Bool
is_valid g =
    is_block_size g.block && nat_le 1 g.blocks && nat_le g.blocks 16384 && nat_le 64 g.log && nat_le g.log 67108864
    && is_region g 3 g.hash && is_region g 2 g.tree && nat_le (g.hash + g.tree) g.blocks && nat_le 1 g.form && nat_le g.form 2

-- how many bytes a half has: its header, its base and its log
abbrev pub half_size : Geometry → ℕ
half_size g = 32 + g.blocks * g.block + g.log

-- how many bytes the image has
abbrev pub image_size : Geometry → ℕ
image_size g = 64 + 2 * half_size g

-- where the header, the base and the log of half 0 or 1 begin
abbrev pub header_place : Geometry → ℕ → ℕ
header_place g half = 64 + half * half_size g

abbrev pub base_place : Geometry → ℕ → ℕ
base_place g half = header_place g half + 32

abbrev pub log_place : Geometry → ℕ → ℕ
log_place g half = base_place g half + g.blocks * g.block
