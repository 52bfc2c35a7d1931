-- The calls of the hash store, each as a program of reads and writes.
use Rattle.std.specs.{Prelude.{ℕ, zero, suc, ◌+◌, ◌*◌, Bool, true, false, ◌&&◌, ◌||◌, ◌==◌, cond, List, [], ◌∷◌, Option, Some, None, Result, Ok, Err, nat_le, nat_lt, length, option_map, replicate, slice_index}, Int.{w32, to_be_bytes}}
use Rattle.iso_model.specs.{declared.access.Span.Span, Effect.or_else}
use Rattle.store_model.specs.{declared.stores.Area.Area, declared.stores.Spot.Spot, declared.stores.StoreError.StoreError, declared.stores.StoreError.TheVariants.{BadKey, BadValue, Broken, NoBlocks}, Stores.{Program, Done, Look, Reserve, Store, then_do}, Cells.{cell_count, keys_end, keys_mark, key_mark, value_mark, next_mark, is_part, text_of, key_part, value_part, is_unused, all_from, cell_with, unused_cell, laid_at, block_with}, FreeMap.{map_mark, bit_mark, bit_place, set_bit, clear_bit, lowest_free}, HashRegion.{buckets, last_position, bucket_of, next_of, is_linked}}

-- Where a walk ends: at the key's cell, with the block before it in the chain (0 where there is none), the head and key parts
-- that were read, and the bytes of its value part where they were read; past the last block, with the first unused cell, the last
-- block and its position; or at a block of the image that is not well formed.
pub data Walked : Type 0 where
  AtCell : Spot → (before : ℕ) → (keys value : List ℕ) → Walked
  AtEnd : (spare : Option Spot) → (last position : ℕ) → Walked
  AtBroken : (block : ℕ) → Walked

abbrev pub spot_in : (block : ℕ) → Option ℕ → Option Spot
spot_in block cell = option_map (λ i. record { block = block; cell = i }) cell

-- the first unused cell so far
abbrev pub spare_in : Area → Option Spot → (block : ℕ) → (keys : List ℕ) → Option Spot
spare_in a spare block keys = or_else spare (spot_in block (unused_cell a.size keys))

abbrev pub at_cell : {A : Type 0} → Option ℕ → (ℕ → A) → A → A
at_cell None found other = other
at_cell (Some i) found other = found i

-- the further mark of a block of the walk: the value part of the cell that has the key, where it is wanted
abbrev pub walk_further : Area → (key : List ℕ) → (bucket : ℕ) → (with_value : Bool) → (position : ℕ) → (keys : List ℕ) → Option Span
walk_further a key bucket with_value position keys =
    cond (with_value && is_linked a bucket position keys) (option_map (value_mark a.size) (cell_with a.size key keys)) None

-- what a walk does once it has read a block; `rest` walks on
abbrev pub walk_next : Area → (key : List ℕ) → (bucket position before block : ℕ) → Option Spot → (ℕ → Option Spot → Program Walked) → (keys value : List ℕ) → Program Walked
walk_next a key bucket position before block spare rest keys value =
    cond (is_linked a bucket position keys)
    (at_cell (cell_with a.size key keys) (λ i. Done (AtCell (record { block = block; cell = i }) before keys value))
    (cond (next_of keys == 0) (Done (AtEnd (spare_in a spare block keys) block position)) (rest (next_of keys) (spare_in a spare block keys))))
    (Done (AtBroken (a.start + block)))

-- the walk over the blocks of a chain that are left
abbrev pub walk_from : Area → (key : List ℕ) → (bucket : ℕ) → (with_value : Bool) → (left position before block : ℕ) → Option Spot → Program Walked
walk_from a key bucket with_value zero position before block spare = Done (AtBroken (a.start + block))
walk_from a key bucket with_value (suc left) position before block spare =
    Look (a.start + block) (keys_mark a.size) (walk_further a key bucket with_value position)
    (walk_next a key bucket position before block spare (λ next free. walk_from a key bucket with_value left (position + 1) block next free))

-- the walk of a bucket for a key
abbrev pub walk_of : Area → (key : List ℕ) → (bucket : ℕ) → (with_value : Bool) → Program Walked
walk_of a key bucket with_value = walk_from a key bucket with_value (last_position a + 1) 0 0 (1 + bucket) None

unfoldable pub walk : Area → (key : List ℕ) → (with_value : Bool) → Program Walked
walk a key with_value = walk_of a key (bucket_of a key) with_value

abbrev pub is_key : List ℕ → Bool
is_key key = nat_le 1 (length key) && nat_le (length key) 28

abbrev pub is_value : List ℕ → Bool
is_value value = nat_le (length value) 32

-- what get answers where the walk ends
abbrev pub got : Area → Walked → Result (Option (List ℕ)) StoreError
got a (AtCell spot before keys value) = cond (is_part 32 value) (Ok (Some (text_of value))) (Err (Broken (a.start + spot.block)))
got a (AtEnd spare last position) = Ok None
got a (AtBroken block) = Err (Broken block)

unfoldable pub get_program : Area → (key : List ℕ) → Program (Result (Option (List ℕ)) StoreError)
get_program a key = cond (is_key key) (then_do (walk a key true) (λ w. Done (got a w))) (Done (Err BadKey))

-- a block of zeros but for one cell
abbrev pub with_cell : (size cell : ℕ) → (key value : List ℕ) → (block : List ℕ) → List ℕ
with_cell size cell key value block = laid_at (keys_end size + 33 * cell) (value_part value) (laid_at (64 + 31 * cell) (key_part key) block)

-- a new block at a position of a bucket, with the key in its first cell
abbrev pub new_block : (size bucket position : ℕ) → (key value : List ℕ) → List ℕ
new_block size bucket position key value = with_cell size 0 key value (laid_at 8 (to_be_bytes w32 position) (laid_at 4 (to_be_bytes w32 bucket) (replicate size 0)))

-- a put of a key into a new block after the last one of the chain, once block 0 is read
abbrev pub put_new : Area → (key value : List ℕ) → (last position : ℕ) → (map : List ℕ) → Option ℕ → Program (Result (Unit {0}) StoreError)
put_new a key value last position map None = Done (Err (NoBlocks 1 0))
put_new a key value last position map (Some block) =
    Reserve 3
    (Store a.start (bit_mark block ∷ []) (block_with a.size (bit_place block) (set_bit (slice_index map (bit_place block)) block ∷ []))
    (Store (a.start + block) [] (new_block a.size (bucket_of a key) (position + 1) key value)
    (Store (a.start + last) (next_mark ∷ []) (block_with a.size 0 (to_be_bytes w32 block)) (Done (Ok tt)))))

-- what put does where the walk ends
abbrev pub put_at : Area → (key value : List ℕ) → Walked → Program (Result (Unit {0}) StoreError)
put_at a key value (AtCell spot before keys old) =
    Store (a.start + spot.block) (value_mark a.size spot.cell ∷ []) (block_with a.size (keys_end a.size + 33 * spot.cell) (value_part value)) (Done (Ok tt))
put_at a key value (AtEnd (Some spot) last position) =
    Store (a.start + spot.block) (key_mark spot.cell ∷ value_mark a.size spot.cell ∷ []) (with_cell a.size spot.cell key value (replicate a.size 0)) (Done (Ok tt))
put_at a key value (AtEnd None last position) =
    Look a.start (map_mark a.blocks) (λ map. None) (λ map none. put_new a key value last position map (lowest_free map (buckets a + 1) (last_position a)))
put_at a key value (AtBroken block) = Done (Err (Broken block))

unfoldable pub put_program : Area → (key value : List ℕ) → Program (Result (Unit {0}) StoreError)
put_program a key value =
    cond (is_key key) (cond (is_value value) (then_do (walk a key false) (put_at a key value)) (Done (Err BadValue))) (Done (Err BadKey))

-- whether no other cell is used
abbrev pub is_alone : (size : ℕ) → List ℕ → (cell : ℕ) → Bool
is_alone size keys cell = all_from (λ i. (i == cell) || is_unused keys i) 0 (cell_count size)

-- whether the block is an overflow block, the last of its chain, and has no other used cell
abbrev pub is_spent : Area → Spot → (keys : List ℕ) → Bool
is_spent a spot keys = nat_lt (buckets a) spot.block && (next_of keys == 0) && is_alone a.size keys spot.cell

-- what del does where the walk ends
abbrev pub del_at : Area → Walked → Program (Result Bool StoreError)
del_at a (AtCell spot before keys value) =
    cond (is_spent a spot keys)
    (Look a.start (map_mark a.blocks) (λ map. None) (λ map none.
    Reserve 2
    (Store a.start (bit_mark spot.block ∷ []) (block_with a.size (bit_place spot.block) (clear_bit (slice_index map (bit_place spot.block)) spot.block ∷ []))
    (Store (a.start + before) (next_mark ∷ []) (replicate a.size 0) (Done (Ok true))))))
    (Store (a.start + spot.block) (key_mark spot.cell ∷ value_mark a.size spot.cell ∷ []) (replicate a.size 0) (Done (Ok true)))
del_at a (AtEnd spare last position) = Done (Ok false)
del_at a (AtBroken block) = Done (Err (Broken block))

unfoldable pub del_program : Area → (key : List ℕ) → Program (Result Bool StoreError)
del_program a key = cond (is_key key) (then_do (walk a key false) (del_at a)) (Done (Err BadKey))
