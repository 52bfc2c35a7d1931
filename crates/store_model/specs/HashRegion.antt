-- The region of the hash store: when it is well formed, and the map that it holds.
use Rattle.std.specs.{Prelude.{◌≡◌, ◌↔◌, ◌⊎◌, ℕ, zero, suc, ◌+◌, ◌-◌, ◌*◌, ◌/◌, ◌%◌, ◌<◌, ◌≤◌, Bool, Option, ◌&&◌, ◌||◌, ◌==◌, not, cond, IsTrue, IsFalse, List, [], ◌∷◌, nat_le, nat_lt, take, length, is_some}, List.{list_all, flat_map, range_with_len}, Int.{w64, from_be_bytes}, Ordering.nat_cmp, Cmp.Lexicographic.slice_cmp, FinMap.{FinMap, from_entries, get, insert, remove}}
use Rattle.sha2.specs.Sha256.{sha256}
use Rattle.store_model.specs.{declared.stores.Area.Area, Stores.bytes_in, Cells.{cell_count, keys_mark, value_mark, word_at, is_zero, is_part, text_of, is_unused, key_at, are_key_parts}, FreeMap.{map_bytes, map_bit}}
use Rattle.iso_model.specs.{Array.Array, Premises.block_at, Geometry.is_block_size}

-- what a store holds: values under keys
abbrev pub Pairs : Type 0
Pairs = FinMap (slice_cmp nat_cmp) (List ℕ)

-- where a hash store may be
pub record IsHashArea (a : Area) : Type 0 where
  pub block_size : IsTrue (is_block_size a.size)
  pub least_size : 256 ≤ a.size
  pub least : 3 ≤ a.blocks
  pub most : a.blocks ≤ 8 * (a.size - 64)

abbrev pub buckets : Area → ℕ
buckets a = (a.blocks - 1) / 2

-- the greatest position in a chain: all overflow blocks are in it
abbrev pub last_position : Area → ℕ
last_position a = a.blocks - 1 - buckets a

-- the bucket of a key
unfoldable pub bucket_of : Area → List ℕ → ℕ
bucket_of a key = from_be_bytes w64 (take 8 (sha256 key)) % buckets a

-- the number of the next block of the chain, 0 for none
abbrev pub next_of : List ℕ → ℕ
next_of keys = word_at 0 keys

-- whether the next block may follow at this position
abbrev pub is_next : Area → (position next : ℕ) → Bool
is_next a position next =
    (next == 0) || (nat_le (buckets a + 1) next && nat_lt next a.blocks && not (position == last_position a))

-- whether a block of which these are head and key parts is well formed at this position of the bucket
unfoldable pub is_linked : Area → (bucket position : ℕ) → List ℕ → Bool
is_linked a bucket position keys =
    (word_at 4 keys == cond (position == 0) 0 bucket) && (word_at 8 keys == position)
    && list_all is_zero (bytes_in (record { off = 12; len = 52 }) keys) && is_next a position (next_of keys) && are_key_parts a.size keys

-- The region as the store sees it: head and key parts of each block, the value part of each cell, and block 0.
pub record View : Type 0 where
  pub keys : ℕ → List ℕ
  pub value : (block cell : ℕ) → List ℕ
  pub first : List ℕ

abbrev pub view_of : Area → Array → View
view_of a A = record {
  keys = λ k. bytes_in (keys_mark a.size) (block_at A (a.start + k));
  value = λ k i. bytes_in (value_mark a.size i) (block_at A (a.start + k));
  first = block_at A a.start;
}

-- the blocks of a chain from a block on, at most `left`
abbrev pub chain_from : (ℕ → List ℕ) → (left block : ℕ) → List ℕ
chain_from keys zero block = []
chain_from keys (suc left) block = block ∷ cond (next_of (keys block) == 0) [] (chain_from keys left (next_of (keys block)))

-- the linked blocks of a bucket
abbrev pub chain : Area → (ℕ → List ℕ) → (bucket : ℕ) → List ℕ
chain a keys bucket = chain_from keys (last_position a + 1) (1 + bucket)

-- the pairs of n cells from cell i on, so far as they are used
abbrev pub pairs_from : (keys : List ℕ) → (value : ℕ → List ℕ) → (i n : ℕ) → List (List ℕ × List ℕ)
pairs_from keys value i zero = []
pairs_from keys value i (suc n) =
    cond (is_unused keys i) (pairs_from keys value (i + 1) n) ((key_at keys i, text_of (value i)) ∷ pairs_from keys value (i + 1) n)

-- the pairs of blocks, of a bucket, of the region
abbrev pub pairs_of : Area → (ℕ → List ℕ) → (ℕ → ℕ → List ℕ) → List ℕ → List (List ℕ × List ℕ)
pairs_of a keys value blocks = flat_map (λ k. pairs_from (keys k) (value k) 0 (cell_count a.size)) blocks

abbrev pub bucket_pairs : Area → (ℕ → List ℕ) → (ℕ → ℕ → List ℕ) → (bucket : ℕ) → List (List ℕ × List ℕ)
bucket_pairs a keys value bucket = pairs_of a keys value (chain a keys bucket)

abbrev pub all_pairs : Area → (ℕ → List ℕ) → (ℕ → ℕ → List ℕ) → List (List ℕ × List ℕ)
all_pairs a keys value = flat_map (bucket_pairs a keys value) (range_with_len 0 (buckets a))

-- the map of the region: the pairs of all used cells of linked blocks
unfoldable pub hash_map : Area → Array → Pairs
hash_map a A = from_entries (all_pairs a (view_of a A).keys (view_of a A).value)

-- x is one of the list
abbrev pub IsIn : ℕ → List ℕ → Type 0
IsIn x [] = ⊥
IsIn x (y ∷ ys) = (y ≡ x) ⊎ IsIn x ys

-- From the number `first` on, with the one at position p of the bucket, one block names the next: these blocks, each well formed
-- at its position, and then `end`.
abbrev pub AreLinked : Area → (ℕ → List ℕ) → (bucket position : ℕ) → List ℕ → (first end : ℕ) → Type 0
AreLinked a keys bucket position [] first end = first ≡ end
AreLinked a keys bucket position (k ∷ blocks) first end =
    (first ≡ k) × (0 < k) × IsTrue (is_linked a bucket position (keys k)) × AreLinked a keys bucket (position + 1) blocks (next_of (keys k)) end

-- a used cell of a linked block
pub record Stands (a : Area) (keys : ℕ → List ℕ) (bucket block cell : ℕ) : Type 0 where
  pub bucket_is : bucket < buckets a
  pub block_is : IsIn block (chain a keys bucket)
  pub cell_is : cell < cell_count a.size
  pub used : IsFalse (is_unused (keys block) cell)

-- an overflow block that is linked
pub record IsOverflow (a : Area) (keys : ℕ → List ℕ) (block : ℕ) : Type 0 where
  pub bucket : ℕ
  pub below : bucket < buckets a
  pub linked : IsIn block (chain a keys bucket)
  pub past : buckets a < block

-- A hash region that is well formed so far as heads, key parts and block 0 show: all linked blocks are; the bits of the map are
-- exactly the linked overflow blocks; the head of block 0 is zero; each key is in its bucket, and none is twice. That no
-- block is linked twice follows, since each names its bucket and its position.
pub record IsKeyed (a : Area) (keys : ℕ → List ℕ) (first : List ℕ) : Type 0 where
  pub linked : (bucket : ℕ) → bucket < buckets a → AreLinked a keys bucket 0 (chain a keys bucket) (1 + bucket) 0
  pub bits : (k : ℕ) → k < 8 * map_bytes a.blocks → IsTrue (map_bit first k) ↔ IsOverflow a keys k
  pub head : IsTrue (list_all is_zero (take 64 first))
  pub in_bucket : (b k i : ℕ) → Stands a keys b k i → bucket_of a (key_at (keys k) i) ≡ b
  pub apart : (b k i c l j : ℕ) → Stands a keys b k i → Stands a keys c l j → key_at (keys k) i ≡ key_at (keys l) j → (k ≡ l) × (i ≡ j)

-- the value parts of the linked blocks are well formed, and zero where their cell is not used
abbrev pub HaveValues : Area → (ℕ → List ℕ) → (ℕ → ℕ → List ℕ) → Type 0
HaveValues a keys value = (b k i : ℕ) → b < buckets a → IsIn k (chain a keys b) → i < cell_count a.size
    → IsTrue (is_part 32 (value k i)) × (IsTrue (is_unused (keys k) i) → IsTrue (list_all is_zero (value k i)))

-- a hash region that is well formed
pub record IsHashRegion (a : Area) (A : Array) : Type 0 where
  pub shape : (k : ℕ) → k < a.blocks → length (block_at A (a.start + k)) ≡ a.size
  pub keyed : IsKeyed a (view_of a A).keys (view_of a A).first
  pub values : HaveValues a (view_of a A).keys (view_of a A).value

-- the operations on the map: what they answer, and the map after them
abbrev pub get_op : List ℕ → Pairs → Option (List ℕ) × Pairs
get_op key m = (get m key, m)

abbrev pub put_op : List ℕ → List ℕ → Pairs → (Unit {0}) × Pairs
put_op key value m = (tt, insert m key value)

abbrev pub del_op : List ℕ → Pairs → Bool × Pairs
del_op key m = (is_some (get m key), remove m key)
