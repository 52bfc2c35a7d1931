-- The regions of the file store: when they are well formed, and the files that they hold.
use Rattle.std.specs.{Prelude.{◌≡◌, ◌↔◌, ℕ, zero, suc, ◌+◌, ◌-◌, ◌*◌, ◌/◌, ◌%◌, ◌<◌, ◌≤◌, IsTrue, List, take, length, map, option_map, Option, Some}, List.{list_all, range_with_len}, FinMap.{from_entries, entries, get}}
use Rattle.iso_model.specs.{Array.{Array, byte_at}, Premises.block_at}
use Rattle.store_model.specs.{Cells.is_zero, FreeMap.{map_bytes, map_bit}, HashRegion.Pairs, TreeRegion.{IsTreeArea, IsTreeRegion, tree_map}, declared.files.FileAreas.FileAreas, FileNodes.{bytes_of, entry_at, data_count, is_file, is_number, number_of}}

-- where a file store may be: the files follow the tree
pub record AreFileAreas (a : FileAreas) : Type 0 where
  pub tree : IsTreeArea a.tree
  pub size : a.files.size ≡ a.tree.size
  pub follows : a.files.start ≡ a.tree.start + a.tree.blocks
  pub least : 2 ≤ a.files.blocks
  pub most : a.files.blocks ≤ 8 * (a.files.size - 64)

-- a block of the file region
abbrev pub file_at : FileAreas → Array → (number : ℕ) → List ℕ
file_at a A number = block_at A (a.files.start + number)

-- the number of the file block that a name has
abbrev pub number_at : FileAreas → Array → (name : List ℕ) → Option ℕ
number_at a A name = option_map number_of (get (tree_map a.tree A) name)

-- the blocks of a file, its file block first
abbrev pub block_in : (number : ℕ) → (file : List ℕ) → (place : ℕ) → ℕ
block_in number file zero = number
block_in number file (suc i) = entry_at file i

-- the file of this name has the block at this place
pub record Uses (a : FileAreas) (A : Array) (name : List ℕ) (place block : ℕ) : Type 0 where
  pub number : ℕ
  pub named : number_at a A name ≡ Some number
  pub inside : place ≤ data_count a.files.size (file_at a A number)
  pub is : block_in number (file_at a A number) place ≡ block

-- some file has the block
pub record IsUsed (a : FileAreas) (A : Array) (block : ℕ) : Type 0 where
  pub name : List ℕ
  pub place : ℕ
  pub uses : Uses a A name place block

-- The regions are well formed: the tree region is, each of its values names a well-formed file block, no block is used twice, the
-- bits of the map are exactly the blocks used, and the head of the file region is zero.
pub record AreFileRegions (a : FileAreas) (A : Array) : Type 0 where
  pub tree : IsTreeRegion a.tree A
  pub shape : (k : ℕ) → k < a.files.blocks → length (file_at a A k) ≡ a.files.size
  pub named : (name value : List ℕ) → get (tree_map a.tree A) name ≡ Some value → IsTrue (is_number a.files value)
  pub files : (name : List ℕ) (number : ℕ) → number_at a A name ≡ Some number → IsTrue (is_file a.files (file_at a A number))
  pub apart : (x y : List ℕ) (i j k : ℕ) → Uses a A x i k → Uses a A y j k → (x ≡ y) × (i ≡ j)
  pub bits : (k : ℕ) → k < 8 * map_bytes a.files.blocks → IsTrue (map_bit (block_at A a.files.start) k) ↔ IsUsed a A k
  pub head : IsTrue (list_all is_zero (take 64 (block_at A a.files.start)))

-- byte p of the file of this block is in its data block p / size
abbrev pub file_byte : FileAreas → Array → (file : List ℕ) → (p : ℕ) → ℕ
file_byte a A file p = byte_at A (a.files.start + entry_at file (p / a.files.size)) (p % a.files.size)

-- the bytes of the file whose file block has this number
abbrev pub content : FileAreas → Array → (number : ℕ) → List ℕ
content a A number = map (file_byte a A (file_at a A number)) (range_with_len 0 (bytes_of (file_at a A number)))

-- the files under their names
unfoldable pub files : FileAreas → Array → Pairs
files a A = from_entries (map (λ pair. (pair.0, content a A (number_of pair.1))) (entries (tree_map a.tree A)))
