-- What functions over the bytes of a node take and answer.
use Rattle.std.specs.{Prelude.{◌≡◌, ℕ, ◌+◌, ◌*◌, ◌<◌, ◌≤◌, true, List, ◌++◌, length, take}, List.flat_map}
use Rattle.store_model.specs.{Cells.{are_key_parts, cell_count, key_part, keys_end}, TreeNodes.{count_of, node_bytes, Cell, FitCells, IsBlock}}

-- blocks of 256 to 4,096 bytes
pub record IsSize (size : ℕ) : Type 0 where
  pub least : 256 ≤ size
  pub most : size ≤ 4096

-- blocks of at least 256 bytes that are all head and cells
pub record IsNodeSize (size : ℕ) : Type 0 where
  pub least : 256 ≤ size
  pub block : IsBlock size

-- a cell of a block of this size
pub record HasCell (n i : ℕ) : Type 0 where
  pub size : IsSize n
  pub cell : i < cell_count n

-- a block of this size has cells for so many more
pub record HasSpace (n count many : ℕ) : Type 0 where
  pub size : IsSize n
  pub room : count + many ≤ cell_count n

-- a key, and a value part
pub record FitCell (x part : List ℕ) : Type 0 where
  pub key : length x ≤ 28
  pub long : length part ≡ 33

-- the key parts of so many cells, and their value parts
pub record ArePartsOf (many : ℕ) (x y : List ℕ) : Type 0 where
  pub keys : length x ≡ 31 * many
  pub values : length y ≡ 33 * many

-- so many cells have these key parts and value parts
pub record HavePartsOf (many : ℕ) (x y : List ℕ) (ds : List Cell) : Type 0 where
  pub count : length ds ≡ many
  pub fit : FitCells ds
  pub keys : x ≡ flat_map (λ d. key_part d.0) ds
  pub values : y ≡ flat_map (λ d. d.1) ds

-- as many bytes as head and key parts of a block of this size have
pub record AreHeadAndKeys (n : ℕ) (bytes : List ℕ) : Type 0 where
  pub size : 256 ≤ n
  pub keys : length bytes ≡ keys_end n

-- a block of a node's size whose key parts are well formed
pub record HasNodeParts (node : List ℕ) : Type 0 where
  pub least : 256 ≤ length node
  pub block : IsBlock (length node)
  pub parts : are_key_parts (length node) (take (keys_end (length node)) node) ≡ true

-- a block of this size whose key parts are well formed, and which uses no more cells than it has
pub record HasKeyParts (n : ℕ) (node : List ℕ) : Type 0 where
  pub least : 256 ≤ n
  pub long : length node ≡ n
  pub parts : are_key_parts n (take (keys_end n) node) ≡ true
  pub few : count_of (take (keys_end n) node) ≤ cell_count n

-- head and key parts of a block, with its size
pub record AreKeysOf (n : ℕ) (node : List ℕ) (m : ℕ) (keys : List ℕ) : Type 0 where
  pub size : m ≡ n
  pub bytes : keys ≡ take (keys_end n) node

-- these bytes, so many of them
pub record AreBytes (n : ℕ) (xs bytes : List ℕ) : Type 0 where
  pub value : xs ≡ bytes
  pub long : length xs ≡ n

-- this number, which is at most that limit; and one that is below it
pub record IsWithin (n exact limit : ℕ) : Type 0 where
  pub value : n ≡ exact
  pub most : n ≤ limit

pub record IsBelow (n exact limit : ℕ) : Type 0 where
  pub value : n ≡ exact
  pub below : n < limit

-- to the bytes of a node with so many cells, these are added
abbrev pub AddsCells : (count : ℕ) → (before now : List ℕ) → List Cell → Type 0
AddsCells count before now ds = (size level : ℕ) (cs : List Cell) → before ≡ node_bytes size level cs → length cs ≡ count → FitCells cs → length before ≡ size → now ≡ node_bytes size level (cs ++ ds)
