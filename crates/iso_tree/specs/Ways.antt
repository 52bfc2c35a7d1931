-- The writes of a way up.
use Rattle.std.specs.Prelude.{◌≡◌, ◌<◌, ◌≤◌, ℕ, ◌+◌, ◌-◌, true, List, [], ◌∷◌, Result, Ok, Err, OnOk, length, map}
use Rattle.store_model.specs.{declared.stores.Area.Area, declared.stores.StoreError.StoreError, Cells.cell_count, Stores.Program, TreeCalls.{Answer, Climb, climb, look_again}, TreeNodes.Cell, TreeRegion.IsTreeArea, Trees.{emptied, half}}
use Rattle.tx_blocks.{proofs.Progress.IsAt, specs.Runs.{HasArea, HasRun}, specs.Tx.{Tx, Device, room_of}}
use Rattle.iso_tree.specs.{Entries.{row, spelled}, Rows.nodes_from, Walks.{HasWritten, IsFollowed, WantsOnlyMemory}, declared.entry.Entry.Entry, declared.growth.Growth.Growth, declared.way.Way.Way}

-- the two nodes that a full one becomes: its first cells, and the others in a new block
abbrev pub halves_of : (level block new : ℕ) → Growth → List (ℕ × ℕ × List Cell)
halves_of level block new g =
    (block, level, row g 0 (half (cell_count g.area.size)))
    ∷ (new, level, emptied level (row g (half (cell_count g.area.size)) (cell_count g.area.size + 1 - half (cell_count g.area.size)))) ∷ []

-- from a node of a level on, which gets this entry; `below` is the block under it
abbrev pub climbed : Way → (level : ℕ) → Entry → (below : ℕ) → Climb
climbed w level new below = climb (cell_count w.area.size) w.key.now level (spelled new) below (nodes_from w.area.size w.nodes.now w.path.now) w.news.now

-- an area of a tree in an open transaction that has room for so many accesses, and a buffer for a block
pub record HasRoom (t : Tx) (a : Area) (accesses : ℕ) (buffer : List ℕ) : Type 0 where
  pub within : HasArea IsTreeArea t a
  pub is_open : t.is_open ≡ true
  pub room : accesses ≤ room_of t
  pub into : length buffer ≡ a.size

-- the bytes of a block of an open transaction that has room for an access
pub record MayStore (t : Tx) (k : ℕ) (buffer : List ℕ) : Type 0 where
  pub bytes : length buffer ≡ t.size
  pub block : k < t.blocks
  pub room : 0 < room_of t
  pub is_open : t.is_open ≡ true

-- so many writes of a way up, before the rest
pub record WritesFirst (whole : Program Answer → Program Answer) (writes : ℕ) (t u : Tx) (before now : Device) (result : Result (Unit {0}) StoreError) : Type 0 where
  pub run : (rest : Program Answer) → IsFollowed (whole rest) rest t u result
  pub after : OnOk result (HasWritten writes t u)
  pub only : WantsOnlyMemory before now result

-- the writes of a way up to its end
pub record WritesLast (p : Program Answer) (t u : Tx) (before now : Device) (result : Result (Unit {0}) StoreError) : Type 0 where
  pub run : HasRun p t u result
  pub only : WantsOnlyMemory before now result

-- how the nodes of a path are read again: what takes their cells goes on with those of these bytes, or is refused
abbrev pub HasLookedAgain : Area → (path : List (ℕ × ℕ)) → (nodes : List ℕ) → (t u : Tx) → Answer → Type 0
HasLookedAgain a path nodes t u (Ok done) = (f : List (ℕ × List Cell) → Program Answer) → IsAt (look_again a (map (λ p. p.0) path) f) (f (nodes_from a.size nodes path)) t u
HasLookedAgain a path nodes t u (Err e) = (f : List (ℕ × List Cell) → Program Answer) → HasRun (look_again a (map (λ p. p.0) path) f) t u (Err e)
