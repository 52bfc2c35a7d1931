-- How a walk ends.
use Rattle.std.specs.Prelude.{◌≡◌, ℕ, ◌<◌, ◌≤◌, Bool, true, IfErr, IfSome, OnOk, cond, length, List, [], Result, Ok, Err, take}
use Rattle.store_model.specs.{declared.stores.Area.Area, declared.stores.Spot.Spot, declared.stores.StoreError.StoreError, Cells.{keys_end, value_mark, cell_count}, Stores.{Program, bytes_in}}
use Rattle.store_model.specs.declared.stores.StoreError.TheVariants as store
use Rattle.store_model.specs.HashCalls as hash
use Rattle.store_model.specs.HashRegion.{IsHashArea}
use Rattle.tx_blocks.specs.{Tx.{Device, IsLater, Tx}, Runs.{Behaves, HasArea, HasBlock, HasRead, HasRun, IsCut, IsStoreCause, Passed, Ran}}
use Rattle.iso_hash.specs.{declared.walk.Walked.Walked, declared.walk.Walked.TheVariants.{AtCell, AtEnd}}

-- The walk made its reads and ended here; at a cell, the buffer has its block.
abbrev pub HasWalked : Area → List ℕ → Bool → (t u : Tx) → (buffer : List ℕ) → Result Walked StoreError → Type 0
HasWalked a key with_value t u buffer (Ok (AtCell spot before)) =
    Ran (hash.walk a key with_value) t u (hash.AtCell spot before (take (keys_end a.size) buffer) (cond with_value (bytes_in (value_mark a.size spot.cell) buffer) []))
HasWalked a key with_value t u buffer (Ok (AtEnd spare last position)) = Ran (hash.walk a key with_value) t u (hash.AtEnd spare last position)
HasWalked a key with_value t u buffer (Err (store.Broken block)) = Ran (hash.walk a key with_value) t u (hash.AtBroken block)
HasWalked a key with_value t u buffer (Err (store.Tx e)) = IsCut (hash.walk a key with_value) t u e
HasWalked a key with_value t u buffer (Err store.BadKey) = ⊥
HasWalked a key with_value t u buffer (Err store.BadValue) = ⊥
HasWalked a key with_value t u buffer (Err (store.NoBlocks need free)) = ⊥
HasWalked a key with_value t u buffer (Err store.Memory) = ⊥

-- a cell of a block of the area
pub record IsSpot (a : Area) (spot : Spot) : Type 0 where
  pub block : spot.block < a.blocks
  pub cell : spot.cell < cell_count a.size

-- where a walk ends lies in the area, and the transaction is open
abbrev pub IsInside : Area → Walked → Type 0
IsInside a (AtCell spot before) = IsSpot a spot × (before < a.blocks)
IsInside a (AtEnd spare last position) = IfSome spare (IsSpot a) × (last < a.blocks) × (position < a.blocks)

-- a key and a value that fit into a cell
pub record FitCell (x y : List ℕ) : Type 0 where
  pub key : length x ≤ 28
  pub value : length y ≤ 32

-- a part of a call that follows this program: how it ends, and what it leaves
pub record IsPart {X : Type 0} (p : Program (Result X StoreError)) (t u : Tx) (writes : ℕ) (before now : Device) (result : Result X StoreError) : Type 0 where
  pub run : HasRun p t u result
  pub behaves : Behaves t u writes before now result

-- What a part that reads alone leaves: further reads, after Ok of an open transaction; why it is refused; that the disk's faults do not
-- fall, and stand after Ok where they stood.
pub record OnlyReads {R : Type 0} (t u : Tx) (before now : Device) (result : Result R StoreError) : Type 0 where
  pub reads : HasRead t u
  pub is_open : OnOk result (u.is_open ≡ true)
  pub cause : IfErr result (IsStoreCause u 1 before now)
  pub later : IsLater before now
  pub passed : OnOk result (Passed before now)

-- an area of a hash store in the transaction's blocks, and a buffer for one of them
pub record HasBuffer (t : Tx) (a : Area) (buffer : List ℕ) : Type 0 where
  pub within : HasArea IsHashArea t a
  pub long : length buffer ≡ a.size

-- as many bytes as head and key parts of a block of the area have
pub record HasKeys (a : Area) (keys : List ℕ) : Type 0 where
  pub area : IsHashArea a
  pub long : length keys ≡ keys_end a.size

-- blocks of 256 to 4,096 bytes
pub record IsSize (size : ℕ) : Type 0 where
  pub least : 256 ≤ size
  pub most : size ≤ 4096

-- a cell of a block of the area, and a buffer for the block's bytes
pub record HasSpot (t : Tx) (a : Area) (spot : Spot) (buffer : List ℕ) : Type 0 where
  pub block : HasBlock IsHashArea t a spot.block buffer
  pub cell : spot.cell < cell_count a.size
