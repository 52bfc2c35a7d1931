-- A transaction of a core while a store's call is made on it.
use Rattle.std.specs.{Prelude.{◌≡◌, ℕ, ◌<◌, ◌≤◌, IsSome, Option}, Option.ForSome}
use Rattle.counts.specs.Count.{Rose}
use Rattle.iso_disk.specs.Disk.{DiskState, WritesNothing}
use Rattle.iso_model.specs.{Array.Array, History.array_at, World.{World, Live}}
use Rattle.tx_table.specs.Work.{Doing}
use Rattle.tx_blocks.specs.Tx.{Tx, IsTx as AreLimits}
use Rattle.iso_core.specs.{declared.core_itself.Core.Core, Calls.IsTx, Core.{StandsFor, disk_of}, Standing.up}

-- what a store sees of the transaction
abbrev pub tx_of : Option Array → Doing → Tx
tx_of array doing = record { size = doing.size; blocks = doing.blocks; base = array; accesses = doing.accesses; is_open = Rattle.std.specs.Prelude.true }

-- what contracts see of it, and how often the disk has failed in the call
pub record Seen : Type 0 where
  pub tx : Tx
  pub faults : ℕ

-- the same transaction but for its accesses
pub record IsSameWork (old new : Doing) : Type 0 where
  pub begin : new.begin ≡ old.begin
  pub mode : new.mode ≡ old.mode
  pub size : new.size ≡ old.size
  pub blocks : new.blocks ≡ old.blocks

-- the count of the disk's faults stays, or rose where it failed in the call
pub record Counts (failures before now : ℕ) : Type 0 where
  pub later : before ≤ now
  pub none : failures ≡ 0 → now ≡ before
  pub some : 0 < failures → Rose before now

-- The transaction is live in each world that the core stood for, and the core represents it still: nothing was written.
pub record IsGuest {D : Type 0} (state : D → DiskState) (stood : World → Type 0) (before : DiskState) (begun : Doing) (array : Option Array)
    (core : Core D) (tx : ℕ) (doing : Doing) (failures : ℕ) : Type 0 where
  pub world : World
  pub live : Live
  pub was : stood world
  pub here : IsTx world tx live
  pub size : begun.size ≡ world.geometry.block
  pub blocks : begun.blocks ≡ world.geometry.blocks
  pub stands : (W : World) → stood W → StandsFor state core W up
  pub unwritten : WritesNothing before (state (disk_of core))
  pub counts : Counts failures before.faults (state (disk_of core)).faults
  pub same : IsSameWork begun doing
  pub told : IsSome array → IsSome before.contents
  pub shown : ForSome array (λ A. A ≡ array_at world.history live.begin)
  pub limits : AreLimits (tx_of array doing)
