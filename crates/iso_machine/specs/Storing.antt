-- What an operation on a store makes of a world.
use Rattle.std.specs.Prelude.{◌≡◌, ◌+◌, ◌-◌, ◌≤◌, if◌then◌else◌, ◌++◌, false, length, Option, Result}
use Rattle.iso_disk.specs.Disk.{DiskState}
use Rattle.iso_model.specs.{declared.limits.TheConstants.MAX_ACCESSES, Step.with_accesses, World.{World, Live}, Array.Array}
use Rattle.script_model.specs.{declared.script.Op.Op, declared.script.Reply.Reply, Step.{array_of, in_store}, declared.stop.Stop.Stop}
use Rattle.script_model.specs.declared.script.Reply.TheVariants as reply
use Rattle.tx_table.specs.Work.{Doing}
use Rattle.store_calls.specs.Calls.{AreStoreAreas, HasCalled, is_empty_scan, store_areas, store_blocks, store_ended}
use Rattle.store_model.specs.declared.files.FsRegion.{FsRegion}
use Rattle.iso_fs.specs.Ends.{areas_of}
use Rattle.script_runner.specs.Told.{IfTold}
use Rattle.iso_machine.specs.{Accessing.IsWorkedTo, Guests.tx_of}

-- the reply of a store that is called, and the world after it
abbrev pub called_of : World → Live → Op → Reply × World
called_of W t op = (
  (store_ended (store_areas W.geometry op) op (MAX_ACCESSES - length t.accesses) (array_of W t)).1,
  with_accesses W t (t.accesses ++ (store_ended (store_areas W.geometry op) op (MAX_ACCESSES - length t.accesses) (array_of W t)).0),
)

-- what the rules of one thread answer an operation on a store
abbrev pub store_act : World → Live → Op → Reply × World
store_act W t op = in_store W t (store_blocks W.geometry op) (if is_empty_scan op then (reply.BadRange, W) else called_of W t op)

-- The reply and the world are those that are given, where the disk tells its bytes; else the transaction has other accesses.
pub record IsStored (d : DiskState) (W : World) (t : Live) (given : Reply × World) (work : Doing) (r : Reply) : Type 0 where
  pub reply : IfTold d (r ≡ given.0)
  pub world : World
  pub worked : IsWorkedTo W t world work
  pub told : IfTold d (world ≡ given.1)

-- the operation's store is there for the transaction, and the operation is no empty scan
abbrev pub MayCall : (array : Option Array) → (at : FsRegion) → Op → Doing → Type 0
MayCall array at op work = AreStoreAreas op (areas_of (tx_of array work) at) × (at.files.start + at.files.size ≤ work.blocks) × (is_empty_scan op ≡ false)

-- the store was called on the transaction
abbrev pub CallsStore : (array : Option Array) → (at : FsRegion) → Op → (old new : Doing) → Result Reply Stop → Type 0
CallsStore array at op old new result = HasCalled (store_ended (areas_of (tx_of array old) at) op) (tx_of array old) (tx_of array new) result
