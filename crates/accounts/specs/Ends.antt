-- What is promised of accounts on a device, from its first entry to its last.
use Rattle.std.specs.Prelude.{◌≡◌, ◌≢◌, true, [], List}
use Rattle.accounts.specs.{Lists.{KeepsSumAt, KeepsSumIn, OpensWithSum}, Sums.Accounts}
use Rattle.iso_core.specs.{declared.core_itself.Core.Core, Core.disk_of}
use Rattle.iso_disk.specs.Disk.{DiskState, LeavesOnly}
use Rattle.iso_model.specs.History.{array_at, last}
use Rattle.iso_shared.specs.{declared.entry.Entry.Entry, Legal.IsLegal, Standing.{Came, Holds}, States.{Start, opened, state_at}}
use Rattle.store_scripts.specs.EntriesInOrder.{StoresAreWell}
use Rattle.store_scripts.specs.Stores.{image_tree}

-- The run began with stores that are well formed, on a disk that tells its bytes, and with accounts that have their sum, or with none.
pub record BeginsWithSum (accounts : Accounts) (A : Start) : Type 0 where
  pub tells : A.tells ≡ true
  pub well : StoresAreWell (image_tree A.world.geometry) A.world.geometry A.world.history
  pub sum : KeepsSumIn accounts A.world.geometry (array_at A.world.history (last A.world.history))

-- The core represents the start, at which no transaction is live, on an image with a hash store; its disk is as it was handed in.
pub record StartsOn {D : Type 0} (state : D → DiskState) (A : Start) (first : DiskState) (core : Core D) : Type 0 where
  pub holds : Holds state core (opened A)
  pub idle : A.world.live ≡ []
  pub came : Came A first (state (disk_of core)) []
  pub store : A.world.geometry.hash ≢ 0

-- The core represents one legal list. Begun so, the sum of all accounts is the same after every commit of its history, once they are
-- open; and every image that a crash might have left at any moment since, and that opens, opens to accounts with that sum, or to none.
pub record SumStays {D : Type 0} (state : D → DiskState) (A : Start) (first : DiskState) (accounts : Accounts) (core : Core D) : Type 0 where
  pub entries : List Entry
  pub legal : IsLegal A entries
  pub holds : Holds state core (state_at A entries)
  pub history : BeginsWithSum accounts A → KeepsSumAt accounts A entries
  pub images : BeginsWithSum accounts A → LeavesOnly first (state (disk_of core)) (OpensWithSum accounts)
