-- The cores of the tests, and what their transactions did.
use Rattle.std.specs.Prelude.{◌≡◌, ℕ, ◌≤◌, [], length}
use Rattle.iso_core.specs.{declared.core_itself.Core.Core, Core.StandsFor, Standing.up}
use Rattle.iso_disk.specs.Disk.{DiskState}
use Rattle.iso_model.specs.{declared.access.Geometry.Geometry, declared.limits.TheConstants.{LAST, MAX_ACCESSES}, Premises.AreAccesses, World.World}
use Rattle.tx_table.specs.Work.{Doing}

-- the core is up, no transaction is live, and one may begin
pub record IsIdle {D : Type 0} (state : D → DiskState) (core : Core D) : Type 0 where
  pub world : World
  pub stands : StandsFor state core world up
  pub live : world.live ≡ []
  pub next : world.next ≤ LAST

-- the work of a transaction that began there and did something
pub record HasDone (g : Geometry) (at : ℕ) (work : Doing) : Type 0 where
  pub begin : work.begin ≡ at
  pub mode : work.mode ≡ g.mode
  pub size : work.size ≡ g.block
  pub blocks : work.blocks ≡ g.blocks
  pub accesses : AreAccesses g work.accesses
  pub few : length work.accesses ≤ MAX_ACCESSES
