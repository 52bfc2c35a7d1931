-- What a table of transactions represents.
use Rattle.std.specs.{Prelude.{◌≡◌, ℕ, List, Some, map}, List.AllByRecursion}
use Rattle.iso_disk.specs.Disk.{DiskState}
use Rattle.iso_model.specs.{declared.access.Geometry.Geometry, World.{World, Live, attached, client}}
use Rattle.iso_core.specs.{declared.core_itself.Core.Core, Calls.IsTx, Core.StandsFor, Standing.up}
use Rattle.iso_machine.specs.Accessing.{IsActive}
use Rattle.device_desk.specs.{declared.seat.Seat.Seat, declared.table.Table.Table}

-- the live transaction of the model, which is that of the client who has its number
abbrev pub live_of : Seat → Live
live_of a = record { number = a.tx; begin = a.work.value.begin; mode = a.work.value.mode; accesses = a.work.value.accesses; place = client a.tx }

-- the work is on blocks of the world's image
pub record IsSized (g : Geometry) (a : Seat) : Type 0 where
  pub size : a.work.value.size ≡ g.block
  pub blocks : a.work.value.blocks ≡ g.blocks

-- A core that is up and these transactions stand for the world, whose live transactions they are.
pub record AreOf {D : Type 0} (state : D → DiskState) (core : Core D) (live : List Seat) (W : World) : Type 0 where
  pub core_of : StandsFor state core W up
  pub live_are : map live_of live ≡ W.live
  pub sized : AllByRecursion (IsSized W.geometry) live

abbrev pub IsTableOf : {D : Type 0} → (state : D → DiskState) → Table D → World → Type 0
IsTableOf state m W = AreOf state m.core m.live.items W

-- it is the transaction of that number, live in the world with what its work has
pub record IsHere (W : World) (number : ℕ) (a : Seat) : Type 0 where
  pub here : attached W number ≡ Some (live_of a)
  pub tx : IsTx W a.tx (live_of a)
  pub active : IsActive W (live_of a) a.work.value
