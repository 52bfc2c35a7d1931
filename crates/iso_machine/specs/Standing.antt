-- What a machine represents.
use Rattle.std.specs.{Prelude.{◌≡◌, ◌<◌, ℕ, Bool, false, IsTrue, List, Option, Some, None, MatchOption, find, length, map, nat_eq, slice_index_or}, List.{AllByRecursion, HoldsAt}}
use Rattle.iso_disk.specs.Disk.{DiskState}
use Rattle.iso_model.specs.{declared.access.Geometry.Geometry, World.{World, Live, Place, client, is_at_client, is_under_label, label}, Labels.{is_label, key_of}, Worlds.AreDistinct}
use Rattle.indexmap.specs.IndexMap.{get}
use Rattle.iso_core.specs.{declared.core_itself.Core.Core, Core.StandsFor, Standing.up}
use Rattle.iso_machine.specs.{declared.attached.Attached.Attached, declared.attached.Spot.Spot, declared.finder.Finder.Finder, declared.machine.Machine.Machine}
use Rattle.iso_machine.specs.declared.attached.Spot.TheVariants as spot

-- the place of the model
abbrev pub place_of : Spot → Place
place_of (spot.Client c) = client c
place_of (spot.Label text) = label text

-- the live transaction of the model
abbrev pub live_of : Attached → Live
live_of a = record { number = a.tx; begin = a.work.value.begin; mode = a.work.value.mode; accesses = a.work.value.accesses; place = place_of a.spot }

-- the work is on blocks of the world's image
pub record IsSized (g : Geometry) (a : Attached) : Type 0 where
  pub size : a.work.value.size ≡ g.block
  pub blocks : a.work.value.blocks ≡ g.blocks

-- the number that is noted of a client's transaction, and of the one under a label
abbrev pub number_at : ℕ → Finder → Option ℕ
number_at c finder = slice_index_or finder.clients c None

abbrev pub number_under : List ℕ → Finder → Option ℕ
number_under text finder = get nat_eq finder.labels (key_of text)

-- the transaction is not at such a place
abbrev pub IsOff : (Place → Bool) → Attached → Type 0
IsOff test a = test (place_of a.spot) ≡ false

-- where in the list the transaction at such a place is, if one is there
abbrev pub IsFound : (Place → Bool) → List Attached → Option ℕ → Type 0
IsFound test live found = MatchOption found (find (λ t. test t.place) (map live_of live) ≡ None)
    (λ i. (i < length live) × HoldsAt (λ a. find (λ t. test t.place) (map live_of live) ≡ Some (live_of a)) live i)

-- no transaction is at a client or under a label of which no number is noted
pub record AreListed (finder : Finder) (live : List Attached) : Type 0 where
  pub clients : (c : ℕ) → c < 256 → number_at c finder ≡ None → AllByRecursion (IsOff (is_at_client c)) live
  pub labels : (text : List ℕ) → IsTrue (is_label text) → number_under text finder ≡ None → AllByRecursion (IsOff (is_under_label text)) live

-- and no two are at one client, or under one label
pub record AreKnown (finder : Finder) (live : List Attached) : Type 0 where
  pub listed : AreListed finder live
  pub distinct : AreDistinct (map live_of live)

-- A core that is up and these transactions stand for the world, whose live transactions they are.
pub record AreOf {D : Type 0} (state : D → DiskState) (core : Core D) (finder : Finder) (live : List Attached) (W : World) : Type 0 where
  pub core_of : StandsFor state core W up
  pub live_are : map live_of live ≡ W.live
  pub sized : AllByRecursion (IsSized W.geometry) live
  pub listed : AreListed finder live

abbrev pub IsMachineOf : {D : Type 0} → (state : D → DiskState) → Machine D → World → Type 0
IsMachineOf state m W = AreOf state m.core m.finder m.live.items W

-- it represents some world
abbrev pub IsMachine : {D : Type 0} → (state : D → DiskState) → Machine D → Type 0
IsMachine state m = (W : World) × IsMachineOf state m W

abbrev pub core_of : {D : Type 0} → Machine D → Core D
core_of m = m.core
