-- What a machine's disk tells of its bytes, and so what is known of its replies and its worlds.
use Rattle.std.specs.{Prelude.{◌≡◌, ◌⊎◌, ℕ, List, IsSome}, List.AllByRecursion}
use Rattle.iso_disk.specs.Disk.{DiskState}
pub use Rattle.script_model.specs.Operations.{IsPlain}
use Rattle.script_model.specs.{declared.script.Line.Line, declared.script.Reply.Reply, declared.script.Reply.TheVariants.Shown}
use Rattle.iso_model.specs.World.{World}

-- what holds where the disk tells its bytes; a real file tells none, so what a read of it gives is not known
abbrev pub IfTold : DiskState → Type 0 → Type 0
IfTold d P = IsSome d.contents → P

-- the same reply, but for the bytes that it shows
abbrev pub SameButShown : Reply → Reply → Type 0
SameButShown (Shown xs) (Shown ys) = Unit {0}
SameButShown r s = r ≡ s

-- lines that call no store
abbrev pub ArePlain : List (ℕ × Line) → Type 0
ArePlain lines = AllByRecursion (λ line. IsPlain line.1.op) lines

-- what holds where the disk tells its bytes, or no store is called: what a store's call does with bytes that are not told is not
-- known
abbrev pub IfKnown : DiskState → (plain : Type 0) → Type 0 → Type 0
IfKnown d plain P = IsSome d.contents ⊎ plain → P

-- The machine represents the world that is given, where it is known; else for one that has the same history, and other accesses.
pub record StandsSo (stands : World → Type 0) (d : DiskState) (plain : Type 0) (given : World) : Type 0 where
  pub world : World
  pub is : stands world
  pub known : IfKnown d plain (world ≡ given)
  pub history : world.history ≡ given.history
  pub geometry : world.geometry ≡ given.geometry
