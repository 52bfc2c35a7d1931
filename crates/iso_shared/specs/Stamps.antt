-- The list under the lock, of whose entries each is stamped with the moment at which its turn ended.
use Rattle.std.specs.Prelude.{ℕ, List, map}
use Rattle.iso_core.specs.{declared.core_itself.Core.Core, Core.disk_of}
use Rattle.iso_disk.specs.Disk.{DiskState}
use Rattle.iso_shared.specs.{declared.entry.Entry.Entry, declared.guarded.Stamped.Stamped}

-- the entries alone, and the moments alone
abbrev pub entries_in : List Stamped → List Entry
entries_in turns = map (λ (s : Stamped). s.entry) turns

abbrev pub moments_in : List Stamped → List ℕ
moments_in turns = map (λ (s : Stamped). s.moment) turns

-- the moment that the disk of a core has come to
abbrev pub clock_of : {D : Type 0} → (D → DiskState) → Core D → ℕ
clock_of state core = (state (disk_of core)).clock

-- an entry whose turn ends with this core
abbrev pub stamped : {D : Type 0} → (D → DiskState) → Core D → Entry → Stamped
stamped state core e = record { entry = e; moment = clock_of state core }
