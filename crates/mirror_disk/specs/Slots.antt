-- The slots of a header.
use Rattle.std.specs.Prelude.{ℕ}
use Rattle.mirror_disk.specs.{declared.slot.Slot.Slot, declared.slot.Slot.TheVariants.{First, Second}}

-- where the gate of a slot is
abbrev pub place : Slot → ℕ
place First = 16
place Second = 32

abbrev pub other : Slot → Slot
other First = Second
other Second = First
