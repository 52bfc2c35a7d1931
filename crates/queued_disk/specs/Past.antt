-- The calls that were handed on.
use Rattle.std.specs.Prelude.{List, [], ◌∷◌, ◌++◌}
use Rattle.iso_memdisk.specs.declared.record.Call.{Call}
use Rattle.queued_disk.specs.{declared.past.Last.Last, declared.past.Last.TheVariants.{Nothing, Tape}}

-- each tape that was handed on, the last one first
abbrev pub tapes : Last → List (List Call)
tapes Nothing = []
tapes (Tape tape before) = tape.value.items ∷ before.value

-- their calls in order
abbrev pub in_order : List (List Call) → List Call
in_order [] = []
in_order (tape ∷ before) = in_order before ++ tape
