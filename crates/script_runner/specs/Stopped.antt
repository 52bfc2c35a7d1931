-- What a machine represents after an operation that had no reply.
use Rattle.std.specs.Prelude.{◌≡◌, [], map}
use Rattle.iso_model.specs.{Step.with_live, World.{Live, World}}
use Rattle.script_model.specs.{declared.script.Op.Op, declared.script.Op.TheVariants.{Compact, End, Group, Upgrade}, declared.stop.Stop.Stop}
use Rattle.script_model.specs.declared.stop.Stop.TheVariants as stop

-- the transaction, whatever its accesses are
abbrev pub without_accesses : Live → Live
without_accesses t = record t { accesses = [] }

-- The same world but for accesses: the same transactions are live, at the same places, and all else is one.
pub record SameButAccesses (V W : World) : Type 0 where
  pub live : map without_accesses V.live ≡ map without_accesses W.live
  pub rest : with_live V W.live ≡ W

-- The machine represents this world as before. Where a store was called, its transaction may have the accesses that the call has made.
pub record StandsStill (stands : World → Type 0) (plain : Type 0) (W : World) : Type 0 where
  pub world : World
  pub is : stands world
  pub same : SameButAccesses world W
  pub whole : plain → world ≡ W

-- Why an operation may stop such that the machine goes on. A fault of the disk in one that writes is the end of it, and so is each stop
-- of a group, whose members have left their places by then.
abbrev pub GoesOn : Op → Stop → Type 0
GoesOn End why = why ≡ stop.Memory
GoesOn Compact why = why ≡ stop.Memory
GoesOn Upgrade why = why ≡ stop.Memory
GoesOn (Group texts) why = ⊥
GoesOn op why = Unit {0}
