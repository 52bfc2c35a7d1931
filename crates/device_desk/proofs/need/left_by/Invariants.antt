-- What is left and what was taken so far are the room.
use Rattle.std.proofs.Common.{◌≡◌, ◌+◌}
use Rattle.std.specs.Prelude.{flat_map}
use Rattle.iso_model.specs.{declared.access.Geometry.Geometry, Effect.{record_length, runs, runs_from}}
use Rattle.device_desk.proofs.Needs.{bytes_of_runs}

abbrev pub invariant-loop-patch : Rattle.device_desk.proofs.need.left_by.Given.invariant-loop-patch
invariant-loop-patch l =
    (Rattle.device_desk.proofs.need.left_by.Given.iterator-loop-patch).can_next l.patch-iterator × (Rattle.device_desk.proofs.need.left_by.Given.iterator-loop-patch).is_finite l.patch-iterator
    × ((g : Geometry) → g.block ≡ l.work.size → g.blocks ≡ l.work.blocks
    → l.left + record_length (runs g l.work.accesses) ≡ l.room + bytes_of_runs (flat_map (λ e. runs_from e.0 0 e.1) l.patch-iterator))
