-- What is left and what was taken so far are the room.
use Rattle.std.proofs.Common.{◌≡◌, ◌+◌, ℕ}
use Rattle.iso_model.specs.Effect.{runs_from}
use Rattle.device_desk.proofs.Needs.{bytes_of_pieces, bytes_of_runs}

abbrev pub invariant-loop-bytes : Rattle.device_desk.proofs.need.left_by_patch.Given.invariant-loop-bytes
invariant-loop-bytes l =
    (Rattle.device_desk.proofs.need.left_by_patch.Given.iterator-loop-bytes).can_next l.bytes-iterator × (Rattle.device_desk.proofs.need.left_by_patch.Given.iterator-loop-bytes).is_finite l.bytes-iterator
    × ((b : ℕ) → l.left + bytes_of_runs (runs_from b 0 l.patch) ≡ l.room + bytes_of_pieces l.bytes-iterator)
