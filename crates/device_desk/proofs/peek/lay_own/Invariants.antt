-- What is held for the block is in the patches that are left, and nothing was laid.
use Rattle.std.proofs.Common.{◌≡◌}
use Rattle.iso_model.specs.Effect.{effects_from}
use Rattle.tx_table.specs.Patches.{patch_at}

abbrev pub invariant-loop-at : Rattle.device_desk.proofs.peek.lay_own.Given.invariant-loop-at
invariant-loop-at l =
    (Rattle.device_desk.proofs.peek.lay_own.Given.iterator-loop-at).can_next l.at-iterator × (Rattle.device_desk.proofs.peek.lay_own.Given.iterator-loop-at).is_finite l.at-iterator
    × (patch_at l.work.size l.block l.at-iterator ≡ effects_from l.work.accesses l.block 0 l.work.size) × (l.into ≡ l.fn.into)
