-- The patches so far are pushed, and the others follow.
use Rattle.iso_core.proofs.Words.{◌≡◌, ◌++◌, map, flat_map, Geometry, runs, runs_from, part_of}

abbrev pub invariant-loop-block : Rattle.iso_core.proofs.spelling.push_work.Given.invariant-loop-block
invariant-loop-block l =
    (Rattle.iso_core.proofs.spelling.push_work.Given.iterator-loop-block).can_next l.block-iterator × (Rattle.iso_core.proofs.spelling.push_work.Given.iterator-loop-block).is_finite l.block-iterator
    × (l.buffer.records ≡ l.fn.buffer.records)
    × ((g : Geometry) → g.block ≡ l.work.size → g.blocks ≡ l.work.blocks
    → (l.buffer.parts ++ flat_map (λ e. runs_from e.0 0 e.1) l.block-iterator ≡ l.fn.buffer.parts ++ runs g l.work.accesses)
    × (l.parts.items ++ map part_of (flat_map (λ e. runs_from e.0 0 e.1) l.block-iterator) ≡ l.fn.parts.items ++ map part_of (runs g l.work.accesses)))
