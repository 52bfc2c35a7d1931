-- The parts so far are taken, and the others follow.
use Rattle.version_read.proofs.{Words.{◌+◌, map, part_of}, Additions.AreTaken}

abbrev pub invariant-loop-part : Rattle.version_read.proofs.index.take_parts.Given.invariant-loop-part
invariant-loop-part l =
    (Rattle.version_read.proofs.index.take_parts.Given.iterator-loop-part).can_next l.part-iterator × (Rattle.version_read.proofs.index.take_parts.Given.iterator-loop-part).is_finite l.part-iterator
    × AreTaken l.fn.index l.index l.number (l.gate + 20) l.at (map part_of l.view.parts) (map part_of l.part-iterator)
