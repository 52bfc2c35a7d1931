-- The parts so far are added.
use Rattle.version_read.proofs.{Words.◌+◌, Additions.AreAdded}

abbrev pub invariant-loop-part : Rattle.version_read.proofs.index.add_parts.Given.invariant-loop-part
invariant-loop-part l = AreAdded l.fn.index l.index l.number (l.gate + 20) l.at l.part-index l.parts
