-- Room is made for the parts so far.
use Rattle.version_read.proofs.{Words.{length, ◌-◌}, Rooms.AreReserved}

abbrev pub invariant-loop-first : Rattle.version_read.proofs.index.reserve_parts.Given.invariant-loop-first
invariant-loop-first l = AreReserved l.fn.index l.index l.parts l.first

abbrev pub decreases-loop-first : Rattle.version_read.proofs.index.reserve_parts.Given.decreases-loop-first
decreases-loop-first l = length l.parts - l.first
