-- What shows a byte is at the end.
use Rattle.mv_index.proofs.Gathers.{IsGathered}

abbrev pub invariant-loop-left : Rattle.mv_index.proofs.trim.gather.Given.invariant-loop-left
invariant-loop-left l = IsGathered l.fn.versions l.versions l.seen l.number l.left l.kept

abbrev pub decreases-loop-left : Rattle.mv_index.proofs.trim.gather.Given.decreases-loop-left
decreases-loop-left l = l.left
