-- The pieces that end after the begin of the range, and begin before its end.
use Rattle.mv_index.proofs.{Words.{arith}, Meetings.meeting_same, Orders.some_at}

pub prove-unreachable-requires : Rattle.mv_index.proofs.pieces.meeting.Goals.prove-unreachable-requires
prove-unreachable-requires c = grind (arith, some_at)

pub returns-clause-same : Rattle.mv_index.proofs.pieces.meeting.Goals.returns-clause-same
returns-clause-same c image p from to = grind (arith, meeting_same)
