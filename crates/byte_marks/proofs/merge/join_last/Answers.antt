-- The last extent with more bytes is what it was.
use Rattle.byte_marks.proofs.{Words.{arith}, Apart.{wider_last, last_inside, last_or-append}, merge.join_last.Goals.{else-last-added-via-then-last-added+else-added-last, else-last-added-via-else-last-added}}

pub push_reserved-requires : Rattle.byte_marks.proofs.merge.join_last.Goals.push_reserved-requires
push_reserved-requires c = grind arith

pub returns-then-added-last-clause-apart : Rattle.byte_marks.proofs.merge.join_last.Goals.returns-then-added-last-clause-apart
returns-then-added-last-clause-apart c = grind (arith, last_inside, wider_last)

pub push_reserved-requires-2 : Rattle.byte_marks.proofs.merge.join_last.Goals.push_reserved-requires-2
push_reserved-requires-2 c = grind arith

pub returns-clause-away : Rattle.byte_marks.proofs.merge.join_last.Goals.returns-clause-away
returns-clause-away c = grind (arith, last_or-append)
