-- A number above all of them may follow.
use Rattle.conflict_rule.proofs.{Words.{arith}, Numbers.{rises-append, rises_either}}

pub invariant_of-self : Rattle.conflict_rule.proofs.notes.Notes.add.Goals.invariant_of-self
invariant_of-self c = grind (arith, rises_either, rises-append)
