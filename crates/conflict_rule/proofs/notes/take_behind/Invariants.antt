-- Those that are left were the first ones.
use Rattle.conflict_rule.proofs.Words.{◌≡◌, length, take}

abbrev pub invariant-loop-notes : Rattle.conflict_rule.proofs.notes.take_behind.Given.invariant-loop-notes
invariant-loop-notes l = take l.left l.notes.items ≡ take l.left l.initial.notes.items

abbrev pub decreases-loop-notes : Rattle.conflict_rule.proofs.notes.take_behind.Given.decreases-loop-notes
decreases-loop-notes l = length l.notes.items
