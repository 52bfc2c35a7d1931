-- Those from the place on are copied.
use Rattle.conflict_rule.proofs.Words.{◌≡◌, take}

abbrev pub invariant-loop-note : Rattle.conflict_rule.proofs.notes.Notes.copy_after.Given.invariant-loop-note
invariant-loop-note l = l.notes.items ≡ take l.note-index l.note-items
