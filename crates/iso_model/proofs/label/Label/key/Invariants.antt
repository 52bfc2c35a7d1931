-- The bytes from a place on, so far.
use Rattle.iso_model.proofs.Words.{◌≡◌, ◌≤◌, drop, length, key_of}

abbrev pub invariant-loop-at : Rattle.iso_model.proofs.label.Label.key.Given.invariant-loop-at
invariant-loop-at l = record { inside : l.at ≤ length l.text; key : l.key ≡ key_of (drop l.at l.text) }

abbrev pub decreases-loop-at : Rattle.iso_model.proofs.label.Label.key.Given.decreases-loop-at
decreases-loop-at l = l.at
