-- The bytes so far are no spaces.
use Rattle.script_text.proofs.Words.{◌≡◌, ◌≤◌, ◌-◌, true, length, take, list_all, is_no_space}

abbrev pub invariant-bytes : Rattle.script_text.proofs.word.begun_length.Given.invariant-bytes
invariant-bytes l = (l.at ≤ length l.text) × (list_all is_no_space (take l.at l.text) ≡ true)

abbrev pub decreases-bytes : Rattle.script_text.proofs.word.begun_length.Given.decreases-bytes
decreases-bytes l = length l.text - l.at
