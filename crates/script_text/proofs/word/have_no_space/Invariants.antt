-- Where none was a space so far, the bytes so far are none.
use Rattle.script_text.proofs.Words.{◌≡◌, true, take, drop, list_all, is_no_space}

abbrev pub invariant-bytes : Rattle.script_text.proofs.word.have_no_space.Given.invariant-bytes
invariant-bytes l = l.good ≡ true → list_all is_no_space (take l.k (drop l.at l.text)) ≡ true
