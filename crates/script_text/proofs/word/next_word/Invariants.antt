-- What is cut off so far has no word.
use Rattle.script_text.proofs.Words.{◌≡◌, ◌≤◌, length, words_of}

abbrev pub invariant-loop-rest : Rattle.script_text.proofs.word.next_word.Given.invariant-loop-rest
invariant-loop-rest l = (words_of l.text ≡ words_of l.rest) × (length l.rest ≤ length l.text)

abbrev pub decreases-loop-rest : Rattle.script_text.proofs.word.next_word.Given.decreases-loop-rest
decreases-loop-rest l = length l.rest
