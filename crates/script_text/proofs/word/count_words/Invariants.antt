-- The words so far, each of which has a byte.
use Rattle.script_text.proofs.Words.{◌≡◌, ◌≤◌, ◌+◌, length, words_of}

abbrev pub invariant-loop-behind : Rattle.script_text.proofs.word.count_words.Given.invariant-loop-behind
invariant-loop-behind l = (l.count + length (words_of l.rest) ≡ length (words_of l.text)) × (l.count + length l.rest ≤ length l.text)

abbrev pub decreases-loop-behind : Rattle.script_text.proofs.word.count_words.Given.decreases-loop-behind
decreases-loop-behind l = length l.rest
