-- The words so far have the other bits.
use Rattle.merge_write.proofs.Words.{◌≡◌, ℕ, ◌*◌, ◌/◌, ◌-◌, ◌<◌, ◌≤◌, not, is_set}

abbrev pub invariant-loop-word : Rattle.merge_write.proofs.masks.pass_words.Given.invariant-loop-word
invariant-loop-word l = record {
  from : l.from ≤ 64 * l.word;
  within : 64 * l.word ≤ l.end;
  passed : (k : ℕ) → l.from ≤ k → k < 64 * l.word → is_set l.masks k ≡ not l.wanted;
}

abbrev pub decreases-loop-word : Rattle.merge_write.proofs.masks.pass_words.Given.decreases-loop-word
decreases-loop-word l = l.end / 64 - l.word
