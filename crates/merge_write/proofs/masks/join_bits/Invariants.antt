-- The words so far have the bits of both, and the others are as before.
use Rattle.merge_write.proofs.Words.{◌≡◌, ℕ, ◌*◌, ◌<◌, ◌≤◌, ◌||◌, is_set}

abbrev pub invariant-loop-word : Rattle.merge_write.proofs.masks.join_bits.Given.invariant-loop-word
invariant-loop-word l = record {
  done : (k : ℕ) → k < 64 * l.word → is_set l.masks k ≡ (is_set l.others k || is_set l.fn.masks k);
  rest : (k : ℕ) → 64 * l.word ≤ k → is_set l.masks k ≡ is_set l.fn.masks k;
}
