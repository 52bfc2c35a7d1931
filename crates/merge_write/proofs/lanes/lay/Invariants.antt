use Rattle.merge_write.proofs.Words.{◌≡◌, ℕ, ◌*◌, ◌<◌, ◌≤◌, cond, get_or, is_set}

-- the words so far are laid, and the bytes after them are as before
abbrev pub invariant-loop-word : Rattle.merge_write.proofs.lanes.lay.Given.invariant-loop-word
invariant-loop-word l = record {
  done : (k : ℕ) → k < 64 * l.word → get_or l.into k 0 ≡ cond (is_set l.masks k) (get_or l.values k 0) (get_or l.fn.into k 0);
  rest : (k : ℕ) → 64 * l.word ≤ k → get_or l.into k 0 ≡ get_or l.fn.into k 0;
}
