use Rattle.merge_write.proofs.Words.{◌≡◌, ℕ, ◌*◌, ◌&&◌, ◌||◌, nat_le, nat_lt, is_set}

-- the bits from `from` up to the word are set, and the others are as before
abbrev pub invariant-loop-word : Rattle.merge_write.proofs.masks.set_bits.Given.invariant-loop-word
invariant-loop-word l = (k : ℕ) → is_set l.masks k ≡ ((nat_le l.from k && nat_lt k (64 * l.word)) || is_set l.fn.masks k)
