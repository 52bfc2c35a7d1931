use Rattle.kept_disk.proofs.Words.{◌≡◌, ◌<◌, ℕ, Option, Some, None, slice_get}

abbrev pub invariant-loop-number : Rattle.kept_disk.proofs.pages.clear.Given.invariant-loop-number
invariant-loop-number l = (k : ℕ) (number : Option ℕ) → k < l.number-index → slice_get l.numbers k ≡ Some number → number ≡ None
