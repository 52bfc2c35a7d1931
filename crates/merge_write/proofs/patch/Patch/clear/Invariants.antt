-- The first masks are zero, and the bytes stay.
use Rattle.merge_write.proofs.Words.{◌≡◌, ℕ, ◌<◌, length, get_or}

abbrev pub invariant-loop-at : Rattle.merge_write.proofs.patch.Patch.clear.Given.invariant-loop-at
invariant-loop-at l = record {
  bytes : l.self-inside.bytes.items ≡ l.initial.self-inside.bytes.items;
  len : length l.self-inside.masks.items ≡ length l.initial.self-inside.masks.items;
  zero : (k : ℕ) → k < l.at → get_or l.self-inside.masks.items k 0 ≡ 0;
}
