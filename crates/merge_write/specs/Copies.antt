-- What is said of bytes that are laid or copied over others.
use Rattle.std.specs.Prelude.{◌≡◌, ℕ, ◌+◌, ◌<◌, ◌≤◌, ◌&&◌, Bool, cond, List, nat_le, nat_lt, slice_index}

-- of the `count` bytes from `at` on those that are chosen, by their places from there, are the others' now, and all else is as before
pub record IsLaid (at count : ℕ) (chosen : ℕ → Bool) (values old new : List ℕ) : Type 0 where
  pub lanes : (k : ℕ) → k < count → slice_index new (at + k) ≡ cond (chosen k) (slice_index values (at + k)) (slice_index old (at + k))
  pub before : (k : ℕ) → k < at → slice_index new k ≡ slice_index old k
  pub behind : (k : ℕ) → at + count ≤ k → slice_index new k ≡ slice_index old k

-- the bytes from `from` up to `to` are the others' now, and all else is as before
abbrev pub AreCopied : (from to : ℕ) → (bytes old new : List ℕ) → Type 0
AreCopied from to bytes old new = (k : ℕ) → slice_index new k ≡ cond (nat_le from k && nat_lt k to) (slice_index bytes k) (slice_index old k)
