-- What a call of a side hands on at an exit.
use Rattle.mirror_disk.proofs.Words.{◌≡◌, ◌≤◌, ℕ, Result, Ok, Err, OnErr, arith, DiskState, IsLawful, WritesNothing, Elapses, starts_unwritten}
use Rattle.iso_disk.proofs.Moments.{goes_on_unwritten}

-- a sync writes nothing
pub synced : {old new : DiskState} → IsLawful old → new.contents ≡ old.contents → Elapses old new old.now → WritesNothing old new
synced laws contents_are call = goes_on_unwritten laws (starts_unwritten laws) contents_are call

-- a count that stays, and one that does not fall in two calls
pub stands_still : (n : ℕ) → n ≤ n
stands_still n = omega arith

pub later_twice : (l m n : ℕ) → l ≤ m → m ≤ n → l ≤ n
later_twice l m n first second = omega arith

-- what holds whatever the answer is
pub on_err : {T E P : Type 0} (r : Result T E) → P → OnErr r P
on_err (Ok x) p = tt
on_err (Err e) p = p
