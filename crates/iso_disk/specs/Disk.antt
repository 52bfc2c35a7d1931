-- What the calls of a disk do to its bytes, what a crash may leave of them, and when a call may fail.
use Rattle.std.specs.{Prelude.{◌≡◌, ◌⊎◌, ℕ, ◌+◌, ◌<◌, ◌≤◌, List, ◌++◌, length, take, drop, slice_index, Option, Some, None, IsSome}, Option.{option_map, ForSome}}

-- the old bytes with these in the place of those from `at` on
abbrev pub spliced : List ℕ → ℕ → List ℕ → List ℕ
spliced old at bytes = take at old ++ bytes ++ drop (at + length bytes) old

-- any bytes in the range of n bytes from `at` on, the same elsewhere
pub record Torn (at n : ℕ) (old new : List ℕ) : Type 0 where
  pub before : take at new ≡ take at old
  pub after : drop (at + n) new ≡ drop (at + n) old
  pub size : length new ≡ length old

-- one of these images, with any bytes in that range
pub record TornFrom (at n : ℕ) (images : List ℕ → Type 0) (new : List ℕ) : Type 0 where
  pub old : List ℕ
  pub was : images old
  pub torn : Torn at n old new

-- What a disk is at a moment, as its callers see it.
pub record DiskState : Type 1 where
  -- the number of bytes
  pub size : ℕ
  -- what a read gives, byte by byte, where the disk tells it; a real file tells nothing
  pub contents : Option (List ℕ)
  -- the images that a crash at this moment may leave
  pub now : List ℕ → Type 0
  -- the moment, as a number that does not fall
  pub clock : ℕ
  -- the images that a crash at some moment since that one might have left, in a call or between two
  pub left : ℕ → List ℕ → Type 0
  -- how often the disk has failed
  pub faults : ℕ
  -- the moment and the name of the last bind, where it answered Ok
  pub bound : Option (ℕ × List ℕ)
  -- how often a bind was asked for
  pub binds : ℕ
  -- what a bind to this name that makes nothing would read, where the disk tells it
  pub named : List ℕ → Option (List ℕ)

-- what holds of each state of a disk
pub record IsLawful (d : DiskState) : Type 0 where
  -- what the disk reads as is one of the images that a crash now may leave
  pub reads_as_image : (c : List ℕ) → d.contents ≡ Some c → d.now c
  -- this moment is one of those since an earlier one
  pub counts_now : (t : ℕ) (c : List ℕ) → t ≤ d.clock → d.now c → d.left t c
  -- since this moment there is no other
  pub only_now : (c : List ℕ) → d.left d.clock c → d.now c
  -- the moments since a later one are among those since an earlier one
  pub counts_later : (t u : ℕ) (c : List ℕ) → t ≤ u → d.left u c → d.left t c
  -- each image has the size of the disk
  pub image_size : (t : ℕ) (c : List ℕ) → d.left t c → length c ≡ d.size
  -- what the disk reads as are bytes; what a crash may leave need not be
  pub told_bytes : (c : List ℕ) → d.contents ≡ Some c → (i : ℕ) → slice_index c i < 256

-- the disk tells the bytes of before with these in their place
abbrev pub Splices : ℕ → List ℕ → DiskState → DiskState → Type 0
Splices at bytes old new = new.contents ≡ option_map (λ c. spliced c at bytes) old.contents

-- what a disk tells once a write of that range has failed: any bytes there, and no more than it told before
pub record TellsTorn (at n : ℕ) (old new : DiskState) : Type 0 where
  pub told : (c : List ℕ) → old.contents ≡ Some c → (d : List ℕ) × (new.contents ≡ Some d) × Torn at n c d
  pub untold : old.contents ≡ None → new.contents ≡ None

-- the disk tells its bytes, if it told them before
abbrev pub StaysTold : DiskState → DiskState → Type 0
StaysTold old new = IsSome old.contents → IsSome new.contents

-- a crash leaves what a read gives, and nothing else
abbrev pub IsSettled : DiskState → Type 0
IsSettled d = (c : List ℕ) → d.now c → d.contents ≡ Some c

-- A call takes the disk from old to new: what a crash may leave after it, or might have left during it, is among
-- these images, and what it might have left before stays.
pub record Elapses (old new : DiskState) (images : List ℕ → Type 0) : Type 0 where
  pub same_size : new.size ≡ old.size
  pub same_bound : new.bound ≡ old.bound
  pub same_binds : new.binds ≡ old.binds
  pub later : old.clock ≤ new.clock
  pub after : (c : List ℕ) → new.now c → images c
  pub during : (t : ℕ) (c : List ℕ) → t ≤ old.clock → new.left t c → old.left t c ⊎ images c
  pub keeps : (t : ℕ) (c : List ℕ) → t ≤ old.clock → old.left t c → new.left t c

-- A crash at any moment from old to new leaves an image that has P.
pub record LeavesOnly (old new : DiskState) (P : List ℕ → Type 0) : Type 0 where
  pub same_size : new.size ≡ old.size
  pub same_bound : new.bound ≡ old.bound
  pub same_binds : new.binds ≡ old.binds
  pub later : old.clock ≤ new.clock
  pub each : (c : List ℕ) → new.left old.clock c → P c
  -- for a run that began earlier
  pub before : (t : ℕ) (c : List ℕ) → t ≤ old.clock → new.left t c → old.left t c ⊎ P c
  pub keeps : (t : ℕ) (c : List ℕ) → t ≤ old.clock → old.left t c → new.left t c

-- Nothing was written from old to new: the disk has its size and its contents, and a crash at any moment left what a
-- crash at the start may leave.
pub record WritesNothing (old new : DiskState) : Type 0 where
  pub same_contents : new.contents ≡ old.contents
  pub moments : LeavesOnly old new old.now

-- a crash at any moment since the disk was bound left an image that has P
abbrev pub SinceBind : DiskState → (List ℕ → Type 0) → Type 0
SinceBind d P = ForSome d.bound (λ moment. (c : List ℕ) → d.left moment.0 c → P c)

-- the last bind answered Ok, and this was its name
abbrev pub IsBoundTo : List ℕ → DiskState → Type 0
IsBoundTo name d = (t : ℕ) × (d.bound ≡ Some (t, name))
