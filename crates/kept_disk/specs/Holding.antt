-- What a part of a call makes of pages, and of the disk below.
use Rattle.std.specs.{Prelude.{◌≡◌, ℕ, ◌+◌, ◌<◌, ◌≤◌, ◌%◌, List, length, take, drop, Result, OnErr, OnOk, slice_index}, Option.ForSome}
use Rattle.counts.specs.Count.{HasCause}
use Rattle.iso_disk.specs.Disk.{DiskState, Elapses, Splices, TellsTorn, TornFrom, spliced}
use Rattle.kept_disk.specs.{declared.pages.Pages.Pages, Pages.{Follow, HasLooked, HoldsNone, Stand, byte_at}}

-- each page that is held has the bytes of the disk
abbrev pub Stands : Pages → List ℕ → Type 0
Stands pages c = Stand pages.numbers.items pages.ends.items pages.bytes.items c

-- and has them too once these are written from a place on
abbrev pub Follows : Pages → Pages → ℕ → List ℕ → Type 0
Follows old new at written = Follow old.numbers.items old.ends.items old.bytes.items new.numbers.items new.ends.items new.bytes.items at written

-- a range of a disk that pages stand for
pub record IsOver (d : DiskState) (pages : Pages) (at len : ℕ) : Type 0 where
  pub fits : at + len ≤ d.size
  pub stand : ForSome d.contents (Stands pages)

-- what pages let go of all that was held are: their memory is as it was
pub record Forgets (old new : Pages) : Type 0 where
  pub none : HoldsNone new.numbers.items
  pub bytes : new.bytes ≡ old.bytes
  pub places : length new.numbers.items ≡ length old.numbers.items

-- the page of this number, which is held, has bytes
pub record GivesBytes (old new : Pages) (number : ℕ) : Type 0 where
  pub numbers : new.numbers ≡ old.numbers
  pub has : 0 < slice_index new.ends.items (number % 2053)
  pub stand : (c : List ℕ) → Stands old c → Stands new c

-- bytes are laid over those of a page
pub record LaysOver (old new : Pages) (at : ℕ) (over : List ℕ) : Type 0 where
  pub numbers : new.numbers ≡ old.numbers
  pub ends : new.ends ≡ old.ends
  pub bytes : new.bytes.items ≡ spliced old.bytes.items (byte_at old.ends.items at) over

-- bytes are read from pages, or from the disk through them
pub record ReadsBytes {T E : Type 0} (old new : DiskState) (pages : Pages) (at len : ℕ) (into : List ℕ) (result : Result T E) : Type 0 where
  pub bytes : OnOk result (ForSome old.contents (λ c. into ≡ take len (drop at c)))
  pub looked : HasLooked old new result
  pub stand : ForSome old.contents (Stands pages)

-- bytes are written to the disk and then into pages; where that failed, no page is held
pub record WritesThrough {T E : Type 0} (old new : DiskState) (pages : Pages) (at : ℕ) (bytes : List ℕ) (result : Result T E) : Type 0 where
  pub written : OnOk result (Splices at bytes old new)
  pub failed : OnErr result (TellsTorn at (length bytes) old new)
  pub crash : Elapses old new (TornFrom at (length bytes) old.now)
  pub cause : HasCause old.faults new.faults result
  pub stand : ForSome new.contents (Stands pages)
  pub forgotten : OnErr result (HoldsNone pages.numbers.items)
