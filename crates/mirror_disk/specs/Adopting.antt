-- What an adopt makes of the side that it chose, and of the other one.
use Rattle.std.specs.{Prelude.{◌≡◌, ◌≢◌, ◌⊎◌, ℕ, ◌+◌, ◌<◌, ◌≤◌, List, [], length, take, drop, Bool, true, false, Option, Some, None, Result, IfOk, IfSome, OnErr, OnOk}, Option.ForSome}
use Rattle.counts.specs.Count.{HasCause, Rose}
use Rattle.iso_disk.specs.Disk.{DiskState, IsSettled, LeavesOnly, TellsTorn, TornFrom, WritesNothing}
use Rattle.mirror_disk.specs.{declared.marks.Marks.Marks, declared.slot.{Mark.Mark, Slot.Slot}, declared.used.Used.TheVariants.{Broken, OnlyFirst, OnlySecond}, Header.{IsHeader, body, chosen, epoch, last_epoch}, Pairs.{ChosenOf, chosen_told, mirrored}, Raised.{EachNow, HasEpoch, HasMark, KeepsBody}, Slots.other, Standing.{IsPair, StandsBy}}

-- an image of the side that was chosen: its epoch or a larger one, and the mirrored bytes that it told at the start
pub record OfChosen (e : ℕ) (start : DiskState) (image : List ℕ) : Type 0 where
  pub header : IsHeader image
  pub most : e ≤ epoch image
  pub told : start.contents ≢ None
  pub same : (d : List ℕ) → start.contents ≡ Some d → body image ≡ body d

-- an image of the other side: no larger epoch than before, or that of the chosen one with its mirrored bytes
pub record OfOther (e next : ℕ) (start side : DiskState) (image : List ℕ) : Type 0 where
  pub header : IsHeader image
  pub told : side.contents ≢ None
  pub either : (epoch image ≤ e) ⊎ ((epoch image ≡ next) × ((d : List ℕ) → start.contents ≡ Some d → body image ≡ body d))

-- both sides have this epoch in these slots, and the same mirrored bytes, which are stable
pub record AreAlike (a b : DiskState) (e : ℕ) (one two : Slot) : Type 0 where
  pub first : (x : List ℕ) → a.now x → HasEpoch one e x
  pub second : (y : List ℕ) → b.now y → HasEpoch two e y
  pub settled : IsSettled b
  pub agree : (x y : List ℕ) → a.contents ≡ Some x → b.contents ≡ Some y → body x ≡ body y

-- a disk tells its bytes after a run exactly where it told them before
pub record TellsOn (old new : DiskState) : Type 0 where
  pub told : old.contents ≢ None → new.contents ≢ None
  pub untold : old.contents ≡ None → new.contents ≡ None

-- two sides with as many mirrored bytes
pub record AreSized (a b : DiskState) (count : ℕ) : Type 0 where
  pub from : a.size ≡ 64 + count
  pub to : b.size ≡ 64 + count

-- two stable ones, and what was read in their headers
pub record AreMarked (a b : DiskState) (count : ℕ) (one two : Mark) : Type 0 where
  pub sized : AreSized a b count
  pub settled : IsSettled a × IsSettled b
  pub first : HasMark a one
  pub second : HasMark b two

-- two stable ones, of which the one with this mark was chosen, as no epoch of the other is larger
pub record AreChosen (a b : DiskState) (count : ℕ) (one two : Mark) : Type 0 where
  pub sized : AreSized a b count
  pub settled : IsSettled a × IsSettled b
  pub chosen : EachNow a (HasEpoch one.slot one.epoch)
  pub behind : EachNow b (HasEpoch two.slot two.epoch)
  pub most : (two.epoch ≤ one.epoch) × (one.epoch ≤ last_epoch)

-- what becomes of the other side while it is made as the chosen one, which is so where a slot is answered; else it failed
pub record MakesOther {E : Type 0} (from to new_from new_to : DiskState) (chosen behind : Mark) (result : Result (Option Slot) E) : Type 0 where
  pub moments : LeavesOnly to new_to (OfOther behind.epoch chosen.epoch from to)
  pub tells : TellsOn to new_to
  pub alike : IfOk result (λ slot. IfSome slot (λ s. AreAlike new_from new_to chosen.epoch chosen.slot s))
  pub left : IfOk result (λ slot. slot ≡ None → Rose to.faults new_to.faults)

-- where two disks tell the same mirrored bytes
abbrev pub WhereSame : DiskState → DiskState → Type 0 → Type 0
WhereSame a b P = (x y : List ℕ) → a.contents ≡ Some x → b.contents ≡ Some y → body x ≡ body y → P

-- what a try to make the other side as the chosen one makes of both, which leaves nothing out: none is answered where the other side failed
pub record MakesAlike {E : Type 0} (from to new_from new_to : DiskState) (chosen behind : Mark) (result : Result (Option Slot) E) : Type 0 where
  pub made : MakesOther from to new_from new_to chosen behind result
  pub unwritten : WritesNothing from new_from
  pub still : behind.epoch ≡ chosen.epoch → WhereSame from to (WritesNothing to new_to)
  pub cause : HasCause from.faults new_from.faults result
  pub later : to.faults ≤ new_to.faults

-- and what is made of both where the other side is left out then
pub record TakesOver {E : Type 0} (from to new_from new_to : DiskState) (chosen behind : Mark) (result : Result (Option Slot) E) : Type 0 where
  pub made : MakesOther from to new_from new_to chosen behind result
  pub moments : LeavesOnly from new_from (OfChosen chosen.epoch from)
  pub body : KeepsBody from new_from
  pub settled : OnOk result (IsSettled new_from)
  pub alone : IfOk result (λ slot. slot ≡ None → EachNow new_from (HasEpoch (other chosen.slot) (chosen.epoch + 1)))
  pub still : behind.epoch ≡ chosen.epoch → WhereSame from to (Rose to.faults new_to.faults ⊎ (WritesNothing from new_from × WritesNothing to new_to))
  pub cause : OnErr result (Rose from.faults new_from.faults ⊎ ((last_epoch ≤ chosen.epoch) × Rose to.faults new_to.faults))
  pub later : (from.faults ≤ new_from.faults) × (to.faults ≤ new_to.faults)

-- What a copy of n bytes from `at` on makes of the other side, where it writes what differs: false where that side failed. `Has` is so of
-- that side where it was done.
pub record Copies {E : Type 0} (from to new_from new_to : DiskState) (at n : ℕ) (Has : DiskState → Type 0) (result : Result Bool E) : Type 0 where
  pub unwritten : WritesNothing from new_from
  pub moments : LeavesOnly to new_to (TornFrom at n to.now)
  pub torn : TellsTorn at n to new_to
  pub still : WhereSame from to (WritesNothing to new_to)
  pub cause : HasCause from.faults new_from.faults result
  pub later : to.faults ≤ new_to.faults
  pub failed : IfOk result (λ done. done ≡ false → Rose to.faults new_to.faults)
  pub copied : IfOk result (λ done. done ≡ true → Has new_to)

-- a side, once the mirrored bytes of the other one were copied to it: it has them, and they are stable
pub record IsCopied (from to : DiskState) : Type 0 where
  pub settled : IsSettled to
  pub alike : (x y : List ℕ) → from.contents ≡ Some x → to.contents ≡ Some y → body y ≡ body x

-- a side, once n of them from `at` on were: what comes before those it told at the start
abbrev pub IsCopiedIn : (from to : DiskState) → (at n : ℕ) → DiskState → Type 0
IsCopiedIn from to at n new_to = (x y : List ℕ) → from.contents ≡ Some x → new_to.contents ≡ Some y
    → (z : List ℕ) × (to.contents ≡ Some z) × (take at (body y) ≡ take at (body z)) × (take n (drop at (body y)) ≡ take n (drop at (body x)))

-- a side with room for a piece from a place of the mirrored bytes on, and a buffer of the piece's length
pub record HasPiece (d : DiskState) (at : ℕ) (piece buffer : List ℕ) : Type 0 where
  pub fits : 64 + at + length piece ≤ d.size
  pub there : length buffer ≡ length piece

-- Sides that were given, that were made stable and read, and that were adopted. What is chosen at each moment is chosen of a
-- pair of images of the stable sides, which were among those that the sides might leave as they were given.
pub record AdoptsFrom (a b mid_a mid_b new_a new_b : DiskState) : Type 0 where
  pub first_before : WritesNothing a mid_a
  pub second_before : WritesNothing b mid_b
  pub kept : (x y : List ℕ) → new_a.left mid_a.clock x → new_b.left mid_b.clock y → ChosenOf mid_a.now mid_b.now (chosen x y)

-- Sides that told the same bytes at one epoch: nothing is written to them, but where the second one fails.
abbrev pub LeavesAlike : (a b new_a new_b : DiskState) → Type 0
LeavesAlike a b new_a new_b = (x y : List ℕ) → a.contents ≡ Some x → b.contents ≡ Some y → epoch x ≡ epoch y → body x ≡ body y
    → Rose b.faults new_b.faults ⊎ (WritesNothing a new_a × WritesNothing b new_b)

-- A side failed: before the choice, or the chosen one did, or the other one while there is no larger epoch. The choice is by what
-- the sides told.
abbrev pub FailsByChoice : (a b mid_a mid_b new_a new_b : DiskState) → Type 0
FailsByChoice a b mid_a mid_b new_a new_b =
    (Rose a.faults mid_a.faults ⊎ Rose b.faults mid_b.faults)
    ⊎ ForSome a.contents (λ x. ForSome b.contents (λ y.
    (epoch y ≤ epoch x → Rose mid_a.faults new_a.faults ⊎ ((last_epoch ≤ epoch x) × Rose mid_b.faults new_b.faults))
    × (epoch x < epoch y → Rose mid_b.faults new_b.faults ⊎ ((last_epoch ≤ epoch y) × Rose mid_a.faults new_a.faults))))

-- The same, where the sides at the choice stand between those before the adopt and those after it.
pub record AdoptFails (a b mid_a mid_b new_a new_b : DiskState) : Type 0 where
  pub first_before : a.faults ≤ mid_a.faults
  pub first_behind : mid_a.faults ≤ new_a.faults
  pub second_before : b.faults ≤ mid_b.faults
  pub second_behind : mid_b.faults ≤ new_b.faults
  pub by : FailsByChoice a b mid_a mid_b new_a new_b

-- a disk that was bound to this name, and reads what it was told that the name has
pub record WasBound (old new : DiskState) (name : List ℕ) : Type 0 where
  pub bound : (t : ℕ) × (new.bound ≡ Some (t, name))
  pub reads : ForSome (old.named name) (λ c. new.contents ≡ Some c)

-- what a disk tells has a header, or has none
abbrev pub TellsHeader : DiskState → Type 0
TellsHeader d = ForSome d.contents (λ c. IsHeader c)

abbrev pub TellsNoHeader : DiskState → Type 0
TellsNoHeader d = ForSome d.contents (λ c. IsHeader c → ⊥)

-- what was read of the header of a stable side: its mark, or none where it has no header
pub record ShowsHeader (d : DiskState) (read : Option Mark) : Type 0 where
  pub size : IfSome read (λ m. 64 ≤ d.size)
  pub mark : IfSome read (HasMark d)
  pub none : read ≡ None → TellsNoHeader d

-- What becomes of two stable sides, whichever was chosen and whether the other one could be made as it.
pub record Settles (a b new_a new_b : DiskState) : Type 0 where
  pub kept : (x y : List ℕ) → new_a.left a.clock x → new_b.left b.clock y → ChosenOf a.now b.now (chosen x y)
  pub contents : chosen_told new_a.contents new_b.contents ≡ chosen_told a.contents b.contents
  pub bound : new_a.bound ≡ a.bound
  pub still : LeavesAlike a b new_a new_b

-- what is known of two sides once they are a mirror
pub record AreAdopted (a b new_a new_b : DiskState) (marks : Marks) : Type 0 where
  pub in_use : IsPair marks.used
  pub goes_on : marks.used ≢ Broken
  pub left_first : marks.used ≡ OnlySecond → Rose a.faults new_a.faults
  pub left_second : marks.used ≡ OnlyFirst → Rose b.faults new_b.faults
  pub stands : StandsBy new_a new_b marks []
  pub settled : IsSettled (mirrored new_a new_b [] 0 0)

-- two sides that are not taken for a mirror: they differ in size, or one has no header
abbrev pub AdoptRefuses : DiskState → DiskState → Type 0
AdoptRefuses a b = (a.size ≢ b.size) ⊎ (TellsNoHeader a ⊎ TellsNoHeader b)
