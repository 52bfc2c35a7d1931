-- What a core keeps in memory, and of which world it is.
use Rattle.std.specs.{Prelude.{◌≡◌, ℕ, ◌+◌, ◌<◌, ◌≤◌, [], map}, List.AllByRecursion}
use Rattle.conflict_rule.specs.{Decision.AreNotesAfter, Notes.Held}
use Rattle.iso_image.specs.Half.{half_of_world}
use Rattle.iso_log.specs.Extent.{extent_of}
use Rattle.iso_model.specs.{Geometry.log_place, World.{World, Live, floor, unattached}, Worlds.IsWorld}
use Rattle.mv_index.specs.Placed.{IsIndexOf}
use Rattle.tx_table.specs.{Live.at_work, Work.Doing}
use Rattle.iso_core.specs.declared.kept.Kept.{Kept}

-- the transaction without what a core does not know of it: its accesses and its place
abbrev pub bare : Live → Live
bare t = record t { accesses = []; place = unattached }

-- the notes are those of the commits after some number, at or below which no live transaction began
pub record NotesSince (W : World) (held : Held) : Type 0 where
  pub from : ℕ
  pub before : from ≤ floor W
  pub notes : AreNotesAfter W.geometry W.history from held.notes

-- no note is kept that no live transaction needs any more: each is of a commit above the floor
abbrev pub AreNeeded : World → Held → Type 0
AreNeeded W held = AllByRecursion (λ note. floor W < note.0) held.notes

-- what is kept is the world's, but for the accesses and the places of its transactions
pub record Keeps (kept : Kept) (W : World) : Type 0 where
  pub geometry : kept.geometry ≡ W.geometry
  pub half : kept.half ≤ 1
  pub generation : kept.generation ≡ W.generation
  pub base : kept.base ≡ W.base
  pub trim : kept.trim ≡ W.trim
  pub next : kept.next ≡ W.next
  pub log : kept.log ≡ extent_of W.geometry (half_of_world W kept.half)
  pub index : IsIndexOf W.geometry (W.base + 1) (log_place W.geometry kept.half) W.trim (half_of_world W kept.half).told kept.index
  pub notes : NotesSince W kept.notes
  pub live : map at_work kept.live ≡ map bare W.live

-- what is kept is that of a sound world
pub record IsOf (kept : Kept) (W : World) : Type 0 where
  pub world : IsWorld W
  pub keeps : Keeps kept W

-- what is kept becomes that of this world, in the same half, and is down or not as before
pub record Becomes (old new : Kept) (V : World) : Type 0 where
  pub of : IsOf new V
  pub half : new.half ≡ old.half
  pub down : new.down ≡ old.down

-- and has no note that no live transaction needs
pub record BecomesTidy (old new : Kept) (V : World) : Type 0 where
  pub becomes : Becomes old new V
  pub needed : AreNeeded V new.notes

-- it stays that of each world that it was of
abbrev pub Stays : (old new : Kept) → Type 0
Stays old new = (W : World) → IsOf old W → IsOf new W

-- another record is spelled, and nothing else is changed
abbrev pub SpellsOnly : (old new : Kept) → Type 0
SpellsOnly old new = new ≡ record old { buffer = new.buffer; parts = new.parts }

-- memory is taken for versions and notes, and nothing else is changed
abbrev pub ReservesOnly : (old new : Kept) → Type 0
ReservesOnly old new = new ≡ record old { index = new.index; notes = new.notes }

-- and so it stays that of each world that it was of
pub record Reserves (old new : Kept) : Type 0 where
  pub stays : Stays old new
  pub only : ReservesOnly old new

-- the work is as before, however far it is settled
abbrev pub SettlesOnly : (old new : Doing) → Type 0
SettlesOnly old new = new ≡ record old { settled = new.settled }
