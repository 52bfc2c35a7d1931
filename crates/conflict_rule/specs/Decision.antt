-- What a decision is: over the notes alone, and over a history.
use Rattle.std.specs.Prelude.{◌≡◌, ◌⊎◌, ℕ, ◌+◌, ◌-◌, ◌<◌, ◌≤◌, ◌&&◌, false, IsTrue, List, [], ◌∷◌, Option, Some, None, take, drop}
use Rattle.byte_marks.specs.{declared.extent.Extent.Extent, Touched.{touches, AreTouched}}
use Rattle.iso_model.specs.{declared.access.Access.Access, declared.access.Clash.Clash, declared.access.Commit.Commit, declared.access.Geometry.Geometry, declared.access.Kind.TheVariants.{Read, Write}, declared.access.Mode.Mode, declared.access.Mode.TheVariants.{Serial, Snapshot}, Conflict.{clash, first_after}, History.History, Premises.AreAccesses}
use Rattle.conflict_rule.specs.Notes.{Note, above}

-- sets of bytes of blocks, as contracts see a `Touched`
abbrev pub Bytes : Type 0
Bytes = List (ℕ × List Extent)

-- both have no byte in common
abbrev pub AreApart : Bytes → Bytes → Type 0
AreApart xs ys = (b p : ℕ) → (touches xs b p && touches ys b p) ≡ false

-- the least block, and the least byte of it, that both have
pub record IsFirstMeet (xs ys : Bytes) (block at : ℕ) : Type 0 where
  pub both : IsTrue (touches xs block at && touches ys block at)
  pub least_block : (b p : ℕ) → b < block → (touches xs b p && touches ys b p) ≡ false
  pub least_byte : (p : ℕ) → p < at → (touches xs block p && touches ys block p) ≡ false

-- the first commit of the notes that meets these bytes, and where, or none where no commit does
abbrev pub IsLeastMeeting : Bytes → List Note → Option Clash → Type 0
IsLeastMeeting bytes [] found = found ≡ None
IsLeastMeeting bytes (note ∷ notes) found =
    (AreApart note.1 bytes × IsLeastMeeting bytes notes found)
    ⊎ ((block : ℕ) × (at : ℕ) × IsFirstMeet note.1 bytes block at × (found ≡ Some (record { commit = note.0; block = block; at = at })))

-- the bytes that a transaction may not meet
abbrev pub guarded_bytes : Mode → Bytes → Bytes → Bytes
guarded_bytes Serial reads writes = reads
guarded_bytes Snapshot reads writes = writes

-- the notes are those of these commits, the first of which has the number k
abbrev pub AreNotes : Geometry → (k : ℕ) → List Note → List Commit → Type 0
AreNotes g k [] [] = Unit {0}
AreNotes g k [] (c ∷ commits) = ⊥
AreNotes g k (note ∷ notes) [] = ⊥
AreNotes g k (note ∷ notes) (c ∷ commits) = (note.0 ≡ k) × AreTouched g.block g.blocks Write c.accesses note.1 × AreNotes g (k + 1) notes commits

-- the notes are those of the history's commits above n
abbrev pub AreNotesAfter : Geometry → History → (n : ℕ) → List Note → Type 0
AreNotesAfter g H n notes = AreNotes g (first_after H n) notes (drop (n + 1 - H.first) H.commits)

-- the history up to commit n
abbrev pub up_to : History → ℕ → History
up_to H n = record H { commits = take (n + 1 - H.first) H.commits }

-- What a decision is asked of a transaction of the history: the bytes that its accesses touch, how it clashes
-- with the commits up to `upto`, and the notes of those above.
pub record IsAsked (g : Geometry) (H : History) (mode : Mode) (begin : ℕ) (accesses : List Access)
    (upto : ℕ) (found : Option Clash) (read_bytes written_bytes : Bytes) (notes : List Note) : Type 0 where
  pub size : 0 < g.block
  pub well_formed : AreAccesses g accesses
  pub order : begin ≤ upto
  pub reads : AreTouched g.block g.blocks Read accesses read_bytes
  pub writes : AreTouched g.block g.blocks Write accesses written_bytes
  pub ahead : found ≡ clash g (up_to H upto) mode begin accesses
  pub later : AreNotesAfter g H upto (above upto notes)
