-- What a call on both sides of a mirror has come to.
use Rattle.std.specs.Prelude.{◌≡◌, ℕ, ◌+◌, Bool, true, List, ◌∷◌, Some}
use Rattle.iso_disk.specs.Disk.{DiskState, Elapses, LeavesOnly, TellsTorn, TornFrom}
use Rattle.mirror_disk.specs.{declared.marks.Marks.Marks, declared.slot.Slot.Slot, declared.used.Used.Used, Header.body, Pairs.{ChosenOf, mirrored}, Standing.{ArePair, AreBoth, IsPair, Stands}}

-- Both sides in use were asked, for the bytes in one range: what they were before, and what they are. Where both did it
-- they tell the same bytes.
pub record BothAsked (a b new_a new_b : DiskState) (past : List (ℕ × ℕ)) (e : ℕ) (one two : Slot) (at n : ℕ) (first_done second_done : Bool) : Type 0 where
  pub pair : ArePair a b past
  pub both : AreBoth a b past e one two
  pub run_a : LeavesOnly a new_a (TornFrom (64 + at) n a.now)
  pub run_b : LeavesOnly b new_b (TornFrom (64 + at) n b.now)
  pub told_a : TellsTorn (64 + at) n a new_a
  pub told_b : TellsTorn (64 + at) n b new_b
  pub agree : first_done ≡ true → second_done ≡ true → (x y : List ℕ) → new_a.contents ≡ Some x → new_b.contents ≡ Some y → body x ≡ body y

-- A call on a mirror has ended, with these sides in use: a crash at each moment of it leaves what is chosen from before it,
-- with any bytes in the range.
pub record HasEnded (a b new_a new_b : DiskState) (used : Used) (past : List (ℕ × ℕ)) (e : ℕ) (one two : Slot) (at n : ℕ) : Type 0 where
  pub is_pair : IsPair used
  pub stands : Stands new_a new_b used ((a.clock, b.clock) ∷ past) e one two
  pub elapses : (faults faults' binds : ℕ) → Elapses (mirrored a b past faults binds) (mirrored new_a new_b ((a.clock, b.clock) ∷ past) faults' binds) (TornFrom at n (ChosenOf a.now b.now))

-- both sides in use were asked, in a call that began with some sides and moments, for some range: these are the sides then, and whether
-- they did it
abbrev pub WereAsked : {A B : Type 0} → (A → DiskState) → (B → DiskState) → Marks → A × B → (first_done second_done : Bool) → Type 0
WereAsked {A = A} {B = B} first second marks sides first_done second_done = (x : A) × (y : B) × (past : List (ℕ × ℕ)) × (at : ℕ) × (n : ℕ)
    × BothAsked (first x) (second y) (first sides.0) (second sides.1) past marks.epoch marks.first_slot marks.second_slot at n first_done second_done

-- each such call has ended, with these sides in use
abbrev pub EndsAsked : {A B : Type 0} → (A → DiskState) → (B → DiskState) → Marks → (old new : A × B) → (first_done second_done : Bool) → Used → Type 0
EndsAsked {A = A} {B = B} first second marks old new first_done second_done used = (x : A) (y : B) (past : List (ℕ × ℕ)) (at n : ℕ)
    → BothAsked (first x) (second y) (first old.0) (second old.1) past marks.epoch marks.first_slot marks.second_slot at n first_done second_done
    → HasEnded (first x) (second y) (first new.0) (second new.1) used past marks.epoch marks.first_slot marks.second_slot at n
