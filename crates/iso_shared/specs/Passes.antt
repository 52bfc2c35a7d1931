-- What a turn, a split and a join make of passes.
use Rattle.std.specs.Prelude.{◌≡◌, ℕ, ◌+◌, ◌<◌, ◌≤◌, [], ◌∷◌, ◌++◌, Option, length}
use mathlib.Core.List.{IsPrefix}
use Rattle.iso_core.specs.declared.core_itself.Core.{Core}
use Rattle.iso_disk.specs.Disk.{DiskState}
use Rattle.iso_model.specs.declared.limits.TheConstants.{LAST}
use Rattle.turn_lock.specs.{declared.turn.Turn.Turn, Lists.{places, times}, Lock.{lock_id, turn_value}, Numbers.{AreHeld, IsOut, held_after}, Pass.{HasTurn, IsAlike, IsSamePass, PassOf}, Views.{both, given_part, kept_part}}
use Rattle.iso_shared.specs.{declared.guarded.Guarded.Guarded, declared.guarded.Stamped.Stamped, declared.told.Told.Told, declared.turns.Turns.Turns, Legal.{IsLegal, handed, needed, returned}, Ports.{IsIdle, IsOf}, Stamps.stamped, Standing.{StandsAt, faults_of}, States.Start, Told.told_entry, Turns.{HasNoTurn, moments, view}}

-- the entry of a call, whose turn ends with the second core
abbrev pub told_turn : {D : Type 0} → (D → DiskState) → (before now : Core D) → Told → Stamped
told_turn state before now told = stamped state now (told_entry (faults_of state before) (faults_of state now) told)

module _ {D O : Type 0} where
  -- the pass has got this turn: its value represents the whole list, of which the pass has seen all
  pub record TakesTurn (disk : D → DiskState) (A : Start) (first : DiskState) (old new : PassOf (Guarded D O) Stamped) (t : Turn (Guarded D O) Stamped) : Type 0 where
    pub lock : IsSamePass old new
    pub turn : HasTurn new t
    pub same : IsAlike (view old) (view new)
    pub value : StandsAt disk A first (turn_value t).core (turn_value t).rack (view new).seen (moments new)
    pub seen : IsPrefix (view old).seen (view new).seen
    pub past : IsPrefix (moments old) (moments new)
    pub out : (n : ℕ) → 0 < times n (view new).holds → IsOut handed returned n (view new).seen
    pub all : (view new).units ≡ LAST → (view new).mine ≡ places (length (view new).seen)

  -- the pass may give this turn back with this entry, at its moment
  pub record MayGive (disk : D → DiskState) (A : Start) (first : DiskState) (l : Turns D O) (p : PassOf (Guarded D O) Stamped) (t : Turn (Guarded D O) Stamped) (s : Stamped) : Type 0 where
    pub lock : p.table_id ≡ lock_id l.lock
    pub turn : HasTurn p t
    pub value : StandsAt disk A first (turn_value t).core (turn_value t).rack ((view p).seen ++ s.entry ∷ []) (moments p ++ s.moment ∷ [])
    pub held : AreHeld (needed s.entry) (view p).holds × AreHeld (returned s.entry) (view p).holds

  -- the turn was given back, with this entry, at its moment
  pub record IsGiven (A : Start) (l : Turns D O) (old new : PassOf (Guarded D O) Stamped) (s : Stamped) : Type 0 where
    pub lock : IsIdle l new
    pub seen : (view new).seen ≡ (view old).seen ++ s.entry ∷ []
    pub past : moments new ≡ moments old ++ s.moment ∷ []
    pub mine : (view new).mine ≡ (view old).mine ++ length (view old).seen ∷ []
    pub holds : (view new).holds ≡ held_after handed returned s.entry (view old).holds
    pub units : (view new).units ≡ (view old).units
    pub legal : IsLegal A (view new).seen

  -- a new pass was split off, which has seen the same and gets the number and the units
  pub record IsSplit (l : Turns D O) (number : Option ℕ) (units : ℕ) (p q part : PassOf (Guarded D O) Stamped) : Type 0 where
    pub lock : IsSamePass p q
    pub stays : HasNoTurn p → HasNoTurn q
    pub kept : view q ≡ kept_part number units (view p)
    pub new : IsIdle l part
    pub given : view part ≡ given_part number units (view p)
    pub past : (moments q ≡ moments p) × (moments part ≡ moments p)

  -- another pass was taken into this one
  pub record HasJoined (old new other : PassOf (Guarded D O) Stamped) : Type 0 where
    pub lock : IsSamePass old new
    pub stays : HasNoTurn old → HasNoTurn new
    pub view_is : view new ≡ both (view old) (view other)
    pub seen : IsPrefix (view old).seen (view new).seen × IsPrefix (view other).seen (view new).seen
    pub past : IsPrefix (moments old) (moments new) × IsPrefix (moments other) (moments new)
    pub places : (p : ℕ) → times p (view new).mine ≡ times p (view old).mine + times p (view other).mine
    pub alone : (n : ℕ) → times n (view new).holds ≤ 1
    pub units : (view new).units ≤ LAST

  -- one pass was told what another has seen; else both are as they were
  pub record IsTold (l : Turns D O) (p q p' q' : PassOf (Guarded D O) Stamped) : Type 0 where
    pub from : IsOf l p' × (view p' ≡ view p)
    pub to : IsOf l q'
    pub same : IsAlike (view q) (view q')
    pub told : IsPrefix (view p).seen (view q').seen
    pub begins : IsPrefix (view q).seen (view q').seen
    pub past : moments p' ≡ moments p
