-- What a port and the members of a group are in the course of a group's end.
use Rattle.std.specs.{Prelude.{◌≡◌, ◌≢◌, ◌⊎◌, ℕ, ◌+◌, ◌<◌, ◌≤◌, List, [], ◌∷◌, None, Result, Err, IfErr, length, map}, List.AllByRecursion}
use mathlib.Core.List.{IsPrefix}
use Rattle.iso_core.specs.declared.group_end.{GroupEnd.GroupEnd, TheConstants.MAX_GROUP}
use Rattle.iso_model.specs.declared.{access.GroupReply.GroupReply, core_error.CoreError.CoreError}
use Rattle.iso_model.specs.declared.core_error.CoreError.TheVariants as error
use Rattle.tx_table.specs.Work.{AreWithin, Doing}
use Rattle.turn_lock.specs.{Lists.{AreDistinct, times, total}, Numbers.AreHeld}
use Rattle.iso_shared.specs.{declared.entry.Entry.Entry, declared.entry.Member.Member, declared.entry.MemberEnd.MemberEnd, declared.shared.{Port.Port, Shared.Shared}, declared.tx.Tx.Tx, Ports.{IsAhead, IsIdle, IsOf, IsOwn, IsPort, IsSameTx, IsTx, Made}, Standing.IsOn, States.{Start, state_at}, Told.cause_of, Turns.view}
use Rattle.iso_shared.specs.declared.entry.Call.TheVariants as call
use Rattle.iso_shared.specs.declared.entry.Entry.TheVariants as entry

-- two lists of the same length, item by item
abbrev pub ArePaired : {A B : Type 0} → (A → B → Type 0) → List A → List B → Type 0
ArePaired P [] [] = Unit {0}
ArePaired P [] (y ∷ ys) = ⊥
ArePaired P (x ∷ xs) [] = ⊥
ArePaired P (x ∷ xs) (y ∷ ys) = P x y × ArePaired P xs ys

-- members with their answers
abbrev pub answered : List Member → List GroupReply → List MemberEnd
answered [] replies = []
answered (m ∷ members) [] = []
answered (m ∷ members) (reply ∷ replies) = record { number = m.number; accesses = m.accesses; reply = reply } ∷ answered members replies

-- the accesses of a work are such to blocks of its size, and not too many
abbrev pub IsWithin : Doing → Type 0
IsWithin work = AreWithin work.size work.blocks work.accesses × (length work.accesses ≤ 4096)

-- the numbers of members that the core is handed
abbrev pub numbers_handed : List GroupEnd → List ℕ
numbers_handed ends = map (λ g. g.tx) ends

-- a vector of this capacity that has nothing, and room for as many
pub record IsRoom {X : Type 0} (count : ℕ) (items : List X) (len capacity : ℕ) : Type 0 where
  pub items_are : items ≡ []
  pub len_is : len ≡ 0
  pub fits : count ≤ capacity

-- a member as the core is handed it, where this list was seen
pub record IsEnd (A : Start) (seen : List Entry) (g : GroupEnd) : Type 0 where
  pub own : IsOwn (state_at A seen) g.tx g.work
  pub within : IsWithin g.work
  pub none : g.reply ≡ None

module _ {D O : Type 0} where
  abbrev pub numbers_in : List (Tx D O) → List ℕ
  numbers_in group = map (λ t. t.number) group

  -- their units, and how often their passes hold a number and have a place
  abbrev pub units_of : List (Tx D O) → ℕ
  units_of group = total (λ t. (view t.pass).units) group

  abbrev pub held_in : ℕ → List (Tx D O) → ℕ
  held_in n group = total (λ t. times n (view t.pass).holds) group

  abbrev pub made_in : ℕ → List (Tx D O) → ℕ
  made_in p group = total (λ t. times p (view t.pass).mine) group

  -- a pass that was joined into a port has left a note in its place: without a unit, a number and a place, and it has seen no more than the port
  pub record IsNote (s : Shared D O) (seen : List Entry) (t : Tx D O) : Type 0 where
    pub lock : IsIdle s.lock t.pass
    pub seen_is : IsPrefix (view t.pass).seen seen
    pub bare : ((view t.pass).mine ≡ []) × ((view t.pass).holds ≡ []) × ((view t.pass).units ≡ 0)

  -- what is known of a member whose pass was joined into a port
  pub record IsJoined (s : Shared D O) (A : Start) (seen : List Entry) (t : Tx D O) : Type 0 where
    pub note : IsNote s seen t
    pub on : IsOn A.world.geometry t.work
    pub own : IsOwn (state_at A seen) t.number t.work
    pub ahead : IsAhead (state_at A seen) t.work t.checked
    pub within : IsWithin t.work

  -- the same transaction with such a note; the port has seen what its pass had
  pub record IsNoteOf (s : Shared D O) (A : Start) (seen : List Entry) (t u : Tx D O) : Type 0 where
    pub joined : IsJoined s A seen u
    pub told : IsPrefix (view t.pass).seen seen
    pub number : u.number ≡ t.number
    pub work : u.work ≡ t.work
    pub checked : u.checked ≡ t.checked

  -- the same transaction with a pass that was split off: it has its number and one unit, and has seen what the port has
  pub record IsPartOf (s : Shared D O) (seen : List Entry) (t u : Tx D O) : Type 0 where
    pub lock : IsOf s.lock u.pass
    pub seen_is : (view u.pass).seen ≡ seen
    pub has : ((view u.pass).mine ≡ []) × ((view u.pass).holds ≡ t.number ∷ []) × ((view u.pass).units ≡ 1)
    pub number : u.number ≡ t.number
    pub work : u.work ≡ t.work
    pub checked : u.checked ≡ t.checked

  -- the work went from the transaction, or came back
  pub record IsTaken (t u : Tx D O) : Type 0 where
    pub pass : u.pass ≡ t.pass
    pub number : u.number ≡ t.number
    pub checked : u.checked ≡ t.checked

  -- a member as the core is handed it
  abbrev pub end_of : Tx D O → GroupEnd
  end_of t = record { tx = t.number; work = t.work; reply = None }

  -- the same transaction, handed back: it has its number and one unit, and has seen the refusal
  pub record IsBack (s : Shared D O) (A : Start) (seen : List Entry) (t u : Tx D O) : Type 0 where
    pub tx : IsTx s A u
    pub same : IsSameTx t u
    pub seen_is : (view u.pass).seen ≡ seen
    pub has : ((view u.pass).mine ≡ []) × ((view u.pass).holds ≡ u.number ∷ []) × ((view u.pass).units ≡ 1)

  -- a port that was given the passes of these members, in whose places notes stand; no number is then held twice
  pub record Gathers (s : Shared D O) (A : Start) (ts us : List (Tx D O)) (old new : Port D O) : Type 0 where
    pub port : IsPort s new
    pub units : (view new.pass).units ≡ (view old.pass).units + units_of ts
    pub seen : IsPrefix (view old.pass).seen (view new.pass).seen
    pub holds : (n : ℕ) → times n (view new.pass).holds ≡ times n (view old.pass).holds + held_in n ts
    pub places : (p : ℕ) → times p (view new.pass).mine ≡ times p (view old.pass).mine + made_in p ts
    pub alone : 0 < length ts → (n : ℕ) → times n (view new.pass).holds ≤ 1
    pub group : ArePaired (IsNoteOf s A (view new.pass).seen) ts us

  -- members in whose places notes stand, and a port that holds the number of each and has a unit for each, and one more
  pub record MayPart (s : Shared D O) (ts : List (Tx D O)) (p : Port D O) : Type 0 where
    pub port : IsPort s p
    pub units : length ts < (view p.pass).units
    pub held : AreHeld (numbers_in ts) (view p.pass).holds
    pub distinct : AreDistinct (numbers_in ts)
    pub group : AllByRecursion (IsNote s (view p.pass).seen) ts

  -- a port that gave a number and a unit to each of these members
  pub record PartsWith (s : Shared D O) (ts us : List (Tx D O)) (old new : Port D O) : Type 0 where
    pub port : IsPort s new
    pub units : (view new.pass).units + length ts ≡ (view old.pass).units
    pub seen : (view new.pass).seen ≡ (view old.pass).seen
    pub mine : (view new.pass).mine ≡ (view old.pass).mine
    pub group : ArePaired (IsPartOf s (view old.pass).seen) ts us

  -- a port that took in notes: it has seen what it had, and has as many units and places
  pub record TakesNotes (s : Shared D O) (old new : Port D O) : Type 0 where
    pub port : IsPort s new
    pub units : (view new.pass).units ≡ (view old.pass).units
    pub seen : (view new.pass).seen ≡ (view old.pass).seen
    pub places : (p : ℕ) → times p (view new.pass).mine ≡ times p (view old.pass).mine

  -- one to as many members as a group may have, as the core is handed them, whose numbers the port holds
  pub record AreEnds (s : Shared D O) (A : Start) (p : Port D O) (ends : List GroupEnd) : Type 0 where
    pub port : IsPort s p
    pub each : AllByRecursion (IsEnd A (view p.pass).seen) ends
    pub some : 0 < length ends
    pub most : length ends ≤ MAX_GROUP
    pub held : AreHeld (numbers_handed ends) (view p.pass).holds × AreDistinct (numbers_handed ends)

  -- the same of members whose passes were joined into the port
  pub record AreJoined (s : Shared D O) (A : Start) (p : Port D O) (group : List (Tx D O)) : Type 0 where
    pub port : IsPort s p
    pub each : AllByRecursion (IsJoined s A (view p.pass).seen) group
    pub some : 0 < length group
    pub most : length group ≤ MAX_GROUP
    pub held : AreHeld (numbers_in group) (view p.pass).holds × AreDistinct (numbers_in group)

  -- what the turn of a group leaves of the port, which holds the numbers on where the core refused them
  pub record HasTurned {T : Type 0} (s : Shared D O) (old new : Port D O) (result : Result T CoreError) : Type 0 where
    pub port : IsPort s new
    pub units : (view new.pass).units ≡ (view old.pass).units
    pub seen : IsPrefix (view old.pass).seen (view new.pass).seen
    pub holds : IfErr result (λ e. e ≢ error.Disk → (view new.pass).holds ≡ (view old.pass).holds)
    pub only : IfErr result (λ e. (e ≡ error.Down) ⊎ (e ≡ error.Disk) ⊎ (e ≡ error.Memory))

  -- the same, where this is why it was refused
  abbrev pub HasRefused : (s : Shared D O) (old new : Port D O) → CoreError → Type 0
  HasRefused s old new e = HasTurned {T = List GroupReply} s old new (Err e)

  -- the port made this entry
  abbrev pub MadeAt : Start → (old : Port D O) → Entry → (new : Port D O) → Type 0
  MadeAt A old e new = Made A (view old.pass) (view old.pass) e (view new.pass)

  -- that of a group of these members, which is refused
  abbrev pub MadeRefusal : Start → (old : Port D O) → List Member → CoreError → (new : Port D O) → Type 0
  MadeRefusal A old members e new = (before : ℕ) × (now : ℕ) × MadeAt A old (entry.Refused (call.EndGroup members) (cause_of before now e)) new
