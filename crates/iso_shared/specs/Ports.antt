-- What ports and transactions are between two calls, and what a call does to their views.
use Rattle.std.specs.{Prelude.{◌≡◌, ℕ, ◌+◌, ◌-◌, ◌<◌, ◌≤◌, true, Option, None, List, [], ◌∷◌, ◌++◌, length}, List.AllByRecursion}
use mathlib.Core.List.{IsPrefix}
use Rattle.byte_marks.specs.Touched.{AreTouched}
use Rattle.conflict_rule.specs.{declared.decision.Checked.Checked, Decision.{AreNotesAfter, Bytes, IsAsked, up_to}, Notes.Note}
use Rattle.iso_core.specs.declared.answers.Recent.{Recent}
use Rattle.iso_model.specs.{declared.access.Clash.Clash, declared.access.Geometry.Geometry, declared.access.Kind.TheVariants.{Read, Write}, Conflict.clash, History.{History, last}, Isolation.IsIsolated}
use Rattle.tx_table.specs.Work.{Doing}
use Rattle.turn_lock.specs.{declared.view.View.View, Lists.{hit, longer, times, total}, Lock.lock_id, Pass.PassOf}
use Rattle.iso_shared.specs.{declared.entry.Entry.Entry, declared.guarded.Guarded.Guarded, declared.guarded.Stamped.Stamped, declared.shared.Port.Port, declared.shared.Shared.Shared, declared.turns.Turns.Turns, declared.tx.Tx.Tx, Legal.IsLegal, Standing.IsOn, States.{Start, State, is_live, live_of, state_at}, Turns.{HasNoTurn, moments, view}}

-- a pass of the lock that waits for nothing and has no turn
abbrev pub IsIdle : {D O : Type 0} → Turns D O → PassOf (Guarded D O) Stamped → Type 0
IsIdle l p = (p.table_id ≡ lock_id l.lock) × HasNoTurn p

-- the same, with a unit
abbrev pub IsOf : {D O : Type 0} → Turns D O → PassOf (Guarded D O) Stamped → Type 0
IsOf l p = (p.table_id ≡ lock_id l.lock) × HasNoTurn p × (0 < (view p).units)

-- the work is that of the transaction of this number, in as far as it is still live
pub record IsOwn (S : State) (tx : ℕ) (work : Doing) : Type 0 where
  pub number : tx < S.world.next
  pub begin : is_live tx S.world.live ≡ true → (live_of tx S.world.live).begin ≡ work.begin
  pub mode : is_live tx S.world.live ≡ true → (live_of tx S.world.live).mode ≡ work.mode
  pub on : IsOn S.world.geometry work

-- what was checked ahead: the commits up to a number from the begin on, and the clash with them
pub record IsAhead (S : State) (work : Doing) (checked : Checked) : Type 0 where
  pub first : 0 < S.world.history.first
  pub from : work.begin ≤ checked.upto
  pub to : checked.upto ≤ last S.world.history
  pub clash_is : checked.clash ≡ clash S.world.geometry (up_to S.world.history checked.upto) work.mode work.begin work.accesses

-- no commit of any history clashes with what the work did
abbrev pub CannotClash : Doing → Type 0
CannotClash work = (g : Geometry) (H : History) → g.block ≡ work.size → g.blocks ≡ work.blocks → clash g H work.mode work.begin work.accesses ≡ None

-- the commits above what was checked, up to a number
pub record IsRecent (S : State) (checked : Checked) (recent : Recent) : Type 0 where
  pub from : recent.after ≡ checked.upto
  pub later : recent.after ≤ recent.upto
  pub to : recent.upto ≤ last S.world.history
  pub notes : AreNotesAfter S.world.geometry (up_to S.world.history recent.upto) recent.after recent.notes.notes

-- this is how the work meets commits that were checked so far, or have these notes
abbrev pub IsMeeting : Doing → Checked → List Note → Option Clash → Type 0
IsMeeting work checked notes met = (g : Geometry) (H : History) → g.block ≡ work.size → g.blocks ≡ work.blocks
    → ((reads writes : Bytes) → AreTouched work.size work.blocks Read work.accesses reads → AreTouched work.size work.blocks Write work.accesses writes
    → IsAsked g H work.mode work.begin work.accesses checked.upto checked.clash reads writes notes)
    → met ≡ clash g H work.mode work.begin work.accesses

-- the history that the list leads to is isolated: each commit in it is serial or snapshot at its number, as its mode says
abbrev pub IsIsolatedAt : Start → List Entry → Type 0
IsIsolatedAt A es = IsIsolated (state_at A es).world.geometry (state_at A es).world.history

module _ {D O : Type 0} where
  -- what a port and a transaction know of the list
  abbrev pub port_view : Port D O → View Entry
  port_view p = view p.pass

  abbrev pub tx_view : Tx D O → View Entry
  tx_view t = view t.pass

  -- the moments at which the turns ended whose entries a port, or a transaction, has seen
  abbrev pub port_moments : Port D O → List ℕ
  port_moments p = moments p.pass

  abbrev pub tx_moments : Tx D O → List ℕ
  tx_moments t = moments t.pass

  -- a transaction's pass, its number, what it does, and what was checked of it ahead
  abbrev pub pass_of : Tx D O → PassOf (Guarded D O) Stamped
  pass_of t = t.pass

  abbrev pub number_of : Tx D O → ℕ
  number_of t = t.number

  abbrev pub doing_of : Tx D O → Doing
  doing_of t = t.work

  abbrev pub check_of : Tx D O → Checked
  check_of t = t.checked

  -- the transaction with something else to do
  abbrev pub doing : Tx D O → Doing → Tx D O
  doing t work = record t { work = work }

  -- the numbers of the image that the core had at the start
  abbrev pub first_geometry : Shared D O → Geometry
  first_geometry s = s.geometry

  -- what the transaction has seen
  abbrev pub state_of : Start → Tx D O → State
  state_of A t = state_at A (tx_view t).seen

  -- its pass holds its number, and its work and its check are those of the transaction
  pub record IsTxOf (A : Start) (t : Tx D O) : Type 0 where
    pub held : 0 < times t.number (view t.pass).holds
    -- on blocks of the size that they had at the start, and as many of them
    pub on : IsOn A.world.geometry t.work
    pub own : IsOwn (state_of A t) t.number t.work
    pub ahead : IsAhead (state_of A t) t.work t.checked

  -- a port of the device, between two calls
  abbrev pub IsPort : Shared D O → Port D O → Type 0
  IsPort s p = IsOf s.lock p.pass

  -- a transaction of the device, between two calls
  abbrev pub IsTx : Shared D O → Start → Tx D O → Type 0
  IsTx s A t = IsOf s.lock t.pass × IsTxOf A t

  -- the same transaction, with its begin, its mode and its accesses
  pub record IsSameTx (t u : Tx D O) : Type 0 where
    pub number : u.number ≡ t.number
    pub work : u.work ≡ record t.work { settled = u.work.settled }
    pub checked : u.checked ≡ t.checked

  -- a port that has taken in a pass of this view
  pub record TakesIn (s : Shared D O) (v : View Entry) (old new : Port D O) : Type 0 where
    pub port : IsPort s new
    pub units : (view new.pass).units ≡ (view old.pass).units + v.units
    pub seen : (view new.pass).seen ≡ longer (view old.pass).seen v.seen
    pub past : IsPrefix (moments old.pass) (moments new.pass)
    pub places : (p : ℕ) → times p (view new.pass).mine ≡ times p (view old.pass).mine + times p v.mine

-- The pass of u, which was told what v had seen, made one entry, e, which is the last that w has seen. All of that is legal.
pub record Made (A : Start) (v u : View Entry) (e : Entry) (w : View Entry) : Type 0 where
  pub before : List Entry
  pub told : IsPrefix v.seen before
  pub begins : IsPrefix u.seen before
  pub seen : w.seen ≡ before ++ e ∷ []
  pub mine : w.mine ≡ u.mine ++ length before ∷ []
  pub legal : IsLegal A w.seen

-- the same, where the pass of u was then joined into that of v
pub record MadeBoth (A : Start) (v u : View Entry) (e : Entry) (w : View Entry) : Type 0 where
  pub before : List Entry
  pub told : IsPrefix v.seen before
  pub begins : IsPrefix u.seen before
  pub seen : w.seen ≡ before ++ e ∷ []
  pub mine : (p : ℕ) → times p w.mine ≡ times p v.mine + times p u.mine + hit (length before) p
  pub legal : IsLegal A w.seen

-- the same, where the passes of all of these were joined into that of v before
pub record MadeAll (A : Start) (v : View Entry) (us : List (View Entry)) (e : Entry) (w : View Entry) : Type 0 where
  pub before : List Entry
  pub told : IsPrefix v.seen before
  pub begins : AllByRecursion (λ u. IsPrefix u.seen before) us
  pub seen : w.seen ≡ before ++ e ∷ []
  pub mine : (p : ℕ) → times p w.mine ≡ times p v.mine + total (λ u. times p u.mine) us + hit (length before) p
  pub legal : IsLegal A w.seen

-- the most steps, where these entries came before
abbrev pub most_steps : Start → List Entry → (upto : ℕ) → ℕ
most_steps A before upto = last (state_at A before).world.history - upto

-- at most `most_steps` steps were taken in the turn that made the last entry that was seen
abbrev pub TookFew : Start → (seen : List Entry) → (upto old new : ℕ) → Type 0
TookFew A seen upto old new = (list : List Entry) (e : Entry) → seen ≡ list ++ e ∷ [] → new ≤ old + most_steps A list upto
