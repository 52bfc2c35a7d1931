-- How the calls of a session end that begin, check, end and abort its transaction.
use Rattle.std.specs.Prelude.{◌≡◌, ℕ, ◌+◌, ◌≤◌, ◌⊎◌, [], Option, Some, None, IsSome, Result, Ok, Err}
use Rattle.iso_model.specs.{declared.access.EndReply.EndReply, declared.access.Mode.Mode, declared.core_error.CoreError.CoreError, declared.memory.NotInTx.NotInTx, Conflict.clash, History.History, Step.mode_named}
use Rattle.iso_model.specs.declared.core_error.CoreError.TheVariants as error
use Rattle.iso_shared.specs.declared.entry.Call.TheVariants as call
use Rattle.iso_shared.specs.{declared.entry.Entry.Entry, Ports.most_steps, States.Start, Told.cause_of}
use Rattle.iso_shared.specs.declared.entry.Entry.TheVariants as entry
use Rattle.turn_lock.specs.{declared.view.View.View, Lists.times}
use Rattle.handle_pass.specs.{declared.errors.BeginError.BeginError, declared.errors.EndError.EndError, Sessions.{Own, SessionState, count, Entered, KeepsTx, Made}}
use Rattle.handle_pass.specs.declared.errors.BeginError.TheVariants as begin
use Rattle.handle_pass.specs.declared.errors.EndError.TheVariants as end

-- the transaction after its end was refused so: a fault of the disk has ended it
abbrev pub left_by : CoreError → Own → Option Own
left_by error.Disk o = None
left_by error.Down o = Some o
left_by error.TooManyTx o = Some o
left_by (error.LogFull need free) o = Some o
left_by error.Memory o = Some o
left_by (error.Worn at) o = Some o
left_by error.ModeFixed o = Some o

module _ (A : Start) where
  abbrev pub HasBegun : SessionState → Option Mode → Result ℕ BeginError → SessionState → Type 0
  HasBegun s named (Ok at) t =
      (s.own ≡ None) × (n : ℕ) × (mode : Mode) × Made A s t (entry.Begin n at mode) × (mode ≡ mode_named A.world named)
      × (t.own ≡ Some (record { number = n; begin = at; mode = mode; accesses = [] }))
  HasBegun s named (Err begin.InTx) t = IsSome s.own × (t ≡ s)
  HasBegun s named (Err (begin.Core e)) t =
      (s.own ≡ None) × (t.own ≡ None) × (before : ℕ) × (now : ℕ) × Made A s t (entry.Refused (call.Begin named) (cause_of before now e))

  -- why a check that asked for the later commits is refused: the device does, or memory was wanting to compare
  abbrev pub IsCheckCause : (s t : SessionState) → Own → CoreError → Type 0
  IsCheckCause s t o e =
      ((before : ℕ) × (now : ℕ) × Made A s t (entry.Refused (call.Recent o.number) (cause_of before now e)))
      ⊎ ((e ≡ error.Memory) × (upto : ℕ) × Made A s t (entry.Recent o.number upto))

  abbrev pub HasChecked : SessionState → Result ℕ EndError → SessionState → Type 0
  HasChecked s (Ok upto) t = (o : Own) × (s.own ≡ Some o) × (t.own ≡ Some o) × (t.checked ≡ upto) × Made A s t (entry.Recent o.number upto)
  HasChecked s (Err end.NotInTx) t = (s.own ≡ None) × (t ≡ s)
  HasChecked s (Err (end.Core e)) t = (o : Own) × (s.own ≡ Some o) × KeepsTx s t × IsCheckCause s t o e

  -- the session has a transaction, and no commit of any history clashes with it
  abbrev pub CannotClash : SessionState → Type 0
  CannotClash s = (o : Own) × (s.own ≡ Some o) × ((H : History) → clash A.world.geometry H o.mode o.begin o.accesses ≡ None)

  -- the end took at most a step for each commit above those that were compared ahead: a step is a commit looked at
  abbrev pub TookFew : (s t : SessionState) → (e : Entry) → Made A s t e → (old new : ℕ) → Type 0
  TookFew s t e made old new = new ≤ old + most_steps A made.entered.before s.checked

  abbrev pub HasEnded : SessionState → (old : ℕ) → Result EndReply EndError → SessionState → (new : ℕ) → Type 0
  HasEnded s old (Ok reply) t new =
      (o : Own) × (s.own ≡ Some o) × (t.own ≡ None) × (made : Made A s t (entry.End o.number o.accesses reply)) × TookFew s t _ made old new
  HasEnded s old (Err end.NotInTx) t new = (s.own ≡ None) × (t ≡ s) × (new ≡ old)
  HasEnded s old (Err (end.Core e)) t new =
      (o : Own) × (s.own ≡ Some o) × (t.own ≡ left_by e o) × (before : ℕ) × (now : ℕ)
      × (made : Made A s t (entry.Refused (call.End o.number o.accesses) (cause_of before now e))) × TookFew s t _ made old new

  abbrev pub HasAborted : SessionState → Result (Unit {0}) NotInTx → SessionState → Type 0
  HasAborted s (Ok done) t = (o : Own) × (s.own ≡ Some o) × (t.own ≡ None) × Made A s t (entry.Abort o.number)
  HasAborted s (Err never) t = (s.own ≡ None) × (t ≡ s)

  -- the session has ended, and its port knows this: a transaction that it still had was aborted
  abbrev pub EndsWith : SessionState → Option Own → View Entry → Type 0
  EndsWith s None v = (v.seen ≡ s.seen) × ((p : ℕ) → times p v.mine ≡ count s p)
  EndsWith s (Some o) v = Entered A s.seen (count s) (entry.Abort o.number) v.seen (λ p. times p v.mine)

  abbrev pub HasFinished : SessionState → View Entry → Type 0
  HasFinished s v = EndsWith s s.own v
