-- How a transaction leaves a session and comes to another one: in a handle, or under a label.
use Rattle.std.specs.Prelude.{◌≡◌, ℕ, ◌+◌, List, Option, Some, None, IsSome, Result, Ok, Err}
use mathlib.Core.List.{IsPrefix}
use Rattle.iso_model.specs.{declared.memory.InTx.InTx, declared.memory.NotInTx.NotInTx}
use Rattle.iso_shared.specs.declared.entry.Call.TheVariants as call
use Rattle.iso_shared.specs.{declared.entry.Cause.Cause, States.Start}
use Rattle.iso_shared.specs.declared.entry.Cause.TheVariants as cause
use Rattle.iso_shared.specs.declared.entry.Entry.TheVariants as entry
use Rattle.turn_lock.specs.Lists.{times}
use Rattle.handle_pass.specs.{declared.errors.PostTxError.PostTxError, Held.HandleState, Sessions.{Own, SessionState, count, KeepsTx, Made}}
use Rattle.handle_pass.specs.declared.errors.PostTxError.TheVariants as post

-- the transaction went from the session into the handle, with its places and its units, and it knows what the session does
pub record Released (s : SessionState) (h : HandleState) (t : SessionState) : Type 0 where
  pub was : s.own ≡ Some h.own
  pub upto : h.checked ≡ s.checked
  pub left : t.own ≡ None
  pub told : IsPrefix s.seen h.seen
  pub same : t.seen ≡ s.seen
  pub places : (p : ℕ) → count t p + times p h.mine ≡ count s p
  pub units : t.units + 1 ≡ s.units
  pub of : (t.device ≡ s.device) × (h.device ≡ s.device)

-- the transaction came from the handle to the session, which had none, with its places and its units; the session knows what it does
pub record TookOver (s : SessionState) (h : HandleState) (at : ℕ) (t : SessionState) : Type 0 where
  pub none : s.own ≡ None
  pub is : t.own ≡ Some h.own
  pub upto : t.checked ≡ h.checked
  pub begun : at ≡ h.own.begin
  pub told : IsPrefix h.seen t.seen
  pub more : IsPrefix s.seen t.seen
  pub places : (p : ℕ) → count t p ≡ count s p + times p h.mine
  pub units : t.units ≡ s.units + 1
  pub of : t.device ≡ s.device

abbrev pub HasReleased : SessionState → Result HandleState NotInTx → SessionState → Type 0
HasReleased s (Ok h) t = Released s h t
HasReleased s (Err e) t = (s.own ≡ None) × (t ≡ s)

abbrev pub HasTakenOver : SessionState → HandleState → Result ℕ (InTx × HandleState) → SessionState → Type 0
HasTakenOver s h (Ok at) t = TookOver s h at t
HasTakenOver s h (Err e) t = IsSome s.own × (e.1 ≡ h) × (t ≡ s)

-- a post that was refused, and left the transaction
abbrev pub Unposted : Start → (s t : SessionState) → (label : List ℕ) → Cause → Type 0
Unposted A s t label why = (o : Own) × (s.own ≡ Some o) × KeepsTx s t × Made A s t (entry.Refused (call.Post o.number label o.accesses) why)

abbrev pub HasPosted : Start → SessionState → (label : List ℕ) → Result (Unit {0}) PostTxError → SessionState → Type 0
HasPosted A s label (Ok done) t = (o : Own) × (s.own ≡ Some o) × (t.own ≡ None) × Made A s t (entry.Post o.number label o.accesses)
HasPosted A s label (Err post.NotInTx) t = (s.own ≡ None) × (t ≡ s)
HasPosted A s label (Err post.LabelTaken) t = Unposted A s t label cause.LabelTaken
HasPosted A s label (Err post.Memory) t = Unposted A s t label cause.Memory

abbrev pub HasLooked : Start → SessionState → (label : List ℕ) → Result (Option ℕ) InTx → SessionState → Type 0
HasLooked A s label (Ok (Some at)) t = (s.own ≡ None) × (o : Own) × (t.own ≡ Some o) × (at ≡ o.begin) × Made A s t (entry.Look label (Some o))
HasLooked A s label (Ok None) t = (s.own ≡ None) × (t.own ≡ None) × Made A s t (entry.Look label None)
HasLooked A s label (Err e) t = IsSome s.own × (t ≡ s)
