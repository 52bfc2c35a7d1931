-- How the transaction of a session ends together with those of other threads: by an entry that another caller made, or by its own.
use Rattle.std.specs.Prelude.{◌≡◌, ◌≢◌, ◌⊎◌, ℕ, ◌+◌, ◌++◌, List, [], ◌∷◌, Some, None, Result, Ok, Err}
use mathlib.Core.List.{IsPrefix}
use Rattle.iso_model.specs.{declared.access.EndReply.EndReply, declared.access.GroupReply.GroupReply, declared.core_error.CoreError.CoreError}
use Rattle.iso_model.specs.declared.core_error.CoreError.TheVariants as error
use Rattle.iso_shared.specs.{declared.entry.Call.Call, declared.entry.Entry.Entry, declared.entry.MemberEnd.MemberEnd, declared.shared.Shared.Shared, declared.tx.Tx.Tx, Legal.IsLegal, Ports.{check_of, tx_view}, States.Start, Told.cause_of}
use Rattle.iso_shared.specs.declared.entry.Entry.TheVariants as entry
use Rattle.handle_pass.specs.{declared.errors.EndError.EndError, Calls.{HasEnded, left_by}, Inside.own_in, Sessions.{Own, SessionState, count}}
use Rattle.handle_pass.specs.declared.errors.EndError.TheVariants as end
use Rattle.group_commit.specs.Each.{IsAmong}
use Rattle.committer.specs.Outcomes.{IsEndOf, MayEnd, as_member}

-- the entry ends the transaction, by itself or as a member of a group, and answers it so
abbrev pub IsAnswer : Own → GroupReply → Entry → Type 0
IsAnswer o r e =
    ((members : List MemberEnd) × (e ≡ entry.EndGroup members) × IsAmong o.number o.accesses r members)
    ⊎ ((reply : EndReply) × (e ≡ entry.End o.number o.accesses reply) × (r ≡ as_member reply))

-- the entry refuses its end so
abbrev pub IsRefusal : Own → CoreError → Entry → Type 0
IsRefusal o e r = (asked : Call) × (faults : ℕ) × (now : ℕ) × (r ≡ entry.Refused asked (cause_of faults now e)) × IsEndOf o.number o.accesses asked

-- the entry was made after all that had been seen, and has been seen then; it is legal there
pub record Follows (A : Start) (old : List Entry) (e : Entry) (new : List Entry) : Type 0 where
  pub before : List Entry
  pub told : IsPrefix old before
  pub known : IsPrefix (before ++ e ∷ []) new
  pub legal : IsLegal A (before ++ e ∷ [])

-- the session made no entry, and keeps its places
pub record KeepsPlaces (s t : SessionState) : Type 0 where
  pub known : IsPrefix s.seen t.seen
  pub places : (p : ℕ) → count t p ≡ count s p
  pub of : t.device ≡ s.device

-- The end of the session's transaction was refused so, by an entry that another caller made. The session has the transaction that it
-- would have after a refusal of its own.
pub record Unended (A : Start) (s : SessionState) (o : Own) (why : CoreError) (t : SessionState) : Type 0 where
  pub was : s.own ≡ Some o
  pub left : t.own ≡ left_by why o
  pub upto : why ≢ error.Disk → t.checked ≡ s.checked
  pub stays : KeepsPlaces s t
  pub units : t.units ≡ s.units
  pub refusal : Entry
  pub is : IsRefusal o why refusal
  pub follows : Follows A s.seen refusal t.seen

-- replies as members of a group are told them
abbrev pub as_members : Result EndReply EndError → Result GroupReply EndError
as_members (Ok reply) = Ok (as_member reply)
as_members (Err why) = Err why

-- this is the transaction, with one unit; the session's places stayed, and the transaction knows what the session did
pub record IsHandedOut {D O : Type 0} (shared : Shared D O) (A : Start) (s : SessionState) (u : Tx D O) (t : SessionState) : Type 0 where
  pub tx : MayEnd shared A u
  pub was : s.own ≡ Some (own_in u)
  pub upto : (check_of u).upto ≡ s.checked
  pub told : IsPrefix s.seen (tx_view u).seen
  pub left : t.own ≡ None
  pub stays : KeepsPlaces s t
  pub units : t.units + 1 ≡ s.units

-- it ended by the session's own entry, as by a plain end, and was told so as members of a group are
abbrev pub HasEndedItself : Start → SessionState → Result GroupReply EndError → SessionState → Type 0
HasEndedItself A s r t = (old : ℕ) × (new : ℕ) × (own : Result EndReply EndError) × HasEnded A s old own t new × (r ≡ as_members own)

-- it ended by an entry that another caller made
abbrev pub HasEndedBeside : Start → SessionState → Result GroupReply EndError → SessionState → Type 0
HasEndedBeside A s (Ok reply) t = (o : Own) × (s.own ≡ Some o) × (t.own ≡ None) × KeepsPlaces s t × (t.units ≡ s.units) × (e : Entry) × IsAnswer o reply e × Follows A s.seen e t.seen
HasEndedBeside A s (Err end.NotInTx) t = (s.own ≡ None) × (t ≡ s)
HasEndedBeside A s (Err (end.Core why)) t = (o : Own) × Unended A s o why t

abbrev pub HasEndedWith : Start → SessionState → Result GroupReply EndError → SessionState → Type 0
HasEndedWith A s r t = HasEndedItself A s r t ⊎ HasEndedBeside A s r t
