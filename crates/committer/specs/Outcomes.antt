-- What becomes of a transaction that is handed in to be ended by whoever serves.
use Rattle.std.specs.Prelude.{◌≡◌, ◌≢◌, ◌⊎◌, ℕ, ◌++◌, List, [], ◌∷◌}
use mathlib.Core.List.{IsPrefix}
use Rattle.iso_model.specs.{declared.access.Access.Access, declared.access.EndReply.EndReply, declared.access.GroupReply.GroupReply, declared.core_error.CoreError.CoreError}
use Rattle.iso_model.specs.declared.access.EndReply.TheVariants as reply
use Rattle.iso_model.specs.declared.access.GroupReply.TheVariants as member
use Rattle.iso_model.specs.declared.core_error.CoreError.TheVariants as error
use Rattle.iso_shared.specs.{declared.entry.Call.Call, declared.entry.Entry.Entry, declared.entry.Member.Member, declared.shared.Port.Port, declared.shared.Shared.Shared, declared.tx.Tx.Tx, Legal.IsLegal, Ports.{IsPort, IsSameTx, IsTx, doing_of, number_of, port_view, tx_view}, States.Start, Told.cause_of}
use Rattle.iso_shared.specs.declared.entry.Call.TheVariants as call
use Rattle.iso_shared.specs.declared.entry.Entry.TheVariants as entry
use Rattle.group_commit.specs.{declared.each.Ended.Ended, Each.IsEndedIn}
use Rattle.committer.specs.declared.ends.Outcome.{Outcome}
use Rattle.committer.specs.declared.ends.Outcome.TheVariants as outcome

-- a reply as members of a group are told it
abbrev pub as_member : EndReply → GroupReply
as_member (reply.Committed n) = member.Committed n
as_member reply.ReadOnly = member.ReadOnly
as_member (reply.Conflict c) = member.Conflict c

-- one of these members has this number and these accesses
abbrev pub IsMember : (number : ℕ) → List Access → List Member → Type 0
IsMember n accesses [] = ⊥
IsMember n accesses (m ∷ members) = (m ≡ record { number = n; accesses = accesses }) ⊎ IsMember n accesses members

-- the call asks for the end of this transaction, by itself or as a member of a group
abbrev pub IsEndOf : (number : ℕ) → List Access → Call → Type 0
IsEndOf n accesses c = (c ≡ call.End n accesses) ⊎ ((members : List Member) × (c ≡ call.EndGroup members) × IsMember n accesses members)

module _ {D O : Type 0} (shared : Shared D O) (A : Start) where
  -- a transaction that may be handed in: it has one unit
  pub record MayEnd (t : Tx D O) : Type 0 where
    pub tx : IsTx shared A t
    pub unit : (tx_view t).units ≡ 1

  -- a port with one unit and no place
  pub record IsBare (p : Port D O) : Type 0 where
    pub port : IsPort shared p
    pub unit : (port_view p).units ≡ 1
    pub bare : (port_view p).mine ≡ []

  -- all that the transaction had seen was seen, and then, last, this entry; all of that is legal
  pub record HasSeenLast (t : Tx D O) (e : Entry) (seen : List Entry) : Type 0 where
    pub before : List Entry
    pub told : IsPrefix (tx_view t).seen before
    pub seen_is : seen ≡ before ++ e ∷ []
    pub legal : IsLegal A seen

  -- the transaction was ended by itself, and answered so
  pub record IsEndedAlone (t : Tx D O) (e : Ended D O) : Type 0 where
    pub port : IsBare e.port
    pub reply : EndReply
    pub same : e.reply ≡ as_member reply
    pub seen : HasSeenLast t (entry.End (number_of t) (doing_of t).accesses reply) (port_view e.port).seen

  -- its end was refused so
  pub record IsRefusedIn (t : Tx D O) (e : CoreError) (list : List Entry) : Type 0 where
    pub asked : Call
    pub of : IsEndOf (number_of t) (doing_of t).accesses asked
    pub faults : ℕ
    pub now : ℕ
    pub seen : HasSeenLast t (entry.Refused asked (cause_of faults now e)) list

  -- and it was handed back as it was, without a place, and knows the refusal, which was for no fault of the disk
  pub record IsHandedBack (t : Tx D O) (e : CoreError) (u : Tx D O) : Type 0 where
    pub tx : MayEnd u
    pub same : IsSameTx t u
    pub bare : (tx_view u).mine ≡ []
    pub live : e ≢ error.Disk
    pub list : List Entry
    pub refused : IsRefusedIn t e list
    pub known : IsPrefix list (tx_view u).seen

  -- a fault of the disk has ended it
  pub record IsLost (t : Tx D O) (p : Port D O) : Type 0 where
    pub port : IsBare p
    pub refused : IsRefusedIn t error.Disk (port_view p).seen

  -- this became of the transaction
  abbrev pub IsOutcome : Tx D O → Outcome D O → Type 0
  IsOutcome t (outcome.Ended e) = IsEndedIn shared A t e ⊎ IsEndedAlone t e
  IsOutcome t (outcome.Refused e u) = IsHandedBack t e u
  IsOutcome t (outcome.Lost p) = IsLost t p
