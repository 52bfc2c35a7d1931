-- What a thread learns of the transactions that it gave away, once another one has ended them as a group.
use Rattle.std.specs.{Prelude.{ℕ, ◌++◌, List, [], ◌∷◌, Result, Ok, Err, Vec, length}, declared.alloc.Global.Global}
use mathlib.Core.List.{IsPrefix}
use Rattle.iso_model.specs.{declared.access.GroupReply.GroupReply, declared.core_error.CoreError.CoreError}
use Rattle.iso_shared.specs.{declared.entry.Entry.Entry, declared.entry.MemberEnd.MemberEnd, declared.shared.Shared.Shared, declared.tx.Tx.Tx, Groups.ArePaired, Legal.IsLegal, Ports.{doing_of, number_of, tx_view}, States.Start}
use Rattle.iso_shared.specs.declared.entry.Entry.TheVariants as entry
use Rattle.group_commit.specs.{declared.each.Ended.Ended, Each.{IsAmong, IsEndedIn}}

-- what was told of a group: how each member ended, or why the group was refused
abbrev pub Told : (D O : Type 0) → Type 0
Told D O = Result (Vec (Ended D O) Global) CoreError

module _ {D O : Type 0} where
  -- the units of the ports by which members were told
  abbrev pub told_units : Told D O → ℕ
  told_units (Ok told) = length told.items
  told_units (Err e) = 0

  -- these transactions were ended as a group, each of which is told how it ended; or their group was refused
  abbrev pub AreTold : Shared D O → Start → List (Tx D O) → Told D O → Type 0
  AreTold shared A txs (Ok told) = ArePaired (IsEndedIn shared A) txs told.items
  AreTold shared A txs (Err e) = Unit {0}

  -- some transaction was ended so
  abbrev pub IsEnded : Shared D O → Start → Ended D O → Type 0
  IsEnded shared A e = (t : Tx D O) × IsEndedIn shared A t e

  -- The end of the transaction was seen: after all that it had seen, the entry of a group in which it is a member with its accesses
  -- and this reply. All of that is legal.
  pub record KnowsEnd (A : Start) (seen : List Entry) (t : Tx D O) (r : GroupReply) : Type 0 where
    pub before : List Entry
    pub members : List MemberEnd
    pub told : IsPrefix (tx_view t).seen before
    pub known : IsPrefix (before ++ entry.EndGroup members ∷ []) seen
    pub legal : IsLegal A (before ++ entry.EndGroup members ∷ [])
    pub among : IsAmong (number_of t) (doing_of t).accesses r members

  -- whichever transaction was ended so, its end was seen, with this reply
  abbrev pub IsLearned : Shared D O → Start → (seen : List Entry) → Ended D O → Type 0
  IsLearned shared A seen e = (t : Tx D O) → IsEndedIn shared A t e → KnowsEnd A seen t e.reply
