-- What a group of transactions makes of the list, and what is told of it.
use Rattle.std.specs.{Prelude.{◌≡◌, ◌⊎◌, ℕ, ◌+◌, ◌<◌, Bool, true, false, List, [], ◌∷◌, Option, Some, None, Result, Ok, Err, IfSome, is_some, length, map}, List.AllByRecursion}
use mathlib.Core.List.{IsPrefix}
use Rattle.iso_model.specs.{declared.access.GroupReply.GroupReply, declared.core_error.CoreError.CoreError}
use Rattle.iso_model.specs.declared.core_error.CoreError.TheVariants as error
use Rattle.iso_shared.specs.declared.entry.Call.TheVariants as call
use Rattle.iso_shared.specs.{declared.entry.Entry.Entry, declared.shared.Shared.Shared, declared.tx.Tx.Tx, Groups.{ArePaired, IsBack, answered, made_in, units_of}, Ports.{IsTx, MadeAll, number_of, tx_view}, States.Start, Told.{cause_of, members_in}}
use Rattle.iso_shared.specs.declared.entry.Entry.TheVariants as entry
use Rattle.turn_lock.specs.{declared.view.View.View, Lists.times}
use Rattle.handle_pass.specs.Logs.{AreNext}

-- why a group is refused
abbrev pub IsGroupRefusal : CoreError → Type 0
IsGroupRefusal e = (e ≡ error.Down) ⊎ (e ≡ error.Disk) ⊎ (e ≡ error.Memory)

-- the replies at the places that are marked, in order, and none at the others
abbrev pub spread : List Bool → List GroupReply → List (Option GroupReply)
spread [] replies = []
spread (false ∷ marks) replies = None ∷ spread marks replies
spread (true ∷ marks) [] = None ∷ spread marks []
spread (true ∷ marks) (first ∷ replies) = Some first ∷ spread marks replies

module _ {D O : Type 0} where
  -- which places have a transaction
  abbrev pub marks_of : List (Option (Tx D O)) → List Bool
  marks_of members = map is_some members

  -- the transactions that there are, in order
  abbrev pub found_in : List (Option (Tx D O)) → List (Tx D O)
  found_in [] = []
  found_in (None ∷ members) = found_in members
  found_in (Some t ∷ members) = t ∷ found_in members

  abbrev pub aborts_of : List (Tx D O) → List Entry
  aborts_of txs = map (λ t. entry.Abort (number_of t)) txs

  -- the entries of a group that was answered: none where there is no member
  abbrev pub group_of : List (Tx D O) → List GroupReply → List Entry
  group_of [] replies = []
  group_of (t ∷ txs) replies = entry.EndGroup (answered (members_in (t ∷ txs)) replies) ∷ []

  -- the aborts after a refusal: a fault of the disk has ended all members
  abbrev pub aborts_after : CoreError → List (Tx D O) → List Entry
  aborts_after error.Disk txs = []
  aborts_after error.Down txs = aborts_of txs
  aborts_after error.TooManyTx txs = aborts_of txs
  aborts_after (error.LogFull need free) txs = aborts_of txs
  aborts_after error.Memory txs = aborts_of txs
  aborts_after (error.Worn at) txs = aborts_of txs
  aborts_after error.ModeFixed txs = aborts_of txs

  -- the entries of a group that was refused
  abbrev pub refused_by : List (Tx D O) → (before now : ℕ) → CoreError → List Entry
  refused_by txs before now e = entry.Refused (call.EndGroup (members_in txs)) (cause_of before now e) ∷ aborts_after e txs

  -- how often a place is that of the port or of one of the transactions
  abbrev pub count_all : View Entry → List (Tx D O) → ℕ → ℕ
  count_all v txs p = times p v.mine + made_in p txs

  -- the units of the port and of the transactions
  abbrev pub units_all : View Entry → List (Tx D O) → ℕ
  units_all v txs = v.units + units_of txs

  abbrev pub AreTxs : Shared D O → Start → List (Tx D O) → Type 0
  AreTxs shared A txs = AllByRecursion (IsTx shared A) txs

  -- the transactions that there are, are of the device
  abbrev pub AreMembers : Shared D O → Start → List (Option (Tx D O)) → Type 0
  AreMembers shared A members = AllByRecursion (λ m. IfSome m (IsTx shared A)) members

  -- what each had seen, was seen
  abbrev pub KnowsAll : List (Tx D O) → List Entry → Type 0
  KnowsAll txs seen = AllByRecursion (λ t. IsPrefix (tx_view t).seen seen) txs

  -- the port, which got the places of the transactions, made these entries
  abbrev pub HasMade : Start → View Entry → List (Tx D O) → List Entry → View Entry → Type 0
  HasMade A v txs es w = AreNext A v.seen (count_all v txs) es w.seen (λ p. times p w.mine)

  -- the port, which got the places of the transactions, made the one entry of their group, with these replies; or of its refusal
  abbrev pub MadeGroup : Start → View Entry → List (Tx D O) → List GroupReply → View Entry → Type 0
  MadeGroup A v txs replies w = MadeAll A v (map tx_view txs) (entry.EndGroup (answered (members_in txs) replies)) w

  abbrev pub MadeRefusal : Start → View Entry → List (Tx D O) → CoreError → View Entry → Type 0
  MadeRefusal A v txs e w = (before : ℕ) × (now : ℕ) × MadeAll A v (map tx_view txs) (entry.Refused (call.EndGroup (members_in txs)) (cause_of before now e)) w

  -- the group was refused for a fault of the disk, which has ended the transactions: the port has their units
  abbrev pub AreLost : Start → View Entry → List (Tx D O) → CoreError → View Entry → Type 0
  AreLost A v txs e w = (e ≡ error.Disk) × (w.units ≡ units_all v txs) × MadeRefusal A v txs e w

  -- the group was refused for another cause, and the transactions are handed back as they were, each with a unit
  abbrev pub AreBack : Shared D O → Start → View Entry → List (Tx D O) → CoreError → List (Tx D O) → View Entry → Type 0
  AreBack shared A v txs e back w = ((e ≡ error.Down) ⊎ (e ≡ error.Memory)) × (w.units + length txs ≡ units_all v txs) × ArePaired (IsBack shared A w.seen) txs back × MadeRefusal A v txs e w

  -- a group of these transactions was ended, or refused
  abbrev pub HasEnded : Start → View Entry → List (Tx D O) → Result (List GroupReply) CoreError → View Entry → Type 0
  HasEnded A v txs (Ok replies) w = (length replies ≡ length txs) × HasMade A v txs (group_of txs replies) w
  HasEnded A v txs (Err e) w = (before : ℕ) × (now : ℕ) × HasMade A v txs (refused_by txs before now e) w

  -- A group of those that there are was ended or refused, place by place. Where memory was wanting before the group's turn, they were aborted.
  abbrev pub HasGrouped : Start → View Entry → List (Option (Tx D O)) → Result (List (Option GroupReply)) CoreError → View Entry → Type 0
  HasGrouped A v members (Ok told) w = (replies : List GroupReply) × (told ≡ spread (marks_of members) replies) × HasEnded A v (found_in members) (Ok replies) w
  HasGrouped A v members (Err e) w =
      ((0 < length (found_in members)) × HasEnded A v (found_in members) (Err e) w) ⊎ ((e ≡ error.Memory) × HasMade A v (found_in members) (aborts_of (found_in members)) w)
