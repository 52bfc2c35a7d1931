-- What whoever serves desks knows of the transactions that it took.
use Rattle.std.specs.{Prelude.{◌≡◌, ℕ, List, length}, List.AllByRecursion}
use Rattle.iso_model.specs.declared.core_error.CoreError.TheVariants as error
use Rattle.iso_shared.specs.{declared.entry.Entry.Entry, declared.shared.Shared.Shared, declared.tx.Tx.Tx, Groups.ArePaired, States.Start}
use Rattle.group_commit.specs.Each.{IsEndedIn}
use Rattle.committer.specs.{declared.outcomes.Outcomes.Outcomes, Outcomes.{IsHandedBack, IsRefusedIn, MayEnd}}
use Rattle.committer.specs.declared.outcomes.Outcomes.TheVariants as outcomes

-- how many units the port has that are those of the transactions
abbrev pub due : {D O : Type 0} → Outcomes D O → List (Tx D O) → ℕ
due (outcomes.Ended told) txs = 0
due (outcomes.Refused e back) txs = 0
due outcomes.Lost txs = length txs
due (outcomes.Live live) txs = 0

module _ {D O : Type 0} (shared : Shared D O) (A : Start) where
  -- this became of these transactions, where the port has seen this
  abbrev pub AreTold : (seen : List Entry) → List (Tx D O) → Outcomes D O → Type 0
  AreTold seen txs (outcomes.Ended told) = ArePaired (IsEndedIn shared A) txs told.items
  AreTold seen txs (outcomes.Refused e back) = ArePaired (λ t u. IsHandedBack shared A t e u) txs back.items
  AreTold seen txs outcomes.Lost = AllByRecursion (λ t. IsRefusedIn shared A t error.Disk seen) txs
  AreTold seen txs (outcomes.Live live) = ArePaired (λ t u. (u ≡ t) × MayEnd shared A t) txs live.items
