-- What contracts see of `Live`: the numbers of the live transactions in the order of their begins, each with what it began with.
use Rattle.std.specs.{Prelude.{ℕ, ◌<◌, ◌≤◌, nat_eq, List, [], ◌∷◌, length, Option, option_map}, List.AllByRecursion, Map.lookup}
use Rattle.iso_model.specs.declared.access.Mode.{Mode}
use Rattle.iso_model.specs.World as model
use Rattle.tx_table.specs.{declared.live.Begun.Begun, Patches.RisesFrom}

-- the begin of a transaction, if it is live
abbrev pub begin_of : ℕ → List (ℕ × Begun) → Option ℕ
begin_of tx live = option_map (λ begun. begun.at) (lookup (nat_eq tx) live)

-- the mode of a transaction, if it is live
abbrev pub mode_of : ℕ → List (ℕ × Begun) → Option Mode
mode_of tx live = option_map (λ begun. begun.mode) (lookup (nat_eq tx) live)

-- the transaction of the model that has begun so and done nothing
abbrev pub at_work : ℕ × Begun → model.Live
at_work entry = record { number = entry.0; begin = entry.1.at; mode = entry.1.mode; accesses = []; place = model.unattached }

-- they are before a transaction of that number that begins there: their numbers are below its number, and none began later
abbrev pub AreBefore : (tx at : ℕ) → List (ℕ × Begun) → Type 0
AreBefore tx at live = AllByRecursion (λ e. (e.0 < tx) × (e.1.at ≤ at)) live

-- no begin is below `from`, or below the one before it
abbrev pub BeginFrom : (from : ℕ) → List (ℕ × Begun) → Type 0
BeginFrom from [] = Unit {0}
BeginFrom from (e ∷ live) = (from ≤ e.1.at) × BeginFrom e.1.at live

-- Entries of which the first ones have left: none, or fewer than all. The numbers of all rise, and their begins do not fall.
pub record AreInOrder (past : ℕ) (entries : List (ℕ × Begun)) : Type 0 where
  pub some : 0 < past → past < length entries
  pub rise : RisesFrom 0 entries
  pub begin : BeginFrom 0 entries
