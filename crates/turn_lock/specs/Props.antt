-- The recursive words of a pass have one proof at most, so a ghost field may cite them.
use Rattle.std.{specs.Prelude.{◌≡◌, ℕ, List, [], ◌∷◌}, proofs.Props.props, specs.Coded.{×_prop, Unit-prop, le_prop}}
use base.Stored.{Coded-set}
use Rattle.atomic_table.specs.Seated.{TableId, table_id_coded}
use Rattle.turn_lock.specs.Lists.{RisesFrom, AllBelow}

pub RisesFrom-prop : (n : ℕ) (xs : List ℕ) → IsProp (RisesFrom n xs)
RisesFrom-prop n [] = Unit-prop
RisesFrom-prop n (x ∷ xs) = ×_prop le_prop (RisesFrom-prop _ xs)

pub AllBelow-prop : (n : ℕ) (xs : List ℕ) → IsProp (AllBelow n xs)
AllBelow-prop n [] = Unit-prop
AllBelow-prop n (x ∷ xs) = ×_prop le_prop (AllBelow-prop n xs)

pub TableId-set : (a b : TableId) → IsProp (a ≡ b)
TableId-set = Coded-set table_id_coded

-- for `by { Prim.hlevel pass_props }` after a ghost field
pub ruleset pass_props = (props, TableId-set, RisesFrom-prop, AllBelow-prop)
