-- What clauses say of a pass.
use Rattle.std.specs.Prelude.{◌≡◌, Option}
use Rattle.std.specs.Global.{Box}
use Rattle.atomic_table.specs.declared.shared.Seat.{Seat}
use Rattle.turn_lock.specs.{declared.turn.Turn.Turn, declared.view.View.View, Lock.{turn_lock_id, turn_number}, Steps.{IsAtRest, IsAtTurn}}

-- a pass of a lock over a value of type X, whose entries are of type E
abbrev pub PassOf : (X E : Type 0) → Type 0
PassOf X E = Seat (Option (Box X)) (View E)

module _ {X E : Type 0} where
  -- what the pass knows
  abbrev pub view : PassOf X E → View E
  view p = p.me.0

  -- one pass, before and after a call
  abbrev pub IsSamePass : PassOf X E → PassOf X E → Type 0
  IsSamePass p q = (q.table_id ≡ p.table_id) × (q.id ≡ p.id)

  -- the pass waits for nothing and has no turn, as between two calls
  abbrev pub HasNoTurn : PassOf X E → Type 0
  HasNoTurn p = IsAtRest p.me

  -- the pass has this turn, which is of its lock, and has seen the whole list
  abbrev pub HasTurn : PassOf X E → Turn X E → Type 0
  HasTurn p turn = (turn_lock_id turn ≡ p.table_id) × IsAtTurn p.me (turn_number turn)

  -- the pass keeps its turn where it has one, and has still seen the whole list, and else it still has none
  abbrev pub KeepsTurn : PassOf X E → PassOf X E → Type 0
  KeepsTurn p q = (HasNoTurn p → HasNoTurn q) × ((turn : Turn X E) → HasTurn p turn → HasTurn q turn × ((view q).seen ≡ (view p).seen))

module _ {E : Type 0} where
  -- the places, the numbers and the units are the same
  abbrev pub IsAlike : View E → View E → Type 0
  IsAlike v w = (w.mine ≡ v.mine) × (w.holds ≡ v.holds) × (w.units ≡ v.units)
