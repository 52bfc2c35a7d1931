-- What clauses say of a lock and of a turn.
use Rattle.std.specs.Prelude.{ℕ}
use Rattle.atomic_table.specs.Seated.{TableId}
use Rattle.turn_lock.specs.{declared.lock.TurnLock.TurnLock, declared.turn.Turn.Turn}

module _ {V E : Type 0} where
  -- which lock it is
  abbrev pub lock_id : TurnLock V E → TableId
  lock_id l = l.table.shared.table_id

  -- the lock that it is a turn of
  abbrev pub turn_lock_id : Turn V E → TableId
  turn_lock_id t = t.pass.value.table_id

  abbrev pub turn_value : Turn V E → V
  turn_value t = t.value.value

  abbrev pub turn_number : Turn V E → ℕ
  turn_number t = t.number
