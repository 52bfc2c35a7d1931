-- How a turn lends its value.
use Rattle.std.specs.Borrow.{Lends, MutBor, Fml}
use denote.RattleType.{RattleType}
use Rattle.turn_lock.specs.{declared.turn.Turn.Turn, contracts.turn.Turn.the_row}

-- the turn with another value
abbrev pub with_value : {V E : Type 0} → Turn V E → V → Turn V E
with_value t v = record t { value = record t.value { value = v } }

-- the turn ends with the last value after r
abbrev pub LendsValue : (R E : RattleType) → MutBor (Turn R.Denot E.Denot) → MutBor R.Denot → Fml
LendsValue R E t r = Lends (the_row R E) R t r (with_value t.now)
