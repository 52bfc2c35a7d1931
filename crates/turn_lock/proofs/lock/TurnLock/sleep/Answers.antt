use Rattle.turn_lock.specs.Ticket.{boxed}
use Rattle.turn_lock.proofs.{Words.{rules, arith, either, ◌==◌, ◌-◌}, Keeps.changes_word}

pub compare_exchange-found-requires : Rattle.turn_lock.proofs.lock.TurnLock.sleep.Goals.compare_exchange-found-requires
compare_exchange-found-requires g c = (search rules, search rules, changes_word (boxed g.V.Stands.stands) g.V.Stands.hands g.V.Stands.takes _ _ _ (λ n. either (n == c.peek-wakes.result) (c.peek-wakes.result - 1) n) _ (omega arith))
