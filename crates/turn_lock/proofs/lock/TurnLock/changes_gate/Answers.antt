use Rattle.turn_lock.specs.Ticket.{boxed}
use Rattle.turn_lock.proofs.{Words.{rules, arith, either, ◌==◌}, Keeps.changes_word}

pub compare_exchange-requires : Rattle.turn_lock.proofs.lock.TurnLock.changes_gate.Goals.compare_exchange-requires
compare_exchange-requires g c = (search rules, search rules, changes_word (boxed g.V.Stands.stands) g.V.Stands.hands g.V.Stands.takes _ _ _ (λ n. either (n == c.args.from) c.args.to n) _ (omega arith))
