use Rattle.turn_lock.specs.Ticket.{boxed}
use Rattle.turn_lock.proofs.{Words.{rules, arith}, Keeps.stores_word}

pub store-requires : Rattle.turn_lock.proofs.lock.TurnLock.passes.Goals.store-requires
store-requires g c = (search rules, search rules, stores_word (boxed g.V.Stands.stands) g.V.Stands.hands g.V.Stands.takes _ _ _ _ _ (omega arith))
