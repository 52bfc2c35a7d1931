use Rattle.turn_lock.specs.Ticket.{boxed}
use Rattle.turn_lock.proofs.{Words.{rules, arith, ◌+◌, ◌-◌, ◌%◌, ◌^◌}, Keeps.{stores_word, changes_word}}

pub store-requires : Rattle.turn_lock.proofs.lock.TurnLock.looks.Goals.store-requires
store-requires g c = (search rules, search rules, stores_word (boxed g.V.Stands.stands) g.V.Stands.hands g.V.Stands.takes _ _ _ _ _ (omega arith))

pub store-requires-2 : Rattle.turn_lock.proofs.lock.TurnLock.looks.Goals.store-requires-2
store-requires-2 g c = (search rules, search rules, stores_word (boxed g.V.Stands.stands) g.V.Stands.hands g.V.Stands.takes _ _ _ _ _ (omega arith))

pub fetch_sub-requires : Rattle.turn_lock.proofs.lock.TurnLock.looks.Goals.fetch_sub-requires
fetch_sub-requires g c = (search rules, search rules, changes_word (boxed g.V.Stands.stands) g.V.Stands.hands g.V.Stands.takes _ _ _ (λ n. (n + (2 ^ 64 - 1)) % 2 ^ 64) _ (omega arith))
