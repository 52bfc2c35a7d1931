use Rattle.turn_lock.specs.Ticket.{boxed}
use Rattle.turn_lock.proofs.{Words.{rules, arith, ◌+◌, ◌%◌, ◌^◌}, Keeps.changes_word}

pub fetch_add-requires : Rattle.turn_lock.proofs.lock.TurnLock.wake.Goals.fetch_add-requires
fetch_add-requires g c = (search rules, search rules, changes_word (boxed g.V.Stands.stands) g.V.Stands.hands g.V.Stands.takes _ _ _ (λ n. (n + 1) % 2 ^ 64) _ (omega arith))

pub fetch_add-requires-2 : Rattle.turn_lock.proofs.lock.TurnLock.wake.Goals.fetch_add-requires-2
fetch_add-requires-2 g c = (search rules, search rules, changes_word (boxed g.V.Stands.stands) g.V.Stands.hands g.V.Stands.takes _ _ _ (λ n. (n + 1) % 2 ^ 64) _ (omega arith))
