use Rattle.turn_lock.specs.Ticket.{boxed}
use Rattle.turn_lock.proofs.{Words.rules, Keeps.draws_from}

pub compare_exchange-found-requires : Rattle.turn_lock.proofs.lock.TurnLock.draw.Goals.compare_exchange-found-requires
compare_exchange-found-requires g c = (search rules, search rules, draws_from (boxed g.V.Stands.stands) g.V.Stands.hands g.V.Stands.takes _ _ _ _ _ c.loop.invariant.1 c.requires.free.0.0 c.requires.free.1 c.if-next-lt-LAST.true)
