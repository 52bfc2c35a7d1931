use Rattle.turn_lock.specs.Ticket.{boxed}
use Rattle.turn_lock.proofs.{Words.{rules, arith, ap}, Rising.times_merge, Keeps.{joins, settles_both, whole_after, turn_after, rest_after}}

pub join_seat-requires : Rattle.turn_lock.proofs.lock.TurnLock.join.Goals.join_seat-requires
join_seat-requires g c = (search rules, search rules, search rules, search rules, joins (boxed g.V.Stands.stands) g.V.Stands.hands g.V.Stands.takes _ _ _ _ c.requires.free.0 c.requires.units)

pub load-requires : Rattle.turn_lock.proofs.lock.TurnLock.join.Goals.load-requires
load-requires g c = (search rules, search rules, settles_both (boxed g.V.Stands.stands) g.V.Stands.hands g.V.Stands.takes _ _ _ c.args.pass.now.me.0 c.args.other.me.0 (ap (λ m. m.0) c.join_seat.ensures.2))

pub returns-clause-places : Rattle.turn_lock.proofs.lock.TurnLock.join.Goals.returns-clause-places
returns-clause-places g c p = grind (arith, times_merge)

pub returns-clause-stays : Rattle.turn_lock.proofs.lock.TurnLock.join.Goals.returns-clause-stays
returns-clause-stays g c = grind (arith, rest_after, turn_after, whole_after)
