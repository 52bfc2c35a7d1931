use Rattle.turn_lock.specs.Ticket.{boxed}
use Rattle.turn_lock.proofs.{Words.rules, Keeps.splits}

pub split_seat-requires : Rattle.turn_lock.proofs.lock.TurnLock.cut.Goals.split_seat-requires
split_seat-requires g c = (
  search rules,
  search rules,
  rw (c.requires.portion.0, c.requires.portion.1)
      (splits (boxed g.V.Stands.stands) g.V.Stands.hands g.V.Stands.takes _ _ c.args.number c.args.units c.requires.units c.requires.number.0 c.requires.number.1),
)
