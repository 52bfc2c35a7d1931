use Rattle.turn_lock.specs.Ticket.{boxed}
use Rattle.turn_lock.proofs.Words.{subst, sym}
use Rattle.turn_lock.proofs.Keeps.{ends_full, ends_value, ends_places}

pub unwrap-requires : Rattle.turn_lock.proofs.lock.TurnLock.close.Goals.unwrap-requires
unwrap-requires g c = ends_full (boxed g.V.Stands.stands) g.V.Stands.hands g.V.Stands.takes _ _ _ _ _ c.requires.free.0 c.requires.all c.close_with-closed.ensures.values.2 c.take-value.ensures.value

pub returns-clause-value : Rattle.turn_lock.proofs.lock.TurnLock.close.Goals.returns-clause-value
returns-clause-value g c =
    subst (λ v. g.V.Stands.stands v c.args.pass.me.0.seen) (sym c.into_inner.ensures)
    (ends_value (boxed g.V.Stands.stands) g.V.Stands.hands g.V.Stands.takes _ _ _ _ _ _ c.requires.free.0 c.requires.all c.close_with-closed.ensures.values.2 c.take-value.ensures.value c.unwrap.ensures)

pub returns-clause-all : Rattle.turn_lock.proofs.lock.TurnLock.close.Goals.returns-clause-all
returns-clause-all g c = ends_places (boxed g.V.Stands.stands) g.V.Stands.hands g.V.Stands.takes _ _ _ _ _ c.requires.free.0 c.requires.all c.close_with-closed.ensures.values.2 c.take-value.ensures.value
