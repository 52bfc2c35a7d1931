use Rattle.turn_lock.specs.Ticket.{boxed}
use Rattle.turn_lock.proofs.{Words.{rules, refl, ◌∙◌}, Keeps.{gives_back, rests_after, handed_after}}

pub store-requires : Rattle.turn_lock.proofs.lock.TurnLock.give.Goals.store-requires
store-requires g c = (search rules, search rules, gives_back (boxed g.V.Stands.stands) g.V.Stands.hands g.V.Stands.takes _ _ _ _ _ _ _ _ c.exchange.ensures.3 refl c.requires.turn.1 c.requires.value c.requires.hands c.requires.takes.0)

pub returns-clause-free : Rattle.turn_lock.proofs.lock.TurnLock.give.Goals.returns-clause-free
returns-clause-free g c = rests_after (boxed g.V.Stands.stands) g.V.Stands.hands g.V.Stands.takes _ _ _ _ _ _ c.exchange.ensures.3 (c.leave.ensures.same ∙ c.store.ensures.2.0) c.requires.turn.1

pub returns-clause-handed : Rattle.turn_lock.proofs.lock.TurnLock.give.Goals.returns-clause-handed
returns-clause-handed g c = (handed_after (boxed g.V.Stands.stands) g.V.Stands.hands g.V.Stands.takes c.exchange.new.seat.me _ _ (c.leave.ensures.same ∙ c.store.ensures.2.0)).0

pub returns-clause-held : Rattle.turn_lock.proofs.lock.TurnLock.give.Goals.returns-clause-held
returns-clause-held g c = (handed_after (boxed g.V.Stands.stands) g.V.Stands.hands g.V.Stands.takes c.exchange.new.seat.me _ _ (c.leave.ensures.same ∙ c.store.ensures.2.0)).1
