use Rattle.turn_lock.specs.Ticket.{boxed}
use Rattle.turn_lock.proofs.{Words.{arith, rules, ◌∙◌}, Keeps.{looks_from, comes_to_turn, has_slot, has_turn}}

pub load-served-requires : Rattle.turn_lock.proofs.lock.TurnLock.take.Goals.load-served-requires
load-served-requires g c = (
  search rules,
  search rules,
  looks_from (boxed g.V.Stands.stands) g.V.Stands.hands g.V.Stands.takes _ _ _ _ c.enter.new.pass.me.0 (c.loop.invariant.1 ∙ c.draw-number.ensures.ticket),
)

pub exchange-requires : Rattle.turn_lock.proofs.lock.TurnLock.take.Goals.exchange-requires
exchange-requires g c = grind (arith, has_slot, comes_to_turn)

pub returns-then-served-number-clause-turn : Rattle.turn_lock.proofs.lock.TurnLock.take.Goals.returns-then-served-number-clause-turn
returns-then-served-number-clause-turn g c = grind (arith, has_turn, comes_to_turn)
