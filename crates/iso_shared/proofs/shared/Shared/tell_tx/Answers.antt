use Rattle.iso_shared.proofs.{Words.rules, Mades.{ahead_on, held_same, own_on}}

pub returns-clause-tx : Rattle.iso_shared.proofs.shared.Shared.tell_tx.Goals.returns-clause-tx
returns-clause-tx g c = (
  search rules,
  record {
    held = held_same _ _ _ c.tell.ensures.same.1 c.requires.tx.1.held;
    on = c.requires.tx.1.on;
    own = own_on g.O.Origin.start _ _ _ _ c.tell.ensures.begins c.requires.tx.1.own;
    ahead = ahead_on g.O.Origin.start _ _ _ _ c.tell.ensures.begins c.requires.tx.1.ahead;
  },
)
