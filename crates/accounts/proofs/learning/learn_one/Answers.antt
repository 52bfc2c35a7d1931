use Rattle.accounts.proofs.{Words.{arith, subst, sym, IsPortAt, opening_of}, Knowing.{joined_kept, learned_in}}
use Rattle.accounts.proofs.learning.learn_one.Goals as goal

pub join_port-requires : goal.join_port-requires
join_port-requires g c = record { port = subst (λ (d : _). IsPortAt d c.args.ended.port) (sym c.requires.session.1) c.requires.ended.1.port }

pub returns-clause-session : goal.returns-clause-session
returns-clause-session g c =
    let did = c.join_port.ensures.did in
    let more = did.more in
    let one = c.requires.ended.1.unit in
    record {
      session = joined_kept (opening_of c.args.accounts.now) g.O.Origin.start c.args.session.now c.join_port.new.self c.args.ended.port c.requires.ended.1.bare did c.requires.session.0;
      of = did.of;
      units = omega (arith, more, one);
    }

pub returns-clause-learned : goal.returns-clause-learned
returns-clause-learned g c = learned_in c.args.shared.now g.O.Origin.start c.join_port.new.self.seen c.args.ended c.join_port.ensures.did.told
