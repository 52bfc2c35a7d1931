use Rattle.tx_table.proofs.{Words.{sym, arith, subst, ◌+◌, BeginFrom, RisesFrom}, Behind.{begin_behind, rises_behind}}
use Rattle.tx_table.proofs.live.pass_first.Goals as goal

pub returns-clause-order : goal.returns-clause-order
returns-clause-order c = record {
  some = λ low. absurd (omega (arith, low));
  rise = subst (RisesFrom 0) (sym c.take_front.ensures) (rises_behind 0 (c.args.past.now + 1) c.args.begins.now.entries c.requires.order.rise);
  begin = subst (BeginFrom 0) (sym c.take_front.ensures) (begin_behind 0 (c.args.past.now + 1) c.args.begins.now.entries c.requires.order.begin);
}
