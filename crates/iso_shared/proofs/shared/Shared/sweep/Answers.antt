use Rattle.iso_shared.proofs.{Words.{rules, arith, view, inl, [], sym, ◌∙◌}, Cores.did_abort, Giving.{asked, lends}, Mades.all_by, Racked.{first_is, stands_sweep, stands_unswept, swept_live}}
use Rattle.std.proofs.lemmas.Grind.{common_steps}
use Rattle.iso_shared.proofs.shared.Shared.sweep.Goals as goal

pub abort-requires : goal.abort-requires
abort-requires g c =
    let l = lends c.take-turn.ensures c.value-guarded.ensures.value in
    asked l _ [] (swept_live l _ (first_is c.in-Some.item _ (sym c.in-Some.is ∙ c.pop.ensures.item)))

pub give-requires : goal.give-requires
give-requires g c = record {
  lock = search rules;
  turn = search rules;
  value = (
      let l = lends c.take-turn.ensures c.value-guarded.ensures.value in
      let n = c.in-Some.item.number in
      let first = first_is c.in-Some.item _ (sym c.in-Some.is ∙ c.pop.ensures.item) in
      stands_sweep l c.abort.new.self _ n first c.pop.ensures.rest (inl c.abort.ensures.disk) (did_abort g.D.Disk.state _ _ c.abort.new.self n l.at.core (swept_live l n first) c.abort.ensures.left c.abort.ensures.disk));
  held = first_of (search rules, grind (arith, common_steps));
}

pub give-requires-in-None : goal.give-requires-in-None
give-requires-in-None g c = record {
  lock = search rules;
  turn = search rules;
  value = (
      stands_unswept (lends c.take-turn.ensures c.value-guarded.ensures.value) _ (sym c.in-None.is ∙ c.pop.ensures.item) c.pop.ensures.rest);
  held = first_of (search rules, grind (arith, common_steps));
}

pub returns-in-Some-clause-all : goal.returns-in-Some-clause-all
returns-in-Some-clause-all g c u = all_by (view c.take-turn.new.pass) (view c.give.new.pass) _ (c.take-turn.ensures.all (sym c.give.ensures.units ∙ u)) c.give.ensures.seen c.give.ensures.mine

pub returns-in-None-clause-all : goal.returns-in-None-clause-all
returns-in-None-clause-all g c u = all_by (view c.take-turn.new.pass) (view c.give-in-None.new.pass) _ (c.take-turn.ensures.all (sym c.give-in-None.ensures.units ∙ u)) c.give-in-None.ensures.seen c.give-in-None.ensures.mine
