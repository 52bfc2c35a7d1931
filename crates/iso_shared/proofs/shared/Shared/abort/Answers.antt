use Rattle.iso_shared.proofs.{Words.{rules, arith, view, inl, [], refl, ◌∙◌, prefix_trans, Abort}, Cores.did_abort, Giving.{asked, lends, live_lent, stands_call}, Mades.{both_by, held_same}}
use Rattle.std.proofs.lemmas.Grind.{common_steps}

pub abort-requires : Rattle.iso_shared.proofs.shared.Shared.abort.Goals.abort-requires
abort-requires g c =
    let l = lends c.take-turn.ensures c.value-guarded.ensures.value in
    asked l _ [] (live_lent l _ (held_same c.args.tx.number _ _ (c.take-turn.ensures.same.1 ∙ c.tell.ensures.same.1) c.requires.tx.1.held))

pub give-requires : Rattle.iso_shared.proofs.shared.Shared.abort.Goals.give-requires
give-requires g c = record {
  lock = search rules;
  turn = search rules;
  value = (
      let l = lends c.take-turn.ensures c.value-guarded.ensures.value in
      let n = c.args.tx.number in
      let held = held_same n _ _ (c.take-turn.ensures.same.1 ∙ c.tell.ensures.same.1) c.requires.tx.1.held in
      stands_call l c.abort.new.self (Abort n) (Abort n) (tt, (held, tt)) refl (inl c.abort.ensures.disk) (did_abort g.D.Disk.state _ _ c.abort.new.self n l.at.core (live_lent l n held) c.abort.ensures.left c.abort.ensures.disk) (λ T. refl));
  held = first_of (search rules, grind (arith, common_steps));
}

pub returns-clause-made : Rattle.iso_shared.proofs.shared.Shared.abort.Goals.returns-clause-made
returns-clause-made g c =
    both_by g.O.Origin.start (view c.args.port.now.pass) (view c.tell.new.from) (view c.args.tx.pass) (view c.take-turn.new.pass) (view c.give.new.pass) (view c.spend.new.port.pass) _
    c.tell.ensures.from.1
    (prefix_trans _ _ _ c.tell.ensures.told c.take-turn.ensures.seen)
    (prefix_trans _ _ _ c.tell.ensures.begins c.take-turn.ensures.seen)
    (c.take-turn.ensures.same.0 ∙ c.tell.ensures.same.0)
    c.give.ensures.seen c.give.ensures.mine c.give.ensures.legal c.spend.ensures.seen c.spend.ensures.places
