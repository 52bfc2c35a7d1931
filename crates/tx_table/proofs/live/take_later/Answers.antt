use Rattle.tx_table.proofs.{Words.{◌∙◌, ap, sym, arith, drop, length-drop, subst, BeginFrom, RisesFrom}, Begins.{begin_left, rises_left}, Behind.{at_most_one, later_out, only_out}}
use Rattle.tx_table.proofs.live.take_later.Goals.{else-past-gt0-via-then-past-gt0+else-len-past-le1, else-past-gt0-via-else-past-gt0}
use Rattle.tx_table.proofs.live.take_later.Goals as goal

pub returns-then-len-past-le1-clause-live : goal.returns-then-len-past-le1-clause-live
returns-then-len-past-le1-clause-live c =
    c.clear.ensures.empty
    ∙ sym (only_out c.args.tx (drop c.args.past.now c.args.begins.now.entries) (omega (arith, length-drop c.args.past.now c.args.begins.now.entries, c.len.ensures.len, c.if-len-past-le1.true)) c.requires.live)

pub returns-clause-live : goal.returns-clause-live
returns-clause-live c = ap (drop c.args.past.now) c.shift_remove.ensures.entries ∙ later_out c.args.tx 0 c.args.past.now c.args.begins.now.entries c.requires.order.rise c.requires.live

pub returns-clause-order : goal.returns-clause-order
returns-clause-order c = record {
  some = λ low. elim c.else-past-gt0.branch [
    | else-past-gt0-via-then-past-gt0+else-len-past-le1 w ↦ omega (arith, at_most_one _ _ _ c.shift_remove.ensures.len, w.len.ensures.len, w.if-len-past-le1.false)
    | else-past-gt0-via-else-past-gt0 w ↦ absurd (omega (arith, low, w.if-past-gt0.false))
  ];
  rise = subst (RisesFrom 0) (sym c.shift_remove.ensures.entries) (rises_left 0 c.args.tx c.args.begins.now.entries c.requires.order.rise);
  begin = subst (BeginFrom 0) (sym c.shift_remove.ensures.entries) (begin_left 0 c.args.tx c.args.begins.now.entries c.requires.order.begin);
}
