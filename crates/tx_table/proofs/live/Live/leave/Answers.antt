-- The first one or a later one is gone, and the others are as they were.
use Rattle.tx_table.proofs.{Words.{◌∙◌, ◌≤◌, ap, sym, arith, drop, length, nat_eq, remove_entry}, Behind.{fewer, first_out}}
use Rattle.iso_model.specs.declared.limits.TheConstants.{MAX_LIVE}
use Rattle.tx_table.proofs.live.Live.leave.Goals.{else-more-via-then-more+else-first-tx, else-more-via-else-more}
use Rattle.tx_table.proofs.live.Live.leave.Goals as goal

pub returns-then-first-tx : goal.returns-then-first-tx
returns-then-first-tx c =
    c.pass_first.ensures.live
    ∙ sym (first_out c.args.tx c.self.inside.past c.self.inside.begins.entries (c.in-Some.first.now, c.in-Some.field-0-1.now) (sym c.in-Some.ensures.entry) c.if-first-tx.true)
    ∙ ap (remove_entry (nat_eq c.args.tx)) c.self.view_is

pub invariant_of-self-2 : goal.invariant_of-self-2
invariant_of-self-2 c =
    let few : length (drop c.else-more.self-inside.past c.else-more.self-inside.begins.entries) ≤ MAX_LIVE = elim c.else-more.branch [
      | else-more-via-then-more+else-first-tx w ↦ rw w.self-inside-is c.self.invariant.0
      | else-more-via-else-more w ↦ rw w.self-inside-is c.self.invariant.0
    ] in (
      omega (arith, few, ap length c.take_later.ensures.live, fewer c.args.tx (drop c.else-more.self-inside.past c.else-more.self-inside.begins.entries)),
      c.take_later.ensures.order,
    )
