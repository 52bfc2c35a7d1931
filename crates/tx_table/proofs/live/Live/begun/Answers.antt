use Rattle.tx_table.proofs.{Words.{◌∙◌, ap, sym, nat_eq, lookup}, Behind.{found_at, found_behind, none_behind}}
use Rattle.tx_table.proofs.live.Live.begun.Goals as goal

pub returns-then-tx-first : goal.returns-then-tx-first
returns-then-tx-first c =
    sym (none_behind c.args.tx 0 c.self.inside.past c.self.inside.begins.entries (c.in_ok-first.first.now, c.in_ok-first.field-0-1.now) (sym c.in_ok-first.ensures.entry) c.self.invariant.1.rise c.if-tx-first.true)
    ∙ ap (lookup (nat_eq c.args.tx)) c.self.view_is

pub returns-then-number-tx : goal.returns-then-number-tx
returns-then-number-tx c =
    sym (found_behind c.args.tx 0 c.self.inside.past c.self.inside.begins.entries (c.in_ok-first.first.now, c.in_ok-first.field-0-1.now) (sym c.in_ok-first.ensures.entry) c.self.invariant.1.rise c.if-tx-first.false
    ∙ found_at c.args.tx 0 _ c.self.inside.begins.entries (c.in-Some.number.now, c.in-Some.begun.now) (sym c.in-Some.ensures.entry) c.self.invariant.1.rise c.if-number-tx.true)
    ∙ ap (lookup (nat_eq c.args.tx)) c.self.view_is

pub returns : goal.returns
returns c =
    c.get.ensures.value
    ∙ sym (found_behind c.args.tx 0 c.self.inside.past c.self.inside.begins.entries (c.in_ok-first.first.now, c.in_ok-first.field-0-1.now) (sym c.in_ok-first.ensures.entry) c.self.invariant.1.rise c.if-tx-first.false)
    ∙ ap (lookup (nat_eq c.args.tx)) c.self.view_is
