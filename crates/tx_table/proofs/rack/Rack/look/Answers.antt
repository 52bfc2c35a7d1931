-- What is held under a label is under its key.
use Rattle.std.proofs.Common.{arith, rules}
use Rattle.tx_table.proofs.Keys.{no_item, rest_is, rest_stands, the_item}
use Rattle.tx_table.proofs.rack.Rack.look.Goals as goal

pub returns-in_err-item-clause-item : goal.returns-in_err-item-clause-item
returns-in_err-item-clause-item g c = search (rules, arith, no_item)

pub returns-in_err-item-clause-rest : goal.returns-in_err-item-clause-rest
returns-in_err-item-clause-rest g c = grind (arith, rest_is)

pub invariant_of-self-2 : goal.invariant_of-self-2
invariant_of-self-2 g c = rest_stands c.key.result c.self.inside.items.entries c.shift_remove.new.self.entries c.self.invariant c.shift_remove.ensures.entries

pub returns-clause-item : goal.returns-clause-item
returns-clause-item g c =
    the_item c.args.label.now c.key.result c.self.inside.items.entries c.args.self.now c.shift_remove.result c.in_ok-item.field-0-0 c.in_ok-item.item c.key.ensures.key c.key.ensures.label c.self.invariant c.self.view_is
    c.shift_remove.ensures.value c.in_ok-item.was

pub returns-clause-rest : goal.returns-clause-rest
returns-clause-rest g c = grind (arith, rest_is)
