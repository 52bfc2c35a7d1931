-- A label that is not held goes last.
use Rattle.tx_table.proofs.{Words.{arith, rules, ◌∙◌, ap, nat_eq, is_some, both_ways, insert_entry-new}, Keys.{held_is, none_from, post_shows, post_stands}}
use Rattle.tx_table.proofs.rack.Rack.post.Goals as goal

pub returns-then-contains_key-clause-free : goal.returns-then-contains_key-clause-free
returns-then-contains_key-clause-free g c none =
    let held = held_is c.args.label c.key-key.result c.self.inside.items.entries c.args.self.now c.contains_key.result c.key-key.ensures.key c.key-key.ensures.label c.self.invariant c.self.view_is c.contains_key.ensures in
    absurd (both_ways c.contains_key.result (held ∙ ap is_some none) c.if-contains_key.true)

pub invariant_of-self : goal.invariant_of-self
invariant_of-self g c =
    post_stands c.args.label c.args.item c.key-key.result c.self.inside.items.entries c.insert.new.self.entries c.key-key.ensures.key c.key-key.ensures.label c.self.invariant
    (c.in-Ok.ensures.entries ∙ insert_entry-new nat_eq c.self.inside.items c.key-key.result (c.args.label, c.args.item) (none_from _ c.contains_key.result c.contains_key.ensures c.if-contains_key.false))

pub returns-in-Ok-clause-ok : goal.returns-in-Ok-clause-ok
returns-in-Ok-clause-ok g c =
    post_shows c.args.label c.args.item c.key-key.result c.self.inside.items.entries c.insert.new.self.entries c.args.self.now c.self.view_is
    (c.in-Ok.ensures.entries ∙ insert_entry-new nat_eq c.self.inside.items c.key-key.result (c.args.label, c.args.item) (none_from _ c.contains_key.result c.contains_key.ensures c.if-contains_key.false))

pub returns-in-Ok-clause-held : goal.returns-in-Ok-clause-held
returns-in-Ok-clause-held g c some = search (rules, arith, held_is)

pub returns-clause-taken : goal.returns-clause-taken
returns-clause-taken g c some = search (rules, arith, held_is)
