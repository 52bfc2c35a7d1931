-- The order rises, and its slots are those of patches.
use Rattle.tx_table.proofs.{Words.{arith, length}, Slots.{rises_entries, slots_inside}}

pub of-requires : Rattle.tx_table.proofs.patches.Patches.entries.Goals.of-requires
of-requires c =
    let order = c.self.inside.order.items in
    let slots = c.self.inside.slots.items in
    rw (c.as_slice.ensures.value, c.as_slice-2.ensures.value) (slots_inside (length order) (length slots) order c.self.invariant.2 c.self.invariant.3)

pub returns-clause-rising : Rattle.tx_table.proofs.patches.Patches.entries.Goals.returns-clause-rising
returns-clause-rising c = grind (arith, rises_entries)
