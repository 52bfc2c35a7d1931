-- The block has a slot, or no place has it.
use Rattle.tx_table.proofs.{Words.{◌∙◌, ap, sym, has_patch, Held}, Held.{has_slot, held_none}}

pub returns-in-Some : Rattle.tx_table.proofs.patches.Patches.holds.Goals.returns-in-Some
returns-in-Some c =
    let h = has_slot c.args.block c.in-Some.field-0 c.self.inside.slots.items c.self.inside.order.items c.as_slice.result.now c.as_slice.ensures.value c.self.invariant.1 c.self.invariant.2 c.self.invariant.3 c.in-Some.ensures.found in
    sym h.held ∙ ap (λ (h : Held). has_patch c.args.block h.entries) c.self.view_is

pub returns-in-None : Rattle.tx_table.proofs.patches.Patches.holds.Goals.returns-in-None
returns-in-None c =
    sym (held_none 0 c.args.block c.self.inside.slots.items c.self.inside.order.items (rw c.as_slice.ensures.value at c.in-None.ensures.none)).0 ∙ ap (λ (h : Held). has_patch c.args.block h.entries) c.self.view_is
