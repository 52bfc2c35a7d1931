-- The patch in the slot of the block is laid, or there is nothing to lay.
use Rattle.tx_table.proofs.{Words.{◌≡◌, ◌∙◌, ℕ, [], List, Option, None, ap, sym, arith, length, get_or, replicate, get_or_default, laid, patch_at, Held, entries_of}, Blocks.laid_none, Held.{HasSlot, has_slot, held_none}, Slots.all_there, patches.Patches.lay.Goals.In-Some}
use Rattle.tx_table.proofs.patches.Patches.lay.Goals as goal

pub returns-in_default : goal.returns-in_default
returns-in_default c =
    let none : patch_at c.self.inside.size c.args.block (entries_of [] c.self.inside.slots.items c.self.inside.order.items) ≡ replicate c.self.inside.size None =
    (held_none c.self.inside.size c.args.block c.self.inside.slots.items c.self.inside.order.items (rw c.as_slice.ensures.value at c.in_default.ensures.none)).1 in
    let size : length c.args.into.now ≡ c.self.inside.size = c.requires ∙ sym (ap (λ (h : Held). h.size) c.self.view_is) in
    laid_none c.self.inside.size c.args.into.now size
    ∙ ap (λ (l : List (Option ℕ)). laid l c.args.into.now) (sym none ∙ ap (λ (h : Held). patch_at h.size c.args.block h.entries) c.self.view_is)

-- the slot
here : (c : In-Some) → HasSlot c.args.block c.in-Some.slot c.self.inside.slots.items c.self.inside.order.items
here c =
    has_slot c.args.block c.in-Some.slot c.self.inside.slots.items c.self.inside.order.items c.as_slice.result.now c.as_slice.ensures.value c.self.invariant.1 c.self.invariant.2 c.self.invariant.3 c.in-Some.ensures.found

pub index-requires : goal.index-requires
index-requires c = omega (arith, (here (goal.at.index-requires c).In-Some).inside, c.self.inside.slots.ok.0)

pub over-requires : goal.over-requires
over-requires c =
    let size : length c.args.into.now ≡ c.self.inside.size = c.requires ∙ sym (ap (λ (h : Held). h.size) c.self.view_is) in
    let long : length (get_or c.self.inside.slots.items c.in-Some.slot c.index.result.now) ≡ c.self.inside.size =
    all_there (λ (l : List (Option ℕ)). length l ≡ c.self.inside.size) c.in-Some.slot c.self.inside.slots.items c.index.result.now c.self.invariant.5 (here (goal.at.over-requires c).In-Some).inside in
    size ∙ sym long ∙ ap (length {A = Option ℕ}) (sym c.index.ensures)

pub returns : goal.returns
returns c =
    let h = here (goal.at.returns c).In-Some in
    let seen : c.index.result.now ≡ get_or c.self.inside.slots.items c.in-Some.slot [] = c.index.ensures ∙ get_or_default c.self.inside.slots.items c.in-Some.slot c.index.result.now [] h.inside in
    c.over.ensures
    ∙ ap (λ (l : List (Option ℕ)). laid l c.args.into.now) (seen ∙ sym (h.patch c.self.inside.size) ∙ ap (λ (h : Held). patch_at h.size c.args.block h.entries) c.self.view_is)
