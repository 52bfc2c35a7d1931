-- The patch in the slot of the block is that of the block.
use Rattle.tx_table.proofs.{Words.{◌≡◌, ◌∙◌, ℕ, ◌<◌, [], List, Option, ap, sym, arith, length, get_or, set, inl, inr, length-set, get_or-set_same, get_or-set_other, refl, both_ways, cases_eq, get_or_default, written, has_patch, patch_at, Held, entries_of}, Blocks.{has_set, patch_set, set_value}, Held.{HasSlot, has_slot, held_none}, Slots.{all_from, all_there, entry_is, length-entries, rises_entries, set_entries}, patches.Patches.set.Goals.{After-index_mut, After-set_spans, In-Some}}
use Rattle.tx_table.proofs.patches.Patches.set.Goals as goal

pub returns-in_default-clause-values : goal.returns-in_default-clause-values
returns-in_default-clause-values c b =
    let none = (held_none 0 c.args.block c.self.inside.slots.items c.self.inside.order.items (rw c.as_slice.ensures.value at c.in_default.ensures.none)).0 in
    absurd (both_ways (has_patch c.args.block (entries_of [] c.self.inside.slots.items c.self.inside.order.items)) none (ap (λ (h : Held). has_patch c.args.block h.entries) c.self.view_is ∙ c.requires.held))

-- the slot
here : (c : In-Some) → HasSlot c.args.block c.in-Some.slot c.self.inside.slots.items c.self.inside.order.items
here c =
    has_slot c.args.block c.in-Some.slot c.self.inside.slots.items c.self.inside.order.items c.as_slice.result.now c.as_slice.ensures.value c.self.invariant.1 c.self.invariant.2 c.self.invariant.3 c.in-Some.ensures.found

pub index_mut-requires : goal.index_mut-requires
index_mut-requires c = omega (arith, (here (goal.at.index_mut-requires c).In-Some).inside, c.self.inside.slots.ok.0)

-- its patch is as long as all are
long : (c : After-index_mut) → c.in-Some.slot < length c.self.inside.slots.items → length c.index_mut.result.now ≡ c.self.inside.size
long c inside = grind (arith, all_there)

pub set_spans-requires-clause-bytes : goal.set_spans-requires-clause-bytes
set_spans-requires-clause-bytes c =
    let s = goal.at.set_spans-requires-clause-bytes c in
    c.requires.bytes ∙ sym (ap (λ (h : Held). h.size) c.self.view_is) ∙ sym (long s.After-index_mut (here s.In-Some).inside)

pub set_spans-requires-clause-spans : goal.set_spans-requires-clause-spans
set_spans-requires-clause-spans c k x lt = grind (arith, set_spans-requires-clause-bytes)

pub invariant_of-self : goal.invariant_of-self
invariant_of-self c =
    let s = goal.at.invariant_of-self c in
    let slots = c.self.inside.slots.items in
    let slot = c.in-Some.slot in
    let h = here s.In-Some in
    let inside = h.inside in
    let below = h.below in
    let size = c.self.inside.size in
    let new = c.set_spans.new.self in
    let now : length new ≡ size = c.set_spans.ensures.len ∙ long s.After-index_mut inside in
    let count : length (set slots slot new) ≡ length slots = length-set slots slot new in (
      c.self.invariant.0,
      c.self.invariant.1,
      c.self.invariant.2,
      omega (arith, count, c.self.invariant.3),
      omega (arith, count, c.self.invariant.4),
      all_from (λ (l : List (Option ℕ)). length l ≡ size) (set slots slot new) [] (λ i lt. elim (cases_eq i slot) [
        | inl same ↦ rw (same, get_or-set_same slots slot new [] inside) now
        | inr other ↦ rw (get_or-set_other slots slot i new [] other) (all_there (λ (l : List (Option ℕ)). length l ≡ size) i slots [] c.self.invariant.5 (omega (arith, count)))
      ]),
      λ k le lt. get_or-set_other slots slot k new [] (λ same. omega (arith, same, le, below)) ∙ c.self.invariant.6 k le (omega (arith, count)),
    )

-- the entry of the block gets the new patch
module _ (c : After-set_spans) (h : HasSlot c.args.block c.in-Some.slot c.self.inside.slots.items c.self.inside.order.items) where
  abbrev es : List (ℕ × List (Option ℕ))
  es = entries_of [] c.self.inside.slots.items c.self.inside.order.items

  there : h.place < length es
  there = omega (arith, h.within, length-entries {A = List (Option ℕ)} [] c.self.inside.slots.items c.self.inside.order.items)

  key : c.args.block ≡ (get_or es h.place (c.args.block, [])).0
  key = sym (ap (λ (x : ℕ × List (Option ℕ)). x.0) (entry_is [] c.self.inside.slots.items h.place c.args.block c.in-Some.slot c.self.inside.order.items (c.args.block, []) h.within h.at))

  entries : entries_of [] (set c.self.inside.slots.items c.in-Some.slot c.set_spans.new.self) c.self.inside.order.items ≡ set es h.place (c.args.block, c.set_spans.new.self)
  entries = set_entries [] c.self.inside.slots.items c.set_spans.new.self (length c.self.inside.order.items) h.place c.args.block c.in-Some.slot c.self.inside.order.items c.self.invariant.2 c.self.invariant.3 h.within h.at

pub returns-clause-same : goal.returns-clause-same
returns-clause-same c =
    let s = goal.at.returns-clause-same c in
    let h = here s.In-Some in
    record {
      size = ap (λ (h : Held). h.size) c.self.view_is;
      spare = rw (length-set c.self.inside.slots.items c.in-Some.slot c.set_spans.new.self) (ap (λ (h : Held). h.spare) c.self.view_is);
      kept = λ b.
          ap (has_patch b) (entries s.After-set_spans h)
          ∙ has_set b c.args.block h.place c.set_spans.new.self (es s.After-set_spans h) (c.args.block, []) (there s.After-set_spans h) (key s.After-set_spans h)
          ∙ ap (λ (h : Held). has_patch b h.entries) c.self.view_is;
    }

pub returns-clause-values : goal.returns-clause-values
returns-clause-values c b =
    let s = goal.at.returns-clause-values c in
    let slots = c.self.inside.slots.items in
    let h = here s.In-Some in
    let new = c.set_spans.new.self in
    let size = c.args.self.now.size in
    let same : es s.After-set_spans h ≡ c.args.self.now.entries = ap (λ (h : Held). h.entries) c.self.view_is in
    let old : c.index_mut.result.now ≡ patch_at size c.args.block c.args.self.now.entries =
    c.index_mut.ensures.value ∙ get_or_default slots c.in-Some.slot c.index_mut.result.now [] h.inside ∙ sym (h.patch size) ∙ ap (patch_at size c.args.block) same in
    ap (patch_at size b) (entries s.After-set_spans h)
    ∙ patch_set size b 0 c.args.block h.place new (es s.After-set_spans h) (c.args.block, []) (rises_entries [] slots 0 c.self.inside.order.items c.self.invariant.1) (there s.After-set_spans h) (key s.After-set_spans h)
    ∙ set_value size b c.args.block c.args.block new (es s.After-set_spans h) c.args.self.now.entries (λ l. written c.args.spans.now 0 l c.args.bytes.now) refl same
    (c.set_spans.ensures.values ∙ ap (λ (l : List (Option ℕ)). written c.args.spans.now 0 l c.args.bytes.now) old)
