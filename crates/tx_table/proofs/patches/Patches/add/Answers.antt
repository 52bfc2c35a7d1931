-- The first of the blank slots, at the place of the block.
use Rattle.tx_table.proofs.{Words.{rules, ◌≡◌, ◌∙◌, ℕ, ◌+◌, ◌<◌, ◌≤◌, Bool, ◌||◌, ◌==◌, true, false, List, ◌∷◌, ◌++◌, [], Option, None, ap, sym, subst, arith, length, get_or, take, drop, replicate, common_steps, has_patch, patch_at, Held, RisesFrom, entries_of, AreSlots, or-true}, Blocks.{has_insert, patch_insert, rises_insert}, Slots.{entries_insert, key_at, length-entries, length_insert, rises_entries, rises_order, slots_insert}}
use Rattle.tx_table.proofs.patches.Patches.add.Goals as goal

module _ (c : goal.After-insert_within) where
  abbrev order : List (ℕ × ℕ)
  order = c.self.inside.order.items

  abbrev es : List (ℕ × List (Option ℕ))
  es = entries_of [] c.self.inside.slots.items order

  abbrev e : ℕ × List (Option ℕ)
  e = (c.args.block, get_or c.self.inside.slots.items (length order) [])

  abbrev more : List (ℕ × ℕ)
  more = take c.place_of-place.result order ++ (c.args.block, length order) ∷ drop c.place_of-place.result order

  is : c.insert_within.new.order.items ≡ more
  is = c.insert_within.ensures ∙ ap (λ (k : ℕ). take c.place_of-place.result order ++ (c.args.block, k) ∷ drop c.place_of-place.result order) (c.len-slot.ensures ∙ c.self.inside.order.ok.0)

  entries : entries_of [] c.self.inside.slots.items c.insert_within.new.order.items ≡ take c.place_of-place.result es ++ e ∷ drop c.place_of-place.result es
  entries = ap (entries_of {A = List (Option ℕ)} [] c.self.inside.slots.items) is ∙ entries_insert [] c.self.inside.slots.items c.place_of-place.result order (c.args.block, length order)

  new : has_patch c.args.block es ≡ false
  new = ap (λ (h : Held). has_patch c.args.block h.entries) c.self.view_is ∙ c.requires.new

  spare : length order < length c.self.inside.slots.items
  spare = search (rules, arith)

  -- the blocks still rise
  rises : RisesFrom 0 more
  rises =
      let slots = c.self.inside.slots.items in
      let place = c.place_of-place.result in
      let seen : c.as_slice.result.now ≡ order = c.as_slice.ensures.value in
      let count = length-entries {A = List (Option ℕ)} [] slots order in
      let within : place ≤ length order = subst (λ (l : List (ℕ × ℕ)). place ≤ length l) seen c.place_of-place.ensures.within in
      let before : (k : ℕ) → k < place → (get_or es k e).0 < c.args.block = λ k lt.
      (let h = c.place_of-place.ensures.before k lt (c.args.block, 0) in let h' = rw seen at h in omega (arith, h', key_at [] slots k 0 order e)) in
      let after : (k : ℕ) → place ≤ k → k < length es → c.args.block ≤ (get_or es k e).0 = λ k le lt.
      (let inside : k < length c.as_slice.result.now = omega (arith, count, ap (length {A = ℕ × ℕ}) seen) in
      let h = c.place_of-place.ensures.after k le inside (c.args.block, 0) in let h' = rw seen at h in omega (arith, h', key_at [] slots k 0 order e)) in
      rises_order [] slots 0 more
      (subst (λ (l : List (ℕ × List (Option ℕ))). RisesFrom 0 l) (sym (entries_insert [] slots place order (c.args.block, length order)))
      (rises_insert 0 place es e (rises_entries [] slots 0 order c.self.invariant.1) (omega arith) before after new (omega (arith, count, within))))

pub invariant_of-self : goal.invariant_of-self
invariant_of-self c =
    let n = length (order c) in
    let long : length (more c) ≡ n + 1 = length_insert c.place_of-place.result (order c) (c.args.block, n) in
    let count = ap (length {A = ℕ × ℕ}) (is c) in
    let fits = spare c in (
      c.self.invariant.0,
      subst (λ (l : List (ℕ × ℕ)). RisesFrom 0 l) (sym (is c)) (rises c),
      subst (λ (l : List (ℕ × ℕ)). AreSlots (length l) l) (sym (is c)) (rw long (slots_insert n c.place_of-place.result c.args.block (order c) c.self.invariant.2)),
      omega (arith, count, long, fits),
      c.self.invariant.4,
      c.self.invariant.5,
      λ k le lt. c.self.invariant.6 k (omega (arith, count, long, le)) lt,
    )

pub returns : goal.returns
returns c =
    let here : (c.args.block == c.args.block) ≡ true = grind (arith, common_steps) in
    let blank : get_or c.self.inside.slots.items (length (order c)) [] ≡ replicate c.args.self.now.size None =
    c.self.invariant.6 (length (order c)) (omega arith) (spare c) ∙ ap (λ (h : Held). replicate h.size None) c.self.view_is in
    record {
      size = ap (λ (h : Held). h.size) c.self.view_is;
      held = ap (has_patch c.args.block) (entries c) ∙ has_insert c.args.block c.place_of-place.result (es c) (e c) ∙ ap (λ (t : Bool). t || has_patch c.args.block (es c)) here;
      kept = λ b held.
          ap (has_patch b) (entries c) ∙ has_insert b c.place_of-place.result (es c) (e c)
          ∙ ap (λ (t : Bool). (c.args.block == b) || t) (ap (λ (h : Held). has_patch b h.entries) c.self.view_is ∙ held) ∙ or-true (c.args.block == b);
      values = λ b.
          ap (patch_at c.args.self.now.size b) (entries c)
          ∙ patch_insert c.args.self.now.size b c.place_of-place.result (es c) (e c) (new c) blank
          ∙ ap (λ (h : Held). patch_at c.args.self.now.size b h.entries) c.self.view_is;
    }
