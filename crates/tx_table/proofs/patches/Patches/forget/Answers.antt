-- All slots are blank, and the order is empty.
use Rattle.tx_table.proofs.{Words.{◌≡◌, ◌∙◌, ◌≤◌, ℕ, [], List, arith, length, subst, sym, AreBlankFrom, RisesFrom, AreSlots}, Held.{blank_sizes, cleared_slots}}

pub invariant_of-self : Rattle.tx_table.proofs.patches.Patches.forget.Goals.invariant_of-self
invariant_of-self c =
    let order = c.self.inside.order.items in
    let slots = c.self.inside.slots.items in
    let new = c.clear_slots.new.slots.items in
    let size = c.self.inside.size in
    let none : c.clear.new.self.items ≡ [] = c.clear.ensures.items in
    let n : c.len.result ≡ length order = c.len.ensures ∙ c.self.inside.order.ok.0 in
    let blank : AreBlankFrom size 0 new = cleared_slots size (length order) slots new c.self.invariant.3 c.clear_slots.ensures.len
    (λ k lt. c.clear_slots.ensures.cleared k (omega (arith, n))) (λ k le. c.clear_slots.ensures.kept k (omega (arith, n))) c.self.invariant.5 c.self.invariant.6 in (
      c.self.invariant.0,
      subst (λ (l : List (ℕ × ℕ)). RisesFrom 0 l) (sym none) tt,
      subst (λ (l : List (ℕ × ℕ)). AreSlots (length l) l) (sym none) tt,
      subst (λ (l : List (ℕ × ℕ)). length l ≤ length new) (sym none) (omega arith),
      omega (arith, c.self.invariant.4, c.clear_slots.ensures.len),
      blank_sizes size new blank,
      λ k le lt. blank k (omega arith) lt,
    )
