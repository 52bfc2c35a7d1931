-- All slots are blank, and the order stays.
use Rattle.tx_table.proofs.{Words.{◌≡◌, ◌∙◌, ◌<◌, ℕ, [], None, ap, arith, length, get_or, replicate, AreBlankFrom, Held, entries_of}, Blocks.all_blank, Held.{blank_sizes, cleared_slots, has_entries}, Slots.blank_at}

blank : (c : Rattle.tx_table.proofs.patches.Patches.clear.Goals.After-clear_slots) → AreBlankFrom c.self.inside.size 0 c.clear_slots.new.slots.items
blank c =
    let n : c.len.result ≡ length c.self.inside.order.items = c.len.ensures ∙ c.self.inside.order.ok.0 in
    cleared_slots c.self.inside.size (length c.self.inside.order.items) c.self.inside.slots.items c.clear_slots.new.slots.items c.self.invariant.3 c.clear_slots.ensures.len
    (λ k lt. c.clear_slots.ensures.cleared k (omega (arith, n))) (λ k le. c.clear_slots.ensures.kept k (omega (arith, n))) c.self.invariant.5 c.self.invariant.6

pub invariant_of-self : Rattle.tx_table.proofs.patches.Patches.clear.Goals.invariant_of-self
invariant_of-self c = (
  c.self.invariant.0,
  c.self.invariant.1,
  c.self.invariant.2,
  omega (arith, c.self.invariant.3, c.clear_slots.ensures.len),
  omega (arith, c.self.invariant.4, c.clear_slots.ensures.len),
  blank_sizes c.self.inside.size c.clear_slots.new.slots.items (blank c),
  λ k le lt. blank c k (omega arith) lt,
)

pub returns-clause-same : Rattle.tx_table.proofs.patches.Patches.clear.Goals.returns-clause-same
returns-clause-same c = record {
  size = ap (λ (h : Held). h.size) c.self.view_is;
  spare = rw c.clear_slots.ensures.len (ap (λ (h : Held). h.spare) c.self.view_is);
  kept = λ b. grind (arith, has_entries);
}

pub returns-clause-values : Rattle.tx_table.proofs.patches.Patches.clear.Goals.returns-clause-values
returns-clause-values c b =
    let order = c.self.inside.order.items in
    let new = c.clear_slots.new.slots.items in
    let size = c.args.self.now.size in
    let same : c.self.inside.size ≡ size = ap (λ (h : Held). h.size) c.self.view_is in
    let all : (k : ℕ) → k < length order → get_or new k [] ≡ replicate size None =
    λ k lt. blank c k (omega arith) (omega (arith, c.self.invariant.3, c.clear_slots.ensures.len)) ∙ ap (λ (m : ℕ). replicate m None) same in
    all_blank size b (entries_of [] new order) (λ k x lt. blank_at [] (replicate size None) new (length order) order c.self.invariant.2 all k x lt)
