-- One blank patch more after the others.
use Rattle.tx_table.proofs.{Words.{◌≡◌, ◌∙◌, ◌+◌, ◌<◌, ℕ, ◌++◌, ◌∷◌, [], List, Option, ap, arith, length, length-append, nat_lt, true, Bool, ◌&&◌, refl, vec_capacity, common_steps, Held, entries_of}, Slots.entries_more}

pub returns-clause-ok : Rattle.tx_table.proofs.patches.Patches.make_spare.Goals.returns-clause-ok
returns-clause-ok c =
    let order = c.self.inside.order.items in
    let slots = c.self.inside.slots.items in
    let patch = c.in_ok-patch.patch in
    let order_is : c.reserve.new.self.items ≡ order = c.in_ok-reserve.ensures.items in
    let slots_are : c.push.new.self.items ≡ slots ++ patch ∷ [] = c.in_ok-push.ensures.items in
    let entries : entries_of [] c.push.new.self.items c.reserve.new.self.items ≡ c.args.self.now.entries =
    ap (λ l. entries_of {A = List (Option ℕ)} [] l c.reserve.new.self.items) slots_are ∙ ap (entries_of {A = List (Option ℕ)} [] (slots ++ patch ∷ [])) order_is
    ∙ entries_more [] slots patch (length order) order c.self.invariant.2 c.self.invariant.3
    ∙ ap (λ (h : Held). h.entries) c.self.view_is in
    let more : length c.push.new.self.items ≡ length slots + 1 = ap length slots_are ∙ length-append slots (patch ∷ []) in
    let behind : length c.reserve.new.self.items < length c.push.new.self.items = omega (arith, more, ap length order_is, c.self.invariant.3) in
    let room : length c.reserve.new.self.items < vec_capacity c.reserve.new.self = omega (arith, c.in_ok-reserve.ensures.ok, c.reserve.new.self.ok.0) in
    let first : nat_lt (length c.reserve.new.self.items) (length c.push.new.self.items) ≡ true = grind (arith, common_steps, behind) in
    let second : nat_lt (length c.reserve.new.self.items) (vec_capacity c.reserve.new.self) ≡ true = grind (arith, common_steps, room) in
    λ j. record { size = (c.self.view_is j).size; entries = entries j; spare = both first second j }
  where
    both : {s t : Bool} → s ≡ true → t ≡ true → (s && t) ≡ true
    both e f = rw (e, f) refl
