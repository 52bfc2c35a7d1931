use Rattle.std.specs.Global.{Box}
use Rattle.turn_lock.specs.Ticket.{boxed}
use Rattle.turn_lock.proofs.{Words.{◌≡◌, rules, [], ◌∷◌, subst, sym, Some, List, Option, replicate, fresh, Fair, opening}, Keeps.starts}

pub new-requires-2 : Rattle.turn_lock.proofs.lock.TurnLock.new.Goals.new-requires-2
new-requires-2 g c =
    let inside : c.in-Ok.boxed.value ≡ c.args.value = search rules in
    let only : c.push.new.self.items ≡ Some c.in-Ok.boxed ∷ [] = cc (c.in_default.ensures.items, c.new-slots.ensures.items) in
    subst (λ (slots : List (Option (Box g.row.V.Denot))). Fair (boxed g.V.Stands.stands) g.V.Stands.hands g.V.Stands.takes (opening (replicate 24 0) slots fresh)) (sym only)
    (starts (boxed g.V.Stands.stands) g.V.Stands.hands g.V.Stands.takes (replicate 22 0) c.in-Ok.boxed (subst (λ v. g.V.Stands.stands v []) (sym inside) c.requires))
