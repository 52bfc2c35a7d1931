use Rattle.std.proofs.Common.{◌≡◌, ℕ, ◌≤◌, List, [], ◌∷◌, ◌++◌, ap, sym, ◌∙◌, subst}
use Rattle.turn_lock.{specs.Lists.times, specs.Numbers.AreHeld, specs.Pass.view, proofs.Outs.{all_held, alone_distinct}}

pub take_back-requires-clause-held : Rattle.shared_tests.proofs.number_tests.served_numbers.Goals.take_back-requires-clause-held
take_back-requires-clause-held g c =
    let both : List ℕ = c.next_number-second.result ∷ c.next_number-first.result ∷ [] in
    let holds : (view c.join.new.pass).holds ≡ both = ap (λ v. v.holds) c.join.ensures.both ∙ (λ i. (c.split-other.ensures.given i).holds ++ (c.split-holder.ensures.given i).holds) in
    let alone : (n : ℕ) → times n both ≤ 1 = λ n. subst (λ (ns : List ℕ). times n ns ≤ 1) holds (c.join.ensures.alone n) in
    (subst (AreHeld both) (sym (c.take-turn.ensures.same.1 ∙ holds)) (all_held both), alone_distinct both alone)
