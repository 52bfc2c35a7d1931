use Rattle.std.{proofs.Common.{◌≡◌, ℕ, false, List, ap, sym, subst, ◌∙◌}, specs.Prelude.option_to_list, specs.List.AllByRecursion}
use Rattle.turn_lock.{specs.Lists.times, specs.Numbers.{is_among, held_after}, specs.Pass.view, proofs.Outs.{stays_free, all_gone}}
use Rattle.shared_tests.specs.declared.number_tests.Slip.{Slip}

pub give-requires-clause-value : Rattle.shared_tests.proofs.number_tests.take_back.Goals.give-requires-clause-value
give-requires-clause-value g c n le =
    let other : is_among n (option_to_list g.N.Names.entry.out) ≡ false = ap (λ (e : Slip). is_among n (option_to_list e.out)) c.requires.named in
    stays_free {E = Slip} (λ e. e.out) (λ e. e.back) n (view c.args.pass.now).seen g.N.Names.entry other (λ _. c.requires.value n le)

pub returns-clause-holds : Rattle.shared_tests.proofs.number_tests.take_back.Goals.returns-clause-holds
returns-clause-holds g c =
    let before = (view c.args.pass.now).holds in
    let after = c.give.ensures.holds ∙ ap (λ (e : Slip). held_after {E = Slip} (λ e. e.out) (λ e. e.back) e before) c.requires.named in
    subst (λ (ns : List ℕ). AllByRecursion (λ n. times n ns ≡ 0) c.args.numbers.now) (sym after) (all_gone c.args.numbers.now before)
