use Rattle.std.{proofs.Common.{◌≡◌, false, ◌||◌, ap, ◌∙◌, ne_eqb, arith}, specs.Prelude.option_to_list}
use Rattle.turn_lock.{specs.Numbers.is_among, specs.Pass.view, proofs.Outs.stays_free}
use Rattle.shared_tests.specs.declared.number_tests.Slip.{Slip}

pub give-requires-clause-value : Rattle.shared_tests.proofs.number_tests.hand_out.Goals.give-requires-clause-value
give-requires-clause-value g c n le =
    let other : is_among n (option_to_list g.N.Names.entry.out) ≡ false = ap (λ (e : Slip). is_among n (option_to_list e.out)) c.requires.named ∙ ap (λ b. b || false) (ne_eqb c.args.number n (λ same. absurd (omega arith))) in
    stays_free {E = Slip} (λ e. e.out) (λ e. e.back) n (view c.args.pass.now).seen g.N.Names.entry other (λ _. c.requires.value n (omega arith))
