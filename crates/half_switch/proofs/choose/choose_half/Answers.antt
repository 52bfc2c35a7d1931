use Rattle.half_switch.proofs.{Words.{Bool, Some, cond, sym, ◌∙◌, ap, le-ltb, eq-eqb, ne_eqb, chosen_half}, Chosen.current_is}
use Rattle.std.proofs.Common.{lt-ltb}
use Rattle.half_switch.proofs.choose.choose_half.Goals as goal

pub returns-then-first-second-clause-current : goal.returns-then-first-second-clause-current
returns-then-first-second-clause-current c g bytes first second =
    ap (λ (t : Bool). Some (cond t 1 0)) (sym (lt-ltb c.args.first.now.generation c.args.second.now.generation c.if-first-second.true))
    ∙ (λ i. chosen_half (sym (eq-eqb c.args.first.now.gate 1 c.in-true-true.is-0) i) c.args.first.now.generation (sym (eq-eqb c.args.second.now.gate 1 c.in-true-true.is-1) i) c.args.second.now.generation)
    ∙ current_is g bytes c.args.first.now c.args.second.now first second

pub returns-else-first-second-clause-current : goal.returns-else-first-second-clause-current
returns-else-first-second-clause-current c g bytes first second =
    ap (λ (t : Bool). Some (cond t 1 0)) (sym (le-ltb c.args.first.now.generation c.args.second.now.generation c.if-first-second.false))
    ∙ (λ i. chosen_half (sym (eq-eqb c.args.first.now.gate 1 c.in-true-true.is-0) i) c.args.first.now.generation (sym (eq-eqb c.args.second.now.gate 1 c.in-true-true.is-1) i) c.args.second.now.generation)
    ∙ current_is g bytes c.args.first.now c.args.second.now first second

pub returns-in-true-false-clause-current : goal.returns-in-true-false-clause-current
returns-in-true-false-clause-current c g bytes first second =
    (λ i. chosen_half (sym (eq-eqb c.args.first.now.gate 1 c.in-true-false.is-0) i) c.args.first.now.generation (sym (ne_eqb c.args.second.now.gate 1 c.in-true-false.is-1) i) c.args.second.now.generation)
    ∙ current_is g bytes c.args.first.now c.args.second.now first second

pub returns-in-false-true-clause-current : goal.returns-in-false-true-clause-current
returns-in-false-true-clause-current c g bytes first second =
    (λ i. chosen_half (sym (ne_eqb c.args.first.now.gate 1 c.in-false-true.is-0) i) c.args.first.now.generation (sym (eq-eqb c.args.second.now.gate 1 c.in-false-true.is-1) i) c.args.second.now.generation)
    ∙ current_is g bytes c.args.first.now c.args.second.now first second

pub returns-in-false-false-clause-current : goal.returns-in-false-false-clause-current
returns-in-false-false-clause-current c g bytes first second =
    (λ i. chosen_half (sym (ne_eqb c.args.first.now.gate 1 c.in-false-false.is-0) i) c.args.first.now.generation (sym (ne_eqb c.args.second.now.gate 1 c.in-false-false.is-1) i) c.args.second.now.generation)
    ∙ current_is g bytes c.args.first.now c.args.second.now first second
