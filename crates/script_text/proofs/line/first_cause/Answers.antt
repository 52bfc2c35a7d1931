use Rattle.script_text.proofs.Words.{◌∙◌, sym, rules, tests, cond-true, YieldsList-from_slice, all_from_yields_List, is_printable}

pub returns-then-all : Rattle.script_text.proofs.line.first_cause.Goals.returns-then-all
returns-then-all c =
    let all = all_from_yields_List is_printable _ _ _ c.all.ensures.ran (YieldsList-from_slice c.args.text.now cc) (λ x b q k. grind (rules, tests)) in
    sym (cond-true _ _ _ (sym all ∙ c.if-all.true))
