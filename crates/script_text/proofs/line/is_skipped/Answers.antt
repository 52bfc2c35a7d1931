use Rattle.script_text.proofs.{Words.{nat_eq, rules, tests, YieldsList-from_slice, all_from_yields_List}, LineLemmas.is_skipped-no_comment}

pub returns-else-starts_with : Rattle.script_text.proofs.line.is_skipped.Goals.returns-else-starts_with
returns-else-starts_with c =
    is_skipped-no_comment c.args.text.now _ c.if-starts_with.ensures.value (all_from_yields_List (nat_eq 32) _ _ _ c.all.ensures.ran (YieldsList-from_slice c.args.text.now cc) (λ x b q k. grind (rules, tests)))
