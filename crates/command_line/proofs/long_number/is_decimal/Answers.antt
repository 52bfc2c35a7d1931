use Rattle.command_line.proofs.Words.{rules, tests, arith, YieldsList-from_slice, all_from_yields_List, is_digit, is_decimal-by_all}

pub returns-then-first-ne48 : Rattle.command_line.proofs.long_number.is_decimal.Goals.returns-then-first-ne48
returns-then-first-ne48 c =
    is_decimal-by_all c.args.word.now _ (omega (arith, c.in-len1-up.len_at_least)) c.if-first-ne48.true
    (all_from_yields_List is_digit _ _ c.all.result c.all.ensures.ran (YieldsList-from_slice c.args.word.now cc) (λ x b q k. search (rules, tests)))
