use Rattle.script_text.proofs.{Words.{◌≡◌, ◌-◌, ◌∙◌, ap, Some, arith}, WordLemmas.{number_of-one, number_of-not_one}}

pub returns-then-not-is_ascii_digit : Rattle.script_text.proofs.word.one_digit.Goals.returns-then-not-is_ascii_digit
returns-then-not-is_ascii_digit c = number_of-not_one c.args.digit (grind arith)

pub returns : Rattle.script_text.proofs.word.one_digit.Goals.returns
returns c =
    let value : c.from.result ≡ c.args.digit - 48 = omega (arith, c.from.ensures) in
    ap Some value ∙ number_of-one c.args.digit (grind arith)
