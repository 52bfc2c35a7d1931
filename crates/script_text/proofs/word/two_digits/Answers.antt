use Rattle.script_text.proofs.{Words.{◌*◌, ◌+◌, ◌∙◌, [], ◌∷◌, Some, arith}, WordLemmas.{number_of-no_decimal, number_of-two}}

pub returns-then-not-contains : Rattle.script_text.proofs.word.two_digits.Goals.returns-then-not-contains
returns-then-not-contains c = number_of-no_decimal (c.args.tens ∷ c.args.ones ∷ []) (grind arith)

pub returns : Rattle.script_text.proofs.word.two_digits.Goals.returns
returns c = (λ i. Some (10 * c.from.ensures i + c.from-2.ensures i)) ∙ number_of-two c.args.tens c.args.ones (grind arith) (grind arith) (grind arith)
