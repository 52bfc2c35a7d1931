use Rattle.command_line.proofs.{Words.{◌∙◌, arith}, LongNumbers.{no_decimal, parsed}}

pub returns-then-not-is_decimal : Rattle.command_line.proofs.long_number.long_number_of.Goals.returns-then-not-is_decimal
returns-then-not-is_decimal c = no_decimal c.args.word.now (grind arith)

pub returns : Rattle.command_line.proofs.long_number.long_number_of.Goals.returns
returns c = c.ok.ensures.value ∙ parsed c.args.word.now c.parse.result (grind arith) c.parse.ensures.value.0
