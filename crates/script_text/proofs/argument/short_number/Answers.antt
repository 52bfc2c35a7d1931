use Rattle.script_text.proofs.{Words.{arith, ◌+◌, ◌*◌}, ShortNumbers.{begins_one, begins_two}}
use Rattle.script_text.proofs.argument.short_number.Goals as goal

pub returns-in-49-to-57 : goal.returns-in-49-to-57
returns-in-49-to-57 c =
    begins_two c.args.text.now (10 * c.from.result + c.from-in-49-to-57.result) (omega arith) (omega arith) (omega arith) (omega arith) (omega arith) (omega arith)
    (omega (arith, c.from.ensures, c.from-in-49-to-57.ensures))

pub returns-in-48-to-57 : goal.returns-in-48-to-57
returns-in-48-to-57 c =
    begins_one c.args.text.now c.from-in-48-to-57.result (omega arith) (omega arith) (omega arith) (omega arith) (omega (arith, c.from-in-48-to-57.ensures))
