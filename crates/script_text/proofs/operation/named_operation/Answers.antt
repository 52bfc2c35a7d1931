use Rattle.script_text.proofs.{Words.{ℕ, Result, Ok, ap, subst, sym, ◌∙◌, arith, Gives, Parsed}, UsualLines.{says_begin, says_end, says_get, says_put}}
use Rattle.script_text.specs.Parsing.{placed}
use Rattle.script_text.proofs.operation.named_operation.Goals as goal

pub returns-in-103 : goal.returns-in-103
returns-in-103 c =
    subst (λ (said : Result Parsed ℕ). Gives (placed c.get.result c.get.new.into) said) (sym (says_get c.args.client c.args.text.now (omega arith) (omega arith) (omega arith) (omega arith) (omega arith))) c.get.ensures

pub returns-in-112 : goal.returns-in-112
returns-in-112 c =
    subst (λ (said : Result Parsed ℕ). Gives (placed c.put.result c.put.new.into) said) (sym (says_put c.args.client c.args.text.now (omega arith) (omega arith) (omega arith) (omega arith) (omega arith))) c.put.ensures

pub returns-in-98 : goal.returns-in-98
returns-in-98 c =
    says_begin c.args.client c.args.text.now (omega arith) (omega arith) (omega arith) (omega arith) (omega arith) (omega arith) ∙ ap Ok (sym c.say_line.ensures)

pub returns-in-101 : goal.returns-in-101
returns-in-101 c =
    says_end c.args.client c.args.text.now (omega arith) (omega arith) (omega arith) (omega arith) ∙ ap Ok (sym c.say_line-in-101.ensures)
