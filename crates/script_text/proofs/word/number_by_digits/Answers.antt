-- What a word that is no number fails by, and the number of any other.
use Rattle.script_text.proofs.{Words.{arith, ◌∙◌}, WordLemmas.{is_decimal-whole, number_of-begun, number_of-no_digit, number_of-over, number_of-whole}}
use Rattle.script_text.proofs.word.number_by_digits.Goals as goal

pub returns-then-not-may_be_decimal : goal.returns-then-not-may_be_decimal
returns-then-not-may_be_decimal c = number_of-begun c.args.word.now (grind arith)

pub returns-then-not-is_ascii_digit : goal.returns-then-not-is_ascii_digit
returns-then-not-is_ascii_digit c =
    number_of-no_digit c.args.word.now c.loop-digit.digit-index (omega arith) (grind arith)

pub returns-in_err-checked_mul : goal.returns-in_err-checked_mul
returns-in_err-checked_mul c =
    let kept = c.loop-digit.invariant in
    c.from_residual.ensures
    ∙ number_of-over c.args.word.now c.loop-digit.digit-index c.loop-digit.value kept.value (omega arith) (omega (arith, c.in_err-checked_mul.ensures))

pub returns-in_err-value : goal.returns-in_err-value
returns-in_err-value c =
    let kept = c.loop-digit.invariant in
    c.from_residual-in_err-value.ensures
    ∙ number_of-over c.args.word.now c.loop-digit.digit-index c.loop-digit.value kept.value (omega arith)
    (omega (arith, c.in_err-value.ensures, c.in_ok-checked_mul.ensures, c.from.ensures))

pub returns : goal.returns
returns c =
    let kept = c.loop-digit.invariant in
    number_of-whole c.args.word.now c.loop-digit.digit-index c.loop-digit.value (is_decimal-whole c.args.word.now c.loop-digit.digit-index kept.begins kept.digits (omega arith)) kept.value (omega arith) kept.small
