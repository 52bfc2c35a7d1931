-- The digits so far, and the value of all.
use Rattle.script_text.proofs.{Words.{◌≡◌, ◌<◌, ◌^◌, true, drop, take, list_all, is_digit, value_of, may_be_decimal}, WordLemmas.value_after}

abbrev pub invariant-loop-digit : Rattle.script_text.proofs.word.number_by_digits.Given.invariant-loop-digit
invariant-loop-digit l = record {
  begins : may_be_decimal l.word ≡ true;
  digits : list_all is_digit (take l.digit-index l.word) ≡ true;
  small : l.value < 2 ^ 32;
  value : value_after l.value (drop l.digit-index l.word) ≡ value_of l.word;
}
