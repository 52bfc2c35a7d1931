-- Numbers of up to 64 bits.
use Rattle.command_line.proofs.Words.{◌≡◌, ℕ, ◌+◌, ◌-◌, ◌*◌, ◌^◌, ◌<◌, ◌∙◌, true, false, ◌&&◌, List, [], ◌∷◌, length, Some, None, ap, sym, arith, rules, fold, nat_lt, Result, Ok, Err, list_all, OkIff, result_ok, ParsesUnsigned, cond-true, cond-false, lt-ltb, IsNumeralModel, numerals_by_fold, parse_digits, is_decimal, value_of, is_digit, long_number_of}

numerals : IsNumeralModel (λ ds. list_all is_digit ds ≡ true) value_of
numerals = numerals_by_fold _ (search rules) (λ n digits. fold (λ m d. 10 * m + (d - 48)) n digits) (search (rules, arith))

-- a decimal word is digits, and not empty
digits_in : (word : List ℕ) → is_decimal word ≡ true → list_all is_digit word ≡ true
digits_in [] e = grind arith
digits_in (b ∷ []) e = grind arith
digits_in (b ∷ c ∷ word) e = grind arith

some_digit : (word : List ℕ) → is_decimal word ≡ true → 0 < length word
some_digit [] e = grind arith
some_digit (b ∷ word) e = omega arith

-- what is no decimal word spells no number
pub no_decimal : (word : List ℕ) → is_decimal word ≡ false → None ≡ long_number_of word
unfolding long_number_of
no_decimal word e = sym (cond-false _ _ _ (ap (λ b. b && nat_lt (value_of word) (2 ^ 64)) e))

by_value : {E : Type 0} (word : List ℕ) (r : Result ℕ E) → is_decimal word ≡ true
    → OkIff r ((0 < length word) × (value_of word < 2 ^ 64)) (value_of word) → result_ok r ≡ long_number_of word
unfolding long_number_of
by_value word (Ok n) decimal (within, is) =
    ap Some is ∙ sym (cond-true _ _ _ (ap (λ b. b && nat_lt (value_of word) (2 ^ 64)) decimal ∙ lt-ltb _ _ within.1))
by_value word (Err e) decimal over =
    let great : nat_lt (value_of word) (2 ^ 64) ≡ false = grind (arith, over, some_digit word decimal) in
    sym (cond-false _ _ _ (ap (λ b. b && nat_lt (value_of word) (2 ^ 64)) decimal ∙ great))

-- a decimal word spells what the parser of std reads in it
pub parsed : {E : Type 0} (word : List ℕ) (r : Result ℕ E) → is_decimal word ≡ true → ParsesUnsigned 64 10 word r → result_ok r ≡ long_number_of word
parsed word r decimal parses = by_value word r decimal (parse_digits numerals 64 word r parses (digits_in word decimal))
