-- The numbers that words spell.
use Rattle.script_text.proofs.Words.{◌≡◌, ℕ, zero, suc, ◌+◌, ◌-◌, ◌*◌, ◌^◌, ◌<◌, ◌≤◌, ◌≢◌, Bool, true, false, ◌&&◌, List, [], ◌∷◌, length, get_or, drop, take, Some, None, refl, ap, sym, ◌∙◌, arith, fold, nat_lt, list_all, drop_more, drop_all, take_all, and_parts, ne_eqb, cond-true, cond-false, le-ltb, lt-ltb, is_digit, is_decimal, value_of, number_of, may_be_decimal}
use Rattle.std.specs.Prelude.{not}

-- a word is decimal where it has no zero before others, and all its bytes are digits
pub is_decimal-by_parts : (word : List ℕ) → is_decimal word ≡ (may_be_decimal word && list_all is_digit word)
is_decimal-by_parts [] = refl
is_decimal-by_parts (b ∷ []) = grind arith
is_decimal-by_parts (b ∷ c ∷ word) = refl

-- and so where it does not begin with a zero
pub is_decimal-by_all : (word : List ℕ) (r : Bool) → 0 < length word → get_or word 0 0 ≢ 48 → r ≡ list_all is_digit word → r ≡ is_decimal word
is_decimal-by_all [] r some nonzero all = absurd (omega arith)
is_decimal-by_all (b ∷ []) r some nonzero all = grind arith
is_decimal-by_all (b ∷ c ∷ word) r some nonzero all = all ∙ ap (λ zero. not zero && list_all is_digit (b ∷ c ∷ word)) (sym (ne_eqb b 48 nonzero))

pub is_decimal-whole : (word : List ℕ) (n : ℕ) → may_be_decimal word ≡ true → list_all is_digit (take n word) ≡ true → length word ≤ n → is_decimal word ≡ true
is_decimal-whole word n begins digits all =
    is_decimal-by_parts word ∙ rw (begins, sym (take_all n word all)) digits

all_at : (p : ℕ → Bool) (word : List ℕ) (i : ℕ) → i < length word → list_all p word ≡ true → p (get_or word i 0) ≡ true
all_at p [] i below all = absurd (omega (arith, below))
all_at p (b ∷ word) zero below all = (and_parts (p b) (list_all p word) all).0
all_at p (b ∷ word) (suc i) below all = all_at p word i (omega (arith, below)) (and_parts (p b) (list_all p word) all).1

is_no : (b c : Bool) → c ≡ false → (b ≡ true → c ≡ true) → b ≡ false
is_no true c not_c so = sym (so refl) ∙ not_c
is_no false c not_c so = refl

-- the value of digits that follow those of n
abbrev pub value_after : (n : ℕ) → List ℕ → ℕ
value_after n digits = fold (λ m d. 10 * m + (d - 48)) n digits

-- digits that follow do not make a number less
value_after-grows : (n : ℕ) (digits : List ℕ) → n ≤ value_after n digits
value_after-grows n [] = omega arith
value_after-grows n (d ∷ digits) = let grows = value_after-grows (10 * n + (d - 48)) digits in omega (arith, grows)

-- what is no decimal word spells no number
pub number_of-no_decimal : (word : List ℕ) → is_decimal word ≡ false → None ≡ number_of word
unfolding number_of
number_of-no_decimal word e = sym (cond-false _ _ _ (ap (λ b. b && nat_lt (value_of word) (2 ^ 32)) e))

pub number_of-begun : (word : List ℕ) → may_be_decimal word ≡ false → None ≡ number_of word
number_of-begun word e = number_of-no_decimal word (is_decimal-by_parts word ∙ ap (λ (b : Bool). b && list_all is_digit word) e)

pub number_of-no_digit : (word : List ℕ) (i : ℕ) → i < length word → is_digit (get_or word i 0) ≡ false → None ≡ number_of word
number_of-no_digit word i below other =
    number_of-no_decimal word (is_decimal-by_parts word ∙ and_no (may_be_decimal word) (list_all is_digit word) (is_no (list_all is_digit word) (is_digit (get_or word i 0)) other (all_at is_digit word i below)))
  where
    and_no : (b c : Bool) → c ≡ false → (b && c) ≡ false
    and_no true c not_c = not_c
    and_no false c not_c = refl

-- nor does one whose value is too great
number_of-too_great : (word : List ℕ) → is_decimal word ≡ true → 2 ^ 32 ≤ value_of word → None ≡ number_of word
unfolding number_of
number_of-too_great word e great =
    sym (cond-false _ _ _ (ap (λ b. b && nat_lt (value_of word) (2 ^ 32)) e ∙ le-ltb _ _ great))

-- any other decimal word spells its value
pub number_of-decimal : (word : List ℕ) → is_decimal word ≡ true → value_of word < 2 ^ 32 → Some (value_of word) ≡ number_of word
unfolding number_of
number_of-decimal word e small =
    sym (cond-true _ _ _ (ap (λ b. b && nat_lt (value_of word) (2 ^ 32)) e ∙ lt-ltb _ _ small))

-- one digit more
value_after-step : (word : List ℕ) (i n : ℕ) → i < length word
    → value_after n (drop i word) ≡ value_after (10 * n + (get_or word i 0 - 48)) (drop (i + 1) word)
value_after-step word i n h = ap (value_after n) (drop_more word i 0 h)

-- where the value so far and one digit more are too great, the word spells no number
pub number_of-over : (word : List ℕ) (i n : ℕ) → value_after n (drop i word) ≡ value_of word
    → i < length word → 2 ^ 32 ≤ 10 * n + (get_or word i 0 - 48) → None ≡ number_of word
number_of-over word i n value h over =
    let more = value_after-step word i n h in
    let grows = value_after-grows (10 * n + (get_or word i 0 - 48)) (drop (i + 1) word) in
    by_decimal (is_decimal word) refl (omega (arith, value, more, grows))
  where
    by_decimal : (b : Bool) → is_decimal word ≡ b → 2 ^ 32 ≤ value_of word → None ≡ number_of word
    by_decimal true is great = number_of-too_great word is great
    by_decimal false is great = number_of-no_decimal word is

-- at the end of the word the value so far is its number
pub number_of-whole : (word : List ℕ) (i n : ℕ) → is_decimal word ≡ true → value_after n (drop i word) ≡ value_of word
    → length word ≤ i → n < 2 ^ 32 → Some n ≡ number_of word
number_of-whole word i n decimal value h small =
    let e : n ≡ value_of word = ap (value_after n) (sym (drop_all i word h)) ∙ value in
    ap Some e ∙ number_of-decimal word decimal (omega (arith, e))

-- a word of one byte is a number where this is a digit
pub number_of-one : (b : ℕ) → is_digit b ≡ true → Some (b - 48) ≡ number_of (b ∷ [])
number_of-one b digit =
    let fits = within_digits b digit in
    let same : b - 48 ≡ 0 + (b - 48) = omega arith in
    ap Some same ∙ number_of-decimal (b ∷ []) digit (omega (arith, fits))
  where
    within_digits : (b : ℕ) → is_digit b ≡ true → b ≤ 57
    within_digits b digit = grind arith

pub number_of-not_one : (b : ℕ) → is_digit b ≡ false → None ≡ number_of (b ∷ [])
number_of-not_one b other = number_of-no_decimal (b ∷ []) other

-- a word of two bytes is a number where these are digits, and the first is no zero
pub number_of-two : (tens ones : ℕ) → 49 ≤ tens → tens ≤ 57 → is_digit ones ≡ true → Some (10 * (tens - 48) + (ones - 48)) ≡ number_of (tens ∷ ones ∷ [])
number_of-two tens ones from to digit =
    let decimal : is_decimal (tens ∷ ones ∷ []) ≡ true = grind arith in
    let under : ones ≤ 57 = grind arith in
    let same : 10 * (tens - 48) + (ones - 48) ≡ 10 * (10 * 0 + (tens - 48)) + (ones - 48) = omega arith in
    ap Some same ∙ number_of-decimal (tens ∷ ones ∷ []) decimal (omega (arith, to, under))
