-- Printed decimals, hex texts and labels are words, and are read back as the same values; bench_script cites it too.
use Rattle.script_text.proofs.{Words.{◌≡◌, ◌∙◌, ap, sym, refl, ℕ, zero, suc, ◌+◌, ◌*◌, ◌-◌, ◌/◌, ◌%◌, ◌<◌, ◌≤◌, ◌^◌, Bool, true, ◌&&◌, IsTrue, nat_le, List, [], ◌∷◌, length, Some, Ok, decimal, arith, list_all, cond-true, and_parts, leb-true, le-leb, agree_below_at, decimal_by_steps, decimal_digit, decimal_nonempty, first_decimal, list_all-append, fold-append, decode_of-encode_lower, AreBytes, hex_argument, label_argument, digit_of, hex_text, is_decimal, number_of, value_of, is_digit, is_label, is_label_byte, AreSome, is_word_byte}, HexLemmas.{encode_lower-hex_text, hex_argument-ok}, WordLemmas.{is_decimal-by_all, number_of-decimal}}
use Rattle.std.proofs.Common.{ok_or}

-- a word of a line: not empty, each byte from 33 to 126
pub record IsWord (word : List ℕ) : Type 0 where
  pub some : 0 < length word
  pub bytes : list_all is_word_byte word ≡ true

-- each byte that passes p passes q, so a word of p's bytes is one of q's
pub weaker : (p q : ℕ → Bool) → ((b : ℕ) → p b ≡ true → q b ≡ true) → (word : List ℕ) → list_all p word ≡ true → list_all q word ≡ true
weaker p q each [] all = refl
weaker p q each (b ∷ word) all =
    let parts = and_parts (p b) (list_all p word) all in
    rw (each b parts.0) (weaker p q each word parts.1)

between : (low high b : ℕ) → low ≤ b → b ≤ high → (nat_le low b && nat_le b high) ≡ true
between low high b over under = rw (le-leb low b over) (le-leb b high under)

within : (low high b : ℕ) → (nat_le low b && nat_le b high) ≡ true → (low ≤ b) × (b ≤ high)
within low high b test =
    let parts = and_parts (nat_le low b) (nat_le b high) test in
    (leb-true low b parts.0, leb-true b high parts.1)

pub digit_in_word : (b : ℕ) → is_digit b ≡ true → is_word_byte b ≡ true
digit_in_word b test = let is = within 48 57 b test in between 33 126 b (omega arith) (omega arith)

-- decimal digits
pub decimal_digits : (n : ℕ) → n < 2 ^ 64 → list_all is_digit (decimal n) ≡ true
decimal_digits = decimal_by_steps (λ m ds. list_all is_digit ds ≡ true)
    (λ m low. rw (between 48 57 (48 + m) (omega arith) (omega arith)) refl)
    (λ m ds high digits. list_all-append is_digit ds ((48 + m % 10) ∷ []) ∙ rw digits (rw (between 48 57 (48 + m % 10) (omega arith) (omega arith)) refl))

value_of-decimal : (n : ℕ) → n < 2 ^ 64 → value_of (decimal n) ≡ n
value_of-decimal = decimal_by_steps (λ m ds. value_of ds ≡ m)
    (λ m low. omega arith)
    (λ m ds high value. fold-append (λ (k d : ℕ). 10 * k + (d - 48)) 0 ds ((48 + m % 10) ∷ []) ∙ rw value (omega arith))

is_decimal-decimal : (n : ℕ) → n < 2 ^ 64 → is_decimal (decimal n) ≡ true
is_decimal-decimal zero small = rw (decimal_digit 0 (omega arith)) refl
is_decimal-decimal (suc n) small =
    let first = first_decimal (suc n) (omega arith) small in
    sym (is_decimal-by_all (decimal (suc n)) true (decimal_nonempty (suc n) small) (λ e. omega arith) (sym (decimal_digits (suc n) small)))

pub decimal_word : (n : ℕ) → n < 2 ^ 32 → IsWord (decimal n)
decimal_word n small = record { some = decimal_nonempty n (omega arith); bytes = weaker is_digit is_word_byte digit_in_word (decimal n) (decimal_digits n (omega arith)) }

pub number_of-printed : (n : ℕ) → n < 2 ^ 32 → number_of (decimal n) ≡ Some n
number_of-printed n small =
    let value = value_of-decimal n (omega arith) in
    sym (number_of-decimal (decimal n) (is_decimal-decimal n (omega arith)) (omega arith)) ∙ ap Some value

-- hexadecimal digits
digit_fits : (d : ℕ) → d < 16 → is_word_byte (digit_of d) ≡ true
digit_fits d small = agree_below_at (λ n. is_word_byte (digit_of n)) (λ n. true) 16 d refl small

hex_bytes : (bytes : List ℕ) → AreBytes bytes → list_all is_word_byte (hex_text bytes) ≡ true
hex_bytes [] all = refl
hex_bytes (b ∷ bytes) all =
    let byte = all 0 in
    rw (digit_fits (b / 16) (omega (arith, byte)), digit_fits (b % 16) (omega arith)) (hex_bytes bytes (λ i. all (suc i)))

hex_some : (bytes : List ℕ) → 0 < length bytes → 0 < length (hex_text bytes)
hex_some [] some = absurd (omega arith)
hex_some (b ∷ bytes) some = omega arith

pub hex_word : (bytes : List ℕ) → AreSome bytes → IsWord (hex_text bytes)
hex_word bytes are = record { some = hex_some bytes are.some; bytes = hex_bytes bytes are.values }

pub hex_argument-printed : (bytes : List ℕ) → AreSome bytes → hex_argument (hex_text bytes) ≡ Ok bytes
hex_argument-printed bytes are =
    let some = hex_some bytes are.some in
    let same = encode_lower-hex_text bytes are.values in
    hex_argument-ok (hex_text bytes) bytes (λ e. omega arith) (rw (sym same) (decode_of-encode_lower bytes are.values))

-- labels
pub label_in_word : (b : ℕ) → is_label_byte b ≡ true → is_word_byte b ≡ true
label_in_word b test = grind arith

pub label_word : (label : List ℕ) → IsTrue (is_label label) → IsWord label
label_word label is =
    let parts = and_parts (nat_le 1 (length label) && nat_le (length label) 16) (list_all is_label_byte label) is in
    let some = leb-true 1 (length label) (and_parts (nat_le 1 (length label)) (nat_le (length label) 16) parts.0).0 in
    record { some = omega arith; bytes = weaker is_label_byte is_word_byte label_in_word label parts.1 }

pub label_argument-printed : (label : List ℕ) → IsTrue (is_label label) → label_argument label ≡ Ok label
label_argument-printed label is = ap (λ o. ok_or o 6) (cond-true _ _ _ is)
