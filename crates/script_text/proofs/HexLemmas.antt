-- The toolchain's hexadecimal texts are those of the model.
use Rattle.script_text.proofs.Words.{◌≡◌, ℕ, suc, ◌+◌, ◌*◌, ◌/◌, ◌%◌, ◌<◌, ◌≢◌, inl, inr, true, nat_eq, List, [], ◌∷◌, length, get_or, Option, Some, None, Result, Ok, Err, refl, ap, sym, ◌∙◌, arith, ok_or, result_ok, cases_Bool, cond-true, cond-false, eqb-true, agree_below_at, nat_tests, decode_of, decode_pairs, digit_or_error, encode_lower, encode_with, lower_digits, hex_digit_value, FromHexError, OddLength, hex_argument, hex_digit, hex_pair, hex_pairs, hex_of, hex_text, digit_of}
use Rattle.hex.specs.Hex.{◌>>=◌}

-- a digit has one value
hex_digit-value : (b : ℕ) → hex_digit b ≡ hex_digit_value b
hex_digit-value b = grind (arith, nat_tests)

-- two digits and what follows them
pair_decoded : (a b i : ℕ) (x y : Option ℕ) (rest : Result (List ℕ) FromHexError)
    → hex_pair x y (result_ok rest) ≡ result_ok ((digit_or_error a i x >>= λ h. digit_or_error b (i + 1) y >>= λ l. Ok (h * 16 + l)) >>= λ byte. rest >>= λ bytes. Ok (byte ∷ bytes))
pair_decoded a b i (Some h) (Some l) (Ok bytes) = ap (λ (n : ℕ). Some (n ∷ bytes)) (omega arith)
pair_decoded a b i (Some h) (Some l) (Err e) = refl
pair_decoded a b i (Some h) None rest = refl
pair_decoded a b i None y rest = refl

-- pairs of digits are read alike
hex_pairs-decode : (i : ℕ) (word : List ℕ) → hex_pairs word ≡ result_ok (decode_pairs i word)
unfolding decode_pairs
hex_pairs-decode i [] = refl
hex_pairs-decode i (a ∷ []) = refl
hex_pairs-decode i (a ∷ b ∷ word) =
    ap (hex_pair (hex_digit a) (hex_digit b)) (hex_pairs-decode (i + 2) word)
    ∙ ap (λ x. hex_pair x (hex_digit b) (result_ok (decode_pairs (i + 2) word))) (hex_digit-value a)
    ∙ ap (λ y. hex_pair (hex_digit_value a) y (result_ok (decode_pairs (i + 2) word))) (hex_digit-value b)
    ∙ pair_decoded a b i (hex_digit_value a) (hex_digit_value b) (decode_pairs (i + 2) word)

hex_pair-none : (x y : Option ℕ) → hex_pair x y None ≡ None
hex_pair-none (Some x) (Some y) = refl
hex_pair-none (Some x) None = refl
hex_pair-none None y = refl

-- an odd number of digits is none
hex_pairs-odd : (word : List ℕ) → length word % 2 ≡ 1 → hex_pairs word ≡ None
hex_pairs-odd [] odd = absurd (omega arith)
hex_pairs-odd (a ∷ []) odd = refl
hex_pairs-odd (a ∷ b ∷ word) odd =
    ap (hex_pair (hex_digit a) (hex_digit b)) (hex_pairs-odd word (omega arith)) ∙ hex_pair-none (hex_digit a) (hex_digit b)

-- what a word spells is what decode gives
hex_pairs-decode_of : (word : List ℕ) → hex_pairs word ≡ result_ok (decode_of word)
hex_pairs-decode_of word = elim (cases_Bool (nat_eq (length word % 2) 1)) [
  | inl odd ↦ hex_pairs-odd word (eqb-true _ _ odd) ∙ ap result_ok (sym (cond-true _ (Err OddLength) (decode_pairs 0 word) odd))
  | inr even ↦ hex_pairs-decode 0 word ∙ ap result_ok (sym (cond-false _ (Err OddLength) (decode_pairs 0 word) even))
]

pub hex_argument-empty : (word : List ℕ) → length word ≡ 0 → hex_argument word ≡ Err 5
unfolding hex_of
hex_argument-empty [] e = refl
hex_argument-empty (b ∷ word) e = absurd (omega arith)

hex_argument-decode_of : (word : List ℕ) → length word ≢ 0 → hex_argument word ≡ ok_or (result_ok (decode_of word)) 5
unfolding hex_of
hex_argument-decode_of [] some = absurd (some refl)
hex_argument-decode_of (b ∷ word) some = ap (λ o. ok_or o 5) (hex_pairs-decode_of (b ∷ word))

pub hex_argument-ok : (word bytes : List ℕ) → length word ≢ 0 → decode_of word ≡ Ok bytes → hex_argument word ≡ Ok bytes
hex_argument-ok word bytes some e = hex_argument-decode_of word some ∙ ap (λ r. ok_or (result_ok r) 5) e

-- an odd number of digits is refused
pub hex_argument-odd : (word : List ℕ) → length word % 2 ≡ 1 → hex_argument word ≡ Err 5
unfolding hex_of
hex_argument-odd [] odd = refl
hex_argument-odd (b ∷ word) odd = ap (λ o. ok_or o 5) (hex_pairs-odd (b ∷ word) odd)

-- the digit of the table at a place
digit_at : (d : ℕ) → d < 16 → get_or lower_digits d 0 ≡ digit_of d
digit_at d small = eqb-true _ _ (agree_below_at (λ n. nat_eq (get_or lower_digits n 0) (digit_of n)) (λ n. true) 16 d refl small)

-- bytes are printed alike
pub encode_lower-hex_text : (bytes : List ℕ) → ((i : ℕ) → get_or bytes i 0 < 256) → encode_lower bytes ≡ hex_text bytes
unfolding encode_with
encode_lower-hex_text [] small = refl
encode_lower-hex_text (b ∷ bytes) small =
    let byte = small 0 in
    let high = digit_at (b / 16) (omega (arith, byte)) in
    let low = digit_at (b % 16) (omega arith) in
    let rest = encode_lower-hex_text bytes (λ i. small (suc i)) in
    cc
