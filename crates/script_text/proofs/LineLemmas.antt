-- Lines that say nothing, the carriage return at a line's end, and the client that a line begins with.
use Rattle.script_text.proofs.{Words.{◌≡◌, ℕ, ◌≢◌, inl, inr, Bool, true, false, nat_eq, List, [], ◌∷◌, ◌++◌, take, drop, length, take_all, ◌≤◌, refl, ap, sym, ◌∙◌, arith, Bor, Option, Some, None, unwrap_or, MatchOption, list_all, pointwise, cond-true, cond-false, ne_eqb, cases_eq, le-ltb, if◌then◌else◌, Result, Ok, Err, ◌-◌, ◌&&◌, nat_le, and_from, le-leb, number_of, client_in_range, operation_of, said_behind, ◌>>=◌, Says, MAX_LINE, is_printable, is_skipped, parse, said, without_return, words_of}, Spaces.words_of-cut, WordLemmas.number_of-one}
use Rattle.std.specs.Prelude.{slice_index_or}
use Rattle.script_model.specs.{declared.script.LineError.LineError, declared.script.LineError.TheVariants.{Cause, Memory}}
use Rattle.script_text.specs.Parsing.{Fails}

-- a line that begins with no `#`, or is empty, says nothing where it is all spaces
pub is_skipped-no_comment : (text : List ℕ) (r : Bool) → false ≡ pointwise nat_eq (35 ∷ []) (take 1 text) → r ≡ list_all (nat_eq 32) text → r ≡ is_skipped text
is_skipped-no_comment [] r lead all = all
is_skipped-no_comment (b ∷ text) r lead all = grind arith

-- the carriage return is dropped
without_return-dropped : (front : List ℕ) → without_return (front ++ 13 ∷ []) ≡ front
without_return-dropped [] = refl
without_return-dropped (b ∷ []) = refl
without_return-dropped (b ∷ c ∷ front) = ap (λ text. b ∷ text) (without_return-dropped (c ∷ front))

-- a line that does not end with one is kept
without_return-kept : (text : List ℕ) → ((front : List ℕ) → text ≢ front ++ 13 ∷ []) → without_return text ≡ text
without_return-kept [] none = refl
without_return-kept (b ∷ []) none = elim (cases_eq b 13) [
  | inl e ↦ absurd (none [] (ap (λ c. c ∷ []) e))
  | inr e ↦ cond-false _ _ _ (ne_eqb b 13 e)
]
without_return-kept (b ∷ c ∷ text) none =
    ap (λ more. b ∷ more) (without_return-kept (c ∷ text) (λ front e. none (b ∷ front) (ap (λ more. b ∷ more) e)))

-- what strip_suffix leaves
pub without_return-stripped : (text : List ℕ) (whole : Bor (List ℕ)) (r : Option (Bor (List ℕ)))
    → MatchOption r ((front : List ℕ) → text ≢ front ++ 13 ∷ []) (λ x. text ≡ x.now ++ 13 ∷ []) → whole.now ≡ text → (unwrap_or r whole).now ≡ without_return text
without_return-stripped text whole None none is = is ∙ sym (without_return-kept text none)
without_return-stripped text whole (Some x) e is = sym (ap without_return e ∙ without_return-dropped x.now)

-- a line that passes the tests says what its words say
pub parse-said : (text : List ℕ) → length text ≤ MAX_LINE → is_skipped text ≡ false → list_all is_printable text ≡ true → said (words_of text) ≡ parse text
unfolding parse
parse-said text short says printable =
    sym (cond-false _ _ _ (le-ltb MAX_LINE (length text) short) ∙ cond-false _ _ _ says ∙ cond-true _ _ _ printable)

pub parse-unprintable : (text : List ℕ) → length text ≤ MAX_LINE → is_skipped text ≡ false → list_all is_printable text ≡ false → parse text ≡ Err 8
unfolding parse
parse-unprintable text short says other =
    cond-false _ _ _ (le-ltb MAX_LINE (length text) short) ∙ cond-false _ _ _ says ∙ cond-false _ _ _ other

-- a line that says nothing fails by that, or by a byte that is not printable
pub parse-failed : (text : List ℕ) (cause : ℕ) → length text ≤ MAX_LINE → is_skipped text ≡ false → said (words_of text) ≡ Err cause
    → parse text ≡ Err (if list_all is_printable text then cause else 8)
parse-failed text cause short says failed = by (list_all is_printable text) refl
  where
    by : (t : Bool) → list_all is_printable text ≡ t → parse text ≡ Err (if t then cause else 8)
    by true printable = sym (parse-said text short says printable) ∙ failed
    by false other = parse-unprintable text short says other

-- what a line says whose first word names this client
pub said-client : (text word : List ℕ) (words : List (List ℕ)) (client : ℕ) → words_of text ≡ word ∷ words → client_in_range (number_of word) ≡ Ok client
    → said (words_of text) ≡ said_behind client words
unfolding said
said-client text word words client begins in_range = ap said begins ∙ by words
  where
    by : (words : List (List ℕ)) → said (word ∷ words) ≡ said_behind client words
    by [] = ap (λ (c : Result ℕ ℕ). c >>= λ m. Err 2) in_range
    by (name ∷ arguments) = ap (λ (c : Result ℕ ℕ). c >>= λ m. operation_of name arguments >>= λ op. Ok (Says (record { client = m; op = op }))) in_range

-- and so where that word is one digit
pub said-digit : (digit : ℕ) (rest : List ℕ) → 49 ≤ digit → digit ≤ 57 → said (words_of (digit ∷ 32 ∷ rest)) ≡ said_behind (digit - 48) (words_of rest)
said-digit digit rest least most =
    let is : number_of (digit ∷ []) ≡ Some (digit - 48) = sym (number_of-one digit (grind arith)) in
    let fits : (nat_le 1 (digit - 48) && nat_le (digit - 48) 64) ≡ true = and_from _ _ (le-leb 1 (digit - 48) (omega arith)) (le-leb (digit - 48) 64 (omega arith)) in
    said-client (digit ∷ 32 ∷ rest) (digit ∷ []) (words_of rest) (digit - 48) (words_of-cut (digit ∷ []) rest (grind arith)) (ap client_in_range is ∙ cond-true _ _ _ fits)

-- so of a text, by its first two bytes
pub said-front : (text : List ℕ) → 2 ≤ length text → 49 ≤ slice_index_or text 0 0 → slice_index_or text 0 0 ≤ 57 → slice_index_or text 1 0 ≡ 32
    → said (words_of text) ≡ said_behind (slice_index_or text 0 0 - 48) (words_of (take (length text - 2) (drop 2 text)))
said-front [] long least most space = absurd (omega (arith, long))
said-front (digit ∷ []) long least most space = absurd (omega (arith, long))
said-front (digit ∷ b ∷ rest) long least most space =
    ap (λ (c : ℕ). said (words_of (digit ∷ c ∷ rest))) space ∙ said-digit digit rest least most
    ∙ ap (λ (l : List ℕ). said_behind (digit - 48) (words_of l)) (sym (take_all (length (digit ∷ b ∷ rest) - 2) rest (omega arith)))

-- a text without a word fails
pub said-none : (text : List ℕ) → words_of text ≡ [] → said (words_of text) ≡ Err 1
unfolding said
said-none text none = ap said none

-- and one whose first word names no client
pub said-fails : (text word : List ℕ) (words : List (List ℕ)) (error : LineError) → words_of text ≡ word ∷ words → Fails error (client_in_range (number_of word)) → Fails error (said (words_of text))
unfolding said
said-fails text word words (Cause cause) begins fails = ap said begins ∙ by words
  where
    by : (words : List (List ℕ)) → said (word ∷ words) ≡ Err cause
    by [] = ap (λ (c : Result ℕ ℕ). c >>= λ m. Err 2) fails
    by (name ∷ arguments) = ap (λ (c : Result ℕ ℕ). c >>= λ m. operation_of name arguments >>= λ op. Ok (Says (record { client = m; op = op }))) fails
said-fails text word words Memory begins fails = fails
