-- Words with one space between them are the words of their line.
use Rattle.script_text.proofs.{Words.{◌≡◌, ◌∙◌, ap, sym, refl, append-nil, flat_map, ℕ, ◌<◌, ◌==◌, true, false, not, nat_le, List, [], ◌∷◌, ◌++◌, length, arith, list_all, filter, and_from, and_parts, cond-false, ne_eqb, not-true, not_from_false, leb-true, le-leb, list_all-append, is_printable, is_skipped, before_piece, is_empty, pieces, words_of, is_digit, spaced, is_no_space, is_word_byte, word_before}, Numerals.{IsWord, weaker}}

abbrev pub AreWords : List (List ℕ) → Type 0
AreWords [] = Unit {0}
AreWords (word ∷ words) = IsWord word × AreWords words

no_space : (b : ℕ) → is_word_byte b ≡ true → is_no_space b ≡ true
no_space b test = not_from_false (b == 32) (ne_eqb b 32 (λ e. omega (arith, leb-true 33 b (and_parts (nat_le 33 b) (nat_le b 126) test).0)))

spaceless : (word : List ℕ) → list_all is_word_byte word ≡ true → list_all is_no_space word ≡ true
spaceless = weaker is_word_byte is_no_space no_space

-- a word before a space, and before the end
piece_before : (word rest : List ℕ) → list_all is_no_space word ≡ true → pieces 32 (word ++ 32 ∷ rest) ≡ word ∷ pieces 32 rest
piece_before [] rest all = refl
piece_before (b ∷ word) rest all =
    let parts = and_parts (is_no_space b) (list_all is_no_space word) all in
    cond-false _ _ _ (not-true (b == 32) parts.0) ∙ ap (before_piece b) (piece_before word rest parts.1)

piece_alone : (word : List ℕ) → list_all is_no_space word ≡ true → pieces 32 word ≡ word ∷ []
piece_alone [] all = refl
piece_alone (b ∷ word) all =
    let parts = and_parts (is_no_space b) (list_all is_no_space word) all in
    cond-false _ _ _ (not-true (b == 32) parts.0) ∙ ap (before_piece b) (piece_alone word parts.1)

spaced_pieces : (word : List ℕ) (words : List (List ℕ)) → AreWords (word ∷ words) → pieces 32 (spaced (word ∷ words)) ≡ word ∷ words
spaced_pieces word [] are = piece_alone word (spaceless word are.0.bytes)
spaced_pieces word (next ∷ words) are =
    piece_before word (spaced (next ∷ words)) (spaceless word are.0.bytes) ∙ ap (λ (more : List (List ℕ)). word ∷ more) (spaced_pieces next words are.1)

kept : (word : List ℕ) (words : List (List ℕ)) → 0 < length word → filter (λ w. not (is_empty w)) (word ∷ words) ≡ word ∷ filter (λ w. not (is_empty w)) words
kept [] words some = absurd (omega arith)
kept (b ∷ word) words some = refl

all_kept : (words : List (List ℕ)) → AreWords words → filter (λ w. not (is_empty w)) words ≡ words
all_kept [] are = refl
all_kept (word ∷ words) are = kept word words are.0.some ∙ ap (λ (more : List (List ℕ)). word ∷ more) (all_kept words are.1)

pub words_of-spaced : (word : List ℕ) (words : List (List ℕ)) → AreWords (word ∷ words) → words_of (spaced (word ∷ words)) ≡ word ∷ words
unfolding words_of
words_of-spaced word words are =
    ap (filter (λ (w : List ℕ). not (is_empty w))) (spaced_pieces word words are) ∙ all_kept (word ∷ words) are

-- a line of words is printable
pub byte_printable : (b : ℕ) → is_word_byte b ≡ true → is_printable b ≡ true
byte_printable b test =
    let ends = and_parts (nat_le 33 b) (nat_le b 126) test in
    and_from (nat_le 32 b) (nat_le b 126) (le-leb 32 b (omega (arith, leb-true 33 b ends.0))) ends.1

word_printable : (word : List ℕ) → list_all is_word_byte word ≡ true → list_all is_printable word ≡ true
word_printable = weaker is_word_byte is_printable byte_printable

pub spaced_printable : (words : List (List ℕ)) → AreWords words → list_all is_printable (spaced words) ≡ true
spaced_printable [] are = refl
spaced_printable (word ∷ []) are = word_printable word are.0.bytes
spaced_printable (word ∷ next ∷ words) are =
    list_all-append is_printable word (32 ∷ spaced (next ∷ words))
    ∙ rw (word_printable word are.0.bytes) (spaced_printable (next ∷ words) are.1)

-- a word that is cut off before a space, and at the end
kept_before : (word : List ℕ) (words : List (List ℕ)) → filter (λ w. not (is_empty w)) (word ∷ words) ≡ word_before word (filter (λ w. not (is_empty w)) words)
kept_before [] words = refl
kept_before (b ∷ word) words = refl

pub words_of-cut : (word more : List ℕ) → list_all is_no_space word ≡ true → words_of (word ++ 32 ∷ more) ≡ word_before word (words_of more)
unfolding words_of
words_of-cut word more all =
    ap (filter (λ (w : List ℕ). not (is_empty w))) (piece_before word more all) ∙ kept_before word (pieces 32 more)

pub words_of-last : (word : List ℕ) → list_all is_no_space word ≡ true → words_of word ≡ word_before word (words_of [])
unfolding words_of
words_of-last word all =
    ap (filter (λ (w : List ℕ). not (is_empty w))) (piece_alone word all) ∙ kept_before word []

-- a line whose first word is a number says something
not_skipped : (b : ℕ) (text : List ℕ) → is_digit b ≡ true → is_skipped (b ∷ text) ≡ false
not_skipped b text digit = grind arith

pub spaced_says : (word : List ℕ) (words : List (List ℕ)) → 0 < length word → list_all is_digit word ≡ true → is_skipped (spaced (word ∷ words)) ≡ false
spaced_says [] words some digits = absurd (omega arith)
spaced_says (b ∷ word) [] some digits = not_skipped b word (and_parts (is_digit b) (list_all is_digit word) digits).0
spaced_says (b ∷ word) (next ∷ words) some digits = not_skipped b (word ++ 32 ∷ spaced (next ∷ words)) (and_parts (is_digit b) (list_all is_digit word) digits).0

-- words after a first one, each after a space
pub spaced_each : (word : List ℕ) (words : List (List ℕ)) → spaced (word ∷ words) ≡ word ++ flat_map (λ w. 32 ∷ w) words
spaced_each word [] = sym (append-nil word)
spaced_each word (next ∷ words) = ap (λ (rest : List ℕ). word ++ 32 ∷ rest) (spaced_each next words)
