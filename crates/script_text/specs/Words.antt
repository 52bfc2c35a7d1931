-- The bytes of a line's words.
use Rattle.std.specs.Prelude.{ℕ, ◌==◌, Bool, true, false, ◌&&◌, cond, not, List, [], ◌∷◌, nat_le}
use Rattle.script_model.specs.Text.{is_empty}

-- a byte of a word: printable, and no space
abbrev pub is_word_byte : ℕ → Bool
is_word_byte b = nat_le 33 b && nat_le b 126

-- a byte that ends no word
abbrev pub is_no_space : ℕ → Bool
is_no_space b = not (b == 32)

-- a word before others, if it has a byte
abbrev pub word_before : List ℕ → List (List ℕ) → List (List ℕ)
word_before word words = cond (is_empty word) words (word ∷ words)

-- whether a word has a byte, and no zero before others
abbrev pub may_be_decimal : List ℕ → Bool
may_be_decimal [] = false
may_be_decimal (b ∷ []) = true
may_be_decimal (b ∷ c ∷ word) = not (b == 48)
