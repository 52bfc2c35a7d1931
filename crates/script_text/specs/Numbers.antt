-- Two numbers and a word behind them.
use Rattle.std.specs.Prelude.{◌≡◌, ℕ, List, [], ◌∷◌, Result, Ok, Err}
use Rattle.script_model.specs.{Script.{◌>>=◌, number_argument}, Text.words_of}

-- a text begins with a word that spells this number, and these bytes follow the word
abbrev pub BeginsWith : (text : List ℕ) (number : ℕ) (rest : List ℕ) → Type 0
BeginsWith text number rest = (word : List ℕ) × (words_of text ≡ word ∷ words_of rest) × (number_argument word ≡ Ok number)

-- the numbers that the first two of three words spell, and the third word
abbrev pub numbers_and_word : List (List ℕ) → Result (ℕ × ℕ × List ℕ) ℕ
numbers_and_word (first ∷ second ∷ third ∷ []) = do
  m ← number_argument first
  n ← number_argument second
  Ok (m, n, third)
numbers_and_word words = Err 3
