-- The small image of the worked examples: four blocks of 64 bytes and a log of 256.
use Rattle.script_model.proofs.Words.{◌*◌, [], ◌∷◌, ◌++◌, None, Some, flat_map, replicate, Geometry, Line, Op, operation_of, after, replies, number_of, words_of, World, fresh, empty_history}
use Rattle.std.specs.Prelude.{ℕ, List, Option, Result, Ok, Err}
pub use Rattle.iso_model.proofs.Rows.{small}

-- the world of an image of this geometry that was just made
abbrev pub made : Geometry → World
made g = fresh g 1 (empty_history g)

-- the lines, each with its line feed
abbrev pub text : List (List ℕ) → List ℕ
text lines = flat_map (λ line. line ++ 10 ∷ []) lines

-- a line of a client, whether or not its operation is open
abbrev pub said_by : Option ℕ → Result Op ℕ → List (ℕ × Line)
said_by (Some client) (Ok op) = (1, record { client = client; op = op }) ∷ []
said_by (Some client) (Err cause) = []
said_by None op = []

abbrev pub line_of : List (List ℕ) → List (ℕ × Line)
line_of (client ∷ name ∷ arguments) = said_by (number_of client) (operation_of name arguments)
line_of (client ∷ []) = []
line_of [] = []

abbrev pub lines_of : List (List ℕ) → List (ℕ × Line)
lines_of texts = flat_map (λ text. line_of (words_of text)) texts

-- what a world answers to these lines
abbrev pub answers : World → List (List ℕ) → List ℕ
answers W texts = replies W (lines_of texts)

-- the world after them
abbrev pub after_lines : World → List (List ℕ) → World
after_lines W texts = after W (lines_of texts)

-- n bytes in hexadecimal, all zero
abbrev pub zero_text : ℕ → List ℕ
zero_text n = replicate (2 * n) 48
