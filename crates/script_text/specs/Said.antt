-- The words after the name of an operation, each with a space before it.
use Rattle.std.specs.Prelude.{ℕ, List, [], ◌∷◌, ◌++◌, decimal, flat_map}
use Rattle.script_model.specs.Text.{dashed, hex_text}
use Rattle.script_text.specs.declared.said.{Behind.{Behind, TheVariants.{Nothing, One, Two, Three, Labels}}, Word.{Word, TheVariants.{Number, Hex, Dashed, Label}}}

abbrev pub word_text : Word → List ℕ
word_text (Number n) = 32 ∷ decimal n
word_text (Hex bytes) = 32 ∷ hex_text bytes.now
word_text (Dashed bytes) = 32 ∷ dashed bytes.now
word_text (Label label) = 32 ∷ label.now

abbrev pub behind_text : Behind → List ℕ
behind_text Nothing = []
behind_text (One word) = word_text word
behind_text (Two word next) = word_text word ++ word_text next
behind_text (Three word next last) = word_text word ++ word_text next ++ word_text last
behind_text (Labels labels) = flat_map (λ label. 32 ∷ label) labels.now
