-- What contracts see of a text that grows at its front.
use Rattle.std.specs.Prelude.{ℕ, List, []}
use Rattle.script_text.specs.declared.ending.TheConstants.{MOST_BYTES}

-- the text, and how many more bytes fit before it
pub record WithFront : Type 0 where
  pub text : List ℕ
  pub room : ℕ

-- no text
abbrev pub no_text : WithFront
no_text = record { text = []; room = MOST_BYTES }
