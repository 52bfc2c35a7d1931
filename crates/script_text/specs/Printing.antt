-- What a step of the printer asks for and leaves.
use Rattle.std.specs.Prelude.{◌≡◌, ◌<◌, ◌≤◌, ℕ, List, ◌++◌, length}
use Rattle.script_model.specs.{declared.script.Reply.Reply, declared.script.Reply.TheVariants.{Found, Grouped, Pairs, Shown}, Text.reply_text}
use Rattle.script_text.specs.declared.reply.TheConstants.{MOST_SHOWN}

-- the old bytes stand, and others may follow them
pub record Extends (old new : List ℕ) : Type 0 where
  pub rest : List ℕ
  pub is : new ≡ old ++ rest

-- a reply whose line fits in place
abbrev pub IsShort : Reply → Type 0
IsShort (Shown bytes) = length bytes ≤ MOST_SHOWN
IsShort (Found bytes) = length bytes ≤ MOST_SHOWN
IsShort (Pairs pairs) = ⊥
IsShort (Grouped answers) = ⊥
IsShort reply = Unit {0}

-- a reply that tells no pairs, and not how a group ended
abbrev pub IsOther : Reply → Type 0
IsOther (Pairs pairs) = ⊥
IsOther (Grouped answers) = ⊥
IsOther reply = Unit {0}

-- a reply that tells these bytes, which are too many for that
pub record IsLong (reply : Reply) (bytes : List ℕ) : Type 0 where
  pub text : reply_text reply ≡ reply_text (Shown bytes)
  pub many : MOST_SHOWN < length bytes
  pub long : ¬ IsShort reply
