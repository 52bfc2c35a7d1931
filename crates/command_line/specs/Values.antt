-- What words look like, and the values that they spell.
use Rattle.std.specs.Prelude.{ℕ, ◌^◌, ◌&&◌, ◌==◌, Bool, false, [], ◌∷◌, Option, Some, None, if◌then◌else◌, option_and_then, nat_le, nat_lt}
use Rattle.clap.specs.Words.{Text}
use Rattle.iso_model.specs.{declared.access.Mode.Mode, declared.access.Mode.TheVariants.Serial}
use Rattle.script_model.specs.Text.{is_decimal, mode_of, number_of, value_of}

abbrev pub begins_with_hyphen : Text → Bool
begins_with_hyphen [] = false
begins_with_hyphen (b ∷ word) = b == 45

-- the number that a word spells, or what is where there is no word
abbrev pub number_or : (otherwise : ℕ) → Option Text → Option ℕ
number_or otherwise None = Some otherwise
number_or otherwise (Some word) = number_of word

-- the mode that a word names, serial where there is no word
abbrev pub mode_or_serial : Option Text → Option Mode
mode_or_serial None = Some Serial
mode_or_serial (Some word) = mode_of word

-- the number that a word spells, at most 2 ^ 64 - 1
unfoldable pub long_number_of : Text → Option ℕ
long_number_of word = if is_decimal word && nat_lt (value_of word) (2 ^ 64) then Some (value_of word) else None

-- the number of rounds that a word spells, at most 100,000
abbrev pub count_of : Text → Option ℕ
count_of word = option_and_then (λ n. if nat_le n 100000 then Some n else None) (number_of word)
