-- The names of transactions that no client has.
use Rattle.std.specs.{Prelude.{ℕ, ◌+◌, ◌*◌, Bool, ◌&&◌, ◌||◌, cond, List, [], ◌∷◌, Option, Some, None, length, nat_le}, List.list_all}

abbrev pub is_digit : ℕ → Bool
is_digit b = nat_le 48 b && nat_le b 57

abbrev pub is_label_byte : ℕ → Bool
is_label_byte b = is_digit b || (nat_le 97 b && nat_le b 122)

-- whether the text is a label: 1 to 16 bytes from a-z and 0-9
abbrev pub is_label : List ℕ → Bool
is_label text = nat_le 1 (length text) && nat_le (length text) 16 && list_all is_label_byte text

-- the number whose digits to the base 256 are the bytes of the text, the first byte the lowest
abbrev pub key_of : List ℕ → ℕ
key_of [] = 0
key_of (byte ∷ text) = key_of text * 256 + byte

abbrev pub label_of : List ℕ → Option (List ℕ)
label_of text = cond (is_label text) (Some text) None
