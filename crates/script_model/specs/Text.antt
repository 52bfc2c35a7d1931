-- The words and numbers of a line, and the texts of the replies.
use Rattle.std.specs.{Prelude.{ℕ, ◌+◌, ◌-◌, ◌*◌, ◌/◌, ◌%◌, ◌^◌, Bool, true, false, ◌&&◌, ◌==◌, not, cond, if◌then◌else◌, List, [], ◌∷◌, ◌++◌, Option, Some, None, bytes_eq, nat_le, nat_lt, decimal, codes, filter, fold, flat_map}, List.list_all}
use Rattle.iso_model.specs.{declared.access.Clash.Clash, declared.access.GroupReply.GroupReply, declared.access.Mode.Mode, declared.access.Mode.TheVariants.{Serial, Snapshot}, Labels.is_digit}
use Rattle.iso_model.specs.declared.access.GroupReply.TheVariants as member
use Rattle.script_model.specs.{declared.script.Reply.Reply, declared.script.Reply.TheVariants.{Done, Began, Shown, Committed, ReadOnly, Conflict, Grouped, Trimmed, Compacted, Upgraded, Numbers, Found, Pairs, Missing, InTx, NotInTx, ModeFixed, NoStore, StoreMode, BadKey, BadValue, BadName, Exists, BadBlock, BadRange, NoAccess, TooManyMarks, TooManyAccesses, Broken, NoBlocks, NoHandle, LabelTaken, TooManyTx, Worn, LogFull}}

-- the byte before the first piece
abbrev pub before_piece : ℕ → List (List ℕ) → List (List ℕ)
before_piece b [] = (b ∷ []) ∷ []
before_piece b (piece ∷ pieces) = (b ∷ piece) ∷ pieces

-- the pieces of a text between the separators, one more than there are separators
abbrev pub pieces : (separator : ℕ) → List ℕ → List (List ℕ)
pieces separator [] = [] ∷ []
pieces separator (b ∷ text) = cond (b == separator) ([] ∷ pieces separator text) (before_piece b (pieces separator text))

abbrev pub is_empty : List ℕ → Bool
is_empty [] = true
is_empty (b ∷ text) = false

-- the words of a line, between spaces
unfoldable pub words_of : List ℕ → List (List ℕ)
words_of text = filter (λ word. not (is_empty word)) (pieces 32 text)

-- the value of decimal digits
abbrev pub value_of : List ℕ → ℕ
value_of digits = fold (λ n d. 10 * n + (d - 48)) 0 digits

-- whether the word is decimal digits without a leading zero, but for 0 itself
abbrev pub is_decimal : List ℕ → Bool
is_decimal [] = false
is_decimal (b ∷ []) = is_digit b
is_decimal (b ∷ c ∷ word) = not (b == 48) && list_all is_digit (b ∷ c ∷ word)

-- the number that a word spells, at most 2 ^ 32 - 1
unfoldable pub number_of : List ℕ → Option ℕ
number_of word = cond (is_decimal word && nat_lt (value_of word) (2 ^ 32)) (Some (value_of word)) None

-- the value of a hexadecimal digit of either case
abbrev pub hex_digit : ℕ → Option ℕ
hex_digit b =
    cond (is_digit b) (Some (b - 48))
    (cond (nat_le 97 b && nat_le b 102) (Some (b - 87))
    (cond (nat_le 65 b && nat_le b 70) (Some (b - 55)) None))

abbrev pub hex_pair : Option ℕ → Option ℕ → Option (List ℕ) → Option (List ℕ)
hex_pair (Some high) (Some low) (Some bytes) = Some ((16 * high + low) ∷ bytes)
hex_pair (Some high) (Some low) None = None
hex_pair (Some high) None rest = None
hex_pair None low rest = None

-- the bytes that pairs of hexadecimal digits spell
abbrev pub hex_pairs : List ℕ → Option (List ℕ)
hex_pairs [] = Some []
hex_pairs (a ∷ []) = None
hex_pairs (a ∷ b ∷ word) = hex_pair (hex_digit a) (hex_digit b) (hex_pairs word)

-- the bytes that a word spells, at least one
unfoldable pub hex_of : List ℕ → Option (List ℕ)
hex_of word = cond (is_empty word) None (hex_pairs word)

-- the mode that a word names
abbrev pub mode_of : List ℕ → Option Mode
mode_of word = if bytes_eq word (codes "serial") then Some Serial else if bytes_eq word (codes "snapshot") then Some Snapshot else None

-- a hexadecimal digit in lower case
abbrev pub digit_of : ℕ → ℕ
digit_of n = cond (nat_lt n 10) (48 + n) (87 + n)

-- bytes in hexadecimal
abbrev pub hex_text : List ℕ → List ℕ
hex_text bytes = flat_map (λ b. digit_of (b / 16) ∷ digit_of (b % 16) ∷ []) bytes

-- a key or a value of a store, or bytes of a file, as a word, which is a dash where it is empty
abbrev pub dashed : List ℕ → List ℕ
dashed [] = codes "-"
dashed (b ∷ bytes) = hex_text (b ∷ bytes)

-- a pair of a store after a space
abbrev pub pair_text : List ℕ × List ℕ → List ℕ
pair_text pair = 32 ∷ dashed pair.0 ++ 61 ∷ dashed pair.1

-- where a transaction conflicts
abbrev pub clash_text : Clash → List ℕ
clash_text c = codes "conflict with " ++ decimal c.commit ++ codes " block " ++ decimal c.block ++ codes " at " ++ decimal c.at

-- what the log has no room for
abbrev pub full_text : (need free : ℕ) → List ℕ
full_text need free = codes "log full need " ++ decimal need ++ codes " free " ++ decimal free

-- what a label of a group is answered
unfoldable pub label_text : Option GroupReply → List ℕ
label_text (Some (member.Committed n)) = codes "commit " ++ decimal n
label_text (Some member.ReadOnly) = codes "read-only"
label_text (Some (member.Conflict c)) = clash_text c
label_text (Some (member.Full need free)) = full_text need free
label_text (Some member.Worn) = codes "worn"
label_text None = codes "none"

-- what the labels of a group are answered: after a space, with a semicolon and a space between two of them
abbrev pub labels_text : List (Option GroupReply) → List ℕ
labels_text [] = []
labels_text (answer ∷ answers) = 32 ∷ label_text answer ++ flat_map (λ a. codes "; " ++ label_text a) answers

-- what a reply says
unfoldable pub reply_text : Reply → List ℕ
reply_text Done = codes "ok"
reply_text (Began n) = codes "ok begin " ++ decimal n
reply_text (Shown bytes) = codes "ok " ++ hex_text bytes
reply_text (Committed n) = codes "ok commit " ++ decimal n
reply_text ReadOnly = codes "ok read-only"
reply_text (Conflict c) = clash_text c
reply_text (Grouped answers) = codes "ok" ++ labels_text answers
reply_text (Trimmed n) = codes "ok trim " ++ decimal n
reply_text (Compacted n) = codes "ok compact " ++ decimal n
reply_text (Upgraded n) = codes "ok upgrade " ++ decimal n
reply_text (Numbers last base trim live used versions) =
    codes "ok last " ++ decimal last ++ codes " base " ++ decimal base ++ codes " trim " ++ decimal trim
    ++ codes " live " ++ decimal live ++ codes " used " ++ decimal used ++ codes " versions " ++ decimal versions
reply_text (Found value) = codes "ok " ++ dashed value
reply_text (Pairs pairs) = codes "ok" ++ flat_map pair_text pairs
reply_text Missing = codes "ok none"
reply_text InTx = codes "in-tx"
reply_text NotInTx = codes "not-in-tx"
reply_text ModeFixed = codes "mode-fixed"
reply_text NoStore = codes "no-store"
reply_text StoreMode = codes "store-mode"
reply_text BadKey = codes "bad-key"
reply_text BadValue = codes "bad-value"
reply_text BadName = codes "bad-name"
reply_text Exists = codes "exists"
reply_text BadBlock = codes "bad-block"
reply_text BadRange = codes "bad-range"
reply_text NoAccess = codes "no-access"
reply_text TooManyMarks = codes "too-many-marks"
reply_text TooManyAccesses = codes "too-many-accesses"
reply_text (Broken block) = codes "broken block " ++ decimal block
reply_text (NoBlocks need free) = codes "no-blocks need " ++ decimal need ++ codes " free " ++ decimal free
reply_text NoHandle = codes "no-handle"
reply_text LabelTaken = codes "label-taken"
reply_text TooManyTx = codes "too-many-tx"
reply_text Worn = codes "worn"
reply_text (LogFull need free) = full_text need free

-- the line of a reply: the client, a space, what it is told, and a line feed
abbrev pub reply_line : (client : ℕ) → Reply → List ℕ
reply_line client reply = decimal client ++ 32 ∷ [] ++ reply_text reply ++ 10 ∷ []
