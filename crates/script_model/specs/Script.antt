-- The language of scripts: what a line says, what a whole input says, and what it is answered.
use Rattle.std.specs.{Prelude.{ℕ, ◌+◌, Bool, true, ◌&&◌, ◌||◌, ◌==◌, if◌then◌else◌, List, [], ◌∷◌, ◌++◌, Option, Some, None, Result, Ok, Err, length, take, nat_eq, nat_le, nat_lt, ok_or, codes, bytes_eq}, List.list_all}
use Rattle.iso_model.specs.{declared.limits.TheConstants.{MAX_INPUT, MAX_LINE}, declared.access.Mode.Mode, Labels.label_of, World.World}
use Rattle.script_model.specs.{declared.script.TheConstants.MAX_LABELS, declared.script.BadLine.BadLine, declared.script.Line.Line, declared.script.Op.Op, declared.script.Op.TheVariants.{Begin, End, Abort, Put, Read, Get, Write, Fill, Mark, Release, Takeover, Await, Group, Trim, Stat, Compact, Upgrade, HashPut, HashGet, HashDelete, TreePut, TreeGet, TreeDelete, TreeScan, FileNew, FileWrite, FileRead, FileMove, FileDelete}, declared.script.Parsed.Parsed, declared.script.Parsed.TheVariants.{Skip, Line as Says}, Step.step, Text.{pieces, is_empty, words_of, number_of, hex_of, mode_of, reply_line}}

-- a value, or else the cause; the next test follows only a value
infixl 10 ◌>>=◌
abbrev pub ◌>>=◌ : {A B : Type 0} → Result A ℕ → (A → Result B ℕ) → Result B ℕ
(Ok x) >>= next = next x
(Err cause) >>= next = Err cause

-- a line that says nothing: empty, only spaces, or a comment
abbrev pub is_skipped : List ℕ → Bool
is_skipped [] = true
is_skipped (b ∷ text) = (b == 35) || list_all (nat_eq 32) (b ∷ text)

abbrev pub is_printable : ℕ → Bool
is_printable b = nat_le 32 b && nat_le b 126

-- the arguments that are numbers and bytes
abbrev pub number_argument : List ℕ → Result ℕ ℕ
number_argument word = ok_or (number_of word) 4

abbrev pub hex_argument : List ℕ → Result (List ℕ) ℕ
hex_argument word = ok_or (hex_of word) 5

abbrev pub label_argument : List ℕ → Result (List ℕ) ℕ
label_argument word = ok_or (label_of word) 6

abbrev pub mode_argument : List ℕ → Result Mode ℕ
mode_argument word = ok_or (mode_of word) 10

-- the client that the first word names, 1 to 64
abbrev pub client_in_range : Option ℕ → Result ℕ ℕ
client_in_range (Some n) = if nat_le 1 n && nat_le n 64 then Ok n else Err 1
client_in_range None = Err 1

-- the operations, each with its arguments, which are tested from the left
abbrev pub bare : Op → List (List ℕ) → Result Op ℕ
bare op [] = Ok op
bare op (word ∷ words) = Err 3

-- a mode, or nothing
abbrev pub begin_arguments : List (List ℕ) → Result Op ℕ
begin_arguments [] = Ok (Begin None)
begin_arguments (mode ∷ []) = do
  m ← mode_argument mode
  Ok (Begin (Some m))
begin_arguments (mode ∷ word ∷ words) = Err 3

-- a number
abbrev pub one_number : (ℕ → Op) → List (List ℕ) → Result Op ℕ
one_number op (number ∷ []) = do
  n ← number_argument number
  Ok (op n)
one_number op [] = Err 3
one_number op (number ∷ word ∷ words) = Err 3

-- two numbers
abbrev pub two_numbers : (ℕ → ℕ → Op) → List (List ℕ) → Result Op ℕ
two_numbers op (first ∷ second ∷ []) = do
  m ← number_argument first
  n ← number_argument second
  Ok (op m n)
two_numbers op words = Err 3

-- three numbers
abbrev pub three_numbers : (ℕ → ℕ → ℕ → Op) → List (List ℕ) → Result Op ℕ
three_numbers op (first ∷ second ∷ third ∷ []) = do
  l ← number_argument first
  m ← number_argument second
  n ← number_argument third
  Ok (op l m n)
three_numbers op words = Err 3

-- a number and bytes
abbrev pub number_and_bytes : (ℕ → List ℕ → Op) → List (List ℕ) → Result Op ℕ
number_and_bytes op (number ∷ bytes ∷ []) = do
  n ← number_argument number
  h ← hex_argument bytes
  Ok (op n h)
number_and_bytes op words = Err 3

-- two numbers and bytes
abbrev pub put_arguments : List (List ℕ) → Result Op ℕ
put_arguments (block ∷ off ∷ bytes ∷ []) = do
  b ← number_argument block
  o ← number_argument off
  h ← hex_argument bytes
  Ok (Put b o h)
put_arguments words = Err 3

-- a label
abbrev pub one_label : (List ℕ → Op) → List (List ℕ) → Result Op ℕ
one_label op (text ∷ []) = do
  l ← label_argument text
  Ok (op l)
one_label op words = Err 3

-- labels
abbrev pub labels_of : List (List ℕ) → Result (List (List ℕ)) ℕ
labels_of [] = Ok []
labels_of (text ∷ words) = do
  l ← label_argument text
  more ← labels_of words
  Ok (l ∷ more)

-- at least one label, and no more than a group has
abbrev pub group_arguments : List (List ℕ) → Result Op ℕ
group_arguments words =
    if nat_le 1 (length words) && nat_le (length words) MAX_LABELS then (do
      labels ← labels_of words
      Ok (Group labels))
    else Err 3

-- a key or a value of a store, or the name of a file: bytes, or a dash for none
abbrev pub store_argument : List ℕ → Result (List ℕ) ℕ
store_argument word = if bytes_eq word (codes "-") then Ok [] else hex_argument word

-- a key, or the name of a file
abbrev pub one_key : (List ℕ → Op) → List (List ℕ) → Result Op ℕ
one_key op (key ∷ []) = do
  k ← store_argument key
  Ok (op k)
one_key op words = Err 3

-- a key and a value, or two names of files
abbrev pub key_and_value : (List ℕ → List ℕ → Op) → List (List ℕ) → Result Op ℕ
key_and_value op (key ∷ value ∷ []) = do
  k ← store_argument key
  v ← store_argument value
  Ok (op k v)
key_and_value op words = Err 3

-- two keys and a number
abbrev pub scan_arguments : List (List ℕ) → Result Op ℕ
scan_arguments (from ∷ to ∷ most ∷ []) = do
  f ← store_argument from
  t ← store_argument to
  n ← number_argument most
  Ok (TreeScan f t n)
scan_arguments words = Err 3

-- the name of a file, a number and bytes, of which there is at least one
abbrev pub write_arguments : List (List ℕ) → Result Op ℕ
write_arguments (name ∷ off ∷ bytes ∷ []) = do
  n ← store_argument name
  o ← number_argument off
  h ← hex_argument bytes
  Ok (FileWrite n o h)
write_arguments words = Err 3

-- the name of a file and two numbers
abbrev pub read_arguments : List (List ℕ) → Result Op ℕ
read_arguments (name ∷ off ∷ len ∷ []) = do
  n ← store_argument name
  o ← number_argument off
  l ← number_argument len
  Ok (FileRead n o l)
read_arguments words = Err 3

-- the operation on files of this name
unfoldable pub file_operation : (name : List ℕ) → (arguments : List (List ℕ)) → Result Op ℕ
file_operation name arguments =
    if bytes_eq name (codes "fnew") then one_key FileNew arguments
    else if bytes_eq name (codes "fwrite") then write_arguments arguments
    else if bytes_eq name (codes "fread") then read_arguments arguments
    else if bytes_eq name (codes "fmove") then key_and_value FileMove arguments
    else if bytes_eq name (codes "fdel") then one_key FileDelete arguments
    else Err 2

-- the operation on the tree store of this name, or on files
unfoldable pub tree_operation : (name : List ℕ) → (arguments : List (List ℕ)) → Result Op ℕ
tree_operation name arguments =
    if bytes_eq name (codes "tput") then key_and_value TreePut arguments
    else if bytes_eq name (codes "tget") then one_key TreeGet arguments
    else if bytes_eq name (codes "tdel") then one_key TreeDelete arguments
    else if bytes_eq name (codes "tscan") then scan_arguments arguments
    else file_operation name arguments

-- the operation on a store of this name
unfoldable pub store_operation : (name : List ℕ) → (arguments : List (List ℕ)) → Result Op ℕ
store_operation name arguments =
    if bytes_eq name (codes "hput") then key_and_value HashPut arguments
    else if bytes_eq name (codes "hget") then one_key HashGet arguments
    else if bytes_eq name (codes "hdel") then one_key HashDelete arguments
    else tree_operation name arguments

-- the operation of this name, if it is none of a transaction's accesses, its begin and its end
unfoldable pub other_operation : (name : List ℕ) → (arguments : List (List ℕ)) → Result Op ℕ
other_operation name arguments =
    if bytes_eq name (codes "release") then one_label Release arguments
    else if bytes_eq name (codes "takeover") then one_label Takeover arguments
    else if bytes_eq name (codes "await") then one_label Await arguments
    else if bytes_eq name (codes "group") then group_arguments arguments
    else if bytes_eq name (codes "trim") then bare Trim arguments
    else if bytes_eq name (codes "stat") then bare Stat arguments
    else if bytes_eq name (codes "compact") then bare Compact arguments
    else if bytes_eq name (codes "upgrade") then bare Upgrade arguments
    else store_operation name arguments

-- the operation of this name
unfoldable pub operation_of : (name : List ℕ) → (arguments : List (List ℕ)) → Result Op ℕ
operation_of name arguments =
    if bytes_eq name (codes "begin") then begin_arguments arguments
    else if bytes_eq name (codes "put") then put_arguments arguments
    else if bytes_eq name (codes "read") then one_number Read arguments
    else if bytes_eq name (codes "get") then three_numbers Get arguments
    else if bytes_eq name (codes "write") then number_and_bytes Write arguments
    else if bytes_eq name (codes "fill") then number_and_bytes Fill arguments
    else if bytes_eq name (codes "mark") then two_numbers Mark arguments
    else if bytes_eq name (codes "end") then bare End arguments
    else if bytes_eq name (codes "abort") then bare Abort arguments
    else other_operation name arguments

-- what the words of a line say
unfoldable pub said : List (List ℕ) → Result Parsed ℕ
said [] = Err 1
said (client ∷ []) = do
  c ← client_in_range (number_of client)
  Err 2
said (client ∷ name ∷ arguments) = do
  c ← client_in_range (number_of client)
  op ← operation_of name arguments
  Ok (Says (record { client = c; op = op }))

-- what a line says, or the first test that it fails
unfoldable pub parse : List ℕ → Result Parsed ℕ
parse text =
    if nat_lt MAX_LINE (length text) then Err 7
    else if is_skipped text then Ok Skip
    else if list_all is_printable text then said (words_of text)
    else Err 8

-- a line without the one carriage return at its end
abbrev pub without_return : List ℕ → List ℕ
without_return [] = []
without_return (b ∷ []) = if b == 13 then [] else b ∷ []
without_return (b ∷ c ∷ text) = b ∷ without_return (c ∷ text)

-- what the bytes before a line feed say: a carriage return counts in their length alone
unfoldable pub parse_whole : List ℕ → Result Parsed ℕ
parse_whole piece = if nat_lt MAX_LINE (length piece) then Err 7 else parse (without_return piece)

-- the numbered lines of an input up to the first bad one, and that one, if there is one
pub record Script : Type 0 where
  pub lines : List (ℕ × Line)
  pub bad : Option BadLine

abbrev pub no_lines : Script
no_lines = record { lines = []; bad = None }

abbrev pub bad_line : (number cause : ℕ) → Script
bad_line number cause = record { lines = []; bad = Some (record { line = number; cause = cause }) }

-- a line before the rest of the script
abbrev pub before_script : (number : ℕ) → Result Parsed ℕ → Script → Script
before_script number (Ok Skip) rest = rest
before_script number (Ok (Says line)) rest = record { lines = (number, line) ∷ rest.lines; bad = rest.bad }
before_script number (Err cause) rest = bad_line number cause

-- the last piece, which no line feed ends: a line unless it is empty; where the input was cut there, cause 9,
-- but for one that is too long
abbrev pub last_piece : (cut : Bool) → (number : ℕ) → List ℕ → Script
last_piece cut number piece =
    if cut && nat_le (length piece) MAX_LINE then bad_line number 9 else if is_empty piece then no_lines else before_script number (parse piece) no_lines

-- the script of these pieces, the first of which is line number
abbrev pub script_from : (cut : Bool) → (number : ℕ) → List (List ℕ) → Script
script_from cut number [] = no_lines
script_from cut number (piece ∷ []) = last_piece cut number piece
script_from cut number (piece ∷ next ∷ more) = before_script number (parse_whole piece) (script_from cut (number + 1) (next ∷ more))

-- what an input says; of one that is too long, its whole lines among the bytes taken, and then cause 9
unfoldable pub script : List ℕ → Script
script bytes = script_from (nat_le MAX_INPUT (length bytes)) 1 (pieces 10 (take MAX_INPUT bytes))

-- the text of the replies to these lines, and the world after them
abbrev pub replies : World → List (ℕ × Line) → List ℕ
replies W [] = []
replies W (line ∷ lines) = reply_line line.1.client (step W line.1.client line.1.op).0 ++ replies (step W line.1.client line.1.op).1 lines

abbrev pub after : World → List (ℕ × Line) → World
after W [] = W
after W (line ∷ lines) = after (step W line.1.client line.1.op).1 lines
