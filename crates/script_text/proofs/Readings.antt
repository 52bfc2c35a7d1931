-- A printed line is read as that line, and as no other.
use Rattle.script_text.proofs.{Words.{◌≡◌, ◌∙◌, ap, sym, refl, bytes_eq, codes, ◌==◌, ◌&&◌, ◌/◌, ◌%◌, true, false, ℕ, ◌≤◌, ◌<◌, ◌^◌, IsTrue, List, [], ◌∷◌, length, Some, Result, Ok, Err, decimal, arith, Serial, Snapshot, MAX_LINE, Line, Op, Begin, Put, Read, Get, Write, Fill, Mark, Release, Takeover, Await, Group, HashPut, HashGet, HashDelete, TreePut, TreeGet, TreeDelete, TreeScan, FileNew, FileWrite, FileRead, FileMove, FileDelete, ◌>>=◌, client_in_range, group_arguments, key_and_value, labels_of, AllByRecursion, MAX_LABELS, le-leb, number_argument, number_and_bytes, one_key, one_label, one_number, operation_of, other_operation, store_argument, store_operation, tree_operation, file_operation, parse, put_arguments, read_arguments, write_arguments, said, scan_arguments, three_numbers, two_numbers, dashed, digit_of, hex_text, number_of, words_of, is_label, AreBytes, arguments_of, line_text, line_words, name_of, spaced, AreSome, IsLine, IsSayable, Says}, LineLemmas.parse-said, Numerals.{IsWord, decimal_digits, decimal_word, hex_argument-printed, hex_word, label_argument-printed, label_word, number_of-printed}, Spaces.{AreWords, spaced_printable, spaced_says, words_of-spaced}}

name_word : (op : Op) → IsWord (name_of op)
name_word (Put block off bytes) = record { some = omega arith; bytes = refl }
name_word (Write block bytes) = record { some = omega arith; bytes = refl }
name_word (Fill block bytes) = record { some = omega arith; bytes = refl }
name_word (FileWrite name off bytes) = record { some = omega arith; bytes = refl }
name_word x = record { some = omega arith; bytes = refl }

dashed_word : (bytes : List ℕ) → AreBytes bytes → IsWord (dashed bytes)
dashed_word [] are = record { some = omega arith; bytes = refl }
dashed_word (b ∷ bytes) are = hex_word (b ∷ bytes) (record { some = omega arith; values = are })

label_words : (labels : List (List ℕ)) → AllByRecursion (λ label. IsTrue (is_label label)) labels → AreWords labels
label_words [] are = tt
label_words (label ∷ labels) are = (label_word label are.0, label_words labels are.1)

arguments_words : (op : Op) → IsSayable op → AreWords (arguments_of op)
arguments_words (Begin (Some Serial)) can = (record { some = omega arith; bytes = refl }, tt)
arguments_words (Begin (Some Snapshot)) can = (record { some = omega arith; bytes = refl }, tt)
arguments_words (Put block off bytes) can = (decimal_word block can.0, (decimal_word off can.1, (hex_word bytes can.2, tt)))
arguments_words (Read block) can = (decimal_word block can, tt)
arguments_words (Get block off len) can = (decimal_word block can.0, (decimal_word off can.1, (decimal_word len can.2, tt)))
arguments_words (Write block bytes) can = (decimal_word block can.0, (hex_word bytes can.1, tt))
arguments_words (Fill block bytes) can = (decimal_word block can.0, (hex_word bytes can.1, tt))
arguments_words (Mark off len) can = (decimal_word off can.0, (decimal_word len can.1, tt))
arguments_words (Release label) can = (label_word label can, tt)
arguments_words (Takeover label) can = (label_word label can, tt)
arguments_words (Await label) can = (label_word label can, tt)
arguments_words (Group labels) can = label_words labels can.2
arguments_words (HashPut key value) can = (dashed_word key can.0, (dashed_word value can.1, tt))
arguments_words (HashGet key) can = (dashed_word key can, tt)
arguments_words (HashDelete key) can = (dashed_word key can, tt)
arguments_words (TreePut key value) can = (dashed_word key can.0, (dashed_word value can.1, tt))
arguments_words (TreeGet key) can = (dashed_word key can, tt)
arguments_words (TreeDelete key) can = (dashed_word key can, tt)
arguments_words (TreeScan from to most) can = (dashed_word from can.0, (dashed_word to can.1, (decimal_word most can.2, tt)))
arguments_words (FileNew name) can = (dashed_word name can, tt)
arguments_words (FileWrite name off bytes) can = (dashed_word name can.0, (decimal_word off can.1, (hex_word bytes can.2, tt)))
arguments_words (FileRead name off len) can = (dashed_word name can.0, (decimal_word off can.1, (decimal_word len can.2, tt)))
arguments_words (FileMove from to) can = (dashed_word from can.0, (dashed_word to can.1, tt))
arguments_words (FileDelete name) can = (dashed_word name can, tt)
arguments_words x can = tt

line_are_words : (line : Line) → IsLine line → AreWords (line_words line)
line_are_words line is = (decimal_word line.client (omega (arith, is.last)), (name_word line.op, arguments_words line.op is.op))

pub words_of-printed : (line : Line) → IsLine line → words_of (line_text line) ≡ line_words line
unfolding line_text
words_of-printed line is = words_of-spaced _ _ (line_are_words line is)

-- what follows a value that is there
after : {A B : Type 0} (next : A → Result B ℕ) (r : Result A ℕ) (x : A) → r ≡ Ok x → (r >>= next) ≡ next x
after next r x e = ap (λ s. s >>= next) e

number_printed : (n : ℕ) → n < 2 ^ 32 → number_argument (decimal n) ≡ Ok n
number_printed n small = rw (number_of-printed n small) refl

one_printed : (op : ℕ → Op) (n : ℕ) → n < 2 ^ 32 → one_number op (decimal n ∷ []) ≡ Ok (op n)
one_printed op n small = after _ _ n (number_printed n small)

two_printed : (op : ℕ → ℕ → Op) (m n : ℕ) → m < 2 ^ 32 → n < 2 ^ 32 → two_numbers op (decimal m ∷ decimal n ∷ []) ≡ Ok (op m n)
two_printed op m n first second = after _ _ m (number_printed m first) ∙ after _ _ n (number_printed n second)

three_printed : (op : ℕ → ℕ → ℕ → Op) (l m n : ℕ) → l < 2 ^ 32 → m < 2 ^ 32 → n < 2 ^ 32 → three_numbers op (decimal l ∷ decimal m ∷ decimal n ∷ []) ≡ Ok (op l m n)
three_printed op l m n first second third = after _ _ l (number_printed l first) ∙ after _ _ m (number_printed m second) ∙ after _ _ n (number_printed n third)

bytes_printed : (op : ℕ → List ℕ → Op) (n : ℕ) (bytes : List ℕ) → n < 2 ^ 32 → AreSome bytes → number_and_bytes op (decimal n ∷ hex_text bytes ∷ []) ≡ Ok (op n bytes)
bytes_printed op n bytes small are = after _ _ n (number_printed n small) ∙ after _ _ bytes (hex_argument-printed bytes are)

put_printed : (block off : ℕ) (bytes : List ℕ) → block < 2 ^ 32 → off < 2 ^ 32 → AreSome bytes → put_arguments (decimal block ∷ decimal off ∷ hex_text bytes ∷ []) ≡ Ok (Put block off bytes)
put_printed block off bytes first second are =
    after _ _ block (number_printed block first) ∙ after _ _ off (number_printed off second) ∙ after _ _ bytes (hex_argument-printed bytes are)

label_printed : (op : List ℕ → Op) (label : List ℕ) → IsTrue (is_label label) → one_label op (label ∷ []) ≡ Ok (op label)
label_printed op label is = after _ _ label (label_argument-printed label is)

labels_printed : (labels : List (List ℕ)) → AllByRecursion (λ label. IsTrue (is_label label)) labels → labels_of labels ≡ Ok labels
labels_printed [] are = refl
labels_printed (label ∷ labels) are = after _ _ label (label_argument-printed label are.0) ∙ after _ _ labels (labels_printed labels are.1)

group_printed : (labels : List (List ℕ)) → 1 ≤ length labels → length labels ≤ MAX_LABELS → AllByRecursion (λ label. IsTrue (is_label label)) labels → group_arguments labels ≡ Ok (Group labels)
group_printed labels some few are = rw (le-leb 1 (length labels) some, le-leb (length labels) MAX_LABELS few) (after _ _ labels (labels_printed labels are))

-- a key or a value, which is not a dash where it has a byte
not_dash : (x y : ℕ) (word : List ℕ) → bytes_eq (x ∷ y ∷ word) (codes "-") ≡ false
not_dash x y word = elim (x == 45) as (λ t. (t && false) ≡ false) [ true ↦ refl | false ↦ refl ]

stored_printed : (bytes : List ℕ) → AreBytes bytes → store_argument (dashed bytes) ≡ Ok bytes
stored_printed [] are = refl
stored_printed (b ∷ bytes) are = rw (not_dash (digit_of (b / 16)) (digit_of (b % 16)) (hex_text bytes)) (hex_argument-printed (b ∷ bytes) (record { some = omega arith; values = are }))

key_printed : (op : List ℕ → Op) (key : List ℕ) → AreBytes key → one_key op (dashed key ∷ []) ≡ Ok (op key)
key_printed op key are = after _ _ key (stored_printed key are)

value_printed : (op : List ℕ → List ℕ → Op) (key value : List ℕ) → AreBytes key → AreBytes value → key_and_value op (dashed key ∷ dashed value ∷ []) ≡ Ok (op key value)
value_printed op key value first second = after _ _ key (stored_printed key first) ∙ after _ _ value (stored_printed value second)

scan_printed : (from to : List ℕ) (most : ℕ) → AreBytes from → AreBytes to → most < 2 ^ 32 → scan_arguments (dashed from ∷ dashed to ∷ decimal most ∷ []) ≡ Ok (TreeScan from to most)
scan_printed from to most first second small =
    after _ _ from (stored_printed from first) ∙ after _ _ to (stored_printed to second) ∙ after _ _ most (number_printed most small)

file_written_printed : (name : List ℕ) (off : ℕ) (bytes : List ℕ) → AreBytes name → off < 2 ^ 32 → AreSome bytes
    → write_arguments (dashed name ∷ decimal off ∷ hex_text bytes ∷ []) ≡ Ok (FileWrite name off bytes)
file_written_printed name off bytes first small are =
    after _ _ name (stored_printed name first) ∙ after _ _ off (number_printed off small) ∙ after _ _ bytes (hex_argument-printed bytes are)

file_read_printed : (name : List ℕ) (off len : ℕ) → AreBytes name → off < 2 ^ 32 → len < 2 ^ 32 → read_arguments (dashed name ∷ decimal off ∷ decimal len ∷ []) ≡ Ok (FileRead name off len)
file_read_printed name off len first small short =
    after _ _ name (stored_printed name first) ∙ after _ _ off (number_printed off small) ∙ after _ _ len (number_printed len short)

pub operation_of-printed : (op : Op) → IsSayable op → operation_of (name_of op) (arguments_of op) ≡ Ok op
unfolding operation_of other_operation store_operation tree_operation file_operation
operation_of-printed (Begin (Some Serial)) can = refl
operation_of-printed (Begin (Some Snapshot)) can = refl
operation_of-printed (Put block off bytes) can = put_printed block off bytes can.0 can.1 can.2
operation_of-printed (Read block) can = one_printed Read block can
operation_of-printed (Get block off len) can = three_printed Get block off len can.0 can.1 can.2
operation_of-printed (Write block bytes) can = bytes_printed Write block bytes can.0 can.1
operation_of-printed (Fill block bytes) can = bytes_printed Fill block bytes can.0 can.1
operation_of-printed (Mark off len) can = two_printed Mark off len can.0 can.1
operation_of-printed (Release label) can = label_printed Release label can
operation_of-printed (Takeover label) can = label_printed Takeover label can
operation_of-printed (Await label) can = label_printed Await label can
operation_of-printed (Group labels) can = group_printed labels can.0 can.1 can.2
operation_of-printed (HashPut key value) can = value_printed HashPut key value can.0 can.1
operation_of-printed (HashGet key) can = key_printed HashGet key can
operation_of-printed (HashDelete key) can = key_printed HashDelete key can
operation_of-printed (TreePut key value) can = value_printed TreePut key value can.0 can.1
operation_of-printed (TreeGet key) can = key_printed TreeGet key can
operation_of-printed (TreeDelete key) can = key_printed TreeDelete key can
operation_of-printed (TreeScan from to most) can = scan_printed from to most can.0 can.1 can.2
operation_of-printed (FileNew name) can = key_printed FileNew name can
operation_of-printed (FileWrite name off bytes) can = file_written_printed name off bytes can.0 can.1 can.2
operation_of-printed (FileRead name off len) can = file_read_printed name off len can.0 can.1 can.2
operation_of-printed (FileMove from to) can = value_printed FileMove from to can.0 can.1
operation_of-printed (FileDelete name) can = key_printed FileDelete name can
operation_of-printed x can = refl

client_fits : (c : ℕ) → 1 ≤ c → c ≤ 64 → client_in_range (Some c) ≡ Ok c
client_fits c first last = grind arith

client_printed : (c : ℕ) → 1 ≤ c → c ≤ 64 → client_in_range (number_of (decimal c)) ≡ Ok c
client_printed c first last = ap client_in_range (number_of-printed c (omega arith)) ∙ client_fits c first last

said-printed : (line : Line) → IsLine line → said (line_words line) ≡ Ok (Says line)
unfolding said
said-printed line is =
    after _ _ line.client (client_printed line.client is.first is.last)
    ∙ after _ _ line.op (operation_of-printed line.op is.op)

pub parse-printed : (line : Line) → IsLine line → length (line_text line) ≤ MAX_LINE → parse (line_text line) ≡ Ok (Says line)
unfolding line_text
parse-printed line is short =
    let are = line_are_words line is in
    let client : line.client < 2 ^ 64 = omega (arith, is.last) in
    sym (parse-said (spaced (line_words line)) short (spaced_says (decimal line.client) (name_of line.op ∷ arguments_of line.op) are.0.some (decimal_digits line.client client)) (spaced_printable (line_words line) are))
    ∙ ap said (words_of-spaced _ _ are) ∙ said-printed line is

-- what the words of a line spell
abbrev client_of : List (List ℕ) → Result ℕ ℕ
client_of [] = Err 1
client_of (client ∷ words) = client_in_range (number_of client)

abbrev spelled_op : List (List ℕ) → Result Op ℕ
spelled_op [] = Err 2
spelled_op (client ∷ []) = Err 2
spelled_op (client ∷ name ∷ arguments) = operation_of name arguments

pub line_text-injective : (line other : Line) → IsLine line → IsLine other → line_text line ≡ line_text other → line ≡ other
line_text-injective line other is also same =
    let words = sym (words_of-printed line is) ∙ ap words_of same ∙ words_of-printed other also in
    let clients = sym (client_printed line.client is.first is.last) ∙ ap client_of words ∙ client_printed other.client also.first also.last in
    let ops = sym (operation_of-printed line.op is.op) ∙ ap spelled_op words ∙ operation_of-printed other.op also.op in
    let client : line.client ≡ other.client = cc in
    let op : line.op ≡ other.op = cc in
    λ i. record { client = client i; op = op i }
