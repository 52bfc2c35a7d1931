-- A line that says something has printable bytes alone: it has words that are numbers, names, labels and hexadecimal digits.
use Rattle.script_text.proofs.{Words.{◌≡◌, ◌∙◌, ap, sym, refl, bytes_eq, bytes_eq-Decides, codes, ◌==◌, ◌&&◌, ℕ, Bool, true, false, cond, if◌then◌else◌, is_empty, not, filter, List, [], ◌∷◌, length, nat_le, Option, Some, None, Result, Ok, Err, ok_or, arith, and_from, and_parts, eqb-true, list_all, Serial, Snapshot, MAX_LABELS, Op, Begin, End, Abort, Put, Read, Get, Write, Fill, Mark, Release, Takeover, Await, Group, Trim, Stat, Compact, Upgrade, HashPut, HashGet, HashDelete, TreePut, TreeGet, TreeDelete, TreeScan, FileNew, FileWrite, FileRead, FileMove, FileDelete, Parsed, Says, ◌>>=◌, bare, begin_arguments, client_in_range, group_arguments, hex_argument, key_and_value, label_argument, labels_of, mode_argument, number_argument, number_and_bytes, one_key, one_label, one_number, operation_of, other_operation, store_argument, store_operation, tree_operation, file_operation, put_arguments, read_arguments, write_arguments, said, scan_arguments, three_numbers, two_numbers, before_piece, hex_digit, hex_pair, hex_pairs, hex_of, is_decimal, is_digit, is_printable, is_label, is_label_byte, number_of, pieces, words_of, is_word_byte}, Numerals.{digit_in_word, label_in_word, weaker}, Spaces.byte_printable, WordLemmas.{is_decimal-by_parts, number_of-no_decimal}}

abbrev in_words : List (List ℕ) → Bool
in_words words = list_all (λ word. list_all is_word_byte word) words

-- a text whose words have such bytes alone
before_in_words : (b : ℕ) (words : List (List ℕ)) → in_words (before_piece b words) ≡ (is_word_byte b && in_words words)
before_in_words b [] = elim (is_word_byte b) as (λ t. ((t && true) && true) ≡ (t && true)) [ true ↦ refl | false ↦ refl ]
before_in_words b (word ∷ words) =
    elim (is_word_byte b) as (λ t. ((t && list_all is_word_byte word) && in_words words) ≡ (t && (list_all is_word_byte word && in_words words))) [ true ↦ refl | false ↦ refl ]

one_more : (b : ℕ) (text : List ℕ) (t : Bool) → (b == 32) ≡ t → (in_words (pieces 32 text) ≡ true → list_all is_printable text ≡ true)
    → in_words (cond t ([] ∷ pieces 32 text) (before_piece b (pieces 32 text))) ≡ true → list_all is_printable (b ∷ text) ≡ true
one_more b text true is rest all = and_from (is_printable b) (list_all is_printable text) (ap is_printable (eqb-true b 32 is)) (rest all)
one_more b text false is rest all =
    let parts = and_parts (is_word_byte b) (in_words (pieces 32 text)) (sym (before_in_words b (pieces 32 text)) ∙ all) in
    and_from (is_printable b) (list_all is_printable text) (byte_printable b parts.0) (rest parts.1)

pieces_printable : (text : List ℕ) → in_words (pieces 32 text) ≡ true → list_all is_printable text ≡ true
pieces_printable [] all = refl
pieces_printable (b ∷ text) all = one_more b text (b == 32) refl (pieces_printable text) all

filtered : (words : List (List ℕ)) → in_words (filter (λ word. not (is_empty word)) words) ≡ in_words words
filtered [] = refl
filtered ([] ∷ words) = filtered words
filtered ((b ∷ word) ∷ words) = ap (λ (t : Bool). list_all is_word_byte (b ∷ word) && t) (filtered words)

words_printable : (text : List ℕ) → in_words (words_of text) ≡ true → list_all is_printable text ≡ true
unfolding words_of
words_printable text all = pieces_printable text (sym (filtered (pieces 32 text)) ∙ all)

no_value : {A B : Type 0} (c : ℕ) (x : A) → Err c ≡ Ok x → B
no_value c x e = absurd (cc e)

-- a step, and what follows it
first_of : {A B : Type 0} (r : Result A ℕ) (next : A → Result B ℕ) (y : B) → (r >>= next) ≡ Ok y → (x : A) × (r ≡ Ok x) × (next x ≡ Ok y)
first_of (Ok x) next y e = (x, refl, e)
first_of (Err c) next y e = no_value c y e

-- an argument of such bytes alone, where it is taken
abbrev IsSpelled : {A : Type 0} → (List ℕ → Result A ℕ) → Type 0
IsSpelled {A = A} argument = (word : List ℕ) (x : A) → argument word ≡ Ok x → list_all is_word_byte word ≡ true

spelled_number : (word : List ℕ) → (number_of word ≡ None → ⊥) → list_all is_word_byte word ≡ true
spelled_number word some = by (is_decimal word) refl
  where
    by : (t : Bool) → is_decimal word ≡ t → list_all is_word_byte word ≡ true
    by true is = weaker is_digit is_word_byte digit_in_word word (and_parts _ _ (sym (is_decimal-by_parts word) ∙ is)).1
    by false is = absurd (some (sym (number_of-no_decimal word is)))

number_spelled : IsSpelled number_argument
number_spelled word n e = spelled_number word (λ none. no_value 4 n (ap (λ o. ok_or {E = ℕ} o 4) (sym none) ∙ e))

client_spelled : IsSpelled (λ word. client_in_range (number_of word))
client_spelled word c e = spelled_number word (λ none. no_value 1 c (ap client_in_range (sym none) ∙ e))

hex_digit_in_word : (b : ℕ) (value : Option ℕ) → hex_digit b ≡ value → (v : ℕ) → value ≡ Some v → is_word_byte b ≡ true
hex_digit_in_word b value is v e = grind arith

pairs_spelled : (word bytes : List ℕ) → hex_pairs word ≡ Some bytes → list_all is_word_byte word ≡ true
pairs_spelled [] bytes e = refl
pairs_spelled (a ∷ []) bytes e = absurd (cc e)
pairs_spelled (a ∷ b ∷ word) bytes e = by (hex_digit a) (hex_digit b) (hex_pairs word) refl refl (pairs_spelled word) e
  where
    by : (x y : Option ℕ) (rest : Option (List ℕ)) → hex_digit a ≡ x → hex_digit b ≡ y → ((more : List ℕ) → rest ≡ Some more → list_all is_word_byte word ≡ true)
        → hex_pair x y rest ≡ Some bytes → list_all is_word_byte (a ∷ b ∷ word) ≡ true
    by (Some high) (Some low) (Some more) first second third e =
        and_from (is_word_byte a) (is_word_byte b && list_all is_word_byte word) (hex_digit_in_word a (Some high) first high refl)
        (and_from (is_word_byte b) (list_all is_word_byte word) (hex_digit_in_word b (Some low) second low refl) (third more refl))
    by (Some high) (Some low) None first second third e = absurd (cc e)
    by (Some high) None rest first second third e = absurd (cc e)
    by None y rest first second third e = absurd (cc e)

hex_spelled : IsSpelled hex_argument
unfolding hex_of
hex_spelled [] bytes e = refl
hex_spelled (b ∷ word) bytes e = by (hex_pairs (b ∷ word)) refl e
  where
    by : (o : Option (List ℕ)) → hex_pairs (b ∷ word) ≡ o → ok_or {E = ℕ} o 5 ≡ Ok bytes → list_all is_word_byte (b ∷ word) ≡ true
    by (Some found) is e = pairs_spelled (b ∷ word) found is
    by None is e = no_value 5 bytes e

label_spelled : IsSpelled label_argument
label_spelled word label e = by (is_label word) refl e
  where
    by : (t : Bool) → is_label word ≡ t → ok_or {E = ℕ} (cond t (Some word) None) 6 ≡ Ok label → list_all is_word_byte word ≡ true
    by true is e = weaker is_label_byte is_word_byte label_in_word word (and_parts _ _ is).1
    by false is e = no_value 6 label e

-- a word that is a certain one
is_name : (word name : List ℕ) → list_all is_word_byte name ≡ true → bytes_eq word name ≡ true → list_all is_word_byte word ≡ true
is_name word name all is = ap (list_all is_word_byte) ((bytes_eq-Decides word name).0 is) ∙ all

mode_spelled : IsSpelled mode_argument
mode_spelled word mode e = by (bytes_eq word (codes "serial")) (bytes_eq word (codes "snapshot")) refl refl e
  where
    by : (s t : Bool) → bytes_eq word (codes "serial") ≡ s → bytes_eq word (codes "snapshot") ≡ t
        → ok_or {E = ℕ} (if s then Some Serial else if t then Some Snapshot else None) 10 ≡ Ok mode → list_all is_word_byte word ≡ true
    by true t first second e = is_name word (codes "serial") refl first
    by false true first second e = is_name word (codes "snapshot") refl second
    by false false first second e = no_value 10 mode e

stored_spelled : IsSpelled store_argument
stored_spelled word bytes e = by (bytes_eq word (codes "-")) refl e
  where
    by : (t : Bool) → bytes_eq word (codes "-") ≡ t → (if t then Ok [] else hex_argument word) ≡ Ok bytes → list_all is_word_byte word ≡ true
    by true is e = is_name word (codes "-") refl is
    by false is e = hex_spelled word bytes e

-- arguments that are taken one after the other
one_spelled : {A : Type 0} (first : List ℕ → Result A ℕ) → IsSpelled first → (u : List ℕ) (make : A → Op) (op : Op)
    → (first u >>= λ x. Ok (make x)) ≡ Ok op → in_words (u ∷ []) ≡ true
one_spelled first are u make op e =
    let x = first_of (first u) (λ x. Ok (make x)) op e in
    and_from (list_all is_word_byte u) true (are u x.0 x.1) refl

two_spelled : {A B : Type 0} (first : List ℕ → Result A ℕ) (second : List ℕ → Result B ℕ) → IsSpelled first → IsSpelled second → (u v : List ℕ) (make : A → B → Op) (op : Op)
    → (first u >>= λ x. second v >>= λ y. Ok (make x y)) ≡ Ok op → in_words (u ∷ v ∷ []) ≡ true
two_spelled first second are also u v make op e =
    let x = first_of (first u) (λ x. second v >>= λ y. Ok (make x y)) op e in
    and_from (list_all is_word_byte u) (in_words (v ∷ [])) (are u x.0 x.1) (one_spelled second also v (make x.0) op x.2)

three_spelled : {A B C : Type 0} (first : List ℕ → Result A ℕ) (second : List ℕ → Result B ℕ) (third : List ℕ → Result C ℕ)
    → IsSpelled first → IsSpelled second → IsSpelled third → (u v w : List ℕ) (make : A → B → C → Op) (op : Op)
    → (first u >>= λ x. second v >>= λ y. third w >>= λ z. Ok (make x y z)) ≡ Ok op → in_words (u ∷ v ∷ w ∷ []) ≡ true
three_spelled first second third are also too u v w make op e =
    let x = first_of (first u) (λ x. second v >>= λ y. third w >>= λ z. Ok (make x y z)) op e in
    and_from (list_all is_word_byte u) (in_words (v ∷ w ∷ [])) (are u x.0 x.1) (two_spelled second third also too v w (make x.0) op x.2)

-- the arguments of an operation, where it takes them
abbrev AreSpelled : (List (List ℕ) → Result Op ℕ) → Type 0
AreSpelled arguments = (words : List (List ℕ)) (op : Op) → arguments words ≡ Ok op → in_words words ≡ true

bare_spelled : (made : Op) → AreSpelled (bare made)
bare_spelled made [] op e = refl
bare_spelled made (u ∷ more) op e = no_value 3 op e

begin_spelled : AreSpelled begin_arguments
begin_spelled [] op e = refl
begin_spelled (u ∷ []) op e = one_spelled mode_argument mode_spelled u (λ m. Begin (Some m)) op e
begin_spelled (u ∷ v ∷ more) op e = no_value 3 op e

number_taken : (make : ℕ → Op) → AreSpelled (one_number make)
number_taken make (u ∷ []) op e = one_spelled number_argument number_spelled u make op e
number_taken make words op e = no_value 3 op e

two_taken : (make : ℕ → ℕ → Op) → AreSpelled (two_numbers make)
two_taken make (u ∷ v ∷ []) op e = two_spelled number_argument number_argument number_spelled number_spelled u v make op e
two_taken make words op e = no_value 3 op e

three_taken : (make : ℕ → ℕ → ℕ → Op) → AreSpelled (three_numbers make)
three_taken make (u ∷ v ∷ w ∷ []) op e = three_spelled number_argument number_argument number_argument number_spelled number_spelled number_spelled u v w make op e
three_taken make words op e = no_value 3 op e

bytes_taken : (make : ℕ → List ℕ → Op) → AreSpelled (number_and_bytes make)
bytes_taken make (u ∷ v ∷ []) op e = two_spelled number_argument hex_argument number_spelled hex_spelled u v make op e
bytes_taken make words op e = no_value 3 op e

put_taken : AreSpelled put_arguments
put_taken (u ∷ v ∷ w ∷ []) op e = three_spelled number_argument number_argument hex_argument number_spelled number_spelled hex_spelled u v w Put op e
put_taken words op e = no_value 3 op e

label_taken : (make : List ℕ → Op) → AreSpelled (one_label make)
label_taken make (u ∷ []) op e = one_spelled label_argument label_spelled u make op e
label_taken make words op e = no_value 3 op e

labels_spelled : (words labels : List (List ℕ)) → labels_of words ≡ Ok labels → in_words words ≡ true
labels_spelled [] labels e = refl
labels_spelled (u ∷ words) labels e =
    let x = first_of (label_argument u) (λ l. labels_of words >>= λ more. Ok (l ∷ more)) labels e in
    let y = first_of (labels_of words) (λ more. Ok (x.0 ∷ more)) labels x.2 in
    and_from (list_all is_word_byte u) (in_words words) (label_spelled u x.0 x.1) (labels_spelled words y.0 y.1)

group_taken : AreSpelled group_arguments
group_taken words op e = by (nat_le 1 (length words) && nat_le (length words) MAX_LABELS) e
  where
    by : (t : Bool) → (if t then (labels_of words >>= λ labels. Ok (Group labels)) else Err 3) ≡ Ok op → in_words words ≡ true
    by true e = let x = first_of (labels_of words) (λ labels. Ok (Group labels)) op e in labels_spelled words x.0 x.1
    by false e = no_value 3 op e

key_taken : (make : List ℕ → Op) → AreSpelled (one_key make)
key_taken make (u ∷ []) op e = one_spelled store_argument stored_spelled u make op e
key_taken make words op e = no_value 3 op e

value_taken : (make : List ℕ → List ℕ → Op) → AreSpelled (key_and_value make)
value_taken make (u ∷ v ∷ []) op e = two_spelled store_argument store_argument stored_spelled stored_spelled u v make op e
value_taken make words op e = no_value 3 op e

scan_taken : AreSpelled scan_arguments
scan_taken (u ∷ v ∷ w ∷ []) op e = three_spelled store_argument store_argument number_argument stored_spelled stored_spelled number_spelled u v w TreeScan op e
scan_taken words op e = no_value 3 op e

file_write_taken : AreSpelled write_arguments
file_write_taken (u ∷ v ∷ w ∷ []) op e = three_spelled store_argument number_argument hex_argument stored_spelled number_spelled hex_spelled u v w FileWrite op e
file_write_taken words op e = no_value 3 op e

file_read_taken : AreSpelled read_arguments
file_read_taken (u ∷ v ∷ w ∷ []) op e = three_spelled store_argument number_argument number_argument stored_spelled number_spelled number_spelled u v w FileRead op e
file_read_taken words op e = no_value 3 op e

-- an operation of one name, or of another one
by_name : (name word : List ℕ) (words : List (List ℕ)) (r s : Result Op ℕ) (op : Op) → list_all is_word_byte word ≡ true → (r ≡ Ok op → in_words words ≡ true)
    → (s ≡ Ok op → in_words (name ∷ words) ≡ true) → (if bytes_eq name word then r else s) ≡ Ok op → in_words (name ∷ words) ≡ true
by_name name word words r s op all here other e = by (bytes_eq name word) refl e
  where
    by : (t : Bool) → bytes_eq name word ≡ t → (if t then r else s) ≡ Ok op → in_words (name ∷ words) ≡ true
    by true is e = and_from (list_all is_word_byte name) (in_words words) (is_name name word all is) (here e)
    by false is e = other e

file_spelled : (name : List ℕ) (words : List (List ℕ)) (op : Op) → file_operation name words ≡ Ok op → in_words (name ∷ words) ≡ true
unfolding file_operation
file_spelled name words op =
    by_name name (codes "fnew") words _ _ op refl (key_taken FileNew words op)
    (by_name name (codes "fwrite") words _ _ op refl (file_write_taken words op)
    (by_name name (codes "fread") words _ _ op refl (file_read_taken words op)
    (by_name name (codes "fmove") words _ _ op refl (value_taken FileMove words op)
    (by_name name (codes "fdel") words _ _ op refl (key_taken FileDelete words op) (λ e. no_value 2 op e)))))

tree_spelled : (name : List ℕ) (words : List (List ℕ)) (op : Op) → tree_operation name words ≡ Ok op → in_words (name ∷ words) ≡ true
unfolding tree_operation
tree_spelled name words op =
    by_name name (codes "tput") words _ _ op refl (value_taken TreePut words op)
    (by_name name (codes "tget") words _ _ op refl (key_taken TreeGet words op)
    (by_name name (codes "tdel") words _ _ op refl (key_taken TreeDelete words op)
    (by_name name (codes "tscan") words _ _ op refl (scan_taken words op) (file_spelled name words op))))

store_spelled : (name : List ℕ) (words : List (List ℕ)) (op : Op) → store_operation name words ≡ Ok op → in_words (name ∷ words) ≡ true
unfolding store_operation
store_spelled name words op =
    by_name name (codes "hput") words _ _ op refl (value_taken HashPut words op)
    (by_name name (codes "hget") words _ _ op refl (key_taken HashGet words op)
    (by_name name (codes "hdel") words _ _ op refl (key_taken HashDelete words op) (tree_spelled name words op)))

other_spelled : (name : List ℕ) (words : List (List ℕ)) (op : Op) → other_operation name words ≡ Ok op → in_words (name ∷ words) ≡ true
unfolding other_operation
other_spelled name words op =
    by_name name (codes "release") words _ _ op refl (label_taken Release words op)
    (by_name name (codes "takeover") words _ _ op refl (label_taken Takeover words op)
    (by_name name (codes "await") words _ _ op refl (label_taken Await words op)
    (by_name name (codes "group") words _ _ op refl (group_taken words op)
    (by_name name (codes "trim") words _ _ op refl (bare_spelled Trim words op)
    (by_name name (codes "stat") words _ _ op refl (bare_spelled Stat words op)
    (by_name name (codes "compact") words _ _ op refl (bare_spelled Compact words op)
    (by_name name (codes "upgrade") words _ _ op refl (bare_spelled Upgrade words op) (store_spelled name words op))))))))

operation_spelled : (name : List ℕ) (words : List (List ℕ)) (op : Op) → operation_of name words ≡ Ok op → in_words (name ∷ words) ≡ true
unfolding operation_of
operation_spelled name words op =
    by_name name (codes "begin") words _ _ op refl (begin_spelled words op)
    (by_name name (codes "put") words _ _ op refl (put_taken words op)
    (by_name name (codes "read") words _ _ op refl (number_taken Read words op)
    (by_name name (codes "get") words _ _ op refl (three_taken Get words op)
    (by_name name (codes "write") words _ _ op refl (bytes_taken Write words op)
    (by_name name (codes "fill") words _ _ op refl (bytes_taken Fill words op)
    (by_name name (codes "mark") words _ _ op refl (two_taken Mark words op)
    (by_name name (codes "end") words _ _ op refl (bare_spelled End words op)
    (by_name name (codes "abort") words _ _ op refl (bare_spelled Abort words op) (other_spelled name words op)))))))))

said_in_words : (words : List (List ℕ)) (p : Parsed) → said words ≡ Ok p → in_words words ≡ true
unfolding said
said_in_words [] p e = refl
said_in_words (client ∷ []) p e = no_value 2 p (first_of (client_in_range (number_of client)) (λ c. Err 2) p e).2
said_in_words (client ∷ name ∷ arguments) p e =
    let c = first_of (client_in_range (number_of client)) (λ c. operation_of name arguments >>= λ op. Ok (Says (record { client = c; op = op }))) p e in
    let o = first_of (operation_of name arguments) (λ op. Ok (Says (record { client = c.0; op = op }))) p c.2 in
    and_from (list_all is_word_byte client) (in_words (name ∷ arguments)) (client_spelled client c.0 c.1) (operation_spelled name arguments o.0 o.1)

pub said_printable : (text : List ℕ) (p : Parsed) → said (words_of text) ≡ Ok p → list_all is_printable text ≡ true
said_printable text p e = words_printable text (said_in_words (words_of text) p e)
