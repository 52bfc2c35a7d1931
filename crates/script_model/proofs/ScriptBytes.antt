-- The bytes that a script's lines take are bytes.
use Rattle.script_model.proofs.Words.{ℕ, ◌+◌, ◌<◌, Bool, true, false, ◌&&◌, cond, IsTrue, List, Option, Result, Ok, Err, ok_or, nat_le, length, take, subst, arith, and_parts, leb-true, MAX_INPUT, MAX_LINE, Op, Begin, End, Abort, Put, Read, Get, Write, Fill, Mark, Release, Takeover, Await, Group, Trim, Stat, Compact, Upgrade, TreePut, TreeGet, TreeDelete, TreeScan, FileNew, FileWrite, FileRead, FileMove, FileDelete, AllByRecursion, Line, Parsed, MAX_LABELS, suc, ap, AreBytes, ◌>>=◌, without_return, bad_line, bare, begin_arguments, put_arguments, one_number, two_numbers, three_numbers, number_and_bytes, one_label, group_arguments, labels_of, number_argument, hex_argument, label_argument, mode_argument, operation_of, other_operation, one_key, key_and_value, scan_arguments, write_arguments, read_arguments, store_argument, store_operation, tree_operation, file_operation, said, parse, parse_whole, last_piece, before_script, script_from, script, no_lines, Script, is_empty, pieces, words_of, hex_digit, hex_pair, hex_pairs, hex_of, is_label, label_of, IsOp, AreLines, no_bytes, bytes_cons, Skip, Says}
use Rattle.std.proofs.Common.{◌≡◌, refl, sym, ◌-◌, ◌*◌, [], ◌∷◌, Some, None}

-- what holds of a value, if there is one
abbrev IfThere : {A : Type 0} → (A → Type 0) → Option A → Type 0
IfThere P None = Unit {0}
IfThere P (Some x) = P x

pub record IfGiven {A : Type 0} (P : A → Type 0) (r : Result A ℕ) : Type 0 where
  pub each : (x : A) → r ≡ Ok x → P x

pub given_none : {A : Type 0} (P : A → Type 0) (cause : ℕ) → IfGiven P (Err cause)
given_none P cause = record { each = λ x e. cc }

pub given_one : {A : Type 0} (P : A → Type 0) (x : A) → P x → IfGiven P (Ok x)
given_one P x is = record { each = λ y e. let same : x ≡ y = cc in subst P same is }

there_cond : {A : Type 0} (P : A → Type 0) (t : Bool) (x y : Option A) → (t ≡ true → IfThere P x) → IfThere P y → IfThere P (cond t x y)
there_cond P true x y first second = first refl
there_cond P false x y first second = second

pub given_cond : {A : Type 0} (P : A → Type 0) (t : Bool) (x y : Result A ℕ) → IfGiven P x → IfGiven P y → IfGiven P (cond t x y)
given_cond P true x y first second = first
given_cond P false x y first second = second

pub given_next : {A B : Type 0} (P : A → Type 0) (Q : B → Type 0) (r : Result A ℕ) (next : A → Result B ℕ) → IfGiven P r → ((x : A) → P x → IfGiven Q (next x)) → IfGiven Q (r >>= next)
given_next P Q (Ok x) next is each = each x (is.each x refl)
given_next P Q (Err cause) next is each = given_none Q cause

-- a hexadecimal digit is below 16
digit_value : (low high down b : ℕ) → (nat_le low b && nat_le b high) ≡ true → high < down + 16 → b - down < 16
digit_value low high down b test near = grind arith

digit_small : (b : ℕ) → IfThere (λ n. n < 16) (hex_digit b)
digit_small b = grind (arith, there_cond, digit_value)

pair_bytes : (high low : Option ℕ) (rest : Option (List ℕ)) → IfThere (λ n. n < 16) high → IfThere (λ n. n < 16) low → IfThere AreBytes rest → IfThere AreBytes (hex_pair high low rest)
pair_bytes (Some high) (Some low) (Some bytes) first second rest = bytes_cons (16 * high + low) bytes (omega arith) rest
pair_bytes (Some high) (Some low) None first second rest = tt
pair_bytes (Some high) None rest first second others = tt
pair_bytes None low rest first second others = tt

pairs_bytes : (word : List ℕ) → IfThere AreBytes (hex_pairs word)
pairs_bytes [] = no_bytes
pairs_bytes (a ∷ []) = tt
pairs_bytes (a ∷ b ∷ word) = pair_bytes (hex_digit a) (hex_digit b) (hex_pairs word) (digit_small a) (digit_small b) (pairs_bytes word)

hex_bytes : (word : List ℕ) → IfThere AreBytes (hex_of word)
unfolding hex_of
hex_bytes word = there_cond AreBytes (is_empty word) None (hex_pairs word) (λ t. tt) (pairs_bytes word)

or_cause : {A : Type 0} (P : A → Type 0) (o : Option A) (cause : ℕ) → IfThere P o → IfGiven P (ok_or o cause)
or_cause P None cause is = given_none P cause
or_cause P (Some x) cause is = given_one P x is

pub any_given : {A : Type 0} (r : Result A ℕ) → IfGiven (λ x. Unit {0}) r
any_given r = record { each = λ x e. tt }

pub bare_op : (P : Op → Type 0) (op : Op) (words : List (List ℕ)) → P op → IfGiven P (bare op words)
bare_op P op [] is = given_one P op is
bare_op P op (word ∷ words) is = given_none P 3

-- the arguments of an operation that has two, or three: each is read where there are as many
of_two : (P : Op → Type 0) (read : List (List ℕ) → Result Op ℕ) → read [] ≡ Err 3 → ((a : List ℕ) → read (a ∷ []) ≡ Err 3) → ((a b c : List ℕ) (words : List (List ℕ)) → read (a ∷ b ∷ c ∷ words) ≡ Err 3)
    → ((a b : List ℕ) → IfGiven P (read (a ∷ b ∷ []))) → (words : List (List ℕ)) → IfGiven P (read words)
of_two P read none one more two [] = subst (IfGiven P) (sym none) (given_none P 3)
of_two P read none one more two (a ∷ []) = subst (IfGiven P) (sym (one a)) (given_none P 3)
of_two P read none one more two (a ∷ b ∷ []) = two a b
of_two P read none one more two (a ∷ b ∷ c ∷ words) = subst (IfGiven P) (sym (more a b c words)) (given_none P 3)

of_three : (P : Op → Type 0) (read : List (List ℕ) → Result Op ℕ) → read [] ≡ Err 3 → ((a : List ℕ) → read (a ∷ []) ≡ Err 3) → ((a b : List ℕ) → read (a ∷ b ∷ []) ≡ Err 3)
    → ((a b c d : List ℕ) (words : List (List ℕ)) → read (a ∷ b ∷ c ∷ d ∷ words) ≡ Err 3) → ((a b c : List ℕ) → IfGiven P (read (a ∷ b ∷ c ∷ []))) → (words : List (List ℕ)) → IfGiven P (read words)
of_three P read none one two more three [] = subst (IfGiven P) (sym none) (given_none P 3)
of_three P read none one two more three (a ∷ words) = of_two P (λ (rest : List (List ℕ)). read (a ∷ rest)) (one a) (two a) (more a) (three a) words

given_two : {A B : Type 0} (P : A → Type 0) (Q : B → Type 0) (T : Op → Type 0) (op : A → B → Op) (x : Result A ℕ) (y : Result B ℕ) → IfGiven P x → IfGiven Q y → ((a : A) (b : B) → P a → Q b → T (op a b))
    → IfGiven T (x >>= λ a. y >>= λ b. Ok (op a b))
given_two P Q T op x y first second is = given_next P T x _ first (λ a a_is. given_next Q T y _ second (λ b b_is. given_one T (op a b) (is a b a_is b_is)))

given_three : {A B C : Type 0} (P : A → Type 0) (Q : B → Type 0) (R : C → Type 0) (T : Op → Type 0) (op : A → B → C → Op) (x : Result A ℕ) (y : Result B ℕ) (z : Result C ℕ) → IfGiven P x → IfGiven Q y → IfGiven R z
    → ((a : A) (b : B) (c : C) → P a → Q b → R c → T (op a b c)) → IfGiven T (x >>= λ a. y >>= λ b. z >>= λ c. Ok (op a b c))
given_three P Q R T op x y z first second third is = grind (arith, given_next, given_two)

abbrev Any : {A : Type 0} → A → Type 0
Any x = Unit {0}

hex_given : (bytes : List ℕ) → IfGiven AreBytes (hex_argument bytes)
hex_given bytes = or_cause AreBytes (hex_of bytes) 5 (hex_bytes bytes)

pub put_op : (P : Op → Type 0) → ((block off : ℕ) (bytes : List ℕ) → AreBytes bytes → P (Put block off bytes)) → (words : List (List ℕ)) → IfGiven P (put_arguments words)
put_op P is = of_three P put_arguments refl (λ a. refl) (λ a b. refl) (λ a b c d words. refl) (λ block off bytes.
    given_three Any Any AreBytes P Put _ _ _ (any_given (number_argument block)) (any_given (number_argument off)) (hex_given bytes) (λ b o h any more are. is b o h are))

begin_op : (words : List (List ℕ)) → IfGiven IsOp (begin_arguments words)
begin_op [] = given_one IsOp (Begin None) tt
begin_op (mode ∷ []) = given_next (λ x. Unit {0}) IsOp (mode_argument mode) _ (any_given (mode_argument mode)) (λ m is. given_one IsOp (Begin (Some m)) tt)
begin_op (mode ∷ more ∷ words) = given_none IsOp 3

pub one_op : (P : Op → Type 0) (op : ℕ → Op) → ((n : ℕ) → P (op n)) → (words : List (List ℕ)) → IfGiven P (one_number op words)
one_op P op is [] = given_none P 3
one_op P op is (number ∷ []) = given_next (λ x. Unit {0}) P (number_argument number) _ (any_given (number_argument number)) (λ n any. given_one P (op n) (is n))
one_op P op is (number ∷ more ∷ words) = given_none P 3

two_op : (op : ℕ → ℕ → Op) → ((m n : ℕ) → IsOp (op m n)) → (words : List (List ℕ)) → IfGiven IsOp (two_numbers op words)
two_op op is = grind (arith, of_two, given_two, any_given)

three_op : (op : ℕ → ℕ → ℕ → Op) → ((l m n : ℕ) → IsOp (op l m n)) → (words : List (List ℕ)) → IfGiven IsOp (three_numbers op words)
three_op op is = grind (arith, of_three, given_three, any_given)

bytes_op : (op : ℕ → List ℕ → Op) → ((n : ℕ) (bytes : List ℕ) → AreBytes bytes → IsOp (op n bytes)) → (words : List (List ℕ)) → IfGiven IsOp (number_and_bytes op words)
bytes_op op is = of_two IsOp (number_and_bytes op) refl (λ a. refl) (λ a b c words. refl) (λ number bytes.
    given_two Any AreBytes IsOp op _ _ (any_given (number_argument number)) (hex_given bytes) (λ n h any are. is n h are))

label_is : (word : List ℕ) → IfThere (λ text. IsTrue (is_label text)) (label_of word)
label_is word = there_cond (λ text. IsTrue (is_label text)) (is_label word) (Some word) None (λ t. t) tt

label_op : (op : List ℕ → Op) → ((text : List ℕ) → IsTrue (is_label text) → IsOp (op text)) → (words : List (List ℕ)) → IfGiven IsOp (one_label op words)
label_op op is [] = given_none IsOp 3
label_op op is (text ∷ []) =
    given_next (λ l. IsTrue (is_label l)) IsOp (label_argument text) _ (or_cause (λ l. IsTrue (is_label l)) (label_of text) 6 (label_is text)) (λ l good. given_one IsOp (op l) (is l good))
label_op op is (text ∷ more ∷ words) = given_none IsOp 3

labels_length : (words : List (List ℕ)) → IfGiven (λ labels. length labels ≡ length words) (labels_of words)
labels_length [] = given_one (λ labels. length labels ≡ 0) [] refl
labels_length (text ∷ words) =
    given_next (λ l. Unit {0}) (λ labels. length labels ≡ length (text ∷ words)) (label_argument text) _ (any_given (label_argument text)) (λ l any.
    given_next (λ labels. length labels ≡ length words) (λ labels. length labels ≡ length (text ∷ words)) (labels_of words) _ (labels_length words) (λ more same.
    given_one (λ labels. length labels ≡ length (text ∷ words)) (l ∷ more) (ap suc same)))

group_given : (words : List (List ℕ)) (t : Bool) → (nat_le 1 (length words) && nat_le (length words) MAX_LABELS) ≡ t
    → IfGiven IsOp (cond t (labels_of words >>= λ labels. Ok (Group labels)) (Err 3))
group_given words false test = given_none IsOp 3
group_given words true test =
    let parts = and_parts (nat_le 1 (length words)) (nat_le (length words) MAX_LABELS) test in
    given_next (λ labels. length labels ≡ length words) IsOp (labels_of words) _ (labels_length words) (λ labels same.
    given_one IsOp (Group labels) (omega (arith, same, leb-true 1 (length words) parts.0), omega (arith, same, leb-true (length words) MAX_LABELS parts.1)))

group_op : (words : List (List ℕ)) → IfGiven IsOp (group_arguments words)
group_op words = group_given words _ refl

store_given : (word : List ℕ) → IfGiven AreBytes (store_argument word)
store_given word = given_cond AreBytes _ (Ok []) _ (given_one AreBytes [] no_bytes) (or_cause AreBytes (hex_of word) 5 (hex_bytes word))

key_op : (op : List ℕ → Op) → ((key : List ℕ) → AreBytes key → IsOp (op key)) → (words : List (List ℕ)) → IfGiven IsOp (one_key op words)
key_op op is [] = given_none IsOp 3
key_op op is (key ∷ []) = given_next AreBytes IsOp (store_argument key) _ (store_given key) (λ k are. given_one IsOp (op k) (is k are))
key_op op is (key ∷ more ∷ words) = given_none IsOp 3

value_op : (op : List ℕ → List ℕ → Op) → ((key value : List ℕ) → AreBytes key → AreBytes value → IsOp (op key value)) → (words : List (List ℕ)) → IfGiven IsOp (key_and_value op words)
value_op op is = of_two IsOp (key_and_value op) refl (λ a. refl) (λ a b c words. refl) (λ key value. given_two AreBytes AreBytes IsOp op _ _ (store_given key) (store_given value) is)

scan_op : (words : List (List ℕ)) → IfGiven IsOp (scan_arguments words)
scan_op = of_three IsOp scan_arguments refl (λ a. refl) (λ a b. refl) (λ a b c d words. refl) (λ from to most.
    given_three AreBytes AreBytes Any IsOp TreeScan _ _ _ (store_given from) (store_given to) (any_given (number_argument most)) (λ f t n f_are t_are any. tt))

write_op : (words : List (List ℕ)) → IfGiven IsOp (write_arguments words)
write_op = of_three IsOp write_arguments refl (λ a. refl) (λ a b. refl) (λ a b c d words. refl) (λ name off bytes.
    given_three AreBytes Any AreBytes IsOp FileWrite _ _ _ (store_given name) (any_given (number_argument off)) (hex_given bytes) (λ n o h n_are any are. are))

read_op : (words : List (List ℕ)) → IfGiven IsOp (read_arguments words)
read_op = of_three IsOp read_arguments refl (λ a. refl) (λ a b. refl) (λ a b c d words. refl) (λ name off len.
    given_three AreBytes Any Any IsOp FileRead _ _ _ (store_given name) (any_given (number_argument off)) (any_given (number_argument len)) (λ n o l n_are any more. tt))

file_op : (name : List ℕ) (words : List (List ℕ)) → IfGiven IsOp (file_operation name words)
unfolding file_operation
file_op name words =
    given_cond IsOp _ (one_key FileNew words) _ (key_op FileNew (λ name are. are) words)
    (given_cond IsOp _ (write_arguments words) _ (write_op words)
    (given_cond IsOp _ (read_arguments words) _ (read_op words)
    (given_cond IsOp _ (key_and_value FileMove words) _ (value_op FileMove (λ from to f_are t_are. t_are) words)
    (given_cond IsOp _ (one_key FileDelete words) _ (key_op FileDelete (λ name are. tt) words) (given_none IsOp 2)))))

tree_op : (name : List ℕ) (words : List (List ℕ)) → IfGiven IsOp (tree_operation name words)
unfolding tree_operation
tree_op name words =
    given_cond IsOp _ (key_and_value TreePut words) _ (value_op TreePut (λ key value k_are v_are. (k_are, v_are)) words)
    (given_cond IsOp _ (one_key TreeGet words) _ (key_op TreeGet (λ key are. tt) words)
    (given_cond IsOp _ (one_key TreeDelete words) _ (key_op TreeDelete (λ key are. tt) words)
    (given_cond IsOp _ (scan_arguments words) _ (scan_op words) (file_op name words))))

store_op : (name : List ℕ) (words : List (List ℕ)) → IfGiven IsOp (store_operation name words)
unfolding store_operation
store_op name words = grind (arith, given_cond, value_op, key_op, tree_op)

other_op : (name : List ℕ) (words : List (List ℕ)) → IfGiven IsOp (other_operation name words)
unfolding other_operation
other_op name words =
    given_cond IsOp _ (one_label Release words) _ (label_op Release (λ text good. good) words)
    (given_cond IsOp _ (one_label Takeover words) _ (label_op Takeover (λ text good. tt) words)
    (given_cond IsOp _ (one_label Await words) _ (label_op Await (λ text good. tt) words)
    (given_cond IsOp _ (group_arguments words) _ (group_op words)
    (given_cond IsOp _ (bare Trim words) _ (bare_op IsOp Trim words tt)
    (given_cond IsOp _ (bare Stat words) _ (bare_op IsOp Stat words tt)
    (given_cond IsOp _ (bare Compact words) _ (bare_op IsOp Compact words tt)
    (given_cond IsOp _ (bare Upgrade words) _ (bare_op IsOp Upgrade words tt) (store_op name words))))))))

named_op : (name : List ℕ) (words : List (List ℕ)) → IfGiven IsOp (operation_of name words)
unfolding operation_of
named_op name words =
    given_cond IsOp _ (begin_arguments words) _ (begin_op words)
    (given_cond IsOp _ (put_arguments words) _ (put_op IsOp (λ block off bytes are. are) words)
    (given_cond IsOp _ (one_number Read words) _ (one_op IsOp Read (λ n. tt) words)
    (given_cond IsOp _ (three_numbers Get words) _ (three_op Get (λ l m n. tt) words)
    (given_cond IsOp _ (number_and_bytes Write words) _ (bytes_op Write (λ n bytes are. are) words)
    (given_cond IsOp _ (number_and_bytes Fill words) _ (bytes_op Fill (λ n bytes are. are) words)
    (given_cond IsOp _ (two_numbers Mark words) _ (two_op Mark (λ m n. tt) words)
    (given_cond IsOp _ (bare End words) _ (bare_op IsOp End words tt)
    (given_cond IsOp _ (bare Abort words) _ (bare_op IsOp Abort words tt)
    (other_op name words)))))))))

-- what a line says
abbrev pub IsSaid : (Op → Type 0) → Parsed → Type 0
IsSaid P Skip = Unit {0}
IsSaid P (Says line) = P line.op

-- what holds of each operation that a name and arguments give
abbrev pub IsNamed : (Op → Type 0) → Type 0
IsNamed P = (name : List ℕ) (words : List (List ℕ)) → IfGiven P (operation_of name words)

said_op : (P : Op → Type 0) → IsNamed P → (words : List (List ℕ)) → IfGiven (IsSaid P) (said words)
unfolding said
said_op P named [] = given_none (IsSaid P) 1
said_op P named (client ∷ []) = grind (arith, given_next, any_given, given_none)
said_op P named (client ∷ name ∷ words) = grind (arith, given_next, any_given, given_one)

pub parsed_op : (P : Op → Type 0) → IsNamed P → (text : List ℕ) → IfGiven (IsSaid P) (parse text)
unfolding parse
parsed_op P named text =
    given_cond (IsSaid P) _ (Err 7) _ (given_none (IsSaid P) 7)
    (given_cond (IsSaid P) _ (Ok Skip) _ (given_one (IsSaid P) Skip tt)
    (given_cond (IsSaid P) _ (said (words_of text)) (Err 8) (said_op P named (words_of text)) (given_none (IsSaid P) 8)))

pub whole_op : (P : Op → Type 0) → IsNamed P → (piece : List ℕ) → IfGiven (IsSaid P) (parse_whole piece)
unfolding parse_whole
whole_op P named piece = given_cond (IsSaid P) _ (Err 7) _ (given_none (IsSaid P) 7) (parsed_op P named (without_return piece))

-- what holds of the operation of each line
abbrev pub EachLine : (Op → Type 0) → List (ℕ × Line) → Type 0
EachLine P lines = AllByRecursion (λ line. P line.1.op) lines

before_lines : (P : Op → Type 0) (number : ℕ) (said : Result Parsed ℕ) (rest : Script) → IfGiven (IsSaid P) said → EachLine P rest.lines
    → EachLine P (before_script number said rest).lines
before_lines P number (Ok Skip) rest is others = others
before_lines P number (Ok (Says line)) rest is others = (is.each (Says line) refl, others)
before_lines P number (Err cause) rest is others = tt

last_lines : (P : Op → Type 0) → IsNamed P → (cut : Bool) (number : ℕ) (piece : List ℕ) → EachLine P (last_piece cut number piece).lines
last_lines P named cut number piece =
    let rest = before_script number (parse piece) no_lines in
    chosen (cut && nat_le (length piece) MAX_LINE) (bad_line number 9) (cond (is_empty piece) no_lines rest) tt
    (chosen (is_empty piece) no_lines rest tt (before_lines P number (parse piece) no_lines (parsed_op P named piece) tt))
  where
    chosen : (t : Bool) (x y : Script) → EachLine P x.lines → EachLine P y.lines → EachLine P (cond t x y).lines
    chosen true x y first second = first
    chosen false x y first second = second

from_lines : (P : Op → Type 0) → IsNamed P → (cut : Bool) (number : ℕ) (pieces : List (List ℕ)) → EachLine P (script_from cut number pieces).lines
from_lines P named cut number [] = tt
from_lines P named cut number (piece ∷ []) = last_lines P named cut number piece
from_lines P named cut number (piece ∷ next ∷ more) =
    before_lines P number (parse_whole piece) (script_from cut (number + 1) (next ∷ more)) (whole_op P named piece) (from_lines P named cut (number + 1) (next ∷ more))

-- the lines of a script
pub each_line : (P : Op → Type 0) → IsNamed P → (input : List ℕ) → EachLine P (script input).lines
unfolding script
each_line P named input = from_lines P named (nat_le MAX_INPUT (length input)) 1 (pieces 10 (take MAX_INPUT input))

pub script_lines : (input : List ℕ) → AreLines (script input).lines
script_lines input = each_line IsOp named_op input
