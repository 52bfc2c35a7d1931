-- What a line says is an operation that a machine may be asked.
use Rattle.script_runner.proofs.{Words.{◌≡◌, refl, ap, ◌∙◌, subst, ℕ, ◌≤◌, IfOk, Bool, true, false, ◌&&◌, cond, List, [], ◌∷◌, Option, Some, None, Result, Ok, Err, nat_le, nat_lt, length, take, arith, and_parts, leb-true, ltb-false, lt-leb, take_all, list_all, MAX_INPUT, MAX_LINE, Line, LineError, Parsed, Script, before_script, client_in_range, is_printable, is_skipped, no_lines, parse, parse_whole, said, script, script_from, without_return, is_empty, pieces, words_of, AreLines, IsOp, IfGiven, any_given, given_next, given_none, given_one, script_lines, Gives, IsLine, SaysLine, HasNoFeed, Skip, Says}, Feeds.{no_feed-cons, no_feed-nil, one_piece}}

record InRange (client : ℕ) : Type 0 where
  least : 1 ≤ client
  largest : client ≤ 64

-- the client of a line
OfClient : Parsed → Type 0
OfClient Skip = Unit {0}
OfClient (Says line) = InRange line.client

client_given : (o : Option ℕ) → IfGiven InRange (client_in_range o)
client_given None = given_none InRange 1
client_given (Some n) = go (nat_le 1 n && nat_le n 64) refl
  where
    go : (t : Bool) → (nat_le 1 n && nat_le n 64) ≡ t → IfGiven InRange (cond t (Ok n) (Err 1))
    go true e =
        let parts = and_parts (nat_le 1 n) (nat_le n 64) e in
        given_one InRange n (record { least = leb-true 1 n parts.0; largest = leb-true n 64 parts.1 })
    go false e = given_none InRange 1

said_client : (words : List (List ℕ)) → IfGiven OfClient (said words)
unfolding said OfClient
said_client [] = given_none OfClient 1
said_client (client ∷ []) = grind (arith, given_next, OfClient, any_given, given_none)
said_client (client ∷ name ∷ words) = grind (arith, given_next, OfClient, client_given, any_given, given_one)

-- a line that says something passed all tests
record Passed (text : List ℕ) (line : Line) : Type 0 where
  short : length text ≤ MAX_LINE
  some : is_empty text ≡ false
  printable : list_all is_printable text ≡ true
  says : said (words_of text) ≡ Ok (Says line)

passed : (text : List ℕ) (line : Line) → parse text ≡ Ok (Says line) → Passed text line
unfolding parse
passed text line e =
    let tests = go (nat_lt MAX_LINE (length text)) (is_skipped text) (list_all is_printable text) (said (words_of text)) e in
    record {
      short = ltb-false MAX_LINE (length text) tests.0;
      some = some text tests.1;
      printable = tests.2;
      says = tests.3;
    }
  where
    go : (a b c : Bool) (r : Result Parsed ℕ) → cond a (Err 7) (cond b (Ok Skip) (cond c r (Err 8))) ≡ Ok (Says line)
        → (a ≡ false) × (b ≡ false) × (c ≡ true) × (r ≡ Ok (Says line))
    go true b c r e = absurd cc
    go false true c r e = absurd cc
    go false false false r e = absurd cc
    go false false true r e = (refl, refl, refl, e)

    some : (xs : List ℕ) → is_skipped xs ≡ false → is_empty xs ≡ false
    some [] e = cc
    some (x ∷ xs) e = refl

printable_no_feed : (text : List ℕ) → list_all is_printable text ≡ true → HasNoFeed text
printable_no_feed [] e = no_feed-nil
printable_no_feed (b ∷ text) e =
    let parts = and_parts (is_printable b) (list_all is_printable text) e in
    let low : 32 ≤ b = leb-true 32 b (and_parts (nat_le 32 b) (nat_le b 126) parts.0).0 in
    no_feed-cons b text (λ same. omega arith) (printable_no_feed text parts.1)

line_op : (text : List ℕ) (line : Line) → parse text ≡ Ok (Says line) → IsOp line.op
unfolding script
line_op text line e =
    let p = passed text line e in
    let short : length text ≤ MAX_LINE = p.short in
    let uncut : nat_le MAX_INPUT (length text) ≡ false = lt-leb _ _ (omega arith) in
    let whole : take MAX_INPUT text ≡ text = take_all MAX_INPUT text (omega arith) in
    let one : script_from false 1 (pieces 10 text) ≡ before_script 1 (parse text) no_lines =
    ap (script_from false 1) (one_piece text (printable_no_feed text p.printable)) ∙ (rw p.some refl) in
    let all : script text ≡ before_script 1 (Ok (Says line)) no_lines =
    ap (λ (cut : Bool). script_from cut 1 (pieces 10 (take MAX_INPUT text))) uncut ∙ ap (λ (xs : List ℕ). script_from false 1 (pieces 10 xs)) whole
    ∙ one ∙ ap (λ (r : Result Parsed ℕ). before_script 1 r no_lines) e in
    (subst (λ (s : Script). AreLines s.lines) all (script_lines text)).0

is_line : (text : List ℕ) (line : Line) → parse text ≡ Ok (Says line) → IsLine line
unfolding OfClient
is_line text line e =
    let client = (said_client (words_of text)).each (Says line) (passed text line e).says in
    record { least = client.least; largest = client.largest; op = line_op text line e }

whole_parse : (text : List ℕ) (parsed : Parsed) → parse_whole text ≡ Ok parsed → parse (without_return text) ≡ Ok parsed
unfolding parse_whole
whole_parse text parsed e = go (nat_lt MAX_LINE (length text)) e
  where
    go : (t : Bool) → cond t (Err 7) (parse (without_return text)) ≡ Ok parsed → parse (without_return text) ≡ Ok parsed
    go true e = cc
    go false e = e

-- what a text says
pub says_line : (text : List ℕ) (parsed : Parsed) → parse text ≡ Ok parsed → SaysLine parsed
says_line text Skip e = tt
says_line text (Says line) e = is_line text line e

-- what a whole line says
pub whole_says_line : (text : List ℕ) (parsed : Parsed) → parse_whole text ≡ Ok parsed → SaysLine parsed
whole_says_line text parsed e = says_line (without_return text) parsed (whole_parse text parsed e)

-- where a text was parsed
pub given_line : (defined : Result Parsed ℕ) (result : Result Parsed LineError) → Gives result defined → ((parsed : Parsed) → defined ≡ Ok parsed → SaysLine parsed)
    → IfOk result SaysLine
given_line defined (Ok parsed) given says = says parsed given
given_line defined (Err error) given says = tt
