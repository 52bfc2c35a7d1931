-- Each line of a bench is read as a line.
use Rattle.bench_script.proofs.Words.{◌≡◌, ◌≢◌, ◌∙◌, sym, refl, ap, ℕ, zero, suc, ◌+◌, ◌*◌, ◌<◌, ◌≤◌, Bool, true, false, nat_le, List, [], ◌∷◌, ◌++◌, take, length, length-append, append_assoc, append-nil, subst, None, Ok, Result, codes, decimal, arith, flat_map, list_all, and_parts, cond-false, leb-true, le-ltb, lt-leb, ne_eqb, decimal_digit, length-decimal-le, take_all, MAX_INPUT, MAX_LINE, Line, Op, Begin, End, Put, Get, Parsed, after_draws, bench_text, drawn_round, nth_drawn, round_text, AreBytes, Script, before_script, is_printable, parse_whole, script, script_from, without_return, hex_text, pieces, line_text, line_words, AreSome, IsLine, IsWord, decimal_word, hex_word, parse-printed, AreWords, spaced_printable, HasNoFeed, ArePlain, no_feed-cons, no_feed-nil, script-line, Says}

not_low : (b low : ℕ) → is_printable b ≡ true → low < 32 → b ≢ low
not_low b low test small same = omega (arith, leb-true 32 b (and_parts (nat_le 32 b) (nat_le b 126) test).0)

printable_has_no_feed : (text : List ℕ) → list_all is_printable text ≡ true → HasNoFeed text
printable_has_no_feed [] all = no_feed-nil
printable_has_no_feed (b ∷ text) all =
    let parts = and_parts (is_printable b) (list_all is_printable text) all in
    no_feed-cons b text (not_low b 10 parts.0 (omega arith)) (printable_has_no_feed text parts.1)

printable_is_kept : (text : List ℕ) → list_all is_printable text ≡ true → without_return text ≡ text
printable_is_kept [] all = refl
printable_is_kept (b ∷ []) all = cond-false _ _ _ (ne_eqb b 13 (not_low b 13 (and_parts (is_printable b) true all).0 (omega arith)))
printable_is_kept (b ∷ c ∷ text) all =
    ap (λ (more : List ℕ). b ∷ more) (printable_is_kept (c ∷ text) (and_parts (is_printable b) (list_all is_printable (c ∷ text)) all).1)

-- a line that can be said
pub record IsSaid (line : Line) : Type 0 where
  pub is_line : IsLine line
  pub words : AreWords (line_words line)
  pub short : length (line_text line) ≤ MAX_LINE

whole_line : (line : Line) → IsSaid line → list_all is_printable (line_text line) ≡ true → parse_whole (line_text line) ≡ Ok (Says line)
unfolding parse_whole
whole_line line is printable =
    cond-false _ _ _ (le-ltb MAX_LINE (length (line_text line)) is.short)
    ∙ (rw (printable_is_kept (line_text line) printable) (parse-printed line is.is_line is.short))

printed : (line : Line) → IsSaid line → list_all is_printable (line_text line) ≡ true
unfolding line_text
printed line is = spaced_printable (line_words line) is.words

-- it is the first of the script
good_line : (n : ℕ) (line : Line) (text more : List ℕ) → text ≡ line_text line → IsSaid line
    → script_from false n (pieces 10 (text ++ 10 ∷ more)) ≡ before_script n (Ok (Says line)) (script_from false (n + 1) (pieces 10 more))
good_line n line text more spelled is =
    let printable = printed line is in
    ap (λ (t : List ℕ). script_from false n (pieces 10 (t ++ 10 ∷ more))) spelled
    ∙ script-line false n (line_text line) more (printable_has_no_feed (line_text line) printable)
    ∙ ap (λ (r : Result Parsed ℕ). before_script n r (script_from false (n + 1) (pieces 10 more))) (whole_line line is printable)

abbrev pub said_by : ℕ → Op → Line
said_by client op = record { client = client; op = op }

module _ (client : ℕ) (first : 1 ≤ client) (last : client < 10) where
  client_word : IsWord (decimal client)
  client_word = decimal_word client (omega arith)

  client_size : length (decimal client) ≤ 1
  client_size = length-decimal-le 1 client (omega arith) (omega arith) (omega arith)

  begin_said : IsSaid (said_by client (Begin None))
  unfolding line_text
  begin_said = record {
    is_line = record { first = first; last = omega arith; op = tt };
    words = (client_word, (record { some = omega arith; bytes = refl }, tt));
    short = omega (arith, client_size, length-append (decimal client) (codes " begin"));
  }

  end_said : IsSaid (said_by client End)
  unfolding line_text
  end_said = record {
    is_line = record { first = first; last = omega arith; op = tt };
    words = (client_word, (record { some = omega arith; bytes = refl }, tt));
    short = omega (arith, client_size, length-append (decimal client) (codes " end"));
  }

number_size : (n : ℕ) → n < 100 → length (decimal n) ≤ 2
number_size n small = length-decimal-le 2 n (omega arith) (omega arith) (omega arith)

number_word : (n : ℕ) → n < 100 → IsWord (decimal n)
number_word n small = decimal_word n (omega arith)

-- a read and a write of four places
get_said : (client block off : ℕ) → 1 ≤ client → client < 10 → block < 100 → off < 100 → IsSaid (said_by client (Get block off 4))
unfolding line_text
get_said client block off first last inside small = record {
  is_line = record { first = first; last = omega arith; op = (omega arith, omega arith, omega arith) };
  words = (client_word client first last, (record { some = omega arith; bytes = refl }, (number_word block inside, (number_word off small, (number_word 4 (omega arith), tt)))));
  short = simp length-append (omega (arith, client_size client first last, number_size block inside, number_size off small, number_size 4 (omega arith)));
}

byte_is : (v : ℕ) → v < 256 → AreBytes (v ∷ [])
byte_is v small zero = small
byte_is v small (suc i) = omega arith

put_said : (client block off v : ℕ) → 1 ≤ client → client < 10 → block < 100 → off < 100 → v < 256 → IsSaid (said_by client (Put block off (v ∷ [])))
unfolding line_text
put_said client block off v first last inside small byte =
    let some : AreSome (v ∷ []) = record { some = omega arith; values = byte_is v byte } in record {
      is_line = record { first = first; last = omega arith; op = (omega arith, omega arith, some) };
      words = (client_word client first last, (record { some = omega arith; bytes = refl }, (number_word block inside, (number_word off small, (hex_word (v ∷ []) some, tt)))));
      short = simp length-append (omega (arith, client_size client first last, number_size block inside, number_size off small));
    }

-- the words of a line of a bench are those of the line
one : decimal 1 ≡ codes "1"
one = decimal_digit 1 (omega arith)

two : decimal 2 ≡ codes "2"
two = decimal_digit 2 (omega arith)

four : decimal 4 ≡ codes "4"
four = decimal_digit 4 (omega arith)

abbrev begin_line : List ℕ → List ℕ
begin_line word = flat_map (λ w. w) ((word ++ codes " begin") ∷ [])

abbrev end_line : List ℕ → List ℕ
end_line word = flat_map (λ w. w) ((word ++ codes " end") ∷ [])

abbrev get_line : List ℕ → (block off : ℕ) → List ℕ
get_line word block off = flat_map (λ w. w) ((word ++ codes " get ") ∷ decimal block ∷ codes " " ∷ decimal off ∷ codes " 4" ∷ [])

abbrev put_line : List ℕ → (block off v : ℕ) → List ℕ
put_line word block off v = flat_map (λ w. w) ((word ++ codes " put ") ∷ decimal block ∷ codes " " ∷ decimal off ∷ codes " " ∷ hex_text (v ∷ []) ∷ [])

begin_text : (client : ℕ) (word : List ℕ) → decimal client ≡ word → begin_line word ≡ line_text (said_by client (Begin None))
unfolding line_text
begin_text client word is = ap begin_line (sym is) ∙ append-nil (decimal client ++ codes " begin")

end_text : (client : ℕ) (word : List ℕ) → decimal client ≡ word → end_line word ≡ line_text (said_by client End)
unfolding line_text
end_text client word is = ap end_line (sym is) ∙ append-nil (decimal client ++ codes " end")

get_text : (client block off : ℕ) (word : List ℕ) → decimal client ≡ word → get_line word block off ≡ line_text (said_by client (Get block off 4))
unfolding line_text
get_text client block off word is = rw (sym is, four) (append_assoc (decimal client) (codes " get ") (decimal block ++ 32 ∷ (decimal off ++ codes " 4")))

put_text : (client block off v : ℕ) (word : List ℕ) → decimal client ≡ word → put_line word block off v ≡ line_text (said_by client (Put block off (v ∷ [])))
unfolding line_text
put_text client block off v word is = rw (sym is) (append_assoc (decimal client) (codes " put ") (decimal block ++ 32 ∷ (decimal off ++ 32 ∷ hex_text (v ∷ []))))

-- the lines of a round, one after the other
one_by_one : (b1 b2 b3 b4 b5 b6 b7 b8 end more : List ℕ)
    → (((((((b1 ++ end) ++ (b2 ++ end)) ++ (b3 ++ end)) ++ (b4 ++ end)) ++ (b5 ++ end)) ++ (b6 ++ end)) ++ (b7 ++ end)) ++ (b8 ++ end) ++ more
    ≡ b1 ++ (end ++ (b2 ++ (end ++ (b3 ++ (end ++ (b4 ++ (end ++ (b5 ++ (end ++ (b6 ++ (end ++ (b7 ++ (end ++ (b8 ++ (end ++ more)))))))))))))))
one_by_one b1 b2 b3 b4 b5 b6 b7 b8 end more = simp append_assoc

-- the text is read as these lines, the first of which has this number
record IsReadAs (n : ℕ) (text : List ℕ) (lines : List (ℕ × Line)) : Type 0 where
  pub is : script_from false n (pieces 10 text) ≡ record { lines = lines; bad = None }

-- a text is read so where what follows its first line is
goes_on : {n : ℕ} (line : Line) (text : List ℕ) {more : List ℕ} {lines : List (ℕ × Line)} → text ≡ line_text line → IsSaid line → IsReadAs (n + 1) more lines
    → IsReadAs n (text ++ 10 ∷ more) ((n, line) ∷ lines)
goes_on {n} line text {more} {lines} spelled is rest =
    record { is = good_line n line text more spelled is ∙ ap (before_script n (Ok (Says line))) rest.is }

-- the lines of a round, the first of which has this number, before others
abbrev pub round_lines : (n p q i j v w : ℕ) → List (ℕ × Line) → List (ℕ × Line)
round_lines n p q i j v w more =
    (n, said_by 1 (Begin None))
    ∷ (n + 1, said_by 2 (Begin None))
    ∷ (n + 1 + 1, said_by 1 (Get p (4 * i) 4))
    ∷ (n + 1 + 1 + 1, said_by 1 (Put q (4 * j) (v ∷ [])))
    ∷ (n + 1 + 1 + 1 + 1, said_by 2 (Get q (4 * i) 4))
    ∷ (n + 1 + 1 + 1 + 1 + 1, said_by 2 (Put p (4 * i) (w ∷ [])))
    ∷ (n + 1 + 1 + 1 + 1 + 1 + 1, said_by 1 End)
    ∷ (n + 1 + 1 + 1 + 1 + 1 + 1 + 1, said_by 2 End)
    ∷ more

-- those of the round that is drawn from a state
abbrev pub drawn_lines : (n x : ℕ) → List (ℕ × Line) → List (ℕ × Line)
drawn_lines n x more = round_lines n (nth_drawn x 1 64) (nth_drawn x 2 64) (nth_drawn x 3 16) (nth_drawn x 4 16) (nth_drawn x 5 256) (nth_drawn x 6 256) more

-- those of `count` rounds
abbrev pub bench_lines : (count n x : ℕ) → List (ℕ × Line)
bench_lines zero n x = []
bench_lines (suc count) n x = drawn_lines n x (bench_lines count (n + 1 + 1 + 1 + 1 + 1 + 1 + 1 + 1) (after_draws 6 x))

-- a round, and what follows it
round_read : (n p q i j v w : ℕ) (more : List ℕ) (lines : List (ℕ × Line)) → p < 64 → q < 64 → i < 16 → j < 16 → v < 256 → w < 256
    → IsReadAs (n + 1 + 1 + 1 + 1 + 1 + 1 + 1 + 1) more lines
    → IsReadAs n (round_text p q i j v w ++ more) (round_lines n p q i j v w lines)
round_read n p q i j v w more all first second place other byte last good =
    let lines = one_by_one (begin_line (codes "1")) (begin_line (codes "2")) (get_line (codes "1") p (4 * i)) (put_line (codes "1") q (4 * j) v)
    (get_line (codes "2") q (4 * i)) (put_line (codes "2") p (4 * i) w) (end_line (codes "1")) (end_line (codes "2")) (10 ∷ []) more in
    subst (λ (text : List ℕ). IsReadAs n text (round_lines n p q i j v w all)) (sym lines)
    (goes_on (said_by 1 (Begin None)) (begin_line (codes "1")) (begin_text 1 (codes "1") one) (begin_said 1 (omega arith) (omega arith))
    (goes_on (said_by 2 (Begin None)) (begin_line (codes "2")) (begin_text 2 (codes "2") two) (begin_said 2 (omega arith) (omega arith))
    (goes_on (said_by 1 (Get p (4 * i) 4)) (get_line (codes "1") p (4 * i)) (get_text 1 p (4 * i) (codes "1") one)
    (get_said 1 p (4 * i) (omega arith) (omega arith) (omega arith) (omega arith))
    (goes_on (said_by 1 (Put q (4 * j) (v ∷ []))) (put_line (codes "1") q (4 * j) v) (put_text 1 q (4 * j) v (codes "1") one)
    (put_said 1 q (4 * j) v (omega arith) (omega arith) (omega arith) (omega arith) byte)
    (goes_on (said_by 2 (Get q (4 * i) 4)) (get_line (codes "2") q (4 * i)) (get_text 2 q (4 * i) (codes "2") two)
    (get_said 2 q (4 * i) (omega arith) (omega arith) (omega arith) (omega arith))
    (goes_on (said_by 2 (Put p (4 * i) (w ∷ []))) (put_line (codes "2") p (4 * i) w) (put_text 2 p (4 * i) w (codes "2") two)
    (put_said 2 p (4 * i) w (omega arith) (omega arith) (omega arith) (omega arith) last)
    (goes_on (said_by 1 End) (end_line (codes "1")) (end_text 1 (codes "1") one) (end_said 1 (omega arith) (omega arith))
    (goes_on (said_by 2 End) (end_line (codes "2")) (end_text 2 (codes "2") two) (end_said 2 (omega arith) (omega arith)) good))))))))

-- so is the text of any number of rounds
text_read : (count x n : ℕ) → IsReadAs n (bench_text count x) (bench_lines count n x)
unfolding bench_text
text_read zero x n = record { is = refl }
text_read (suc count) x n =
    round_read n (nth_drawn x 1 64) (nth_drawn x 2 64) (nth_drawn x 3 16) (nth_drawn x 4 16) (nth_drawn x 5 256) (nth_drawn x 6 256) (bench_text count (after_draws 6 x))
    (bench_lines count (n + 1 + 1 + 1 + 1 + 1 + 1 + 1 + 1) (after_draws 6 x))
    (omega arith) (omega arith) (omega arith) (omega arith) (omega arith) (omega arith) (text_read count (after_draws 6 x) (n + 1 + 1 + 1 + 1 + 1 + 1 + 1 + 1))

-- a round is short
round_size : (p q i j v w : ℕ) → p < 64 → q < 64 → i < 16 → j < 16 → length (round_text p q i j v w) ≤ 100
round_size p q i j v w first second place other =
    simp length-append (omega (arith, number_size p (omega arith), number_size q (omega arith), number_size (4 * i) (omega arith), number_size (4 * j) (omega arith)))

text_size : (count x : ℕ) → length (bench_text count x) ≤ 100 * count
unfolding bench_text
text_size zero x = omega arith
text_size (suc count) x =
    omega (
      arith,
      length-append (drawn_round x) (bench_text count (after_draws 6 x)),
      text_size count (after_draws 6 x),
      round_size (nth_drawn x 1 64) (nth_drawn x 2 64) (nth_drawn x 3 16) (nth_drawn x 4 16) (nth_drawn x 5 256) (nth_drawn x 6 256) (omega arith) (omega arith) (omega arith) (omega arith),
    )

-- a text that is not cut is read whole
whole_text : (text : List ℕ) (most : ℕ) → length text < most → script_from (nat_le most (length text)) 1 (pieces 10 (take most text)) ≡ script_from false 1 (pieces 10 text)
whole_text text most short =
    ap (λ (cut : Bool). script_from cut 1 (pieces 10 (take most text))) (lt-leb most (length text) short)
    ∙ ap (λ (t : List ℕ). script_from false 1 (pieces 10 t)) (take_all most text (omega (arith, short)))

script_is : (seed count : ℕ) → count ≤ 100000 → script (bench_text count seed) ≡ script_from false 1 (pieces 10 (bench_text count seed))
unfolding script
script_is seed count few = whole_text (bench_text count seed) MAX_INPUT (omega (arith, text_size count seed, few))

-- a script of a bench is these lines, and none of them is bad
pub scripts_are : (seed count : ℕ) → count ≤ 100000 → script (bench_text count seed) ≡ record { lines = bench_lines count 1 seed; bad = None }
scripts_are seed count few = script_is seed count few ∙ (text_read count seed 1).is

-- and none calls a store
lines_are_plain : (count n x : ℕ) → ArePlain (bench_lines count n x)
lines_are_plain zero n x = tt
lines_are_plain (suc count) n x =
    (tt, (tt, (tt, (tt, (tt, (tt, (tt, (tt, lines_are_plain count (n + 1 + 1 + 1 + 1 + 1 + 1 + 1 + 1) (after_draws 6 x)))))))))

pub scripts_are_plain : (seed count : ℕ) → count ≤ 100000 → ArePlain (script (bench_text count seed)).lines
scripts_are_plain seed count few = subst (λ (s : Script). ArePlain s.lines) (sym (scripts_are seed count few)) (lines_are_plain count 1 seed)
