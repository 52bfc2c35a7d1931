-- How a run ends.
use Rattle.script_runner.proofs.{Words.{◌≡◌, ◌≢◌, ◌<◌, ◌≤◌, ℕ, ◌+◌, ◌-◌, Bool, true, false, List, [], ◌∷◌, ◌++◌, Option, Some, None, Result, Ok, Err, IfSome, length, take, nat_le, inl, refl, sym, ap, subst, ◌∙◌, append_assoc, append-nil, length-append, arith, eqb-false, eqb-true, lt-ltb, lt-leb, le-leb, take_all, take-append-add, prepend_known, Rose, DiskState, IsLawful, SinkState, SourceState, MetEnd, Took, prepend_known-append, prepend_known-nil, MAX_INPUT, MAX_LINE, BadLine, Line, LineError, Parsed, last, Shows, Script, bad_line, before_script, last_piece, no_lines, parse, parse_whole, script, script_from, is_empty, pieces, World, IsWorld, Gives, Halt, RunEnd, SourceCount, AnswersParsed, EndsAt, Gave, IsByStep, Ran, Reads, behind, end_of, in_front, lines_of, AreFirst, AreLinesOf, Answered, HasRun, Cause, NoMemory, Skip, Says}, Feeds.{HasFirst, no_feed-nil, one_piece, pieces-first, pieces_of}, Fronts.{before-parsed, says-nothing}, Steps.{ended_here, halted_more, ran_more, ran_none}, Answering.{answered_first, first_none, first_of, step_lines, unheld_ends}}
use Rattle.std.specs.Prelude.{◌==◌}
use Rattle.script_runner.specs.declared.run_end.Halt.TheVariants as halt
use Rattle.script_runner.specs.declared.run_end.RunEnd.TheVariants as end

-- the script of an input that begins with these bytes
script_more : (bytes more : List ℕ) → length bytes ≤ MAX_INPUT
    → script (bytes ++ more) ≡ script_from (nat_le MAX_INPUT (length (bytes ++ more))) 1 (pieces 10 (bytes ++ take (MAX_INPUT - length bytes) more))
unfolding script
script_more bytes more few =
    let n = MAX_INPUT - length bytes in
    let whole : MAX_INPUT ≡ length bytes + n = omega arith in
    let cut : take MAX_INPUT (bytes ++ more) ≡ bytes ++ take n more = ap (λ m. take m (bytes ++ more)) whole ∙ take-append-add bytes more n in
    ap (λ (xs : List ℕ). script_from (nat_le MAX_INPUT (length (bytes ++ more))) 1 (pieces 10 xs)) cut

-- the script of an input that is read to its end
script_short : (bytes : List ℕ) → length bytes < MAX_INPUT → script bytes ≡ script_from false 1 (pieces 10 bytes)
unfolding script
script_short bytes few =
    let uncut : nat_le MAX_INPUT (length bytes) ≡ false = lt-leb _ _ few in
    ap (λ (cut : Bool). script_from cut 1 (pieces 10 (take MAX_INPUT bytes))) uncut
    ∙ ap (λ (xs : List ℕ). script_from false 1 (pieces 10 xs)) (take_all MAX_INPUT bytes (omega arith))

-- the script of an input that has `MAX_INPUT` bytes or more, and so is cut
script_cut : (bytes more : List ℕ) → length bytes ≡ MAX_INPUT → script (bytes ++ more) ≡ script_from true 1 (pieces 10 bytes)
unfolding script
script_cut bytes more full =
    let cut : nat_le MAX_INPUT (length (bytes ++ more)) ≡ true = le-leb _ _ (omega (arith, length-append bytes more)) in
    let all : MAX_INPUT ≡ length bytes + 0 = omega arith in
    let whole : take MAX_INPUT (bytes ++ more) ≡ bytes =
    ap (λ m. take m (bytes ++ more)) all ∙ take-append-add bytes more 0 ∙ append-nil bytes in
    ap (λ (c : Bool). script_from c 1 (pieces 10 (take MAX_INPUT (bytes ++ more)))) cut ∙ ap (λ (xs : List ℕ). script_from true 1 (pieces 10 xs)) whole

-- what holds of every input that begins with the bytes taken holds of the one that the source tells
told_more : (P : List ℕ → Type 0) (before now : Option (List ℕ)) (bytes : List ℕ) → before ≡ prepend_known bytes now → ((more : List ℕ) → P (bytes ++ more)) → IfSome before P
told_more P None now bytes took each = tt
told_more P (Some all) None bytes took each = absurd cc
told_more P (Some all) (Some more) bytes took each = let same : bytes ++ more ≡ all = cc in subst P same (each more)

-- and of the bytes alone, where these are all
told_all : (P : List ℕ → Type 0) (before : Option (List ℕ)) (bytes : List ℕ) → IfSome before (λ left. left ≡ bytes) → P bytes → IfSome before P
told_all P None bytes whole is = tt
told_all P (Some all) bytes whole is = subst P (sym whole) is

-- two takes
pub gave_more : (i mid j : SourceState) (bytes piece : List ℕ) → Gave i mid bytes → Gave mid j piece → Gave i j (bytes ++ piece)
gave_more i mid j bytes piece first second = grind (arith, prepend_known-append)

pub gave_none : (i : SourceState) → Gave i i []
gave_none i = record { took = sym (prepend_known-nil i.rest); faults = refl }

-- a take that meets the end, after others
pub met_end : (i mid j : SourceState) (bytes : List ℕ) → Gave i mid bytes → MetEnd mid j [] → MetEnd i j bytes
met_end i mid j bytes gave met = record {
  ended = met.ended;
  whole = whole i.rest mid.rest gave.took met.whole;
  nothing_left = met.nothing_left;
}
  where
    whole : (before now : Option (List ℕ)) → before ≡ prepend_known bytes now → IfSome now (λ left. left ≡ []) → IfSome before (λ left. left ≡ bytes)
    whole None now took none = tt
    whole (Some all) None took none = absurd cc
    whole (Some all) (Some left) took none =
        let same : all ≡ bytes ++ left = cc in
        same ∙ ap (λ xs. bytes ++ xs) none ∙ append-nil bytes

-- a line ends the run
halt_count : (halt : Halt) (before now : ℕ) → now ≡ before → SourceCount (end_of halt) before now
halt_count (halt.BadLine line) before now same = same
halt_count h before now same = same

halt_undone : (halt : Halt) → end_of halt ≡ end.Done → ⊥
halt_undone (halt.BadLine line) e = cc
halt_undone h e = cc

halt_uninput : (halt : Halt) → end_of halt ≡ end.Input → ⊥
halt_uninput (halt.BadLine line) e = cc
halt_uninput h e = cc

module _ {stands : World → Type 0} {d e : DiskState} {k l : SinkState} (i j : SourceState) (W : World) (bytes : List ℕ) (gave : Gave i j bytes) (few : length bytes ≤ MAX_INPUT) where
  -- a line among the bytes taken ends the run
  pub halt_runs : (halt : Halt) → EndsAt stands d e k l W bytes (end_of halt) → HasRun stands d e i j k l W (end_of halt)
  halt_runs halt ends =
      let each : (more : List ℕ) → AreLinesOf (end_of halt) (script (bytes ++ more)) ends.done ends.next =
      λ more. subst (λ (s : Script). AreLinesOf (end_of halt) s ends.done ends.next) (sym (script_more bytes more few))
      (ends.lines (nat_le MAX_INPUT (length (bytes ++ more))) (take (MAX_INPUT - length bytes) more)) in
      record {
        bytes = bytes;
        took = gave.took;
        limit = few;
        ended = λ done. absurd (halt_undone halt done);
        done = ends.done;
        next = ends.next;
        lines = subst (λ (xs : List ℕ). AreLinesOf (end_of halt) (script xs) ends.done ends.next) (append-nil bytes) (each []);
        told = told_more (λ all. AreLinesOf (end_of halt) (script all) ends.done ends.next) i.rest j.rest bytes gave.took each;
        whole = λ input. absurd (halt_uninput halt input);
        answered = ends.answered;
        input = halt_count halt i.faults j.faults gave.faults;
      }

-- lines before nothing but a bad one or none
with_nil : (done : List (ℕ × Line)) (bad : Option BadLine) → behind done (record { lines = []; bad = bad }) ≡ record { lines = done; bad = bad }
with_nil done bad = ap (λ (xs : List (ℕ × Line)). let s : Script = record { lines = xs; bad = bad } in s) (append-nil done)

long_parse : (text : List ℕ) → MAX_LINE < length text → parse text ≡ Err 7
unfolding parse
long_parse text long = rw (lt-ltb MAX_LINE (length text) long) refl

long_whole : (text : List ℕ) → MAX_LINE < length text → parse_whole text ≡ Err 7
unfolding parse_whole
long_whole text long = rw (lt-ltb MAX_LINE (length text) long) refl

not_empty : (text : List ℕ) → 0 < length text → is_empty text ≡ false
not_empty [] some = absurd (omega arith)
not_empty (b ∷ text) some = refl

-- a last line that is too long is bad for that, also where the input was cut
last_long : (cut : Bool) (number : ℕ) (piece : List ℕ) → MAX_LINE < length piece → last_piece cut number piece ≡ bad_line number 7
last_long true number piece long = rw (lt-leb (length piece) MAX_LINE long, not_empty piece (omega arith), long_parse piece long) refl
last_long false number piece long = rw (not_empty piece (omega arith), long_parse piece long) refl

-- a line that is too long already is bad, whatever follows
long_script : (cut : Bool) (number : ℕ) (held : List ℕ) (all : List (List ℕ)) → HasFirst all → MAX_LINE < length held
    → script_from cut number (in_front held all) ≡ bad_line number 7
long_script cut number held [] first long = last_long cut number held long
long_script cut number held (piece ∷ []) first long = last_long cut number (held ++ piece) (omega (arith, long, length-append held piece))
long_script cut number held (piece ∷ next ∷ more) first long =
    ap (λ (p : Result Parsed ℕ). before_script number p (script_from cut (number + 1) (next ∷ more))) (long_whole (held ++ piece) (omega (arith, long, length-append held piece)))

module _ {stands : World → Type 0} {d e : DiskState} {k l : SinkState} (W : World) (bytes : List ℕ) (number : ℕ) (held : List ℕ)
    (r : Reads stands d e k l W bytes number held) where
  -- the line is too long already
  pub long_ends : MAX_LINE < length held → EndsAt stands d e k l W bytes (end.BadLine (record { line = number; cause = 7 }))
  long_ends long =
      let bad : BadLine = record { line = number; cause = 7 } in
      record {
        done = r.done;
        next = [];
        lines = λ cut more. (
          ap (λ xs. script_from cut 1 (pieces 10 xs)) (ap (λ xs. xs ++ more) r.bytes_are ∙ append_assoc r.front held more) ∙ r.says cut (held ++ more)
              ∙ ap (λ (ps : List (List ℕ)). behind r.done (script_from cut number ps)) (pieces_of held r.no_feed more)
              ∙ ap (behind r.done) (long_script cut number held (pieces 10 more) (pieces-first 10 more) long) ∙ with_nil r.done (Some bad),
          refl,
        );
        answered = ended_here W r.done (end.BadLine bad) tt r.ran;
      }

  -- the script of the bytes taken, if nothing follows
  taken_script : (cut : Bool) → script_from cut 1 (pieces 10 bytes) ≡ behind r.done (last_piece cut number held)
  taken_script cut = grind (arith, one_piece)

  -- the input was cut
  pub cut_runs : (i j : SourceState) → Gave i j bytes → length bytes ≡ MAX_INPUT → length held ≤ MAX_LINE
      → HasRun stands d e i j k l W (end.BadLine (record { line = number; cause = 9 }))
  cut_runs i j gave full short =
      let bad : BadLine = record { line = number; cause = 9 } in
      let piece : last_piece true number held ≡ bad_line number 9 = rw (le-leb (length held) MAX_LINE short) refl in
      let each : (more : List ℕ) → AreLinesOf (end.BadLine bad) (script (bytes ++ more)) r.done [] =
      λ more. (script_cut bytes more full ∙ taken_script true ∙ ap (behind r.done) piece ∙ with_nil r.done (Some bad), refl) in
      record {
        bytes = bytes;
        took = gave.took;
        limit = omega (arith, full);
        ended = λ done. cc;
        done = r.done;
        next = [];
        lines = subst (λ (xs : List ℕ). AreLinesOf (end.BadLine bad) (script xs) r.done []) (append-nil bytes) (each []);
        told = told_more (λ all. AreLinesOf (end.BadLine bad) (script all) r.done []) i.rest j.rest bytes gave.took each;
        whole = λ input. cc;
        answered = ended_here W r.done (end.BadLine bad) tt r.ran;
        input = gave.faults;
      }

  -- the source failed
  pub input_runs : (i mid j : SourceState) → Gave i mid bytes → length bytes < MAX_INPUT → j.rest ≡ mid.rest → Rose mid.faults j.faults
      → HasRun stands d e i j k l W end.Input
  input_runs i mid j gave few kept rose =
      let each : (more : List ℕ) → AreLinesOf end.Input (script (bytes ++ more)) r.done [] =
      λ more. (
        subst (λ (s : Script). AreFirst s.lines r.done []) (sym (script_more bytes more (omega arith)))
            (answered_first W bytes number held r (nat_le MAX_INPUT (length (bytes ++ more))) (take (MAX_INPUT - length bytes) more)),
        refl,
      ) in
      let took : Took i j bytes = gave.took ∙ ap (prepend_known bytes) (sym kept) in
      let shorter : length r.front < MAX_INPUT = omega (arith, few, ap length r.bytes_are, length-append r.front held) in
      record {
        bytes = bytes;
        took = took;
        limit = omega arith;
        ended = λ done. cc;
        done = r.done;
        next = [];
        lines = subst (λ (xs : List ℕ). AreLinesOf end.Input (script xs) r.done []) (append-nil bytes) (each []);
        told = told_more (λ all. AreLinesOf end.Input (script all) r.done []) i.rest j.rest bytes took each;
        whole = λ input. record {
          front = r.front;
          rest = held;
          split = r.bytes_are;
          whole = r.whole;
          no_feed = r.no_feed;
          says =
              script_short r.front shorter ∙ ap (λ xs. script_from false 1 (pieces 10 xs)) (sym (append-nil r.front)) ∙ r.says false []
              ∙ with_nil r.done None;
        };
        answered = ended_here W r.done end.Input tt r.ran;
        input = subst (λ n. Rose n j.faults) gave.faults rose;
      }

  -- the input ended, and the run with it
  met_runs : (i j : SourceState) (how : RunEnd) (done next : List (ℕ × Line)) {stands_new : World → Type 0} {f : DiskState} {m : SinkState} → Gave i j bytes → MetEnd i j bytes → length bytes < MAX_INPUT
      → (how ≡ end.Input → ⊥) → SourceCount how i.faults j.faults → AreLinesOf how (script_from false 1 (pieces 10 bytes)) done next
      → Answered stands_new d f k m W how done next → HasRun stands_new d f i j k m W how
  met_runs i j how done next gave met few other count lines answered =
      let all : AreLinesOf how (script bytes) done next = subst (λ (s : Script). AreLinesOf how s done next) (sym (script_short bytes few)) lines in
      record {
        bytes = bytes;
        took = gave.took;
        limit = omega arith;
        ended = λ is. met;
        done = done;
        next = next;
        lines = all;
        told = told_all (λ xs. AreLinesOf how (script xs) done next) i.rest bytes met.whole all;
        whole = λ input. absurd (other input);
        answered = answered;
        input = count;
      }

  -- after a line feed
  pub done_runs : (i j : SourceState) → Gave i j bytes → MetEnd i j bytes → length bytes < MAX_INPUT → held ≡ [] → HasRun stands d e i j k l W end.Done
  done_runs i j gave met few none =
      met_runs i j end.Done r.done [] gave met few (λ input. cc) gave.faults
      (taken_script false ∙ ap (λ (hs : List ℕ). behind r.done (last_piece false number hs)) none ∙ with_nil r.done None, refl)
      (ended_here W r.done end.Done tt r.ran)

  last_script : 0 < length held → script_from false 1 (pieces 10 bytes) ≡ behind r.done (before_script number (parse held) no_lines)
  last_script some = grind (arith, not_empty, taken_script)

  module _ (i j : SourceState) (gave : Gave i j bytes) (met : MetEnd i j bytes) (few : length bytes < MAX_INPUT) (some : 0 < length held)
      (stands_new : World → Type 0) (f : DiskState) (m : SinkState) where
    -- the last line was answered
    last_answered : (parsed : Parsed) → Gives (Ok parsed) (parse held) → Ran stands_new e f l m r.ran.reached (lines_of number parsed)
        → HasRun stands_new d f i j k m W end.Done
    last_answered parsed given ran =
        let lines = lines_of number parsed in
        met_runs i j end.Done (r.done ++ lines) [] gave met few (λ input. cc) gave.faults (
          last_script some ∙ ap (behind r.done) (before-parsed number parsed (parse held) no_lines given)
              ∙ ap (λ (xs : List (ℕ × Line)). let s : Script = record { lines = r.done ++ xs; bad = None } in s) (append-nil lines),
          refl,
        ) (ended_here W (r.done ++ lines) end.Done tt (ran_more W r.done lines r.ran ran))

    last_halts : (said : Line) (halt : Halt) → Gives (Ok (Says said)) (parse held) → IsByStep halt
        → Answered stands_new e f l m r.ran.reached (end_of halt) [] ((number, said) ∷ []) → HasRun stands_new d f i j k m W (end_of halt)
    last_halts said halt given by halted =
        let next : List (ℕ × Line) = (number, said) ∷ [] in
        met_runs i j (end_of halt) r.done next gave met few (halt_uninput halt) (halt_count halt i.faults j.faults gave.faults)
        (step_lines halt _ r.done next by (first_of _ r.done next []
        (ap (λ (s : Script). s.lines) (last_script some ∙ ap (behind r.done) (before-parsed number (Says said) (parse held) no_lines given))) (omega arith)))
        (halted_more W r.done next (end_of halt) r.ran (λ none. absurd (cc none)) halted)

    all_ran : Ran stands_new e f l m r.ran.reached [] → Ran stands_new d f k m W r.done
    all_ran ran = subst (λ (xs : List (ℕ × Line)). Ran stands_new d f k m W xs) (append-nil r.done) (ran_more W r.done [] r.ran ran)

    last_bad : (cause : ℕ) → parse held ≡ Err cause → Ran stands_new e f l m r.ran.reached []
        → HasRun stands_new d f i j k m W (end.BadLine (record { line = number; cause = cause }))
    last_bad cause given ran =
        let bad : BadLine = record { line = number; cause = cause } in
        met_runs i j (end.BadLine bad) r.done [] gave met few (λ input. cc) gave.faults
        (last_script some ∙ ap (λ (p : Result Parsed ℕ). behind r.done (before_script number p no_lines)) given ∙ with_nil r.done (Some bad), refl)
        (ended_here W r.done (end.BadLine bad) tt (all_ran ran))

    last_starved : Ran stands_new e f l m r.ran.reached [] → HasRun stands_new d f i j k m W end.Memory
    last_starved ran =
        met_runs i j end.Memory r.done [] gave met few (λ input. cc) gave.faults
        (first_none _ r.done (last_piece false number held).lines (ap (λ (s : Script). s.lines) (taken_script false)))
        (ended_here W r.done end.Memory tt (all_ran ran))

    pub last_done : (parsed : Result Parsed LineError) (ok : Unit {0}) → Gives parsed (parse held)
        → AnswersParsed stands_new e f l m r.ran.reached number parsed (Ok ok) → HasRun stands_new d f i j k m W end.Done
    last_done (Ok Skip) ok given answers = last_answered Skip given answers
    last_done (Ok (Says said)) ok given answers = last_answered (Says said) given answers
    last_done (Err error) ok given answers = absurd answers

    pub last_runs : (parsed : Result Parsed LineError) (halt : Halt) → Gives parsed (parse held)
        → AnswersParsed stands_new e f l m r.ran.reached number parsed (Err halt) → HasRun stands_new d f i j k m W (end_of halt)
    last_runs (Ok Skip) halt given answers = absurd answers
    last_runs (Ok (Says said)) halt given answers = last_halts said halt given answers.0 answers.1
    last_runs (Err (Cause cause)) halt given answers =
        subst (λ (h : Halt). HasRun stands_new d f i j k m W (end_of h)) (sym answers.0) (last_bad cause given answers.1)
    last_runs (Err NoMemory) halt given answers = grind (arith, last_starved)

-- before the first byte
pub reads_none : {stands : World → Type 0} {d : DiskState} {k : SinkState} (W : World) → IsLawful d → IsWorld W → stands W
    → ((c : List ℕ) → d.now c → Shows c W.geometry W.history (last W.history)) → Reads stands d d k k W [] 1 []
reads_none W laws is stood shown = record {
  sound = is;
  front = [];
  done = [];
  bytes_are = refl;
  whole = inl refl;
  says = says-nothing;
  no_feed = no_feed-nil;
  small = omega arith;
  ran = ran_none W laws is stood shown;
}

-- memory ran out before the first byte
pub starved_runs : {stands : World → Type 0} {d : DiskState} {k : SinkState} (i : SourceState) (W : World) → Reads stands d d k k W [] 1 [] → HasRun stands d d i i k k W end.Memory
starved_runs i W r = halt_runs i i W [] (gave_none i) (omega arith) halt.Memory (unheld_ends W [] 1 [] r)

-- whether the front of a last line is held
pub some_held : (n : ℕ) (held : List ℕ) → n ≡ length held → false ≡ (n == 0) → 0 < length held
some_held n held is test = let other : n ≢ 0 = eqb-false n 0 (sym test) in omega arith

pub none_held : (n : ℕ) (held : List ℕ) → n ≡ length held → true ≡ (n == 0) → held ≡ []
none_held n [] is test = refl
none_held n (b ∷ held) is test = let zero : n ≡ 0 = eqb-true n 0 (sym test) in absurd (omega (arith, zero, is))
