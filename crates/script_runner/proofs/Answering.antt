-- A line of the input, between those before it and what follows.
use Rattle.script_runner.proofs.{Words.{◌≡◌, ◌≤◌, ℕ, ◌+◌, Bool, List, [], ◌∷◌, ◌++◌, Some, Result, Ok, Err, OnOk, inr, length, refl, sym, ap, subst, ◌∙◌, append_assoc, append-nil, length-append, arith, Rose, DiskState, Broke, SinkState, BadLine, Line, LineError, Parsed, Script, before_script, parse_whole, script_from, pieces, World, Gives, Halt, RunEnd, AnswersParsed, EndsAt, IsByStep, Ran, Reads, SaysFirst, behind, end_of, lines_of, AreFirst, AreLinesOf, Answered, HasNoFeed, Cause, NoMemory, Skip, Says}, Feeds.{no_feed-append, no_feed-nil}, Fronts.{before-parsed, says-more, script-line}, Steps.{ended_here, halted_more, held_here, ran_more}}
use Rattle.script_runner.specs.declared.run_end.Halt.TheVariants as halt
use Rattle.script_runner.specs.declared.run_end.RunEnd.TheVariants as end

-- the script of the bytes taken, a line, its line feed and more
line_script : (cut : Bool) (bytes front held line more : List ℕ) (number : ℕ) (done : List (ℕ × Line)) → bytes ≡ front ++ held → SaysFirst front number done
    → HasNoFeed (held ++ line) → script_from cut 1 (pieces 10 ((bytes ++ (line ++ 10 ∷ [])) ++ more))
    ≡ behind done (before_script number (parse_whole (held ++ line)) (script_from cut (number + 1) (pieces 10 more)))
line_script cut bytes front held line more number done is says none =
    let back : (line ++ 10 ∷ []) ++ more ≡ line ++ 10 ∷ more = append_assoc line (10 ∷ []) more in
    let split : (bytes ++ (line ++ 10 ∷ [])) ++ more ≡ front ++ ((held ++ line) ++ 10 ∷ more) =
    append_assoc bytes (line ++ 10 ∷ []) more ∙ ap (λ xs. bytes ++ xs) back ∙ ap (λ xs. xs ++ (line ++ 10 ∷ more)) is
    ∙ append_assoc front held (line ++ 10 ∷ more) ∙ ap (λ xs. front ++ xs) (sym (append_assoc held line (10 ∷ more))) in
    grind (arith, script-line)

-- the first lines of those after some
pub first_of : (lines done next later : List (ℕ × Line)) → lines ≡ done ++ (next ++ later) → length next ≤ 1 → AreFirst lines done next
first_of lines done next later all one = record { later = later; all = all ∙ sym (append_assoc done next later); one = one }

pub first_none : (lines done later : List (ℕ × Line)) → lines ≡ done ++ later → AreFirst lines done []
first_none lines done later all = first_of lines done [] later all (omega arith)

-- the end that a step brings is of some first lines
pub step_lines : (halt : Halt) (S : Script) (done next : List (ℕ × Line)) → IsByStep halt → AreFirst S.lines done next → AreLinesOf (end_of halt) S done next
step_lines (halt.BadLine line) S done next by first = absurd by
step_lines halt.Disk S done next by first = first
step_lines halt.Output S done next by first = first
step_lines halt.Memory S done next by first = first

module _ (stands_new : World → Type 0) (e : DiskState) (l : SinkState) {stands_old : World → Type 0} {d mid : DiskState} {k mid_sink : SinkState}
    (W : World) (bytes : List ℕ) (number : ℕ) (held line : List ℕ) (none : HasNoFeed line) (r : Reads stands_old d mid k mid_sink W bytes number held) where
  -- the line was answered
  next_reads : (parsed : Parsed) → Gives (Ok parsed) (parse_whole (held ++ line)) → Ran stands_new mid e mid_sink l r.ran.reached (lines_of number parsed)
      → Reads stands_new d e k l W (bytes ++ (line ++ 10 ∷ [])) (number + 1) []
  next_reads parsed given ran =
      let whole : HasNoFeed (held ++ line) = no_feed-append held line r.no_feed none in
      record {
        sound = r.sound;
        front = r.front ++ ((held ++ line) ++ 10 ∷ []);
        done = r.done ++ lines_of number parsed;
        bytes_are =
            ap (λ xs. xs ++ (line ++ 10 ∷ [])) r.bytes_are ∙ append_assoc r.front held (line ++ 10 ∷ [])
            ∙ ap (λ xs. r.front ++ xs) (sym (append_assoc held line (10 ∷ []))) ∙ sym (append-nil _);
        whole = inr (r.front ++ (held ++ line), sym (append_assoc r.front (held ++ line) (10 ∷ [])));
        says = says-more r.front (held ++ line) number r.done parsed r.says whole given;
        no_feed = no_feed-nil;
        small = omega (arith, r.small, length-append r.front ((held ++ line) ++ 10 ∷ []), length-append (held ++ line) (10 ∷ []));
        ran = ran_more W r.done (lines_of number parsed) r.ran ran;
      }

  pub reads_line : (parsed : Result Parsed LineError) (ok : Unit {0}) (left : List ℕ) → Gives parsed (parse_whole (held ++ line)) → OnOk parsed (left ≡ [])
      → AnswersParsed stands_new mid e mid_sink l r.ran.reached number parsed (Ok ok)
      → Reads stands_new d e k l W (bytes ++ (line ++ 10 ∷ [])) (number + 1) left
  reads_line (Ok Skip) ok left given nothing answers =
      subst (λ (xs : List ℕ). Reads stands_new d e k l W (bytes ++ (line ++ 10 ∷ [])) (number + 1) xs) (sym nothing) (next_reads Skip given answers)
  reads_line (Ok (Says said)) ok left given nothing answers =
      subst (λ (xs : List ℕ). Reads stands_new d e k l W (bytes ++ (line ++ 10 ∷ [])) (number + 1) xs) (sym nothing) (next_reads (Says said) given answers)
  reads_line (Err error) ok left given nothing answers = absurd answers

  script_is : (cut : Bool) (more : List ℕ) → script_from cut 1 (pieces 10 ((bytes ++ (line ++ 10 ∷ [])) ++ more))
      ≡ behind r.done (before_script number (parse_whole (held ++ line)) (script_from cut (number + 1) (pieces 10 more)))
  script_is cut more = line_script cut bytes r.front held line more number r.done r.bytes_are r.says (no_feed-append held line r.no_feed none)

  -- a line halts
  line_ends : (said : Line) (halt : Halt) → Gives (Ok (Says said)) (parse_whole (held ++ line)) → IsByStep halt
      → Answered stands_new mid e mid_sink l r.ran.reached (end_of halt) [] ((number, said) ∷ [])
      → EndsAt stands_new d e k l W (bytes ++ (line ++ 10 ∷ [])) (end_of halt)
  line_ends said halt given by halted =
      let next : List (ℕ × Line) = (number, said) ∷ [] in
      record {
        done = r.done;
        next = next;
        lines = λ cut more.
            let rest = script_from cut (number + 1) (pieces 10 more) in
            step_lines halt _ r.done next by (first_of _ r.done next rest.lines
            (ap (λ (s : Script). s.lines) (script_is cut more ∙ ap (behind r.done) (before-parsed number (Says said) (parse_whole (held ++ line)) rest given))) (omega arith));
        answered = halted_more W r.done next (end_of halt) r.ran (λ none. absurd (cc none)) halted;
      }

  all_ran : Ran stands_new mid e mid_sink l r.ran.reached [] → Ran stands_new d e k l W r.done
  all_ran ran = subst (λ (xs : List (ℕ × Line)). Ran stands_new d e k l W xs) (append-nil r.done) (ran_more W r.done [] r.ran ran)

  -- a bad line
  bad_ends : (cause : ℕ) → parse_whole (held ++ line) ≡ Err cause → Ran stands_new mid e mid_sink l r.ran.reached []
      → EndsAt stands_new d e k l W (bytes ++ (line ++ 10 ∷ [])) (end.BadLine (record { line = number; cause = cause }))
  bad_ends cause given ran =
      let bad : BadLine = record { line = number; cause = cause } in
      record {
        done = r.done;
        next = [];
        lines = λ cut more. (
          script_is cut more
              ∙ ap (λ (p : Result Parsed ℕ). behind r.done (before_script number p (script_from cut (number + 1) (pieces 10 more)))) given
              ∙ ap (λ (xs : List (ℕ × Line)). let s : Script = record { lines = xs; bad = Some bad } in s) (append-nil r.done),
          refl,
        );
        answered = ended_here W r.done (end.BadLine bad) tt (all_ran ran);
      }

  -- want of memory before the line was run
  starved_ends : Ran stands_new mid e mid_sink l r.ran.reached [] → EndsAt stands_new d e k l W (bytes ++ (line ++ 10 ∷ [])) end.Memory
  starved_ends ran = record {
    done = r.done;
    next = [];
    lines = λ cut more. first_none _ r.done (before_script number (parse_whole (held ++ line)) (script_from cut (number + 1) (pieces 10 more))).lines
        (ap (λ (s : Script). s.lines) (script_is cut more));
    answered = ended_here W r.done end.Memory tt (all_ran ran);
  }

  pub ends_line : (parsed : Result Parsed LineError) (halt : Halt) → Gives parsed (parse_whole (held ++ line))
      → AnswersParsed stands_new mid e mid_sink l r.ran.reached number parsed (Err halt)
      → EndsAt stands_new d e k l W (bytes ++ (line ++ 10 ∷ [])) (end_of halt)
  ends_line (Ok Skip) halt given answers = absurd answers
  ends_line (Ok (Says said)) halt given answers = line_ends said halt given answers.0 answers.1
  ends_line (Err (Cause cause)) halt given answers =
      subst (λ (h : Halt). EndsAt stands_new d e k l W (bytes ++ (line ++ 10 ∷ [])) (end_of h)) (sym answers.0) (bad_ends cause given answers.1)
  ends_line (Err NoMemory) halt given answers = grind (arith, starved_ends)

-- the front of one more line
pub reads_rest : {stands : World → Type 0} {d e : DiskState} {k l : SinkState} (W : World) (bytes rest : List ℕ) (number : ℕ) (held : List ℕ) → HasNoFeed rest
    → Reads stands d e k l W bytes number held → Reads stands d e k l W (bytes ++ rest) number (held ++ rest)
reads_rest W bytes rest number held none r = record {
  sound = r.sound;
  front = r.front;
  done = r.done;
  bytes_are = ap (λ xs. xs ++ rest) r.bytes_are ∙ append_assoc r.front held rest;
  whole = r.whole;
  says = r.says;
  no_feed = no_feed-append held rest r.no_feed none;
  small = r.small;
  ran = r.ran;
}

-- a run that ends among some bytes ends so where more follow
pub ends_before : {stands : World → Type 0} {d e : DiskState} {k l : SinkState} (W : World) (bytes more : List ℕ) (how : RunEnd)
    → EndsAt stands d e k l W bytes how → EndsAt stands d e k l W (bytes ++ more) how
ends_before W bytes more how ends = record {
  done = ends.done;
  next = ends.next;
  lines = λ cut behind. subst (λ (xs : List ℕ). AreLinesOf how (script_from cut 1 (pieces 10 xs)) ends.done ends.next) (sym (append_assoc bytes more behind))
      (ends.lines cut (more ++ behind));
  answered = ends.answered;
}

-- the lines answered are the first ones, whatever follows the bytes taken
pub answered_first : {stands : World → Type 0} {d e : DiskState} {k l : SinkState} (W : World) (bytes : List ℕ) (number : ℕ) (held : List ℕ)
    → (r : Reads stands d e k l W bytes number held) → (cut : Bool) (more : List ℕ) → AreFirst (script_from cut 1 (pieces 10 (bytes ++ more))).lines r.done []
answered_first W bytes number held r cut more =
    let split : bytes ++ more ≡ r.front ++ (held ++ more) = ap (λ xs. xs ++ more) r.bytes_are ∙ append_assoc r.front held more in
    first_none _ r.done (script_from cut number (pieces 10 (held ++ more))).lines
    (ap (λ (s : Script). s.lines) (ap (λ xs. script_from cut 1 (pieces 10 xs)) split ∙ r.says cut (held ++ more)))

-- memory ran out where the front of a line was to be held
pub unheld_ends : {stands : World → Type 0} {d e : DiskState} {k l : SinkState} (W : World) (bytes : List ℕ) (number : ℕ) (held : List ℕ)
    → Reads stands d e k l W bytes number held → EndsAt stands d e k l W bytes end.Memory
unheld_ends W bytes number held r = record {
  done = r.done;
  next = [];
  lines = answered_first W bytes number held r;
  answered = ended_here W r.done end.Memory tt r.ran;
}

-- the sink could not hand on what it held back
pub held_ends : {stands : World → Type 0} {d e : DiskState} {k mid l : SinkState} (W : World) (bytes : List ℕ) (number : ℕ) (held : List ℕ)
    → Reads stands d e k mid W bytes number held → Broke mid l → Rose mid.faults l.faults → EndsAt stands d e k l W bytes end.Output
held_ends W bytes number held r broke rose = record {
  done = r.done;
  next = [];
  lines = answered_first W bytes number held r;
  answered = held_here W r.done r.ran broke rose;
}

-- what answering a line does
pub answered_line : (stands : World → Type 0) (d e : DiskState) (k l : SinkState) (W : World) (number : ℕ) (said : Line) (result : Result (Unit {0}) Halt)
    → AnswersParsed stands d e k l W number (Ok (Says said)) result → (parsed : Result Parsed LineError) → parsed ≡ Ok (Says said) → AnswersParsed stands d e k l W number parsed result
answered_line stands d e k l W number said result answers parsed is = subst (λ p. AnswersParsed stands d e k l W number p result) (sym is) answers

-- the machine stands for a world once a text was answered
pub stands_on : (stands : World → Type 0) (d e : DiskState) (k l : SinkState) (W : World) (number : ℕ) (parsed : Result Parsed LineError) (ok : Unit {0})
    → AnswersParsed stands d e k l W number parsed (Ok ok) → (V : World) × stands V
stands_on stands d e k l W number (Ok Skip) ok ran = (ran.reached, ran.world)
stands_on stands d e k l W number (Ok (Says line)) ok ran = (ran.reached, ran.world)
stands_on stands d e k l W number (Err error) ok none = absurd none

-- a line in the midst of a piece
pub in_piece : (bytes taken line next piece rest : List ℕ) → piece ≡ taken ++ rest → rest ≡ line ++ 10 ∷ next → ((bytes ++ taken) ++ (line ++ 10 ∷ [])) ++ next ≡ bytes ++ piece
in_piece bytes taken line next piece rest split more =
    append_assoc (bytes ++ taken) (line ++ 10 ∷ []) next ∙ ap (λ xs. (bytes ++ taken) ++ xs) (append_assoc line (10 ∷ []) next)
    ∙ append_assoc bytes taken (line ++ 10 ∷ next) ∙ ap (λ xs. bytes ++ xs) (sym (split ∙ ap (λ xs. taken ++ xs) more))
