-- The replies to all rounds of a bench, and how many of them are commits and conflicts.
use Rattle.bench_script.proofs.{Words.{◌≡◌, ◌∙◌, ap, refl, sym, subst, ℕ, zero, suc, ◌+◌, ◌*◌, ◌<◌, ◌≤◌, Bool, true, false, List, [], ◌∷◌, ◌++◌, length, filter, sum_by, sum_by-append, arith, eqb-true, eqb-false, length-append, Access, Clash, Commit, Array, get_access, bench_geometry, record_length, runs, last, World, empty_history, bench_text, bench_world, after_draws, nth_drawn, answers_to, is_committed, is_conflict, Script, script, step, Line, Op, End, Reply, Began, Committed, Conflict, Done, Shown, AreRoundReplies, is_one_place, last_after, one_places, if◌then◌else◌}, GoodLines.{bench_lines, round_lines, said_by, scripts_are}, Meetings.{clash_nowhere, clash_there, commit_of, history_of, reads_and_writes, size_of_one}, RoundSteps.{began, between, first_begins, first_ends, first_reads, first_shown, first_writes, left, second_begins, second_clashes, second_ends, second_reads, second_shown, second_writes}}

-- these lines are answered so
record AreGiven (W : World) (lines : List (ℕ × Line)) (replies : List Reply) : Type 0 where
  pub is : answers_to W lines ≡ replies

-- one line is answered, and then the others
answered : {W V : World} {n c : ℕ} {op : Op} {lines : List (ℕ × Line)} {reply : Reply} {more : List Reply} → step W c op ≡ (reply, V) → AreGiven V lines more
    → AreGiven W ((n, said_by c op) ∷ lines) (reply ∷ more)
answered {W} {V} {n} {c} {op} {lines} {reply} {more} is rest =
    record { is = ap (λ (r : Reply × World). r.0 ∷ answers_to r.1 lines) is ∙ ap (λ (rs : List Reply). reply ∷ rs) rest.is }

-- the bytes that records of these commits take
abbrev pub taken : List Commit → ℕ
taken commits = sum_by (λ c. record_length (runs bench_geometry c.accesses)) commits

-- at most `rounds` rounds have been
pub record AreBehind (commits : List Commit) (next rounds : ℕ) : Type 0 where
  pub number : next ≤ 2 * rounds + 1
  pub few : length commits ≤ 2 * rounds
  pub space : taken commits ≤ 58 * rounds

-- one more commit of a round takes 29 bytes
taken_more : (commits : List Commit) (begin read at write place value : ℕ) → write < 64 → place < 64
    → taken (commits ++ commit_of begin (reads_and_writes read at write place value) ∷ []) ≡ taken commits + 29
taken_more commits begin read at write place value block fits =
    let one : record_length (runs bench_geometry (reads_and_writes read at write place value)) ≡ 29 = size_of_one read at write place value block fits in
    sum_by-append (λ c. record_length (runs bench_geometry c.accesses)) commits (commit_of begin (reads_and_writes read at write place value) ∷ []) ∙ omega (arith, one)

module _ (base : Array) (commits : List Commit) (next p q i j v w : ℕ) where
  abbrev start : ℕ
  start = began base commits next

  abbrev xs : List Access
  xs = reads_and_writes p (4 * i) q (4 * j) v

  abbrev ys : List Access
  ys = reads_and_writes q (4 * i) p (4 * i) w

  abbrev once : List Commit
  once = commits ++ commit_of start xs ∷ []

  abbrev twice : List Commit
  twice = once ++ commit_of start ys ∷ []

  -- the seven replies that all rounds have in common, and what follows them
  abbrev as_all : List Reply → List Reply
  as_all more =
      Began start ∷ Began start ∷ Shown (first_shown base commits next [] [] p (4 * i)) ∷ Done
      ∷ Shown (second_shown base commits next xs [] q (4 * i)) ∷ Done ∷ Committed (start + 1) ∷ more

  abbrev clashes : Reply
  clashes = Conflict (record { commit = start + 1; block = q; at = 4 * j })

  module _ (n rounds : ℕ) (is : AreBehind commits next rounds) (some : rounds < 100000) (first : p < 64) (second : q < 64) (low : i < 16) (high : j < 16) where
    taken_once : taken once ≡ taken commits + 29
    taken_once = taken_more commits start p (4 * i) q (4 * j) v second (omega arith)

    taken_twice : taken twice ≡ taken commits + 58
    taken_twice = taken_more once start q (4 * i) p (4 * i) w first (omega arith) ∙ omega (arith, taken_once)

    pub once_behind : AreBehind once (next + 1 + 1) (rounds + 1)
    once_behind = record {
      number = omega (arith, is.number);
      few = omega (arith, is.few, length-append commits (commit_of start xs ∷ []));
      space = omega (arith, is.space, taken_once);
    }

    pub twice_behind : AreBehind twice (next + 1 + 1) (rounds + 1)
    twice_behind = record {
      number = omega (arith, is.number);
      few = omega (arith, is.few, length-append commits (commit_of start xs ∷ []), length-append once (commit_of start ys ∷ []));
      space = omega (arith, is.space, taken_twice);
    }

    -- the first seven replies, and what follows them
    seven : (lines : List (ℕ × Line)) (more : List Reply) → AreGiven (left base commits next xs ys) ((n + 1 + 1 + 1 + 1 + 1 + 1 + 1, said_by 2 End) ∷ lines) more
        → AreGiven (between base commits next) (round_lines n p q i j v w lines) (as_all more)
    seven lines more last =
        let number = is.number in
        let few = is.few in
        let space = is.space in
        let one : record_length (runs bench_geometry xs) ≡ 29 = size_of_one p (4 * i) q (4 * j) v second (omega arith) in
        answered (first_begins base commits next (omega (arith, number)))
        (answered (second_begins base commits next (omega (arith, number)))
        (answered (first_reads base commits next [] [] p (4 * i) first (omega arith) (omega arith))
        (answered (first_writes base commits next (get_access p (4 * i) 4 ∷ []) [] q (4 * j) second (omega arith) v (omega arith))
        (answered (second_reads base commits next xs [] q (4 * i) second (omega arith) (omega arith))
        (answered (second_writes base commits next xs (get_access q (4 * i) 4 ∷ []) p (4 * i) first (omega arith) w (omega arith))
        (answered (first_ends base commits next xs ys refl (omega (arith, few)) (omega (arith, space, one))) last))))))

    pub same_place : i ≡ j → (lines : List (ℕ × Line)) → answers_to (between base commits next) (round_lines n p q i j v w lines)
        ≡ as_all (clashes ∷ answers_to (between base once (next + 1 + 1)) lines)
    same_place same lines =
        (seven lines (clashes ∷ answers_to (between base once (next + 1 + 1)) lines)
        (answered (second_clashes base commits next xs ys (record { commit = start + 1; block = q; at = 4 * j }) refl (clash_there base commits p q i j v w first second low high same)) (record { is = refl }))).is

    pub other_place : (i ≡ j → ⊥) → (lines : List (ℕ × Line)) → answers_to (between base commits next) (round_lines n p q i j v w lines)
        ≡ as_all (Committed (start + 1 + 1) ∷ answers_to (between base twice (next + 1 + 1)) lines)
    other_place other lines =
        let few = is.few in
        let space = is.space in
        let one : record_length (runs bench_geometry ys) ≡ 29 = size_of_one q (4 * i) p (4 * i) w first (omega arith) in
        let size = length-append commits (commit_of start xs ∷ []) in
        (seven lines (Committed (start + 1 + 1) ∷ answers_to (between base twice (next + 1 + 1)) lines)
        (answered (second_ends base commits next xs ys refl (clash_nowhere base commits p q i j v w first second low high other) (omega (arith, few, size)) (omega (arith, space, one, taken_once))
        ∙ ap (λ (m : ℕ). (Committed (m + 1), between base twice (next + 1 + 1))) (omega (arith, size))) (record { is = refl }))).is

-- The replies to a round that is drawn from a state, and to those after it.
module _ (base : Array) (count x n : ℕ) (commits : List Commit) (next rounds : ℕ) (is : AreBehind commits next rounds) (some : rounds < 100000) where
  abbrev p : ℕ
  p = nth_drawn x 1 64

  abbrev q : ℕ
  q = nth_drawn x 2 64

  abbrev i : ℕ
  i = nth_drawn x 3 16

  abbrev j : ℕ
  j = nth_drawn x 4 16

  abbrev v : ℕ
  v = nth_drawn x 5 256

  abbrev w : ℕ
  w = nth_drawn x 6 256

  abbrev rest_of : List (ℕ × Line)
  rest_of = bench_lines count (n + 1 + 1 + 1 + 1 + 1 + 1 + 1 + 1) (after_draws 6 x)

  abbrev begins : ℕ
  begins = began base commits next

  abbrev ends_so : Bool → Reply
  ends_so t = if t then Conflict (record { commit = begins + 1; block = q; at = 4 * j }) else Committed (begins + 1 + 1)

  abbrev ends_at : Bool → ℕ
  ends_at t = if t then begins + 1 else begins + 1 + 1

  -- the replies to the rounds after it
  abbrev OfOthers : List Commit → (last : ℕ) → Type 0
  OfOthers later last = AreRoundReplies count (after_draws 6 x) last (answers_to (between base later (next + 1 + 1)) rest_of)

  by_place : ((later : List Commit) → AreBehind later (next + 1 + 1) (rounds + 1) → OfOthers later (last (history_of base later)))
      → (t : Bool) → is_one_place x ≡ t → AreRoundReplies (suc count) x begins (answers_to (between base commits next) (bench_lines (suc count) n x))
  by_place others true e =
      let more = once base commits next p q i j v w in
      let replies = answers_to (between base more (next + 1 + 1)) rest_of in (
        first_shown base commits next [] [] p (4 * i),
        second_shown base commits next (xs base commits next p q i j v w) [] q (4 * i),
        replies,
        same_place base commits next p q i j v w n rounds is some (omega arith) (omega arith) (omega arith) (omega arith) (eqb-true i j e) rest_of
            ∙ ap (λ (r : Reply). as_all base commits next p q i j v w (r ∷ replies)) (sym (ap ends_so e)),
        subst (OfOthers more) (omega (arith, length-append commits (commit_of begins (xs base commits next p q i j v w) ∷ [])) ∙ sym (ap ends_at e))
            (others more (once_behind base commits next p q i j v w n rounds is some (omega arith) (omega arith) (omega arith) (omega arith))),
      )
  by_place others false e =
      let first = once base commits next p q i j v w in
      let more = twice base commits next p q i j v w in
      let replies = answers_to (between base more (next + 1 + 1)) rest_of in (
        first_shown base commits next [] [] p (4 * i),
        second_shown base commits next (xs base commits next p q i j v w) [] q (4 * i),
        replies,
        other_place base commits next p q i j v w n rounds is some (omega arith) (omega arith) (omega arith) (omega arith) (eqb-false i j e) rest_of
            ∙ ap (λ (r : Reply). as_all base commits next p q i j v w (r ∷ replies)) (sym (ap ends_so e)),
        subst (OfOthers more)
            (omega (
              arith,
              length-append commits (commit_of begins (xs base commits next p q i j v w) ∷ []),
              length-append first (commit_of begins (ys base commits next p q i j v w) ∷ []),
            )
            ∙ sym (ap ends_at e))
            (others more (twice_behind base commits next p q i j v w n rounds is some (omega arith) (omega arith) (omega arith) (omega arith))),
      )

rounds_answered : (base : Array) (count x n : ℕ) (commits : List Commit) (next rounds : ℕ) → AreBehind commits next rounds → rounds + count ≤ 100000
    → AreRoundReplies count x (last (history_of base commits)) (answers_to (between base commits next) (bench_lines count n x))
rounds_answered base zero x n commits next rounds is fits = refl
rounds_answered base (suc count) x n commits next rounds is fits =
    by_place base count x n commits next rounds is (omega (arith, fits))
    (λ later behind. rounds_answered base count (after_draws 6 x) (n + 1 + 1 + 1 + 1 + 1 + 1 + 1 + 1) later (next + 1 + 1) (rounds + 1) behind (omega (arith, fits)))
    (is_one_place x) refl

-- the replies to the whole script
pub bench_answered : (seed count : ℕ) → count ≤ 100000 → AreRoundReplies count seed 0 (answers_to bench_world (script (bench_text count seed)).lines)
bench_answered seed count few =
    subst (λ (s : Script). AreRoundReplies count seed 0 (answers_to bench_world s.lines)) (sym (scripts_are seed count few))
    (rounds_answered (empty_history bench_geometry).base count seed 1 [] 1 0 (record { number = omega arith; few = omega arith; space = omega arith }) (omega (arith, few)))

-- how many of the replies are conflicts, and how many commits
end_conflicts : (t : Bool) (c : Clash) (n : ℕ) (more : List Reply) → length (filter is_conflict ((if t then Conflict c else Committed n) ∷ more)) ≡ (if t then 1 else 0) + length (filter is_conflict more)
end_conflicts true c n more = omega arith
end_conflicts false c n more = omega arith

end_both : (t : Bool) (c : Clash) (n : ℕ) (more : List Reply)
    → length (filter is_committed ((if t then Conflict c else Committed n) ∷ more)) + length (filter is_conflict ((if t then Conflict c else Committed n) ∷ more))
    ≡ 1 + (length (filter is_committed more) + length (filter is_conflict more))
end_both true c n more = omega arith
end_both false c n more = omega arith

pub conflicts_are : (count x last : ℕ) (replies : List Reply) → AreRoundReplies count x last replies → length (filter is_conflict replies) ≡ one_places count x
conflicts_are zero x last replies none = ap (λ (rs : List Reply). length (filter is_conflict rs)) none
conflicts_are (suc count) x last replies (first, second, more, all, rest) =
    ap (λ (rs : List Reply). length (filter is_conflict rs)) all
    ∙ end_conflicts (is_one_place x) (record { commit = last + 1; block = nth_drawn x 2 64; at = 4 * nth_drawn x 4 16 }) (last + 1 + 1) more
    ∙ ap (λ (n : ℕ). (if is_one_place x then 1 else 0) + n) (conflicts_are count (after_draws 6 x) (last_after x last) more rest)

abbrev commits_and_conflicts : List Reply → ℕ
commits_and_conflicts replies = length (filter is_committed replies) + length (filter is_conflict replies)

pub both_are : (count x last : ℕ) (replies : List Reply) → AreRoundReplies count x last replies → length (filter is_committed replies) + length (filter is_conflict replies) ≡ 2 * count
both_are zero x last replies none = ap commits_and_conflicts none
both_are (suc count) x last replies (first, second, more, all, rest) =
    let here = ap commits_and_conflicts all in
    let ends = end_both (is_one_place x) (record { commit = last + 1; block = nth_drawn x 2 64; at = 4 * nth_drawn x 4 16 }) (last + 1 + 1) more in
    let others = both_are count (after_draws 6 x) (last_after x last) more rest in
    omega (arith, here, ends, others)
