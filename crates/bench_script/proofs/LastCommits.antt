-- The number of the last commit, by how many replies to the lines of a bench tell of a commit.
use Rattle.bench_script.proofs.{Words.{◌≡◌, sym, refl, subst, ℕ, zero, suc, ◌+◌, ◌-◌, ◌≤◌, ◌==◌, Bool, true, false, cond, if◌then◌else◌, nat_le, nat_lt, List, [], ◌∷◌, length, length-append, Option, Some, None, arith, filter, Access, Clash, LAST, MAX_ACCESSES, clash, has_write, last, Live, World, client, used, need, after_commit, access_step, begin_step, commit_step, end_step, get_step, put_step, step, as_step, bench_text, bench_world, after_draws, answers_to, is_committed, Script, script, Line, Op, Begin, End, Get, Put, Reply, BadBlock, BadRange, TooManyAccesses, after, after_begin, after_leaving, commit_from, in_transaction, out_of_transaction, mode_named, with_access, AllByRecursion}, GoodLines.{bench_lines, scripts_are}}
use Rattle.iso_model.specs.declared.core_reply.CoreReply.TheVariants as core

-- the number of the next commit
abbrev next_commit : World → ℕ
next_commit W = W.history.first + length W.history.commits

-- how many commits a reply tells of
abbrev told : Reply → ℕ
told reply = cond (is_committed reply) 1 0

-- a reply tells of as many commits as the world after it has more
abbrev CountsOn : World → Reply × World → Type 0
CountsOn W ended = next_commit ended.1 ≡ next_commit W + told ended.0

in_one : (W : World) (o : Option Live) (act : Live → Reply × World) → ((t : Live) → CountsOn W (act t)) → CountsOn W (in_transaction W o act)
in_one W None act all = omega arith
in_one W (Some t) act all = all t

out_of_one : (W : World) (o : Option Live) (ended : Reply × World) → CountsOn W ended → CountsOn W (out_of_transaction W o ended)
out_of_one W None ended is = is
out_of_one W (Some t) ended is = omega arith

access_counts : (W : World) (t : Live) (block : ℕ) (wrong : Bool) (answer : Reply) (a : Access) → told answer ≡ 0 → CountsOn W (access_step W t block wrong answer a)
access_counts W t block wrong answer a none = by (nat_le W.geometry.blocks block) wrong (nat_le MAX_ACCESSES (length t.accesses))
  where
    by : (x y z : Bool) → CountsOn W (if x then (BadBlock, W) else if y then (BadRange, W) else if z then (TooManyAccesses, W) else (answer, with_access W t a))
    by true y z = omega arith
    by false true z = omega arith
    by false false true = omega arith
    by false false false = omega (arith, none)

begin_counts : (W : World) (c : ℕ) → CountsOn W (as_step (begin_step W (client c) (mode_named W None)))
unfolding begin_step
begin_counts W c = by _ _ _
  where
    by : (x y z : Bool) → CountsOn W (as_step (if x then (core.ModeFixed, W) else if y then (core.TooManyTx, W) else if z then (core.Worn, W)
        else (core.Began (last W.history), after_begin W (client c) (mode_named W None))))
    by true y z = omega arith
    by false true z = omega arith
    by false false true = omega arith
    by false false false = omega arith

commit_counts : (W : World) (t : Live) (o : Option Clash) → CountsOn W (as_step (commit_step W t o))
unfolding commit_step
commit_counts W t (Some c) = omega arith
commit_counts W t None = by (last W.history == LAST) (nat_lt (W.geometry.log - used W) (need W t))
  where
    by : (x y : Bool) → CountsOn W (as_step (if x then (core.Worn, W) else if y then (core.LogFull (need W t) (W.geometry.log - used W), W) else (core.Committed (last W.history + 1), after_commit W t)))
    by true y = omega arith
    by false true = omega arith
    by false false = omega (arith, length-append W.history.commits (commit_from t ∷ []))

end_counts : (W : World) (t : Live) → CountsOn W (as_step (end_step W t))
unfolding end_step
end_counts W t = by (has_write t.accesses)
  where
    by : (x : Bool) → CountsOn W (as_step (if x then commit_step W t (clash W.geometry W.history t.mode t.begin t.accesses) else (core.ReadOnly, after_leaving W t)))
    by true = commit_counts W t (clash W.geometry W.history t.mode t.begin t.accesses)
    by false = omega arith

-- the operations of a round
abbrev IsOfRound : Op → Type 0
IsOfRound (Begin None) = Unit {0}
IsOfRound (Get block off len) = Unit {0}
IsOfRound (Put block off bytes) = Unit {0}
IsOfRound End = Unit {0}
IsOfRound op = ⊥

step_counts : (W : World) (c : ℕ) (op : Op) → IsOfRound op → CountsOn W (step W c op)
unfolding step get_step put_step
step_counts W c (Begin None) is = out_of_one W _ _ (begin_counts W c)
step_counts W c (Get block off len) is = in_one W _ _ (λ t. access_counts W t block _ _ _ refl)
step_counts W c (Put block off bytes) is = in_one W _ _ (λ t. access_counts W t block _ _ _ refl)
step_counts W c End is = in_one W _ _ (end_counts W)
step_counts W c op is = absurd is

one_more : (reply : Reply) (more : List Reply) → length (filter is_committed (reply ∷ more)) ≡ told reply + length (filter is_committed more)
one_more reply more = by (is_committed reply)
  where
    by : (t : Bool) → length (cond t (reply ∷ filter is_committed more) (filter is_committed more)) ≡ cond t 1 0 + length (filter is_committed more)
    by true = omega arith
    by false = omega arith

lines_count : (W : World) (lines : List (ℕ × Line)) → AllByRecursion (λ line. IsOfRound line.1.op) lines
    → next_commit (after W lines) ≡ next_commit W + length (filter is_committed (answers_to W lines))
lines_count W [] are = omega arith
lines_count W (line ∷ lines) are =
    let ended = step W line.1.client line.1.op in
    let here : CountsOn W ended = step_counts W line.1.client line.1.op are.0 in
    let others = lines_count ended.1 lines are.1 in
    omega (arith, here, others, one_more ended.0 (answers_to ended.1 lines))

are_of_rounds : (count n x : ℕ) → AllByRecursion (λ line. IsOfRound line.1.op) (bench_lines count n x)
are_of_rounds zero n x = tt
are_of_rounds (suc count) n x =
    (tt, (tt, (tt, (tt, (tt, (tt, (tt, (tt, are_of_rounds count (n + 1 + 1 + 1 + 1 + 1 + 1 + 1 + 1) (after_draws 6 x)))))))))

pub bench_counted : (seed count : ℕ) → count ≤ 100000
    → length (filter is_committed (answers_to bench_world (script (bench_text count seed)).lines)) ≡ last (after bench_world (script (bench_text count seed)).lines).history
bench_counted seed count few =
    let all = lines_count bench_world (bench_lines count 1 seed) (are_of_rounds count 1 seed) in
    subst (λ (s : Script). length (filter is_committed (answers_to bench_world s.lines)) ≡ last (after bench_world s.lines).history) (sym (scripts_are seed count few)) (omega (arith, all))
