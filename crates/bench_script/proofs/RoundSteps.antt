-- The lines of a round, one after the other, from a world in which no transaction is live.
use Rattle.bench_script.proofs.{Words.{◌≡◌, ◌∙◌, ap, refl, ℕ, ◌+◌, ◌-◌, ◌<◌, ◌≤◌, Bool, true, false, cond, nat_le, nat_lt, ◌==◌, List, [], ◌∷◌, ◌++◌, Option, Some, None, length, drop, take, arith, eq-eqb, ne_eqb, le-ltb, lt-leb, drop_of_length-le, Access, Clash, Commit, LAST, MAX_ACCESSES, Serial, Array, bench_geometry, clash, clash_from, has_write, last, Live, World, client, used, need, get_access, put_access, shown_to, after_commit, with, without, with_access, access_step, begin_step, commit_step, end_step, get_step, put_step, step, as_step, Reply, Begin, End, Get, Put, Began, Committed, Conflict, Done, Shown}, Meetings.{commit_of, history_of}}
use Rattle.iso_model.specs.declared.core_reply.CoreReply.TheVariants as core

-- each test of a step is passed
access_made : (W : World) (t : Live) (block : ℕ) (wrong : Bool) (answer : Reply) (a : Access) → nat_le W.geometry.blocks block ≡ false → wrong ≡ false
    → nat_le MAX_ACCESSES (length t.accesses) ≡ false → access_step W t block wrong answer a ≡ (answer, with_access W t a)
access_made W t block wrong answer a here right few = rw (here, right, few) refl

commit_made : (W : World) (t : Live) → (last W.history == LAST) ≡ false → nat_lt (W.geometry.log - used W) (need W t) ≡ false
    → commit_step W t None ≡ (core.Committed (last W.history + 1), after_commit W t)
unfolding commit_step
commit_made W t more room = rw (more, room) refl

ended : (W : World) (t : Live) (o : Option Clash) → has_write t.accesses ≡ true → clash W.geometry W.history t.mode t.begin t.accesses ≡ o
    → end_step W t ≡ commit_step W t o
unfolding end_step
ended W t o some is = rw (some, is) refl

-- the numbers of the two transactions
one_number : (n : ℕ) → (n == n) ≡ true
one_number n = eq-eqb n n refl

first_other : (n : ℕ) → (n == n + 1) ≡ false
first_other n = ne_eqb n (n + 1) (λ same. absurd (omega (arith, same)))

second_other : (n : ℕ) → (n + 1 == n) ≡ false
second_other n = ne_eqb (n + 1) n (λ same. absurd (omega (arith, same)))

both_none : (t : Bool) → cond {A = Option Clash} t None None ≡ None
both_none true = refl
both_none false = refl

module _ (base : Array) where
  -- the world between two rounds, by its commits and the next transaction's number
  abbrev pub between : List Commit → (next : ℕ) → World
  between commits next = record { geometry = bench_geometry; history = history_of base commits; live = []; next = next; base = 0; trim = 0; generation = 1 }

  -- with these transactions
  abbrev within : List Commit → (next : ℕ) → List Live → World
  within commits next live = record { geometry = bench_geometry; history = history_of base commits; live = live; next = next; base = 0; trim = 0; generation = 1 }

  abbrev live_at : (number begin : ℕ) → List Access → (c : ℕ) → Live
  live_at number begin accesses c = record { number = number; begin = begin; mode = Serial; accesses = accesses; place = client c }

  module _ (commits : List Commit) (next : ℕ) where
    abbrev pub began : ℕ
    began = last (history_of base commits)

    -- the first client has begun, and both have
    abbrev pub one : World
    one = within commits (next + 1) (live_at next began [] 1 ∷ [])

    abbrev pub two : (xs ys : List Access) → World
    two xs ys = within commits (next + 1 + 1) (live_at next began xs 1 ∷ live_at (next + 1) began ys 2 ∷ [])

    abbrev pub grown : List Access → List Commit
    grown xs = commits ++ commit_of began xs ∷ []

    -- the second one is left
    abbrev pub left : (xs ys : List Access) → World
    left xs ys = within (grown xs) (next + 1 + 1) (live_at (next + 1) began ys 2 ∷ [])

    pub first_begins : next ≤ LAST → step (between commits next) 1 (Begin None) ≡ (Began began, one)
    unfolding step begin_step
    first_begins fits = rw (le-ltb LAST next fits) refl

    pub second_begins : next + 1 ≤ LAST → step one 2 (Begin None) ≡ (Began began, two [] [])
    unfolding step begin_step
    second_begins fits = rw (le-ltb LAST (next + 1) fits) refl

    first_with : (xs ys zs : List Access) → with (live_at next began zs 1) (live_at next began xs 1 ∷ live_at (next + 1) began ys 2 ∷ []) ≡ live_at next began zs 1 ∷ live_at (next + 1) began ys 2 ∷ []
    first_with xs ys zs = rw (one_number next, second_other next) refl

    second_with : (xs ys zs : List Access) → with (live_at (next + 1) began zs 2) (live_at next began xs 1 ∷ live_at (next + 1) began ys 2 ∷ []) ≡ live_at next began xs 1 ∷ live_at (next + 1) began zs 2 ∷ []
    second_with xs ys zs = rw (first_other next, one_number (next + 1)) refl

    -- what the transactions read
    abbrev pub first_shown : (xs ys : List Access) (block off : ℕ) → List ℕ
    first_shown xs ys block off = take 4 (drop off (shown_to (two xs ys) (live_at next began xs 1) block))

    abbrev pub second_shown : (xs ys : List Access) (block off : ℕ) → List ℕ
    second_shown xs ys block off = take 4 (drop off (shown_to (two xs ys) (live_at (next + 1) began ys 2) block))

    module _ (xs ys : List Access) (block off : ℕ) (here : block < 64) (low : off + 4 ≤ 64) where
      pub first_reads : length xs < MAX_ACCESSES → step (two xs ys) 1 (Get block off 4) ≡ (Shown (first_shown xs ys block off), two (xs ++ get_access block off 4 ∷ []) ys)
      unfolding step get_step
      first_reads few =
          access_made (two xs ys) (live_at next began xs 1) block (nat_lt 64 (off + 4)) (Shown (first_shown xs ys block off)) (get_access block off 4) (lt-leb 64 block here) (le-ltb 64 (off + 4) low)
          (lt-leb MAX_ACCESSES (length xs) few)
          ∙ ap (λ (live : List Live). (Shown (first_shown xs ys block off), within commits (next + 1 + 1) live)) (first_with xs ys (xs ++ get_access block off 4 ∷ []))

      pub second_reads : length ys < MAX_ACCESSES → step (two xs ys) 2 (Get block off 4) ≡ (Shown (second_shown xs ys block off), two xs (ys ++ get_access block off 4 ∷ []))
      unfolding step get_step
      second_reads few =
          access_made (two xs ys) (live_at (next + 1) began ys 2) block (nat_lt 64 (off + 4)) (Shown (second_shown xs ys block off)) (get_access block off 4) (lt-leb 64 block here) (le-ltb 64 (off + 4) low)
          (lt-leb MAX_ACCESSES (length ys) few)
          ∙ ap (λ (live : List Live). (Shown (second_shown xs ys block off), within commits (next + 1 + 1) live)) (second_with xs ys (ys ++ get_access block off 4 ∷ []))

      pub first_writes : (v : ℕ) → length xs < MAX_ACCESSES → step (two xs ys) 1 (Put block off (v ∷ [])) ≡ (Done, two (xs ++ put_access 64 block off (v ∷ []) ∷ []) ys)
      unfolding step put_step
      first_writes v few =
          access_made (two xs ys) (live_at next began xs 1) block (nat_lt 64 (off + 1)) Done (put_access 64 block off (v ∷ [])) (lt-leb 64 block here) (le-ltb 64 (off + 1) (omega (arith, low)))
          (lt-leb MAX_ACCESSES (length xs) few)
          ∙ ap (λ (live : List Live). (Done, within commits (next + 1 + 1) live)) (first_with xs ys (xs ++ put_access 64 block off (v ∷ []) ∷ []))

      pub second_writes : (v : ℕ) → length ys < MAX_ACCESSES → step (two xs ys) 2 (Put block off (v ∷ [])) ≡ (Done, two xs (ys ++ put_access 64 block off (v ∷ []) ∷ []))
      unfolding step put_step
      second_writes v few =
          access_made (two xs ys) (live_at (next + 1) began ys 2) block (nat_lt 64 (off + 1)) Done (put_access 64 block off (v ∷ [])) (lt-leb 64 block here) (le-ltb 64 (off + 1) (omega (arith, low)))
          (lt-leb MAX_ACCESSES (length ys) few)
          ∙ ap (λ (live : List Live). (Done, within commits (next + 1 + 1) live)) (second_with xs ys (ys ++ put_access 64 block off (v ∷ []) ∷ []))

    -- no commit has come since the first one began
    none_since : (xs : List Access) → clash bench_geometry (history_of base commits) Serial began xs ≡ None
    unfolding clash
    none_since xs =
        ap (λ (later : List Commit). cond (has_write xs) (clash_from bench_geometry Serial xs (1 + (began + 1 - 1)) later) None) (drop_of_length-le commits (omega arith))
        ∙ both_none (has_write xs)

    without_first : (xs ys : List Access) → without next (live_at next began xs 1 ∷ live_at (next + 1) began ys 2 ∷ []) ≡ live_at (next + 1) began ys 2 ∷ []
    without_first xs ys = rw (one_number next, second_other next) refl

    without_second : (ys : List Access) → without (next + 1) (live_at (next + 1) began ys 2 ∷ []) ≡ []
    without_second ys = rw (one_number (next + 1)) refl

    pub first_ends : (xs ys : List Access) → has_write xs ≡ true → began < LAST → used (two xs ys) + need (two xs ys) (live_at next began xs 1) ≤ 8388608
        → step (two xs ys) 1 End ≡ (Committed (began + 1), left xs ys)
    unfolding step
    first_ends xs ys some more room =
        ap as_step
        (ended (two xs ys) (live_at next began xs 1) None some (none_since xs)
        ∙ commit_made (two xs ys) (live_at next began xs 1) (ne_eqb began LAST (λ same. absurd (omega (arith, same, more))))
        (le-ltb (8388608 - used (two xs ys)) (need (two xs ys) (live_at next began xs 1)) (omega (arith, room))))
        ∙ ap (λ (live : List Live). (Committed (began + 1), within (grown xs) (next + 1 + 1) live)) (without_first xs ys)

    pub second_clashes : (xs ys : List Access) (c : Clash) → has_write ys ≡ true → clash bench_geometry (history_of base (grown xs)) Serial began ys ≡ Some c
        → step (left xs ys) 2 End ≡ (Conflict c, between (grown xs) (next + 1 + 1))
    unfolding step commit_step
    second_clashes xs ys c some is =
        ap as_step (ended (left xs ys) (live_at (next + 1) began ys 2) (Some c) some is)
        ∙ ap (λ (live : List Live). (Conflict c, within (grown xs) (next + 1 + 1) live)) (without_second ys)

    pub second_ends : (xs ys : List Access) → has_write ys ≡ true → clash bench_geometry (history_of base (grown xs)) Serial began ys ≡ None → last (history_of base (grown xs)) < LAST
        → used (left xs ys) + need (left xs ys) (live_at (next + 1) began ys 2) ≤ 8388608
        → step (left xs ys) 2 End ≡ (Committed (last (history_of base (grown xs)) + 1), between (grown xs ++ commit_of began ys ∷ []) (next + 1 + 1))
    unfolding step
    second_ends xs ys some is more room =
        ap as_step
        (ended (left xs ys) (live_at (next + 1) began ys 2) None some is
        ∙ commit_made (left xs ys) (live_at (next + 1) began ys 2) (ne_eqb (last (history_of base (grown xs))) LAST (λ same. absurd (omega (arith, same, more))))
        (le-ltb (8388608 - used (left xs ys)) (need (left xs ys) (live_at (next + 1) began ys 2)) (omega (arith, room))))
        ∙ ap (λ (live : List Live). (Committed (last (history_of base (grown xs)) + 1), within (grown xs ++ commit_of began ys ∷ []) (next + 1 + 1) live)) (without_second ys)
