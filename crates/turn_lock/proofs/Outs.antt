-- Numbers that are handed out and taken back.
use Rattle.turn_lock.proofs.{Words.{◌≡◌, ℕ, zero, suc, ◌+◌, ◌<◌, ◌≤◌, ◌≢◌, Bool, true, false, not, ◌||◌, ◌==◌, cond, List, [], ◌∷◌, ◌++◌, Option, Some, None, refl, ap, ◌∙◌, subst, eq-eqb, arith, option_to_list, filter, AllByRecursion, nat_tests, hit, times, AreDistinct, is_among, out_next, out_from, is_out, IsOut, AreOut, AreFree, AreHeld, without, held_after}, Totals.{hit_same, hit_other}, Rising.times_append}

-- what holds of all these numbers holds of one of them
pub among_all : (P : ℕ → Type 0) (n : ℕ) (ms : List ℕ) → AllByRecursion P ms → is_among n ms ≡ true → P n
among_all P n [] all is = absurd (cc is)
among_all P n (m ∷ ms) all is = here_or_later (m == n) refl is (among_all P n ms all.1)
  where
    here_or_later : (b : Bool) → (m == n) ≡ b → (b || is_among n ms) ≡ true → (is_among n ms ≡ true → P n) → P n
    here_or_later true same here later = subst P (grind (arith, nat_tests)) all.0
    here_or_later false other here later = later here

-- and the other way round
pub all_among : (P : ℕ → Type 0) (ms : List ℕ) → ((n : ℕ) → is_among n ms ≡ true → P n) → AllByRecursion P ms
all_among P [] each = tt
all_among P (m ∷ ms) each = (each m (ap (λ b. b || is_among m ms) (eq-eqb m m refl)), all_among P ms (λ n is. each n (later n (m == n) is)))
  where
    later : (n : ℕ) (b : Bool) → is_among n ms ≡ true → (b || is_among n ms) ≡ true
    later n true is = refl
    later n false is = is

times_but_by : (n m x : ℕ) (xs : List ℕ) (b c : Bool) → (x == m) ≡ b → (m == n) ≡ c → times n (filter (λ y. not (y == m)) xs) ≡ cond c 0 (times n xs)
    → times n (filter (λ y. not (y == m)) (x ∷ xs)) ≡ cond c 0 (hit x n + times n xs)
times_but_by n m x xs true true is at ih = rw is ih
times_but_by n m x xs true false is at ih = let other : x ≢ n = grind (arith, nat_tests) in let h = hit_other x n other in rw is (omega arith)
times_but_by n m x xs false true is at ih = let other : x ≢ n = grind (arith, nat_tests) in let h = hit_other x n other in rw is (omega arith)
times_but_by n m x xs false false is at ih = rw is (ap (λ k. hit x n + k) ih)

times_but : (n m : ℕ) (xs : List ℕ) (c : Bool) → (m == n) ≡ c → times n (filter (λ y. not (y == m)) xs) ≡ cond c 0 (times n xs)
times_but n m [] true at = refl
times_but n m [] false at = refl
times_but n m (x ∷ xs) c at = times_but_by n m x xs (x == m) c refl at (times_but n m xs c at)

pub times_without : (n : ℕ) (ms ns : List ℕ) → times n (without ms ns) ≡ cond (is_among n ms) 0 (times n ns)
times_without n [] ns = refl
times_without n (m ∷ ms) ns = times_but n m (without ms ns) (m == n) refl ∙ either_one (times n (without ms ns)) (times n ns) (is_among n ms) (m == n) (times_without n ms ns)
  where
    either_one : (t k : ℕ) (a b : Bool) → t ≡ cond a 0 k → cond b 0 t ≡ cond (b || a) 0 k
    either_one t k a true rest = refl
    either_one t k a false rest = rest

pub times_handed : (n : ℕ) (h : Option ℕ) → times n (option_to_list h) ≡ cond (is_among n (option_to_list h)) 1 0
times_handed n None = refl
times_handed n (Some m) = once (m == n)
  where
    once : (b : Bool) → ◌≡◌ {A = ℕ} (cond b 1 0 + 0) (cond (b || false) 1 0)
    once true = refl
    once false = refl

-- a number that leaves a list for another is in the two as often as it stood in the one
pub times_parted : (n : ℕ) (h : Option ℕ) (ns : List ℕ) → AreHeld (option_to_list h) ns → times n ns ≤ 1 → times n (without (option_to_list h) ns) + times n (option_to_list h) ≡ times n ns
times_parted n h ns held once = parted (is_among n (option_to_list h)) (times_without n (option_to_list h) ns) (times_handed n h) (among_all (λ m. 0 < times m ns) n (option_to_list h) held)
  where
    parted : {a b : ℕ} (c : Bool) → a ≡ cond c 0 (times n ns) → b ≡ cond c 1 0 → (c ≡ true → 0 < times n ns) → a + b ≡ times n ns
    parted true left moved there = let t = there refl in omega arith
    parted false left moved there = omega arith

nothing : (k : ℕ) (o : Bool) → (0 < k → o ≡ true) → o ≡ false → k ≡ 0
nothing zero o out is = refl
nothing (suc k) o out is = let t = out (omega arith) in absurd (cc (t, is))

-- k passes hold a number, and k' after an entry: x says that the entry hands it out, y that it takes it back, o that it is out before
still_alone : (x y o : Bool) (k k' m : ℕ) → k' + m ≡ k + (cond x 1 0 + cond y 0 m) → m ≤ k → k ≤ 1 → (0 < k → o ≡ true) → (x ≡ true → o ≡ false) → (y ≡ true → 0 < m)
    → (k' ≤ 1) × (0 < k' → cond x true (cond y false o) ≡ true)
still_alone true true o k k' m e some one out free held = let none = nothing k o out (free refl) in (omega arith, λ _. refl)
still_alone true false o k k' m e some one out free held = let none = nothing k o out (free refl) in (omega arith, λ _. refl)
still_alone false true o k k' m e some one out free held = let h = held refl in (omega arith, λ lt. absurd (omega arith))
still_alone false false o k k' m e some one out free held = (omega arith, λ lt. out (omega arith))

module _ {E : Type 0} (hands : E → Option ℕ) (takes : E → List ℕ) where
  out_append : (n : ℕ) (b : Bool) (es : List E) (e : E) → out_from hands takes n b (es ++ e ∷ []) ≡ out_next hands takes n (out_from hands takes n b es) e
  out_append n b [] e = refl
  out_append n b (x ∷ xs) e = out_append n (out_next hands takes n b x) xs e

  pub out_snoc : (n : ℕ) (es : List E) (e : E) → is_out hands takes n (es ++ e ∷ []) ≡ out_next hands takes n (is_out hands takes n es) e
  out_snoc n es e = out_append n false es e

  -- after an entry of a pass that holds the numbers ns: no number is held twice, and each that is held is out
  pub held_on : (n : ℕ) (e : E) (ns : List ℕ) (es : List E) (k k' : ℕ) → k' + times n ns ≡ k + times n (held_after hands takes e ns) → times n ns ≤ k → k ≤ 1
      → (0 < k → IsOut hands takes n es) → AreFree hands takes (option_to_list (hands e)) es → AreHeld (takes e) ns → (k' ≤ 1) × (0 < k' → IsOut hands takes n (es ++ e ∷ []))
  held_on n e ns es k k' sum some one out free held = grind (arith, times_append, times_handed, times_without, still_alone, among_all, out_snoc)

  -- a number that is not handed out and was not out, or is taken back, is not out afterwards
  pub stays_free : (n : ℕ) (es : List E) (e : E) → is_among n (option_to_list (hands e)) ≡ false → (is_among n (takes e) ≡ false → is_out hands takes n es ≡ false) → is_out hands takes n (es ++ e ∷ []) ≡ false
  stays_free n es e other free = out_snoc n es e ∙ next_free (is_among n (takes e)) other free
    where
      next_free : {x o : Bool} (y : Bool) → x ≡ false → (y ≡ false → o ≡ false) → cond x true (cond y false o) ≡ false
      next_free true other free = rw other refl
      next_free false other free = rw other (free refl)

  -- after an entry, the number that it hands out is out, and held by its pass
  pub handed_out : (ns : List ℕ) (es : List E) (e : E) → AreOut hands takes (option_to_list (hands e)) (es ++ e ∷ []) × AreHeld (option_to_list (hands e)) (held_after hands takes e ns)
  handed_out ns es e = grind (arith, all_among, out_snoc, times_handed, times_append)

  -- after an entry, none of the numbers that it takes back is out
  pub taken_free : (ns : List ℕ) (es : List E) (e : E) → ((n : ℕ) → 0 < times n ns → IsOut hands takes n es) → AreFree hands takes (option_to_list (hands e)) es → AreHeld (takes e) ns
      → AreFree hands takes (takes e) (es ++ e ∷ [])
  taken_free ns es e out free held = all_among (λ n. is_out hands takes n (es ++ e ∷ []) ≡ false) (takes e)
      (λ n taken. stays_free n es e (not_handed n (is_among n (option_to_list (hands e))) refl (out n (among_all (λ m. 0 < times m ns) n (takes e) held taken))) (λ no. absurd (cc (taken, no))))
    where
      not_handed : (n : ℕ) (b : Bool) → is_among n (option_to_list (hands e)) ≡ b → IsOut hands takes n es → b ≡ false
      not_handed n true is was = absurd (cc (was, among_all (λ m. is_out hands takes m es ≡ false) n (option_to_list (hands e)) free is))
      not_handed n false is was = refl

-- For callers: numbers that were taken back are held no more.
pub all_gone : (ms ns : List ℕ) → AllByRecursion (λ m. times m (without ms ns) ≡ 0) ms
all_gone ms ns = all_among (λ m. times m (without ms ns) ≡ 0) ms (λ n is. times_without n ms ns ∙ ap (λ b. cond b 0 (times n ns)) is)

-- A number that was just handed out is held.
pub held_first : (n : ℕ) (ns : List ℕ) → 0 < times n (n ∷ ns)
held_first n ns = let h = hit_same n n refl in omega arith

-- A pass holds all that it holds, and no number twice.
pub all_held : (ns : List ℕ) → AreHeld ns ns
all_held ns = all_among (λ m. 0 < times m ns) ns (λ n is. among_times n ns is)
  where
    among_times : (n : ℕ) (ms : List ℕ) → is_among n ms ≡ true → 0 < times n ms
    among_times n [] is = absurd (cc is)
    among_times n (m ∷ ms) is = here (m == n) is (among_times n ms)
      where
        here : (b : Bool) → (b || is_among n ms) ≡ true → (is_among n ms ≡ true → 0 < times n ms) → 0 < cond b 1 0 + times n ms
        here true is later = omega arith
        here false is later = let lt = later is in omega arith

pub alone_distinct : (ns : List ℕ) → ((n : ℕ) → times n ns ≤ 1) → AreDistinct ns
alone_distinct [] alone = tt
alone_distinct (m ∷ ms) alone = (let h = hit_same m m refl in let once = alone m in omega arith, alone_distinct ms (λ n. let once = alone n in omega arith))
