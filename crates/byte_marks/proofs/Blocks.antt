-- Entries whose blocks rise.
use Rattle.byte_marks.proofs.{Words.{◌∙◌, or-false, list_any-append, ◌≡◌, ◌≢◌, refl, sym, ap, subst, ℕ, zero, suc, ◌+◌, ◌<◌, ◌≤◌, Bool, true, false, ◌&&◌, ◌||◌, ◌==◌, List, [], ◌∷◌, ◌++◌, length, get_or, set, take, drop, arith, ne_eqb, or_assoc, or_comm, Extent, has, entry_has, touches, RisesFrom}, Apart.leave_out}

-- they rise from any earlier block on too
pub rises_earlier : (f g : ℕ) (es : List (ℕ × List Extent)) → f ≤ g → RisesFrom g es → RisesFrom f es
rises_earlier f g [] le rises = tt
rises_earlier f g (e ∷ es) le rises = let from : f ≤ e.0 = omega arith in (from, rises.1)

other_block : (b p : ℕ) (e : ℕ × List Extent) → e.0 ≢ b → entry_has b p e ≡ false
other_block b p e other = let test : (e.0 == b) ≡ false = ne_eqb e.0 b other in rw test refl

-- no byte of a block before the first of them is touched
pub none_before_block : (f b p : ℕ) (es : List (ℕ × List Extent)) → b < f → RisesFrom f es → touches es b p ≡ false
none_before_block f b p [] lt rises = refl
none_before_block f b p (e ∷ es) lt rises =
    let other : e.0 ≢ b = λ same. omega arith in
    let here : entry_has b p e ≡ false = other_block b p e other in
    let later : touches es b p ≡ false = none_before_block (e.0 + 1) b p es (omega arith) rises.1 in
    rw (here, later) refl

-- an entry meets none of those of later blocks
pub entry_meets_none : (b p : ℕ) (e : ℕ × List Extent) (es : List (ℕ × List Extent)) → RisesFrom (e.0 + 1) es → (entry_has b p e && touches es b p) ≡ false
entry_meets_none b p e es rises = grind (arith, none_before_block, other_block)

pub pass_entry : (b p : ℕ) (e : ℕ × List Extent) (es fs : List (ℕ × List Extent)) → RisesFrom (e.0 + 1) fs
    → (touches (e ∷ es) b p && touches fs b p) ≡ (touches es b p && touches fs b p)
pass_entry b p e es fs rises = leave_out (entry_has b p e) (touches es b p) (touches fs b p) (entry_meets_none b p e fs rises)

pub pass_entry_right : (b p : ℕ) (e : ℕ × List Extent) (es fs : List (ℕ × List Extent)) → RisesFrom (e.0 + 1) es
    → (touches es b p && touches (e ∷ fs) b p) ≡ (touches es b p && touches fs b p)
pass_entry_right b p e es fs rises = grind (arith, pass_entry)

-- two entries of one block that do not meet may both be passed over
pub pass_both : (b p : ℕ) (x y : ℕ × List Extent) (xs ys : List (ℕ × List Extent)) → (has x.1 p && has y.1 p) ≡ false
    → RisesFrom (x.0 + 1) xs → RisesFrom (y.0 + 1) ys → x.0 ≡ y.0
    → (touches (x ∷ xs) b p && touches (y ∷ ys) b p) ≡ (touches xs b p && touches ys b p)
pass_both b p x y xs ys apart rises_x rises_y same =
    split (entry_has b p x) (entry_has b p y) (touches xs b p) (touches ys b p)
    (both (x.0 == b) (y.0 == b) (has x.1 p) (has y.1 p) apart)
    (entry_meets_none b p x ys (subst (λ (k : ℕ). RisesFrom (k + 1) ys) (sym same) rises_y))
    (entry_meets_none b p y xs (subst (λ (k : ℕ). RisesFrom (k + 1) xs) same rises_x))
  where
    both : (u v s t : Bool) → (s && t) ≡ false → ((u && s) && (v && t)) ≡ false
    both true true s t h = h
    both true false true t h = refl
    both true false false t h = refl
    both false v s t h = refl

    split : (s t u v : Bool) → (s && t) ≡ false → (s && v) ≡ false → (t && u) ≡ false → ((s || u) && (t || v)) ≡ (u && v)
    split true true u v h i j = absurd (cc)
    split true false true v h i j = refl
    split true false false v h i j = i
    split false true true v h i j = absurd (cc)
    split false true false v h i j = refl
    split false false u v h i j = refl

-- blocks further on are not smaller
pub in_order : (f i j : ℕ) (es : List (ℕ × List Extent)) (d : ℕ × List Extent) → RisesFrom f es → i ≤ j → j < length es
    → (get_or es i d).0 ≤ (get_or es j d).0
in_order f i j [] d rises le lt = absurd (omega arith)
in_order f zero zero (e ∷ es) d rises le lt = omega arith
in_order f zero (suc j) (e ∷ es) d rises le lt = let later = at_least (e.0 + 1) j es d rises.1 (omega arith) in omega (arith, later)
  where
    at_least : (f j : ℕ) (es : List (ℕ × List Extent)) (d : ℕ × List Extent) → RisesFrom f es → j < length es → f ≤ (get_or es j d).0
    at_least f j [] d rises lt = absurd (omega arith)
    at_least f zero (e ∷ es) d rises lt = rises.0
    at_least f (suc j) (e ∷ es) d rises lt = let later = at_least (e.0 + 1) j es d rises.1 (omega arith) in omega (arith, later, rises.0)
in_order f (suc i) zero (e ∷ es) d rises le lt = absurd (omega arith)
in_order f (suc i) (suc j) (e ∷ es) d rises le lt = in_order (e.0 + 1) i j es d rises.1 (omega arith) (omega arith)

-- and none is after the last
pub last_block : (f k : ℕ) (es : List (ℕ × List Extent)) (x d : ℕ × List Extent) → RisesFrom f (es ++ x ∷ []) → k < length (es ++ x ∷ [])
    → (get_or (es ++ x ∷ []) k d).0 ≤ x.0
last_block f zero [] x d rises lt = omega arith
last_block f (suc k) [] x d rises lt = absurd (omega arith)
last_block f zero (e ∷ es) x d rises lt = let later = least (e.0 + 1) es x rises.1 in omega (arith, later)
  where
    least : (g : ℕ) (es : List (ℕ × List Extent)) (x : ℕ × List Extent) → RisesFrom g (es ++ x ∷ []) → g ≤ x.0
    least g [] x rises = rises.0
    least g (e ∷ es) x rises = let later = least (e.0 + 1) es x rises.1 in omega (arith, later, rises.0)
last_block f (suc k) (e ∷ es) x d rises lt = last_block (e.0 + 1) k es x d rises.1 (omega arith)

-- an entry in place of that of the same block
pub rises_set : (f i : ℕ) (es : List (ℕ × List Extent)) (e : ℕ × List Extent) → RisesFrom f es → e.0 ≡ (get_or es i e).0 → RisesFrom f (set es i e)
rises_set f i [] e rises same = tt
rises_set f zero (x ∷ xs) e rises same = grind arith
rises_set f (suc i) (x ∷ xs) e rises same = (rises.0, rises_set (x.0 + 1) i xs e rises.1 same)

pub touches_set : (b p i : ℕ) (es : List (ℕ × List Extent)) (e : ℕ × List Extent) (more : Bool) → i < length es → e.0 ≡ (get_or es i e).0
    → has e.1 p ≡ (has (get_or es i e).1 p || more) → touches (set es i e) b p ≡ (touches es b p || ((e.0 == b) && more))
touches_set b p i [] e more lt same grown = absurd (omega arith)
touches_set b p zero (x ∷ xs) e more lt same grown =
    let at : (x.0 == b) ≡ (e.0 == b) = ap (λ (k : ℕ). k == b) (sym same) in
    rw (grown, at) (shift (e.0 == b) (has x.1 p) more (touches xs b p))
  where
    shift : (t h m r : Bool) → ((t && (h || m)) || r) ≡ (((t && h) || r) || (t && m))
    shift true true m r = refl
    shift true false true true = refl
    shift true false true false = refl
    shift true false false true = refl
    shift true false false false = refl
    shift false h m true = refl
    shift false h m false = refl
touches_set b p (suc i) (x ∷ xs) e more lt same grown =
    let rest = touches_set b p i xs e more (omega arith) same grown in
    rw rest (sym (or_assoc (entry_has b p x) (touches xs b p) ((e.0 == b) && more)))

-- a new entry at its place
pub rises_insert : (f i : ℕ) (es : List (ℕ × List Extent)) (e : ℕ × List Extent) → RisesFrom f es → f ≤ e.0
    → ((k : ℕ) → k < i → (get_or es k e).0 < e.0) → ((k : ℕ) → i ≤ k → k < length es → e.0 < (get_or es k e).0) → i ≤ length es
    → RisesFrom f (take i es ++ e ∷ drop i es)
rises_insert f zero [] e rises le before after within = (le, tt)
rises_insert f (suc i) [] e rises le before after within = absurd (omega arith)
rises_insert f zero (x ∷ xs) e rises le before after within =
    let first : e.0 < x.0 = after 0 (omega arith) (omega arith) in
    let next : e.0 + 1 ≤ x.0 = omega arith in
    (le, (next, rises.1))
rises_insert f (suc i) (x ∷ xs) e rises le before after within =
    let first : x.0 < e.0 = before 0 (omega arith) in (
      rises.0,
      rises_insert (x.0 + 1) i xs e rises.1 (omega arith) (λ k lt. before (suc k) (omega arith)) (λ k le' lt. after (suc k) (omega arith) (omega arith))
          (omega arith),
    )

pub touches_insert : (b p i : ℕ) (es : List (ℕ × List Extent)) (e : ℕ × List Extent) → i ≤ length es
    → touches (take i es ++ e ∷ drop i es) b p ≡ (touches es b p || entry_has b p e)
touches_insert b p zero es e within = or_comm (entry_has b p e) (touches es b p)
touches_insert b p (suc i) [] e within = absurd (omega arith)
touches_insert b p (suc i) (x ∷ xs) e within =
    let rest = touches_insert b p i xs e (omega arith) in
    rw rest (sym (or_assoc (entry_has b p x) (touches xs b p) (entry_has b p e)))

-- a new entry behind all others
pub rises_push : (f : ℕ) (es : List (ℕ × List Extent)) (e : ℕ × List Extent) → RisesFrom f es → f ≤ e.0 → ((k : ℕ) → k < length es → (get_or es k e).0 < e.0)
    → RisesFrom f (es ++ e ∷ [])
rises_push f [] e rises le before = (le, tt)
rises_push f (x ∷ xs) e rises le before =
    let first : x.0 < e.0 = before 0 (omega arith) in
    (rises.0, rises_push (x.0 + 1) xs e rises.1 (omega arith) (λ k lt. before (suc k) (omega arith)))

pub touches_push : (b p : ℕ) (es : List (ℕ × List Extent)) (e : ℕ × List Extent) → touches (es ++ e ∷ []) b p ≡ (touches es b p || entry_has b p e)
touches_push b p es e = list_any-append (entry_has b p) es (e ∷ []) ∙ ap (λ t. touches es b p || t) (or-false (entry_has b p e))
