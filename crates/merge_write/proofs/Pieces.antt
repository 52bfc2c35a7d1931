-- What the runs of bytes and masks begin with.
use Rattle.merge_write.proofs.Words.{rules, ◌≡◌, ◌∙◌, refl, ap, ℕ, zero, suc, ◌+◌, ◌-◌, ◌<◌, ◌≤◌, true, false, List, [], ◌∷◌, length, take, drop, Option, Some, None, arith, map, Run, joined, runs_from, drop-drop, drop_all, length-drop, length-take-le, is_set, values_from, piece}

-- the first run begins at p or later
abbrev BeginsFrom : (p : ℕ) → List Run → Type 0
BeginsFrom p [] = Unit {0}
BeginsFrom p (run ∷ runs) = p ≤ run.off

begins_later : (p q : ℕ) (runs : List Run) → q ≤ p → BeginsFrom p runs → BeginsFrom q runs
begins_later p q [] le from = tt
begins_later p q (run ∷ runs) le from = omega arith

joined_from : (b p value : ℕ) (runs : List Run) → BeginsFrom p (joined b p value runs)
joined_from b p value runs = grind arith

runs_from_begin : (b p : ℕ) (values : List (Option ℕ)) → BeginsFrom p (runs_from b p values)
runs_from_begin b p [] = tt
runs_from_begin b p (None ∷ values) = begins_later (p + 1) p (runs_from b (p + 1) values) (omega arith) (runs_from_begin b (p + 1) values)
runs_from_begin b p (Some value ∷ values) = joined_from b p value (runs_from b (p + 1) values)

-- a byte before runs that begin after its neighbour is alone
joined_apart : (b p value : ℕ) (runs : List Run) → BeginsFrom (p + 2) runs → joined b p value runs ≡ record { block = b; off = p; bytes = value ∷ [] } ∷ runs
joined_apart b p value [] from = refl
joined_apart b p value (run ∷ runs) from = search (rules, arith)

-- a byte directly before a run joins it
joined_before : (b p value : ℕ) (run : Run) (runs : List Run) → run.off ≡ p + 1
    → joined b p value (run ∷ runs) ≡ record { block = b; off = p; bytes = value ∷ run.bytes } ∷ runs
joined_before b p value run runs next = search (rules, arith)

-- bytes that are not set have no run
pub skipped : (b p n : ℕ) (masks bytes : List ℕ) → n ≤ length bytes → ((k : ℕ) → p ≤ k → k < p + n → is_set masks k ≡ false)
    → runs_from b p (values_from masks p bytes) ≡ runs_from b (p + n) (values_from masks (p + n) (drop n bytes))
skipped b p zero masks bytes room none = let e : p + 0 ≡ p = omega arith in rw e refl
skipped b p (suc n) masks [] room none = absurd (omega arith)
skipped b p (suc n) masks (x ∷ bytes) room none =
    let e : p + suc n ≡ p + 1 + n = omega arith in
    rw (none p (omega arith) (omega arith), e)
    (skipped b (p + 1) n masks bytes (omega arith) (λ k from below. none k (omega arith) (omega arith)))

-- the runs after a byte that is not set, or at the end
alone : (b p q : ℕ) (masks bytes : List ℕ) → q ≡ p + 1 → (0 < length bytes → is_set masks q ≡ false) → BeginsFrom (p + 2) (runs_from b q (values_from masks q bytes))
alone b p q masks [] e end = tt
alone b p q masks (x ∷ bytes) e end = search (rules, arith, begins_later, runs_from_begin)

-- set bytes up to one that is not set, or to the end, are the first run
pub front_run : (b p n : ℕ) (masks bytes : List ℕ) → 0 < n → n ≤ length bytes
    → ((k : ℕ) → p ≤ k → k < p + n → is_set masks k ≡ true) → (n < length bytes → is_set masks (p + n) ≡ false)
    → runs_from b p (values_from masks p bytes) ≡ record { block = b; off = p; bytes = take n bytes } ∷ runs_from b (p + n) (values_from masks (p + n) (drop n bytes))
front_run b p zero masks bytes some room all end = absurd (omega arith)
front_run b p (suc n) masks [] some room all end = absurd (omega arith)
front_run b p (suc zero) masks (x ∷ bytes) some room all end =
    rw (all p (omega arith) (omega arith))
    (joined_apart b p x (runs_from b (p + 1) (values_from masks (p + 1) bytes)) (alone b p (p + 1) masks bytes refl (λ some. end (omega arith))))
front_run b p (suc (suc n)) masks (x ∷ bytes) some room all end =
    let e : p + suc (suc n) ≡ p + 1 + suc n = omega arith in
    let rest = front_run b (p + 1) (suc n) masks bytes (omega arith) (omega arith) (λ k from below. all k (omega arith) (omega arith))
    (λ more. rw e at (end (omega arith))) in
    grind (arith, joined_before)

-- no byte from a place on is set
pub none_left : (at : ℕ) (masks bytes : List ℕ) → at ≤ length bytes → ((k : ℕ) → at ≤ k → k < length bytes → is_set masks k ≡ false)
    → runs_from 0 at (values_from masks at (drop at bytes)) ≡ []
none_left at masks bytes le none =
    let n = length bytes - at in
    let gone : drop n (drop at bytes) ≡ [] = rw (drop-drop n at bytes) (drop_all (at + n) bytes (omega arith)) in
    skipped 0 at n masks (drop at bytes) (omega (arith, length-drop at bytes)) (λ k from below. none k from (omega arith)) ∙ rw gone refl

-- the first piece from a place on: the bytes from the first that is set up to the next that is not, or to the end
pub next_piece : (at from to : ℕ) (masks bytes : List ℕ) → at ≤ from → from < to → to ≤ length bytes
    → ((k : ℕ) → at ≤ k → k < from → is_set masks k ≡ false) → ((k : ℕ) → from ≤ k → k < to → is_set masks k ≡ true)
    → (to < length bytes → is_set masks to ≡ false)
    → map piece (runs_from 0 at (values_from masks at (drop at bytes)))
    ≡ (record { off = from; len = to - from }, take (to - from) (drop from bytes)) ∷ map piece (runs_from 0 to (values_from masks to (drop to bytes)))
next_piece at from to masks bytes le some room none all end =
    let e : at + (from - at) ≡ from = omega arith in
    let f : from + (to - from) ≡ to = omega arith in
    let first : drop (from - at) (drop at bytes) ≡ drop from bytes = rw (drop-drop (from - at) at bytes, e) refl in
    let second : drop (to - from) (drop from bytes) ≡ drop to bytes = rw (drop-drop (to - from) from bytes, f) refl in
    let skip : runs_from 0 at (values_from masks at (drop at bytes)) ≡ runs_from 0 from (values_from masks from (drop from bytes)) =
    skipped 0 at (from - at) masks (drop at bytes) (omega (arith, length-drop at bytes)) (λ k a b. none k a (omega arith)) ∙ rw (first, e) refl in
    let run : runs_from 0 from (values_from masks from (drop from bytes))
    ≡ record { block = 0; off = from; bytes = take (to - from) (drop from bytes) } ∷ runs_from 0 to (values_from masks to (drop to bytes)) =
    front_run 0 from (to - from) masks (drop from bytes) (omega arith) (omega (arith, length-drop from bytes)) (λ k a b. all k a (omega arith))
    (λ more. rw f (end (omega (arith, length-drop from bytes)))) ∙ rw (second, f) refl in
    let long : length (take (to - from) (drop from bytes)) ≡ to - from = length-take-le (to - from) (drop from bytes) (omega (arith, length-drop from bytes)) in
    ap (map piece) (skip ∙ run) ∙ rw long refl
