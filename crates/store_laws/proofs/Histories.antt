-- A history of commits that write a region by calls alone, and transactions without writes.
use Rattle.store_laws.proofs.{Words.{◌≡◌, ◌⊎◌, ◌∙◌, sym, refl, ap, subst, ℕ, zero, suc, ◌+◌, ◌-◌, ◌<◌, ◌≤◌, Bool, true, false, ◌||◌, cond, IfSome, List, [], ◌∷◌, ◌++◌, length, Option, Some, None, slice_get, arith, Access, Commit, Geometry, Array, put, IsSerialAt, has_write, is_write, own, History, array_at, last, HasSeen, IsOfItsBlocks, MapStore, AnswerByMap, AnswerInOrder, AnswersAt, AnswersShown, AreMade, Called, AnswersFrom, CommitsAfter, IsByCalls, IsCommitted, IsOfCalls, Other, PartsOf, accesses_in, answers_in, calls_in, inr}, InOrder.{commit_by, live_in_order, same_shape}}

-- a commit that has seen what it should, and makes no calls or is serial
mode_serial : (s : MapStore) (g : Geometry) (H : History) (k : ℕ) (c : Commit) (of : IsOfCalls s H c) → HasSeen g H k c → (calls_in of.parts ≡ []) ⊎ IsSerialAt H k
mode_serial s g H k c of seen = grind arith steps 100000

pub commit_follows : (s : MapStore) → IsOfItsBlocks s → (g : Geometry) (H : History) (k : ℕ) (c : Commit) → 0 < H.first → H.first ≤ k → slice_get H.commits (k - H.first) ≡ Some c
    → HasSeen g H k c → (of : IsOfCalls s H c) → s.IsWellFormed (array_at H (k - 1)) → AnswerInOrder s of.parts (array_at H (k - 1)) (array_at H k)
commit_follows s regional g H k c first from is seen of well = commit_by s regional H k c of.parts first from is (mode_serial s g H k c of seen) of.are of.made well

some_of : {A : Type 0} (P Q : A → Type 0) (R : Type 0) (o : Option A) → ((x : A) → o ≡ Some x → P x → Q x → R) → (o ≡ None → R) → IfSome o P → IfSome o Q → R
some_of P Q R None some none p q = none refl
some_of P Q R (Some x) some none p q = some x refl p q

there_is_one : {A : Type 0} (xs : List A) (i : ℕ) → i < length xs → slice_get xs i ≡ None → (R : Type 0) → R
there_is_one [] i below is R = absurd (omega arith)
there_is_one (x ∷ xs) zero below is R = cc
there_is_one (x ∷ xs) (suc i) below is R = there_is_one xs i (omega arith) is R

well_after : (s : MapStore) → IsOfItsBlocks s → (g : Geometry) (H : History) (n : ℕ) → IsByCalls s g H n → (more : ℕ) → n + more ≤ last H → s.IsWellFormed (array_at H (n + more))
well_after s regional g H n by zero within = let e : n + 0 ≡ n = omega arith in subst (λ m. s.IsWellFormed (array_at H m)) (sym e) by.begins
well_after s regional g H n by (suc more) within =
    let k = n + suc more in
    let first = by.first in
    let since = by.since in
    let after : n < k = omega arith in
    let from : H.first ≤ k = omega arith in
    let before : n + more ≡ k - 1 = omega arith in
    let place : k - H.first < length H.commits = omega arith in
    let ih = well_after s regional g H n by more (omega arith) in
    some_of (HasSeen g H k) (IsOfCalls s H) (s.IsWellFormed (array_at H k)) (slice_get H.commits (k - H.first))
    (λ c is seen has. (commit_follows s regional g H k c first from is seen has (subst (λ m. s.IsWellFormed (array_at H m)) before ih)).well_formed)
    (λ none. there_is_one H.commits (k - H.first) place none (s.IsWellFormed (array_at H k)))
    (by.isolated k from within) (by.calls k after within)

-- the region is well formed at each number
pub well_formed_at : (s : MapStore) → IsOfItsBlocks s → (g : Geometry) (H : History) (n m : ℕ) → IsByCalls s g H n → n ≤ m → m ≤ last H → s.IsWellFormed (array_at H m)
well_formed_at s regional g H n m by after to =
    let e : n + (m - n) ≡ m = omega arith in
    subst (λ j. s.IsWellFormed (array_at H j)) e (well_after s regional g H n by (m - n) (omega arith))

-- each commit's calls answer by the map directly before it
pub if_some : {A : Type 0} (P Q : A → Type 0) (o : Option A) → ((x : A) → o ≡ Some x → P x → Q x) → IfSome o P → IfSome o Q
if_some P Q None each p = tt
if_some P Q (Some x) each p = each x refl p

pub two_if : {A : Type 0} (P Q R : A → Type 0) (o : Option A) → ((x : A) → P x → Q x → R x) → IfSome o P → IfSome o Q → IfSome o R
two_if P Q R None each p q = tt
two_if P Q R (Some x) each p q = each x p q

pub commits_in_order : (s : MapStore) → IsOfItsBlocks s → (g : Geometry) (H : History) (n : ℕ) → IsByCalls s g H n → CommitsAfter H n (AnswersAt s H)
commits_in_order s regional g H n by k after to =
    let since = by.since in
    let from : H.first ≤ k = omega arith in
    if_some (HasSeen g H k) (AnswersAt s H k) (slice_get H.commits (k - H.first))
    (λ c is seen has. commit_follows s regional g H k c by.first from is seen has (well_formed_at s regional g H n (k - 1) by (omega arith) (omega arith)))
    (by.isolated k from to)

read_next : (a : Access) (test rest : Bool) (A : Array) → test || rest ≡ false → (cond test (put A a) A ≡ A) × (rest ≡ false)
read_next a false rest A none = (refl, none)
read_next a true rest A none = cc

-- accesses without a write leave the array, in two parts
reads_leave : (xs ys : List Access) (A : Array) → has_write (xs ++ ys) ≡ false → (own A xs ≡ A) × (has_write ys ≡ false)
reads_leave [] ys A none = (refl, none)
reads_leave (a ∷ xs) ys A none =
    let here = read_next a (is_write a) (has_write (xs ++ ys)) A none in
    let ih = reads_leave xs ys A here.1 in
    (ap (λ (B : Array). own B xs) here.0 ∙ ih.0, ih.1)

-- Without a write each call answers by the map that was there at the begin.
pub read_only_answers : (s : MapStore) (A : Array) (parts : PartsOf s) → AreMade s A parts → s.IsWellFormed A → has_write (accesses_in parts) ≡ false → AnswerByMap s parts A
read_only_answers s A [] made well none = refl
read_only_answers s A (Called call accesses answer ∷ parts) made well none =
    let leaves = reads_leave accesses (accesses_in parts) A none in
    let here : (s.act call (s.map_of A)).0 ≡ answer = made.0.answers A (same_shape A) well (λ b p has. refl) in
    let rest = read_only_answers s A parts (subst (λ (B : Array). AreMade s B parts) leaves.0 made.1) well leaves.1 in
    ap (λ (r : s.Answer). r ∷ answers_in parts) (sym here) ∙ ap (λ (rest : List s.Answer). (s.act call (s.map_of A)).0 ∷ rest) rest
read_only_answers s A (Other accesses ∷ parts) made well none =
    let leaves = reads_leave accesses (accesses_in parts) A none in
    read_only_answers s A parts (subst (λ (B : Array). AreMade s B parts) leaves.0 made.1) well leaves.1

-- A commit that is serial answers so,
pub commit_answers : (s : MapStore) → IsOfItsBlocks s → (H : History) (k : ℕ) (parts : PartsOf s) → IsCommitted s H k parts → AnswerInOrder s parts (array_at H (k - 1)) (array_at H k)
commit_answers s regional H k parts is = commit_by s regional H k is.commit parts is.first is.since is.is (inr is.serial) is.are is.made is.well_formed

-- a transaction by what it is shown,
pub shown_answers : (s : MapStore) → IsOfItsBlocks s → (A : Array) → s.IsWellFormed A → AnswersShown s A
shown_answers s regional A well parts made = live_in_order s regional A parts made well

-- and a history by calls at each number.
pub calls_answer : (s : MapStore) → IsOfItsBlocks s → (g : Geometry) (H : History) (n : ℕ) → IsByCalls s g H n → AnswersFrom s H n
calls_answer s regional g H n by = record {
  commits = commits_in_order s regional g H n by;
  live = λ m from to. shown_answers s regional (array_at H m) (well_formed_at s regional g H n m by from to);
  read_only = λ m from to parts made none. read_only_answers s (array_at H m) parts made (well_formed_at s regional g H n m by from to) none;
  well_formed = λ m from to. well_formed_at s regional g H n m by from to;
}
