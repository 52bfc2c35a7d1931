-- Replies to lines, as a list and as a text, and how many of them are counted.
use Rattle.bench_script.proofs.Words.{◌≡◌, refl, ap, ℕ, suc, Bool, true, false, cond, List, [], ◌∷◌, ◌++◌, length, filter, World, Line, Reply, Shown, answers_to, is_committed, is_conflict, replies, step, reply_line, AreSameButShown, SameButShown, text_of}

pub one_a_line : (W : World) (lines : List (ℕ × Line)) → length (answers_to W lines) ≡ length lines
one_a_line W [] = refl
one_a_line W (line ∷ lines) = ap suc (one_a_line (step W line.1.client line.1.op).1 lines)

pub text_of_answers : (W : World) (lines : List (ℕ × Line)) → text_of lines (answers_to W lines) ≡ replies W lines
text_of_answers W [] = refl
text_of_answers W (line ∷ lines) =
    ap (λ (more : List ℕ). reply_line line.1.client (step W line.1.client line.1.op).0 ++ more) (text_of_answers (step W line.1.client line.1.op).1 lines)

-- a reply is counted by its kind
same_kind : (x y : Reply) → SameButShown x y → (is_committed x ≡ is_committed y) × (is_conflict x ≡ is_conflict y)
same_kind (Shown xs) (Shown ys) same = (refl, refl)
same_kind x y same = (ap is_committed same, ap is_conflict same)

counted : (test : Reply → Bool) (x y : Reply) (xs ys : List Reply) → test x ≡ test y → length (filter test xs) ≡ length (filter test ys) → length (filter test (x ∷ xs)) ≡ length (filter test (y ∷ ys))
counted test x y xs ys head more = by_test (test x) (test y) head
  where
    by_test : (s t : Bool) → s ≡ t → length (cond s (x ∷ filter test xs) (filter test xs)) ≡ length (cond t (y ∷ filter test ys) (filter test ys))
    by_test true true same = ap suc more
    by_test false false same = more
    by_test true false same = cc
    by_test false true same = cc

pub same_counts : (xs ys : List Reply) → AreSameButShown xs ys
    → (length (filter is_committed xs) ≡ length (filter is_committed ys)) × (length (filter is_conflict xs) ≡ length (filter is_conflict ys))
same_counts [] [] same = (refl, refl)
same_counts [] (y ∷ ys) same = absurd same
same_counts (x ∷ xs) [] same = absurd same
same_counts (x ∷ xs) (y ∷ ys) same =
    let head = same_kind x y same.0 in
    let more = same_counts xs ys same.1 in
    (counted is_committed x y xs ys head.0 more.0, counted is_conflict x y xs ys head.1 more.1)
