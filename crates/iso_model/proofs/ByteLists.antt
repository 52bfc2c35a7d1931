-- Lists of bytes, and their pieces.
use Rattle.iso_model.proofs.Words.{inl, inr, ℕ, zero, suc, ◌+◌, ◌<◌, Bool, true, false, cond, List, [], ◌∷◌, ◌++◌, take, drop, replicate, set, arith, cases_lt, get_or-drop, get_or-take, get_or_past, length-take, Span, covered, merged, AreBytes}

pub no_bytes : AreBytes []
no_bytes i = omega arith

pub bytes_cons : (x : ℕ) (bytes : List ℕ) → x < 256 → AreBytes bytes → AreBytes (x ∷ bytes)
bytes_cons x bytes first rest zero = first
bytes_cons x bytes first rest (suc i) = rest i

pub bytes_rest : (x : ℕ) (bytes : List ℕ) → AreBytes (x ∷ bytes) → AreBytes bytes
bytes_rest x bytes all i = all (suc i)

pub bytes_append : (xs ys : List ℕ) → AreBytes xs → AreBytes ys → AreBytes (xs ++ ys)
bytes_append [] ys first second = second
bytes_append (x ∷ xs) ys first second = bytes_cons x (xs ++ ys) (first 0) (bytes_append xs ys (bytes_rest x xs first) second)

pub bytes_front : (xs ys : List ℕ) → AreBytes (xs ++ ys) → AreBytes xs
bytes_front [] ys all = no_bytes
bytes_front (x ∷ xs) ys all = bytes_cons x xs (all 0) (bytes_front xs ys (bytes_rest x (xs ++ ys) all))

pub bytes_back : (xs ys : List ℕ) → AreBytes (xs ++ ys) → AreBytes ys
bytes_back [] ys all = all
bytes_back (x ∷ xs) ys all = bytes_back xs ys (bytes_rest x (xs ++ ys) all)

pub bytes_drop : (n : ℕ) (bytes : List ℕ) → AreBytes bytes → AreBytes (drop n bytes)
bytes_drop n bytes all i = rw get_or-drop (all (n + i))

pub bytes_take : (n : ℕ) (bytes : List ℕ) → AreBytes bytes → AreBytes (take n bytes)
bytes_take n bytes all i = elim (cases_lt i n) [
  | inl below ↦ rw (get_or-take n bytes i 0 below) (all i)
  | inr past ↦ rw (get_or_past (take n bytes) i 0 (omega (arith, length-take n bytes))) (omega arith)
]

pub replicate_bytes : (n x : ℕ) → x < 256 → AreBytes (replicate n x)
replicate_bytes zero x below = no_bytes
replicate_bytes (suc n) x below = bytes_cons x (replicate n x) below (replicate_bytes n x below)

pub set_bytes : (bytes : List ℕ) (i x : ℕ) → x < 256 → AreBytes bytes → AreBytes (set bytes i x)
set_bytes [] i x below all = no_bytes
set_bytes (y ∷ bytes) zero x below all = bytes_cons x bytes below (bytes_rest y bytes all)
set_bytes (y ∷ bytes) (suc i) x below all = bytes_cons y (set bytes i x) (all 0) (set_bytes bytes i x below (bytes_rest y bytes all))

pub merged_bytes : (spans : List Span) (p : ℕ) (old new : List ℕ) → AreBytes old → AreBytes new → AreBytes (merged spans p old new)
merged_bytes spans p [] new first second = no_bytes
merged_bytes spans p (x ∷ old) [] first second = first
merged_bytes spans p (x ∷ old) (y ∷ new) first second =
    bytes_cons (cond (covered spans p) y x) (merged spans (p + 1) old new) (chosen (covered spans p))
    (merged_bytes spans (p + 1) old new (bytes_rest x old first) (bytes_rest y new second))
  where
    chosen : (t : Bool) → cond t y x < 256
    chosen true = second 0
    chosen false = first 0
