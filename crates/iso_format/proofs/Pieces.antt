-- Bytes are their pieces, from the front on.
use Rattle.iso_format.proofs.Words.{◌≡◌, ℕ, ◌+◌, ◌<◌, ◌≤◌, ◌==◌, List, [], ◌∷◌, ◌++◌, length, get_or, take, drop, replicate, IsTrue, nat_eq, refl, sym, ap, ◌∙◌, arith, take-add, drop-cons, eqb-true, and_parts, length-take, length-drop, be_bytes_2, be_bytes_4, be_bytes_8, w16, w32, w64, to_be_bytes, from_be_bytes, pointwise, list_all, AreBytes, bytes_drop, bytes_take, number_at, are_zero}

-- a piece after a front
pub grow : (bytes front piece : List ℕ) (n m : ℕ) → take n bytes ≡ front → take m (drop n bytes) ≡ piece → take (n + m) bytes ≡ front ++ piece
grow bytes front piece n m e f = take-add n m bytes ∙ ap (λ (x : List ℕ). x ++ take m (drop n bytes)) e ∙ ap (λ (x : List ℕ). front ++ x) f

piece_length : (bytes : List ℕ) (at n : ℕ) → at + n ≤ length bytes → length (take n (drop at bytes)) ≡ n
piece_length bytes at n h = omega (arith, length-take n (drop at bytes), length-drop at bytes)

-- the bytes of a number that was read
pub spelled_16 : (bytes : List ℕ) (at : ℕ) → AreBytes bytes → at + 2 ≤ length bytes → take 2 (drop at bytes) ≡ to_be_bytes w16 (number_at w16 at bytes)
spelled_16 bytes at h lt =
    let piece = take 2 (drop at bytes) in
    sym (be_bytes_2 piece (from_be_bytes w16 piece) (piece_length bytes at 2 lt) (bytes_take 2 (drop at bytes) (bytes_drop at bytes h)) refl)

pub spelled_32 : (bytes : List ℕ) (at : ℕ) → AreBytes bytes → at + 4 ≤ length bytes → take 4 (drop at bytes) ≡ to_be_bytes w32 (number_at w32 at bytes)
spelled_32 bytes at h lt =
    let piece = take 4 (drop at bytes) in
    sym (be_bytes_4 piece (from_be_bytes w32 piece) (piece_length bytes at 4 lt) (bytes_take 4 (drop at bytes) (bytes_drop at bytes h)) refl)

pub spelled_64 : (bytes : List ℕ) (at : ℕ) → AreBytes bytes → at + 8 ≤ length bytes → take 8 (drop at bytes) ≡ to_be_bytes w64 (number_at w64 at bytes)
spelled_64 bytes at h lt =
    let piece = take 8 (drop at bytes) in
    sym (be_bytes_8 piece (from_be_bytes w64 piece) (piece_length bytes at 8 lt) (bytes_take 8 (drop at bytes) (bytes_drop at bytes h)) refl)

-- one byte
pub one_at : (bytes : List ℕ) (at : ℕ) → at < length bytes → take 1 (drop at bytes) ≡ get_or bytes at 0 ∷ []
one_at bytes at lt = rw (drop-cons bytes at 0 lt) refl

all_zero : (xs : List ℕ) → IsTrue (list_all (λ b. b == 0) xs) → xs ≡ replicate (length xs) 0
all_zero [] h = refl
all_zero (x ∷ xs) h =
    let parts = and_parts (x == 0) (list_all (λ b. b == 0) xs) h in
    let first : x ≡ 0 = eqb-true x 0 parts.0 in
    rw (first, ← all_zero xs parts.1) refl

-- bytes that passed the test are zeros
pub zeros_at : (bytes : List ℕ) (at n : ℕ) → at + n ≤ length bytes → IsTrue (are_zero at n bytes) → take n (drop at bytes) ≡ replicate n 0
zeros_at bytes at n lt h = all_zero (take n (drop at bytes)) h ∙ ap (λ (k : ℕ). replicate k 0) (piece_length bytes at n lt)

-- what is the same at each place is the same
pub same_bytes : (p s : List ℕ) → IsTrue (pointwise nat_eq p s) → s ≡ p
same_bytes [] [] h = refl
same_bytes [] (y ∷ s) h = absurd cc
same_bytes (x ∷ p) [] h = absurd cc
same_bytes (x ∷ p) (y ∷ s) h =
    let parts = and_parts (x == y) (pointwise nat_eq p s) h in
    let first : x ≡ y = eqb-true x y parts.0 in
    rw (first, same_bytes p s parts.1) refl
