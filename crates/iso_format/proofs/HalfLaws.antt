-- The header of a half is read exactly as it is written.
use Rattle.iso_format.proofs.{Words.{◌≡◌, ℕ, ◌+◌, ◌^◌, ◌<◌, ◌==◌, ◌&&◌, Bool, true, false, not, cond, List, [], ◌∷◌, ◌++◌, Option, Some, None, length, get_or, take, drop, replicate, IsTrue, refl, ◌∙◌, sym, ap, arith, and_parts, position_from-zero, list_all, position, position_from, is_some, take_all, from_be_bytes-to_be_bytes_8, w64, to_be_bytes, half_header, number_at, are_zero, half_of, AreBytes}, Pieces.{grow, spelled_64, one_at, zeros_at}}

pub half_again : (gate form generation base : ℕ) → generation < 2 ^ 64 → base < 2 ^ 64 →
    half_of (half_header gate form generation base) ≡ record { gate = gate; form = form; generation = generation; base = base; clean = true }
unfolding half_of half_header
half_again gate form generation base g b = grind (arith, from_be_bytes-to_be_bytes_8)

pub half_spelled : (bytes : List ℕ) → AreBytes bytes → length bytes ≡ 32 → IsTrue (half_of bytes).clean →
    bytes ≡ half_header (half_of bytes).gate (half_of bytes).form (half_of bytes).generation (half_of bytes).base
unfolding half_of half_header
half_spelled bytes fits len clean =
    let zeros = and_parts (are_zero 2 6 bytes) (are_zero 24 8 bytes) clean in
    let s1 : take 1 bytes ≡ get_or bytes 0 0 ∷ [] = one_at bytes 0 (omega arith) in
    let s2 : take 2 bytes ≡ get_or bytes 0 0 ∷ get_or bytes 1 0 ∷ [] = grow bytes (get_or bytes 0 0 ∷ []) (get_or bytes 1 0 ∷ []) 1 1 s1 (one_at bytes 1 (omega arith)) in
    let f2 = get_or bytes 0 0 ∷ get_or bytes 1 0 ∷ [] in
    let s8 : take 8 bytes ≡ f2 ++ replicate 6 0 = grow bytes f2 (replicate 6 0) 2 6 s2 (zeros_at bytes 2 6 (omega arith) zeros.0) in
    let f8 = f2 ++ replicate 6 0 in
    let n8 = to_be_bytes w64 (number_at w64 8 bytes) in
    let s16 : take 16 bytes ≡ f8 ++ n8 = grow bytes f8 n8 8 8 s8 (spelled_64 bytes 8 fits (omega arith)) in
    let n16 = to_be_bytes w64 (number_at w64 16 bytes) in
    let s24 : take 24 bytes ≡ f8 ++ n8 ++ n16 = grow bytes (f8 ++ n8) n16 16 8 s16 (spelled_64 bytes 16 fits (omega arith)) in
    let s32 : take 32 bytes ≡ f8 ++ n8 ++ n16 ++ replicate 8 0 = grow bytes (f8 ++ n8 ++ n16) (replicate 8 0) 24 8 s24 (zeros_at bytes 24 8 (omega arith) zeros.1) in
    sym (take_all 32 bytes (omega arith)) ∙ s32

-- a byte that is not zero is found exactly where not all are zero
found_from : (i : ℕ) (xs : List ℕ) → is_some (position_from (λ b. not (b == 0)) i xs) ≡ not (list_all (λ b. b == 0) xs)
found_from i [] = refl
found_from i (x ∷ xs) = one (x == 0) (position_from (λ b. not (b == 0)) (i + 1) xs) (list_all (λ b. b == 0) xs) (found_from (i + 1) xs)
  where
    one : (b : Bool) (o : Option ℕ) (all : Bool) → is_some o ≡ not all → is_some (cond (not b) (Some i) o) ≡ not (b && all)
    one true o all e = e
    one false o all e = refl

found : (xs : List ℕ) → is_some (position (λ b. not (b == 0)) xs) ≡ not (list_all (λ b. b == 0) xs)
found xs = ap is_some (position_from-zero (λ b. not (b == 0)) xs) ∙ found_from 0 xs

not_true : (b : Bool) → not b ≡ true → b ≡ false
not_true true e = absurd cc
not_true false e = refl

not_false : (b : Bool) → not b ≡ false → b ≡ true
not_false true e = refl
not_false false e = absurd cc

pub some_found : (xs : List ℕ) (i : ℕ) → position (λ b. not (b == 0)) xs ≡ Some i → list_all (λ b. b == 0) xs ≡ false
some_found xs i e = not_true _ (sym (found xs) ∙ ap is_some e)

pub none_found : (xs : List ℕ) → position (λ b. not (b == 0)) xs ≡ None → list_all (λ b. b == 0) xs ≡ true
none_found xs e = not_false _ (sym (found xs) ∙ ap is_some e)

pub unclean_front : (bytes : List ℕ) (i : ℕ) → position (λ b. not (b == 0)) (take 6 (drop 2 bytes)) ≡ Some i → (half_of bytes).clean ≡ false
unfolding half_of
unclean_front bytes i e = rw (some_found (take 6 (drop 2 bytes)) i e) refl

pub unclean_back : (bytes : List ℕ) (i : ℕ) → position (λ b. not (b == 0)) (take 6 (drop 2 bytes)) ≡ None
    → position (λ b. not (b == 0)) (take 8 (drop 24 bytes)) ≡ Some i → (half_of bytes).clean ≡ false
unfolding half_of
unclean_back bytes i e f = rw (none_found (take 6 (drop 2 bytes)) e, some_found (take 8 (drop 24 bytes)) i f) refl

pub all_clean : (bytes : List ℕ) → position (λ b. not (b == 0)) (take 6 (drop 2 bytes)) ≡ None
    → position (λ b. not (b == 0)) (take 8 (drop 24 bytes)) ≡ None → (half_of bytes).clean ≡ true
unfolding half_of
all_clean bytes e f = rw (none_found (take 6 (drop 2 bytes)) e, none_found (take 8 (drop 24 bytes)) f) refl
