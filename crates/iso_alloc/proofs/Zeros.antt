-- Bytes that are all zero.
use Rattle.iso_alloc.proofs.Words.{◌≡◌, ◌∙◌, sym, refl, ap, subst, ℕ, zero, suc, ◌+◌, ◌-◌, ◌*◌, ◌<◌, ◌&&◌, true, List, [], ◌∷◌, length, take, drop, get_or, bytes_eq, arith, inl, inr, and_parts, and_from, cases_eq, eqb-true, ne_eqb, drop-drop, nat_le, list_all, is_zero, is_part, all_from, bytes_in, key_mark}

-- bytes after a zero that equal those one place before are all zero
follow : (xs : List ℕ) → bytes_eq xs (take (length xs) (0 ∷ xs)) ≡ list_all is_zero xs
follow [] = refl
follow (x ∷ xs) = elim (cases_eq x 0) [
  | inl here ↦ subst (λ (m : ℕ). (is_zero m && bytes_eq xs (take (length xs) (m ∷ xs))) ≡ (is_zero m && list_all is_zero xs)) (sym here) (follow xs)
  | inr other ↦ rw (ne_eqb x 0 other) refl
]

pub all_follow : (xs : List ℕ) → 0 < length xs → get_or xs 0 0 ≡ 0 → bytes_eq (drop 1 xs) (take (length xs - 1) xs) ≡ list_all is_zero xs
all_follow [] some first = absurd (omega arith)
all_follow (x ∷ xs) some first =
    let less : length (x ∷ xs) - 1 ≡ length xs = omega arith in
    ap (λ (n : ℕ). bytes_eq xs (take n (x ∷ xs))) less ∙ subst (λ (m : ℕ). bytes_eq xs (take (length xs) (m ∷ xs)) ≡ list_all is_zero (m ∷ xs)) (sym first) (follow xs)

-- parts of bytes that are all zero
drop_blank : (n : ℕ) (xs : List ℕ) → list_all is_zero xs ≡ true → list_all is_zero (drop n xs) ≡ true
drop_blank zero xs all = all
drop_blank (suc n) [] all = refl
drop_blank (suc n) (x ∷ xs) all = drop_blank n xs (and_parts (is_zero x) _ all).1

take_blank : (n : ℕ) (xs : List ℕ) → list_all is_zero xs ≡ true → list_all is_zero (take n xs) ≡ true
take_blank zero xs all = refl
take_blank (suc n) [] all = refl
take_blank (suc n) (x ∷ xs) all = let parts = and_parts (is_zero x) _ all in and_from _ _ parts.0 (take_blank n xs parts.1)

blank_part : (xs : List ℕ) → list_all is_zero xs ≡ true → is_part 28 xs ≡ true
blank_part [] all = refl
blank_part (x ∷ xs) all =
    let parts = and_parts (is_zero x) _ all in
    subst (λ (m : ℕ). (nat_le m 28 && list_all is_zero (drop (1 + m) (m ∷ xs))) ≡ true) (sym (eqb-true x 0 parts.0)) parts.1

-- key parts that are all zero are well formed
pub blank_parts : (keys : List ℕ) (i n : ℕ) → list_all is_zero (drop (64 + 31 * i) keys) ≡ true → all_from (λ j. is_part 28 (bytes_in (key_mark j) keys)) i n ≡ true
blank_parts keys i zero blank = refl
blank_parts keys i (suc n) blank =
    let next : 64 + 31 * i + 31 ≡ 64 + 31 * (i + 1) = omega arith in
    let rest : list_all is_zero (drop (64 + 31 * (i + 1)) keys) ≡ true = subst (λ (xs : List ℕ). list_all is_zero xs ≡ true) (drop-drop 31 (64 + 31 * i) keys ∙ ap (λ (m : ℕ). drop m keys) next) (drop_blank 31 (drop (64 + 31 * i) keys) blank) in
    and_from _ _ (blank_part (bytes_in (key_mark i) keys) (take_blank 31 (drop (64 + 31 * i) keys) blank)) (blank_parts keys (i + 1) n rest)
