-- A key part by a mask of the bytes that are not zero.
use Rattle.iso_alloc.proofs.Words.{◌≡◌, ◌∙◌, sym, refl, ap, ℕ, zero, suc, ◌+◌, ◌-◌, ◌*◌, ◌/◌, ◌^◌, ◌≤◌, ◌==◌, ◌&&◌, Bool, true, false, not, cond, eqb, List, [], ◌∷◌, map, take, drop, get_or, arith, inl, inr, cases_Bool, leb-true, nat_le, nat_tests, list_all, is_zero, is_part, bytes_in, chunk, mask_l, div-one, shr-shr, shr_le, drop-drop, drop-take, get_or-drop, get_or-take}

abbrev pub is_other : ℕ → Bool
is_other b = not (eqb b 0)

-- a mask of more bytes
twice : (m : ℕ) → (0 + 2 * m == 0) ≡ (m == 0)
twice zero = refl
twice (suc m) = grind arith

odd : (m : ℕ) → (1 + 2 * m == 0) ≡ false
odd m = grind arith

empty_mask : (xs : List ℕ) → (mask_l (map is_other xs) == 0) ≡ list_all is_zero xs
empty_mask [] = refl
empty_mask (zero ∷ xs) = twice (mask_l (map is_other xs)) ∙ empty_mask xs
empty_mask (suc x ∷ xs) = let e : (suc x == 0) ≡ false = grind arith in rw e (odd (mask_l (map is_other xs)))

one_less : (b : Bool) (m : ℕ) → (cond b 1 0 + 2 * m) / 2 ^ 1 ≡ m
one_less true m = omega arith
one_less false m = omega arith

-- the mask without its lowest bits
mask_rest : (k : ℕ) (xs : List ℕ) → mask_l (map is_other xs) / 2 ^ k ≡ mask_l (map is_other (drop k xs))
mask_rest zero xs = div-one (mask_l (map is_other xs))
mask_rest (suc k) [] = omega (arith, shr_le 0 (suc k))
mask_rest (suc k) (x ∷ xs) =
    let m = mask_l (map is_other xs) in
    let whole : ℕ = cond (is_other x) 1 0 + 2 * m in
    let e : suc k ≡ 1 + k = omega arith in
    ap (λ (n : ℕ). whole / 2 ^ n) e ∙ sym (shr-shr whole 1 k) ∙ ap (λ (n : ℕ). n / 2 ^ k) (one_less (is_other x) m) ∙ mask_rest k xs

-- the bytes after a part's text, with the byte before the part and without
same_rest : (keys : List ℕ) (at len : ℕ) → 1 ≤ at → len ≤ 28 → drop (len + 2) (chunk (at - 1) 32 keys) ≡ drop (1 + len) (take 31 (drop at keys))
same_rest keys at len some short =
    let more : 32 ≡ len + 2 + (30 - len) = omega arith in
    let less : 31 ≡ 1 + len + (30 - len) = omega arith in
    let same : at - 1 + (len + 2) ≡ at + (1 + len) = omega arith in
    ap (λ (n : ℕ). drop (len + 2) (take n (drop (at - 1) keys))) more
    ∙ drop-take (len + 2) (30 - len) (drop (at - 1) keys)
    ∙ ap (take (30 - len)) (drop-drop (len + 2) (at - 1) keys ∙ ap (λ (n : ℕ). drop n keys) same ∙ sym (drop-drop (1 + len) at keys))
    ∙ sym (drop-take (1 + len) (30 - len) (drop at keys))
    ∙ ap (λ (n : ℕ). drop (1 + len) (take n (drop at keys))) (sym less)

if_short : (len : ℕ) (x y : Bool) → (len ≤ 28 → x ≡ y) → (nat_le len 28 && x) ≡ (nat_le len 28 && y)
if_short len x y same = elim (cases_Bool (nat_le len 28)) [
  | inl low ↦ ap (λ (b : Bool). nat_le len 28 && b) (same (leb-true _ _ low))
  | inr high ↦ rw high refl
]

key_part_by_mask : (keys : List ℕ) (at mask : ℕ) → 1 ≤ at → mask ≡ mask_l (map is_other (chunk (at - 1) 32 keys))
    → (nat_le (get_or keys at 0) 28 && (mask / 2 ^ (get_or keys at 0 + 2) == 0)) ≡ is_part 28 (bytes_in (record { off = at; len = 31 }) keys)
key_part_by_mask keys at mask some is =
    let len = get_or keys at 0 in
    let here : at + 0 ≡ at = omega arith in
    let first : get_or (take 31 (drop at keys)) 0 0 ≡ len = get_or-take 31 (drop at keys) 0 0 (omega arith) ∙ get_or-drop at keys 0 0 ∙ ap (λ (n : ℕ). get_or keys n 0) here in
    if_short len (mask / 2 ^ (len + 2) == 0) (list_all is_zero (drop (1 + len) (take 31 (drop at keys)))) (λ short.
    ap (λ (m : ℕ). m / 2 ^ (len + 2) == 0) is
    ∙ ap (λ (m : ℕ). m == 0) (mask_rest (len + 2) (chunk (at - 1) 32 keys))
    ∙ empty_mask (drop (len + 2) (chunk (at - 1) 32 keys))
    ∙ ap (list_all is_zero) (same_rest keys at len some short))
    ∙ (λ i. nat_le (sym first i) 28 && list_all is_zero (drop (1 + sym first i) (take 31 (drop at keys))))

-- the same where the length is small
pub short_part : (keys : List ℕ) (at mask : ℕ) → 1 ≤ at → get_or keys at 0 ≤ 28 → mask ≡ mask_l (map is_other (chunk (at - 1) 32 keys))
    → (mask / 2 ^ (get_or keys at 0 + 2) == 0) ≡ is_part 28 (bytes_in (record { off = at; len = 31 }) keys)
short_part keys at mask some short is =
    let low : nat_le (get_or keys at 0) 28 ≡ true = grind (arith, nat_tests) in
    ap (λ (b : Bool). b && (mask / 2 ^ (get_or keys at 0 + 2) == 0)) (sym low) ∙ key_part_by_mask keys at mask some is
