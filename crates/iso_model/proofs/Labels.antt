-- A label is told by its key.
use Rattle.iso_model.proofs.Words.{◌≡◌, refl, ℕ, zero, suc, ◌^◌, ◌<◌, ◌≤◌, Bool, true, ◌&&◌, nat_le, List, [], ◌∷◌, length, drop, arith, IsTrue, list_all, common_steps, pow-suc, is_label, is_label_byte, key_of}
use Rattle.std.proofs.Common.{length-drop}

both : (s t : Bool) → (s && t) ≡ true → (s ≡ true) × (t ≡ true)
both s t h = grind arith

some_byte : (x : ℕ) → is_label_byte x ≡ true → (0 < x) × (x < 256)
some_byte x h = (grind (arith, common_steps, h), grind (arith, common_steps, h))

keys_tell : (xs ys : List ℕ) → list_all is_label_byte xs ≡ true → list_all is_label_byte ys ≡ true → key_of xs ≡ key_of ys → xs ≡ ys
keys_tell [] [] all all' same = refl
keys_tell [] (y ∷ ys) all all' same = let some = some_byte y (both (is_label_byte y) (list_all is_label_byte ys) all').0 in absurd (omega (arith, same, some.0))
keys_tell (x ∷ xs) [] all all' same = let some = some_byte x (both (is_label_byte x) (list_all is_label_byte xs) all).0 in absurd (omega (arith, same, some.0))
keys_tell (x ∷ xs) (y ∷ ys) all all' same =
    let left = both (is_label_byte x) (list_all is_label_byte xs) all in
    let right = both (is_label_byte y) (list_all is_label_byte ys) all' in
    let low = some_byte x left.0 in
    let low' = some_byte y right.0 in
    let first : x ≡ y = omega (arith, same, low.1, low'.1) in
    let rest : key_of xs ≡ key_of ys = omega (arith, same, low.1, low'.1) in
    let more : xs ≡ ys = keys_tell xs ys left.1 right.1 rest in
    λ i. first i ∷ more i

-- two labels with one key are one
pub key_tells : (xs ys : List ℕ) → IsTrue (is_label xs) → IsTrue (is_label ys) → key_of xs ≡ key_of ys → xs ≡ ys
key_tells xs ys label label' same = grind (arith, keys_tell)

-- the key of n bytes
pub key_below : (n : ℕ) (xs : List ℕ) → length xs ≤ n → list_all is_label_byte xs ≡ true → key_of xs < 256 ^ n
key_below zero [] le all = omega arith
key_below zero (x ∷ xs) le all = absurd (omega arith)
key_below (suc n) [] le all = let rest = key_below n [] (omega arith) refl in rw (pow-suc 256 n) (omega (arith, rest))
key_below (suc n) (x ∷ xs) le all =
    let parts = both (is_label_byte x) (list_all is_label_byte xs) all in
    let rest = key_below n xs (omega arith) parts.1 in
    let low = (some_byte x parts.0).1 in
    rw (pow-suc 256 n) (omega (arith, rest, low))

all_drop : (n : ℕ) (xs : List ℕ) → list_all is_label_byte xs ≡ true → list_all is_label_byte (drop n xs) ≡ true
all_drop zero xs all = all
all_drop (suc n) [] all = refl
all_drop (suc n) (x ∷ xs) all = all_drop n xs (both (is_label_byte x) (list_all is_label_byte xs) all).1

-- with fewer than 16 bytes there is room in it for one more
pub key_has_room : (n : ℕ) (xs : List ℕ) → IsTrue (is_label xs) → length xs ≤ 16 → 0 < n → key_of (drop n xs) < 256 ^ 15
key_has_room n xs label short some =
    key_below 15 (drop n xs) (rw (length-drop n xs) (omega arith)) (all_drop n xs (both (nat_le 1 (length xs) && nat_le (length xs) 16) (list_all is_label_byte xs) label).1)
