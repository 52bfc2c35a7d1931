-- The bytes of a file block, and the numbers of a list by their places.
use Rattle.iso_fs.proofs.Words.{◌≡◌, ◌∙◌, sym, refl, ap, subst, ℕ, zero, suc, ◌+◌, ◌-◌, ◌*◌, ◌^◌, ◌<◌, ◌≤◌, Bool, true, List, [], ◌∷◌, ◌++◌, length, get_or, take, drop, replicate, arith, inl, inr, list_all, flat_map, w32, to_be_bytes, from_be_bytes, and_from, drop-drop, drop_at, length-replicate, length-append, from_be_bytes-to_be_bytes_4, Area, all_from, is_zero, IsIn, IsApart, zeros_are, blocks_for, bytes_of, data_count, entry_at, file_block, has_zeros, is_file, is_handed, most_bytes}

four : (e : ℕ) → length (to_be_bytes w32 e) ≡ 4
four e = refl

pub length-numbers : (es : List ℕ) → length (flat_map (to_be_bytes w32) es) ≡ 4 * length es
length-numbers [] = refl
length-numbers (e ∷ es) = let ih = length-numbers es in omega (arith, length-append (to_be_bytes w32 e) (flat_map (to_be_bytes w32) es), four e)

number_in : (es zs : List ℕ) (i : ℕ) → i < length es → take 4 (drop (4 * i) (flat_map (to_be_bytes w32) es ++ zs)) ≡ to_be_bytes w32 (get_or es i 0)
number_in [] zs i below = absurd (omega arith)
number_in (e ∷ es) zs zero below = refl
number_in (e ∷ es) zs (suc i) below =
    let sum : 4 * suc i ≡ suc (suc (suc (suc (4 * i)))) = omega arith in
    ap (λ (k : ℕ). take 4 (drop k (flat_map (to_be_bytes w32) (e ∷ es) ++ zs))) sum ∙ number_in es zs i (omega arith)

all_pass : (test : ℕ → Bool) (i n : ℕ) → ((j : ℕ) → i ≤ j → j < i + n → test j ≡ true) → all_from test i n ≡ true
all_pass test i zero each = refl
all_pass test i (suc n) each = and_from (test i) (all_from test (i + 1) n) (each i (omega arith) (omega arith)) (all_pass test (i + 1) n (λ j low high. each j (omega arith) (omega arith)))

drop_more : (k n : ℕ) (xs : List ℕ) → drop k (drop n xs) ≡ drop (k + n) xs
drop_more k n xs = drop-drop k n xs ∙ (let e : n + k ≡ k + n = omega arith in ap (λ (m : ℕ). drop m xs) e)

module _ (size bytes : ℕ) (es : List ℕ) (fits : 64 + 4 * length es ≤ size) (small : bytes < 2 ^ 32) where
  abbrev block : List ℕ
  block = file_block size bytes es

  abbrev tail : List ℕ
  tail = flat_map (to_be_bytes w32) es ++ replicate (size - 64 - 4 * length es) 0

  pub length-file_block : length (file_block size bytes es) ≡ size
  length-file_block = omega (arith, length-append (flat_map (to_be_bytes w32) es) (replicate {A = ℕ} (size - 64 - 4 * length es) 0), length-numbers es, length-replicate {A = ℕ} (size - 64 - 4 * length es) 0)

  pub block_bytes : bytes_of (file_block size bytes es) ≡ bytes
  block_bytes = from_be_bytes-to_be_bytes_4 bytes small

  behind : (k : ℕ) → drop (64 + k) block ≡ drop k tail
  behind k = let e : 64 + k ≡ k + 64 = omega arith in ap (λ (n : ℕ). drop n block) e ∙ sym (drop_more k 64 block)

  pub block_entry : (i : ℕ) → i < length es → get_or es i 0 < 2 ^ 32 → entry_at (file_block size bytes es) i ≡ get_or es i 0
  block_entry i below little =
      ap (λ (xs : List ℕ). from_be_bytes w32 (take 4 xs)) (behind (4 * i)) ∙ ap (from_be_bytes w32) (number_in es (replicate (size - 64 - 4 * length es) 0) i below)
      ∙ from_be_bytes-to_be_bytes_4 (get_or es i 0) little

  block_zeros : has_zeros block (length es) ≡ true
  block_zeros =
      and_from _ _ refl
      (ap (list_all is_zero) (behind (4 * length es) ∙ drop_at (flat_map (to_be_bytes w32) es) (replicate (size - 64 - 4 * length es) 0) (4 * length es) (length-numbers es))
      ∙ zeros_are (size - 64 - 4 * length es))

  pub block_count : blocks_for size bytes ≡ length es → data_count size (file_block size bytes es) ≡ length es
  block_count count = ap (blocks_for size) block_bytes ∙ count

  pub block_is_file : (a : Area) → a.size ≡ size → bytes ≤ most_bytes size → blocks_for size bytes ≡ length es → ((i : ℕ) → i < length es → (get_or es i 0 < 2 ^ 32) × (is_handed a.blocks (get_or es i 0) ≡ true)) → is_file a (file_block size bytes es) ≡ true
  unfolding is_file
  block_is_file a same few count each = grind (arith, block_bytes, block_count, all_pass, block_entry, block_zeros) steps 100000

-- NUMBERS BY THEIR PLACES
pub at_place : (xs : List ℕ) (k : ℕ) → IsIn k xs → (i : ℕ) × (i < length xs) × (get_or xs i 0 ≡ k)
at_place [] k is = absurd is
at_place (x ∷ xs) k is = elim is [
  | inl here ↦ (0, omega arith, here)
  | inr later ↦ (let more = at_place xs k later in (suc more.0, (let l = more.1 in omega arith), more.2))
]

pub place_in : (xs : List ℕ) (i : ℕ) → i < length xs → IsIn (get_or xs i 0) xs
place_in [] i below = absurd (omega arith)
place_in (x ∷ xs) zero below = inl refl
place_in (x ∷ xs) (suc i) below = inr (place_in xs i (omega arith))

pub apart_places : (xs : List ℕ) → IsApart xs → (i j : ℕ) → i < length xs → j < length xs → get_or xs i 0 ≡ get_or xs j 0 → i ≡ j
apart_places [] apart i j one two same = absurd (omega arith)
apart_places (x ∷ xs) apart zero zero one two same = refl
apart_places (x ∷ xs) apart zero (suc j) one two same = absurd (apart.0 (subst (λ (k : ℕ). IsIn k xs) (sym same) (place_in xs j (omega arith))))
apart_places (x ∷ xs) apart (suc i) zero one two same = absurd (apart.0 (subst (λ (k : ℕ). IsIn k xs) same (place_in xs i (omega arith))))
apart_places (x ∷ xs) apart (suc i) (suc j) one two same = ap suc (apart_places xs apart.1 i j (omega arith) (omega arith) same)
