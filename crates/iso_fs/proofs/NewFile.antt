-- The block of a new file.
use Rattle.iso_fs.proofs.Words.{◌≡◌, ◌∙◌, refl, ap, set, ℕ, zero, suc, ◌+◌, ◌-◌, ◌*◌, ◌/◌, ◌<◌, ◌≤◌, true, List, [], ◌∷◌, ◌++◌, length, replicate, arith, length-replicate, div-eq_of_lt, Area, zeros_are, bytes_of, data_count, file_block, is_file}

abbrev pub empty_file : (size : ℕ) → List ℕ
empty_file size = file_block size 0 []

pub length-empty_file : (size : ℕ) → 64 ≤ size → length (empty_file size) ≡ size
length-empty_file size least = let long = length-replicate {A = ℕ} (size - 64 - 4 * 0) 0 in omega arith

pub no_bytes_of : (size : ℕ) → bytes_of (empty_file size) ≡ 0
no_bytes_of size = refl

pub no_data_of : (size : ℕ) → 0 < size → data_count size (empty_file size) ≡ 0
no_data_of size some = ap (λ (n : ℕ). (n + (size - 1)) / size) (no_bytes_of size) ∙ div-eq_of_lt (omega arith)

pub empty_is_file : (a : Area) → 0 < a.size → is_file a (empty_file a.size) ≡ true
unfolding is_file
empty_is_file a some = grind (arith, no_data_of, zeros_are) steps 100000

split : (m n x : ℕ) → replicate (m + n) x ≡ replicate m x ++ replicate n x
split zero n x = let e : 0 + n ≡ n = omega arith in ap (λ (k : ℕ). replicate k x) e
split (suc m) n x = let e : suc m + n ≡ suc (m + n) = omega arith in ap (λ (k : ℕ). replicate k x) e ∙ ap (λ (r : List ℕ). x ∷ r) (split m n x)

-- zeros with the first byte of a file block
pub laid_empty : (n : ℕ) → 64 ≤ n → set (replicate n 0) 0 3 ≡ empty_file n
laid_empty n least =
    let sum : n ≡ 64 + (n - 64) = omega arith in
    let e : n - 64 ≡ n - 64 - 4 * 0 = omega arith in
    ap (λ (k : ℕ). set (replicate k 0) 0 3) sum ∙ ap (λ (l : List ℕ). set l 0 3) (split 64 (n - 64) 0) ∙ ap (λ (k : ℕ). set (replicate 64 0 ++ replicate k 0) 0 3) e
