-- Rows without versions.
use Rattle.mv_index.proofs.Words.{◌≡◌, ◌+◌, ℕ, zero, suc, refl, ap, arith, subst, sym, List, [], ◌∷◌, ◌++◌, length, length_push, BlockVersions, Version, count_of, versions_in}
use Rattle.std.proofs.lemmas.List.Sums.{sum_by_push}

-- n rows, and none has a version
abbrev pub AreBlank : ℕ → List BlockVersions → Type 0
AreBlank n rows = (length rows ≡ n) × (count_of rows ≡ 0) × ((b : ℕ) → versions_in rows b ≡ [])

none_more : (rows : List BlockVersions) (row : BlockVersions) → ((b : ℕ) → versions_in rows b ≡ []) → row.versions ≡ [] → (b : ℕ) → versions_in (rows ++ row ∷ []) b ≡ []
none_more [] row none is zero = is
none_more [] row none is (suc b) = refl
none_more (first ∷ rows) row none is zero = none 0
none_more (first ∷ rows) row none is (suc b) = none_more rows row (λ i. none (suc i)) is b

count_more : (rows : List BlockVersions) (row : BlockVersions) → count_of rows ≡ 0 → row.versions ≡ [] → count_of (rows ++ row ∷ []) ≡ 0
count_more rows row none is =
    let more : count_of (rows ++ row ∷ []) ≡ count_of rows + length row.versions = sum_by_push (λ (r : BlockVersions). length r.versions) rows row in
    let empty : length row.versions ≡ 0 = ap (λ (l : List Version). length l) is in
    omega (arith, more, none, empty)

-- one row more
pub blank_more : (rows new : List BlockVersions) (row : BlockVersions) (n : ℕ) → AreBlank n rows → new ≡ rows ++ row ∷ [] → row.versions ≡ [] → AreBlank (n + 1) new
blank_more rows new row n (size, count, none) pushed is =
    subst (AreBlank (n + 1)) (sym pushed) (omega (arith, size, length_push rows row), count_more rows row count is, none_more rows row none is)
