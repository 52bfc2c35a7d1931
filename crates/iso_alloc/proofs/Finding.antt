-- What a look-up finds among pairs.
use Rattle.iso_alloc.proofs.Words.{◌≡◌, ◌≢◌, sym, refl, ℕ, true, false, ◌==◌, cond, List, [], ◌∷◌, ◌++◌, Option, Some, arith, nat_cmp, eq_by_cmp, slice_cmp, lists_ties, find, bytes_eq, false_from_ne_true, nat_tests, bytes_eq-Decides, or_else}

nat_ties : (x y : ℕ) → (x == y) ≡ eq_by_cmp nat_cmp x y
nat_ties x y = grind (arith, nat_tests)

-- a map finds a key by the equality of its bytes
pub ties : (q k : List ℕ) → eq_by_cmp (slice_cmp nat_cmp) q k ≡ bytes_eq q k
ties q k = sym (lists_ties nat_cmp nat_ties q k)

pub not_bytes_eq : (x y : List ℕ) → x ≢ y → bytes_eq x y ≡ false
not_bytes_eq x y other = false_from_ne_true (bytes_eq x y) (λ e. other ((bytes_eq-Decides x y).0 e))

abbrev pub found_in : (q : List ℕ) → List (List ℕ × List ℕ) → Option (List ℕ)
found_in q pairs = find (slice_cmp nat_cmp) q pairs

pub find_append : (q : List ℕ) (xs ys : List (List ℕ × List ℕ)) → found_in q (xs ++ ys) ≡ or_else (found_in q xs) (found_in q ys)
find_append q [] ys = refl
find_append q (x ∷ xs) ys =
    elim (eq_by_cmp (slice_cmp nat_cmp) q x.0) as (λ t. cond t (Some x.1) (found_in q (xs ++ ys)) ≡ or_else (cond t (Some x.1) (found_in q xs)) (found_in q ys)) [
      | true ↦ refl
      | false ↦ find_append q xs ys
    ]
