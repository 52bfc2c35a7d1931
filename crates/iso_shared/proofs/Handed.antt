-- What a port has once a note was joined into it.
use Rattle.iso_shared.proofs.Words.{◌≡◌, ◌+◌, ℕ, List, [], arith, subst, sym, times}

-- a note has no unit
pub no_more : (n m : ℕ) → m ≡ 0 → n + m ≡ n
no_more n m none = omega (arith, none)

-- and no place
pub no_place : (p n : ℕ) (l : List ℕ) → l ≡ [] → n + times p l ≡ n
no_place p n l none = subst (λ (xs : List ℕ). n + times p xs ≡ n) (sym none) (omega arith)
