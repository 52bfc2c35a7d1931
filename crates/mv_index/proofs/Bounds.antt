-- Lists that rise, cut at a number.
use Rattle.mv_index.proofs.Words.{◌≡◌, ◌<◌, ◌≤◌, ℕ, zero, suc, true, false, List, [], ◌∷◌, length, take, refl, ap, arith, nat_le, rules, Version, number_at, upto}

is_le : (m n : ℕ) → m ≤ n → nat_le m n ≡ true
is_le m n le = search rules

not_le : (m n : ℕ) → n < m → nat_le m n ≡ false
not_le m n lt = search rules

-- where the first ones are at or below the number and the others above it, those up to it are the first ones
pub cut : (at : ℕ) (versions : List Version) (n : ℕ) → ((k : ℕ) → k < n → number_at versions k ≤ at) → ((k : ℕ) → n ≤ k → k < length versions → at < number_at versions k) → n ≤ length versions → take n versions ≡ upto at versions
cut at [] zero below above fits = refl
cut at [] (suc n) below above fits = absurd (omega arith)
cut at (v ∷ versions) zero below above fits =
    let over : at < v.number = above 0 (omega arith) (omega arith) in
    rw (not_le v.number at over) (cut at versions zero (λ k lt. absurd (omega arith)) (λ k from to. above (suc k) (omega arith) (omega arith)) (omega arith))
cut at (v ∷ versions) (suc n) below above fits =
    let under : v.number ≤ at = below 0 (omega arith) in
    rw (is_le v.number at under) (ap (λ (l : List Version). v ∷ l) (cut at versions n (λ k lt. below (suc k) (omega arith)) (λ k from to. above (suc k) (omega arith) (omega arith)) (omega arith)))
