-- Blocks of zeros.
use Rattle.store_laws.proofs.Words.{IsBlank, ◌≡◌, ◌∙◌, ap, ℕ, ◌+◌, ◌%◌, ◌≤◌, false, ◌==◌, [], get_or, replicate, arith, inl, inr, bit_at, cases_lt, get_or-replicate, get_or_past, length-replicate, bit_at-zero, Area, zeros, bit_place, map_bit}

pub zero_at : (n p : ℕ) → ◌≡◌ {A = ℕ} (get_or (replicate n 0) p 0) 0
zero_at n p = elim (cases_lt p n) [
  | inl inside ↦ get_or-replicate n p 0 0 inside
  | inr past ↦ get_or_past (replicate n 0) p 0 (let long = length-replicate {A = ℕ} n 0 in omega arith)
]

-- no block is in use
pub no_bit_in_zeros : (n k : ℕ) → map_bit (replicate n 0) k ≡ false
no_bit_in_zeros n k = ap (λ (byte : ℕ). bit_at byte (k % 8) == 1) (zero_at n (bit_place k)) ∙ ap (λ (bit : ℕ). bit == 1) (bit_at-zero (k % 8))

-- the blocks of an array of zeros
pub zeros_blank : (a : Area) (n : ℕ) → a.start + a.blocks ≤ n → IsBlank a (zeros a.size n)
zeros_blank a n fits k below = get_or-replicate n (a.start + k) (replicate a.size 0) [] (omega arith)
