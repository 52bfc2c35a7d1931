-- Bytes that are laid into a block.
use Rattle.iso_alloc.proofs.Words.{◌≡◌, ◌∙◌, ap, ℕ, ◌+◌, ◌≤◌, List, ◌++◌, length, take, drop, arith, length-take-le, take_at, drop_at, bytes_in, laid_at}

-- the bytes that were laid
pub laid_here : (at n : ℕ) (bytes block : List ℕ) → length bytes ≡ n → at + length bytes ≤ length block → bytes_in (record { off = at; len = n }) (laid_at at bytes block) ≡ bytes
laid_here at n bytes block is fits =
    ap (take n) (drop_at (take at block) (bytes ++ drop (at + length bytes) block) at (length-take-le at block (omega arith)))
    ∙ take_at bytes (drop (at + length bytes) block) n is
