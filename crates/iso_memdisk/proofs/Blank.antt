-- A disk that was made of zeros, whatever its plan of failures.
use Rattle.iso_memdisk.proofs.Words.{◌≡◌, ℕ, List, length, replicate, sym, ◌∙◌, ap, subst, length-replicate, MemDisk, Call, IsUntouched, Starts, state_of, images_after}

-- each image that a crash now may leave is zeros
pub blank_now : (n : ℕ) (d : MemDisk) (bytes : List ℕ) → Starts d bytes → bytes ≡ replicate n 0 → (c : List ℕ) → (state_of d).now c → c ≡ replicate (state_of d).size 0
blank_now n d bytes starts zeros c image =
    let first : d.first.items ≡ replicate n 0 = starts.first ∙ zeros in
    let size : length d.first.items ≡ n = ap length first ∙ length-replicate {A = ℕ} n 0 in
    let is : c ≡ d.first.items = subst (λ (calls : List Call). images_after calls d.first.items (λ (l : List ℕ). l ≡ d.first.items) c) starts.history image in
    is ∙ first ∙ ap (λ (k : ℕ). replicate k 0) (sym size)

-- a plan of failures leaves it so
pub still_starts : (old new : MemDisk) (bytes : List ℕ) → IsUntouched old new → Starts old bytes → Starts new bytes
still_starts old new bytes same starts = record { first = same.first ∙ starts.first; history = same.history ∙ starts.history }
