-- What is known of a disk that was made of zeros.
use Rattle.std.proofs.{Common.{◌≡◌, ◌∙◌, ℕ, List, length, replicate, ap, refl}, lemmas.List.length-replicate}
use Rattle.iso_memdisk.{specs.MemDisk.{Starts, state_of}, specs.declared.disk.MemDisk.MemDisk, proofs.Blank.blank_now}

pub blank_size : (n : ℕ) (d : MemDisk) → Starts d (replicate n 0) → (state_of d).size ≡ n
blank_size n d starts = ap length starts.first ∙ length-replicate {A = ℕ} n 0

pub is_blank : (n : ℕ) (d : MemDisk) → Starts d (replicate n 0) → (c : List ℕ) → (state_of d).now c → c ≡ replicate (state_of d).size 0
is_blank n d starts = blank_now n d (replicate n 0) starts refl
