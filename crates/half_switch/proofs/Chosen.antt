-- The headers of an image tell which half is the current one.
use Rattle.half_switch.proofs.Words.{◌≡◌, ◌+◌, ◌==◌, ℕ, List, take, drop, get_or, ◌∙◌, ap, arith, from_be_bytes, w64, drop-drop, drop-take, get_or-drop, get_or-take, take-take, Geometry, header_place, chosen_half, current_half, generation_at, HalfHeader, half_of}

told_gate : (at : ℕ) (bytes : List ℕ) → (half_of (take 32 (drop at bytes))).gate ≡ get_or bytes at 0
unfolding half_of
told_gate at bytes =
    let start : at + 0 ≡ at = omega arith in
    get_or-take 32 (drop at bytes) 0 0 (omega arith) ∙ get_or-drop at bytes 0 0 ∙ ap (λ (k : ℕ). get_or bytes k 0) start

told_generation : (at : ℕ) (bytes : List ℕ) → (half_of (take 32 (drop at bytes))).generation ≡ generation_at bytes at
unfolding half_of
told_generation at bytes =
    ap (from_be_bytes w64) (ap (take 8) (drop-take 8 24 (drop at bytes)) ∙ take-take 8 24 (drop 8 (drop at bytes)) (omega arith) ∙ ap (take 8) (drop-drop 8 at bytes))

pub current_is : (g : Geometry) (bytes : List ℕ) (first second : HalfHeader) → first ≡ half_of (take 32 (drop (header_place g 0) bytes)) → second ≡ half_of (take 32 (drop (header_place g 1) bytes))
    → chosen_half (first.gate == 1) first.generation (second.gate == 1) second.generation ≡ current_half g bytes
current_is g bytes first second one two = grind (arith, told_gate, told_generation)
