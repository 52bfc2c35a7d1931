-- One image through the body and through the gate of what is appended.
use Rattle.iso_image.proofs.Words.{◌≡◌, inl, inr, ◌≤◌, ◌+◌, ℕ, List, ◌∷◌, length, take, drop, get_or, sym, ◌∙◌, arith, cases_eq, drop_more, Torn, torn_wider, torn_twice, torn_whole, get_or-torn, drop-torn, IsClosed, Appending}

-- while the body is written the gate is closed
pub appending_body : (gate b : ℕ) (body old new : List ℕ) → IsClosed gate old → Torn (gate + 1) (length body) old new → Appending gate (b ∷ body) old new
appending_body gate b body old new closed torn = record {
  torn = torn_wider torn gate (length (b ∷ body)) (omega arith) (omega arith);
  state = inl (λ is. closed (sym (get_or-torn torn gate 0 (inl (omega arith))) ∙ is));
}

-- the bytes from an open gate on, where the body is after it
opened : (gate : ℕ) (body mid new : List ℕ) → gate + 1 + length body ≤ length mid → take (length body) (drop (gate + 1) mid) ≡ body → Torn gate 1 mid new → get_or new gate 0 ≡ 1
    → take (length (1 ∷ body)) (drop gate new) ≡ 1 ∷ body
opened gate body mid new fits has torn is = grind (arith, drop-torn, drop_more)

-- while the gate is written it is closed, or all is there
pub appending_gate : (gate : ℕ) (body old mid new : List ℕ) → gate + 1 + length body ≤ length old → Torn (gate + 1) (length body) old mid
    → take (length body) (drop (gate + 1) mid) ≡ body → Torn gate 1 mid new → Appending gate (1 ∷ body) old new
appending_gate gate body old mid new fits torn has gate_torn =
    let size : length mid ≡ length old = torn.size in
    let both : Torn gate (length (1 ∷ body)) old new =
    torn_twice (torn_wider torn gate (length (1 ∷ body)) (omega arith) (omega arith)) (torn_wider gate_torn gate (length (1 ∷ body)) (omega arith) (omega arith)) in
    record {
      torn = both;
      state = elim (cases_eq (get_or new gate 0) 1) [
        | inl is ↦ inr (torn_whole (1 ∷ body) both (opened gate body mid new (omega (arith, size)) has gate_torn is))
        | inr not ↦ inl not
      ];
    }
