-- The images of a disk through the two steps of an append: the body, and then the gate.
use Rattle.iso_log.proofs.Words.{◌≡◌, inl, inr, ◌≤◌, ◌+◌, ◌-◌, ℕ, List, [], ◌∷◌, length, take, drop, get_or, sym, ◌∙◌, ap, arith, subst, take_rest, TornFrom, IsClosed, HasBody, Appending, appending_body, appending_gate, AppendingFrom, AppendedTo}

-- with an open gate all is there
pub appended : {images : List ℕ → Type 0} (gate : ℕ) (bytes c : List ℕ) → AppendingFrom gate bytes images c → get_or c gate 0 ≡ 1 → AppendedTo gate bytes images c
appended gate bytes c from is = elim from.appending.state [
  | inl closed ↦ absurd (closed is)
  | inr whole ↦ record { old = from.old; was = from.was; whole = whole }
]

-- the bytes after the first
abbrev pub body_of : List ℕ → List ℕ
body_of bytes = take (length bytes - 1) (drop 1 bytes)

open_and_body : (bytes : List ℕ) → 1 ≤ length bytes → get_or bytes 0 0 ≡ 1 → 1 ∷ body_of bytes ≡ bytes
open_and_body [] some is = absurd (omega arith)
open_and_body (b ∷ bytes) some is = λ i. sym is i ∷ take_rest (b ∷ bytes) 1 i

-- the moments of the body
pub body_moment : {images : List ℕ → Type 0} (gate : ℕ) (bytes : List ℕ) → 1 ≤ length bytes → get_or bytes 0 0 ≡ 1 → ((d : List ℕ) → images d → IsClosed gate d)
    → (c : List ℕ) → TornFrom (gate + 1) (length (body_of bytes)) images c → AppendingFrom gate bytes images c
body_moment gate bytes some is closed c from = record {
  old = from.old;
  was = from.was;
  appending = subst (λ (l : List ℕ). Appending gate l from.old c) (open_and_body bytes some is)
      (appending_body gate 1 (body_of bytes) from.old c (closed from.old from.was) from.torn);
}

-- the moments of the gate
pub gate_moment : {images mid : List ℕ → Type 0} (gate : ℕ) (bytes : List ℕ) → 1 ≤ length bytes → get_or bytes 0 0 ≡ 1 → ((d : List ℕ) → images d → gate + length bytes ≤ length d)
    → ((m : List ℕ) → mid m → TornFrom (gate + 1) (length (body_of bytes)) images m) → ((m : List ℕ) → mid m → HasBody gate (body_of bytes) m)
    → (c : List ℕ) → TornFrom gate 1 mid c → AppendingFrom gate bytes images c
gate_moment gate bytes some is fits torn has c from =
    let before = torn from.old from.was in
    let same = open_and_body bytes some is in
    let count : gate + 1 + length (body_of bytes) - (gate + 1) ≡ length (body_of bytes) = omega arith in
    let whole : 1 + length (body_of bytes) ≡ length bytes = omega (arith, ap length same) in
    let stands : take (length (body_of bytes)) (drop (gate + 1) from.old) ≡ body_of bytes =
    ap (λ (n : ℕ). take n (drop (gate + 1) from.old)) (sym count) ∙ has from.old from.was in
    record {
      old = before.old;
      was = before.was;
      appending = subst (λ (l : List ℕ). Appending gate l before.old c) same
          (appending_gate gate (body_of bytes) before.old from.old c (omega (arith, fits before.old before.was, whole)) before.torn stands from.torn);
    }
