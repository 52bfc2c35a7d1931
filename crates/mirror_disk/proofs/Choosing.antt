-- What is chosen at each moment of an adopt.
use Rattle.mirror_disk.proofs.{Words.{◌≡◌, ◌⊎◌, inl, inr, ⊎_elim, ℕ, ◌<◌, ◌≤◌, List, ◌∙◌, arith, cases_lt, body, chosen, epoch}, Epochs.{chosen_first, chosen_second}}

-- The first side was chosen: its mirrored bytes stay, and the other side has no larger epoch, or the same bytes.
pub adopts_first : (e : ℕ) (d x y : List ℕ) → e ≤ epoch x → body x ≡ body d → (epoch y ≤ e) ⊎ (body y ≡ body d) → chosen x y ≡ body d
adopts_first e d x y le same other = elim (cases_lt (epoch x) (epoch y)) [
  | inl less ↦ chosen_second x y less ∙ ⊎_elim (λ (few : epoch y ≤ e). absurd (let none : ⊥ = omega (arith, few, le, less) in none)) (λ (is : body y ≡ body d). is) other
  | inr not ↦ chosen_first x y not ∙ same
]

-- The second side was.
pub adopts_second : (e : ℕ) (d x y : List ℕ) → e ≤ epoch y → body y ≡ body d → (epoch x < e) ⊎ (body x ≡ body d) → chosen x y ≡ body d
adopts_second e d x y le same other = elim (cases_lt (epoch x) (epoch y)) [
  | inl less ↦ chosen_second x y less ∙ same
  | inr not ↦ chosen_first x y not ∙ ⊎_elim (λ (few : epoch x < e). absurd (let none : ⊥ = omega (arith, few, le, not) in none)) (λ (is : body x ≡ body d). is) other
]
