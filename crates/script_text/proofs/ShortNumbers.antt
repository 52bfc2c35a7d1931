-- Texts that begin with a number of one digit or two.
use Rattle.script_text.proofs.{Words.{◌≡◌, ◌≤◌, ◌+◌, ◌*◌, ◌-◌, ◌∙◌, ℕ, List, [], ◌∷◌, length, take, drop, take_all, ap, sym, arith, Ok, ok_or, words_of}, Spaces.words_of-cut, WordLemmas.{number_of-one, number_of-two}}
use Rattle.std.specs.Prelude.{slice_index_or}
use Rattle.script_text.specs.Numbers.{BeginsWith}

-- one digit and a space, by the first two bytes
pub begins_one : (text : List ℕ) (n : ℕ) → 2 ≤ length text → 48 ≤ slice_index_or text 0 0 → slice_index_or text 0 0 ≤ 57 → slice_index_or text 1 0 ≡ 32
    → n ≡ slice_index_or text 0 0 - 48 → BeginsWith text n (take (length text - 2) (drop 2 text))
begins_one [] n long least most space is = absurd (omega (arith, long))
begins_one (d ∷ []) n long least most space is = absurd (omega (arith, long))
begins_one (d ∷ b ∷ rest) n long least most space is = (
  d ∷ [],
  ap (λ (c : ℕ). words_of (d ∷ c ∷ rest)) space ∙ words_of-cut (d ∷ []) rest (grind arith)
      ∙ ap (λ (l : List ℕ). (d ∷ []) ∷ words_of l) (sym (take_all (length (d ∷ b ∷ rest) - 2) rest (omega arith))),
  sym (ap (λ o. ok_or o 4) (number_of-one d (grind arith))) ∙ ap (λ (m : ℕ). Ok m) (sym is),
)

-- two digits and a space, by the first three
pub begins_two : (text : List ℕ) (n : ℕ) → 3 ≤ length text → 49 ≤ slice_index_or text 0 0 → slice_index_or text 0 0 ≤ 57 → 48 ≤ slice_index_or text 1 0 → slice_index_or text 1 0 ≤ 57
    → slice_index_or text 2 0 ≡ 32 → n ≡ 10 * (slice_index_or text 0 0 - 48) + (slice_index_or text 1 0 - 48) → BeginsWith text n (take (length text - 3) (drop 3 text))
begins_two [] n long from to least most space is = absurd (omega (arith, long))
begins_two (t ∷ []) n long from to least most space is = absurd (omega (arith, long))
begins_two (t ∷ o ∷ []) n long from to least most space is = absurd (omega (arith, long))
begins_two (t ∷ o ∷ b ∷ rest) n long from to least most space is = (
  t ∷ o ∷ [],
  ap (λ (c : ℕ). words_of (t ∷ o ∷ c ∷ rest)) space ∙ words_of-cut (t ∷ o ∷ []) rest (grind arith)
      ∙ ap (λ (l : List ℕ). (t ∷ o ∷ []) ∷ words_of l) (sym (take_all (length (t ∷ o ∷ b ∷ rest) - 3) rest (omega arith))),
  sym (ap (λ x. ok_or x 4) (number_of-two t o from to (grind arith))) ∙ ap (λ (m : ℕ). Ok m) (sym is),
)
