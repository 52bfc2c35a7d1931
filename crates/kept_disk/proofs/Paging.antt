-- The page of a place, and ranges that are held.
use Rattle.kept_disk.proofs.Words.{◌≡◌, ◌⊎◌, ◌<◌, ◌≤◌, ◌+◌, ◌%◌, ℕ, List, Option, inl, inr, sym, ◌∙◌, subst, arith, mod-add-div, mod-lt, slice_get, HoldsRange, IsHeld, end_of, page_at, start_of}

-- a place lies in its page
pub from_start : (at : ℕ) → start_of (page_at at) ≤ at
from_start at = omega (arith, mod-add-div (at + 4000) 4096)

pub to_end : (at : ℕ) → at < end_of (page_at at)
to_end at = let below : (at + 4000) % 4096 < 4096 = mod-lt (at + 4000) (omega arith) in omega (arith, mod-add-div (at + 4000) 4096, below)

-- where a whole range is held, so is the page of each place in it
pub held_in : (numbers : List (Option ℕ)) (at len done : ℕ) → done < len → HoldsRange numbers at len → IsHeld numbers (page_at (at + done))
held_in numbers at len done within range = range (at + done) (omega arith) (omega (arith, within))

-- where a range lies in one page, it is held with that page
pub held_page : (numbers : List (Option ℕ)) (at len : ℕ) → at + len ≤ end_of (page_at at) → IsHeld numbers (page_at at) → HoldsRange numbers at len
held_page numbers at len inside here place from to =
    let same : page_at at ≡ page_at place = omega (arith, from_start at, from_start place, to_end place, inside, from, to) in
    subst (IsHeld numbers) same here

-- two pages near each other have two places
apart : (p q : ℕ) → p < q → q ≤ p + 2000 → p % 2053 ≡ q % 2053 → ⊥
apart p q less near same = omega (arith, mod-add-div p 2053, mod-add-div q 2053, less, near, same)

-- what is held so far, and the page of one part more
pub held_further : (old new : List (Option ℕ)) (at done count : ℕ) → at + done + count ≤ end_of (page_at (at + done)) → done + count ≤ 65536 → IsHeld new (page_at (at + done)) → ((k : ℕ) → (k ≡ page_at (at + done) % 2053 → ⊥) → slice_get new k ≡ slice_get old k) → HoldsRange old at done → HoldsRange new at (done + count)
held_further old new at done count inside small here others so_far place from to =
    let p = page_at place in
    let q = page_at (at + done) in
    let after = from_start place in
    let before = to_end place in
    let starts = from_start (at + done) in
    let ends = to_end (at + done) in
    let cases : (p < q) ⊎ ((p ≡ q) ⊎ (q < p)) = grind arith in
    elim cases [
      | inl less ↦
          let near : q ≤ p + 2000 = omega (arith, starts, before, from, small) in
          others (p % 2053) (apart p q less near) ∙ so_far place from (omega (arith, before, starts, less))
      | inr (inl same) ↦ subst (IsHeld new) (sym same) here
      | inr (inr more) ↦ absurd (omega (arith, after, inside, to, more))
    ]
