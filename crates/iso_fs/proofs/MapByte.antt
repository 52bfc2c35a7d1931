-- What `lowest_free` finds is a free block.
use Rattle.iso_fs.proofs.Words.{◌≡◌, ◌∙◌, sym, refl, ap, ℕ, zero, suc, ◌+◌, ◌-◌, ◌%◌, ◌<◌, ◌≤◌, Bool, true, false, not, ◌==◌, List, Some, arith, inl, inr, cases_Bool, Area, first_from, bytes_in, map_mark, map_bit, lowest_free, map_byte}

first_is : (test : ℕ → Bool) (i n j : ℕ) → first_from test i n ≡ Some j → (i ≤ j) × (j < i + n) × (test j ≡ true)
first_is test i zero j e = absurd cc
first_is test i (suc n) j e = elim (cases_Bool (test i)) [
  | inl pass ↦
      (let here : Some i ≡ Some j = sym (rw pass refl) ∙ e in
      let same : i ≡ j = cc in
      (omega arith, omega arith, ap test (sym same) ∙ pass))
  | inr fail ↦
      (let more = first_is test (i + 1) n j (sym (rw fail refl) ∙ e) in
      let low = more.0 in
      let high = more.1 in
      (omega arith, omega arith, more.2))
]

-- a block of the area, not its first one, whose bit is clear
pub record IsFree (a : Area) (first : List ℕ) (k : ℕ) : Type 0 where
  pub low : 1 ≤ k
  pub high : k < a.blocks
  pub clear : map_bit first k ≡ false

pub is_free : (a : Area) (first : List ℕ) (k : ℕ) → 2 ≤ a.blocks → lowest_free (bytes_in (map_mark a.blocks) first) 1 (a.blocks - 1) ≡ Some k → IsFree a first k
is_free a first k least e =
    let map = bytes_in (map_mark a.blocks) first in
    let test : ℕ → Bool = λ j. not (map_bit map j) in
    let is = first_is test 1 (a.blocks - 1) k e in
    let low = is.0 in
    let high = is.1 in
    let pass : not (map_bit map k) ≡ true = is.2 in
    let inside : k < a.blocks = omega arith in
    record {
      low = low;
      high = inside;
      clear = ap (λ (x : ℕ). Rattle.std.specs.Int.bit_at x (k % 8) == 1) (sym (map_byte a first k inside)) ∙ elim (map_bit map k) as (λ t. not t ≡ true → t ≡ false) [ true ↦ λ p. cc | false ↦ λ p. refl ] pass;
    }
