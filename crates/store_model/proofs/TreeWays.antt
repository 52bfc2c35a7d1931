-- Numbers that rise in a range, as those of free blocks, and what the nodes of a way up are.
use Rattle.store_model.proofs.{Words.{◌≡◌, refl, subst, ℕ, zero, suc, ◌+◌, ◌-◌, ◌<◌, ◌≤◌, Bool, true, false, not, cond, List, [], ◌∷◌, length, take, filter, IfSome, arith, AllByRecursion, range_with_len, Area, cell_count, free_count, map_bit, AreBytes, last_of, Cell, Put, first_key, half, no_bytes, below_from, placed, before, key_at}, TreeCells.{AreCells, length-put}}

-- numbers that rise in a range
abbrev pub RiseIn : (low high : ℕ) → List ℕ → Type 0
RiseIn low high [] = Unit {0}
RiseIn low high (x ∷ xs) = (low ≤ x) × (x < high) × RiseIn (suc x) high xs

pub rise_above : (low below high : ℕ) (xs : List ℕ) → below ≤ low → RiseIn low high xs → RiseIn below high xs
rise_above low below high [] less rise = tt
rise_above low below high (x ∷ xs) less rise = (omega (arith, rise.0), rise.1, rise.2)

pub rise_range : (i n : ℕ) → RiseIn i (i + n) (range_with_len i n)
rise_range i zero = tt
rise_range i (suc n) = (omega arith, omega arith, subst (λ (h : ℕ). RiseIn (suc i) h (range_with_len (i + 1) n)) (omega arith) (subst (λ (l : ℕ). RiseIn l (i + 1 + n) (range_with_len (i + 1) n)) (omega arith) (rise_range (i + 1) n)))

pub rise_filter : (test : ℕ → Bool) (low high : ℕ) (xs : List ℕ) → RiseIn low high xs → RiseIn low high (filter test xs)
rise_filter test low high [] rise = tt
rise_filter test low high (x ∷ xs) rise = elim (test x) as (λ t. RiseIn low high (cond t (x ∷ filter test xs) (filter test xs))) [
  | true ↦ (rise.0, rise.1, rise_filter test (suc x) high xs rise.2)
  | false ↦ rise_above (suc x) low high (filter test xs) (omega (arith, rise.0)) (rise_filter test (suc x) high xs rise.2)
]

pub rise_take : (n low high : ℕ) (xs : List ℕ) → RiseIn low high xs → RiseIn low high (take n xs)
rise_take zero low high xs rise = tt
rise_take (suc n) low high [] rise = tt
rise_take (suc n) low high (x ∷ xs) rise = (rise.0, rise.1, rise_take n (suc x) high xs rise.2)

pub last_rises : (low high x : ℕ) (xs : List ℕ) → RiseIn low high (x ∷ xs) → (x ≤ last_of x xs) × (last_of x xs < high)
last_rises low high x [] rise = (omega arith, rise.1)
last_rises low high x (y ∷ ys) rise = let rest = last_rises (suc x) high y ys rise.2 in (omega (arith, rise.2.0, rest.0), rest.1)

-- blocks of the area
abbrev pub AreInside : Area → List ℕ → Type 0
AreInside a blocks = AllByRecursion (λ (k : ℕ). k < a.blocks) blocks

pub rise_inside : (a : Area) (low : ℕ) (xs : List ℕ) → RiseIn low a.blocks xs → AreInside a xs
rise_inside a low [] rise = tt
rise_inside a low (x ∷ xs) rise = (rise.1, rise_inside a (suc x) xs rise.2)

-- as many free blocks as are counted
pub free_are : (first : List ℕ) (i n : ℕ) → length (filter (λ k. not (map_bit first k)) (range_with_len i n)) ≡ free_count first i n
free_are first i zero = refl
free_are first i (suc n) = elim (map_bit first i) as (λ t. length (cond (not t) (i ∷ filter (λ k. not (map_bit first k)) (range_with_len (i + 1) n)) (filter (λ k. not (map_bit first k)) (range_with_len (i + 1) n))) ≡ cond t 0 1 + free_count first (i + 1) n) [
  | true ↦ (let rest = free_are first (i + 1) n in omega arith)
  | false ↦ (let rest = free_are first (i + 1) n in omega arith)
]

abbrev pub Wrote : Area → ℕ × ℕ × List Cell → Type 0
Wrote a w = (w.0 < a.blocks) × (w.1 < 256) × AreCells w.2 × (length w.2 ≤ cell_count a.size)

-- a node of a way: its block and its cells
abbrev pub OnWay : Area → ℕ × List Cell → Type 0
OnWay a node = (node.0 < a.blocks) × AreCells node.1 × (length node.1 ≤ cell_count a.size)

-- how many cells two halves have
pub half_less : (n : ℕ) → 0 < n → half n ≤ n
half_less n some = omega arith

pub half_rest : (n : ℕ) → 0 < n → n + 1 - half n ≤ n
half_rest n some = omega arith

pub first_key_are : (cs : List Cell) → AreCells cs → (length (first_key cs) ≤ 28) × AreBytes (first_key cs)
first_key_are [] all = (omega arith, no_bytes)
first_key_are (c ∷ cs) all = (all.0.short, all.0.key)

-- what a node of a way, or the two that it becomes, are
pub record Fitting (a : Area) (q : Put) : Type 0 where
  pub writes : AllByRecursion (Wrote a) q.writes
  pub left : AreInside a q.left
  pub second : IfSome q.second (λ s. (s.1 < a.blocks) × (length s.0 ≤ 28) × AreBytes s.0)

-- a scan
pub row_less : (key keys : List ℕ) (i n : ℕ) → below_from key keys i n ≤ n
row_less key keys i zero = omega arith
row_less key keys i (suc n) = elim (before (key_at keys i) key) as (λ t. cond t (suc (below_from key keys (i + 1) n)) 0 ≤ suc n) [
  | true ↦ (let rest = row_less key keys (i + 1) n in omega arith)
  | false ↦ omega arith
]

pub length-placed : (level : ℕ) (key : List ℕ) (new : Cell) (cs : List Cell) → length (placed level key new cs) ≤ suc (length cs)
length-placed level key new cs = grind (arith, length-put)
