-- The blocks that a call takes, the lowest free ones of a region, and the mark over their bits.
use Rattle.script_model.proofs.Words.{◌≡◌, refl, ℕ, zero, suc, ◌+◌, ◌-◌, ◌<◌, ◌≤◌, Bool, true, false, cond, not, List, [], ◌∷◌, length, take, filter, slice_index, arith, subst, AreBytes, AllByRecursion, range_with_len, map_bit, free_count, free_list, last_of, with_used, with_bit, set_bit, bit_place, set_bytes, or_lt, bit_small, Area}

-- numbers that rise in a range
abbrev pub RiseIn : (low high : ℕ) → List ℕ → Type 0
RiseIn low high [] = Unit {0}
RiseIn low high (x ∷ xs) = (low ≤ x) × (x < high) × RiseIn (suc x) high xs

rise_above : (low below high : ℕ) (xs : List ℕ) → below ≤ low → RiseIn low high xs → RiseIn below high xs
rise_above low below high [] less rise = tt
rise_above low below high (x ∷ xs) less rise = (omega (arith, rise.0), rise.1, rise.2)

-- the first m numbers of a range that pass a test
rise_taken : (test : ℕ → Bool) (m i n high : ℕ) → i + n ≤ high → RiseIn i high (take m (filter test (range_with_len i n)))
rise_taken test zero i n high fits = tt
rise_taken test (suc m) i zero high fits = tt
rise_taken test (suc m) i (suc n) high fits = elim (test i) as (λ t. RiseIn i high (take (suc m) (cond t (i ∷ filter test (range_with_len (i + 1) n)) (filter test (range_with_len (i + 1) n))))) [
  | true ↦ (omega arith, omega arith, subst (λ (l : ℕ). RiseIn l high (take m (filter test (range_with_len (i + 1) n)))) (omega arith) (rise_taken test m (i + 1) n high (omega arith)))
  | false ↦ rise_above (i + 1) i high (take (suc m) (filter test (range_with_len (i + 1) n))) (omega arith) (rise_taken test (suc m) (i + 1) n high (omega arith))
]

pub last_rises : (low high x : ℕ) (xs : List ℕ) → RiseIn low high (x ∷ xs) → (x ≤ last_of x xs) × (last_of x xs < high)
last_rises low high x [] rise = (omega arith, rise.1)
last_rises low high x (y ∷ ys) rise = let rest = last_rises (suc x) high y ys rise.2 in (omega (arith, rise.2.0, rest.0), rest.1)

-- blocks of a region of `high` blocks
abbrev pub AreBelow : (high : ℕ) → List ℕ → Type 0
AreBelow high xs = AllByRecursion (λ x. x < high) xs

pub rise_below : (low high : ℕ) (xs : List ℕ) → RiseIn low high xs → AreBelow high xs
rise_below low high [] rise = tt
rise_below low high (x ∷ xs) rise = (rise.1, rise_below (suc x) high xs rise.2)

-- as many free blocks as are counted
free_are : (first : List ℕ) (i n : ℕ) → length (filter (λ k. not (map_bit first k)) (range_with_len i n)) ≡ free_count first i n
free_are first i zero = refl
free_are first i (suc n) = elim (map_bit first i) as (λ t. length (cond (not t) (i ∷ filter (λ k. not (map_bit first k)) (range_with_len (i + 1) n)) (filter (λ k. not (map_bit first k)) (range_with_len (i + 1) n))) ≡ cond t 0 1 + free_count first (i + 1) n) [
  | true ↦ (let rest = free_are first (i + 1) n in omega arith)
  | false ↦ (let rest = free_are first (i + 1) n in omega arith)
]

-- how many blocks a region has free
pub count_free : (a : Area) (first : List ℕ) → length (free_list a first) ≡ free_count first 1 (a.blocks - 1)
count_free a first = free_are first 1 (a.blocks - 1)

-- the blocks taken rise, and are those of the region
pub taken_rise : (a : Area) (first : List ℕ) (need : ℕ) → 0 < a.blocks → RiseIn 1 a.blocks (take need (free_list a first))
taken_rise a first need some = rise_taken (λ k. not (map_bit first k)) need 1 (a.blocks - 1) a.blocks (omega arith)

pub used_bytes : (first blocks : List ℕ) → AreBytes first → AreBytes (with_used first blocks)
used_bytes first [] values = values
used_bytes first (k ∷ blocks) values =
    used_bytes (with_bit first k) blocks (set_bytes first (bit_place k) (set_bit (slice_index first (bit_place k)) k) (or_lt 8 _ _ (values (bit_place k)) (bit_small k)) values)
