-- How many bytes the parts of versions take, of one block and over all blocks.
use Rattle.mv_index.proofs.{Words.{◌≡◌, inl, inr, ◌∙◌, sym, refl, ap, ℕ, zero, suc, ◌+◌, ◌<◌, ◌≤◌, ◌==◌, Bool, true, false, not, cond, nat_lt, List, [], ◌∷◌, ◌++◌, length, sum_by, arith, AllByRecursion, filter, cases_eq, eq-eqb, le-leb, le-ltb, ne_eqb, filter-append, sum_by-append, sum_by-cons, Run, Version, placed, version_of, shown_since, still_shows, part_bytes_above}, Again.or_parts, Counts.{total, total_add, total_same, total_zero}}

-- how many bytes the part of one version takes
abbrev pub weight : ℕ → Version → ℕ
weight n v = cond (nat_lt n v.number) (8 + v.len) 0

weight_cond : (v : Version) (xs : List Version) (b : Bool) → sum_by (λ (x : Version). 8 + x.len) (cond b (v ∷ xs) xs) ≡ cond b (8 + v.len) 0 + sum_by (λ (x : Version). 8 + x.len) xs
weight_cond v xs true = sum_by-cons (λ (x : Version). 8 + x.len) v xs
weight_cond v xs false = omega arith

pub weight_first : (n : ℕ) (v : Version) (xs : List Version) → part_bytes_above n (v ∷ xs) ≡ weight n v + part_bytes_above n xs
weight_first n v xs = weight_cond v (filter (λ v. nat_lt n v.number) xs) (nat_lt n v.number)

pub part_bytes_above-append : (n : ℕ) (xs ys : List Version) → part_bytes_above n (xs ++ ys) ≡ part_bytes_above n xs + part_bytes_above n ys
part_bytes_above-append n xs ys = grind (arith, filter-append, sum_by-append)

shown_cond : (t n : ℕ) (v : Version) (xs : List Version) → t ≤ n → part_bytes_above n (shown_since t xs) ≡ part_bytes_above n xs → (shows : Bool) → still_shows t v xs ≡ shows
    → part_bytes_above n (cond shows (v ∷ shown_since t xs) (shown_since t xs)) ≡ part_bytes_above n (v ∷ xs)
shown_cond t n v xs le same true is = weight_first n v (shown_since t xs) ∙ ap (λ (k : ℕ). weight n v + k) same ∙ sym (weight_first n v xs)
shown_cond t n v xs le same false is = grind (arith, or_parts, not, weight_first)

-- a trim drops none above its number
pub part_bytes_above-shown_since : (t n : ℕ) (xs : List Version) → t ≤ n → part_bytes_above n (shown_since t xs) ≡ part_bytes_above n xs
part_bytes_above-shown_since t n [] le = refl
part_bytes_above-shown_since t n (v ∷ xs) le = shown_cond t n v xs le (part_bytes_above-shown_since t n xs le) (still_shows t v xs) refl

-- what one block alone has
alone_before : (x size a n : ℕ) → x < a → total (λ b. cond (x == b) size 0) a n ≡ 0
alone_before x size a zero lt = refl
alone_before x size a (suc n) lt =
    let first : ◌≡◌ {A = ℕ} (cond (x == a) size 0) 0 = ap (λ (b : Bool). cond b size 0) (ne_eqb x a (λ is. omega (arith, is, lt))) in
    let rest = alone_before x size (a + 1) n (omega (arith, lt)) in
    omega (arith, first, rest)

alone : (x size a n : ℕ) → a ≤ x → x < a + n → total (λ b. cond (x == b) size 0) a n ≡ size
alone x size a zero from to = absurd (omega (arith, from, to))
alone x size a (suc n) from to = elim (cases_eq x a) [
  | inl is ↦
      let first : ◌≡◌ {A = ℕ} (cond (x == a) size 0) size = ap (λ (b : Bool). cond b size 0) (eq-eqb x a is) in
      let rest = alone_before x size (a + 1) n (omega (arith, is)) in
      omega (arith, first, rest)
  | inr other ↦
      let first : ◌≡◌ {A = ℕ} (cond (x == a) size 0) 0 = ap (λ (b : Bool). cond b size 0) (ne_eqb x a other) in
      let rest = alone x size (a + 1) n (omega (arith, from, other)) (omega (arith, to)) in
      omega (arith, first, rest)
]

above_cond : (m n at : ℕ) (run : Run) (tail : List Version) → m < n → (here : Bool) → part_bytes_above m (cond here (version_of n at run ∷ tail) tail) ≡ cond here (8 + length run.bytes) 0 + part_bytes_above m tail
above_cond m n at run tail lt true = weight_first m (version_of n at run) tail ∙ ap (λ (b : Bool). cond b (8 + length run.bytes) 0 + part_bytes_above m tail) (le-leb (suc m) n lt)
above_cond m n at run tail lt false = omega arith

-- the parts of a commit above the number count in their blocks
pub placed_above : (m n blocks at : ℕ) (parts : List Run) → m < n → AllByRecursion (λ run. run.block < blocks) parts
    → total (λ b. part_bytes_above m (placed b n at parts)) 0 blocks ≡ sum_by (λ run. 8 + length run.bytes) parts
placed_above m n blocks at [] lt all = total_zero 0 blocks
placed_above m n blocks at (run ∷ parts) lt all =
    total_same (λ b. part_bytes_above m (placed b n at (run ∷ parts))) (λ b. cond (run.block == b) (8 + length run.bytes) 0 + part_bytes_above m (placed b n (at + (8 + length run.bytes)) parts)) 0 blocks
    (λ b from to. above_cond m n at run (placed b n (at + (8 + length run.bytes)) parts) lt (run.block == b))
    ∙ total_add (λ b. cond (run.block == b) (8 + length run.bytes) 0) (λ b. part_bytes_above m (placed b n (at + (8 + length run.bytes)) parts)) 0 blocks
    ∙ (λ i. alone run.block (8 + length run.bytes) 0 blocks (omega arith) (omega (arith, all.0)) i + placed_above m n blocks (at + (8 + length run.bytes)) parts lt all.1 i)
    ∙ sym (sum_by-cons (λ (r : Run). 8 + length r.bytes) run parts)

below_cond : (m n at : ℕ) (run : Run) (tail : List Version) → n ≤ m → part_bytes_above m tail ≡ 0 → (here : Bool) → part_bytes_above m (cond here (version_of n at run ∷ tail) tail) ≡ 0
below_cond m n at run tail le none true = weight_first m (version_of n at run) tail ∙ (λ i. cond (le-ltb m n le i) (8 + length run.bytes) 0 + none i)
below_cond m n at run tail le none false = none

-- those of one that is not count nowhere
pub placed_below : (b m n at : ℕ) (parts : List Run) → n ≤ m → part_bytes_above m (placed b n at parts) ≡ 0
placed_below b m n at [] le = refl
placed_below b m n at (run ∷ parts) le = below_cond m n at run (placed b n (at + (8 + length run.bytes)) parts) le (placed_below b m n (at + (8 + length run.bytes)) parts le) (run.block == b)
