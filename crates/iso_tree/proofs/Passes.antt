-- The bytes of a node pass the tests of a descent.
use Rattle.iso_tree.proofs.{Words.{◌≡◌, ◌⊎◌, ◌∙◌, sym, refl, ap, ℕ, zero, suc, ◌+◌, ◌-◌, ◌*◌, ◌<◌, ◌≤◌, Bool, true, false, ◌&&◌, ◌||◌, ◌==◌, not, nat_le, List, [], ◌∷◌, ◌++◌, take, drop, length, get_or, replicate, arith, inl, inr, eq-eqb, ne_eqb, flat_map, list_all, and_from, or_left, or_right, nat_tests, append-nil, drop_at, bytes_in, cell_count, key_mark, is_part, is_zero, text_of, key_at, all_from, is_unused, are_key_parts, key_part, FitCells, before, count_of, has_head, is_node, Cell, first_key, zeros_are, ◌≢◌, and_parts, all_at, all_pass, cases_lt, take-add, drop-drop, list_all-append}, Bytes.{head_of, keys_of, count_is, key_text, length-key_part, after_part, first_part}}

-- keys that rise strictly
abbrev pub StrictFrom : (last : List ℕ) → List Cell → Type 0
StrictFrom last [] = Unit {0}
StrictFrom last (d ∷ ds) = (before last d.0 ≡ true) × StrictFrom d.0 ds

abbrev pub Strict : List Cell → Type 0
Strict [] = Unit {0}
Strict (c ∷ cs) = StrictFrom c.0 cs

module _ (K : List ℕ) (i : ℕ) (c : Cell) (cs : List Cell) (rest : List ℕ) (fit : FitCells (c ∷ cs)) (k : drop (64 + 31 * i) K ≡ flat_map (λ c. key_part c.0) (c ∷ cs) ++ rest) where
  part_here : bytes_in (key_mark i) K ≡ key_part c.0
  part_here = first_part (64 + 31 * i) 31 K (key_part c.0) (flat_map (λ c. key_part c.0) cs) rest (length-key_part c.0 fit.0.0) k

  key_here : key_at K i ≡ c.0
  key_here = ap text_of part_here ∙ key_text c.0

  next_here : drop (64 + 31 * (i + 1)) K ≡ flat_map (λ c. key_part c.0) cs ++ rest
  next_here =
      let e : 64 + 31 * i + 31 ≡ 64 + 31 * (i + 1) = omega arith in
      ap (λ n. drop n K) (sym e) ∙ after_part (64 + 31 * i) 31 K (key_part c.0) (flat_map (λ c. key_part c.0) cs) rest (length-key_part c.0 fit.0.0) k

abbrev rises_from : List ℕ → (i n : ℕ) → Bool
rises_from K i n = all_from (λ i. before (key_at K i) (key_at K (i + 1))) i n

rise_back : (K : List ℕ) (i : ℕ) (c : Cell) (cs : List Cell) (rest : List ℕ) → FitCells (c ∷ cs) → drop (64 + 31 * i) K ≡ flat_map (λ c. key_part c.0) (c ∷ cs) ++ rest → StrictFrom c.0 cs
    → rises_from K i (length cs) ≡ true
rise_back K i c [] rest fit k rises = refl
rise_back K i c (d ∷ ds) rest fit k rises =
    let next = next_here K i c (d ∷ ds) rest fit k in
    and_from _ _ ((λ j. before ((key_here K i c (d ∷ ds) rest fit k) j) ((key_here K (i + 1) d ds rest fit.1 next) j)) ∙ rises.0) (rise_back K (i + 1) d ds rest fit.1 next rises.1)

pub zeros_more : (x y : ℕ) → replicate {A = ℕ} (x + y) 0 ≡ replicate x 0 ++ replicate y 0
zeros_more zero y = ap (λ n. replicate n 0) (Rattle.std.proofs.Common.zero-add y)
zeros_more (suc x) y = let e : suc x + y ≡ suc (x + y) = omega arith in ap (λ n. replicate n 0) e ∙ ap (λ l. 0 ∷ l) (zeros_more x y)

all_zeros : (xs ys : List ℕ) → list_all is_zero xs ≡ true → list_all is_zero ys ≡ true → list_all is_zero (xs ++ ys) ≡ true
all_zeros [] ys all more = more
all_zeros (x ∷ xs) ys all more = (let parts = Rattle.std.proofs.lemmas.Bool.and_parts (is_zero x) (list_all is_zero xs) all in and_from _ _ parts.0 (all_zeros xs ys parts.1 more))

key_part_is : (key : List ℕ) → length key ≤ 28 → is_part 28 (key_part key) ≡ true
key_part_is key short =
    let low : nat_le (length key) 28 ≡ true = grind (arith, nat_tests) in
    let e : 1 + length key ≡ suc (length key) = omega arith in
    and_from _ _ low (ap (λ n. list_all is_zero (drop n (key_part key))) e
    ∙ ap (list_all is_zero) (drop_at key (replicate (30 - length key) 0) (length key) refl)
    ∙ zeros_are (30 - length key))

-- cells that are not used
zeros_pass : (passes : List ℕ → Bool) → passes (replicate 31 0) ≡ true → (K : List ℕ) (i m : ℕ) → drop (64 + 31 * i) K ≡ replicate (31 * m) 0 → all_from (λ i. passes (bytes_in (key_mark i) K)) i m ≡ true
zeros_pass passes pass K i zero k = refl
zeros_pass passes pass K i (suc m) k =
    let e : 31 * suc m ≡ 31 + 31 * m = omega arith in
    let split : drop (64 + 31 * i) K ≡ (replicate 31 0 ++ replicate (31 * m) 0) ++ [] =
    k ∙ ap (λ n. replicate n 0) e ∙ zeros_more 31 (31 * m) ∙ sym (append-nil (replicate 31 0 ++ replicate (31 * m) 0)) in
    let f : 64 + 31 * i + 31 ≡ 64 + 31 * (i + 1) = omega arith in
    let next : drop (64 + 31 * (i + 1)) K ≡ replicate (31 * m) 0 =
    ap (λ n. drop n K) (sym f) ∙ after_part (64 + 31 * i) 31 K (replicate 31 0) (replicate (31 * m) 0) [] refl split ∙ append-nil (replicate (31 * m) 0) in
    and_from _ _ (ap passes (first_part (64 + 31 * i) 31 K (replicate 31 0) (replicate (31 * m) 0) [] refl split) ∙ pass) (zeros_pass passes pass K (i + 1) m next)

unused_parts : (K : List ℕ) (i m : ℕ) → drop (64 + 31 * i) K ≡ replicate (31 * m) 0 → all_from (λ i. is_unused K i) i m ≡ true
unused_parts K i m k = zeros_pass (λ part. get_or part 0 0 == 0) refl K i m k

zero_parts : (K : List ℕ) (i m : ℕ) → drop (64 + 31 * i) K ≡ replicate (31 * m) 0 → all_from (λ i. is_part 28 (bytes_in (key_mark i) K)) i m ≡ true
zero_parts K i m k = zeros_pass (is_part 28) refl K i m k

parts_back : (K : List ℕ) (i m : ℕ) (cs : List Cell) → FitCells cs → drop (64 + 31 * i) K ≡ flat_map (λ c. key_part c.0) cs ++ replicate (31 * m) 0
    → all_from (λ i. is_part 28 (bytes_in (key_mark i) K)) i (length cs + m) ≡ true
parts_back K i m [] fit k = let e : 0 + m ≡ m = omega arith in ap (λ n. all_from (λ i. is_part 28 (bytes_in (key_mark i) K)) i n) e ∙ zero_parts K i m k
parts_back K i m (c ∷ cs) fit k =
    let e : suc (length cs) + m ≡ suc (length cs + m) = omega arith in
    ap (λ n. all_from (λ i. is_part 28 (bytes_in (key_mark i) K)) i n) e
    ∙ and_from _ _ (ap (is_part 28) (part_here K i c cs (replicate (31 * m) 0) fit k) ∙ key_part_is c.0 fit.0.0)
    (parts_back K (i + 1) m cs fit.1 (next_here K i c cs (replicate (31 * m) 0) fit k))

rise_all : (K : List ℕ) (cs : List Cell) (rest : List ℕ) → FitCells cs → drop 64 K ≡ flat_map (λ c. key_part c.0) cs ++ rest → Strict cs → rises_from K 0 (length cs - 1) ≡ true
rise_all K [] rest fit k rises = let e : 0 - 1 ≡ 0 = omega arith in ap (rises_from K 0) e
rise_all K (c ∷ cs) rest fit k rises = let e : suc (length cs) - 1 ≡ length cs = omega arith in ap (rises_from K 0) e ∙ rise_back K 0 c cs rest fit k rises

first_empty : (K : List ℕ) (cs : List Cell) (rest : List ℕ) → FitCells cs → drop 64 K ≡ flat_map (λ c. key_part c.0) cs ++ rest → 2 ≤ length cs → first_key cs ≡ [] → (length (key_at K 0) == 0) ≡ true
first_empty K [] rest fit k some empty = absurd (omega arith)
first_empty K (c ∷ cs) rest fit k some empty = ap (λ l. length l == 0) (key_here K 0 c cs rest fit k ∙ empty)

two_le : (n : ℕ) → 2 ≤ n → nat_le 2 n ≡ true
two_le n some = grind (arith, nat_tests)

le_is : (x n : ℕ) → x ≤ n → nat_le x n ≡ true
le_is x n le = grind (arith, nat_tests)

-- the keys of cells, one after the other
pub skip_keys : (K : List ℕ) (i : ℕ) (cs : List Cell) (rest : List ℕ) → FitCells cs → drop (64 + 31 * i) K ≡ flat_map (λ c. key_part c.0) cs ++ rest → drop (64 + 31 * (i + length cs)) K ≡ rest
skip_keys K i [] rest fit k = let e : i + 0 ≡ i = omega arith in ap (λ n. drop (64 + 31 * n) K) e ∙ k
skip_keys K i (c ∷ cs) rest fit k =
    let e : i + suc (length cs) ≡ i + 1 + length cs = omega arith in
    ap (λ n. drop (64 + 31 * n) K) e ∙ skip_keys K (i + 1) cs rest fit.1 (next_here K i c cs rest fit k)

-- The bytes of a node pass the test of its level.
pub node_passes : (size level : ℕ) (cs : List Cell) → FitCells cs → length cs ≤ cell_count size → Strict cs → (level ≡ 0) ⊎ ((2 ≤ length cs) × (first_key cs ≡ [])) → level < 31
    → is_node size level (head_of level cs ++ keys_of size cs) ≡ true
unfolding is_node
node_passes size level cs fit few rises kind low =
    let K = head_of level cs ++ keys_of size cs in
    let m = cell_count size - length cs in
    let k : drop 64 K ≡ flat_map (λ c. key_part c.0) cs ++ replicate (31 * m) 0 = drop_at (head_of level cs) (keys_of size cs) 64 refl in
    let count : count_of K ≡ length cs = count_is size level cs fit few in
    let all : length cs + m ≡ cell_count size = omega arith in
    let parts : are_key_parts size K ≡ true =
    ap (λ n. all_from (λ i. is_part 28 (bytes_in (key_mark i) K)) 0 n) (sym all) ∙ parts_back K 0 m cs fit k in
    let start : 0 + length cs ≡ length cs = omega arith in
    let rest : all_from (λ i. is_unused K i) (length cs) m ≡ true = unused_parts K (length cs) m (ap (λ n. drop (64 + 31 * n) K) (sym start) ∙ skip_keys K 0 cs (replicate (31 * m) 0) fit k) in
    let rise : rises_from K 0 (count_of K - 1) ≡ true = ap (λ n. rises_from K 0 (n - 1)) count ∙ rise_all K cs (replicate (31 * m) 0) fit k rises in
    let least : ((level == 0) || (nat_le 2 (count_of K) && (length (key_at K 0) == 0))) ≡ true =
    elim kind [
      | inl leaf ↦ or_left (level == 0) _ (eq-eqb level 0 leaf)
      | inr inner ↦ or_right (level == 0) _ (and_from _ _ (ap (λ n. nat_le 2 n) count ∙ two_le (length cs) inner.0) (first_empty K cs (replicate (31 * m) 0) fit k inner.0 inner.1))
    ] in
    let other : (level == 31) ≡ false = ne_eqb level 31 (λ e. absurd (omega arith)) in
    let head : has_head size level K ≡ true = and_from _ _ (and_from _ _ (and_from _ _ refl (eq-eqb level level refl)) refl) (ap (λ n. nat_le n (cell_count size)) count ∙ le_is (length cs) (cell_count size) few) in
    and_from _ _ head (and_from _ _ parts (and_from _ _ (and_from _ _ (ap (λ n. all_from (λ i. is_unused K i) n (cell_count size - n)) count ∙ rest) rise) (and_from _ _ least (or_left (not (level == 31)) _ (ap not other)))))

-- The cells of a node that are seen in one walk: those that are used, and the zeros after them.
-- whether a used cell is as it has to be
abbrev pub fits_in : List ℕ → (cell : ℕ) → Bool
fits_in keys cell = is_part 28 (bytes_in (key_mark cell) keys) && ((cell == 0) || before (key_at keys (cell - 1)) (key_at keys cell))

same_truth : (x y : Bool) → (x ≡ true → y ≡ true) → (y ≡ true → x ≡ true) → x ≡ y
same_truth true true there back = refl
same_truth true false there back = sym (there refl)
same_truth false true there back = back refl
same_truth false false there back = refl

-- a part without any text is zeros throughout
zero_part : (part : List ℕ) → list_all is_zero part ≡ (is_part 28 part && (get_or part 0 0 == 0))
zero_part [] = refl
zero_part (zero ∷ xs) = elim (list_all is_zero xs) as (λ b. b ≡ (b && true)) [ true ↦ refl | false ↦ refl ]
zero_part (suc x ∷ xs) =
    let other : (suc x == 0) ≡ false = grind arith in
    rw other (elim (is_part 28 (suc x ∷ xs)) as (λ b. false ≡ (b && false)) [ true ↦ refl | false ↦ refl ])

-- whether a cell is not used
abbrev is_blank : List ℕ → (cell : ℕ) → Bool
is_blank keys cell = list_all is_zero (bytes_in (key_mark cell) keys)

-- the bytes of some cells are zeros where each cell's are
blank_cells : (keys : List ℕ) (i m : ℕ) → list_all is_zero (take (31 * m) (drop (64 + 31 * i) keys)) ≡ all_from (is_blank keys) i m
blank_cells keys i zero = refl
blank_cells keys i (suc m) =
    let e : 31 * suc m ≡ 31 + 31 * m = omega arith in
    let f : 64 + 31 * i + 31 ≡ 64 + 31 * (i + 1) = omega arith in
    ap (λ (k : ℕ). list_all is_zero (take k (drop (64 + 31 * i) keys))) e
    ∙ ap (list_all is_zero) (take-add 31 (31 * m) (drop (64 + 31 * i) keys))
    ∙ list_all-append is_zero (take 31 (drop (64 + 31 * i) keys)) (take (31 * m) (drop 31 (drop (64 + 31 * i) keys)))
    ∙ ap (λ (l : List ℕ). is_blank keys i && list_all is_zero (take (31 * m) l)) (drop-drop 31 (64 + 31 * i) keys)
    ∙ ap (λ (k : ℕ). is_blank keys i && list_all is_zero (take (31 * m) (drop k keys))) f
    ∙ ap (λ b. is_blank keys i && b) (blank_cells keys (i + 1) m)

pub one_walk : (keys : List ℕ) (n count : ℕ) → count ≤ n
    → (all_from (fits_in keys) 0 count && list_all is_zero (take (31 * (n - count)) (drop (64 + 31 * count) keys))) ≡ (all_from (λ i. is_part 28 (bytes_in (key_mark i) keys)) 0 n
    && (all_from (λ i. is_unused keys i) count (n - count) && all_from (λ i. before (key_at keys i) (key_at keys (i + 1))) 0 (count - 1)))
one_walk keys n count few = ap (λ b. all_from (fits_in keys) 0 count && b) (blank_cells keys count (n - count)) ∙ same_truth _ _ there back
  where
    used : (i : ℕ) → all_from (fits_in keys) 0 count ≡ true → i < count → (is_part 28 (bytes_in (key_mark i) keys) ≡ true) × (((i == 0) || before (key_at keys (i - 1)) (key_at keys i)) ≡ true)
    used i all below = and_parts _ _ (all_at (fits_in keys) 0 count i all (omega arith) (omega arith))

    other : (i : ℕ) → all_from (is_blank keys) count (n - count) ≡ true → count ≤ i → i < n → (is_part 28 (bytes_in (key_mark i) keys) ≡ true) × (is_unused keys i ≡ true)
    other i all past below = and_parts _ _ (sym (zero_part (bytes_in (key_mark i) keys)) ∙ all_at (is_blank keys) count (n - count) i all past (omega arith))

    -- after the first cell the key of the one before counts
    same_test : (i : ℕ) → ((i + 1 == 0) || before (key_at keys (i + 1 - 1)) (key_at keys (i + 1))) ≡ before (key_at keys i) (key_at keys (i + 1))
    same_test i = let some : (i + 1 == 0) ≡ false = grind arith in let one : i + 1 - 1 ≡ i = omega arith in rw (some, one) refl

    part_at : (i : ℕ) → all_from (fits_in keys) 0 count ≡ true → all_from (is_blank keys) count (n - count) ≡ true → i < n → is_part 28 (bytes_in (key_mark i) keys) ≡ true
    part_at i all blank below = elim (cases_lt i count) [
      | inl low ↦ (used i all low).0
      | inr high ↦ (other i blank high below).0
    ]

    there : (all_from (fits_in keys) 0 count && all_from (is_blank keys) count (n - count)) ≡ true → (all_from (λ i. is_part 28 (bytes_in (key_mark i) keys)) 0 n
        && (all_from (λ i. is_unused keys i) count (n - count) && all_from (λ i. before (key_at keys i) (key_at keys (i + 1))) 0 (count - 1))) ≡ true
    there both =
        let all = and_parts _ _ both in
        let parts = all_pass (λ i. is_part 28 (bytes_in (key_mark i) keys)) 0 n (λ i low high. part_at i all.0 all.1 (omega arith)) in
        let unused = all_pass (λ i. is_unused keys i) count (n - count) (λ i low high. (other i all.1 low (omega arith)).1) in
        let rising = all_pass (λ i. before (key_at keys i) (key_at keys (i + 1))) 0 (count - 1) (λ i low high. sym (same_test i) ∙ (used (i + 1) all.0 (omega arith)).1) in
        rw (parts, unused, rising) refl

    back : (all_from (λ i. is_part 28 (bytes_in (key_mark i) keys)) 0 n
        && (all_from (λ i. is_unused keys i) count (n - count) && all_from (λ i. before (key_at keys i) (key_at keys (i + 1))) 0 (count - 1))) ≡ true
        → (all_from (fits_in keys) 0 count && all_from (is_blank keys) count (n - count)) ≡ true
    back all =
        let parts = and_parts _ _ all in
        let others = and_parts _ _ parts.1 in
        let part : (i : ℕ) → i < n → is_part 28 (bytes_in (key_mark i) keys) ≡ true = λ i below. all_at (λ i. is_part 28 (bytes_in (key_mark i) keys)) 0 n i parts.0 (omega arith) (omega arith) in
        and_from _ _ (all_pass (fits_in keys) 0 count (λ i low high. and_from _ _ (part i (omega arith)) (by_place i (omega arith) others.1)))
        (all_pass (is_blank keys) count (n - count) (λ i low high. zero_part (bytes_in (key_mark i) keys) ∙ and_from _ _ (part i (omega arith)) (all_at (λ i. is_unused keys i) count (n - count) i others.0 low high)))
      where
        by_place : (i : ℕ) → i < count → all_from (λ i. before (key_at keys i) (key_at keys (i + 1))) 0 (count - 1) ≡ true → ((i == 0) || before (key_at keys (i - 1)) (key_at keys i)) ≡ true
        by_place zero below rising = refl
        by_place (suc i) below rising =
            let one : suc i ≡ i + 1 = omega arith in
            rw one (same_test i) ∙ all_at (λ i. before (key_at keys i) (key_at keys (i + 1))) 0 (count - 1) i rising (omega arith) (omega arith)

-- the tests of one cell, where the last key is that of the cell before
pub tests_of : (keys : List ℕ) (cell : ℕ) (last key : List ℕ) → key ≡ key_at keys cell → (cell ≢ 0 → last ≡ key_at keys (cell - 1))
    → fits_in keys cell ≡ (is_part 28 (bytes_in (key_mark cell) keys) && ((cell == 0) || before last key))
tests_of keys zero last key is before_it = refl
tests_of keys (suc cell) last key is before_it =
    let other : suc cell ≢ 0 = λ e. absurd (omega (arith, e)) in
    (λ i. is_part 28 (bytes_in (key_mark (suc cell)) keys) && ((suc cell == 0) || before (sym (before_it other) i) (sym is i)))
