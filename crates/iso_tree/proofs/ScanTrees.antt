-- What a scan reads of a node are the cells that it visits.
use Rattle.iso_tree.proofs.{Words.{◌≡◌, ◌∙◌, sym, refl, ap, ℕ, zero, suc, ◌+◌, ◌-◌, ◌*◌, ◌<◌, ◌≤◌, ◌==◌, Bool, true, false, not, ◌&&◌, cond, List, ◌∷◌, map, take, drop, Some, None, arith, inl, inr, ne_eqb, list_all, and_from, cases_eq, take-take, drop-take, drop-drop, Area, key_at, keys_end, text_of, value_mark, bytes_in, further_bytes, before, below_from, cells_by, is_node, place_from, Cell, first_in, many_in, pairs_with, parts_of, scan_further, subst, [], ◌++◌, length, Option, Ok, Err, AllByRecursion, flat_map, append-nil, Broken, Array, own, block_at, AreReads, Program, Done, accesses_of, answer_of, is_part, keys_mark, accesses_then, answer_then, own_reads, reads_append, count_of, is_child, child_of, tree_at, pairs_in, AreAfter, AreChildren, IsOrdered, and_then, scan_children, scan_from, Scanned, cells_in, AreNodes, cond_reads, row_less, take-nil}, Edits.leaf_pairs, Enlarging.all_taken, Gets.ordered_in, Scans.{below_list, upto_list, within, row_within, visited}, Shapes.kids}
use Rattle.std.proofs.Common.{append_assoc}

-- COUNTS
pub below_same : (key keys : List ℕ) (value : ℕ → List ℕ) (i n : ℕ) → below_from key keys i n ≡ below_list key (cells_by keys value i n)
below_same key keys value i zero = refl
below_same key keys value i (suc n) = ap (λ (k : ℕ). cond (before (key_at keys i) key) (suc k) 0) (below_same key keys value (i + 1) n)

pub place_same : (key keys : List ℕ) (value : ℕ → List ℕ) (j i n : ℕ) → i ≡ j + 1 → place_from key keys j i n ≡ j + upto_list key (cells_by keys value i n)
place_same key keys value j i zero next = omega arith
place_same key keys value j i (suc n) next =
    elim (before key (key_at keys i)) as (λ t. cond t j (place_from key keys i (i + 1) n) ≡ j + cond t 0 (suc (upto_list key (cells_by keys value (i + 1) n)))) [
      | true ↦ omega arith
      | false ↦ (let rest = place_same key keys value i (i + 1) n refl in omega arith)
    ]

pub upto_few : (key keys : List ℕ) (value : ℕ → List ℕ) (i n : ℕ) → upto_list key (cells_by keys value i n) ≤ n
upto_few key keys value i zero = omega arith
upto_few key keys value i (suc n) = elim (before key (key_at keys i)) as (λ t. cond t 0 (suc (upto_list key (cells_by keys value (i + 1) n))) ≤ suc n) [
  | true ↦ omega arith
  | false ↦ (let rest = upto_few key keys value (i + 1) n in omega arith)
]

-- CELLS IN A ROW
drop_by : (d : ℕ) (keys : List ℕ) (value : ℕ → List ℕ) (i n : ℕ) → drop d (cells_by keys value i n) ≡ cells_by keys value (i + d) (n - d)
drop_by zero keys value i zero = refl
drop_by zero keys value i (suc n) = let e : i ≡ i + 0 = omega arith in let f : suc n ≡ suc n - 0 = omega arith in (λ j. cells_by keys value (e j) (f j))
drop_by (suc d) keys value i zero = let e : 0 ≡ 0 - suc d = omega arith in ap (cells_by keys value (i + suc d)) e
drop_by (suc d) keys value i (suc n) =
    let e : i + 1 + d ≡ i + suc d = omega arith in
    let f : n - d ≡ suc n - suc d = omega arith in
    drop_by d keys value (i + 1) n ∙ (λ j. cells_by keys value (e j) (f j))

take_by : (k : ℕ) (keys : List ℕ) (value : ℕ → List ℕ) (i n : ℕ) → k ≤ n → take k (cells_by keys value i n) ≡ cells_by keys value i k
take_by zero keys value i zero le = refl
take_by zero keys value i (suc n) le = refl
take_by (suc k) keys value i zero le = absurd (omega arith)
take_by (suc k) keys value i (suc n) le = ap (λ l. (key_at keys i, value i) ∷ l) (take_by k keys value (i + 1) n (omega arith))

pub cells_cut : (keys : List ℕ) (value : ℕ → List ℕ) (first many n : ℕ) → many ≤ n - first → take many (drop first (cells_by keys value 0 n)) ≡ cells_by keys value first many
cells_cut keys value first many n le = grind (arith, drop_by, take_by) steps 100000

-- VALUE PARTS
parts_are : (size off : ℕ) (block keys : List ℕ) (first many : ℕ) → off ≡ keys_end size + 33 * first
    → parts_of (take (33 * many) (drop off block)) many ≡ map (λ c. c.1) (cells_by keys (λ i. bytes_in (value_mark size i) block) first many)
parts_are size off block keys first zero at = refl
parts_are size off block keys first (suc many) at =
    let X = drop off block in
    let sum : 33 * suc many ≡ 33 + 33 * many = omega arith in
    let head : take 33 (take (33 * suc many) X) ≡ take 33 (drop (keys_end size + 33 * first) block) = take-take 33 (33 * suc many) X (omega arith) ∙ ap (λ (o : ℕ). take 33 (drop o block)) at in
    let rest : drop 33 (take (33 * suc many) X) ≡ take (33 * many) (drop (off + 33) block) =
    ap (λ (k : ℕ). drop 33 (take k X)) sum ∙ drop-take 33 (33 * many) X ∙ ap (take (33 * many)) (drop-drop 33 off block) in
    (λ i. head i ∷ parts_of (rest i) many)
    ∙ ap (λ l. take 33 (drop (keys_end size + 33 * first) block) ∷ l) (parts_are size (off + 33) block keys (first + 1) many (omega arith))

pub values_are : (a : Area) (level : ℕ) (from to keys block : List ℕ) → is_node a.size level keys ≡ true
    → parts_of (further_bytes (scan_further a level from to keys) block) (many_in level from to keys)
    ≡ map (λ c. c.1) (cells_by keys (λ i. bytes_in (value_mark a.size i) block) (first_in level from keys) (many_in level from to keys))
values_are a level from to keys block node =
    let many = many_in level from to keys in
    let first = first_in level from keys in
    elim (cases_eq many 0) [
      | inl none ↦
          ap (parts_of (further_bytes (scan_further a level from to keys) block)) none ∙ sym (ap (λ (k : ℕ). map (λ (c : Cell). c.1) (cells_by keys (λ i. bytes_in (value_mark a.size i) block) first k)) none)
      | inr other ↦
          (let test : (many == 0) ≡ false = ne_eqb many 0 other in
          (λ i. parts_of (further_bytes (cond (node i && not (test i)) (Some (record { off = keys_end a.size + 33 * first; len = 33 * many })) None) block) many)
          ∙ parts_are a.size (keys_end a.size + 33 * first) block keys first many refl)
    ]

-- the pairs of a leaf's cells
pub pairs_are : (keys : List ℕ) (value : ℕ → List ℕ) (first many : ℕ) → pairs_with keys first (map (λ c. c.1) (cells_by keys value first many)) ≡ leaf_pairs (cells_by keys value first many)
pairs_are keys value first zero = refl
pairs_are keys value first (suc many) = ap (λ l. (key_at keys first, text_of (value first)) ∷ l) (pairs_are keys value (first + 1) many)

pub parts_hold : (p : List ℕ → Bool) (keys : List ℕ) (value : ℕ → List ℕ) (first many : ℕ) → ((i : ℕ) → first ≤ i → i < first + many → p (value i) ≡ true) → list_all p (map (λ c. c.1) (cells_by keys value first many)) ≡ true
parts_hold p keys value first zero each = refl
parts_hold p keys value first (suc many) each = and_from _ _ (each first (omega arith) (omega arith)) (parts_hold p keys value (first + 1) many (λ i low high. each i (omega arith) (omega arith)))

-- A scan finds the first pairs of its range.
pub take_zero : {X : Type 0} (xs : List X) → ◌≡◌ {A = List X} (take 0 xs) []
take_zero xs = grind arith

take_join : {X : Type 0} (n : ℕ) (xs ys : List X) → take n xs ++ take (n - length (take n xs)) ys ≡ take n (xs ++ ys)
take_join zero [] ys = refl
take_join zero (x ∷ xs) ys = take_zero ys
take_join (suc n) [] ys = let e : suc n - 0 ≡ suc n = omega arith in ap (λ (k : ℕ). take k ys) e
take_join (suc n) (x ∷ xs) ys =
    let e : suc n - suc (length (take n xs)) ≡ n - length (take n xs) = omega arith in
    ap (λ (k : ℕ). x ∷ (take n xs ++ take k ys)) e ∙ ap (λ l. x ∷ l) (take_join n xs ys)

then_reads : (r : Scanned) (next : List (List ℕ × List ℕ) → Program Scanned) (A : Array) → ((pairs : List (List ℕ × List ℕ)) → AreReads (accesses_of (next pairs) A)) → AreReads (accesses_of (and_then r next) A)
then_reads (Ok pairs) next A each = each pairs
then_reads (Err e) next A each = tt

children_read : (scan : ℕ → ℕ → Program Scanned) (A : Array) → ((child most : ℕ) → AreReads (accesses_of (scan child most) A)) → (children : List ℕ) (most : ℕ) (found : List (List ℕ × List ℕ))
    → AreReads (accesses_of (scan_children scan children most found) A)
children_read scan A each [] most found = tt
children_read scan A each (child ∷ children) zero found = tt
children_read scan A each (child ∷ children) (suc most) found =
    let p = scan child (suc most) in
    let next : List (List ℕ × List ℕ) → Program Scanned = λ pairs. scan_children scan children (suc most - length pairs) (found ++ pairs) in
    let f : Scanned → Program Scanned = λ r. and_then r next in
    let here = each child (suc most) in
    subst AreReads (sym (accesses_then p f A))
    (reads_append (accesses_of p A) (accesses_of (f (answer_of p A)) (own A (accesses_of p A))) here
    (subst (λ (B : Array). AreReads (accesses_of (f (answer_of p A)) B)) (sym (own_reads A (accesses_of p A) here))
    (then_reads (answer_of p A) next A (λ pairs. children_read scan A each children (suc most - length pairs) (found ++ pairs)))))

pub scan_reads : (a : Area) (from to : List ℕ) (level block most : ℕ) (A : Array) → AreReads (accesses_of (scan_from a from to level block most) A)
scan_reads a from to zero block most A = grind (arith, cond_reads) steps 100000
scan_reads a from to (suc level) block most A =
    let B = block_at A (a.start + block) in
    let K = bytes_in (keys_mark a.size) B in
    let parts = parts_of (further_bytes (scan_further a (suc level) from to K) B) (many_in (suc level) from to K) in
    let scan = scan_from a from to level in (
      refl,
      cond_reads (is_node a.size (suc level) K && list_all (is_child a.blocks) parts) (scan_children scan (map child_of parts) most []) (Done (Err (Broken (a.start + block)))) A
          (children_read scan A (λ child m. scan_reads a from to level child m A) (map child_of parts) most []) tt,
    )

-- a child whose scan finds the first of its pairs
abbrev Finds : (ℕ → ℕ → Program Scanned) → Array → (ℕ → List (List ℕ × List ℕ)) → Cell → Type 0
Finds scan A g c = (most : ℕ) → answer_of (scan (child_of c.1) most) A ≡ Ok (take most (g (child_of c.1)))

children_find : (scan : ℕ → ℕ → Program Scanned) (A : Array) (g : ℕ → List (List ℕ × List ℕ)) → ((child most : ℕ) → AreReads (accesses_of (scan child most) A)) → (cs : List Cell) (most : ℕ) (found : List (List ℕ × List ℕ)) → AllByRecursion (Finds scan A g) cs
    → answer_of (scan_children scan (map child_of (map (λ c. c.1) cs)) most found) A ≡ Ok (found ++ take most (flat_map (λ c. g (child_of c.1)) cs))
children_find scan A g reads [] most found all = ap (λ l. Ok l) (sym (ap (λ l. found ++ l) (take-nil most) ∙ append-nil found))
children_find scan A g reads (c ∷ cs) zero found all = ap (λ l. Ok l) (sym (ap (λ l. found ++ l) (take_zero (flat_map (λ c. g (child_of c.1)) (c ∷ cs))) ∙ append-nil found))
children_find scan A g reads (c ∷ cs) (suc most) found all =
    let p = scan (child_of c.1) (suc most) in
    let f : Scanned → Program Scanned = λ r. and_then r (λ pairs. scan_children scan (map child_of (map (λ (c : Cell). c.1) cs)) (suc most - length pairs) (found ++ pairs)) in
    let pairs = take (suc most) (g (child_of c.1)) in
    let rest = flat_map (λ (c : Cell). g (child_of c.1)) cs in
    answer_then p f A
    ∙ ap (λ (B : Array). answer_of (f (answer_of p A)) B) (own_reads A (accesses_of p A) (reads (child_of c.1) (suc most)))
    ∙ ap (λ (r : Scanned). answer_of (f r) A) (all.0 (suc most))
    ∙ children_find scan A g reads cs (suc most - length pairs) (found ++ pairs) all.1
    ∙ ap (λ l. Ok l) (append_assoc found pairs (take (suc most - length pairs) rest) ∙ ap (λ l. found ++ l) (take_join (suc most) (g (child_of c.1)) rest))

-- THE CHILDREN THAT ARE VISITED
each_after : {X : Type 0} (P : List ℕ → Option (List ℕ) → X → Type 0) (key last low : List ℕ) (high : Option (List ℕ)) (c : X) (cs : List (List ℕ × X)) → AreAfter P last low high c cs
    → AllByRecursion (λ (x : List ℕ × X). (lo : List ℕ) × (hi : Option (List ℕ)) × P lo hi x.1) ((key, c) ∷ cs)
each_after P key last low high c [] is = ((low, high, is), tt)
each_after P key last low high c (d ∷ ds) is = ((low, Some d.0, is.2), each_after P d.0 d.0 d.0 high d.1 ds is.3)

-- a cell's part in an inner node, as the tree below its block
abbrev Below : (ℕ → List Cell) → ℕ → List ℕ → Option (List ℕ) → List ℕ → Type 0
Below cells level low high part = IsOrdered level low high (tree_at cells level (child_of part))

after_kids : (cells : ℕ → List Cell) (level : ℕ) (last low : List ℕ) (high : Option (List ℕ)) (c : List ℕ) (cs : List Cell) → AreAfter (IsOrdered level) last low high (tree_at cells level (child_of c)) (kids cells level cs)
    → AreAfter (Below cells level) last low high c cs
after_kids cells level last low high c [] is = is
after_kids cells level last low high c (d ∷ ds) is = (is.0, is.1, is.2, after_kids cells level d.0 d.0 high d.1 ds is.3)

flat_kids : (cells : ℕ → List Cell) (level : ℕ) (cs : List Cell) → flat_map (λ c. pairs_in level c.1) (kids cells level cs) ≡ flat_map (λ c. pairs_in level (tree_at cells level (child_of c.1))) cs
flat_kids cells level [] = refl
flat_kids cells level (c ∷ cs) = ap (λ l. pairs_in level (tree_at cells level (child_of c.1)) ++ l) (flat_kids cells level cs)

all_zip : {X : Type 0} (P Q R : X → Type 0) (xs : List X) → ((x : X) → P x → Q x → R x) → AllByRecursion P xs → AllByRecursion Q xs → AllByRecursion R xs
all_zip P Q R [] h p q = tt
all_zip P Q R (x ∷ xs) h p q = (h x p.0 q.0, all_zip P Q R xs h p.1 q.1)

all_dropped : {X : Type 0} (P : X → Type 0) (n : ℕ) (xs : List X) → AllByRecursion P xs → AllByRecursion P (drop n xs)
all_dropped P zero [] all = tt
all_dropped P zero (x ∷ xs) all = all
all_dropped P (suc n) [] all = tt
all_dropped P (suc n) (x ∷ xs) all = all_dropped P n xs all.1

record AreVisited (cells : ℕ → List Cell) (level : ℕ) (from to keys : List ℕ) (value : ℕ → List ℕ) (n first many : ℕ) : Type 0 where
  row : take many (drop first (cells_by keys value 0 n)) ≡ cells_by keys value first many
  fits : (i : ℕ) → i < first + many → first ≤ i → i < n
  pairs : flat_map (λ c. within from to (pairs_in level (tree_at cells level (child_of c.1)))) (cells_by keys value first many) ≡ within from to (flat_map (λ c. pairs_in level c.1) (kids cells level (cells_by keys value 0 n)))
  ranges : AllByRecursion (λ (c : Cell). (lo : List ℕ) × (hi : Option (List ℕ)) × Below cells level lo hi c.1) (cells_by keys value 0 n)

visited_are : (cells : ℕ → List Cell) (level : ℕ) (from to low : List ℕ) (high : Option (List ℕ)) (keys : List ℕ) (value : ℕ → List ℕ) (n : ℕ) → AreChildren (IsOrdered level) low high (kids cells level (cells_by keys value 0 n))
    → AreVisited cells level from to keys value n (place_from from keys 0 1 (n - 1)) (1 + below_from to keys 1 (n - 1) - place_from from keys 0 1 (n - 1))
visited_are cells level from to low high keys value zero order = absurd order
visited_are cells level from to low high keys value (suc m) order =
    let less : m ≡ suc m - 1 = omega arith in
    subst (λ (k : ℕ). AreVisited cells level from to keys value (suc m) (place_from from keys 0 1 k) (1 + below_from to keys 1 k - place_from from keys 0 1 k)) less
    (let c : Cell = (key_at keys 0, value 0) in
    let cs : List Cell = cells_by keys value 1 m in
    let u = upto_list from cs in
    let b = below_list to cs in
    let place : place_from from keys 0 1 m ≡ u = place_same from keys value 0 1 m refl ∙ (let e : 0 + u ≡ u = omega arith in e) in
    let below : below_from to keys 1 m ≡ b = below_same to keys value 1 m in
    let few_u : u ≤ m = upto_few from keys value 1 m in
    let few_b : b ≤ m = subst (λ (k : ℕ). k ≤ m) below (row_less to keys 1 m) in
    let after = after_kids cells level [] low high c.1 cs order.1 in
    let f : List ℕ → List (List ℕ × List ℕ) = λ part. pairs_in level (tree_at cells level (child_of part)) in
    let cut : take (1 + b - u) (drop u (c ∷ cs)) ≡ cells_by keys value u (1 + b - u) = cells_cut keys value u (1 + b - u) (suc m) (omega arith) in
    subst (λ (k : ℕ). AreVisited cells level from to keys value (suc m) k (1 + below_from to keys 1 m - k)) (sym place)
    (subst (λ (k : ℕ). AreVisited cells level from to keys value (suc m) u (1 + k - u)) (sym below) (record {
      row = cut;
      fits = λ i high low. omega arith;
      pairs = ap (flat_map (λ (c : Cell). within from to (f c.1))) (sym cut)
          ∙ visited from to (Below cells level) f (λ lo hi part is. ordered_in level lo hi (tree_at cells level (child_of part)) is) [] low high c cs after
          ∙ ap (within from to) (sym (flat_kids cells level (c ∷ cs)));
      ranges = each_after (Below cells level) (key_at keys 0) [] low high c.1 cs after;
    })))

-- WHAT A SCAN FINDS BELOW A NODE
pub scan_finds : (a : Area) (from to : List ℕ) (A : Array) (level block most : ℕ) (low : List ℕ) (high : Option (List ℕ)) → AreNodes a A level block → IsOrdered level low high (tree_at (cells_in a A) level block)
    → answer_of (scan_from a from to level block most) A ≡ Ok (take most (within from to (pairs_in level (tree_at (cells_in a A) level block))))
scan_finds a from to A zero block most low high nodes order =
    let B = block_at A (a.start + block) in
    let K = bytes_in (keys_mark a.size) B in
    let V : ℕ → List ℕ = λ i. bytes_in (value_mark a.size i) B in
    let n = count_of K in
    let first = first_in zero from K in
    let many = many_in zero from to K in
    let few_f = row_less from K 0 n in
    let few_t = row_less to K 0 n in
    let parts = parts_of (further_bytes (scan_further a 0 from to K) B) many in
    let vals = values_are a 0 from to K B nodes.keys in
    let good : (is_node a.size 0 K && list_all (is_part 32) parts) ≡ true =
    and_from _ _ nodes.keys (ap (list_all (is_part 32)) vals ∙ parts_hold (is_part 32) K V first many (λ i low high. nodes.used i (omega arith))) in
    let rows : within from to (leaf_pairs (cells_by K V 0 n)) ≡ leaf_pairs (cells_by K V first many) =
    row_within from to low high (cells_by K V 0 n) order
    ∙ (λ i. leaf_pairs (take (sym (below_same to K V 0 n) i - sym (below_same from K V 0 n) i) (drop (sym (below_same from K V 0 n) i) (cells_by K V 0 n))))
    ∙ ap leaf_pairs (cells_cut K V first many n (omega arith)) in
    grind (arith, pairs_are)
scan_finds a from to A (suc level) block most low high nodes order =
    let B = block_at A (a.start + block) in
    let K = bytes_in (keys_mark a.size) B in
    let V : ℕ → List ℕ = λ i. bytes_in (value_mark a.size i) B in
    let cells = cells_in a A in
    let n = count_of K in
    let first = first_in (suc level) from K in
    let many = many_in (suc level) from to K in
    let parts = parts_of (further_bytes (scan_further a (suc level) from to K) B) many in
    let vals = values_are a (suc level) from to K B nodes.0.keys in
    let are = visited_are cells level from to low high K V n order in
    let good : (is_node a.size (suc level) K && list_all (is_child a.blocks) parts) ≡ true =
    and_from _ _ nodes.0.keys (ap (list_all (is_child a.blocks)) vals ∙ parts_hold (is_child a.blocks) K V first many (λ i low high. nodes.0.used i (are.fits i high low))) in
    let g : ℕ → List (List ℕ × List ℕ) = λ child. within from to (pairs_in level (tree_at cells level child)) in
    let scan = scan_from a from to level in
    let each : AllByRecursion (Finds scan A g) (cells_by K V 0 n) =
    all_zip (λ (c : Cell). AreNodes a A level (child_of c.1)) (λ (c : Cell). (lo : List ℕ) × (hi : Option (List ℕ)) × Below cells level lo hi c.1) (Finds scan A g) (cells_by K V 0 n)
    (λ c below range m. scan_finds a from to A level (child_of c.1) m range.0 range.1 below range.2) nodes.1 are.ranges in
    let here : AllByRecursion (Finds scan A g) (cells_by K V first many) =
    subst (AllByRecursion (Finds scan A g)) are.row (all_taken (Finds scan A g) many (drop first (cells_by K V 0 n)) (all_dropped (Finds scan A g) first (cells_by K V 0 n) each)) in
    ap (λ (t : Bool). answer_of (cond t (scan_children scan (map child_of parts) most []) (Done (Err (Broken (a.start + block))))) A) good
    ∙ ap (λ l. answer_of (scan_children scan (map child_of l) most []) A) vals
    ∙ children_find scan A g (λ child m. scan_reads a from to level child m A) (cells_by K V first many) most [] here
    ∙ ap (λ l. Ok (take most l)) are.pairs
