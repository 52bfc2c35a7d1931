-- The bytes of a node that gets a cell, cell by cell.
use Rattle.iso_tree.proofs.{Words.{◌≡◌, ◌∙◌, sym, refl, ap, ℕ, zero, suc, ◌+◌, ◌-◌, ◌*◌, ◌/◌, ◌%◌, ◌<◌, ◌≤◌, ◌==◌, true, false, cond, List, [], ◌∷◌, ◌++◌, length, map, take, drop, replicate, arith, inl, inr, eq-eqb, ne_eqb, nat_lt, range_with_len, flat_map, cases_lt, cases_eq, nat_tests, append_assoc, length-take, length-drop, cell_count, keys_end, key_part, value_mark, key_at, are_key_parts, laid_at, bytes_in, before, Cell, FitCells, IsBlock, count_of, cells_by, used_cells, node_bytes, upto_from, key_in_row, part_in_row, row_from, cells_from, put_after, placed, spelled, row, Growth, block_size_is, length-part}, Building.laid_mid, Bytes.length-key_part, Fits.key_short}

-- STEPS OF THE LOOP OVER KEYS
upto_step : (key keys : List ℕ) (i n : ℕ) → i < n → upto_from key keys i (n - i) ≡ cond (before key (key_at keys i)) 0 (suc (upto_from key keys (i + 1) (n - (i + 1))))
upto_step key keys i n below = let e : n - i ≡ suc (n - (i + 1)) = omega arith in rw e refl

pub upto_goes_on : (key keys : List ℕ) (i n c total : ℕ) → i < n → c + upto_from key keys i (n - i) ≡ total → before key (key_at keys i) ≡ false → c + 1 + upto_from key keys (i + 1) (n - (i + 1)) ≡ total
upto_goes_on key keys i n c total below so not = grind (arith, upto_step) steps 100000

pub upto_ends : (key keys : List ℕ) (i n c total : ℕ) → i < n → c + upto_from key keys i (n - i) ≡ total → before key (key_at keys i) ≡ true → c ≡ total
upto_ends key keys i n c total below so less = grind (arith, upto_step) steps 100000

-- ROWS
pub length-range : (f : ℕ → Cell) (from n : ℕ) → length (map f (range_with_len from n)) ≡ n
length-range f from zero = refl
length-range f from (suc n) = ap suc (length-range f (from + 1) n)

module _ (size : ℕ) (node : List ℕ) (place : ℕ) (new : Cell) where
  abbrev K : List ℕ
  K = take (keys_end size) node

  abbrev V : ℕ → List ℕ
  V i = bytes_in (value_mark size i) node

  abbrev pub at_row : ℕ → Cell
  at_row i = (key_in_row K place new.0 i, part_in_row size node place new.1 i)

  pub length-row : (from n : ℕ) → length (row_from size node place new from n) ≡ n
  length-row from n = length-range at_row from n

  -- a cell of the row fits its place
  pub key_fits : are_key_parts size K ≡ true → length new.0 ≤ 28 → place ≤ cell_count size → (cell : ℕ) → cell ≤ cell_count size → length (key_in_row K place new.0 cell) ≤ 28
  key_fits parts short inside cell most = grind (arith, key_short) steps 100000

  part_fits : IsBlock size → length node ≡ size → length new.1 ≡ 33 → place ≤ cell_count size → (cell : ℕ) → cell ≤ cell_count size → length (part_in_row size node place new.1 cell) ≡ 33
  part_fits sized long whole inside cell most =
      elim (cases_lt cell place) [
        | inl low ↦
            (let t : nat_lt cell place ≡ true = grind (arith, nat_tests) in
            omega (arith, ap length (ap (λ b. cond b (V cell) (cond (cell == place) new.1 (V (cell - 1)))) t), length-take 33 (drop (keys_end size + 33 * cell) node), length-drop (keys_end size + 33 * cell) node))
        | inr high ↦
            (let t : nat_lt cell place ≡ false = grind (arith, nat_tests) in
            let rest : part_in_row size node place new.1 cell ≡ cond (cell == place) new.1 (V (cell - 1)) = ap (λ b. cond b (V cell) (cond (cell == place) new.1 (V (cell - 1)))) t in
            elim (cases_eq cell place) [
              | inl here ↦
                  (let e : (cell == place) ≡ true = eq-eqb cell place here in
                  omega (arith, ap length (rest ∙ ap (λ b. cond b new.1 (V (cell - 1))) e)))
              | inr other ↦
                  (let e : (cell == place) ≡ false = ne_eqb cell place other in
                  omega (arith, ap length (rest ∙ ap (λ b. cond b new.1 (V (cell - 1))) e), length-take 33 (drop (keys_end size + 33 * (cell - 1)) node), length-drop (keys_end size + 33 * (cell - 1)) node))
            ])
      ]

  pub row_fits : are_key_parts size K ≡ true → length new.0 ≤ 28 → IsBlock size → length node ≡ size → length new.1 ≡ 33 → place ≤ cell_count size → (from n : ℕ) → from + n ≤ cell_count size + 1 → FitCells (row_from size node place new from n)
  row_fits parts short sized long whole inside from zero most = tt
  row_fits parts short sized long whole inside from (suc n) most =
      ((key_fits parts short inside from (omega arith), part_fits sized long whole inside from (omega arith)), row_fits parts short sized long whole inside (from + 1) n (omega arith))

-- the cells of a node that gets one fit their places
pub growth_fits : (g : Growth) (from n : ℕ) → from + n ≤ cell_count g.area.size + 1 → FitCells (row g from n)
growth_fits g from n most =
    row_fits g.area.size g.node.now g.place (spelled g.entry.now) g.parts g.entry.now.short (block_size_is g.area.size g.kind.block_size) g.long (length-part 32 g.entry.now.value.now g.entry.now.fits) g.inside from n most

-- the row is the node's cells with the new one in its place
before_place : (size : ℕ) (node : List ℕ) (place : ℕ) (new : Cell) (i n : ℕ) → i + n ≤ place → row_from size node place new i n ≡ cells_by (take (keys_end size) node) (λ j. bytes_in (value_mark size j) node) i n
before_place size node place new i zero most = refl
before_place size node place new i (suc n) most =
    let t : nat_lt i place ≡ true = grind (arith, nat_tests) in
    (λ j. (
      cond (t j) (key_at (take (keys_end size) node) i) (cond (i == place) new.0 (key_at (take (keys_end size) node) (i - 1))),
      cond (t j) (bytes_in (value_mark size i) node) (cond (i == place) new.1 (bytes_in (value_mark size (i - 1)) node)),
    ) ∷ before_place size node place new (i + 1) n (omega arith) j)

after_place : (size : ℕ) (node : List ℕ) (place : ℕ) (new : Cell) (i n : ℕ) → place < i → row_from size node place new i n ≡ cells_by (take (keys_end size) node) (λ j. bytes_in (value_mark size j) node) (i - 1) n
after_place size node place new i zero past = refl
after_place size node place new i (suc n) past =
    let t : nat_lt i place ≡ false = grind (arith, nat_tests) in
    let e : (i == place) ≡ false = ne_eqb i place (λ s. absurd (omega arith)) in
    let g : i + 1 - 1 ≡ i - 1 + 1 = omega arith in
    (λ j. (
      cond (t j) (key_at (take (keys_end size) node) i) (cond (e j) new.0 (key_at (take (keys_end size) node) (i - 1))),
      cond (t j) (bytes_in (value_mark size i) node) (cond (e j) new.1 (bytes_in (value_mark size (i - 1)) node)),
    )
    ∷ (after_place size node place new (i + 1) n (omega arith) ∙ ap (λ (k : ℕ). cells_by (take (keys_end size) node) (λ j. bytes_in (value_mark size j) node) k n) g) j)

range_parts : (f : ℕ → Cell) (i m n : ℕ) → map f (range_with_len i (m + n)) ≡ map f (range_with_len i m) ++ map f (range_with_len (i + m) n)
range_parts f i zero n = let e : 0 + n ≡ n = omega arith in let g : i + 0 ≡ i = omega arith in (λ j. map f (range_with_len (sym g j) (e j)))
range_parts f i (suc m) n =
    let e : suc m + n ≡ suc (m + n) = omega arith in
    let g : i + 1 + m ≡ i + suc m = omega arith in
    ap (λ (k : ℕ). map f (range_with_len i k)) e ∙ ap (λ l. f i ∷ l) (range_parts f (i + 1) m n ∙ ap (λ (k : ℕ). map f (range_with_len (i + 1) m) ++ map f (range_with_len k n)) g)

pub row_split : (size : ℕ) (node : List ℕ) (place : ℕ) (new : Cell) (i m n : ℕ) → row_from size node place new i (m + n) ≡ row_from size node place new i m ++ row_from size node place new (i + m) n
row_split size node place new i m n = range_parts (at_row size node place new) i m n

at_place : (size : ℕ) (node : List ℕ) (place : ℕ) (new : Cell) → at_row size node place new place ≡ new
at_place size node place new = grind arith steps 100000

-- the cells of a row that stand after the new one, before it, or about it
pub row_behind : (size : ℕ) (node : List ℕ) (place : ℕ) (new : Cell) (from n : ℕ) → place < from → cells_from size node (from - 1) n ≡ row_from size node place new from n
row_behind size node place new from n past = sym (after_place size node place new from n past)

pub row_ahead : (size : ℕ) (node : List ℕ) (place : ℕ) (new : Cell) (from n : ℕ) → from + n ≤ place → cells_from size node from n ≡ row_from size node place new from n
row_ahead size node place new from n most = sym (before_place size node place new from n most)

pub row_about : (size : ℕ) (node : List ℕ) (place : ℕ) (new : Cell) (from n : ℕ) → from ≤ place → place < from + n
    → (cells_from size node from (place - from) ++ new ∷ []) ++ cells_from size node place (n - (place - from + 1)) ≡ row_from size node place new from n
row_about size node place new from n low high =
    let before = place - from in
    let rest = n - (place - from + 1) in
    let e : before + suc rest ≡ n = omega arith in
    let here : from + before ≡ place = omega arith in
    let back : place + 1 - 1 ≡ place = omega arith in
    let front = before_place size node place new from before (omega arith) in
    let behind = after_place size node place new (place + 1) rest (omega arith) ∙ ap (λ (k : ℕ). cells_from size node k rest) back in
    append_assoc (cells_from size node from before) (new ∷ []) (cells_from size node place rest)
    ∙ (λ i. sym front i ++ sym (at_place size node place new) i ∷ sym behind i)
    ∙ ap (λ (k : ℕ). row_from size node place new from before ++ row_from size node place new k (suc rest)) (sym here)
    ∙ sym (row_split size node place new from before (suc rest))
    ∙ ap (row_from size node place new from) e

-- a cell put in after those whose keys are not above
put_cells : (key keys : List ℕ) (value : ℕ → List ℕ) (new : Cell) (i m : ℕ)
    → put_after key new (cells_by keys value i m) ≡ cells_by keys value i (upto_from key keys i m) ++ new ∷ cells_by keys value (i + upto_from key keys i m) (m - upto_from key keys i m)
put_cells key keys value new i zero = let e : 0 - 0 ≡ 0 = omega arith in ap (λ (k : ℕ). new ∷ cells_by keys value (i + 0) k) (sym e)
put_cells key keys value new i (suc m) =
    elim (before key (key_at keys i)) as (λ b. cond b (new ∷ (key_at keys i, value i) ∷ cells_by keys value (i + 1) m) ((key_at keys i, value i) ∷ put_after key new (cells_by keys value (i + 1) m))
    ≡ cells_by keys value i (cond b 0 (suc (upto_from key keys (i + 1) m))) ++ new ∷ cells_by keys value (i + cond b 0 (suc (upto_from key keys (i + 1) m))) (suc m - cond b 0 (suc (upto_from key keys (i + 1) m)))) [
      | true ↦ (let e : i + 0 ≡ i = omega arith in let g : suc m - 0 ≡ suc m = omega arith in λ j. new ∷ cells_by keys value (sym e j) (sym g j))
      | false ↦
          (let u = upto_from key keys (i + 1) m in
          let e : i + 1 + u ≡ i + suc u = omega arith in
          let g : m - u ≡ suc m - suc u = omega arith in
          ap (λ l. (key_at keys i, value i) ∷ l) (put_cells key keys value new (i + 1) m ∙ (λ j. cells_by keys value (i + 1) u ++ new ∷ cells_by keys value (e j) (g j))))
    ]

upto_most : (key keys : List ℕ) (i n : ℕ) → upto_from key keys i n ≤ n
upto_most key keys i zero = omega arith
upto_most key keys i (suc n) = let rest = upto_most key keys (i + 1) n in elim (before key (key_at keys i)) as (λ b. cond b 0 (suc (upto_from key keys (i + 1) n)) ≤ suc n) [ true ↦ omega arith | false ↦ omega arith ]

-- the whole row, where `start` cells stay before the search
row_whole : (size : ℕ) (node key : List ℕ) (new : Cell) (start m : ℕ) → row_from size node (start + upto_from key (take (keys_end size) node) start m) new start (m + 1) ≡ put_after key new (cells_by (take (keys_end size) node) (λ j. bytes_in (value_mark size j) node) start m)
row_whole size node key new start m =
    let K = take (keys_end size) node in
    let V : ℕ → List ℕ = λ j. bytes_in (value_mark size j) node in
    let u = upto_from key K start m in
    let most = upto_most key K start m in
    let e : m + 1 ≡ u + suc (m - u) = omega arith in
    let back : start + u + 1 - 1 ≡ start + u = omega arith in
    grind (arith, row_split, before_place, at_place, after_place, put_cells)

place_row : (size : ℕ) (node key : List ℕ) (level : ℕ) (new : Cell) (count : ℕ) → (level ≡ 0 → ⊥) → 1 ≤ count
    → row_from size node (1 + upto_from key (take (keys_end size) node) 1 (count - 1)) new 0 (count + 1) ≡ placed 1 key new (cells_by (take (keys_end size) node) (λ j. bytes_in (value_mark size j) node) 0 count)
place_row size node key level new zero inner some = absurd (omega arith)
place_row size node key level new (suc m) inner some =
    let K = take (keys_end size) node in
    let e : suc m - 1 ≡ m = omega arith in
    let g : suc m + 1 ≡ 1 + (m + 1) = omega arith in
    let u = upto_from key K 1 m in
    let z : 0 + 1 ≡ 1 = omega arith in
    grind (arith, row_split, before_place, row_whole)

same_placed : (level : ℕ) (key : List ℕ) (new : Cell) (cs : List Cell) → placed 1 key new cs ≡ placed (suc level) key new cs
same_placed level key new cs = grind arith

-- The row of a node is its cells with the new one.
pub row_is : (size : ℕ) (node key : List ℕ) (level : ℕ) (new : Cell) → (level ≡ 0 → ⊥) → 1 ≤ count_of (take (keys_end size) node)
    → row_from size node (1 + upto_from key (take (keys_end size) node) 1 (count_of (take (keys_end size) node) - 1)) new 0 (count_of (take (keys_end size) node) + 1) ≡ placed level key new (used_cells size node)
row_is size node key zero new inner some = absurd (inner refl)
row_is size node key (suc level) new inner some = place_row size node key (suc level) new (count_of (take (keys_end size) node)) inner some ∙ same_placed level key new (used_cells size node)

pub leaf_row_is : (size : ℕ) (node key : List ℕ) (new : Cell) → row_from size node (upto_from key (take (keys_end size) node) 0 (count_of (take (keys_end size) node))) new 0 (count_of (take (keys_end size) node) + 1) ≡ put_after key new (used_cells size node)
leaf_row_is size node key new =
    let K = take (keys_end size) node in
    let z : 0 + upto_from key K 0 (count_of K) ≡ upto_from key K 0 (count_of K) = omega arith in
    ap (λ (p : ℕ). row_from size node p new 0 (count_of K + 1)) (sym z) ∙ row_whole size node key new 0 (count_of K)

-- a first key that was made empty
pub first_emptied : (size level : ℕ) (key part : List ℕ) (cs : List Cell) → length key ≤ 28 → laid_at 64 (replicate 31 0) (node_bytes size level ((key, part) ∷ cs)) ≡ node_bytes size level (([], part) ∷ cs)
first_emptied size level key part cs short =
    let n = suc (length cs) in
    let head : List ℕ = 1 ∷ level ∷ n / 256 ∷ n % 256 ∷ replicate 60 0 in
    let Ks = flat_map (λ (c : Cell). key_part c.0) cs in
    let Zk : List ℕ = replicate (31 * (cell_count size - n)) 0 in
    let Vs = (part ++ flat_map (λ (c : Cell). c.1) cs) ++ replicate (33 * (cell_count size - n)) 0 in
    let shape : (k : List ℕ) → (head ++ ((k ++ Ks) ++ Zk)) ++ Vs ≡ head ++ (k ++ ((Ks ++ Zk) ++ Vs)) =
    λ k. append_assoc head ((k ++ Ks) ++ Zk) Vs ∙ ap (λ l. head ++ l) (ap (λ l. l ++ Vs) (append_assoc k Ks Zk) ∙ append_assoc k (Ks ++ Zk) Vs) in
    ap (laid_at 64 (replicate 31 0)) (shape (key_part key))
    ∙ laid_mid head (replicate 31 0) (key_part key) ((Ks ++ Zk) ++ Vs) 64 refl (length-key_part key short)
    ∙ sym (shape (key_part []))
