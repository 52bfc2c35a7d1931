-- The bytes of a node spell its cells.
use Rattle.iso_tree.proofs.{Words.{◌≡◌, ◌∙◌, sym, refl, ap, subst, ℕ, zero, suc, ◌+◌, ◌-◌, ◌*◌, ◌/◌, ◌%◌, ◌<◌, ◌≤◌, true, List, [], ◌∷◌, ◌++◌, take, drop, length, replicate, arith, inl, inr, flat_map, list_all, cases_eq, append_assoc, take_at, drop_at, length-append, length-replicate, drop-drop, drop-replicate, Area, Array, put, block_at, bytes_in, store_access, cell_count, keys_end, keys_mark, value_mark, text_of, key_at, key_part, is_zero, FitCells, count_of, Cell, node_bytes, cells_by, used_cells, cells_in, written_block, other_block, length-part, laid_whole}, Shapes.write_cells, Splits.{write_here, write_other}}

pub length-key_part : (key : List ℕ) → length key ≤ 28 → length (key_part key) ≡ 31
length-key_part key short = length-part 30 key (omega arith)

pub key_text : (key : List ℕ) → text_of (key_part key) ≡ key
key_text key = take_at key (replicate (30 - length key) 0) (length key) refl

pub length-keys : (cs : List Cell) → FitCells cs → length (flat_map (λ c. key_part c.0) cs) ≡ 31 * length cs
length-keys [] fit = refl
length-keys (c ∷ cs) fit =
    let rest = length-keys cs fit.1 in
    omega (arith, length-append (key_part c.0) (flat_map (λ c. key_part c.0) cs), length-key_part c.0 fit.0.0)

pub length-values : (cs : List Cell) → FitCells cs → length (flat_map (λ c. c.1) cs) ≡ 33 * length cs
length-values [] fit = refl
length-values (c ∷ cs) fit =
    let rest = length-values cs fit.1 in
    omega (arith, length-append c.1 (flat_map (λ c. c.1) cs), fit.0.1)

-- the rest of a row after its first part
pub after_part : (at width : ℕ) (xs part rest tail : List ℕ) → length part ≡ width → drop at xs ≡ (part ++ rest) ++ tail → drop (at + width) xs ≡ rest ++ tail
after_part at width xs part rest tail is e =
    sym (drop-drop width at xs) ∙ ap (drop width) (e ∙ append_assoc part rest tail) ∙ drop_at part (rest ++ tail) width is

pub first_part : (at width : ℕ) (xs part rest tail : List ℕ) → length part ≡ width → drop at xs ≡ (part ++ rest) ++ tail → take width (drop at xs) ≡ part
first_part at width xs part rest tail is e = ap (take width) (e ∙ append_assoc part rest tail) ∙ take_at part (rest ++ tail) width is

cells_back : (size : ℕ) (K B : List ℕ) (i : ℕ) (cs : List Cell) (restK restV : List ℕ) → FitCells cs
    → drop (64 + 31 * i) K ≡ flat_map (λ c. key_part c.0) cs ++ restK → drop (keys_end size + 33 * i) B ≡ flat_map (λ c. c.1) cs ++ restV
    → cells_by K (λ i. bytes_in (value_mark size i) B) i (length cs) ≡ cs
cells_back size K B i [] restK restV fit k v = refl
cells_back size K B i (c ∷ cs) restK restV fit k v =
    let long = length-key_part c.0 fit.0.0 in
    let nextK : 64 + 31 * i + 31 ≡ 64 + 31 * (i + 1) = omega arith in
    let nextV : keys_end size + 33 * i + 33 ≡ keys_end size + 33 * (i + 1) = omega arith in
    let key : key_at K i ≡ c.0 = ap text_of (first_part (64 + 31 * i) 31 K (key_part c.0) (flat_map (λ c. key_part c.0) cs) restK long k) ∙ key_text c.0 in
    let rest = cells_back size K B (i + 1) cs restK restV fit.1
    (ap (λ n. drop n K) (sym nextK) ∙ after_part (64 + 31 * i) 31 K (key_part c.0) (flat_map (λ c. key_part c.0) cs) restK long k)
    (ap (λ n. drop n B) (sym nextV) ∙ after_part (keys_end size + 33 * i) 33 B c.1 (flat_map (λ c. c.1) cs) restV fit.0.1 v) in
    λ j. (key j, (first_part (keys_end size + 33 * i) 33 B c.1 (flat_map (λ c. c.1) cs) restV fit.0.1 v) j) ∷ rest j

drop_more : (m n : ℕ) (xs : List ℕ) → drop n (drop m xs) ≡ drop (m + n) xs
drop_more m n xs = drop-drop n m xs

take_zeros : (n m : ℕ) → list_all is_zero (take n (replicate m 0)) ≡ true
take_zeros zero zero = refl
take_zeros zero (suc m) = refl
take_zeros (suc n) zero = refl
take_zeros (suc n) (suc m) = take_zeros n m

zeros_inside : (k n m : ℕ) → list_all is_zero (take n (drop k (replicate m 0))) ≡ true
zeros_inside k n m = ap (λ (l : List ℕ). list_all is_zero (take n l)) (drop-replicate k m 0) ∙ take_zeros n (m - k)

-- the parts of a node's bytes
abbrev pub head_of : (level : ℕ) → List Cell → List ℕ
head_of level cs = 1 ∷ level ∷ length cs / 256 ∷ length cs % 256 ∷ replicate 60 0

abbrev pub keys_of : (size : ℕ) → List Cell → List ℕ
keys_of size cs = flat_map (λ c. key_part c.0) cs ++ replicate (31 * (cell_count size - length cs)) 0

abbrev pub values_of : (size : ℕ) → List Cell → List ℕ
values_of size cs = flat_map (λ c. c.1) cs ++ replicate (33 * (cell_count size - length cs)) 0

module _ (size level : ℕ) (cs : List Cell) (fit : FitCells cs) (few : length cs ≤ cell_count size) where
  pub length-head : length (head_of level cs) ≡ 64
  length-head = refl

  length-keys_of : length (keys_of size cs) ≡ 31 * cell_count size
  length-keys_of = omega (arith, length-append (flat_map (λ c. key_part c.0) cs) (replicate (31 * (cell_count size - length cs)) 0), length-keys cs fit, length-replicate {A = ℕ} (31 * (cell_count size - length cs)) 0)

  length-values_of : length (values_of size cs) ≡ 33 * cell_count size
  length-values_of = omega (arith, length-append (flat_map (λ c. c.1) cs) (replicate (33 * (cell_count size - length cs)) 0), length-values cs fit, length-replicate {A = ℕ} (33 * (cell_count size - length cs)) 0)

  front_long : length (head_of level cs ++ keys_of size cs) ≡ keys_end size
  front_long = omega (arith, length-append (head_of level cs) (keys_of size cs), length-keys_of, length-head)

  pub keys_are : bytes_in (keys_mark size) (node_bytes size level cs) ≡ head_of level cs ++ keys_of size cs
  keys_are = take_at (head_of level cs ++ keys_of size cs) (values_of size cs) (keys_end size) front_long

  pub count_is : count_of (head_of level cs ++ keys_of size cs) ≡ length cs
  count_is = omega arith

  pub cells_are : used_cells size (node_bytes size level cs) ≡ cs
  cells_are =
      let B = node_bytes size level cs in
      let K = head_of level cs ++ keys_of size cs in
      let V : ℕ → List ℕ = λ i. bytes_in (value_mark size i) B in
      let zero_v : keys_end size + 33 * 0 ≡ keys_end size = omega arith in
      let back = cells_back size K B 0 cs (replicate (31 * (cell_count size - length cs)) 0) (replicate (33 * (cell_count size - length cs)) 0) fit
      (drop_at (head_of level cs) (keys_of size cs) 64 length-head)
      (ap (λ n. drop n B) zero_v ∙ drop_at (head_of level cs ++ keys_of size cs) (values_of size cs) (keys_end size) front_long) in
      ap (λ k. cells_by k V 0 (count_of k)) keys_are ∙ ap (cells_by K V 0) count_is ∙ back

  pub length-node_bytes : 64 * (cell_count size + 1) ≡ size → length (node_bytes size level cs) ≡ size
  length-node_bytes fits = omega (arith, length-append (head_of level cs ++ keys_of size cs) (values_of size cs), front_long, length-values_of)

  -- the value parts of cells that are not used
  pub unused_values : (i : ℕ) → length cs ≤ i → i < cell_count size → list_all is_zero (bytes_in (value_mark size i) (node_bytes size level cs)) ≡ true
  unused_values i from to =
      let m = cell_count size - length cs in
      let whole : keys_end size + 33 * i ≡ keys_end size + (33 * length cs + 33 * (i - length cs)) = omega arith in
      let front : drop (keys_end size) (node_bytes size level cs) ≡ values_of size cs = drop_at (head_of level cs ++ keys_of size cs) (values_of size cs) (keys_end size) front_long in
      let back : drop (33 * length cs) (values_of size cs) ≡ replicate (33 * m) 0 = drop_at (flat_map (λ c. c.1) cs) (replicate (33 * m) 0) (33 * length cs) (length-values cs fit) in
      let rest : drop (keys_end size + 33 * i) (node_bytes size level cs) ≡ drop (33 * (i - length cs)) (replicate (33 * m) 0) =
      ap (λ n. drop n (node_bytes size level cs)) whole
      ∙ sym (drop_more (keys_end size) (33 * length cs + 33 * (i - length cs)) (node_bytes size level cs)) ∙ ap (drop (33 * length cs + 33 * (i - length cs))) front
      ∙ sym (drop_more (33 * length cs) (33 * (i - length cs)) (values_of size cs)) ∙ ap (drop (33 * (i - length cs))) back in
      ap (λ l. list_all is_zero (take 33 l)) rest ∙ zeros_inside (33 * (i - length cs)) 33 (33 * m)

pub cell_after : (a : Area) (A : Array) (level block : ℕ) (cs : List Cell) → FitCells cs → length cs ≤ cell_count a.size → 64 * (cell_count a.size + 1) ≡ a.size
    → length (block_at A (a.start + block)) ≡ a.size
    → (k : ℕ) → cells_in a (put A (store_access (a.start + block) [] (node_bytes a.size level cs))) k ≡ write_cells (cells_in a A) (block, level, cs) k
cell_after a A level block cs fit few fits shape k =
    let w = store_access (a.start + block) [] (node_bytes a.size level cs) in
    elim (cases_eq k block) [
      | inl here ↦
          subst (λ (j : ℕ). cells_in a (put A w) j ≡ write_cells (cells_in a A) (block, level, cs) j) (sym here)
          (ap (used_cells a.size) (written_block A w ∙ laid_whole (block_at A (a.start + block)) (node_bytes a.size level cs) (length-node_bytes a.size level cs fit few fits ∙ sym shape))
          ∙ cells_are a.size level cs fit few ∙ sym (write_here (cells_in a A) level block cs))
      | inr other ↦
          ap (used_cells a.size) (other_block A w (a.start + k) (λ e. other (omega arith))) ∙ sym (write_other (cells_in a A) level block cs k other)
    ]

-- the cells of the region's blocks after the write of a node
pub cells_after : (a : Area) (A : Array) (level block : ℕ) (cs : List Cell) → FitCells cs → length cs ≤ cell_count a.size → 64 * (cell_count a.size + 1) ≡ a.size
    → length (block_at A (a.start + block)) ≡ a.size
    → cells_in a (put A (store_access (a.start + block) [] (node_bytes a.size level cs))) ≡ write_cells (cells_in a A) (block, level, cs)
cells_after a A level block cs fit few fits shape = λ i. λ k. cell_after a A level block cs fit few fits shape k i
