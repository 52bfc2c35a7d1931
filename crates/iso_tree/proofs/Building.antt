-- A node's bytes, cell by cell.
use Rattle.iso_tree.proofs.{Words.{◌≡◌, ◌∙◌, sym, refl, ap, ℕ, zero, suc, ◌+◌, ◌-◌, ◌*◌, ◌/◌, ◌%◌, ◌≤◌, Bool, true, false, not, cond, List, [], ◌∷◌, ◌++◌, take, drop, length, replicate, set, arith, AllByRecursion, flat_map, filter, append_assoc, take_at, drop_at, length-append, length-replicate, flat_map-append, cell_count, keys_end, key_part, key_at, laid_at, value_mark, bytes_in, bytes_eq, without_key, is_node, count_of, IsBlock, FitCells, Cell, node_bytes, cells_by}, Fits.cells_fit, Bytes.{length-keys, length-values}, Passes.zeros_more}

-- bytes in the place of as many others
pub laid_mid : (xs ys zs ws : List ℕ) (at : ℕ) → length xs ≡ at → length zs ≡ length ys → laid_at at ys (xs ++ (zs ++ ws)) ≡ xs ++ (ys ++ ws)
laid_mid xs ys zs ws at here same =
    let back : drop (at + length ys) (xs ++ (zs ++ ws)) ≡ ws =
    ap (drop (at + length ys)) (sym (append_assoc xs zs ws)) ∙ drop_at (xs ++ zs) ws (at + length ys) (omega (arith, length-append xs zs)) in
    λ i. (take_at xs (zs ++ ws) at here) i ++ (ys ++ back i)

module _ (size level : ℕ) (cs ds : List Cell) (fit : FitCells cs) (fits : FitCells ds) (few : length cs + length ds ≤ cell_count size) where
  abbrev n : ℕ
  n = length cs

  abbrev d : ℕ
  d = length ds

  abbrev m : ℕ
  m = cell_count size - (length cs + length ds)

  abbrev head : (count : ℕ) → List ℕ
  head count = 1 ∷ level ∷ count / 256 ∷ count % 256 ∷ replicate 60 0

  abbrev Ks : List ℕ
  Ks = flat_map (λ (c : Cell). key_part c.0) cs

  abbrev Vs : List ℕ
  Vs = flat_map (λ (c : Cell). c.1) cs

  -- the bytes of the new cells
  abbrev Kd : List ℕ
  Kd = flat_map (λ (c : Cell). key_part c.0) ds

  abbrev Vd : List ℕ
  Vd = flat_map (λ (c : Cell). c.1) ds

  abbrev Zk : List ℕ
  Zk = replicate (31 * m) 0

  abbrev Zv : List ℕ
  Zv = replicate (33 * m) 0

  zeros_k : replicate {A = ℕ} (31 * (cell_count size - length cs)) 0 ≡ replicate (31 * d) 0 ++ Zk
  zeros_k = let e : 31 * (cell_count size - length cs) ≡ 31 * d + 31 * m = omega arith in ap (λ k. replicate k 0) e ∙ zeros_more (31 * d) (31 * m)

  zeros_v : replicate {A = ℕ} (33 * (cell_count size - length cs)) 0 ≡ replicate (33 * d) 0 ++ Zv
  zeros_v = let e : 33 * (cell_count size - length cs) ≡ 33 * d + 33 * m = omega arith in ap (λ k. replicate k 0) e ∙ zeros_more (33 * d) (33 * m)

  old_is : node_bytes size level cs ≡ (head n ++ Ks) ++ (replicate (31 * d) 0 ++ (Zk ++ (Vs ++ (replicate (33 * d) 0 ++ Zv))))
  old_is =
      (λ i. (head n ++ (Ks ++ zeros_k i)) ++ (Vs ++ zeros_v i))
      ∙ append_assoc (head n) (Ks ++ (replicate (31 * d) 0 ++ Zk)) (Vs ++ (replicate (33 * d) 0 ++ Zv))
      ∙ ap (λ l. head n ++ l) (append_assoc Ks (replicate (31 * d) 0 ++ Zk) (Vs ++ (replicate (33 * d) 0 ++ Zv)) ∙ ap (λ l. Ks ++ l) (append_assoc (replicate (31 * d) 0) Zk (Vs ++ (replicate (33 * d) 0 ++ Zv))))
      ∙ sym (append_assoc (head n) Ks (replicate (31 * d) 0 ++ (Zk ++ (Vs ++ (replicate (33 * d) 0 ++ Zv)))))

  front_long : length (head n ++ Ks) ≡ 64 + 31 * n
  front_long = let h : length (head n) ≡ 64 = refl in omega (arith, length-append (head n) Ks, length-keys cs fit)

  keys_laid : laid_at (64 + 31 * n) Kd (node_bytes size level cs) ≡ (head n ++ Ks) ++ (Kd ++ (Zk ++ (Vs ++ (replicate (33 * d) 0 ++ Zv))))
  keys_laid = ap (laid_at (64 + 31 * n) Kd) old_is
      ∙ laid_mid (head n ++ Ks) Kd (replicate (31 * d) 0) (Zk ++ (Vs ++ (replicate (33 * d) 0 ++ Zv))) (64 + 31 * n) front_long (length-replicate {A = ℕ} (31 * d) 0 ∙ sym (length-keys ds fits))

  mid_is : (head n ++ Ks) ++ (Kd ++ (Zk ++ (Vs ++ (replicate (33 * d) 0 ++ Zv)))) ≡ (((head n ++ Ks) ++ (Kd ++ Zk)) ++ Vs) ++ (replicate (33 * d) 0 ++ Zv)
  mid_is =
      ap (λ l. (head n ++ Ks) ++ l) (sym (append_assoc Kd Zk (Vs ++ (replicate (33 * d) 0 ++ Zv))))
      ∙ sym (append_assoc (head n ++ Ks) (Kd ++ Zk) (Vs ++ (replicate (33 * d) 0 ++ Zv)))
      ∙ sym (append_assoc ((head n ++ Ks) ++ (Kd ++ Zk)) Vs (replicate (33 * d) 0 ++ Zv))

  mid_long : length (((head n ++ Ks) ++ (Kd ++ Zk)) ++ Vs) ≡ keys_end size + 33 * n
  mid_long = omega (
    arith,
    length-append ((head n ++ Ks) ++ (Kd ++ Zk)) Vs,
    length-append (head n ++ Ks) (Kd ++ Zk),
    length-append Kd Zk,
    front_long,
    length-keys ds fits,
    length-replicate {A = ℕ} (31 * m) 0,
    length-values cs fit,
  )

  both_laid : laid_at (keys_end size + 33 * n) Vd (laid_at (64 + 31 * n) Kd (node_bytes size level cs)) ≡ (((head n ++ Ks) ++ (Kd ++ Zk)) ++ Vs) ++ (Vd ++ Zv)
  both_laid = ap (laid_at (keys_end size + 33 * n) Vd) (keys_laid ∙ mid_is)
      ∙ laid_mid (((head n ++ Ks) ++ (Kd ++ Zk)) ++ Vs) Vd (replicate (33 * d) 0) Zv (keys_end size + 33 * n) mid_long (length-replicate {A = ℕ} (33 * d) 0 ∙ sym (length-values ds fits))

  counted : set (set ((((head n ++ Ks) ++ (Kd ++ Zk)) ++ Vs) ++ (Vd ++ Zv)) 2 ((n + d) / 256)) 3 ((n + d) % 256) ≡ (((head (n + d) ++ Ks) ++ (Kd ++ Zk)) ++ Vs) ++ (Vd ++ Zv)
  counted = refl

  new_is : node_bytes size level (cs ++ ds) ≡ (((head (n + d) ++ Ks) ++ (Kd ++ Zk)) ++ Vs) ++ (Vd ++ Zv)
  new_is =
      let long : length (cs ++ ds) ≡ n + d = length-append cs ds in
      let keys : flat_map (λ (c : Cell). key_part c.0) (cs ++ ds) ≡ Ks ++ Kd = flat_map-append (λ (c : Cell). key_part c.0) cs ds in
      let values : flat_map (λ (c : Cell). c.1) (cs ++ ds) ≡ Vs ++ Vd = flat_map-append (λ (c : Cell). c.1) cs ds in
      let rest : cell_count size - length (cs ++ ds) ≡ m = omega arith in
      (λ i. (head (long i) ++ (keys i ++ replicate (31 * rest i) 0)) ++ (values i ++ replicate (33 * rest i) 0))
      ∙ (λ i. (head (n + d) ++ append_assoc Ks Kd Zk i) ++ append_assoc Vs Vd Zv i)
      ∙ ap (λ l. l ++ (Vs ++ (Vd ++ Zv))) (sym (append_assoc (head (n + d)) Ks (Kd ++ Zk)))
      ∙ sym (append_assoc ((head (n + d) ++ Ks) ++ (Kd ++ Zk)) Vs (Vd ++ Zv))

  -- cells more
  pub cells_added : set (set (laid_at (keys_end size + 33 * length cs) Vd (laid_at (64 + 31 * length cs) Kd (node_bytes size level cs))) 2 ((length cs + length ds) / 256)) 3 ((length cs + length ds) % 256)
      ≡ node_bytes size level (cs ++ ds)
  cells_added = ap (λ l. set (set l 2 ((n + d) / 256)) 3 ((n + d) % 256)) both_laid ∙ counted ∙ sym new_is

-- the cells of a row, with one more
pub cells_more : (keys : List ℕ) (value : ℕ → List ℕ) (i m : ℕ) → cells_by keys value i (m + 1) ≡ cells_by keys value i m ++ (key_at keys (i + m), value (i + m)) ∷ []
cells_more keys value i zero = let e : i + 0 ≡ i = omega arith in λ j. (key_at keys (sym e j), value (sym e j)) ∷ []
cells_more keys value i (suc m) =
    let e : suc m + 1 ≡ suc (m + 1) = omega arith in
    let f : i + 1 + m ≡ i + suc m = omega arith in
    ap (cells_by keys value i) e ∙ ap (λ l. (key_at keys i, value i) ∷ l) (cells_more keys value (i + 1) m ∙ (λ j. cells_by keys value (i + 1) m ++ (key_at keys (f j), value (f j)) ∷ []))

pub filter_more : (p : Cell → Bool) (cs : List Cell) (c : Cell) → filter p (cs ++ c ∷ []) ≡ filter p cs ++ cond (p c) (c ∷ []) []
filter_more p [] c = refl
filter_more p (d ∷ ds) c = elim (p d) as (λ t. cond t (d ∷ filter p (ds ++ c ∷ [])) (filter p (ds ++ c ∷ [])) ≡ cond t (d ∷ filter p ds) (filter p ds) ++ cond (p c) (c ∷ []) []) [
  | true ↦ ap (λ l. d ∷ l) (filter_more p ds c)
  | false ↦ filter_more p ds c
]

pub fit_first : (P : Cell → Type 0) (keys : List ℕ) (value : ℕ → List ℕ) (i m n : ℕ) → m ≤ n → AllByRecursion P (cells_by keys value i n) → AllByRecursion P (cells_by keys value i m)
fit_first P keys value i zero n le all = tt
fit_first P keys value i (suc m) zero le all = absurd (omega arith)
fit_first P keys value i (suc m) (suc n) le all = (all.0, fit_first P keys value (i + 1) m n (omega arith) all.1)

-- a node without cells
pub empty_is : (size level : ℕ) → IsBlock size → set (set (replicate size 0) 0 1) 1 level ≡ node_bytes size level []
empty_is size level sized =
    let n = cell_count size in
    let none : n - 0 ≡ n = omega arith in
    let whole : size ≡ 64 + (31 * n + 33 * n) = omega (arith, sized.whole) in
    let split : replicate {A = ℕ} size 0 ≡ (replicate 64 0 ++ replicate (31 * n) 0) ++ replicate (33 * n) 0 =
    ap (λ k. replicate k 0) whole ∙ zeros_more 64 (31 * n + 33 * n) ∙ ap (λ l. replicate 64 0 ++ l) (zeros_more (31 * n) (33 * n)) ∙ sym (append_assoc (replicate 64 0) (replicate (31 * n) 0) (replicate (33 * n) 0)) in
    ap (λ l. set (set l 0 1) 1 level) split ∙ (λ i. ((1 ∷ level ∷ 0 ∷ 0 ∷ replicate 60 0) ++ replicate (31 * sym none i) 0) ++ replicate (33 * sym none i) 0)

pub filter_all : (P : Cell → Type 0) (p : Cell → Bool) (cs : List Cell) → AllByRecursion P cs → AllByRecursion P (filter p cs)
filter_all P p [] all = tt
filter_all P p (c ∷ cs) all = elim (p c) as (λ t. AllByRecursion P (cond t (c ∷ filter p cs) (filter p cs))) [
  | true ↦ (all.0, filter_all P p cs all.1)
  | false ↦ filter_all P p cs all.1
]

-- the cells of a leaf so far, without those of a key
abbrev pub copied : (key : List ℕ) → (size : ℕ) → (old : List ℕ) → (cell : ℕ) → List Cell
copied key size old cell = without_key key (cells_by (take (keys_end size) old) (λ i. bytes_in (value_mark size i) old) 0 cell)

module _ (key : List ℕ) (size : ℕ) (old : List ℕ) (cell : ℕ) where
  abbrev keys : List ℕ
  keys = take (keys_end size) old

  abbrev value : ℕ → List ℕ
  value i = bytes_in (value_mark size i) old

  pub copied_more : copied key size old (cell + 1) ≡ copied key size old cell ++ cond (not (bytes_eq (key_at keys cell) key)) ((key_at keys cell, value cell) ∷ []) []
  copied_more = grind (arith, cells_more, filter_more, not) steps 100000

  one_or_none : (t : Bool) (c : Cell) → length (cond t (c ∷ []) []) ≡ cond t 1 0
  one_or_none t c = grind arith

  pub copied_long : length (copied key size old (cell + 1)) ≡ length (copied key size old cell) + cond (not (bytes_eq (key_at keys cell) key)) 1 0
  copied_long = ap length copied_more ∙ length-append (copied key size old cell) (cond (not (bytes_eq (key_at keys cell) key)) ((key_at keys cell, value cell) ∷ []) [])
      ∙ ap (λ n. length (copied key size old cell) + n) (one_or_none (not (bytes_eq (key_at keys cell) key)) (key_at keys cell, value cell))

  pub copied_fit : IsBlock size → length old ≡ size → is_node size 0 keys ≡ true → cell ≤ count_of keys → FitCells (copied key size old cell)
  copied_fit sized long node inside = search (arith, filter_all, not, fit_first, cells_fit) steps 100000
