-- The bytes of some cells of a node are those that the node has in their places.
use Rattle.iso_tree.proofs.{Words.{◌≡◌, ◌∙◌, sym, refl, ap, ℕ, zero, suc, ◌+◌, ◌-◌, ◌*◌, ◌≤◌, ◌<◌, ◌==◌, true, false, List, [], ◌∷◌, ◌++◌, length, take, drop, replicate, arith, flat_map, list_all, is_zero, and_parts, leb-true, length-take, length-drop, take-append-drop, drop-drop, cell_count, keys_end, key_mark, value_mark, is_part, are_key_parts, all_at, bytes_in, key_part, text_of, key_at, Cell, FitCells, IsBlock, cells_by, piece_of, take-add}, Fits.key_short}

zeros_back : (xs : List ℕ) → list_all is_zero xs ≡ true → xs ≡ replicate (length xs) 0
zeros_back [] all = refl
zeros_back (zero ∷ xs) all = ap (λ l. 0 ∷ l) (zeros_back xs all)
zeros_back (suc x ∷ xs) all = let e : (suc x == 0) ≡ false = grind arith in let none : false ≡ true = rw e at all in cc

-- a part that is well formed is that of its text
part_back : (part : List ℕ) → length part ≡ 31 → is_part 28 part ≡ true → key_part (text_of part) ≡ part
part_back [] long is = absurd (omega arith)
part_back (len ∷ rest) long is =
    let parts = and_parts _ _ is in
    let short : len ≤ 28 = leb-true _ _ parts.0 in
    let e : 1 + len ≡ suc len = omega arith in
    let zeros : drop len rest ≡ replicate (30 - len) 0 =
    zeros_back (drop len rest) (ap (λ (n : ℕ). list_all is_zero (drop n (len ∷ rest))) (sym e) ∙ parts.1) ∙ ap (λ (n : ℕ). replicate n 0) (length-drop len rest ∙ omega arith) in
    let text : length (take len rest) ≡ len = omega (arith, length-take len rest) in
    (λ i. text i ∷ take len rest ++ replicate (30 - text i) 0) ∙ ap (λ l. len ∷ take len rest ++ l) (sym zeros) ∙ ap (λ l. len ∷ l) (take-append-drop len rest)

module _ (size : ℕ) (node : List ℕ) (sized : IsBlock size) (long : length node ≡ size) where
  abbrev K : List ℕ
  K = take (keys_end size) node

  abbrev V : ℕ → List ℕ
  V i = bytes_in (value_mark size i) node

  next_take : (width n at : ℕ) → take (width * suc n) (drop at node) ≡ take width (drop at node) ++ take (width * n) (drop (at + width) node)
  next_take width n at =
      let e : width * suc n ≡ width + width * n = omega arith in
      ap (λ (k : ℕ). take k (drop at node)) e ∙ take-add width (width * n) (drop at node) ∙ ap (λ l. take width (drop at node) ++ take (width * n) l) (drop-drop width at node)

  pub values_are : (i n : ℕ) → take (33 * n) (drop (keys_end size + 33 * i) node) ≡ flat_map (λ (c : Cell). c.1) (cells_by K V i n)
  values_are i zero = refl
  values_are i (suc n) =
      let next : keys_end size + 33 * i + 33 ≡ keys_end size + 33 * (i + 1) = omega arith in
      next_take 33 n (keys_end size + 33 * i) ∙ ap (λ (k : ℕ). V i ++ take (33 * n) (drop k node)) next ∙ ap (λ l. V i ++ l) (values_are (i + 1) n)

  module _ (parts : are_key_parts size K ≡ true) where
    key_is : (i : ℕ) → i < cell_count size → key_part (key_at K i) ≡ take 31 (drop (64 + 31 * i) node)
    key_is i below =
        let same : bytes_in (key_mark i) K ≡ bytes_in (key_mark i) node = piece_of (key_mark i) (keys_end size) node (omega arith) in
        let whole : length (bytes_in (key_mark i) K) ≡ 31 = ap length same ∙ length-take 31 (drop (64 + 31 * i) node) ∙ omega (arith, length-drop (64 + 31 * i) node, sized.whole, long) in
        part_back (bytes_in (key_mark i) K) whole (all_at (λ j. is_part 28 (bytes_in (key_mark j) K)) 0 (cell_count size) i parts (omega arith) (omega arith)) ∙ same

    pub keys_are : (i n : ℕ) → i + n ≤ cell_count size → take (31 * n) (drop (64 + 31 * i) node) ≡ flat_map (λ (c : Cell). key_part c.0) (cells_by K V i n)
    keys_are i zero inside = refl
    keys_are i (suc n) inside =
        let next : 64 + 31 * i + 31 ≡ 64 + 31 * (i + 1) = omega arith in
        next_take 31 n (64 + 31 * i)
        ∙ (λ j. sym (key_is i (omega arith)) j ++ take (31 * n) (drop (next j) node))
        ∙ ap (λ l. key_part (key_at K i) ++ l) (keys_are (i + 1) n (omega arith))

    pub cells_fit_from : (i n : ℕ) → i + n ≤ cell_count size → FitCells (cells_by K V i n)
    cells_fit_from i zero inside = tt
    cells_fit_from i (suc n) inside = (
      (key_short size K i parts (omega arith), length-take 33 (drop (keys_end size + 33 * i) node) ∙ omega (arith, length-drop (keys_end size + 33 * i) node, sized.whole, long)),
      cells_fit_from (i + 1) n (omega arith),
    )
