-- A put below a node leaves nodes.
use Rattle.iso_tree.proofs.{Words.{◌≡◌, ◌⊎◌, ◌∙◌, sym, refl, ap, subst, ℕ, zero, suc, ◌+◌, ◌^◌, ◌<◌, ◌≤◌, true, false, cond, List, [], ◌∷◌, ◌++◌, length, replicate, Option, Some, None, arith, inl, inr, AllByRecursion, flat_map, and_parts, map-append, Area, Array, IsIn, block_at, bytes_in, cell_count, keys_mark, value_mark, is_part, before, Cell, FitCells, IsBlock, child_of, child_part, count_of, is_child, used_cells, in_range, tree_at, nodes_in, put_after, IsApart, AreAfter, AreChildren, IsOrdered, Put, half, fit, cells_in, is_part_at, IsNode, AreNodes, all_append, in_front, in_back, in_cases}, Blocks.{apart_parts, chosen_in}, Climbs.{Lacks, IsPut, put_is, rows_apart, child_apart, child_lacks, child_enough}, Facts.{child_below, inner_many}, Fits.{cells_fit, cells_few, length-cells}, Fitted.{ArePartsAt, fit_has}, Gets.{parts_all, child_holds}, Order.{all_put_after, range_from, range_to}, Shapes.{kids, chosen, child_for, after_child, put_below, written, second_kid, IsSized, AreSized, length-kids}, Splits.written_append, Stored.{stored, spots, stored_append, stored_kept, stored_cells, stored_in, row_kept, FitWrite, child_named}}

-- the child of a key, with a range that has it
chosen_range : {X : Type 0} (P : List ℕ → Option (List ℕ) → X → Type 0) (key last low : List ℕ) (high : Option (List ℕ)) (c : X) (cs : List (List ℕ × X)) → AreAfter P last low high c cs → in_range low high key ≡ true
    → (lo : List ℕ) × (hi : Option (List ℕ)) × (in_range lo hi key ≡ true) × P lo hi (chosen key c cs)
chosen_range P key last low high c [] is inside = (low, high, inside, is)
chosen_range P key last low high c (d ∷ ds) is inside =
    elim (before key d.0) as (λ b. before key d.0 ≡ b → (lo : List ℕ) × (hi : Option (List ℕ)) × (in_range lo hi key ≡ true) × P lo hi (cond b c (chosen key d.1 ds))) [
      | true ↦ λ b. (low, Some d.0, range_to low d.0 high key inside b, is.2)
      | false ↦ λ b. chosen_range P key d.0 d.0 high d.1 ds is.3 (range_from low d.0 high key inside b)
    ] refl

pub child_range : (cells : ℕ → List Cell) (level : ℕ) (key : List ℕ) (low : List ℕ) (high : Option (List ℕ)) (cs : List Cell) → AreChildren (IsOrdered level) low high (kids cells level cs) → in_range low high key ≡ true
    → (lo : List ℕ) × (hi : Option (List ℕ)) × (in_range lo hi key ≡ true) × IsOrdered level lo hi (tree_at cells level (child_of (child_for key cs)))
child_range cells level key low high [] is inside = absurd is
child_range cells level key low high (c ∷ cs) is inside =
    let found = chosen_range (IsOrdered level) key [] low high (tree_at cells level (child_of c.1)) (kids cells level cs) is.1 inside in
    (found.0, found.1, found.2, subst (IsOrdered level found.0 found.1) (Rattle.iso_tree.proofs.Blocks.chosen_kid cells level key c cs) found.3)

-- what holds of all children holds of that of a key
pub child_all : (P : List ℕ → Type 0) (cells : ℕ → List Cell) (key : List ℕ) (level : ℕ) (low : List ℕ) (high : Option (List ℕ)) (cs : List Cell) → AreChildren (IsOrdered level) low high (kids cells level cs)
    → AllByRecursion (λ (c : Cell). P c.1) cs → P (child_for key cs)
child_all P cells key level low high [] order all = absurd order
child_all P cells key level low high (c ∷ cs) order all = child_holds P key c cs all

-- THE SIZES OF NODES
rows_sized : (a : Area) (A : Array) (level : ℕ) (cs : List Cell)
    → ((block : ℕ) → block < a.blocks → AreNodes a A level block → IsSized (cell_count a.size) level (tree_at (cells_in a A) level block))
    → AllByRecursion (λ (c : Cell). is_child a.blocks c.1 ≡ true) cs → FitCells cs → AllByRecursion (λ (c : Cell). AreNodes a A level (child_of c.1)) cs → AreSized (cell_count a.size) level (kids (cells_in a A) level cs)
rows_sized a A level [] each parts fit all = tt
rows_sized a A level (c ∷ cs) each parts fit all =
    ((fit.0.0, each (child_of c.1) (child_below a.blocks c.1 parts.0).below all.0), rows_sized a A level cs each parts.1 fit.1 all.1)

abbrev pub HasShape : Area → Array → Type 0
HasShape a A = (k : ℕ) → k < a.blocks → length (block_at A (a.start + k)) ≡ a.size

-- the value parts of a node's cells
pub node_children : (a : Area) (A : Array) (level block : ℕ) → IsNode a (suc level) (block_at A (a.start + block)) → AllByRecursion (λ (c : Cell). is_child a.blocks c.1 ≡ true) (cells_in a A block)
node_children a A level block node =
    let B = block_at A (a.start + block) in
    let K = bytes_in (keys_mark a.size) B in
    parts_all (λ p. is_child a.blocks p ≡ true) K (λ i. bytes_in (value_mark a.size i) B) 0 (count_of K) (λ j from to. node.used j (omega arith))

parts_at : (a : Area) (level : ℕ) (cs : List Cell) → FitCells cs → AllByRecursion (λ (c : Cell). is_part_at a level c.1 ≡ true) cs → ArePartsAt a level cs
parts_at a level [] fit all = tt
parts_at a level (c ∷ cs) fit all = ((fit.0.1, all.0), parts_at a level cs fit.1 all.1)

pub node_parts_at : (a : Area) (A : Array) (level block : ℕ) → IsBlock a.size → HasShape a A → block < a.blocks → IsNode a level (block_at A (a.start + block)) → ArePartsAt a level (cells_in a A block)
node_parts_at a A level block sized shape below node =
    let B = block_at A (a.start + block) in
    let K = bytes_in (keys_mark a.size) B in
    parts_at a level (cells_in a A block) (cells_fit a.size level B sized (shape block below) node.keys)
    (parts_all (λ p. is_part_at a level p ≡ true) K (λ i. bytes_in (value_mark a.size i) B) 0 (count_of K) (λ j from to. node.used j (omega arith)))

pub nodes_sized : (a : Area) (A : Array) → IsBlock a.size → HasShape a A → (level block : ℕ) → block < a.blocks → AreNodes a A level block → IsSized (cell_count a.size) level (tree_at (cells_in a A) level block)
nodes_sized a A sized shape zero block below node = grind (arith, cells_few, cells_fit) steps 100000
nodes_sized a A sized shape (suc level) block below nodes =
    let B = block_at A (a.start + block) in
    let K = bytes_in (keys_mark a.size) B in
    let fit = cells_fit a.size (suc level) B sized (shape block below) nodes.0.keys in
    let few = cells_few a.size (suc level) B nodes.0.keys in
    let many = inner_many a.size (suc level) K nodes.0.keys (omega arith) in
    let long = length-kids (cells_in a A) level (cells_in a A block) in
    let count = length-cells K (λ i. bytes_in (value_mark a.size i) B) 0 (count_of K) in (
      omega arith,
      omega arith,
      rows_sized a A level (cells_in a A block) (nodes_sized a A sized shape level) (node_children a A level block nodes.0) fit nodes.1,
    )

-- the value part that names a block is a child's
zeros_all : (n : ℕ) → Rattle.std.specs.List.list_all Rattle.store_model.specs.Cells.is_zero (replicate n 0) ≡ true
zeros_all zero = refl
zeros_all (suc n) = zeros_all n

pub child_part_is : (blocks b : ℕ) → 1 ≤ b → b < blocks → blocks ≤ 2 ^ 32 → is_child blocks (child_part b) ≡ true
child_part_is blocks b some below low = grind (arith, child_named, zeros_all) steps 100000

-- what a put below a node leaves
pub record HasPut (a : Area) (level : ℕ) (A : Array) (block : ℕ) (p : Put) : Type 0 where
  pub nodes : AreNodes a (stored a A p.writes) level block
  pub second : (s : List ℕ × ℕ) → p.second ≡ Some s → AreNodes a (stored a A p.writes) level s.1
  pub places : (k : ℕ) → IsIn k (spots p.writes) → IsIn k (nodes_in level (tree_at (cells_in a A) level block)) ⊎ IsIn k p.taken
  pub fits : AllByRecursion (FitWrite a) p.writes

module _ (a : Area) (sized : IsBlock a.size) (least : 256 ≤ a.size) (most : a.blocks ≤ 2 ^ 32) (A : Array) (shape : HasShape a A) (key value : List ℕ) where
  abbrev n : ℕ
  n = cell_count a.size

  abbrev cells : ℕ → List Cell
  cells = cells_in a A

  -- an inner node, whose child was put into
  module _ (level block : ℕ) (c : Cell) (cs : List Cell) (news : List ℕ) (p : Put) (here : cells block ≡ c ∷ cs) (below : block < a.blocks) (low_level : suc level < 31)
      (node : IsNode a (suc level) (block_at A (a.start + block))) (rows : AllByRecursion (λ (c : Cell). AreNodes a A level (child_of c.1)) (c ∷ cs))
      (apart : IsApart ((block ∷ flat_map (λ c. nodes_in level c.1) (kids cells level (c ∷ cs))) ++ news))
      (is : IsPut n level cells (written cells p.writes) (child_of (chosen key c.1 cs)) (tree_at cells level (child_of (chosen key c.1 cs))) key value news p)
      (has : HasPut a level A (child_of (chosen key c.1 cs)) p)
      (inside : (b : ℕ) → IsIn b news → (1 ≤ b) × (b < a.blocks)) where
    abbrev A1 : Array
    A1 = stored a A p.writes

    abbrev below_all : List ℕ
    below_all = flat_map (λ c. nodes_in level c.1) (kids cells level (c ∷ cs))

    cells1_are : cells_in a A1 ≡ written cells p.writes
    cells1_are = stored_cells a p.writes A sized has.fits shape

    taken_new : (k : ℕ) → IsIn k p.taken → IsIn k news
    taken_new k new = subst (λ (l : List ℕ). IsIn k l) (sym is.blocks) (in_front k p.taken p.left new)

    kept : (k : ℕ) → (IsIn k (nodes_in level (tree_at cells level (child_of (chosen key c.1 cs)))) → ⊥) → (IsIn k p.taken → ⊥) → block_at A1 (a.start + k) ≡ block_at A (a.start + k)
    kept k old new = stored_kept a A p.writes k (λ at. elim (has.places k at) [ inl o ↦ old o | inr m ↦ new m ])

    block_same : block_at A1 (a.start + block) ≡ block_at A (a.start + block)
    block_same = kept block (λ old. apart.0 (in_front block below_all news (chosen_in cells level key block c cs old))) (λ new. apart.0 (in_back block below_all news (taken_new block new)))

    rows1 : AllByRecursion (λ (c : Cell). AreNodes a A1 level (child_of c.1)) (c ∷ cs)
    rows1 = row_kept a A A1 level key c cs (apart_parts below_all news apart.1).0 (λ k at not. kept k not (λ new. (apart_parts below_all news apart.1).2 k at (taken_new k new))) rows has.nodes

    place : (k : ℕ) → IsIn k (spots p.writes) → IsIn k (block ∷ below_all) ⊎ IsIn k p.taken
    place k at = elim (has.places k at) [ inl o ↦ inl (inr (chosen_in cells level key k c cs o)) | inr m ↦ inr m ]

    one_has : p.second ≡ None → HasPut a (suc level) A block p
    one_has none = record {
      nodes = (
        subst (IsNode a (suc level)) (sym block_same) node,
        subst (AllByRecursion (λ (c : Cell). AreNodes a A1 level (child_of c.1))) (sym (ap (used_cells a.size) block_same ∙ here)) rows1,
      );
      second = λ s e. absurd (cc (none, e));
      places = λ k at. subst (λ (l : List Cell). IsIn k (block ∷ flat_map (λ c. nodes_in level c.1) (kids cells level l)) ⊎ IsIn k p.taken) (sym here) (place k at);
      fits = has.fits;
    }

    -- where the child was split
    module _ (s : List ℕ × ℕ) (e : p.second ≡ Some s) where
      abbrev rest_cells : List Cell
      rest_cells = c ∷ put_after key (s.0, child_part s.1) cs

      abbrev q : Put
      q = fit n (suc level) block rest_cells p.left

      in_news : IsIn s.1 news
      in_news = taken_new s.1 (is.new s e)

      named : child_of (child_part s.1) ≡ s.1
      named = child_named s.1 (let low = (inside s.1 in_news).1 in omega arith)

      rows2 : AllByRecursion (λ (c : Cell). AreNodes a A1 level (child_of c.1)) rest_cells
      rows2 = (rows1.0, all_put_after (λ (c : Cell). AreNodes a A1 level (child_of c.1)) key (s.0, child_part s.1) cs (subst (AreNodes a A1 level) (sym named) (has.second s e)) rows1.1)

      parts2 : ArePartsAt a (suc level) (c ∷ cs) → ArePartsAt a (suc level) rest_cells
      parts2 parts = grind (arith, all_put_after, child_part_is, in_news)

      apart2 : IsApart ((block ∷ flat_map (λ c. nodes_in level c.1) (kids (cells_in a A1) level rest_cells)) ++ p.left)
      apart2 = subst (λ (f : ℕ → List Cell). IsApart ((block ∷ flat_map (λ c. nodes_in level c.1) (kids f level rest_cells)) ++ p.left)) (sym cells1_are)
          (rows_apart n level child_part cells key value block c cs news p here apart is s e named)

      cells2_are : written (cells_in a A1) q.writes ≡ written cells (p.writes ++ q.writes)
      cells2_are = ap (λ (f : ℕ → List Cell). written f q.writes) cells1_are ∙ sym (written_append cells p.writes q.writes)

      two_has : (low : List ℕ) (high : Option (List ℕ)) → in_range low high key ≡ true → IsOrdered (suc level) low high (block, kids cells level (c ∷ cs)) → length key ≤ 28 → length value ≡ 33
          → IsSized n (suc level) (block, kids cells level (c ∷ cs)) → ArePartsAt a (suc level) (c ∷ cs) → q.enough ≡ true
          → IsPut n (suc level) cells (written cells (p.writes ++ q.writes)) block (block, kids cells level (c ∷ cs)) key value news (after_child n child_part key level block (c ∷ cs) p (Some s))
          → HasPut a (suc level) A block (after_child n child_part key level block (c ∷ cs) p (Some s))
      two_has low high within order short whole old parts enough w =
          let size = w.sized short whole old in
          let is_fit = fit_has a sized A1 (stored_in a A p.writes shape) (suc level) block rest_cells low_level below (parts2 parts) rows2 p.left low high
          (λ b at. (inside b (subst (λ (l : List ℕ). IsIn b l) (sym is.blocks) (in_back b p.taken p.left at))).1) apart2
          (subst (λ (f : ℕ → List Cell). AreAfter (IsOrdered (suc level)) low low high (tree_at f (suc level) block) (second_kid f (suc level) q.second)) (sym cells2_are) (w.ordered low high within order))
          (subst (λ (f : ℕ → List Cell). IsSized n (suc level) (tree_at f (suc level) block)) (sym cells2_are) size.0)
          (subst (λ (f : ℕ → List Cell). AreSized n (suc level) (second_kid f (suc level) q.second)) (sym cells2_are) size.1) enough in
          record {
            nodes = subst (λ (B : Array). AreNodes a B (suc level) block) (sym (stored_append a A p.writes q.writes)) is_fit.nodes;
            second = λ s' e'. subst (λ (B : Array). AreNodes a B (suc level) s'.1) (sym (stored_append a A p.writes q.writes)) (is_fit.second s' e');
            places = λ k at. subst (λ (l : List Cell). IsIn k (block ∷ flat_map (λ c. nodes_in level c.1) (kids cells level l)) ⊎ IsIn k (p.taken ++ q.taken)) (sym here)
                (elim (in_cases k (spots p.writes) (spots q.writes) (subst (λ (l : List ℕ). IsIn k l) (map-append (λ w. w.0) p.writes q.writes) at)) [
                  | inl first ↦ elim (place k first) [ inl o ↦ inl o | inr m ↦ inr (in_front k p.taken q.taken m) ]
                  | inr later ↦ elim (is_fit.places k later) [ inl o ↦ inl (inl o) | inr m ↦ inr (in_back k p.taken q.taken m) ]
                ]);
            fits = all_append (FitWrite a) p.writes q.writes has.fits is_fit.fits;
          }

    both_enough : (s : List ℕ × ℕ) → (after_child n child_part key level block (c ∷ cs) p (Some s)).enough ≡ true → (fit n (suc level) block (c ∷ put_after key (s.0, child_part s.1) cs) p.left).enough ≡ true
    both_enough s enough = (and_parts p.enough _ enough).1

    inner_has : (low : List ℕ) (high : Option (List ℕ)) → in_range low high key ≡ true → IsOrdered (suc level) low high (block, kids cells level (c ∷ cs)) → length key ≤ 28 → length value ≡ 33
        → IsSized n (suc level) (block, kids cells level (c ∷ cs)) → ArePartsAt a (suc level) (c ∷ cs)
        → (after_child n child_part key level block (c ∷ cs) p p.second).enough ≡ true
        → IsPut n (suc level) cells (written cells (after_child n child_part key level block (c ∷ cs) p p.second).writes) block (block, kids cells level (c ∷ cs)) key value news (after_child n child_part key level block (c ∷ cs) p p.second)
        → HasPut a (suc level) A block (after_child n child_part key level block (c ∷ cs) p p.second)
    inner_has low high within order short whole old parts enough w =
        elim p.second as (λ o. p.second ≡ o → (after_child n child_part key level block (c ∷ cs) p o).enough ≡ true
        → IsPut n (suc level) cells (written cells (after_child n child_part key level block (c ∷ cs) p o).writes) block (block, kids cells level (c ∷ cs)) key value news (after_child n child_part key level block (c ∷ cs) p o)
        → HasPut a (suc level) A block (after_child n child_part key level block (c ∷ cs) p o)) [
          | None ↦ λ e en v. one_has e
          | Some s ↦ λ e en v. two_has s e low high within order short whole old parts (both_enough s en) v
        ] refl enough w

  at_has : (level block : ℕ) (cs : List Cell) (news : List ℕ) (p : Put) → cells block ≡ cs → block < a.blocks → suc level < 31 → IsNode a (suc level) (block_at A (a.start + block))
      → AllByRecursion (λ (c : Cell). AreNodes a A level (child_of c.1)) cs → IsApart ((block ∷ flat_map (λ c. nodes_in level c.1) (kids cells level cs)) ++ news)
      → IsPut n level cells (written cells p.writes) (child_of (child_for key cs)) (tree_at cells level (child_of (child_for key cs))) key value news p → HasPut a level A (child_of (child_for key cs)) p
      → ((b : ℕ) → IsIn b news → (1 ≤ b) × (b < a.blocks)) → (low : List ℕ) (high : Option (List ℕ)) → in_range low high key ≡ true → AreChildren (IsOrdered level) low high (kids cells level cs) → length key ≤ 28 → length value ≡ 33
      → IsSized n (suc level) (block, kids cells level cs) → ArePartsAt a (suc level) cs → (after_child n child_part key level block cs p p.second).enough ≡ true
      → IsPut n (suc level) cells (written cells (after_child n child_part key level block cs p p.second).writes) block (block, kids cells level cs) key value news (after_child n child_part key level block cs p p.second)
      → HasPut a (suc level) A block (after_child n child_part key level block cs p p.second)
  at_has level block [] news p here below low_level node rows apart is has inside low high within order short whole old parts enough w = absurd order
  at_has level block (c ∷ cs) news p here below low_level node rows apart is has inside low high within order short whole old parts enough w = search (arith, inner_has) steps 100000

  -- What a put below a node leaves.
  pub put_has : length key ≤ 28 → length value ≡ 33 → is_part 32 value ≡ true → 1 < half n → half n ≤ n → (level block : ℕ) (news : List ℕ) (low : List ℕ) (high : Option (List ℕ))
      → ((b : ℕ) → IsIn b news → (1 ≤ b) × (b < a.blocks)) → AreNodes a A level block → block < a.blocks → in_range low high key ≡ true → IsOrdered level low high (tree_at cells level block)
      → Lacks key level (tree_at cells level block) → IsApart (nodes_in level (tree_at cells level block) ++ news) → level < 31 → (put_below n child_part cells key value level block news).enough ≡ true
      → HasPut a level A block (put_below n child_part cells key value level block news)
  put_has short whole good some less zero block news low high inside nodes below within order lacks apart low_level enough =
      let named : (b : ℕ) → IsIn b news → child_of (child_part b) ≡ b = λ b at. child_named b (let lo = (inside b at).1 in omega arith) in
      let w = put_is n child_part cells key value some less zero block news low high named order lacks apart enough in
      let cs = put_after key (key, value) (cells block) in
      let size = w.sized short whole (nodes_sized a A sized shape zero block below nodes) in
      let parts : ArePartsAt a zero cs = all_put_after (λ (c : Cell). (length c.1 ≡ 33) × (is_part_at a zero c.1 ≡ true)) key (key, value) (cells block) (whole, good) (node_parts_at a A zero block sized shape below nodes) in
      let is_fit = fit_has a sized A shape zero block cs low_level below parts tt news low high (λ b at. (inside b at).1) apart (w.ordered low high within order) size.0 size.1 enough in
      record {
        nodes = is_fit.nodes;
        second = is_fit.second;
        places = λ k at. elim (is_fit.places k at) [ inl o ↦ inl (inl o) | inr m ↦ inr m ];
        fits = is_fit.fits;
      }
  put_has short whole good some less (suc level) block news low high inside nodes below within order lacks apart low_level enough =
      let named : (b : ℕ) → IsIn b news → child_of (child_part b) ≡ b = λ b at. child_named b (let lo = (inside b at).1 in omega arith) in
      let child = child_of (child_for key (cells block)) in
      let p = put_below n child_part cells key value level child news in
      let range = child_range cells level key low high (cells block) order within in
      let lacks1 = child_lacks cells level key low high (cells block) order lacks in
      let apart1 = child_apart cells level key block low high (cells block) news order apart in
      let enough1 = child_enough n child_part key level block (cells block) p p.second enough in
      let is = put_is n child_part cells key value some less level child news range.0 range.1 named range.3 lacks1 apart1 enough1 in
      let w = put_is n child_part cells key value some less (suc level) block news low high named order lacks apart enough in
      let nodes1 : AreNodes a A level child = child_all (λ q. AreNodes a A level (child_of q)) cells key level low high (cells block) order nodes.1 in
      let child_is : is_child a.blocks (child_for key (cells block)) ≡ true = child_all (λ q. is_child a.blocks q ≡ true) cells key level low high (cells block) order (node_children a A level block nodes.0) in
      let has = put_has short whole good some less level child news range.0 range.1 inside nodes1 (child_below a.blocks (child_for key (cells block)) child_is).below range.2 range.3 lacks1 apart1 (omega arith) enough1 in
      at_has level block (cells block) news p refl below low_level nodes.0 nodes.1 apart is has inside low high within order short whole (nodes_sized a A sized shape (suc level) block below nodes)
      (node_parts_at a A (suc level) block sized shape below nodes.0) enough w

-- the leaf of a key, with a range that has the key
pub leaf_range : (cells : ℕ → List Cell) (key : List ℕ) (level block : ℕ) (low : List ℕ) (high : Option (List ℕ)) → IsOrdered level low high (tree_at cells level block) → in_range low high key ≡ true
    → (lo : List ℕ) × (hi : Option (List ℕ)) × (in_range lo hi key ≡ true) × Rattle.store_model.specs.Trees.Rise lo hi (cells (Rattle.iso_tree.proofs.Edits.leaf_of cells key level block))
leaf_range cells key zero block low high is inside = (low, high, inside, is)
leaf_range cells key (suc level) block low high is inside =
    let range = child_range cells level key low high (cells block) is inside in
    leaf_range cells key level (child_of (child_for key (cells block))) range.0 range.1 range.3 range.2
