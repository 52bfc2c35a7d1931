-- A node that gets one more cell, or its two halves, as nodes of the array.
use Rattle.iso_tree.proofs.{Words.{◌≡◌, ◌≢◌, ◌⊎◌, ◌∙◌, sym, refl, ap, subst, ℕ, zero, suc, ◌+◌, ◌<◌, true, false, List, [], ◌∷◌, ◌++◌, take, drop, length, Option, Some, None, arith, inl, inr, AllByRecursion, flat_map, take-append-drop, map-append, flat_map-append, Area, Array, put, IsIn, block_at, store_access, cell_count, length-block_put, other_block, Cell, FitCells, IsBlock, child_of, used_cells, node_bytes, Tree, tree_at, nodes_in, IsApart, AreAfter, AreChildren, IsOrdered, Put, first_key, without_first, emptied, half, halves, fit, cells_in, is_part_at, IsNode, AreNodes, in_front, in_back}, Blocks.apart_parts, Bytes.cells_are, Fits.rise_strict, Order.{all_left, all_right}, Passes.{Strict, StrictFrom}, Shapes.{kids, written, second_kid, IsSized, AreSized, length-kids, same_some}, Splits.{write_here, write_other}, Stored.{stored, spots, block_written, row_same, IsRow, row_is_node, FitWrite}}

-- a value part of a level, of the length of one
abbrev pub ArePartsAt : Area → (level : ℕ) → List Cell → Type 0
ArePartsAt a level cs = AllByRecursion (λ (c : Cell). (length c.1 ≡ 33) × (is_part_at a level c.1 ≡ true)) cs

-- the blocks below the cells of a node, and that they are nodes
abbrev pub below_cells : (ℕ → List Cell) → (level : ℕ) → List Cell → List ℕ
below_cells cells zero cs = []
below_cells cells (suc level) cs = flat_map (λ c. nodes_in level c.1) (kids cells level cs)

abbrev pub AreBelow : Area → Array → (level : ℕ) → List Cell → Type 0
AreBelow a A zero cs = Unit {0}
AreBelow a A (suc level) cs = AllByRecursion (λ (c : Cell). AreNodes a A level (child_of c.1)) cs

pub nodes_from : (a : Area) (A : Array) (level block : ℕ) (cs : List Cell) → used_cells a.size (block_at A (a.start + block)) ≡ cs → IsNode a level (block_at A (a.start + block)) → AreBelow a A level cs → AreNodes a A level block
nodes_from a A zero block cs here node below = node
nodes_from a A (suc level) block cs here node below = (node, subst (AllByRecursion (λ (c : Cell). AreNodes a A level (child_of c.1))) (sym here) below)

below_same : (a : Area) (A B : Array) (level : ℕ) (cs : List Cell) → ((k : ℕ) → IsIn k (below_cells (cells_in a A) level cs) → block_at B (a.start + k) ≡ block_at A (a.start + k))
    → AreBelow a A level cs → AreBelow a B level cs
below_same a A B zero cs kept all = tt
below_same a A B (suc level) cs kept all = row_same a A B level cs kept all

-- what a tree of a level says of the cells at its top
strict_kids : (cells : ℕ → List Cell) (level : ℕ) (last low : List ℕ) (high : Option (List ℕ)) (x : Tree level) (cs : List Cell) → AreAfter (IsOrdered level) last low high x (kids cells level cs) → StrictFrom last cs
strict_kids cells level last low high x [] is = tt
strict_kids cells level last low high x (d ∷ ds) is = (is.0, strict_kids cells level d.0 d.0 high (tree_at cells level (child_of d.1)) ds is.3)

inner_strict : (cells : ℕ → List Cell) (level : ℕ) (low : List ℕ) (high : Option (List ℕ)) (cs : List Cell) → AreChildren (IsOrdered level) low high (kids cells level cs) → Strict cs × (first_key cs ≡ [])
inner_strict cells level low high [] is = absurd is
inner_strict cells level low high (c ∷ cs) is = grind (arith, strict_kids) steps 100000

fit_kids : (n : ℕ) (cells : ℕ → List Cell) (level : ℕ) (cs : List Cell) → AreSized n level (kids cells level cs) → AllByRecursion (λ (c : Cell). length c.1 ≡ 33) cs → FitCells cs
fit_kids n cells level [] all long = tt
fit_kids n cells level (c ∷ cs) all long = ((all.0.0, long.0), fit_kids n cells level cs all.1 long.1)

parts_only : (a : Area) (level : ℕ) (cs : List Cell) → ArePartsAt a level cs → AllByRecursion (λ (c : Cell). is_part_at a level c.1 ≡ true) cs
parts_only a level [] all = tt
parts_only a level (c ∷ cs) all = (all.0.1, parts_only a level cs all.1)

long_only : (a : Area) (level : ℕ) (cs : List Cell) → ArePartsAt a level cs → AllByRecursion (λ (c : Cell). length c.1 ≡ 33) cs
long_only a level [] all = tt
long_only a level (c ∷ cs) all = (all.0.0, long_only a level cs all.1)

row_at : (a : Area) (cells : ℕ → List Cell) (level block : ℕ) (low : List ℕ) (high : Option (List ℕ)) → IsOrdered level low high (tree_at cells level block) → IsSized (cell_count a.size) level (tree_at cells level block)
    → ArePartsAt a level (cells block) → IsRow a level (cells block)
row_at a cells zero block low high order sized parts = grind (arith, rise_strict, parts_only) steps 100000
row_at a cells (suc level) block low high order sized parts =
    let strict = inner_strict cells level low high (cells block) order in
    let long = length-kids cells level (cells block) in
    let least = sized.0 in
    let most = sized.1 in
    record {
      fit = fit_kids (cell_count a.size) cells level (cells block) sized.2 (long_only a (suc level) (cells block) parts);
      few = omega arith;
      strict = strict.0;
      kind = inr (omega arith, strict.1);
      parts = parts_only a (suc level) (cells block) parts;
    }

pub row_of : (a : Area) (cells : ℕ → List Cell) (level block : ℕ) (cs : List Cell) (low : List ℕ) (high : Option (List ℕ)) → cells block ≡ cs → IsOrdered level low high (tree_at cells level block)
    → IsSized (cell_count a.size) level (tree_at cells level block) → ArePartsAt a level cs → IsRow a level cs
row_of a cells level block cs low high here order sized parts = grind (arith, row_at) steps 100000

-- parts of the halves
without_parts : (P : List ℕ → Type 0) (R : List Cell) → AllByRecursion (λ (c : Cell). P c.1) R → AllByRecursion (λ (c : Cell). P c.1) (without_first R)
without_parts P [] all = tt
without_parts P (c ∷ cs) all = all

emptied_parts : (P : List ℕ → Type 0) (level : ℕ) (R : List Cell) → AllByRecursion (λ (c : Cell). P c.1) R → AllByRecursion (λ (c : Cell). P c.1) (emptied level R)
emptied_parts P zero R all = all
emptied_parts P (suc level) R all = without_parts P R all

below_left : (a : Area) (A : Array) (level : ℕ) (L R : List Cell) → AreBelow a A level (L ++ R) → AreBelow a A level L
below_left a A zero L R all = tt
below_left a A (suc level) L R all = all_left (λ (c : Cell). AreNodes a A level (child_of c.1)) L R all

below_right : (a : Area) (A : Array) (level : ℕ) (L R : List Cell) → AreBelow a A level (L ++ R) → AreBelow a A level (emptied level R)
below_right a A zero L R all = tt
below_right a A (suc level) L R all = without_parts (λ p. AreNodes a A level (child_of p)) R (all_right (λ (c : Cell). AreNodes a A level (child_of c.1)) L R all)

in_left : (cells : ℕ → List Cell) (level : ℕ) (L R : List Cell) (k : ℕ) → IsIn k (below_cells cells level L) → IsIn k (below_cells cells level (L ++ R))
in_left cells zero L R k is = absurd is
in_left cells (suc level) L R k is =
    subst (λ (l : List ℕ). IsIn k l) (sym (ap (flat_map (λ c. nodes_in level c.1)) (map-append (λ c. (c.0, tree_at cells level (child_of c.1))) L R) ∙ flat_map-append (λ c. nodes_in level c.1) (kids cells level L) (kids cells level R)))
    (in_front k (flat_map (λ c. nodes_in level c.1) (kids cells level L)) _ is)

without_below : (cells : ℕ → List Cell) (level : ℕ) (R : List Cell) → flat_map (λ c. nodes_in level c.1) (kids cells level (without_first R)) ≡ flat_map (λ c. nodes_in level c.1) (kids cells level R)
without_below cells level R = grind arith

in_right : (cells : ℕ → List Cell) (level : ℕ) (L R : List Cell) (k : ℕ) → IsIn k (below_cells cells level (emptied level R)) → IsIn k (below_cells cells level (L ++ R))
in_right cells zero L R k is = absurd is
in_right cells (suc level) L R k is =
    subst (λ (l : List ℕ). IsIn k l) (sym (ap (flat_map (λ c. nodes_in level c.1)) (map-append (λ c. (c.0, tree_at cells level (child_of c.1))) L R) ∙ flat_map-append (λ c. nodes_in level c.1) (kids cells level L) (kids cells level R)))
    (in_back k (flat_map (λ c. nodes_in level c.1) (kids cells level L)) _ (subst (λ (l : List ℕ). IsIn k l) (without_below cells level R) is))

-- what the writes of a node leave
pub record HasFit (a : Area) (level : ℕ) (A : Array) (block : ℕ) (q : Put) : Type 0 where
  pub nodes : AreNodes a (stored a A q.writes) level block
  pub second : (s : List ℕ × ℕ) → q.second ≡ Some s → AreNodes a (stored a A q.writes) level s.1
  pub places : (k : ℕ) → IsIn k (spots q.writes) → (block ≡ k) ⊎ IsIn k q.taken
  pub fits : AllByRecursion (FitWrite a) q.writes

no_true : false ≡ true → ⊥
no_true e = cc

module _ (a : Area) (sized : IsBlock a.size) (A : Array) (shape : (k : ℕ) → k < a.blocks → length (block_at A (a.start + k)) ≡ a.size) (level block : ℕ) (cs : List Cell)
    (low_level : level < 31) (below : block < a.blocks) (parts : ArePartsAt a level cs) (kids_are : AreBelow a A level cs) where
  abbrev n : ℕ
  n = cell_count a.size

  abbrev one : Put
  one = record { writes = (block, level, cs) ∷ []; second = None; taken = []; left = []; enough = true }

  -- in one node
  one_has : (news : List ℕ) (low : List ℕ) (high : Option (List ℕ)) → IsApart ((block ∷ below_cells (cells_in a A) level cs) ++ news)
      → IsOrdered level low high (tree_at (written (cells_in a A) ((block, level, cs) ∷ [])) level block) → IsSized n level (tree_at (written (cells_in a A) ((block, level, cs) ∷ [])) level block)
      → HasFit a level A block (record { writes = (block, level, cs) ∷ []; second = None; taken = []; left = news; enough = true })
  one_has news low high apart order size =
      let row = row_of a (written (cells_in a A) ((block, level, cs) ∷ [])) level block cs low high (write_here (cells_in a A) level block cs) order size parts in
      let access = store_access (a.start + block) [] (node_bytes a.size level cs) in
      let B = put A access in
      let here : block_at B (a.start + block) ≡ node_bytes a.size level cs = block_written a A block level cs sized row.fit row.few (shape block below) in
      let kept : (k : ℕ) → IsIn k (below_cells (cells_in a A) level cs) → block_at B (a.start + k) ≡ block_at A (a.start + k) = λ k has.
      other_block A access (a.start + k) (λ e. apart.0 (in_front block (below_cells (cells_in a A) level cs) news (subst (λ (j : ℕ). IsIn j (below_cells (cells_in a A) level cs)) (let s : k ≡ block = omega arith in s) has))) in
      record {
        nodes = nodes_from a B level block cs (ap (used_cells a.size) here ∙ cells_are a.size level cs row.fit row.few) (subst (IsNode a level) (sym here) (row_is_node a level cs row low_level))
            (below_same a A B level cs kept kids_are);
        second = λ s e. absurd (cc e);
        places = λ k is. elim is [ inl e ↦ inl e | inr never ↦ absurd never ];
        fits = ((row.fit, row.few, below), tt);
      }

  -- in two halves
  two_has : (new : ℕ) (news : List ℕ) (low : List ℕ) (high : Option (List ℕ)) → new < a.blocks → IsApart ((block ∷ below_cells (cells_in a A) level cs) ++ (new ∷ news))
      → AreAfter (IsOrdered level) low low high (tree_at (written (cells_in a A) (halves n level block cs (new ∷ news)).writes) level block) (second_kid (written (cells_in a A) (halves n level block cs (new ∷ news)).writes) level (halves n level block cs (new ∷ news)).second)
      → IsSized n level (tree_at (written (cells_in a A) (halves n level block cs (new ∷ news)).writes) level block)
      → AreSized n level (second_kid (written (cells_in a A) (halves n level block cs (new ∷ news)).writes) level (halves n level block cs (new ∷ news)).second)
      → HasFit a level A block (halves n level block cs (new ∷ news))
  two_has new news low high inside apart order size size2 =
      let L = take (half n) cs in
      let D = drop (half n) cs in
      let R = emptied level D in
      let whole : L ++ D ≡ cs = take-append-drop (half n) cs in
      let all = below_cells (cells_in a A) level cs in
      let other : block ≢ new = λ e. apart.0 (in_back block all (new ∷ news) (inl (sym e))) in
      let fresh : (k : ℕ) → IsIn k all → k ≢ new = λ k has e. (apart_parts all (new ∷ news) apart.1).2 k has (inl (sym e)) in
      let far : (k : ℕ) → IsIn k all → k ≢ block = λ k has e. apart.0 (in_front block all (new ∷ news) (subst (λ (j : ℕ). IsIn j all) e has)) in
      let cells1 = Rattle.iso_tree.proofs.Shapes.write_cells (cells_in a A) (block, level, L) in
      let cells2 = Rattle.iso_tree.proofs.Shapes.write_cells cells1 (new, level, R) in
      let at_block : cells2 block ≡ L = write_other cells1 level new R block other ∙ write_here (cells_in a A) level block L in
      let at_new : cells2 new ≡ R = write_here cells1 level new R in
      let all_parts : ArePartsAt a level (L ++ D) = subst (ArePartsAt a level) (sym whole) parts in
      let rowL = row_of a cells2 level block L low (Some (first_key D)) at_block order.2 size (all_left (λ (c : Cell). (length c.1 ≡ 33) × (is_part_at a level c.1 ≡ true)) L D all_parts) in
      let rowR = row_of a cells2 level new R (first_key D) high at_new order.3 size2.0.1
      (emptied_parts (λ p. (length p ≡ 33) × (is_part_at a level p ≡ true)) level D (all_right (λ (c : Cell). (length c.1 ≡ 33) × (is_part_at a level c.1 ≡ true)) L D all_parts)) in
      let first = store_access (a.start + block) [] (node_bytes a.size level L) in
      let B = put A first in
      let next = store_access (a.start + new) [] (node_bytes a.size level R) in
      let C = put B next in
      let hereL : block_at C (a.start + block) ≡ node_bytes a.size level L = other_block B next (a.start + block) (λ e. other (omega arith)) ∙ block_written a A block level L sized rowL.fit rowL.few (shape block below) in
      let hereR : block_at C (a.start + new) ≡ node_bytes a.size level R = block_written a B new level R sized rowR.fit rowR.few (length-block_put A first (a.start + new) ∙ shape new inside) in
      let kept : (k : ℕ) → IsIn k all → block_at C (a.start + k) ≡ block_at A (a.start + k) = λ k has.
      other_block B next (a.start + k) (λ e. fresh k has (omega arith)) ∙ other_block A first (a.start + k) (λ e. far k has (omega arith)) in
      let kids2 : AreBelow a A level (L ++ D) = subst (AreBelow a A level) (sym whole) kids_are in
      record {
        nodes = nodes_from a C level block L (ap (used_cells a.size) hereL ∙ cells_are a.size level L rowL.fit rowL.few) (subst (IsNode a level) (sym hereL) (row_is_node a level L rowL low_level))
            (below_same a A C level L (λ k has. kept k (subst (λ (l : List Cell). IsIn k (below_cells (cells_in a A) level l)) whole (in_left (cells_in a A) level L D k has))) (below_left a A level L D kids2));
        second = λ s e. subst (λ (j : ℕ). AreNodes a C level j) (ap (λ p. p.1) (same_some _ s e))
            (nodes_from a C level new R (ap (used_cells a.size) hereR ∙ cells_are a.size level R rowR.fit rowR.few) (subst (IsNode a level) (sym hereR) (row_is_node a level R rowR low_level))
            (below_same a A C level R (λ k has. kept k (subst (λ (l : List Cell). IsIn k (below_cells (cells_in a A) level l)) whole (in_right (cells_in a A) level L D k has))) (below_right a A level L D kids2)));
        places = λ k is. elim is [ inl e ↦ inl e | inr more ↦ elim more [ inl e ↦ inr (inl e) | inr never ↦ absurd never ] ];
        fits = ((rowL.fit, rowL.few, below), ((rowR.fit, rowR.few, inside), tt));
      }

  halves_has : (news : List ℕ) (low : List ℕ) (high : Option (List ℕ)) → ((b : ℕ) → IsIn b news → b < a.blocks) → IsApart ((block ∷ below_cells (cells_in a A) level cs) ++ news)
      → AreAfter (IsOrdered level) low low high (tree_at (written (cells_in a A) (halves n level block cs news).writes) level block) (second_kid (written (cells_in a A) (halves n level block cs news).writes) level (halves n level block cs news).second)
      → IsSized n level (tree_at (written (cells_in a A) (halves n level block cs news).writes) level block)
      → AreSized n level (second_kid (written (cells_in a A) (halves n level block cs news).writes) level (halves n level block cs news).second)
      → (halves n level block cs news).enough ≡ true → HasFit a level A block (halves n level block cs news)
  halves_has [] low high inside apart order size size2 enough = absurd (no_true enough)
  halves_has (new ∷ news) low high inside apart order size size2 enough = two_has new news low high (inside new (inl refl)) apart order size size2

  pub fit_has : (news : List ℕ) (low : List ℕ) (high : Option (List ℕ)) → ((b : ℕ) → IsIn b news → b < a.blocks) → IsApart ((block ∷ below_cells (cells_in a A) level cs) ++ news)
      → AreAfter (IsOrdered level) low low high (tree_at (written (cells_in a A) (fit n level block cs news).writes) level block) (second_kid (written (cells_in a A) (fit n level block cs news).writes) level (fit n level block cs news).second)
      → IsSized n level (tree_at (written (cells_in a A) (fit n level block cs news).writes) level block)
      → AreSized n level (second_kid (written (cells_in a A) (fit n level block cs news).writes) level (fit n level block cs news).second)
      → (fit n level block cs news).enough ≡ true → HasFit a level A block (fit n level block cs news)
  fit_has news low high inside apart order size size2 enough = grind (arith, one_has, halves_has) steps 100000
