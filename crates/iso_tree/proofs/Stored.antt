-- The writes of nodes on the array are the writes of cells, and a child's value part names it.
use Rattle.iso_tree.proofs.{Words.{◌≡◌, ◌∙◌, refl, ap, ℕ, ◌+◌, ◌-◌, ◌*◌, ◌^◌, ◌<◌, ◌≤◌, List, [], ◌∷◌, length, replicate, AllByRecursion, w32, to_be_bytes, from_be_bytes, take_at, from_be_bytes-to_be_bytes_4, Area, Array, put, own, block_at, Done, store_access, accesses_of, cell_count, FitCells, Cell, child_of, child_part, node_bytes, cells_in, store_nodes, length-block_put, ◌⊎◌, sym, subst, zero, suc, true, false, ◌++◌, map, arith, inl, inr, flat_map, IsIn, bytes_in, keys_mark, value_mark, written_block, other_block, IsBlock, count_of, is_node, used_cells, tree_at, nodes_in, IsApart, first_key, is_part_at, IsNode, AreNodes, laid_whole, in_front, in_back}, Blocks.{apart_parts, chosen_in}, Bytes.{cells_after, keys_are, cells_are, unused_values, count_is, length-node_bytes}, Fits.cells_at, Passes.{Strict, node_passes}, Shapes.{written, kids, chosen}}

pub child_named : (b : ℕ) → b < 2 ^ 32 → child_of (child_part b) ≡ b
child_named b low = ap (from_be_bytes w32) (take_at (to_be_bytes w32 b) (replicate (32 - length (to_be_bytes w32 b)) 0) 4 refl) ∙ from_be_bytes-to_be_bytes_4 b low

-- a write of a node that fits its block
abbrev pub FitWrite : Area → ℕ × ℕ × List Cell → Type 0
FitWrite a w = FitCells w.2 × (length w.2 ≤ cell_count a.size) × (w.0 < a.blocks)

-- The cells after the writes of nodes.
pub cells_written : {R : Type 0} (a : Area) (r : R) (ws : List (ℕ × ℕ × List Cell)) (A : Array) → 64 * (cell_count a.size + 1) ≡ a.size → AllByRecursion (FitWrite a) ws
    → ((k : ℕ) → k < a.blocks → length (block_at A (a.start + k)) ≡ a.size)
    → cells_in a (own A (accesses_of (store_nodes a ws (Done r)) A)) ≡ written (cells_in a A) ws
cells_written a r [] A fits all shape = refl
cells_written a r (w ∷ ws) A fits all shape =
    let access = store_access (a.start + w.0) [] (node_bytes a.size w.1 w.2) in
    cells_written a r ws (put A access) fits all.1 (λ k below. length-block_put A access (a.start + k) ∙ shape k below)
    ∙ ap (λ (cells : ℕ → List Cell). written cells ws) (cells_after a A w.1 w.0 w.2 all.0.0 all.0.1 fits (shape w.0 all.0.2))

-- The array after unmarked writes of nodes, and the nodes that stay as they were.
-- the array after these writes
abbrev pub stored : Area → Array → List (ℕ × ℕ × List Cell) → Array
stored a A [] = A
stored a A (w ∷ ws) = stored a (put A (store_access (a.start + w.0) [] (node_bytes a.size w.1 w.2))) ws

pub stored_own : {R : Type 0} (a : Area) (r : R) (ws : List (ℕ × ℕ × List Cell)) (A : Array) → own A (accesses_of (store_nodes a ws (Done r)) A) ≡ stored a A ws
stored_own a r [] A = refl
stored_own a r (w ∷ ws) A = stored_own a r ws (put A (store_access (a.start + w.0) [] (node_bytes a.size w.1 w.2)))

pub stored_append : (a : Area) (A : Array) (ws vs : List (ℕ × ℕ × List Cell)) → stored a A (ws ++ vs) ≡ stored a (stored a A ws) vs
stored_append a A [] vs = refl
stored_append a A (w ∷ ws) vs = stored_append a (put A (store_access (a.start + w.0) [] (node_bytes a.size w.1 w.2))) ws vs

-- the blocks that are written
abbrev pub spots : List (ℕ × ℕ × List Cell) → List ℕ
spots ws = map (λ w. w.0) ws

pub stored_shape : (a : Area) (A : Array) (ws : List (ℕ × ℕ × List Cell)) (b : ℕ) → length (block_at (stored a A ws) b) ≡ length (block_at A b)
stored_shape a A [] b = refl
stored_shape a A (w ∷ ws) b =
    let access = store_access (a.start + w.0) [] (node_bytes a.size w.1 w.2) in
    stored_shape a (put A access) ws b ∙ length-block_put A access b

pub stored_kept : (a : Area) (A : Array) (ws : List (ℕ × ℕ × List Cell)) (k : ℕ) → (IsIn k (spots ws) → ⊥) → block_at (stored a A ws) (a.start + k) ≡ block_at A (a.start + k)
stored_kept a A [] k none = refl
stored_kept a A (w ∷ ws) k none =
    let access = store_access (a.start + w.0) [] (node_bytes a.size w.1 w.2) in
    stored_kept a (put A access) ws k (λ is. none (inr is)) ∙ other_block A access (a.start + k) (λ e. none (inl (omega arith)))

pub stored_cells : (a : Area) (ws : List (ℕ × ℕ × List Cell)) (A : Array) → IsBlock a.size → AllByRecursion (FitWrite a) ws → ((k : ℕ) → k < a.blocks → length (block_at A (a.start + k)) ≡ a.size)
    → cells_in a (stored a A ws) ≡ written (cells_in a A) ws
stored_cells a ws A sized all shape = sym (ap (cells_in a) (stored_own a zero ws A)) ∙ cells_written a zero ws A sized.whole all shape

pub stored_in : (a : Area) (A : Array) (ws : List (ℕ × ℕ × List Cell)) → ((k : ℕ) → k < a.blocks → length (block_at A (a.start + k)) ≡ a.size)
    → (k : ℕ) → k < a.blocks → length (block_at (stored a A ws) (a.start + k)) ≡ a.size
stored_in a A ws shape k below = stored_shape a A ws (a.start + k) ∙ shape k below

-- a block that was written whole
pub block_written : (a : Area) (A : Array) (block level : ℕ) (cs : List Cell) → IsBlock a.size → FitCells cs → length cs ≤ cell_count a.size → length (block_at A (a.start + block)) ≡ a.size
    → block_at (put A (store_access (a.start + block) [] (node_bytes a.size level cs))) (a.start + block) ≡ node_bytes a.size level cs
block_written a A block level cs sized fit few long =
    written_block A (store_access (a.start + block) [] (node_bytes a.size level cs))
    ∙ laid_whole (block_at A (a.start + block)) (node_bytes a.size level cs) (length-node_bytes a.size level cs fit few sized.whole ∙ sym long)

-- NODES THAT STAY
module _ (a : Area) (A B : Array) where
  abbrev Same : ℕ → Type 0
  Same k = block_at B (a.start + k) ≡ block_at A (a.start + k)

  abbrev nodes_below : (level : ℕ) → List Cell → List ℕ
  nodes_below level cs = flat_map (λ c. nodes_in level c.1) (kids (cells_in a A) level cs)

  rows_same : (level : ℕ) (cs : List Cell)
      → ((block : ℕ) → ((k : ℕ) → IsIn k (nodes_in level (tree_at (cells_in a A) level block)) → Same k) → AreNodes a A level block → AreNodes a B level block)
      → ((k : ℕ) → IsIn k (nodes_below level cs) → Same k) → AllByRecursion (λ (c : Cell). AreNodes a A level (child_of c.1)) cs → AllByRecursion (λ (c : Cell). AreNodes a B level (child_of c.1)) cs
  rows_same level [] each kept all = tt
  rows_same level (c ∷ cs) each kept all = (
    each (child_of c.1) (λ k is. kept k (in_front k (nodes_in level (tree_at (cells_in a A) level (child_of c.1))) _ is)) all.0,
    rows_same level cs each (λ k is. kept k (in_back k (nodes_in level (tree_at (cells_in a A) level (child_of c.1))) _ is)) all.1,
  )

  pub nodes_same : (level block : ℕ) → ((k : ℕ) → IsIn k (nodes_in level (tree_at (cells_in a A) level block)) → Same k) → AreNodes a A level block → AreNodes a B level block
  nodes_same zero block kept is = subst (IsNode a 0) (sym (kept block (inl refl))) is
  nodes_same (suc level) block kept is = (
    subst (IsNode a (suc level)) (sym (kept block (inl refl))) is.0,
    subst (AllByRecursion (λ (c : Cell). AreNodes a B level (child_of c.1))) (sym (ap (used_cells a.size) (kept block (inl refl))))
        (rows_same level (cells_in a A block) (nodes_same level) (λ k has. kept k (inr has)) is.1),
  )

  pub row_same : (level : ℕ) (cs : List Cell) → ((k : ℕ) → IsIn k (nodes_below level cs) → Same k) → AllByRecursion (λ (c : Cell). AreNodes a A level (child_of c.1)) cs
      → AllByRecursion (λ (c : Cell). AreNodes a B level (child_of c.1)) cs
  row_same level cs kept all = rows_same level cs (nodes_same level) kept all

  -- the children, where that of a key alone changed
  pub row_kept : (level : ℕ) (key : List ℕ) (c : Cell) (cs : List Cell) → IsApart (nodes_below level (c ∷ cs))
      → ((k : ℕ) → IsIn k (nodes_below level (c ∷ cs)) → (IsIn k (nodes_in level (tree_at (cells_in a A) level (child_of (chosen key c.1 cs)))) → ⊥) → Same k)
      → AllByRecursion (λ (c : Cell). AreNodes a A level (child_of c.1)) (c ∷ cs) → AreNodes a B level (child_of (chosen key c.1 cs))
      → AllByRecursion (λ (c : Cell). AreNodes a B level (child_of c.1)) (c ∷ cs)
  row_kept level key c [] apart kept all new = (new, tt)
  row_kept level key c (d ∷ ds) apart kept all new =
      let first = nodes_in level (tree_at (cells_in a A) level (child_of c.1)) in
      let parts = apart_parts first (nodes_below level (d ∷ ds)) apart in
      elim (Rattle.store_model.specs.TreeNodes.before key d.0) as (λ b.
      ((k : ℕ) → IsIn k (nodes_below level (c ∷ d ∷ ds)) → (IsIn k (nodes_in level (tree_at (cells_in a A) level (child_of (Rattle.std.proofs.Common.cond b c.1 (chosen key d.1 ds))))) → ⊥) → Same k)
      → AreNodes a B level (child_of (Rattle.std.proofs.Common.cond b c.1 (chosen key d.1 ds))) → AllByRecursion (λ (c : Cell). AreNodes a B level (child_of c.1)) (c ∷ d ∷ ds)) [
        | true ↦ λ h is. (is, row_same level (d ∷ ds) (λ k has. h k (in_back k first _ has) (λ mine. parts.2 k mine has)) all.1)
        | false ↦ λ h is. (
          nodes_same level (child_of c.1) (λ k has. h k (in_front k first _ has) (λ other. parts.2 k has (chosen_in (cells_in a A) level key k d ds other))) all.0,
          row_kept level key d ds parts.1 (λ k has not. h k (in_back k first _ has) not) all.1 is,
        )
      ] kept new

-- NODES THAT ARE WRITTEN
-- what the cells of a node keep
pub record IsRow (a : Area) (level : ℕ) (cs : List Cell) : Type 0 where
  pub fit : FitCells cs
  pub few : length cs ≤ cell_count a.size
  pub strict : Strict cs
  pub kind : (level ≡ 0) ⊎ ((2 ≤ length cs) × (first_key cs ≡ []))
  pub parts : AllByRecursion (λ (c : Cell). is_part_at a level c.1 ≡ true) cs

pub row_is_node : (a : Area) (level : ℕ) (cs : List Cell) → IsRow a level cs → level < 31 → IsNode a level (node_bytes a.size level cs)
row_is_node a level cs row low =
    let B = node_bytes a.size level cs in
    let K = bytes_in (keys_mark a.size) B in
    let count : count_of K ≡ length cs = ap count_of (keys_are a.size level cs row.fit row.few) ∙ count_is a.size level cs row.fit row.few in
    record {
      keys = subst (λ (k : List ℕ). is_node a.size level k ≡ true) (sym (keys_are a.size level cs row.fit row.few)) (node_passes a.size level cs row.fit row.few row.strict row.kind low);
      used = λ i below. cells_at (λ p. is_part_at a level p ≡ true) K (λ j. bytes_in (value_mark a.size j) B) 0 (count_of K) i
          (subst (AllByRecursion (λ (c : Cell). is_part_at a level c.1 ≡ true)) (sym (cells_are a.size level cs row.fit row.few)) row.parts) (omega arith) (omega arith);
      unused = λ i from to. unused_values a.size level cs row.fit row.few i (omega arith) to;
    }
