-- The cells of a node fit their places, and nodes stay nodes.
use Rattle.iso_tree.proofs.{Words.{◌≡◌, ◌⊎◌, ◌∙◌, sym, refl, ap, subst, ℕ, zero, suc, ◌+◌, ◌*◌, ◌<◌, ◌≤◌, ◌||◌, ◌==◌, Bool, true, List, [], ◌∷◌, length, drop, get_or, arith, inl, inr, AllByRecursion, and_parts, leb-true, nat_tests, length-take, length-drop, Area, Array, block_at, bytes_in, cell_count, keys_end, keys_mark, key_mark, value_mark, key_at, is_part, are_key_parts, all_at, IsBlock, FitCells, Cell, child_of, count_of, is_node, cells_by, used_cells, node_bytes, Rise, RiseAfter, cells_in, IsNode, AreNodes, IsTreeArea, block_size_is}, Bytes.{keys_are, cells_are, unused_values, count_is}, Passes.{Strict, StrictFrom, node_passes}, Facts.node_parts}

one_of : (size n : ℕ) (rest : Bool) → ((size == n) || rest) ≡ true → (size ≡ n) ⊎ (rest ≡ true)
one_of size n rest is = grind arith steps 100000

pub area_block : (a : Area) → IsTreeArea a → IsBlock a.size
area_block a area = block_size_is a.size area.block_size

-- what holds of each cell
cells_all : (P : Cell → Type 0) (keys : List ℕ) (value : ℕ → List ℕ) (i m : ℕ) → ((j : ℕ) → i ≤ j → j < i + m → P (key_at keys j, value j)) → AllByRecursion P (cells_by keys value i m)
cells_all P keys value i zero each = tt
cells_all P keys value i (suc m) each = (each i (omega arith) (omega arith), cells_all P keys value (i + 1) m (λ j from to. each j (omega arith) (omega arith)))

-- and back, at the value part of each
pub cells_at : (P : List ℕ → Type 0) (keys : List ℕ) (value : ℕ → List ℕ) (i m j : ℕ) → AllByRecursion (λ (c : Cell). P c.1) (cells_by keys value i m) → i ≤ j → j < i + m → P (value j)
cells_at P keys value i zero j all from to = absurd (omega arith)
cells_at P keys value i (suc m) j all from to = elim (Rattle.std.proofs.lemmas.Bool.cases_eq i j) [
  | inl here ↦ subst (λ (k : ℕ). P (value k)) here all.0
  | inr later ↦ cells_at P keys value (i + 1) m j all.1 (omega arith) (omega arith)
]

pub length-cells : (keys : List ℕ) (value : ℕ → List ℕ) (i m : ℕ) → length (cells_by keys value i m) ≡ m
length-cells keys value i zero = refl
length-cells keys value i (suc m) = ap suc (length-cells keys value (i + 1) m)

level_byte : (size l : ℕ) (keys : List ℕ) → is_node size l keys ≡ true → get_or keys 1 0 ≡ l
level_byte size l keys is =
    let head = (node_parts size l keys is).head in
    let two = (and_parts _ _ (and_parts _ _ head).0).0 in
    let test : (get_or keys 1 0 == l) ≡ true = (and_parts _ _ two).1 in
    grind (arith, nat_tests)

-- the cells of a node fit
pub cells_fit : (size level : ℕ) (block : List ℕ) → IsBlock size → length block ≡ size → is_node size level (bytes_in (keys_mark size) block) ≡ true → FitCells (used_cells size block)
cells_fit size level block sized long is =
    let K = bytes_in (keys_mark size) block in
    let parts = node_parts size level K is in
    cells_all (λ (c : Cell). (length c.0 ≤ 28) × (length c.1 ≡ 33)) K (λ i. bytes_in (value_mark size i) block) 0 (count_of K) (λ j from to.
    let part : is_part 28 (bytes_in (key_mark j) K) ≡ true = all_at (λ i. is_part 28 (bytes_in (key_mark i) K)) 0 (cell_count size) j parts.parts (omega arith) (omega (arith, parts.few)) in
    let short : get_or (bytes_in (key_mark j) K) 0 0 ≤ 28 = leb-true _ _ (and_parts _ _ part).0 in
    let few = parts.few in (
      omega (arith, short, length-take (get_or (bytes_in (key_mark j) K) 0 0) (drop 1 (bytes_in (key_mark j) K))),
      omega (arith, length-take 33 (drop (keys_end size + 33 * j) block), length-drop (keys_end size + 33 * j) block),
    ))

pub cells_few : (size level : ℕ) (block : List ℕ) → is_node size level (bytes_in (keys_mark size) block) ≡ true → length (used_cells size block) ≤ cell_count size
cells_few size level block is =
    let K = bytes_in (keys_mark size) block in
    omega (arith, (node_parts size level K is).few, length-cells K (λ i. bytes_in (value_mark size i) block) 0 (count_of K))

-- cells that rise are strict
strict_after : (last : List ℕ) (high : Rattle.std.proofs.Common.Option (List ℕ)) (cs : List Cell) → RiseAfter last high cs → StrictFrom last cs
strict_after last high [] is = tt
strict_after last high (c ∷ cs) is = (is.0, strict_after c.0 high cs is.2)

pub rise_strict : (low : List ℕ) (high : Rattle.std.proofs.Common.Option (List ℕ)) (cs : List Cell) → Rise low high cs → Strict cs
rise_strict low high [] is = tt
rise_strict low high (c ∷ cs) is = strict_after c.0 high cs is.1

-- the bytes of a leaf are a node
pub leaf_is_node : (a : Area) (cs : List Cell) → FitCells cs → length cs ≤ cell_count a.size → Strict cs → AllByRecursion (λ (c : Cell). is_part 32 c.1 ≡ true) cs → IsNode a 0 (node_bytes a.size 0 cs)
leaf_is_node a cs fit few strict parts =
    let B = node_bytes a.size 0 cs in
    let K = bytes_in (keys_mark a.size) B in
    let count : count_of K ≡ length cs = ap count_of (keys_are a.size 0 cs fit few) ∙ count_is a.size 0 cs fit few in
    record {
      keys = subst (λ (k : List ℕ). is_node a.size 0 k ≡ true) (sym (keys_are a.size 0 cs fit few)) (node_passes a.size 0 cs fit few strict (inl refl) (omega arith));
      used = λ i below. cells_at (λ p. is_part 32 p ≡ true) K (λ j. bytes_in (value_mark a.size j) B) 0 (count_of K) i (subst (AllByRecursion (λ (c : Cell). is_part 32 c.1 ≡ true)) (sym (cells_are a.size 0 cs fit few)) parts) (omega arith) (omega arith);
      unused = λ i from to. unused_values a.size 0 cs fit few i (omega arith) to;
    }

-- a node has one level
pub one_level : (size l m : ℕ) (keys : List ℕ) → is_node size l keys ≡ true → is_node size m keys ≡ true → l ≡ m
one_level size l m keys one two = sym (level_byte size l keys one) ∙ level_byte size m keys two

-- Nodes stay nodes where each block that is a node stays one, and those of inner nodes keep their cells.
nodes_all : (a : Area) (A B : Array) (level : ℕ) (cs : List Cell) → ((block : ℕ) → AreNodes a A level block → AreNodes a B level block)
    → AllByRecursion (λ (c : Cell). AreNodes a A level (child_of c.1)) cs → AllByRecursion (λ (c : Cell). AreNodes a B level (child_of c.1)) cs
nodes_all a A B level [] each all = tt
nodes_all a A B level (c ∷ cs) each all = (each (child_of c.1) all.0, nodes_all a A B level cs each all.1)

pub nodes_after : (a : Area) (A B : Array) → ((k l : ℕ) → IsNode a l (block_at A (a.start + k)) → IsNode a l (block_at B (a.start + k)))
    → ((k l : ℕ) → IsNode a (suc l) (block_at A (a.start + k)) → cells_in a B k ≡ cells_in a A k) → (level block : ℕ) → AreNodes a A level block → AreNodes a B level block
nodes_after a A B keeps same zero block is = keeps block 0 is
nodes_after a A B keeps same (suc level) block is = (
  keeps block (suc level) is.0,
  subst (AllByRecursion (λ (c : Cell). AreNodes a B level (child_of c.1))) (sym (same block level is.0)) (nodes_all a A B level (cells_in a A block) (nodes_after a A B keeps same level) is.1),
)

-- a key has at most 28 bytes
pub key_short : (size : ℕ) (keys : List ℕ) (i : ℕ) → are_key_parts size keys ≡ true → i < cell_count size → length (key_at keys i) ≤ 28
key_short size keys i parts below =
    let part : is_part 28 (bytes_in (key_mark i) keys) ≡ true = all_at (λ j. is_part 28 (bytes_in (key_mark j) keys)) 0 (cell_count size) i parts (omega arith) (omega arith) in
    let short : get_or (bytes_in (key_mark i) keys) 0 0 ≤ 28 = leb-true _ _ (and_parts _ _ part).0 in
    omega (arith, short, length-take (get_or (bytes_in (key_mark i) keys) 0 0) (drop 1 (bytes_in (key_mark i) keys)))
