-- The nodes that a put reads once more are those of its descent, and the way up over them is the put below the root.
use Rattle.iso_tree.proofs.{Words.{◌≡◌, ◌∙◌, sym, refl, ap, ℕ, zero, suc, ◌+◌, ◌<◌, ◌≤◌, true, List, [], ◌∷◌, map, take, length, Option, None, arith, inl, inr, AllByRecursion, flat_map, append-nil, Area, Array, own, IsIn, block_at, Program, accesses_of, cell_count, Cell, child_of, child_part, is_child, tree_at, nodes_in, IsOrdered, climb, climb_on, full_row, look_again, cells_in, AreNodes, AreWhole, all_append, in_cases}, Climbs.child_ordered, Enough.{path_below, counts, climb_below, climb_take}, Facts.child_below, Fits.cells_few, Putting.{child_all, node_children}, Shapes.{kids, child_for, put_below}}

-- the nodes of these blocks
abbrev pub nodes_at : (ℕ → List Cell) → List ℕ → List (ℕ × List Cell)
nodes_at cells blocks = map (λ b. (b, cells b)) blocks

pub again_own : {R : Type 0} (a : Area) (A : Array) (blocks : List ℕ) (f : List (ℕ × List Cell) → Program R)
    → own A (accesses_of (look_again a blocks f) A) ≡ own A (accesses_of (f (nodes_at (cells_in a A) blocks)) A)
again_own a A [] f = refl
again_own a A (b ∷ blocks) f = again_own a A blocks (λ nodes. f ((b, cells_in a A b) ∷ nodes))

pub again_whole : {R : Type 0} (a : Area) (A : Array) (blocks : List ℕ) (f : List (ℕ × List Cell) → Program R) → AreWhole A (accesses_of (f (nodes_at (cells_in a A) blocks)) A)
    → AreWhole A (accesses_of (look_again a blocks f) A)
again_whole a A [] f whole = whole
again_whole a A (b ∷ blocks) f whole = (λ write. absurd (Rattle.iso_tree.proofs.Facts.nothing_is write), again_whole a A blocks (λ nodes. f ((b, cells_in a A b) ∷ nodes)) whole)

-- THE PATH OF A DESCENT
pub path_true : (cells : ℕ → List Cell) (key : List ℕ) (level block : ℕ) → AllByRecursion (λ (w : ℕ × List Cell). w.1 ≡ cells w.0) (path_below cells key level block)
path_true cells key zero block = (refl, tt)
path_true cells key (suc level) block =
    all_append (λ (w : ℕ × List Cell). w.1 ≡ cells w.0) (path_below cells key level (child_of (child_for key (cells block)))) ((block, cells block) ∷ []) (path_true cells key level (child_of (child_for key (cells block)))) (refl, tt)

pub path_few : (a : Area) (A : Array) (key : List ℕ) (level block : ℕ) (low : List ℕ) (high : Option (List ℕ)) → AreNodes a A level block → IsOrdered level low high (tree_at (cells_in a A) level block)
    → AllByRecursion (λ (w : ℕ × List Cell). length w.1 ≤ cell_count a.size) (path_below (cells_in a A) key level block)
path_few a A key zero block low high nodes order = (cells_few a.size 0 (block_at A (a.start + block)) nodes.keys, tt)
path_few a A key (suc level) block low high nodes order =
    let cells = cells_in a A in
    let child = child_of (child_for key (cells block)) in
    let range = child_ordered cells level key low high (cells block) order in
    all_append (λ (w : ℕ × List Cell). length w.1 ≤ cell_count a.size) (path_below cells key level child) ((block, cells block) ∷ [])
    (path_few a A key level child range.0 range.1 (child_all (λ q. AreNodes a A level (child_of q)) cells key level low high (cells block) order nodes.1) range.2)
    (cells_few a.size (suc level) (block_at A (a.start + block)) nodes.0.keys, tt)

-- the nodes read once more are the first of the path
pub nodes_read : (cells : ℕ → List Cell) (k : ℕ) (nodes : List (ℕ × List Cell)) → AllByRecursion (λ (w : ℕ × List Cell). w.1 ≡ cells w.0) nodes → nodes_at cells (map (λ p. p.0) (take k (counts nodes))) ≡ take k nodes
nodes_read cells zero [] all = refl
nodes_read cells zero (w ∷ nodes) all = refl
nodes_read cells (suc k) [] all = refl
nodes_read cells (suc k) (w ∷ nodes) all = λ i. (w.0, sym all.0 i) ∷ nodes_read cells k nodes all.1 i

-- The way up over what was read.
pub way_is : (n : ℕ) (key value : List ℕ) (cells : ℕ → List Cell) (level block : ℕ) (news : List ℕ) → IsOrdered level [] None (tree_at cells level block)
    → AllByRecursion (λ (w : ℕ × List Cell). length w.1 ≤ n) (path_below cells key level block)
    → climb n key 0 (key, value) 0 (nodes_at cells (map (λ p. p.0) (take (suc (full_row n (counts (path_below cells key level block)))) (counts (path_below cells key level block))))) news
    ≡ climb_on (put_below n child_part cells key value level block news)
    (λ s. climb n key (suc level) (s.0, child_part s.1) block [] (put_below n child_part cells key value level block news).left) (put_below n child_part cells key value level block news).second
way_is n key value cells level block news order few =
    let nodes = path_below cells key level block in
    ap (λ (l : List (ℕ × List Cell)). climb n key 0 (key, value) 0 l news) (nodes_read cells (suc (full_row n (counts nodes))) nodes (path_true cells key level block))
    ∙ climb_take n key 0 (key, value) 0 nodes news few
    ∙ ap (λ (l : List (ℕ × List Cell)). climb n key 0 (key, value) 0 l news) (sym (append-nil nodes))
    ∙ climb_below n key value cells level block 0 [] None [] news order

-- THE BLOCKS THAT ARE REACHED
rows_inside : (a : Area) (A : Array) (level k : ℕ) (cs : List Cell)
    → ((block : ℕ) → AreNodes a A level block → 1 ≤ block → block < a.blocks → IsIn k (nodes_in level (tree_at (cells_in a A) level block)) → (1 ≤ k) × (k < a.blocks))
    → AllByRecursion (λ (c : Cell). is_child a.blocks c.1 ≡ true) cs → AllByRecursion (λ (c : Cell). AreNodes a A level (child_of c.1)) cs
    → IsIn k (flat_map (λ c. nodes_in level c.1) (kids (cells_in a A) level cs)) → (1 ≤ k) × (k < a.blocks)
rows_inside a A level k [] each parts all is = absurd is
rows_inside a A level k (c ∷ cs) each parts all is =
    elim (in_cases k (nodes_in level (tree_at (cells_in a A) level (child_of c.1))) (flat_map (λ c. nodes_in level c.1) (kids (cells_in a A) level cs)) is) [
      | inl first ↦ (let b = child_below a.blocks c.1 parts.0 in each (child_of c.1) all.0 b.some b.below first)
      | inr later ↦ rows_inside a A level k cs each parts.1 all.1 later
    ]

pub nodes_inside : (a : Area) (A : Array) (k level block : ℕ) → AreNodes a A level block → 1 ≤ block → block < a.blocks → IsIn k (nodes_in level (tree_at (cells_in a A) level block)) → (1 ≤ k) × (k < a.blocks)
nodes_inside a A k zero block nodes some below is = grind arith steps 100000
nodes_inside a A k (suc level) block nodes some below is = elim is [
  | inl here ↦ (omega (arith, here), omega (arith, here))
  | inr later ↦ rows_inside a A level k (cells_in a A block) (nodes_inside a A k level) (node_children a A level block nodes.0) nodes.1 later
]
