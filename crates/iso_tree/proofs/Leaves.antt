-- The leaf of a key: what it has of the tree, and where a descent ends.
use Rattle.iso_tree.proofs.{Words.{◌≡◌, ◌≢◌, ◌∙◌, sym, refl, ap, subst, ℕ, zero, suc, ◌+◌, ◌<◌, ◌≤◌, ◌&&◌, Bool, true, false, cond, List, [], ◌∷◌, ◌++◌, length, Option, Some, None, arith, flat_map, and_parts, append_assoc, map-append, Area, Array, block_at, Program, Done, bytes_in, further_bytes, answer_of, keys_mark, value_mark, Cell, child_of, count_of, is_node, is_child, place_of, cells_by, Tree, tree_at, pairs_in, nodes_in, IsApart, Rise, AreChildren, IsOrdered, Descent, AtLeaf, AtBroken, descend, inner_further, leaf_further, cells_in, IsNode, AreNodes, found_in}, Blocks.chosen_kid, Climbs.child_ordered, Edits.{not_leaf, leaf_of, leaf_pairs, child_once}, Enough.{path_below, counts}, Facts.child_below, Fits.length-cells, Gets.{found_chosen, ordered_in, parts_all, IsChosen, chosen_is}, Shapes.{kids, child_for}}

-- a key below an inner node is below the child that is chosen
child_found : (cells : ℕ → List Cell) (key : List ℕ) (level : ℕ) (low : List ℕ) (high : Option (List ℕ)) (cs : List Cell) → AreChildren (IsOrdered level) low high (kids cells level cs)
    → found_in key (flat_map (λ c. pairs_in level c.1) (kids cells level cs)) ≡ found_in key (pairs_in level (tree_at cells level (child_of (child_for key cs))))
child_found cells key level low high [] is = absurd is
child_found cells key level low high (c ∷ cs) is =
    found_chosen (IsOrdered level) (pairs_in level) (ordered_in level) key [] low high (tree_at cells level (child_of c.1)) (kids cells level cs) is.1
    ∙ ap (λ (t : Tree level). found_in key (pairs_in level t)) (chosen_kid cells level key c cs)

-- A key of the tree is in its leaf.
pub found_leaf : (cells : ℕ → List Cell) (key : List ℕ) (level block : ℕ) (low : List ℕ) (high : Option (List ℕ)) → IsOrdered level low high (tree_at cells level block)
    → found_in key (pairs_in level (tree_at cells level block)) ≡ found_in key (leaf_pairs (cells (leaf_of cells key level block)))
found_leaf cells key zero block low high is = refl
found_leaf cells key (suc level) block low high is =
    let range = child_ordered cells level key low high (cells block) is in
    child_found cells key level low high (cells block) is ∙ found_leaf cells key level (child_of (child_for key (cells block))) range.0 range.1 range.2

-- The leaf stays the leaf where it alone is changed.
pub leaf_stays : (cells cells' : ℕ → List Cell) (key : List ℕ) (level block : ℕ) (low : List ℕ) (high : Option (List ℕ)) → IsOrdered level low high (tree_at cells level block)
    → IsApart (nodes_in level (tree_at cells level block)) → ((k : ℕ) → k ≢ leaf_of cells key level block → cells' k ≡ cells k)
    → leaf_of cells' key level block ≡ leaf_of cells key level block
leaf_stays cells cells' key zero block low high is apart kept = refl
leaf_stays cells cells' key (suc level) block low high is apart kept =
    let range = child_ordered cells level key low high (cells block) is in
    ap (λ (cs : List Cell). leaf_of cells' key level (child_of (child_for key cs))) (kept block (not_leaf cells key level block low high is apart))
    ∙ leaf_stays cells cells' key level (child_of (child_for key (cells block))) range.0 range.1 range.2 (child_once cells level key low high (cells block) is apart.1) kept

-- where a descent of a key ends
pub record EndsAtLeaf (a : Area) (A : Array) (key : List ℕ) (level block : ℕ) (path : List (ℕ × ℕ)) : Type 0 where
  pub passed : List (ℕ × ℕ)
  pub value : List ℕ
  pub ends : answer_of (descend a key false level block path) A ≡ AtLeaf passed (leaf_of (cells_in a A) key level block) (bytes_in (keys_mark a.size) (block_at A (a.start + leaf_of (cells_in a A) key level block))) value
  pub node : IsNode a 0 (block_at A (a.start + leaf_of (cells_in a A) key level block))
  pub some : 1 ≤ leaf_of (cells_in a A) key level block
  pub below : leaf_of (cells_in a A) key level block < a.blocks
  pub way : (leaf_of (cells_in a A) key level block, count_of (bytes_in (keys_mark a.size) (block_at A (a.start + leaf_of (cells_in a A) key level block)))) ∷ passed ≡ counts (path_below (cells_in a A) key level block) ++ path

pub ends_at_leaf : (a : Area) (A : Array) (key : List ℕ) (level block : ℕ) (path : List (ℕ × ℕ)) (low : List ℕ) (high : Option (List ℕ))
    → AreNodes a A level block → IsOrdered level low high (tree_at (cells_in a A) level block) → 1 ≤ block → block < a.blocks → EndsAtLeaf a A key level block path
ends_at_leaf a A key zero block path low high nodes order some below =
    let B = block_at A (a.start + block) in
    let K = bytes_in (keys_mark a.size) B in
    record {
      passed = path;
      value = [];
      ends = ap (λ (t : Bool). answer_of (cond t (Done (AtLeaf path block K [])) (Done (AtBroken (a.start + block)))) A) nodes.keys;
      node = nodes;
      some = some;
      below = below;
      way = ap (λ (m : ℕ). (block, m) ∷ path) (sym (length-cells K (λ i. bytes_in (value_mark a.size i) B) 0 (count_of K)));
    }
ends_at_leaf a A key (suc level) block path low high nodes order some below =
    let B = block_at A (a.start + block) in
    let K = bytes_in (keys_mark a.size) B in
    let V : ℕ → List ℕ = λ i. bytes_in (value_mark a.size i) B in
    let p = place_of key K in
    let is : IsChosen a A level key (cells_by K V 0 (count_of K)) (V p) = chosen_is a A level key low high K V (count_of K) order (parts_all (λ q. is_child a.blocks q ≡ true) K V 0 (count_of K) (λ j from to. nodes.0.used j (omega arith))) nodes.1 in
    let bounds = child_below a.blocks (V p) is.child in
    let next = ends_at_leaf a A key level (child_of (V p)) ((block, count_of K) ∷ path) is.range.0 is.range.1 is.nodes is.range.2 bounds.some bounds.below in
    let same : child_of (V p) ≡ child_of (child_for key (cells_by K V 0 (count_of K))) = ap child_of (sym is.same) in
    let val : Bool → List ℕ = λ t. further_bytes (cond t (Some (value_mark a.size p)) None) B in
    let body : Bool → Bool → Program Descent = λ t u. cond (t && u) (descend a key false level (child_of (val t)) ((block, count_of K) ∷ path)) (Done (AtBroken (a.start + block))) in
    let step : answer_of (descend a key false (suc level) block path) A ≡ answer_of (descend a key false level (child_of (V p)) ((block, count_of K) ∷ path)) A =
    ap (λ (t : Bool). answer_of (body t (is_child a.blocks (val t))) A) nodes.0.keys ∙ ap (λ (u : Bool). answer_of (body true u) A) is.child in
    record {
      passed = next.passed;
      value = next.value;
      ends = step ∙ subst (λ (c : ℕ). answer_of (descend a key false level (child_of (V p)) ((block, count_of K) ∷ path)) A
          ≡ AtLeaf next.passed (leaf_of (cells_in a A) key level c) (bytes_in (keys_mark a.size) (block_at A (a.start + leaf_of (cells_in a A) key level c))) next.value) same next.ends;
      node = subst (λ (c : ℕ). IsNode a 0 (block_at A (a.start + leaf_of (cells_in a A) key level c))) same next.node;
      some = subst (λ (c : ℕ). 1 ≤ leaf_of (cells_in a A) key level c) same next.some;
      below = subst (λ (c : ℕ). leaf_of (cells_in a A) key level c < a.blocks) same next.below;
      way = subst (λ (c : ℕ). (leaf_of (cells_in a A) key level c, count_of (bytes_in (keys_mark a.size) (block_at A (a.start + leaf_of (cells_in a A) key level c)))) ∷ next.passed
          ≡ counts (path_below (cells_in a A) key level c) ++ (block, count_of K) ∷ path) same next.way
          ∙ ap (λ (m : ℕ). counts (path_below (cells_in a A) key level (child_of (child_for key (cells_by K V 0 (count_of K))))) ++ (block, m) ∷ path) (sym (length-cells K V 0 (count_of K)))
          ∙ sym (append_assoc (counts (path_below (cells_in a A) key level (child_of (child_for key (cells_by K V 0 (count_of K)))))) ((block, length (cells_by K V 0 (count_of K))) ∷ []) path)
          ∙ ap (λ l. l ++ path) (sym (map-append (λ (w : ℕ × List Cell). (w.0, length w.1)) (path_below (cells_in a A) key level (child_of (child_for key (cells_by K V 0 (count_of K))))) ((block, cells_by K V 0 (count_of K)) ∷ [])));
    }

-- the leaf's cells rise in some range
pub leaf_rises : (cells : ℕ → List Cell) (key : List ℕ) (level block : ℕ) (low : List ℕ) (high : Option (List ℕ)) → IsOrdered level low high (tree_at cells level block)
    → (lo : List ℕ) × (hi : Option (List ℕ)) × Rise lo hi (cells (leaf_of cells key level block))
leaf_rises cells key zero block low high is = (low, high, is)
leaf_rises cells key (suc level) block low high is =
    let range = child_ordered cells level key low high (cells block) is in
    leaf_rises cells key level (child_of (child_for key (cells block))) range.0 range.1 range.2

-- The leaf that a descent ends at, on whatever array: it was tested.
pub record IsLanded (a : Area) (A : Array) (leaf : ℕ) (keys : List ℕ) : Type 0 where
  pub below : leaf < a.blocks
  pub keys_are : keys ≡ bytes_in (keys_mark a.size) (block_at A (a.start + leaf))
  pub node : is_node a.size 0 (bytes_in (keys_mark a.size) (block_at A (a.start + leaf))) ≡ true

abbrev pub HasLanded : Area → Array → Descent → Type 0
HasLanded a A (AtLeaf path leaf keys value) = IsLanded a A leaf keys
HasLanded a A (AtBroken block) = Unit {0}

lands_if : (a : Area) (A : Array) (p : Program Descent) (broken : ℕ) (t : Bool) → (t ≡ true → HasLanded a A (answer_of p A)) → HasLanded a A (answer_of (cond t p (Done (AtBroken broken))) A)
lands_if a A p broken true is = is refl
lands_if a A p broken false is = tt

pub lands : (a : Area) (A : Array) (key : List ℕ) (with_value : Bool) (level block : ℕ) (path : List (ℕ × ℕ)) → block < a.blocks → HasLanded a A (answer_of (descend a key with_value level block path) A)
lands a A key with_value zero block path below =
    let B = block_at A (a.start + block) in
    let K = bytes_in (keys_mark a.size) B in
    lands_if a A (Done (AtLeaf path block K (further_bytes (leaf_further a key with_value K) B))) (a.start + block) (is_node a.size 0 K) (λ is. record { below = below; keys_are = refl; node = is })
lands a A key with_value (suc level) block path below =
    let B = block_at A (a.start + block) in
    let K = bytes_in (keys_mark a.size) B in
    let part = further_bytes (inner_further a key (suc level) K) B in
    lands_if a A (descend a key with_value level (child_of part) ((block, count_of K) ∷ path)) (a.start + block) (is_node a.size (suc level) K && is_child a.blocks part)
    (λ is. lands a A key with_value level (child_of part) ((block, count_of K) ∷ path) (child_below a.blocks part (and_parts (is_node a.size (suc level) K) (is_child a.blocks part) is).1).below)
