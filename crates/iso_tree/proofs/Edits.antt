-- One leaf edited, and no other block changed: what a put into a found cell and a del do to a tree.
use Rattle.iso_tree.proofs.{Words.{◌≡◌, ◌≢◌, ◌∙◌, sym, refl, ap, subst, ℕ, zero, suc, true, false, cond, List, [], ◌∷◌, ◌++◌, map, Option, inl, inr, flat_map, append_assoc, append-nil, text_of, before, Cell, child_of, in_range, Tree, tree_at, pairs_in, nodes_in, IsApart, AreChildren, Rise, IsOrdered, IsIn}, Shapes.{kids, chosen, set_chosen, IsGrown, child_for}, Order.{set_ordered, set_grown, head_set, not_before_empty}, Blocks.{chosen_kid, chosen_in, set_one}, Climbs.{children_from, chosen_apart, child_ordered}}

-- the leaf that the descent of a key ends at
abbrev pub leaf_of : (ℕ → List Cell) → (key : List ℕ) → (level block : ℕ) → ℕ
leaf_of cells key zero block = block
leaf_of cells key (suc level) block = leaf_of cells key level (child_of (child_for key (cells block)))

-- a part of a list replaced
abbrev pub IsSwapped : {Y : Type 0} → List Y → List Y → List Y → List Y → Type 0
IsSwapped {Y} ms ms' old new = (xs : List Y) × (ys : List Y) × (old ≡ xs ++ (ms ++ ys)) × (new ≡ xs ++ (ms' ++ ys))

module _ {Y : Type 0} (ms ms' : List Y) where
  swapped_front : (front old new : List Y) → IsSwapped ms ms' old new → IsSwapped ms ms' (front ++ old) (front ++ new)
  swapped_front front old new is = (front ++ is.0, is.1, ap (λ l. front ++ l) is.2 ∙ sym (append_assoc front is.0 (ms ++ is.1)), ap (λ l. front ++ l) is.3 ∙ sym (append_assoc front is.0 (ms' ++ is.1)))

  swapped_back : (bs old new : List Y) → IsSwapped ms ms' old new → IsSwapped ms ms' (old ++ bs) (new ++ bs)
  swapped_back bs old new is = (
    is.0,
    is.1 ++ bs,
    ap (λ l. l ++ bs) is.2 ∙ append_assoc is.0 (ms ++ is.1) bs ∙ ap (λ l. is.0 ++ l) (append_assoc ms is.1 bs),
    ap (λ l. l ++ bs) is.3 ∙ append_assoc is.0 (ms' ++ is.1) bs ∙ ap (λ l. is.0 ++ l) (append_assoc ms' is.1 bs),
  )

set_swapped : {X Y : Type 0} (f : X → List Y) (ms ms' : List Y) (key : List ℕ) (t : X) (c : List ℕ × X) (cs : List (List ℕ × X))
    → IsSwapped ms ms' (f (chosen key c.1 cs)) (f t) → IsSwapped ms ms' (f c.1 ++ flat_map (λ x. f x.1) cs) (flat_map (λ x. f x.1) (set_chosen key t [] c cs))
set_swapped f ms ms' key t c [] is = swapped_back ms ms' [] (f c.1) (f t) is
set_swapped f ms ms' key t c (d ∷ ds) is =
    elim (before key d.0) as (λ b. IsSwapped ms ms' (f (cond b c.1 (chosen key d.1 ds))) (f t)
    → IsSwapped ms ms' (f c.1 ++ (f d.1 ++ flat_map (λ x. f x.1) ds)) (flat_map (λ x. f x.1) (cond b ((c.0, t) ∷ d ∷ ds) (c ∷ set_chosen key t [] d ds)))) [
      | true ↦ λ h. swapped_back ms ms' (f d.1 ++ flat_map (λ x. f x.1) ds) (f c.1) (f t) h
      | false ↦ λ h. swapped_front ms ms' (f c.1) (f d.1 ++ flat_map (λ x. f x.1) ds) (flat_map (λ x. f x.1) (set_chosen key t [] d ds)) (set_swapped f ms ms' key t d ds h)
    ] is

abbrev pub leaf_pairs : List Cell → List (List ℕ × List ℕ)
leaf_pairs cs = map (λ c. (c.0, text_of c.1)) cs

-- what an edit of the leaf makes of the tree
pub record IsEdited (level : ℕ) (cells cells' : ℕ → List Cell) (block : ℕ) (t : Tree level) (key : List ℕ) (leaf : ℕ) : Type 0 where
  pub ordered : (low : List ℕ) (high : Option (List ℕ)) → in_range low high key ≡ true → IsOrdered level low high t
      → ((lo : List ℕ) (hi : Option (List ℕ)) → in_range lo hi key ≡ true → Rise lo hi (cells leaf) → Rise lo hi (cells' leaf)) → IsOrdered level low high (tree_at cells' level block)
  pub pairs : IsSwapped (leaf_pairs (cells leaf)) (leaf_pairs (cells' leaf)) (pairs_in level t) (pairs_in level (tree_at cells' level block))
  pub nodes : IsGrown [] (nodes_in level t) (nodes_in level (tree_at cells' level block))

edit_leaf : (cells cells' : ℕ → List Cell) (block : ℕ) (key : List ℕ) → IsEdited zero cells cells' block (tree_at cells zero block) key block
edit_leaf cells cells' block key = record {
  ordered = λ low high inside is keeps. keeps low high inside is;
  pairs = ([], [], sym (append-nil (leaf_pairs (cells block))), sym (append-nil (leaf_pairs (cells' block))));
  nodes = refl;
}

edit_inner : (level : ℕ) (cells cells' : ℕ → List Cell) (block : ℕ) (key : List ℕ) (leaf : ℕ) (cs : List Cell) (low : List ℕ) (high : Option (List ℕ)) → cells' block ≡ cs
    → AreChildren (IsOrdered level) low high (kids cells level cs)
    → IsApart (flat_map (λ c. nodes_in level c.1) (kids cells level cs)) → ((k : ℕ) → k ≢ leaf → cells' k ≡ cells k)
    → IsIn leaf (nodes_in level (tree_at cells level (child_of (child_for key cs))))
    → IsEdited level cells cells' (child_of (child_for key cs)) (tree_at cells level (child_of (child_for key cs))) key leaf
    → IsEdited (suc level) cells cells' block (block, kids cells level cs) key leaf
edit_inner level cells cells' block key leaf [] low high here some apart kept inside is = absurd some
edit_inner level cells cells' block key leaf (c ∷ cs) low high here some apart kept inside is =
    let part = chosen key c.1 cs in
    let t1 = tree_at cells' level (child_of part) in
    let kid0 : List ℕ × Tree level = (c.0, tree_at cells level (child_of c.1)) in
    let row = kids cells level cs in
    let after = set_chosen key t1 [] kid0 row in
    let same : kids cells' level (c ∷ cs) ≡ after =
    set_one cells level key cells' c cs apart (λ k has other. kept k (λ e. other (subst (λ (j : ℕ). IsIn j (nodes_in level (tree_at cells level (child_of part)))) (sym e) inside))) in
    let tree : ◌≡◌ {A = Tree (suc level)} (tree_at cells' (suc level) block) (block, after) =
    ap (λ (l : List Cell). (block, kids cells' level l)) here ∙ ap (λ (ts : List (List ℕ × Tree level)). (block, ts)) same in
    let old = chosen_kid cells level key c cs in
    record {
      ordered = λ lo hi within order keeps. subst (IsOrdered (suc level) lo hi) (sym tree)
          (children_from (IsOrdered level) lo hi after (head_set key t1 [] kid0 row ∙ order.0)
          (set_ordered (IsOrdered level) key [] lo hi t1 [] kid0 row order.1 (not_before_empty lo) within
          (λ l h w was. is.ordered l h w (subst (IsOrdered level l h) old was) keeps)));
      pairs = subst (λ (t' : Tree (suc level)). IsSwapped (leaf_pairs (cells leaf)) (leaf_pairs (cells' leaf)) (flat_map (λ c. pairs_in level c.1) (kids cells level (c ∷ cs))) (pairs_in (suc level) t')) (sym tree)
          (set_swapped (pairs_in level) (leaf_pairs (cells leaf)) (leaf_pairs (cells' leaf)) key t1 kid0 row
          (subst (λ (t : Tree level). IsSwapped (leaf_pairs (cells leaf)) (leaf_pairs (cells' leaf)) (pairs_in level t) (pairs_in level t1)) (sym old) is.pairs));
      nodes = subst (λ (t' : Tree (suc level)). IsGrown [] (block ∷ flat_map (λ c. nodes_in level c.1) (kids cells level (c ∷ cs))) (nodes_in (suc level) t')) (sym tree)
          (ap (λ (l : List ℕ). block ∷ l) (set_grown (nodes_in level) [] key t1 [] kid0 row
          (subst (λ (t : Tree level). IsGrown [] (nodes_in level t) (nodes_in level t1 ++ [])) (sym old) (is.nodes ∙ sym (append-nil (nodes_in level t1))))));
    }

pub child_once : (cells : ℕ → List Cell) (level : ℕ) (key : List ℕ) (low : List ℕ) (high : Option (List ℕ)) (cs : List Cell) → AreChildren (IsOrdered level) low high (kids cells level cs)
    → IsApart (flat_map (λ c. nodes_in level c.1) (kids cells level cs)) → IsApart (nodes_in level (tree_at cells level (child_of (child_for key cs))))
child_once cells level key low high [] some apart = absurd some
child_once cells level key low high (c ∷ cs) some apart =
    subst (λ (t : Tree level). IsApart (nodes_in level t)) (chosen_kid cells level key c cs) (chosen_apart (nodes_in level) key (tree_at cells level (child_of c.1)) (kids cells level cs) apart)

pub child_reached : (cells : ℕ → List Cell) (level : ℕ) (key : List ℕ) (k : ℕ) (low : List ℕ) (high : Option (List ℕ)) (cs : List Cell) → AreChildren (IsOrdered level) low high (kids cells level cs)
    → IsIn k (nodes_in level (tree_at cells level (child_of (child_for key cs)))) → IsIn k (flat_map (λ c. nodes_in level c.1) (kids cells level cs))
child_reached cells level key k low high [] some is = absurd some
child_reached cells level key k low high (c ∷ cs) some is = chosen_in cells level key k c cs is

-- the leaf is reached
pub leaf_in : (cells : ℕ → List Cell) (key : List ℕ) (level block : ℕ) (low : List ℕ) (high : Option (List ℕ)) → IsOrdered level low high (tree_at cells level block)
    → IsIn (leaf_of cells key level block) (nodes_in level (tree_at cells level block))
leaf_in cells key zero block low high is = inl refl
leaf_in cells key (suc level) block low high is =
    let range = child_ordered cells level key low high (cells block) is in
    inr (child_reached cells level key (leaf_of cells key (suc level) block) low high (cells block) is
    (leaf_in cells key level (child_of (child_for key (cells block))) range.0 range.1 range.2))

-- an inner node on the way is not the leaf
pub not_leaf : (cells : ℕ → List Cell) (key : List ℕ) (level block : ℕ) (low : List ℕ) (high : Option (List ℕ)) → IsOrdered (suc level) low high (tree_at cells (suc level) block)
    → IsApart (nodes_in (suc level) (tree_at cells (suc level) block)) → block ≢ leaf_of cells key (suc level) block
not_leaf cells key level block low high order apart = λ e.
    let range = child_ordered cells level key low high (cells block) order in
    let inside = leaf_in cells key level (child_of (child_for key (cells block))) range.0 range.1 range.2 in
    apart.0 (subst (λ (j : ℕ). IsIn j (flat_map (λ c. nodes_in level c.1) (kids cells level (cells block)))) (sym e) (child_reached cells level key (leaf_of cells key (suc level) block) low high (cells block) order inside))

-- What an edit of the leaf of a key makes of the tree.
pub edit_is : (cells cells' : ℕ → List Cell) (key : List ℕ) (level block : ℕ) (low : List ℕ) (high : Option (List ℕ)) → IsOrdered level low high (tree_at cells level block)
    → IsApart (nodes_in level (tree_at cells level block)) → ((k : ℕ) → k ≢ leaf_of cells key level block → cells' k ≡ cells k)
    → IsEdited level cells cells' block (tree_at cells level block) key (leaf_of cells key level block)
edit_is cells cells' key zero block low high order apart kept = edit_leaf cells cells' block key
edit_is cells cells' key (suc level) block low high order apart kept =
    let child = child_of (child_for key (cells block)) in
    let range = child_ordered cells level key low high (cells block) order in
    edit_inner level cells cells' block key (leaf_of cells key (suc level) block) (cells block) low high (kept block (not_leaf cells key level block low high order apart)) order apart.1 kept (leaf_in cells key level child range.0 range.1 range.2)
    (edit_is cells cells' key level child range.0 range.1 range.2 (child_once cells level key low high (cells block) order apart.1) kept)
