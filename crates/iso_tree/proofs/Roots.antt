-- A put at the root: the tree that the region holds after it, and its map.
use Rattle.iso_tree.proofs.{Words.{◌≡◌, ◌≢◌, ◌∙◌, sym, refl, ap, subst, ℕ, suc, cond, not, List, [], ◌∷◌, ◌++◌, Option, Some, None, inl, inr, flat_map, AllByRecursion, nat_cmp, eq_by_cmp, slice_cmp, nat_list_cmp_total, FinMap, from_entries, insert, get-from_entries, get-insert, same_map, slice_cmp-IsAntisymmetric, nat_cmp-IsAntisymmetric, cases_Bool, bytes_eq-Decides, append-nil, or_else, text_of, Cell, child_of, Tree, tree_at, pairs_in, nodes_in, IsApart, AreAfter, IsOrdered, Put, IsIn, found_in, find_append, ties, not_bytes_eq, in_front, in_back}, Shapes.{kids, IsAdded, IsGrown, write_cells, second_kid}, Order.{grown_more, not_before_empty}, Blocks.{apart_parts, grown_apart, tree_same}, Splits.{write_here, write_other}, Climbs.IsPut}

-- what a put leaves at the root
pub record IsRooted (old_level : ℕ) (old : Tree old_level) (level : ℕ) (new : Tree level) (key value : List ℕ) (taken : List ℕ) : Type 0 where
  pub ordered : IsOrdered level [] None new
  pub pairs : IsGrown ((key, text_of value) ∷ []) (pairs_in old_level old) (pairs_in level new)
  pub nodes : IsGrown taken (nodes_in old_level old) (nodes_in level new)

-- where the root is not split
pub same_root : (n level : ℕ) (cells cells' : ℕ → List Cell) (root : ℕ) (t : Tree level) (key value : List ℕ) (news : List ℕ) (p : Put) → IsOrdered level [] None t
    → IsPut n level cells cells' root t key value news p → p.second ≡ None → IsRooted level t level (tree_at cells' level root) key value p.taken
same_root n level cells cells' root t key value news p old is none = record {
  ordered = subst (λ (s : Option (List ℕ × ℕ)). AreAfter (IsOrdered level) [] [] None (tree_at cells' level root) (second_kid cells' level s)) none
      (is.ordered [] None (ap not (not_before_empty key)) old);
  pairs = subst (λ (l : List (List ℕ × List ℕ)). IsGrown ((key, text_of value) ∷ []) (pairs_in level t) l)
      (ap (λ (s : Option (List ℕ × ℕ)). pairs_in level (tree_at cells' level root) ++ flat_map (λ c. pairs_in level c.1) (second_kid cells' level s)) none ∙ append-nil (pairs_in level (tree_at cells' level root))) is.pairs;
  nodes = subst (λ (l : List ℕ). IsGrown p.taken (nodes_in level t) l)
      (ap (λ (s : Option (List ℕ × ℕ)). nodes_in level (tree_at cells' level root) ++ flat_map (λ c. nodes_in level c.1) (second_kid cells' level s)) none ∙ append-nil (nodes_in level (tree_at cells' level root))) is.nodes;
}

-- where it is, with a new root over the two
pub new_root : (n level : ℕ) (part : ℕ → List ℕ) (cells cells' : ℕ → List Cell) (root r : ℕ) (rest : List ℕ) (s : List ℕ × ℕ) (t : Tree level) (key value : List ℕ) (news : List ℕ) (p : Put) → IsOrdered level [] None t
    → IsApart (nodes_in level t ++ news) → IsPut n level cells cells' root t key value news p → p.second ≡ Some s → p.left ≡ r ∷ rest → child_of (part root) ≡ root → child_of (part s.1) ≡ s.1
    → IsRooted level t (suc level) (tree_at (write_cells cells' (r, suc level, ([], part root) ∷ (s.0, part s.1) ∷ [])) (suc level) r) key value (p.taken ++ r ∷ [])
new_root n level part cells cells' root r rest s t key value news p old apart is some left named named2 =
    let cs : List Cell = ([], part root) ∷ (s.0, part s.1) ∷ [] in
    let cells2 = write_cells cells' (r, suc level, cs) in
    let t1 = tree_at cells' level root in
    let t2 = tree_at cells' level s.1 in
    let both : List ℕ = nodes_in level t1 ++ (nodes_in level t2 ++ []) in
    let grown : IsGrown p.taken (nodes_in level t) both =
    subst (λ (o : Option (List ℕ × ℕ)). IsGrown p.taken (nodes_in level t) (nodes_in level t1 ++ flat_map (λ c. nodes_in level c.1) (second_kid cells' level o))) some is.nodes in
    let fresh : IsApart (both ++ r ∷ rest) =
    subst (λ (l : List ℕ). IsApart (both ++ l)) left
    (grown_apart p.taken (nodes_in level t) both p.left grown (subst (λ (l : List ℕ). IsApart (nodes_in level t ++ l)) is.blocks apart)) in
    let kept : (k : ℕ) → IsIn k both → cells2 k ≡ cells' k = λ k has.
    write_other cells' (suc level) r cs k (λ e. (apart_parts both (r ∷ rest) fresh).2 k has (inl (sym e))) in
    let first : tree_at cells2 level (child_of (part root)) ≡ t1 =
    ap (tree_at cells2 level) named ∙ tree_same cells' cells2 level root (λ k has. kept k (in_front k (nodes_in level t1) _ has)) in
    let second : tree_at cells2 level (child_of (part s.1)) ≡ t2 =
    ap (tree_at cells2 level) named2 ∙ tree_same cells' cells2 level s.1 (λ k has. kept k (in_back k (nodes_in level t1) _ (in_front k (nodes_in level t2) [] has))) in
    let tree : ◌≡◌ {A = Tree (suc level)} (tree_at cells2 (suc level) r) (r, ([], t1) ∷ (s.0, t2) ∷ []) =
    ap (λ (l : List Cell). (r, kids cells2 level l)) (write_here cells' (suc level) r cs) ∙ (λ i. (r, ([], first i) ∷ (s.0, second i) ∷ [])) in
    record {
      ordered = subst (IsOrdered (suc level) [] None) (sym tree)
          (refl, subst (λ (o : Option (List ℕ × ℕ)). AreAfter (IsOrdered level) [] [] None t1 (second_kid cells' level o)) some (is.ordered [] None (ap not (not_before_empty key)) old));
      pairs = subst (λ (t' : Tree (suc level)). IsGrown ((key, text_of value) ∷ []) (pairs_in level t) (pairs_in (suc level) t')) (sym tree)
          (subst (λ (o : Option (List ℕ × ℕ)). IsGrown ((key, text_of value) ∷ []) (pairs_in level t) (pairs_in level t1 ++ flat_map (λ c. pairs_in level c.1) (second_kid cells' level o))) some is.pairs);
      nodes = subst (λ (t' : Tree (suc level)). IsGrown (p.taken ++ r ∷ []) (nodes_in level t) (nodes_in (suc level) t')) (sym tree)
          (grown_more p.taken (r ∷ []) (nodes_in level t) both (r ∷ both) grown (r ∷ both, ([], both, refl, refl), refl));
    }

lacks_found : (key : List ℕ) (pairs : List (List ℕ × List ℕ)) → AllByRecursion (λ (pair : List ℕ × List ℕ). key ≢ pair.0) pairs → found_in key pairs ≡ None
lacks_found key [] all = refl
lacks_found key (pair ∷ pairs) all =
    rw (ties key pair.0 ∙ not_bytes_eq key pair.0 all.0) (lacks_found key pairs all.1)

or_else_some : (o : Option (List ℕ)) (q : Option (List ℕ)) → o ≡ None → or_else o q ≡ q
or_else_some o q e = ap (λ x. or_else x q) e

first_none : (o q : Option (List ℕ)) → or_else o q ≡ None → o ≡ None
first_none None q e = refl
first_none (Some x) q e = e

-- a look-up after a pair came in
pub find_added : (key text q : List ℕ) (old new : List (List ℕ × List ℕ)) → found_in key old ≡ None → IsAdded (key, text) old new
    → found_in q new ≡ cond (eq_by_cmp (slice_cmp nat_cmp) q key) (Some text) (found_in q old)
find_added key text q old new lacks is =
    let xs = is.0 in
    let ys = is.1 in
    let none : found_in key xs ≡ None = first_none (found_in key xs) (found_in key ys) (sym (find_append key xs ys) ∙ ap (found_in key) (sym is.2) ∙ lacks) in
    ap (found_in q) is.3 ∙ find_append q xs ((key, text) ∷ ys)
    ∙ elim (cases_Bool (eq_by_cmp (slice_cmp nat_cmp) q key)) [
      | inl here ↦
          (let same : q ≡ key = (bytes_eq-Decides q key).0 (sym (ties q key) ∙ here) in
          rw here (or_else_some (found_in q xs) (Some text) (ap (λ k. found_in k xs) same ∙ none)))
      | inr other ↦ rw other (sym (find_append q xs ys) ∙ ap (found_in q) (sym is.2))
    ]

-- The map after a put.
pub map_put : (key text : List ℕ) (old new : List (List ℕ × List ℕ)) → AllByRecursion (λ (pair : List ℕ × List ℕ). key ≢ pair.0) old → IsGrown ((key, text) ∷ []) old new
    → ◌≡◌ {A = FinMap (slice_cmp nat_cmp) (List ℕ)} (from_entries new) (insert (from_entries old) key text)
map_put key text old new lacks is =
    same_map nat_list_cmp_total (slice_cmp-IsAntisymmetric nat_cmp-IsAntisymmetric) (from_entries new) (insert (from_entries old) key text) (λ q.
    get-from_entries nat_list_cmp_total new q
    ∙ ap (found_in q) (sym is.2)
    ∙ find_added key text q old is.0 (lacks_found key old lacks) is.1
    ∙ ap (λ o. cond (eq_by_cmp (slice_cmp nat_cmp) q key) (Some text) o) (sym (get-from_entries nat_list_cmp_total old q))
    ∙ sym (get-insert nat_list_cmp_total (from_entries old) key text q))
