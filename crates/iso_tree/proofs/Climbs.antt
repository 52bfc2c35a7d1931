-- A put below a node leaves one tree, or two with a separator, in the old ranges, with the new pair and the new blocks.
use Rattle.iso_tree.proofs.{Words.{◌≡◌, ◌≢◌, ◌∙◌, sym, refl, ap, subst, ℕ, zero, suc, ◌+◌, ◌<◌, ◌≤◌, true, false, cond, List, [], ◌∷◌, ◌++◌, length, map, Option, Some, None, arith, inl, inr, flat_map, AllByRecursion, and_parts, append_assoc, append-nil, text_of, before, Cell, child_of, in_range, Tree, tree_at, pairs_in, nodes_in, put_after, IsApart, AreAfter, AreChildren, IsOrdered, Put, half, fit, IsIn, in_front, in_back}, Shapes.{kids, chosen, set_chosen, IsAdded, IsGrown, AreFrom, after_child, child_for, put_below, written, second_kid, IsFitCell, IsSized, AreSized}, Order.{put_rise, set_ordered, set_grown, grown_front, grown_more, head_key, head_set, not_before_empty, all_left, all_right, length-put_after, all_put_after, set_all, length-set_chosen}, Blocks.{apart_parts, apart_join, grown_apart, chosen_kid, chosen_in, set_one, set_two}, Splits.{written_append, fit_leaf, fit_inner}}

-- the tree has no pair of the key
abbrev pub Lacks : (key : List ℕ) → (level : ℕ) → Tree level → Type 0
Lacks key level t = AllByRecursion (λ (pair : List ℕ × List ℕ). key ≢ pair.0) (pairs_in level t)

-- What a put below a node does, where the cells were `cells` and are `cells'`.
pub record IsPut (n level : ℕ) (cells cells' : ℕ → List Cell) (block : ℕ) (t : Tree level) (key value : List ℕ) (news : List ℕ) (p : Put) : Type 0 where
  pub ordered : (low : List ℕ) (high : Option (List ℕ)) → in_range low high key ≡ true → IsOrdered level low high t
      → AreAfter (IsOrdered level) low low high (tree_at cells' level block) (second_kid cells' level p.second)
  pub pairs : IsGrown ((key, text_of value) ∷ []) (pairs_in level t) (pairs_in level (tree_at cells' level block) ++ flat_map (λ c. pairs_in level c.1) (second_kid cells' level p.second))
  pub nodes : IsGrown p.taken (nodes_in level t) (nodes_in level (tree_at cells' level block) ++ flat_map (λ c. nodes_in level c.1) (second_kid cells' level p.second))
  pub kept : (k : ℕ) → (IsIn k (nodes_in level t) → ⊥) → (IsIn k p.taken → ⊥) → cells' k ≡ cells k
  pub blocks : news ≡ p.taken ++ p.left
  pub new : (s : List ℕ × ℕ) → p.second ≡ Some s → IsIn s.1 p.taken
  pub sized : length key ≤ 28 → length value ≡ 33 → IsSized n level t → IsSized n level (tree_at cells' level block) × AreSized n level (second_kid cells' level p.second)

lacks_cells : (key : List ℕ) (cs : List Cell) → AllByRecursion (λ (pair : List ℕ × List ℕ). key ≢ pair.0) (map (λ c. (c.0, text_of c.1)) cs) → AllByRecursion (λ (c : Cell). key ≢ c.0) cs
lacks_cells key [] all = tt
lacks_cells key (c ∷ cs) all = (all.0, lacks_cells key cs all.1)

pub leaf_added : (key value : List ℕ) (cs : List Cell) → IsAdded {X = List ℕ × List ℕ} (key, text_of value) (map (λ c. (c.0, text_of c.1)) cs) (map (λ c. (c.0, text_of c.1)) (put_after key (key, value) cs))
leaf_added key value [] = ([], [], refl, refl)
leaf_added key value (d ∷ ds) =
    elim (before key d.0) as (λ b. IsAdded {X = List ℕ × List ℕ} (key, text_of value) (map (λ c. (c.0, text_of c.1)) (d ∷ ds)) (map (λ c. (c.0, text_of c.1)) (cond b ((key, value) ∷ d ∷ ds) (d ∷ put_after key (key, value) ds)))) [
      | true ↦ ([], map (λ c. (c.0, text_of c.1)) (d ∷ ds), refl, refl)
      | false ↦ (let rest = leaf_added key value ds in ((d.0, text_of d.1) ∷ rest.0, rest.1, ap (λ l. (d.0, text_of d.1) ∷ l) rest.2, ap (λ l. (d.0, text_of d.1) ∷ l) rest.3))
    ]

pick : {X : Type 0} (P : X → Type 0) (key : List ℕ) (c : X) (cs : List (List ℕ × X)) → P c → AllByRecursion (λ (d : List ℕ × X). P d.1) cs → P (chosen key c cs)
pick P key c [] first all = first
pick P key c (d ∷ ds) first all = elim (before key d.0) as (λ b. P (cond b c (chosen key d.1 ds))) [
  | true ↦ first
  | false ↦ pick P key d.1 ds all.0 all.1
]

only_sized : (n level : ℕ) (cs : List (List ℕ × Tree level)) → AreSized n level cs → AllByRecursion (λ (c : List ℕ × Tree level). IsSized n level c.1) cs
only_sized n level [] all = tt
only_sized n level (c ∷ cs) all = (all.0.1, only_sized n level cs all.1)

chosen_all : {X Y : Type 0} (P : Y → Type 0) (f : X → List Y) (key : List ℕ) (c : X) (cs : List (List ℕ × X)) → AllByRecursion P (f c ++ flat_map (λ x. f x.1) cs) → AllByRecursion P (f (chosen key c cs))
chosen_all P f key c [] all = all_left P (f c) [] all
chosen_all P f key c (d ∷ ds) all = elim (before key d.0) as (λ b. AllByRecursion P (f (cond b c (chosen key d.1 ds)))) [
  | true ↦ all_left P (f c) _ all
  | false ↦ chosen_all P f key d.1 ds (all_right P (f c) _ all)
]

pub chosen_apart : {X : Type 0} (f : X → List ℕ) (key : List ℕ) (c : X) (cs : List (List ℕ × X)) → IsApart (f c ++ flat_map (λ x. f x.1) cs) → IsApart (f (chosen key c cs))
chosen_apart f key c [] apart = (apart_parts (f c) [] apart).0
chosen_apart f key c (d ∷ ds) apart = elim (before key d.0) as (λ b. IsApart (f (cond b c (chosen key d.1 ds)))) [
  | true ↦ (apart_parts (f c) _ apart).0
  | false ↦ chosen_apart f key d.1 ds (apart_parts (f c) _ apart).1
]

leaf_is : (n : ℕ) (cells : ℕ → List Cell) (key value : List ℕ) (block : ℕ) (news : List ℕ) → 1 < half n → half n ≤ n → Lacks key zero (tree_at cells zero block)
    → IsApart (block ∷ news) → (fit n zero block (put_after key (key, value) (cells block)) news).enough ≡ true
    → IsPut n zero cells (written cells (fit n zero block (put_after key (key, value) (cells block)) news).writes) block (tree_at cells zero block) key value news (fit n zero block (put_after key (key, value) (cells block)) news)
leaf_is n cells key value block news some less lacks apart enough =
    let cs = put_after key (key, value) (cells block) in
    let is = fit_leaf n cells block cs news (omega arith) less apart enough in
    record {
      ordered = λ low high inside old. is.ordered low high (put_rise low high key value (cells block) old inside (lacks_cells key (cells block) lacks));
      pairs = (map (λ c. (c.0, text_of c.1)) cs, leaf_added key value (cells block), is.pairs);
      nodes = is.nodes;
      kept = λ k not none. is.kept k (λ e. not (inl (sym e))) none;
      blocks = is.blocks;
      new = is.new;
      sized = λ short whole old. is.sized (omega (arith, length-put_after key (key, value) (cells block), old.0), all_put_after IsFitCell key (key, value) (cells block) (short, whole) old.1);
    }

pub children_from : {X : Type 0} (P : List ℕ → Option (List ℕ) → X → Type 0) (low : List ℕ) (high : Option (List ℕ)) (list : List (List ℕ × X)) → head_key list ≡ [] → AreFrom P [] low high list → AreChildren P low high list
children_from P low high [] empty is = is
children_from P low high (c ∷ cs) empty is = (empty, is)

module _ (n level : ℕ) (part : ℕ → List ℕ) (cells : ℕ → List Cell) (key value : List ℕ) (block : ℕ) (c : Cell) (cs : List Cell) (news : List ℕ) (p : Put)
    (here : cells block ≡ c ∷ cs)
    (apart : IsApart ((block ∷ flat_map (λ c. nodes_in level c.1) (kids cells level (c ∷ cs))) ++ news))
    (is : IsPut n level cells (written cells p.writes) (child_of (chosen key c.1 cs)) (tree_at cells level (child_of (chosen key c.1 cs))) key value news p) where
  abbrev kid0 : List ℕ × Tree level
  kid0 = (c.0, tree_at cells level (child_of c.1))

  abbrev row : List (List ℕ × Tree level)
  row = kids cells level cs

  abbrev cells1 : ℕ → List Cell
  cells1 = written cells p.writes

  abbrev t1 : Tree level
  t1 = tree_at cells1 level (child_of (chosen key c.1 cs))

  abbrev after : List (List ℕ × Tree level)
  after = set_chosen key t1 (second_kid cells1 level p.second) kid0 row

  all_apart : IsApart (flat_map (λ c. nodes_in level c.1) (kids cells level (c ∷ cs)))
  all_apart = (apart_parts (flat_map (λ c. nodes_in level c.1) (kids cells level (c ∷ cs))) news apart.1).0

  outside : (k : ℕ) → IsIn k news → IsIn k (flat_map (λ c. nodes_in level c.1) (kids cells level (c ∷ cs))) → ⊥
  outside k new old = (apart_parts (flat_map (λ c. nodes_in level c.1) (kids cells level (c ∷ cs))) news apart.1).2 k old new

  taken_new : (k : ℕ) → IsIn k p.taken → IsIn k news
  taken_new k has = subst (λ (l : List ℕ). IsIn k l) (sym is.blocks) (in_front k p.taken p.left has)

  kept_others : (k : ℕ) → IsIn k (flat_map (λ c. nodes_in level c.1) (kids cells level (c ∷ cs))) → (IsIn k (nodes_in level (tree_at cells level (child_of (chosen key c.1 cs)))) → ⊥) → cells1 k ≡ cells k
  kept_others k has not = is.kept k not (λ new. outside k (taken_new k new) has)

  block_kept : cells1 block ≡ c ∷ cs
  block_kept = is.kept block
      (λ below. apart.0 (in_front block (flat_map (λ c. nodes_in level c.1) (kids cells level (c ∷ cs))) news (chosen_in cells level key block c cs below)))
      (λ new. apart.0 (in_back block (flat_map (λ c. nodes_in level c.1) (kids cells level (c ∷ cs))) news (taken_new block new))) ∙ here

  after_ordered : (low : List ℕ) (high : Option (List ℕ)) → in_range low high key ≡ true → IsOrdered (suc level) low high (block, kids cells level (c ∷ cs)) → AreChildren (IsOrdered level) low high after
  after_ordered low high inside old =
      children_from (IsOrdered level) low high after (head_set key t1 (second_kid cells1 level p.second) kid0 row ∙ old.0)
      (set_ordered (IsOrdered level) key [] low high t1 (second_kid cells1 level p.second) kid0 row old.1 (not_before_empty low) inside
      (λ lo hi within was. is.ordered lo hi within (subst (IsOrdered level lo hi) (chosen_kid cells level key c cs) was)))

  after_pairs : IsGrown ((key, text_of value) ∷ []) (flat_map (λ c. pairs_in level c.1) (kids cells level (c ∷ cs))) (flat_map (λ c. pairs_in level c.1) after)
  after_pairs = set_grown (pairs_in level) ((key, text_of value) ∷ []) key t1 (second_kid cells1 level p.second) kid0 row
      (subst (λ (t : Tree level). IsGrown ((key, text_of value) ∷ []) (pairs_in level t) (pairs_in level t1 ++ flat_map (λ c. pairs_in level c.1) (second_kid cells1 level p.second))) (sym (chosen_kid cells level key c cs)) is.pairs)

  after_nodes : IsGrown p.taken (block ∷ flat_map (λ c. nodes_in level c.1) (kids cells level (c ∷ cs))) (block ∷ flat_map (λ c. nodes_in level c.1) after)
  after_nodes = grown_front p.taken (block ∷ []) (flat_map (λ c. nodes_in level c.1) (kids cells level (c ∷ cs))) (flat_map (λ c. nodes_in level c.1) after)
      (set_grown (nodes_in level) p.taken key t1 (second_kid cells1 level p.second) kid0 row
      (subst (λ (t : Tree level). IsGrown p.taken (nodes_in level t) (nodes_in level t1 ++ flat_map (λ c. nodes_in level c.1) (second_kid cells1 level p.second))) (sym (chosen_kid cells level key c cs)) is.nodes))

  kept_below : (k : ℕ) → (IsIn k (block ∷ flat_map (λ c. nodes_in level c.1) (kids cells level (c ∷ cs))) → ⊥) → (IsIn k p.taken → ⊥) → cells1 k ≡ cells k
  kept_below k not none = is.kept k (λ below. not (inr (chosen_in cells level key k c cs below))) none

  after_sized : length key ≤ 28 → length value ≡ 33 → IsSized n (suc level) (block, kids cells level (c ∷ cs)) → AreSized n level after
  after_sized short whole old =
      let child = is.sized short whole (subst (IsSized n level) (chosen_kid cells level key c cs) (pick (IsSized n level) key kid0.1 row old.2.0.1 (only_sized n level row old.2.1))) in
      set_all (λ (c : List ℕ × Tree level). (length c.0 ≤ 28) × IsSized n level c.1) key t1 (second_kid cells1 level p.second) kid0 row old.2 (λ k x h. (h.0, child.0)) child.1

  -- where the child was not split
  one_is : p.second ≡ None → IsPut n (suc level) cells cells1 block (block, kids cells level (c ∷ cs)) key value news p
  one_is none =
      let same : kids cells1 level (c ∷ cs) ≡ after =
      set_one cells level key cells1 c cs all_apart kept_others ∙ ap (λ (s : Option (List ℕ × ℕ)). set_chosen key t1 (second_kid cells1 level s) kid0 row) (sym none) in
      let tree : ◌≡◌ {A = Tree (suc level)} (tree_at cells1 (suc level) block) (block, after) =
      ap (λ (l : List Cell). (block, kids cells1 level l)) block_kept ∙ ap (λ (ts : List (List ℕ × Tree level)). (block, ts)) same in
      record {
        ordered = λ low high inside old.
            subst (λ (s : Option (List ℕ × ℕ)). AreAfter (IsOrdered (suc level)) low low high (tree_at cells1 (suc level) block) (second_kid cells1 (suc level) s)) (sym none)
            (subst (IsOrdered (suc level) low high) (sym tree) (after_ordered low high inside old));
        pairs = subst (λ (s : Option (List ℕ × ℕ)). IsGrown ((key, text_of value) ∷ []) (flat_map (λ c. pairs_in level c.1) (kids cells level (c ∷ cs))) (pairs_in (suc level) (tree_at cells1 (suc level) block) ++ flat_map (λ c. pairs_in (suc level) c.1) (second_kid cells1 (suc level) s))) (sym none)
            (subst (λ l. IsGrown ((key, text_of value) ∷ []) (flat_map (λ c. pairs_in level c.1) (kids cells level (c ∷ cs))) l) (ap (pairs_in (suc level)) (sym tree) ∙ sym (append-nil (pairs_in (suc level) (tree_at cells1 (suc level) block)))) after_pairs);
        nodes = subst (λ (s : Option (List ℕ × ℕ)). IsGrown p.taken (block ∷ flat_map (λ c. nodes_in level c.1) (kids cells level (c ∷ cs))) (nodes_in (suc level) (tree_at cells1 (suc level) block) ++ flat_map (λ c. nodes_in (suc level) c.1) (second_kid cells1 (suc level) s))) (sym none)
            (subst (λ (l : List ℕ). IsGrown p.taken (block ∷ flat_map (λ c. nodes_in level c.1) (kids cells level (c ∷ cs))) l) (ap (nodes_in (suc level)) (sym tree) ∙ sym (append-nil (nodes_in (suc level) (tree_at cells1 (suc level) block)))) after_nodes);
        kept = kept_below;
        blocks = is.blocks;
        new = is.new;
        sized = λ short whole old.
            let many : length after ≡ suc (length (second_kid cells1 level p.second) + length row) = length-set_chosen key t1 (second_kid cells1 level p.second) kid0 row in
            let nothing : length (second_kid cells1 level p.second) ≡ 0 = ap (λ (s : Option (List ℕ × ℕ)). length (second_kid cells1 level s)) none in
            let least = old.0 in
            let most = old.1 in (
              subst (IsSized n (suc level)) (sym tree) (omega arith, omega arith, after_sized short whole old),
              subst (λ (s : Option (List ℕ × ℕ)). AreSized n (suc level) (second_kid cells1 (suc level) s)) (sym none) tt,
            );
      }

  -- the children with the new one beside the chosen one
  rows_are : (s : List ℕ × ℕ) → p.second ≡ Some s → child_of (part s.1) ≡ s.1 → kids cells1 level (c ∷ put_after key (s.0, part s.1) cs) ≡ after
  rows_are s e named = grind (arith, set_two, all_apart, kept_others) steps 100000

  pub rows_apart : (s : List ℕ × ℕ) → p.second ≡ Some s → child_of (part s.1) ≡ s.1
      → IsApart ((block ∷ flat_map (λ c. nodes_in level c.1) (kids cells1 level (c ∷ put_after key (s.0, part s.1) cs))) ++ p.left)
  rows_apart s e named =
      subst (λ (ts : List (List ℕ × Tree level)). IsApart ((block ∷ flat_map (λ c. nodes_in level c.1) ts) ++ p.left)) (sym (rows_are s e named))
      (grown_apart p.taken (block ∷ flat_map (λ c. nodes_in level c.1) (kids cells level (c ∷ cs))) (block ∷ flat_map (λ c. nodes_in level c.1) after) p.left after_nodes
      (subst (λ (l : List ℕ). IsApart ((block ∷ flat_map (λ c. nodes_in level c.1) (kids cells level (c ∷ cs))) ++ l)) is.blocks apart))

  -- where it was
  two_is : (s : List ℕ × ℕ) → p.second ≡ Some s → child_of (part s.1) ≡ s.1 → 1 < half n → half n ≤ n
      → (fit n (suc level) block (c ∷ put_after key (s.0, part s.1) cs) p.left).enough ≡ true
      → IsPut n (suc level) cells (written cells1 (fit n (suc level) block (c ∷ put_after key (s.0, part s.1) cs) p.left).writes) block (block, kids cells level (c ∷ cs)) key value news
      (after_child n part key level block (c ∷ cs) p (Some s))
  two_is s e named some less enough =
      let new : Cell = (s.0, part s.1) in
      let cs' : List Cell = c ∷ put_after key new cs in
      let q = fit n (suc level) block cs' p.left in
      let same : kids cells1 level cs' ≡ after = rows_are s e named in
      let apart2 = rows_apart s e named in
      let f = fit_inner n level cells1 block cs' p.left some less apart2 enough in
      record {
        ordered = λ low high inside old. f.ordered low high (subst (AreChildren (IsOrdered level) low high) (sym same) (after_ordered low high inside old));
        pairs = subst (λ (l : List (List ℕ × List ℕ)). IsGrown ((key, text_of value) ∷ []) (flat_map (λ c. pairs_in level c.1) (kids cells level (c ∷ cs))) l)
            (ap (λ (ts : List (List ℕ × Tree level)). flat_map (λ c. pairs_in level c.1) ts) (sym same) ∙ f.pairs) after_pairs;
        nodes = grown_more p.taken q.taken (block ∷ flat_map (λ c. nodes_in level c.1) (kids cells level (c ∷ cs))) (block ∷ flat_map (λ c. nodes_in level c.1) after) _ after_nodes
            (subst (λ (ts : List (List ℕ × Tree level)). IsGrown q.taken (block ∷ flat_map (λ c. nodes_in level c.1) ts)
            (nodes_in (suc level) (tree_at (written cells1 q.writes) (suc level) block) ++ flat_map (λ c. nodes_in (suc level) c.1) (second_kid (written cells1 q.writes) (suc level) q.second))) same f.nodes);
        kept = λ k not none. f.kept k (λ e. not (inl (sym e))) (λ h. none (in_back k p.taken q.taken h)) ∙ kept_below k not (λ h. none (in_front k p.taken q.taken h));
        blocks = is.blocks ∙ ap (λ (l : List ℕ). p.taken ++ l) f.blocks ∙ sym (append_assoc p.taken q.taken q.left);
        new = λ s' e'. in_back s'.1 p.taken q.taken (f.new s' e');
        sized = λ short whole old.
            let many : length after ≡ suc (length (second_kid cells1 level p.second) + length row) = length-set_chosen key t1 (second_kid cells1 level p.second) kid0 row in
            let one : length (second_kid cells1 level p.second) ≡ 1 = ap (λ (o : Option (List ℕ × ℕ)). length (second_kid cells1 level o)) e in
            let longer : length (kids cells1 level cs') ≡ length after = ap length same in
            let least = old.0 in
            let most = old.1 in
            f.sized (omega arith, omega arith, subst (AreSized n level) (sym same) (after_sized short whole old));
      }

  inner_is : ((b : ℕ) → IsIn b news → child_of (part b) ≡ b) → 1 < half n → half n ≤ n → (after_child n part key level block (c ∷ cs) p p.second).enough ≡ true
      → IsPut n (suc level) cells (written cells (after_child n part key level block (c ∷ cs) p p.second).writes) block (block, kids cells level (c ∷ cs)) key value news
      (after_child n part key level block (c ∷ cs) p p.second)
  inner_is named some less enough =
      elim p.second as (λ s. p.second ≡ s → (after_child n part key level block (c ∷ cs) p s).enough ≡ true
      → IsPut n (suc level) cells (written cells (after_child n part key level block (c ∷ cs) p s).writes) block (block, kids cells level (c ∷ cs)) key value news (after_child n part key level block (c ∷ cs) p s)) [
        | None ↦ λ e en. one_is e
        | Some s ↦ λ e en.
            (let q = fit n (suc level) block (c ∷ put_after key (s.0, part s.1) cs) p.left in
            subst (λ (w : ℕ → List Cell). IsPut n (suc level) cells w block (block, kids cells level (c ∷ cs)) key value news (after_child n part key level block (c ∷ cs) p (Some s)))
            (sym (written_append cells p.writes q.writes))
            (two_is s e (named s.1 (taken_new s.1 (is.new s e))) some less (and_parts p.enough q.enough en).1))
      ] refl enough

chosen_ordered : {X : Type 0} (P : List ℕ → Option (List ℕ) → X → Type 0) (key last low : List ℕ) (high : Option (List ℕ)) (c : X) (cs : List (List ℕ × X)) → AreAfter P last low high c cs
    → (lo : List ℕ) × (hi : Option (List ℕ)) × P lo hi (chosen key c cs)
chosen_ordered P key last low high c [] is = (low, high, is)
chosen_ordered P key last low high c (d ∷ ds) is =
    elim (before key d.0) as (λ b. (lo : List ℕ) × (hi : Option (List ℕ)) × P lo hi (cond b c (chosen key d.1 ds))) [
      | true ↦ (low, Some d.0, is.2)
      | false ↦ chosen_ordered P key d.0 d.0 high d.1 ds is.3
    ]

pub child_enough : (n : ℕ) (part : ℕ → List ℕ) (key : List ℕ) (level block : ℕ) (cs : List Cell) (p : Put) (s : Option (List ℕ × ℕ)) → (after_child n part key level block cs p s).enough ≡ true → p.enough ≡ true
child_enough n part key level block [] p s e = e
child_enough n part key level block (c ∷ cs) p None e = e
child_enough n part key level block (c ∷ cs) p (Some s) e = (and_parts p.enough _ e).0

pub child_apart : (cells : ℕ → List Cell) (level : ℕ) (key : List ℕ) (block : ℕ) (low : List ℕ) (high : Option (List ℕ)) (cs : List Cell) (news : List ℕ) → AreChildren (IsOrdered level) low high (kids cells level cs)
    → IsApart ((block ∷ flat_map (λ c. nodes_in level c.1) (kids cells level cs)) ++ news) → IsApart (nodes_in level (tree_at cells level (child_of (child_for key cs))) ++ news)
child_apart cells level key block low high [] news is apart = absurd is
child_apart cells level key block low high (c ∷ cs) news is apart =
    let parts = apart_parts (flat_map (λ c. nodes_in level c.1) (kids cells level (c ∷ cs))) news apart.1 in
    apart_join (nodes_in level (tree_at cells level (child_of (chosen key c.1 cs)))) news
    (subst (λ (t : Tree level). IsApart (nodes_in level t)) (chosen_kid cells level key c cs) (chosen_apart (nodes_in level) key (tree_at cells level (child_of c.1)) (kids cells level cs) parts.0))
    parts.1 (λ k old new. parts.2 k (chosen_in cells level key k c cs old) new)

pub child_lacks : (cells : ℕ → List Cell) (level : ℕ) (key : List ℕ) (low : List ℕ) (high : Option (List ℕ)) (cs : List Cell) → AreChildren (IsOrdered level) low high (kids cells level cs)
    → AllByRecursion (λ (pair : List ℕ × List ℕ). key ≢ pair.0) (flat_map (λ c. pairs_in level c.1) (kids cells level cs)) → Lacks key level (tree_at cells level (child_of (child_for key cs)))
child_lacks cells level key low high [] is all = absurd is
child_lacks cells level key low high (c ∷ cs) is all =
    subst (Lacks key level) (chosen_kid cells level key c cs) (chosen_all (λ (pair : List ℕ × List ℕ). key ≢ pair.0) (pairs_in level) key (tree_at cells level (child_of c.1)) (kids cells level cs) all)

pub child_ordered : (cells : ℕ → List Cell) (level : ℕ) (key : List ℕ) (low : List ℕ) (high : Option (List ℕ)) (cs : List Cell) → AreChildren (IsOrdered level) low high (kids cells level cs)
    → (lo : List ℕ) × (hi : Option (List ℕ)) × IsOrdered level lo hi (tree_at cells level (child_of (child_for key cs)))
child_ordered cells level key low high [] is = absurd is
child_ordered cells level key low high (c ∷ cs) is =
    subst (λ (t : Tree level). (lo : List ℕ) × (hi : Option (List ℕ)) × IsOrdered level lo hi t) (chosen_kid cells level key c cs)
    (chosen_ordered (IsOrdered level) key [] low high (tree_at cells level (child_of c.1)) (kids cells level cs) is.1)

at_inner : (n level : ℕ) (part : ℕ → List ℕ) (cells : ℕ → List Cell) (key value : List ℕ) (block : ℕ) (cs : List Cell) (news : List ℕ) (p : Put) (low : List ℕ) (high : Option (List ℕ)) → cells block ≡ cs
    → AreChildren (IsOrdered level) low high (kids cells level cs)
    → IsApart ((block ∷ flat_map (λ c. nodes_in level c.1) (kids cells level cs)) ++ news)
    → IsPut n level cells (written cells p.writes) (child_of (child_for key cs)) (tree_at cells level (child_of (child_for key cs))) key value news p
    → ((b : ℕ) → IsIn b news → child_of (part b) ≡ b) → 1 < half n → half n ≤ n → (after_child n part key level block cs p p.second).enough ≡ true
    → IsPut n (suc level) cells (written cells (after_child n part key level block cs p p.second).writes) block (block, kids cells level cs) key value news (after_child n part key level block cs p p.second)
at_inner n level part cells key value block [] news p low high here order apart is named some less enough = absurd order
at_inner n level part cells key value block (c ∷ cs) news p low high here order apart is named some less enough = search (arith, inner_is) steps 100000

-- What a put below a node does.
pub put_is : (n : ℕ) (part : ℕ → List ℕ) (cells : ℕ → List Cell) (key value : List ℕ) → 1 < half n → half n ≤ n → (level block : ℕ) (news : List ℕ) (low : List ℕ) (high : Option (List ℕ))
    → ((b : ℕ) → IsIn b news → child_of (part b) ≡ b)
    → IsOrdered level low high (tree_at cells level block) → Lacks key level (tree_at cells level block) → IsApart (nodes_in level (tree_at cells level block) ++ news)
    → (put_below n part cells key value level block news).enough ≡ true
    → IsPut n level cells (written cells (put_below n part cells key value level block news).writes) block (tree_at cells level block) key value news (put_below n part cells key value level block news)
put_is n part cells key value some less zero block news low high named order lacks apart enough = leaf_is n cells key value block news some less lacks apart enough
put_is n part cells key value some less (suc level) block news low high named order lacks apart enough =
    let child = child_of (child_for key (cells block)) in
    let p = put_below n part cells key value level child news in
    let range = child_ordered cells level key low high (cells block) order in
    let is = put_is n part cells key value some less level child news range.0 range.1 named range.2 (child_lacks cells level key low high (cells block) order lacks)
    (child_apart cells level key block low high (cells block) news order apart) (child_enough n part key level block (cells block) p p.second enough) in
    at_inner n level part cells key value block (cells block) news p low high refl order apart is named some less enough
