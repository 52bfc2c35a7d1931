-- A put into a leaf that has the key, or room for it.
use Rattle.iso_tree.proofs.{Words.{◌≡◌, ◌≢◌, ◌∙◌, sym, refl, ap, subst, ℕ, zero, suc, ◌+◌, ◌*◌, ◌<◌, ◌≤◌, Bool, true, false, cond, List, [], ◌∷◌, ◌++◌, length, replicate, Option, Some, None, option_map, arith, inl, inr, AllByRecursion, list_all, nat_list_cmp_total, from_entries, get, insert, get-from_entries, get-insert, same_map, slice_cmp-IsAntisymmetric, nat_cmp-IsAntisymmetric, bytes_eq, cases_Bool, cases_eq, both_ways, or_left, append_assoc, length-replicate, bytes_eq-Decides, Access, Area, Array, merged, put, first_from, Pairs, block_at, bytes_in, store_access, cell_count, keys_end, keys_mark, value_mark, is_zero, is_part, text_of, value_part, key_at, block_with, length-block_put, written_block, other_block, laid_here, length-laid_at, Cell, FitCells, IsBlock, count_of, is_node, cell_of, cells_by, node_bytes, in_range, Rise, RiseAfter, put_after, cells_in, root_of, level_of, IsNode, IsTreeArea, IsTreeRegion, tree_pairs, tree_map, kept_1, laid_all, found_in, ties, first_passes}, Climbs.leaf_added, Dels.{IsLeafEdit, leaf_written, edit_region, edit_pairs, edit_found, swapped_found, at, order_of, ends_of, found_of}, Edits.{leaf_pairs, IsSwapped}, Fits.{area_block, cells_fit, rise_strict}, Gets.{leaf_finds, parts_all}, NewBlocks.IsPair, Order.{length-put_after, all_put_after, put_rise}, Regions.{HasPutInto, lacks_from}, Roots.map_put, Shapes.IsAdded}

-- A pair that came into a part that was swapped came into the whole.
swapped_added : {Y : Type 0} (y : Y) (ms ms' old new : List Y) → IsAdded y ms ms' → IsSwapped ms ms' old new → IsAdded y old new
swapped_added y ms ms' old new added is = (
  is.0 ++ added.0,
  added.1 ++ is.1,
  is.2 ∙ ap (λ l. is.0 ++ (l ++ is.1)) added.2 ∙ ap (λ l. is.0 ++ l) (append_assoc added.0 added.1 is.1) ∙ sym (append_assoc is.0 added.0 (added.1 ++ is.1)),
  is.3 ∙ ap (λ l. is.0 ++ (l ++ is.1)) added.3 ∙ ap (λ l. is.0 ++ l) (append_assoc added.0 (y ∷ added.1) is.1) ∙ sym (append_assoc is.0 added.0 (y ∷ (added.1 ++ is.1))),
)

-- a leaf's cells have no key that its pairs lack
cells_lack : (key : List ℕ) (cs : List Cell) → AllByRecursion (λ (pair : List ℕ × List ℕ). key ≢ pair.0) (leaf_pairs cs) → AllByRecursion (λ (c : Cell). key ≢ c.0) cs
cells_lack key [] all = tt
cells_lack key (c ∷ cs) all = (all.0, cells_lack key cs all.1)

-- cells with other values under the same keys rise as before
rise_values_after : (keys : List ℕ) (v w : ℕ → List ℕ) (last : List ℕ) (high : Option (List ℕ)) (i m : ℕ) → RiseAfter last high (cells_by keys v i m) → RiseAfter last high (cells_by keys w i m)
rise_values_after keys v w last high i zero is = tt
rise_values_after keys v w last high i (suc m) is = (is.0, is.1, rise_values_after keys v w (key_at keys i) high (i + 1) m is.2)

rise_values : (keys : List ℕ) (v w : ℕ → List ℕ) (low : List ℕ) (high : Option (List ℕ)) (i m : ℕ) → Rise low high (cells_by keys v i m) → Rise low high (cells_by keys w i m)
rise_values keys v w low high i zero is = tt
rise_values keys v w low high i (suc m) is = (is.0, rise_values_after keys v w (key_at keys i) high (i + 1) m is.1)

-- The map where one value changed.
map_set : (key text : List ℕ) (ms ms' old new : List (List ℕ × List ℕ)) → IsSwapped ms ms' old new → found_in key new ≡ Some text → ((q : List ℕ) → bytes_eq q key ≡ false → found_in q ms' ≡ found_in q ms)
    → ◌≡◌ {A = Pairs} (from_entries new) (insert (from_entries old) key text)
map_set key text ms ms' old new is found same =
    let m : Pairs = from_entries old in
    same_map nat_list_cmp_total (slice_cmp-IsAntisymmetric nat_cmp-IsAntisymmetric) (from_entries new) (insert (from_entries old) key text) (λ q.
    get-from_entries nat_list_cmp_total new q
    ∙ elim (cases_Bool (bytes_eq q key)) [
      | inl equal ↦
          (let e : q ≡ key = (bytes_eq-Decides q key).0 equal in
          ap (λ (k : List ℕ). found_in k new) e ∙ found ∙ sym (ap (λ (t : Bool). cond t (Some text) (get m q)) (ties q key ∙ equal)))
      | inr other ↦
          swapped_found q ms ms' old new is (same q other) ∙ sym (get-from_entries nat_list_cmp_total old q)
          ∙ sym (ap (λ (t : Bool). cond t (Some text) (get m q)) (ties q key ∙ other))
    ]
    ∙ sym (get-insert nat_list_cmp_total (from_entries old) key text q))

module _ (a : Area) (area : IsTreeArea a) (A : Array) (region : IsTreeRegion a A) (key text : List ℕ) (pair : IsPair key text) (below : root_of a A < a.blocks) (some : root_of a A ≢ 0) where
  abbrev value : List ℕ
  value = value_part text

  abbrev leaf : ℕ
  leaf = at a key A region below some

  abbrev old : List ℕ
  old = block_at A (a.start + leaf)

  abbrev K : List ℕ
  K = bytes_in (keys_mark a.size) old

  abbrev V : ℕ → List ℕ
  V i = bytes_in (value_mark a.size i) old

  abbrev cells : List Cell
  cells = cells_in a A leaf

  sized : IsBlock a.size
  sized = area_block a area

  node : IsNode a 0 old
  node = (ends_of a key A region below some).node

  past : 1 ≤ leaf
  past = (ends_of a key A region below some).some

  long : length old ≡ a.size
  long = region.shape leaf (ends_of a key A region below some).below

  old_fit : FitCells cells
  old_fit = cells_fit a.size 0 old sized long node.keys

  parts : AllByRecursion (λ (c : Cell). is_part 32 c.1 ≡ true) cells
  parts = parts_all (λ p. is_part 32 p ≡ true) K V 0 (count_of K) (λ j from to. node.used j (omega arith))

  -- WHERE THERE IS ROOM
  module _ (none : cell_of key K ≡ None) where
    pub lacks : AllByRecursion (λ (p : List ℕ × List ℕ). key ≢ p.0) (tree_pairs a A)
    lacks = lacks_from key (tree_pairs a A) (found_of a key A region below some ∙ ap (option_map (λ j. text_of (V j))) none)

    leaf_lacks : AllByRecursion (λ (c : Cell). key ≢ c.0) cells
    leaf_lacks = cells_lack key cells (lacks_from key (leaf_pairs cells) (leaf_finds key K V 0 (count_of K) ∙ ap (option_map (λ j. text_of (V j))) none))

    module _ (room : length cells < cell_count a.size) where
      abbrev cs : List Cell
      cs = put_after key (key, value) cells

      abbrev after : Array
      after = put A (store_access (a.start + leaf) [] (node_bytes a.size 0 cs))

      keeps : (low : List ℕ) (high : Option (List ℕ)) → in_range low high key ≡ true → Rise low high cells → Rise low high cs
      keeps low high inside rise = put_rise low high key value cells rise inside leaf_lacks

      strict : Rattle.iso_tree.proofs.Passes.Strict cs
      strict =
          let inside = Rattle.iso_tree.proofs.Putting.leaf_range (cells_in a A) key (level_of a A) (root_of a A) [] None (order_of a key A region below some) (ap Rattle.std.specs.Prelude.not (Rattle.iso_tree.proofs.Order.not_before_empty key)) in
          rise_strict inside.0 inside.1 cs (keeps inside.0 inside.1 inside.2 inside.3)

      edit : IsLeafEdit a A after leaf cs
      edit = leaf_written a A leaf cs sized long (all_put_after (λ (c : Cell). (length c.0 ≤ 28) × (length c.1 ≡ 33)) key (key, value) cells (pair.short, pair.whole) old_fit)
          (omega (arith, length-put_after key (key, value) cells)) (all_put_after (λ (c : Cell). is_part 32 c.1 ≡ true) key (key, value) cells pair.good parts) strict

      map_room : tree_map a after ≡ insert (tree_map a A) key text
      unfolding tree_map
      map_room = map_put key text (tree_pairs a A) (tree_pairs a after) lacks (
        tree_pairs a after,
        subst (λ (x : List ℕ). IsAdded {X = List ℕ × List ℕ} (key, x) (tree_pairs a A) (tree_pairs a after)) pair.spells
            (swapped_added (key, text_of value) (leaf_pairs cells) (leaf_pairs cs) (tree_pairs a A) (tree_pairs a after) (leaf_added key value cells) (edit_pairs a A after key cs region some past node edit keeps)),
        refl,
      )

      -- A put into a leaf with room.
      pub room_does : HasPutInto a key text A after
      room_does = record { region = edit_region a A after key cs region some past node edit keeps; map_is = map_room }

  -- WHERE THE KEY IS
  module _ (i : ℕ) (found : cell_of key K ≡ Some i) where
    abbrev bytes : List ℕ
    bytes = block_with a.size (keys_end a.size + 33 * i) value

    abbrev access : Access
    access = store_access (a.start + leaf) (value_mark a.size i ∷ []) bytes

    abbrev B : Array
    B = put A access

    abbrev new : List ℕ
    new = block_at B (a.start + leaf)

    used : i < count_of K
    used = Rattle.iso_tree.proofs.Facts.cell_used key K i found

    few : count_of K ≤ cell_count a.size
    few = (Rattle.iso_tree.proofs.Facts.node_parts a.size 0 K node.keys).few

    fits : keys_end a.size + 33 * i + 33 ≤ a.size
    fits = let w = sized.whole in let u = used in let f = few in omega arith

    map_fits : keys_end a.size + 33 * i + length value ≤ length (replicate {A = ℕ} a.size 0)
    map_fits = omega (arith, fits, pair.whole, length-replicate {A = ℕ} a.size 0)

    bytes_long : length bytes ≡ a.size
    bytes_long = length-laid_at (keys_end a.size + 33 * i) value (replicate a.size 0) map_fits ∙ length-replicate {A = ℕ} a.size 0

    new_is : new ≡ merged (value_mark a.size i ∷ []) 0 old bytes
    new_is = written_block A access

    keys_same : bytes_in (keys_mark a.size) new ≡ K
    keys_same = ap (bytes_in (keys_mark a.size)) new_is ∙ kept_1 (keys_mark a.size) (value_mark a.size i) old bytes (inl (omega arith))

    value_here : bytes_in (value_mark a.size i) new ≡ value
    value_here =
        ap (bytes_in (value_mark a.size i)) new_is
        ∙ laid_all (value_mark a.size i) (value_mark a.size i ∷ []) old bytes (bytes_long ∙ sym long) (λ p has. or_left (Rattle.iso_model.specs.Array.in_span p (value_mark a.size i)) false has)
        ∙ laid_here (keys_end a.size + 33 * i) 33 value (replicate a.size 0) pair.whole map_fits

    value_other : (j : ℕ) → j ≢ i → bytes_in (value_mark a.size j) new ≡ V j
    value_other j other =
        ap (bytes_in (value_mark a.size j)) new_is ∙ kept_1 (value_mark a.size j) (value_mark a.size i) old bytes
        (elim (Rattle.std.proofs.lemmas.Bool.cases_lt j i) [ inl low ↦ inl (omega arith) | inr high ↦ inr (omega arith) ])

    node_new : IsNode a 0 new
    node_new = record {
      keys = ap (λ (k : List ℕ). is_node a.size 0 k) keys_same ∙ node.keys;
      used = λ j low. elim (cases_eq j i) [
        | inl same ↦ ap (λ (n : ℕ). is_part 32 (bytes_in (value_mark a.size n) new)) same ∙ ap (is_part 32) value_here ∙ pair.good
        | inr other ↦ ap (is_part 32) (value_other j other) ∙ node.used j (omega (arith, ap count_of keys_same))
      ];
      unused = λ j from to. ap (list_all is_zero) (value_other j (λ e. absurd (omega (arith, used, ap count_of keys_same)))) ∙ node.unused j (omega (arith, ap count_of keys_same)) to;
    }

    abbrev W : ℕ → List ℕ
    W j = bytes_in (value_mark a.size j) new

    edit_of : IsLeafEdit a A B leaf (cells_by K W 0 (count_of K))
    edit_of = record {
      others = λ b other. other_block A access b other;
      node = node_new;
      here = ap (λ (k : List ℕ). cells_by k W 0 (count_of k)) keys_same;
      long = length-block_put A access (a.start + leaf) ∙ long;
    }

    key_is : key_at K i ≡ key
    key_is = (bytes_eq-Decides (key_at K i) key).0 (first_passes (λ j. bytes_eq (key_at K j) key) 0 (count_of K) i found)

    others_found : (q : List ℕ) → bytes_eq q key ≡ false → found_in q (leaf_pairs (cells_by K W 0 (count_of K))) ≡ found_in q (leaf_pairs cells)
    others_found q other =
        leaf_finds q K W 0 (count_of K)
        ∙ elim (first_from (λ j. bytes_eq (key_at K j) q) 0 (count_of K)) as (λ o. first_from (λ j. bytes_eq (key_at K j) q) 0 (count_of K) ≡ o → option_map (λ j. text_of (W j)) o ≡ option_map (λ j. text_of (V j)) o) [
          | None ↦ λ e. refl
          | Some j ↦ λ e.
              (let here : key_at K j ≡ q = (bytes_eq-Decides (key_at K j) q).0 (first_passes (λ j. bytes_eq (key_at K j) q) 0 (count_of K) j e) in
              let not_i : j ≢ i = λ same. both_ways (bytes_eq q key) other ((bytes_eq-Decides q key).1 (sym here ∙ ap (key_at K) same ∙ key_is)) in
              ap (λ (p : List ℕ). Some (text_of p)) (value_other j not_i))
        ] refl
        ∙ sym (leaf_finds q K V 0 (count_of K))

    keeps_found : (low : List ℕ) (high : Option (List ℕ)) → in_range low high key ≡ true → Rise low high cells → Rise low high (cells_by K W 0 (count_of K))
    keeps_found low high inside rise = rise_values K V W low high 0 (count_of K) rise

    found_new : found_in key (tree_pairs a B) ≡ Some text
    found_new =
        edit_found a A B key (cells_by K W 0 (count_of K)) region some past node edit_of keeps_found
        ∙ leaf_finds key K W 0 (count_of K) ∙ ap (option_map (λ j. text_of (W j))) found ∙ ap (λ (p : List ℕ). Some (text_of p)) value_here ∙ ap (λ (x : List ℕ). Some x) pair.spells

    map_found : tree_map a B ≡ insert (tree_map a A) key text
    unfolding tree_map
    map_found = map_set key text (leaf_pairs cells) (leaf_pairs (cells_by K W 0 (count_of K))) (tree_pairs a A) (tree_pairs a B)
        (edit_pairs a A B key (cells_by K W 0 (count_of K)) region some past node edit_of keeps_found) found_new others_found

    -- A put of another value.
    pub found_does : HasPutInto a key text A B
    found_does = record { region = edit_region a A B key (cells_by K W 0 (count_of K)) region some past node edit_of keeps_found; map_is = map_found }
