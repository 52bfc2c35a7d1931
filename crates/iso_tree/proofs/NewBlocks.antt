-- A put that takes blocks puts the pair into the region's map.
use Rattle.iso_tree.proofs.{Words.{◌≡◌, ◌≢◌, ◌∙◌, sym, refl, ap, subst, ℕ, suc, ◌+◌, ◌^◌, ◌<◌, ◌≤◌, ◌==◌, Bool, true, false, cond, List, [], ◌∷◌, ◌++◌, map, take, length, Option, Some, None, arith, inl, inr, eq-eqb, ne_eqb, AllByRecursion, flat_map, append-nil, map-append, length-append, Area, Array, put, IsIn, block_at, bytes_in, store_access, cell_count, is_part, text_of, value_part, map_mark, other_block, Cell, IsBlock, child_of, child_part, used_cells, node_bytes, Tree, tree_at, pairs_in, nodes_in, IsApart, IsOrdered, Put, half, Climb, climb, climb_on, full_row, need_of, root_cells, cells_in, root_of, level_of, IsNode, AreNodes, IsTreeArea, IsTreeRegion, tree_pairs, tree_nodes, first_access, length-part, part_is_part, part_text, all_append, in_front, in_back, in_cases}, Again.{nodes_at, way_is, path_few, nodes_inside}, Blocks.{apart_parts, grown_apart, grown_in}, Bytes.cells_are, Climbs.{Lacks, IsPut, put_is}, Enough.{IsServed, put_served, put_blocks, path_below, counts}, Fits.area_block, Fitted.nodes_from, Levels.level_low, Order.not_before_empty, Putting.{HasPut, put_has, nodes_sized, child_part_is}, Regions.{IsNewTree, HasPutInto, taken_apart, kept_root, new_root_put}, Roots.{same_root, new_root}, Shapes.{IsGrown, put_below, written, write_cells, second_kid}, Splits.written_append, Stored.{stored, spots, stored_append, stored_cells, stored_in, block_written, nodes_same, IsRow, row_is_node, FitWrite, child_named}, Taking.AreTaken}

-- what a key and a value part are
pub record IsPair (key text : List ℕ) : Type 0 where
  pub short : length key ≤ 28
  pub whole : length (value_part text) ≡ 33
  pub good : is_part 32 (value_part text) ≡ true
  pub spells : text_of (value_part text) ≡ text

pub pair_is : (key text : List ℕ) → length key ≤ 28 → length text ≤ 32 → IsPair key text
pair_is key text short few = record { short = short; whole = length-part 32 text few; good = part_is_part 32 32 text few; spells = part_text 32 text }

-- the numbers of an area
pub record HasSizes (a : Area) : Type 0 where
  pub sized : IsBlock a.size
  pub least : 256 ≤ a.size
  pub most : a.blocks ≤ 2 ^ 32
  pub few : a.blocks < 32768
  pub some : 1 < half (cell_count a.size)
  pub less : half (cell_count a.size) ≤ cell_count a.size
  pub two : 3 ≤ cell_count a.size

pub sizes_of : (a : Area) → IsTreeArea a → HasSizes a
sizes_of a area = search (arith, area_block) steps 100000

no_list : (left : List ℕ) → length left ≡ 0 → left ≡ []
no_list [] none = refl
no_list (k ∷ ks) none = absurd (omega arith)

pub one_list : (left : List ℕ) → length left ≡ 1 → (r : ℕ) × (left ≡ r ∷ [])
one_list [] one = absurd (omega arith)
one_list (r ∷ []) one = (r, refl)
one_list (r ∷ s ∷ left) one = absurd (omega arith)

counted : (a : Area) (first : List ℕ) (need : ℕ) (taken : List ℕ) → AreTaken a first need taken → AreTaken a first (length taken) taken
counted a first need taken are = record { up = are.up; count = refl; past = are.past; below = are.below; free = are.free }

module _ (a : Area) (area : IsTreeArea a) (A : Array) (region : IsTreeRegion a A) (key text : List ℕ) (pair : IsPair key text)
    (lacks : AllByRecursion (λ (p : List ℕ × List ℕ). key ≢ p.0) (tree_pairs a A))
    (need : ℕ) (taken : List ℕ) (are : AreTaken a (bytes_in (map_mark a.blocks) (block_at A a.start)) need taken) where
  abbrev first : List ℕ
  first = bytes_in (map_mark a.blocks) (block_at A a.start)

  abbrev value : List ℕ
  value = value_part text

  abbrev cells : ℕ → List Cell
  cells = cells_in a A

  abbrev n : ℕ
  n = cell_count a.size

  abbrev Does : Climb → Type 0
  Does way = HasPutInto a key text A (stored a (put A (first_access a first taken way.root)) way.writes)

  sizes : HasSizes a
  sizes = sizes_of a area

  -- all that is reached lies after the first block
  past_of : (level root : ℕ) (D : Array) → IsNewTree a A D key text taken level root → ((j : ℕ) → IsIn j (tree_nodes a A) → 1 ≤ j)
      → (j : ℕ) → IsIn j (nodes_in level (tree_at (cells_in a D) level root)) → 1 ≤ j
  past_of level root D new old j is = elim (grown_in taken (tree_nodes a A) (nodes_in level (tree_at (cells_in a D) level root)) j new.blocks is) [
    | inl was ↦ old j was
    | inr at ↦ are.past j at
  ]

  kept_case : (ts : List ℕ) → taken ≡ ts → 1 ≤ length ts → (ws : List (ℕ × ℕ × List Cell)) → (IsIn 0 (spots ws) → ⊥) → IsNewTree a A (stored a A ws) key text taken (level_of a A) (root_of a A)
      → ((j : ℕ) → IsIn j (tree_nodes a A) → 1 ≤ j) → HasPutInto a key text A (stored a (put A (first_access a first ts None)) ws)
  kept_case [] e some ws away new old = absurd (omega arith)
  kept_case (k ∷ ks) e some ws away new old =
      kept_root a area A region key text lacks k ks (subst (λ (l : List ℕ). AreTaken a first (length l) l) e (counted a first need taken are)) ws away
      (subst (λ (l : List ℕ). IsNewTree a A (stored a A ws) key text l (level_of a A) (root_of a A)) e new) (past_of (level_of a A) (root_of a A) (stored a A ws) new old)

  new_case : (ts : List ℕ) → taken ≡ ts → 1 ≤ length ts → (ws : List (ℕ × ℕ × List Cell)) → (IsIn 0 (spots ws) → ⊥) → (r l : ℕ) → IsNewTree a A (stored a A ws) key text taken l r
      → ((j : ℕ) → IsIn j (tree_nodes a A) → 1 ≤ j) → HasPutInto a key text A (stored a (put A (first_access a first ts (Some (r, l)))) ws)
  new_case [] e some ws away r l new old = absurd (omega arith)
  new_case (k ∷ ks) e some ws away r l new old =
      new_root_put a area A region key text lacks k ks (subst (λ (l : List ℕ). AreTaken a first (length l) l) e (counted a first need taken are)) ws away r l
      (subst (λ (x : List ℕ). IsNewTree a A (stored a A ws) key text x l r) e new) (past_of l r (stored a A ws) new old) sizes.most

  -- THE FIRST PAIR OF AN EMPTY TREE
  module _ (empty : root_of a A ≡ 0) (r : ℕ) (one : taken ≡ r ∷ []) where
    abbrev cs : List Cell
    cs = (key, value) ∷ []

    abbrev D0 : Array
    D0 = stored a A ((r, 0, cs) ∷ [])

    in_taken : IsIn r taken
    in_taken = subst (λ (l : List ℕ). IsIn r l) (sym one) (inl refl)

    first_row : IsRow a 0 cs
    first_row = record { fit = ((pair.short, pair.whole), tt); few = (let t = sizes.two in omega arith); strict = tt; kind = inl refl; parts = (pair.good, tt) }

    here0 : block_at D0 (a.start + r) ≡ node_bytes a.size 0 cs
    here0 = block_written a A r 0 cs sizes.sized first_row.fit first_row.few (region.shape r (are.below r in_taken))

    cells0 : cells_in a D0 r ≡ cs
    cells0 = ap (used_cells a.size) here0 ∙ cells_are a.size 0 cs first_row.fit first_row.few

    none_pairs : tree_pairs a A ≡ []
    none_pairs = ap (λ (t : Bool). cond t [] (pairs_in (level_of a A) (tree_at cells (level_of a A) (root_of a A)))) (eq-eqb (root_of a A) 0 empty)

    none_nodes : tree_nodes a A ≡ []
    none_nodes = ap (λ (t : Bool). cond t [] (nodes_in (level_of a A) (tree_at cells (level_of a A) (root_of a A)))) (eq-eqb (root_of a A) 0 empty)

    first_tree : IsNewTree a A D0 key text taken 0 r
    first_tree = record {
      nodes = subst (IsNode a 0) (sym here0) (row_is_node a 0 cs first_row (omega arith));
      ordered = subst (Rattle.store_model.specs.Trees.Rise [] None) (sym cells0) (ap Rattle.std.specs.Prelude.not (not_before_empty key), tt);
      pairs = subst (λ (l : List (List ℕ × List ℕ)). IsGrown {X = List ℕ × List ℕ} ((key, text) ∷ []) l (pairs_in 0 (tree_at (cells_in a D0) 0 r))) (sym none_pairs)
          (subst (λ (c : List Cell). IsGrown {X = List ℕ × List ℕ} ((key, text) ∷ []) [] (Rattle.iso_tree.proofs.Edits.leaf_pairs c)) (sym cells0)
          (subst (λ (x : List ℕ). IsGrown {X = List ℕ × List ℕ} ((key, text) ∷ []) [] ((key, x) ∷ [])) (sym pair.spells) (((key, text) ∷ []), ([], [], refl, refl), refl)));
      blocks = subst (λ (l : List ℕ). IsGrown {X = ℕ} taken l (r ∷ [])) (sym none_nodes) (subst (λ (l : List ℕ). IsGrown {X = ℕ} l [] (r ∷ [])) (sym one) ((r ∷ []), ([], [], refl, refl), refl));
      past = are.past r in_taken;
      below = are.below r in_taken;
      low = omega arith;
    }

    pub empty_does : Does (climb n key 0 (key, value) 0 [] taken)
    empty_does =
        subst (λ (l : List ℕ). HasPutInto a key text A (stored a (put A (first_access a first taken (climb n key 0 (key, value) 0 [] l).root)) (climb n key 0 (key, value) 0 [] l).writes)) (sym one)
        (new_case taken refl (omega (arith, ap length one)) ((r, 0, cs) ∷ []) (λ is. elim is [ inl e ↦ absurd (omega (arith, are.past r in_taken, e)) | inr never ↦ absurd never ]) r 0 first_tree
        (λ j is. absurd (subst (λ (l : List ℕ). IsIn j l) none_nodes is)))

  -- A TREE WITH A ROOT
  module _ (some : root_of a A ≢ 0) (below : root_of a A < a.blocks) where
    abbrev root : ℕ
    root = root_of a A

    abbrev level : ℕ
    level = level_of a A

    abbrev t : Tree level
    t = tree_at cells level root

    nodes : AreNodes a A level root
    nodes = elim region.nodes [ inl none ↦ absurd (some none) | inr is ↦ is ]

    order : IsOrdered level [] None t
    order = elim region.ordered [ inl none ↦ absurd (some none) | inr is ↦ is ]

    test : (root == 0) ≡ false
    test = ne_eqb root 0 some

    pairs_are : tree_pairs a A ≡ pairs_in level t
    pairs_are = ap (λ (b : Bool). cond b [] (pairs_in level t)) test

    nodes_are : tree_nodes a A ≡ nodes_in level t
    nodes_are = ap (λ (b : Bool). cond b [] (nodes_in level t)) test

    root_past : 1 ≤ root
    root_past = omega (arith, some)

    old_inside : (j : ℕ) → IsIn j (nodes_in level t) → (1 ≤ j) × (j < a.blocks)
    old_inside j is = nodes_inside a A j level root nodes root_past below is

    old_past : (j : ℕ) → IsIn j (tree_nodes a A) → 1 ≤ j
    old_past j is = (old_inside j (subst (λ (l : List ℕ). IsIn j l) nodes_are is)).0

    apart : IsApart (nodes_in level t ++ taken)
    apart = subst (λ (l : List ℕ). IsApart (l ++ taken)) nodes_are (taken_apart a A area region need taken are)

    level_small : level < 15
    level_small = level_low n level a.blocks t (nodes_sized a A sizes.sized region.shape level root below nodes) (apart_parts (nodes_in level t) taken apart).0 (λ k is. (old_inside k is).1) sizes.few

    lacks_t : Lacks key level t
    lacks_t = subst (AllByRecursion (λ (p : List ℕ × List ℕ). key ≢ p.0)) pairs_are lacks

    named : (b : ℕ) → b < a.blocks → child_of (child_part b) ≡ b
    named b low = child_named b (let m = sizes.most in omega arith)

    abbrev path : List (ℕ × List Cell)
    path = path_below cells key level root

    few : AllByRecursion (λ (w : ℕ × List Cell). length w.1 ≤ n) path
    few = path_few a A key level root [] None nodes order

    abbrev p : Put
    p = put_below n child_part cells key value level root taken

    module _ (needed : need ≡ need_of n (counts path)) (full : 1 ≤ full_row n (counts path)) where
      enough : full_row n (counts path) ≤ length taken
      enough = omega (arith, are.count, needed)

      served : IsServed n (counts path) p
      served = put_served n cells key value level root [] None taken order few enough

      is : IsPut n level cells (written cells p.writes) root t key value taken p
      is = put_is n child_part cells key value sizes.some sizes.less level root taken [] None (λ b at. named b (are.below b at)) order lacks_t apart served.enough

      has : HasPut a level A root p
      has = put_has a sizes.sized sizes.least sizes.most A region.shape key value pair.short pair.whole pair.good sizes.some sizes.less level root taken [] None (λ b at. (are.past b at, are.below b at)) nodes below
          (ap Rattle.std.specs.Prelude.not (not_before_empty key)) order lacks_t apart (let l = level_small in omega arith) served.enough

      blocks : taken ≡ p.taken ++ p.left
      blocks = put_blocks n cells key value level root taken

      abbrev stored_below : Array
      stored_below = stored a A p.writes

      cells1 : cells_in a stored_below ≡ written cells p.writes
      cells1 = stored_cells a p.writes A sizes.sized has.fits region.shape

      away1 : IsIn 0 (spots p.writes) → ⊥
      away1 at = elim (has.places 0 at) [
        | inl old ↦ absurd (omega (arith, (old_inside 0 old).0))
        | inr new ↦ absurd (omega (arith, are.past 0 (subst (λ (l : List ℕ). IsIn 0 l) (sym blocks) (in_front 0 p.taken p.left new))))
      ]

      long : length taken ≡ length p.taken + length p.left
      long = ap length blocks ∙ length-append p.taken p.left

      -- where the root is not split
      module _ (room : full_row n (counts path) < length (counts path)) (none : p.second ≡ None) where
        left_none : p.left ≡ []
        left_none = no_list p.left
            (let e : need_of n (counts path) ≡ full_row n (counts path) + 0 = ap (λ (b : Bool). full_row n (counts path) + cond b 1 0) (ne_eqb (full_row n (counts path)) (length (counts path)) (λ x. absurd (omega arith))) in
            omega (arith, long, served.count, are.count, needed))

        all_taken : p.taken ≡ taken
        all_taken = sym (blocks ∙ ap (λ l. p.taken ++ l) left_none ∙ append-nil p.taken)

        kept_tree : IsNewTree a A stored_below key text taken level root
        kept_tree =
            let rooted = same_root n level cells (written cells p.writes) root t key value taken p order is none in
            record {
              nodes = has.nodes;
              ordered = subst (λ (f : ℕ → List Cell). IsOrdered level [] None (tree_at f level root)) (sym cells1) rooted.ordered;
              pairs = subst (λ (l : List (List ℕ × List ℕ)). IsGrown ((key, text) ∷ []) l (pairs_in level (tree_at (cells_in a stored_below) level root))) (sym pairs_are)
                  (subst (λ (f : ℕ → List Cell). IsGrown ((key, text) ∷ []) (pairs_in level t) (pairs_in level (tree_at f level root))) (sym cells1)
                  (subst (λ (x : List ℕ). IsGrown ((key, x) ∷ []) (pairs_in level t) (pairs_in level (tree_at (written cells p.writes) level root))) pair.spells rooted.pairs));
              blocks = subst (λ (l : List ℕ). IsGrown taken l (nodes_in level (tree_at (cells_in a stored_below) level root))) (sym nodes_are)
                  (subst (λ (f : ℕ → List Cell). IsGrown taken (nodes_in level t) (nodes_in level (tree_at f level root))) (sym cells1)
                  (subst (λ (l : List ℕ). IsGrown l (nodes_in level t) (nodes_in level (tree_at (written cells p.writes) level root))) all_taken rooted.nodes));
              past = root_past;
              below = below;
              low = let l = level_small in omega arith;
            }

        kept_does : Does (record { writes = p.writes; root = None })
        kept_does = kept_case taken refl (omega (arith, enough)) p.writes away1 kept_tree old_past

      -- where it is
      module _ (s : List ℕ × ℕ) (split : p.second ≡ Some s) (r : ℕ) (left_is : p.left ≡ r ∷ []) where
        abbrev rc : List Cell
        rc = root_cells (suc level) root (s.0, child_part s.1)

        abbrev w : ℕ × ℕ × List Cell
        w = (r, suc level, rc)

        all_here : taken ≡ p.taken ++ r ∷ []
        all_here = blocks ∙ ap (λ l. p.taken ++ l) left_is

        r_in : IsIn r taken
        r_in = subst (λ (l : List ℕ). IsIn r l) (sym all_here) (in_back r p.taken (r ∷ []) (inl refl))

        s_in : IsIn s.1 taken
        s_in = subst (λ (l : List ℕ). IsIn s.1 l) (sym blocks) (in_front s.1 p.taken p.left (is.new s split))

        abbrev t1 : Tree level
        t1 = tree_at (written cells p.writes) level root

        abbrev t2 : Tree level
        t2 = tree_at (written cells p.writes) level s.1

        abbrev both : List ℕ
        both = nodes_in level t1 ++ (nodes_in level t2 ++ [])

        grown : IsGrown p.taken (nodes_in level t) both
        grown = subst (λ (o : Option (List ℕ × ℕ)). IsGrown p.taken (nodes_in level t) (nodes_in level t1 ++ flat_map (λ c. nodes_in level c.1) (second_kid (written cells p.writes) level o))) split is.nodes

        fresh : IsApart (both ++ r ∷ [])
        fresh = subst (λ (l : List ℕ). IsApart (both ++ l)) left_is
            (grown_apart p.taken (nodes_in level t) both p.left grown (subst (λ (l : List ℕ). IsApart (nodes_in level t ++ l)) is.blocks apart))

        not_r : (j : ℕ) → IsIn j both → j ≢ r
        not_r j at e = (apart_parts both (r ∷ []) fresh).2 j at (inl (sym e))

        sep : (Rattle.store_model.specs.TreeNodes.before [] s.0 ≡ true) × (length s.0 ≤ 28)
        sep =
            let ordered = subst (λ (o : Option (List ℕ × ℕ)). Rattle.store_model.specs.Trees.AreAfter (IsOrdered level) [] [] None t1 (second_kid (written cells p.writes) level o)) split
            (is.ordered [] None (ap Rattle.std.specs.Prelude.not (not_before_empty key)) order) in
            let size = subst (λ (o : Option (List ℕ × ℕ)). Rattle.iso_tree.proofs.Shapes.AreSized n level (second_kid (written cells p.writes) level o)) split
            (is.sized pair.short pair.whole (nodes_sized a A sizes.sized region.shape level root below nodes)).1 in
            (ordered.0, size.0.0)

        row : IsRow a (suc level) rc
        row = record {
          fit = ((omega arith, refl), ((sep.1, refl), tt));
          few = let three = sizes.two in omega arith;
          strict = (sep.0, tt);
          kind = inr (omega arith, refl);
          parts = (child_part_is a.blocks root root_past below sizes.most, (child_part_is a.blocks s.1 (are.past s.1 s_in) (are.below s.1 s_in) sizes.most, tt));
        }

        abbrev access : Rattle.iso_model.specs.declared.access.Access.Access
        access = store_access (a.start + r) [] (node_bytes a.size (suc level) rc)

        abbrev stored_all : Array
        stored_all = put stored_below access

        stored_is : stored a A (p.writes ++ w ∷ []) ≡ stored_all
        stored_is = stored_append a A p.writes (w ∷ [])

        shape1 : (j : ℕ) → j < a.blocks → length (block_at stored_below (a.start + j)) ≡ a.size
        shape1 = stored_in a A p.writes region.shape

        here2 : block_at stored_all (a.start + r) ≡ node_bytes a.size (suc level) rc
        here2 = block_written a stored_below r (suc level) rc sizes.sized row.fit row.few (shape1 r (are.below r r_in))

        kept2 : (j : ℕ) → IsIn j both → block_at stored_all (a.start + j) ≡ block_at stored_below (a.start + j)
        kept2 j at = other_block stored_below access (a.start + j) (λ e. not_r j at (omega arith))

        root_kept : AreNodes a stored_all level root
        root_kept = nodes_same a stored_below stored_all level root
            (λ j at. kept2 j (in_front j (nodes_in level t1) (nodes_in level t2 ++ []) (subst (λ (f : ℕ → List Cell). IsIn j (nodes_in level (tree_at f level root))) cells1 at))) has.nodes

        half_kept : AreNodes a stored_all level s.1
        half_kept = nodes_same a stored_below stored_all level s.1
            (λ j at. kept2 j (in_back j (nodes_in level t1) (nodes_in level t2 ++ []) (in_front j (nodes_in level t2) [] (subst (λ (f : ℕ → List Cell). IsIn j (nodes_in level (tree_at f level s.1))) cells1 at)))) (has.second s split)

        nodes2 : AreNodes a stored_all (suc level) r
        nodes2 = nodes_from a stored_all (suc level) r rc (ap (used_cells a.size) here2 ∙ cells_are a.size (suc level) rc row.fit row.few)
            (subst (IsNode a (suc level)) (sym here2) (row_is_node a (suc level) rc row (let l = level_small in omega arith)))
            (subst (AreNodes a stored_all level) (sym (named root below)) root_kept, (subst (AreNodes a stored_all level) (sym (named s.1 (are.below s.1 s_in))) half_kept, tt))

        fits2 : AllByRecursion (FitWrite a) (p.writes ++ w ∷ [])
        fits2 = all_append (FitWrite a) p.writes (w ∷ []) has.fits ((row.fit, row.few, are.below r r_in), tt)

        cells2 : cells_in a (stored a A (p.writes ++ w ∷ [])) ≡ write_cells (written cells p.writes) w
        cells2 = stored_cells a (p.writes ++ w ∷ []) A sizes.sized fits2 region.shape ∙ written_append cells p.writes (w ∷ [])

        away2 : IsIn 0 (spots (p.writes ++ w ∷ [])) → ⊥
        away2 at = elim (in_cases 0 (spots p.writes) (r ∷ []) (subst (λ (l : List ℕ). IsIn 0 l) (map-append (λ v. v.0) p.writes (w ∷ [])) at)) [
          | inl old ↦ away1 old
          | inr here ↦ elim here [ inl e ↦ absurd (omega (arith, are.past r r_in, e)) | inr never ↦ absurd never ]
        ]

        new_tree : IsNewTree a A (stored a A (p.writes ++ w ∷ [])) key text taken (suc level) r
        new_tree =
            let E = stored a A (p.writes ++ w ∷ []) in
            let rooted = new_root n level child_part cells (written cells p.writes) root r [] s t key value taken p order apart is split left_is (named root below) (named s.1 (are.below s.1 s_in)) in
            record {
              nodes = subst (λ (B : Array). AreNodes a B (suc level) r) (sym stored_is) nodes2;
              ordered = subst (λ (f : ℕ → List Cell). IsOrdered (suc level) [] None (tree_at f (suc level) r)) (sym cells2) rooted.ordered;
              pairs = subst (λ (l : List (List ℕ × List ℕ)). IsGrown {X = List ℕ × List ℕ} ((key, text) ∷ []) l (pairs_in (suc level) (tree_at (cells_in a E) (suc level) r))) (sym pairs_are)
                  (subst (λ (f : ℕ → List Cell). IsGrown {X = List ℕ × List ℕ} ((key, text) ∷ []) (pairs_in level t) (pairs_in (suc level) (tree_at f (suc level) r))) (sym cells2)
                  (subst (λ (x : List ℕ). IsGrown {X = List ℕ × List ℕ} ((key, x) ∷ []) (pairs_in level t) (pairs_in (suc level) (tree_at (write_cells (written cells p.writes) w) (suc level) r))) pair.spells rooted.pairs));
              blocks = subst (λ (l : List ℕ). IsGrown taken l (nodes_in (suc level) (tree_at (cells_in a E) (suc level) r))) (sym nodes_are)
                  (subst (λ (f : ℕ → List Cell). IsGrown taken (nodes_in level t) (nodes_in (suc level) (tree_at f (suc level) r))) (sym cells2)
                  (subst (λ (l : List ℕ). IsGrown l (nodes_in level t) (nodes_in (suc level) (tree_at (write_cells (written cells p.writes) w) (suc level) r))) (sym all_here) rooted.nodes));
              past = are.past r r_in;
              below = are.below r r_in;
              low = let l = level_small in omega arith;
            }

        new_does : Does (record { writes = p.writes ++ w ∷ []; root = Some (r, suc level) })
        new_does = new_case taken refl (omega (arith, enough)) (p.writes ++ w ∷ []) away2 r (suc level) new_tree old_past

      abbrev above : List ℕ × ℕ → Climb
      above s = climb n key (suc level) (s.0, child_part s.1) root [] p.left

      -- What a put does that takes blocks.
      pub some_does : Does (climb n key 0 (key, value) 0 (nodes_at cells (map (λ v. v.0) (take (suc (full_row n (counts path))) (counts path)))) taken)
      some_does = subst Does (sym (way_is n key value cells level root taken order few)) (elim served.kind [
        | inr room ↦ subst (λ (o : Option (List ℕ × ℕ)). Does (climb_on p above o)) (sym room.1) (kept_does room.0 room.1)
        | inl all ↦
            (let e : need_of n (counts path) ≡ full_row n (counts path) + 1 = ap (λ (b : Bool). full_row n (counts path) + cond b 1 0) (eq-eqb (full_row n (counts path)) (length (counts path)) all.0) in
            let one = one_list p.left (omega (arith, long, served.count, are.count, needed)) in
            subst (λ (o : Option (List ℕ × ℕ)). Does (climb_on p above o)) (sym all.1.1)
            (subst (λ (l : List ℕ). Does (record { writes = p.writes ++ (climb n key (suc level) (all.1.0.0, child_part all.1.0.1) root [] l).writes; root = (climb n key (suc level) (all.1.0.0, child_part all.1.0.1) root [] l).root })) (sym one.1)
            (new_does all.1.0 all.1.1 one.0 one.1)))
      ])
