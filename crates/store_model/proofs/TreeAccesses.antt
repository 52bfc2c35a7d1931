-- The accesses of the tree store's calls are accesses to the array, whatever its blocks hold.
use Rattle.store_model.{proofs.Words.{region_there, tests_passed, ◌≡◌, ◌≢◌, ◌⊎◌, ◌∙◌, sym, refl, ap, subst, inl, inr, ℕ, zero, suc, ◌+◌, ◌-◌, ◌*◌, ◌<◌, ◌≤◌, Bool, true, false, ◌&&◌, ◌==◌, not, cond, IsTrue, List, [], ◌∷◌, ◌++◌, length, take, drop, Option, Some, None, IfSome, Result, nat_le, nat_lt, option_map, slice_index, arith, eq-eqb, to_be_bytes, w32, AllByRecursion, list_all, range_with_len, bytes_eq, and_parts, eqb-false, leb-false, leb-true, ltb-false, ltb-true, not-true, length-drop, length-take, or_lt, Geometry, Span, Area, StoreError, Broken, Array, block_with, cell_count, is_part, key_at, keys_end, keys_mark, laid_at, value_mark, value_part, bit_place, free_count, map_mark, set_bit, with_bit, is_valid, at_cell, is_key, is_value, AreBytes, HasShape, IsAccess, IsSpan, block_at, tree_area, Done, Program, bytes_in, further_bytes, store_access, Answer, AtLeaf, Climb, Descent, Scanned, and_then, changed_map, changed_mark, climb, climb_on, del_below, descend, edit_leaf, first_in, first_write, free_list, full_row, get_below, inner_further, last_of, leaf_further, look_again, many_in, need_of, pairs_with, parts_of, placed, put_below_root, put_writes, root_cells, scan_below, scan_children, scan_from, scan_further, scan_program, store_nodes, with_head, with_map, with_used, without_key, Cell, IsBlock, before, cell_of, child_of, child_part, count_of, head_mark, is_child, is_head, is_node, node_bytes, place_from, place_of, used_cells, IsTreeArea, Put, fit, half, halves, put_after, bytes_append, bytes_drop, bytes_take, no_bytes, set_bytes}, specs.TreeCalls.{AtBroken, del_at, del_program, get_program, got, put_at, put_new, put_program}, proofs.HashAccesses.{bit_small, first_below}, proofs.Laying.{block_with_bytes, laid_bytes, length-block_with, length-laid_at, length-part, part_bytes, word_bytes}, proofs.StoreAccesses.{FitsOn, fits_cond, fits_more, fits_then, stored_in}, proofs.TreeWays.{RiseIn, rise_range, rise_filter, rise_take, last_rises, AreInside, rise_inside, free_are, Wrote, OnWay, half_less, half_rest, first_key_are, Fitting, row_less, length-placed}, proofs.TreeCells.{AreCells, IsCell, block_size_is, child_cell, drop_are, emptied_are, filter_are, length-emptied, length-filter_le, length-node, length-put, length-used, node_read, node_values, put_are, take_are, used_are, value_cell}}
use Rattle.std.proofs.Common.{map, Ok, Err}

-- the tree store of a valid image that has one
pub tree_area_is : (g : Geometry) → IsTrue (is_valid g) → g.tree ≢ 0 → IsTreeArea (tree_area g)
tree_area_is g valid some =
    let passed = tests_passed g valid in
    let there = region_there g 2 g.tree passed.tree some in
    record { block_size = passed.block; least_size = there.block; least = there.enough; most = there.most }

-- an area of the blocks of an array of the image
pub record IsTreeIn (g : Geometry) (a : Area) (A : Array) : Type 0 where
  pub area : IsTreeArea a
  pub size : a.size ≡ g.block
  pub fits : a.start + a.blocks ≤ g.blocks
  pub shape : HasShape g A

module _ (g : Geometry) (a : Area) (A : Array) (is : IsTreeIn g a A) where
  sized : IsBlock a.size
  sized = block_size_is a.size is.area.block_size

  cells_some : 0 < cell_count a.size
  cells_some = let whole = sized.whole in omega (arith, is.area.least_size)

  room : 64 + 64 * cell_count a.size ≤ g.block
  room = let whole = sized.whole in omega (arith, is.size)

  value_span : (i : ℕ) → i < cell_count a.size → IsSpan g.block (value_mark a.size i)
  value_span i below = record { some = omega arith; fits = omega (arith, room) }

  keys_span : IsSpan g.block (keys_mark a.size)
  keys_span = record { some = omega arith; fits = omega (arith, room) }

  head_span : IsSpan g.block head_mark
  head_span = record { some = omega arith; fits = omega (arith, room) }

  map_span : IsSpan g.block (map_mark a.blocks)
  map_span = record { some = omega arith; fits = omega (arith, is.size, is.area.least_size, is.area.most) }

  first_inside : a.start < g.blocks
  first_inside = omega (arith, is.fits, is.area.least)

  inside : (block : ℕ) → block < a.blocks → a.start + block < g.blocks
  inside block below = omega (arith, is.fits)

  abbrev keys_of : ℕ → List ℕ
  keys_of block = bytes_in (keys_mark a.size) (block_at A (a.start + block))

  block_long : (block : ℕ) → block < a.blocks → length (block_at A (a.start + block)) ≡ a.size
  block_long block below = is.shape.bytes (a.start + block) (inside block below) ∙ sym is.size

  -- a node that was read
  abbrev IsRead : (block level : ℕ) → Type 0
  IsRead block level = (block < a.blocks) × (is_node a.size level (keys_of block) ≡ true)

  abbrev cells_in : ℕ → List Cell
  cells_in block = used_cells a.size (block_at A (a.start + block))

  read_cells : (block level : ℕ) → IsRead block level → AreCells (cells_in block)
  read_cells block level read = used_are a.size level (block_at A (a.start + block)) sized (block_long block read.0) (is.shape.values (a.start + block)) read.1

  length-read : (block level : ℕ) → IsRead block level → length (cells_in block) ≡ count_of (keys_of block)
  length-read block level read = length-used a.size level (block_at A (a.start + block)) sized (block_long block read.0) (is.shape.values (a.start + block)) read.1

  read_few : (block level : ℕ) → IsRead block level → count_of (keys_of block) ≤ cell_count a.size
  read_few block level read = (node_read a.size level (keys_of block) read.1).few

  -- a way that a descent came: nodes that were read, with their counts
  abbrev IsPassed : ℕ × ℕ → Type 0
  IsPassed p = (level : ℕ) × IsRead p.0 level × (p.1 ≡ count_of (keys_of p.0))

  abbrev ArePassed : List (ℕ × ℕ) → Type 0
  ArePassed path = AllByRecursion IsPassed path

  -- where a descent ends
  abbrev EndsSo : (top : ℕ) → Descent → Type 0
  EndsSo top (AtLeaf path leaf keys value) = IsRead leaf 0 × (keys ≡ keys_of leaf) × ArePassed path × (length path ≡ top)
  EndsSo top (AtBroken block) = Unit {0}

  abbrev Ends : (top : ℕ) → Descent → Array → Type 0
  Ends top d B = (B ≡ A) × EndsSo top d

  cell_below : (key : List ℕ) (block level i : ℕ) → IsRead block level → cell_of key (keys_of block) ≡ Some i → i < cell_count a.size
  cell_below key block level i read e = let below = first_below _ 0 (count_of (keys_of block)) i e in omega (arith, read_few block level read, below)

  leaf_mark : (key : List ℕ) (with_value : Bool) (block : ℕ) → block < a.blocks → IfSome (leaf_further a key with_value (keys_of block)) (IsSpan g.block)
  leaf_mark key with_value block below = by (with_value && is_node a.size 0 (keys_of block)) refl
    where
      at : (o : Option ℕ) → cell_of key (keys_of block) ≡ o → is_node a.size 0 (keys_of block) ≡ true → IfSome (option_map (value_mark a.size) o) (IsSpan g.block)
      at None e node = tt
      at (Some i) e node = value_span i (cell_below key block 0 i (below, node) e)

      by : (t : Bool) → (with_value && is_node a.size 0 (keys_of block)) ≡ t → IfSome (cond t (option_map (value_mark a.size) (cell_of key (keys_of block))) None) (IsSpan g.block)
      by true e = at (cell_of key (keys_of block)) refl (and_parts _ _ e).1
      by false e = tt

  -- the child of an inner node
  place_less : (key keys : List ℕ) (j i n : ℕ) → j < i → place_from key keys j i n < i + n
  place_less key keys j i zero less = omega arith
  place_less key keys j i (suc n) less = elim (before key (key_at keys i)) as (λ t. cond t j (place_from key keys i (i + 1) n) < i + suc n) [
    | true ↦ omega arith
    | false ↦ (let rest = place_less key keys i (i + 1) n (omega arith) in omega arith)
  ]

  place_below : (key : List ℕ) (block level : ℕ) → IsRead block (suc level) → place_of key (keys_of block) < count_of (keys_of block)
  place_below key block level read =
      let some = (node_read a.size (suc level) (keys_of block) read.1).some (omega arith) in
      let less = place_less key (keys_of block) 0 1 (count_of (keys_of block) - 1) (omega arith) in
      omega arith

  inner_mark : (key : List ℕ) (level block : ℕ) → block < a.blocks → IfSome (inner_further a key (suc level) (keys_of block)) (IsSpan g.block)
  inner_mark key level block below = by (is_node a.size (suc level) (keys_of block)) refl
    where
      by : (t : Bool) → is_node a.size (suc level) (keys_of block) ≡ t → IfSome (cond t (Some (value_mark a.size (place_of key (keys_of block)))) None) (IsSpan g.block)
      by true e =
          let few = read_few block (suc level) (below, e) in
          let less = place_below key block level (below, e) in
          value_span (place_of key (keys_of block)) (omega arith)
      by false e = tt

  child_inside : (part : List ℕ) → is_child a.blocks part ≡ true → child_of part < a.blocks
  child_inside part child = ltb-true _ _ (and_parts _ _ (and_parts _ _ child).0).1

  descend_fits : (key : List ℕ) (with_value : Bool) (level block : ℕ) (path : List (ℕ × ℕ)) (top : ℕ) → block < a.blocks → ArePassed path → length path + level ≡ top
      → FitsOn g (Ends top) (descend a key with_value level block path) A
  descend_fits key with_value zero block path top below passed long = grind (arith, keys_span, leaf_mark, fits_cond)
  descend_fits key with_value (suc level) block path top below passed long =
      let keys = keys_of block in
      let value = further_bytes (inner_further a key (suc level) keys) (block_at A (a.start + block)) in
      let rest = descend a key with_value level (child_of value) ((block, count_of keys) ∷ path) in (
        inside block below,
        keys_span,
        inner_mark key level block below,
        fits_cond g (Ends top) (is_node a.size (suc level) keys && is_child a.blocks value) rest (Done (AtBroken (a.start + block))) A
            (λ good.
            let node : is_node a.size (suc level) keys ≡ true = (and_parts _ _ good).0 in
            let child : is_child a.blocks value ≡ true = (and_parts _ _ good).1 in
            let here : IsPassed (block, count_of keys) = (suc level, (below, node), refl) in
            descend_fits key with_value level (child_of value) ((block, count_of keys) ∷ path) top (child_inside value child) (here, passed) (omega arith))
            (λ bad. (refl, tt)),
      )

  abbrev Whole : {R : Type 0} → R → Array → Type 0
  Whole r B = Unit {0}

  -- a call that begins with the head
  head_fits : {X : Type 0} (next : ℕ → ℕ → Program (Result X StoreError)) → ((root level : ℕ) → root < a.blocks → level ≤ 31 → FitsOn g Whole (next root level) A) → FitsOn g Whole (with_head a next) A
  head_fits next fit = (
    first_inside,
    head_span,
    tt,
    fits_cond g Whole (is_head a (bytes_in head_mark (block_at A a.start))) _ _ A
        (λ good.
        let front = and_parts _ _ (and_parts _ _ good).0 in
        fit _ _ (ltb-true _ _ front.0) (leb-true _ _ front.1))
        (λ bad. tt),
  )

  pub tree_get_fits : (key : List ℕ) → FitsOn g Whole (get_program a key) A
  unfolding get_program
  tree_get_fits key =
      fits_cond g Whole (is_key key) _ _ A
      (λ good. head_fits (get_below a key) (λ root level below low.
      fits_cond g Whole (root == 0) _ _ A (λ empty. tt)
      (λ some. fits_then g (Ends level) Whole (descend a key true level root []) (λ d. Done (got a key d)) A (descend_fits key true level root [] level below tt (omega arith)) (λ d B ends. tt))))
      (λ bad. tt)

  -- a leaf that is read again and written
  edit_fits : {R : Type 0} (leaf : ℕ) (change : List Cell → List Cell) (r : R) → IsRead leaf 0 → AreCells (change (cells_in leaf)) → length (change (cells_in leaf)) ≤ cell_count a.size
      → FitsOn g Whole (edit_leaf a leaf change r) A
  edit_fits leaf change r read all few =
      (inside leaf read.0, (stored_in g a is.size is.fits leaf [] (node_bytes a.size 0 (change (cells_in leaf))) read.0 tt (omega arith) (length-node a.size 0 (change (cells_in leaf)) sized all few) (node_values a.size 0 (change (cells_in leaf)) sized all few (omega arith)), tt))

  at_cell_fits : {R : Type 0} (o : Option ℕ) (found : ℕ → Program R) (other : Program R) → ((i : ℕ) → o ≡ Some i → FitsOn g Whole (found i) A) → FitsOn g Whole other A → FitsOn g Whole (at_cell o found other) A
  at_cell_fits None found other here there = there
  at_cell_fits (Some i) found other here there = here i refl

  del_fits_at : (key : List ℕ) (top : ℕ) (d : Descent) → EndsSo top d → FitsOn g Whole (del_at a key d) A
  del_fits_at key top (AtLeaf path leaf keys value) (read, keys_are, passed, long) =
      at_cell_fits (cell_of key keys) _ _
      (λ i e.
      edit_fits {R = Result Bool StoreError} leaf (without_key key) (Ok true) read (filter_are _ (cells_in leaf) (read_cells leaf 0 read))
      (let less = length-filter_le (λ c. not (bytes_eq c.0 key)) (cells_in leaf) in omega (arith, length-read leaf 0 read, read_few leaf 0 read)))
      tt
  del_fits_at key top (AtBroken block) ends = tt

  on_array : {R : Type 0} (p : Program R) (B : Array) → B ≡ A → FitsOn g Whole p A → FitsOn g Whole p B
  on_array p B same fit = subst (λ C. FitsOn g Whole p C) (sym same) fit

  pub tree_del_fits : (key : List ℕ) → FitsOn g Whole (del_program a key) A
  unfolding del_program
  tree_del_fits key =
      fits_cond g Whole (is_key key) _ _ A
      (λ good. head_fits (del_below a key) (λ root level below low.
      fits_cond g Whole (root == 0) _ _ A (λ empty. tt)
      (λ some. fits_then g (Ends level) Whole (descend a key false level root []) (del_at a key) A (descend_fits key false level root [] level below tt (omega arith))
      (λ d B ends. on_array (del_at a key d) B ends.0 (del_fits_at key level d ends.1)))))
      (λ bad. tt)

  -- the nodes of a way, read again
  again_fits : {R : Type 0} (path : List (ℕ × ℕ)) (next : List (ℕ × List Cell) → Program R) → ArePassed path
      → ((nodes : List (ℕ × List Cell)) → AllByRecursion (OnWay a) nodes → length nodes ≡ length path → FitsOn g Whole (next nodes) A) → FitsOn g Whole (look_again a (map (λ p. p.0) path) next) A
  again_fits [] next passed fit = fit [] tt refl
  again_fits (p ∷ path) next passed fit =
      let read = passed.0.1 in (
        inside p.0 read.0,
        again_fits path (λ nodes. next ((p.0, used_cells a.size (block_at A (a.start + p.0))) ∷ nodes)) passed.1
            (λ nodes all long. fit _ ((read.0, read_cells p.0 passed.0.0 read, omega (arith, length-read p.0 passed.0.0 read, read_few p.0 passed.0.0 read)), all) (ap suc long)),
      )

  -- a node that gets a cell
  two_fit : (level block : ℕ) (cs : List Cell) (news : List ℕ) → block < a.blocks → level < 256 → AreCells cs → length cs ≡ suc (cell_count a.size) → AreInside a news → Fitting a (halves (cell_count a.size) level block cs news)
  two_fit level block cs [] below low all long new_are = record { writes = tt; left = tt; second = tt }
  two_fit level block cs (new ∷ news) below low all long new_are =
      let n = cell_count a.size in
      let less = half_less n cells_some in
      let rest = half_rest n cells_some in
      let back = drop_are (half n) cs all in
      record {
        writes = (
          (below, low, take_are (half n) cs all, omega (arith, length-take (half n) cs)),
          ((new_are.0, low, emptied_are level (drop (half n) cs) back, omega (arith, length-emptied level (drop (half n) cs), length-drop (half n) cs)), tt),
        );
        left = new_are.1;
        second = (new_are.0, (first_key_are (drop (half n) cs) back).0, (first_key_are (drop (half n) cs) back).1);
      }

  node_fits : (level block : ℕ) (cs : List Cell) (news : List ℕ) → block < a.blocks → level < 256 → AreCells cs → length cs ≤ suc (cell_count a.size) → AreInside a news → Fitting a (fit (cell_count a.size) level block cs news)
  node_fits level block cs news below low all long new_are = by (nat_le (length cs) (cell_count a.size)) refl
    where
      by : (t : Bool) → nat_le (length cs) (cell_count a.size) ≡ t → Fitting a (cond t (record { writes = (block, level, cs) ∷ []; second = None; taken = []; left = news; enough = true }) (halves (cell_count a.size) level block cs news))
      by true e = record { writes = ((below, low, all, leb-true _ _ e), tt); left = new_are; second = tt }
      by false e = let more = leb-false (length cs) (cell_count a.size) e in two_fit level block cs news below low all (omega arith) new_are

  placed_are : (level : ℕ) (key : List ℕ) (new : Cell) (cs : List Cell) → IsCell new → AreCells cs → AreCells (placed level key new cs)
  placed_are zero key new cs cell all = put_are key new cs cell all
  placed_are (suc level) key new [] cell all = tt
  placed_are (suc level) key new (c ∷ cs) cell all = (all.0, put_are key new cs cell all.1)

  root_are : (level block : ℕ) (new : Cell) → IsCell new → AreCells (root_cells level block new)
  root_are zero block new cell = (cell, tt)
  root_are (suc level) block new cell = (child_cell [] block (omega arith) no_bytes, (cell, tt))

  length-root : (level block : ℕ) (new : Cell) → length (root_cells level block new) ≤ 2
  length-root level block new = grind arith

  -- the writes of a way up
  abbrev IsClimb : Climb → Type 0
  IsClimb way = AllByRecursion (Wrote a) way.writes

  all_writes : (xs ys : List (ℕ × ℕ × List Cell)) → AllByRecursion (Wrote a) xs → AllByRecursion (Wrote a) ys → AllByRecursion (Wrote a) (xs ++ ys)
  all_writes [] ys first second = second
  all_writes (x ∷ xs) ys first second = (first.0, all_writes xs ys first.1 second)

  on_is : (q : Put) (on : List ℕ × ℕ → Climb) (o : Option (List ℕ × ℕ)) → AllByRecursion (Wrote a) q.writes → ((s : List ℕ × ℕ) → o ≡ Some s → IsClimb (on s)) → IsClimb (climb_on q on o)
  on_is q on None writes more = writes
  on_is q on (Some s) writes more = all_writes q.writes (on s).writes writes (more s refl)

  climb_is : (key : List ℕ) (level : ℕ) (new : Cell) (below : ℕ) (nodes : List (ℕ × List Cell)) (news : List ℕ) → IsCell new → AllByRecursion (OnWay a) nodes → AreInside a news → level + length nodes < 256
      → IsClimb (climb (cell_count a.size) key level new below nodes news)
  climb_is key level new below [] [] cell all new_are low = tt
  climb_is key level new below [] (r ∷ news) cell all new_are low = grind (arith, root_are, length-root)
  climb_is key level new below (node ∷ nodes) news cell all new_are low =
      let n = cell_count a.size in
      let cs = placed level key new node.1 in
      let q = fit n level node.0 cs news in
      let fitting = node_fits level node.0 cs news all.0.0 (omega arith) (placed_are level key new node.1 cell all.0.1) (omega (arith, length-placed level key new node.1, all.0.2)) new_are in
      on_is q (λ s. climb n key (suc level) (s.0, child_part s.1) node.0 nodes q.left) q.second fitting.writes
      (λ s e.
      let parts = subst (λ (o : Option (List ℕ × ℕ)). IfSome o (λ t. (t.1 < a.blocks) × (length t.0 ≤ 28) × AreBytes t.0)) e fitting.second in
      climb_is key (suc level) (s.0, child_part s.1) node.0 nodes q.left (child_cell s.0 s.1 parts.1 parts.2) all.1 fitting.left (omega arith))

  nodes_fit : (writes : List (ℕ × ℕ × List Cell)) (B : Array) → AllByRecursion (Wrote a) writes → FitsOn g Whole (store_nodes {R = Answer} a writes (Done (Ok tt))) B
  nodes_fit [] B all = tt
  nodes_fit (w ∷ writes) B all = (
    stored_in g a is.size is.fits w.0 [] (node_bytes a.size w.1 w.2) all.0.0 tt (omega arith) (length-node a.size w.1 w.2 sized all.0.2 all.0.3) (node_values a.size w.1 w.2 sized all.0.2 all.0.3 all.0.1),
    nodes_fit writes _ all.1,
  )

  used_bytes : (first : List ℕ) (blocks : List ℕ) → AreBytes first → AreBytes (with_used first blocks)
  used_bytes first [] values = values
  used_bytes first (k ∷ blocks) values = used_bytes (with_bit first k) blocks (set_bytes first (bit_place k) (set_bit (slice_index first (bit_place k)) k) (or_lt 8 _ _ (values (bit_place k)) (bit_small k)) values)

  -- the write of block 0
  module _ (first : List ℕ) (k : ℕ) (ks : List ℕ) (rise : RiseIn 1 a.blocks (k ∷ ks)) (values : AreBytes first) where
    last : (k ≤ last_of k ks) × (last_of k ks < a.blocks)
    last = last_rises 1 a.blocks k ks rise

    abbrev mark : Span
    mark = changed_mark (k ∷ ks)

    span : IsSpan g.block mark
    span = record { some = omega (arith, last.0); fits = omega (arith, last.0, last.1, is.size, is.area.least_size, is.area.most) }

    abbrev bytes : List ℕ
    bytes = bytes_in mark (with_used first (k ∷ ks))

    fits : mark.off + length bytes ≤ a.size
    fits = omega (arith, length-take mark.len (drop mark.off (with_used first (k ∷ ks))), span.fits, is.size)

    whole : length (changed_map a first (k ∷ ks)) ≡ a.size
    whole = length-block_with a.size mark.off bytes fits

    map_values : AreBytes (changed_map a first (k ∷ ks))
    map_values = block_with_bytes a.size mark.off bytes (bytes_take mark.len _ (bytes_drop mark.off _ (used_bytes first (k ∷ ks) values)))

    zero_block : 0 < a.blocks
    zero_block = omega (arith, is.area.least)

    at_start : (spans : List Span) (block : List ℕ) → IsAccess g (store_access (a.start + 0) spans block) → IsAccess g (store_access a.start spans block)
    at_start spans block access = subst (λ (n : ℕ). IsAccess g (store_access n spans block)) (omega arith) access

    first_fits : (root : Option (ℕ × ℕ)) (next : Program Answer) → ((B : Array) → FitsOn g Whole next B) → FitsOn g Whole (first_write a first (k ∷ ks) root next) A
    first_fits None next fit = (at_start _ _ (stored_in g a is.size is.fits 0 (mark ∷ []) (changed_map a first (k ∷ ks)) zero_block (span, tt) (omega arith) whole map_values), fit _)
    first_fits (Some r) next fit =
        let eight = to_be_bytes w32 r.0 ++ to_be_bytes w32 r.1 in
        let long : length eight ≡ 8 = refl in (
          at_start _ _
              (stored_in g a is.size is.fits 0 (mark ∷ head_mark ∷ []) (laid_at 0 eight (changed_map a first (k ∷ ks))) zero_block (span, (head_span, tt)) (omega arith)
              (length-laid_at 0 eight (changed_map a first (k ∷ ks)) (omega (arith, long, whole, is.area.least_size)) ∙ whole)
              (laid_bytes 0 eight (changed_map a first (k ∷ ks)) (bytes_append (to_be_bytes w32 r.0) (to_be_bytes w32 r.1) (word_bytes r.0) (word_bytes r.1)) map_values)),
          fit _,
        )

  writes_fit : (first taken : List ℕ) (way : Climb) → RiseIn 1 a.blocks taken → 0 < length taken → AreBytes first → IsClimb way → FitsOn g Whole (put_writes a first taken way) A
  writes_fit first [] way rise some values all = absurd (omega arith)
  writes_fit first (k ∷ ks) way rise some values all = first_fits first k ks rise values way.root (store_nodes a way.writes (Done (Ok tt))) (λ B. nodes_fit way.writes B all)

  need_some : (path : List (ℕ × ℕ)) → (path ≡ []) ⊎ (0 < full_row (cell_count a.size) path) → 0 < need_of (cell_count a.size) path
  need_some path (inl none) = subst (λ (p : List (ℕ × ℕ)). 0 < need_of (cell_count a.size) p) (sym none) (omega arith)
  need_some path (inr some) = omega arith

  passed_take : (n : ℕ) (path : List (ℕ × ℕ)) → ArePassed path → ArePassed (take n path)
  passed_take zero path passed = tt
  passed_take (suc n) [] passed = tt
  passed_take (suc n) (p ∷ path) passed = (passed.0, passed_take n path passed.1)

  module _ (key value : List ℕ) (short : length key ≤ 28) (small : length value ≤ 32) (key_values : AreBytes key) (value_values : AreBytes value) where
    cell : IsCell (key, value_part value)
    cell = value_cell key value short small key_values value_values

    new_fits : (path : List (ℕ × ℕ)) (first : List ℕ) → ArePassed path → length path ≤ 32 → 0 < need_of (cell_count a.size) path → AreBytes first
        → FitsOn g Whole (put_new a key value path first (need_of (cell_count a.size) path)) A
    new_fits path first passed long some values =
        let n = cell_count a.size in
        let need = need_of n path in
        let taken = take need (free_list a first) in
        let rise : RiseIn 1 a.blocks taken =
        rise_take need 1 a.blocks (free_list a first) (rise_filter _ 1 a.blocks (range_with_len 1 (a.blocks - 1)) (subst (λ (h : ℕ). RiseIn 1 h (range_with_len 1 (a.blocks - 1))) (omega (arith, is.area.least)) (rise_range 1 (a.blocks - 1)))) in
        fits_cond g Whole (nat_lt (free_count first 1 (a.blocks - 1)) need) _ _ A (λ few. tt)
        (λ enough.
        let free = ltb-false (free_count first 1 (a.blocks - 1)) need enough in
        let count = free_are first 1 (a.blocks - 1) in
        again_fits (take (suc (full_row n path)) path) _ (passed_take (suc (full_row n path)) path passed)
        (λ nodes all many.
        writes_fit first taken (climb n key 0 (key, value_part value) 0 nodes taken) rise (omega (arith, length-take need (free_list a first))) values
        (climb_is key 0 (key, value_part value) 0 nodes taken cell all (rise_inside a 1 taken rise) (omega (arith, length-take (suc (full_row n path)) path)))))

    map_fits : (path : List (ℕ × ℕ)) → ArePassed path → length path ≤ 32 → 0 < need_of (cell_count a.size) path → FitsOn g Whole (with_map a key value path) A
    map_fits path passed long some = grind (arith, first_inside, map_span, new_fits, bytes_take, bytes_drop)

    put_fits_at : (top : ℕ) (d : Descent) → top ≤ 31 → EndsSo top d → FitsOn g Whole (put_at a key value d) A
    put_fits_at top (AtLeaf path leaf keys x) low (read, keys_are, passed, long) =
        at_cell_fits (cell_of key keys) _ _
        (λ i e.
        let below = cell_below key leaf 0 i read (ap (cell_of key) (sym keys_are) ∙ e) in (
          stored_in g a is.size is.fits leaf (value_mark a.size i ∷ []) (block_with a.size (keys_end a.size + 33 * i) (value_part value)) read.0 (value_span i below, tt) (omega arith)
              (length-block_with a.size (keys_end a.size + 33 * i) (value_part value) (omega (arith, room, is.size, length-part 32 value small)))
              (block_with_bytes a.size (keys_end a.size + 33 * i) (value_part value) (part_bytes 32 value (omega arith) value_values)),
          tt,
        ))
        (fits_cond g Whole (nat_lt (count_of keys) (cell_count a.size)) _ _ A
        (λ few.
        let less = ltb-true _ _ few in
        edit_fits {R = Answer} leaf (put_after key (key, value_part value)) (Ok tt) read (put_are key (key, value_part value) (cells_in leaf) cell (read_cells leaf 0 read))
        (omega (arith, length-put key (key, value_part value) (cells_in leaf), length-read leaf 0 read, ap count_of keys_are)))
        (λ full.
        let least = ltb-false (count_of keys) (cell_count a.size) full in
        let is_full : count_of keys ≡ cell_count a.size = omega (arith, read_few leaf 0 read, ap count_of keys_are) in
        map_fits ((leaf, count_of keys) ∷ path) ((0, read, ap count_of keys_are), passed) (omega arith)
        (need_some ((leaf, count_of keys) ∷ path) (inr (let test : (count_of keys == cell_count a.size) ≡ true = eq-eqb (count_of keys) (cell_count a.size) is_full in rw test (omega arith))))))
    put_fits_at top (AtBroken block) low ends = tt

    below_fits : (root level : ℕ) → root < a.blocks → level ≤ 31 → FitsOn g Whole (put_below_root a key value root level) A
    below_fits root level below low =
        fits_cond g Whole (root == 0) _ _ A (λ empty. map_fits [] tt (omega arith) (need_some [] (inl refl)))
        (λ some. fits_then g (Ends level) Whole (descend a key false level root []) (put_at a key value) A (descend_fits key false level root [] level below tt (omega arith))
        (λ d B ends. on_array (put_at a key value d) B ends.0 (put_fits_at level d low ends.1)))

  pub tree_put_fits : (key value : List ℕ) → AreBytes key → AreBytes value → FitsOn g Whole (put_program a key value) A
  unfolding put_program
  tree_put_fits key value key_values value_values =
      fits_cond g Whole (is_key key) _ _ A
      (λ good. fits_cond g Whole (is_value value) _ _ A
      (λ small. head_fits (put_below_root a key value) (below_fits key value (leb-true _ _ (and_parts _ _ good).1) (leb-true _ _ small) key_values value_values)) (λ long. tt)) (λ bad. tt)

  scan_inside : (level : ℕ) (from to : List ℕ) (block : ℕ) → IsRead block level → many_in level from to (keys_of block) ≢ 0 → first_in level from (keys_of block) + many_in level from to (keys_of block) ≤ cell_count a.size
  scan_inside zero from to block read some = let less = row_less to (keys_of block) 0 (count_of (keys_of block)) in omega (arith, read_few block 0 read)
  scan_inside (suc level) from to block read some = grind (arith, row_less, place_below, read_few)

  scan_mark : (level : ℕ) (from to : List ℕ) (block : ℕ) → block < a.blocks → IfSome (scan_further a level from to (keys_of block)) (IsSpan g.block)
  scan_mark level from to block below = by (is_node a.size level (keys_of block) && not (many_in level from to (keys_of block) == 0)) refl
    where
      by : (t : Bool) → (is_node a.size level (keys_of block) && not (many_in level from to (keys_of block) == 0)) ≡ t
          → IfSome (cond t (Some (record { off = keys_end a.size + 33 * first_in level from (keys_of block); len = 33 * many_in level from to (keys_of block) })) None) (IsSpan g.block)
      by true e =
          let parts = and_parts _ _ e in
          let some : many_in level from to (keys_of block) ≢ 0 = eqb-false _ 0 (not-true _ parts.1) in
          let fits = scan_inside level from to block (below, parts.0) some in
          record { some = omega arith; fits = omega (arith, room) }
      by false e = tt

  abbrev Stays : {R : Type 0} → R → Array → Type 0
  Stays r B = B ≡ A

  children_inside : (parts : List (List ℕ)) → list_all (is_child a.blocks) parts ≡ true → AreInside a (map child_of parts)
  children_inside [] all = tt
  children_inside (p ∷ parts) all = let both = and_parts _ _ all in (child_inside p both.0, children_inside parts both.1)

  next_fits : (r : Scanned) (next : List (List ℕ × List ℕ) → Program Scanned) → ((pairs : List (List ℕ × List ℕ)) → FitsOn g Stays (next pairs) A) → FitsOn g Stays (and_then r next) A
  next_fits (Ok pairs) next fit = fit pairs
  next_fits (Err e) next fit = refl

  children_fit : (scan : ℕ → ℕ → Program Scanned) (children : List ℕ) (most : ℕ) (found : List (List ℕ × List ℕ)) → ((child most : ℕ) → child < a.blocks → FitsOn g Stays (scan child most) A) → AreInside a children
      → FitsOn g Stays (scan_children scan children most found) A
  children_fit scan [] most found fit all = refl
  children_fit scan (child ∷ children) zero found fit all = refl
  children_fit scan (child ∷ children) (suc most) found fit all =
      fits_then g Stays Stays (scan child (suc most)) _ A (fit child (suc most) all.0)
      (λ r B same. subst (λ C. FitsOn g Stays (and_then r (λ pairs. scan_children scan children (suc most - length pairs) (found ++ pairs))) C) (sym same)
      (next_fits r _ (λ pairs. children_fit scan children (suc most - length pairs) (found ++ pairs) fit all.1)))

  scan_fits : (from to : List ℕ) (level block most : ℕ) → block < a.blocks → FitsOn g Stays (scan_from a from to level block most) A
  scan_fits from to zero block most below =
      let keys = keys_of block in
      let parts = parts_of (further_bytes (scan_further a 0 from to keys) (block_at A (a.start + block))) (many_in 0 from to keys) in (
        inside block below,
        keys_span,
        scan_mark 0 from to block below,
        fits_cond g Stays (is_node a.size 0 keys && list_all (is_part 32) parts) (Done (Ok (take most (pairs_with keys (first_in 0 from keys) parts)))) (Done (Err (Broken (a.start + block)))) A
            (λ good. refl) (λ bad. refl),
      )
  scan_fits from to (suc level) block most below =
      let keys = keys_of block in
      let parts = parts_of (further_bytes (scan_further a (suc level) from to keys) (block_at A (a.start + block))) (many_in (suc level) from to keys) in (
        inside block below,
        keys_span,
        scan_mark (suc level) from to block below,
        fits_cond g Stays (is_node a.size (suc level) keys && list_all (is_child a.blocks) parts) (scan_children (scan_from a from to level) (map child_of parts) most []) (Done (Err (Broken (a.start + block)))) A
            (λ good. children_fit (scan_from a from to level) (map child_of parts) most [] (λ child more. scan_fits from to level child more) (children_inside parts (and_parts _ _ good).1)) (λ bad. refl),
      )

  whole_fits : {R : Type 0} (p : Program R) (B : Array) → FitsOn g Stays p B → FitsOn g Whole p B
  whole_fits p B fit = fits_more g Stays Whole p B fit (λ r C same. tt)

  pub tree_scan_fits : (from to : List ℕ) (most : ℕ) → FitsOn g Whole (scan_program a from to most) A
  unfolding scan_program
  tree_scan_fits from to most =
      fits_cond g Whole (is_key from && is_key to) _ _ A
      (λ good. head_fits (scan_below a from to most) (λ root level below low.
      fits_cond g Whole (root == 0) _ _ A (λ empty. tt) (λ some. whole_fits (scan_from a from to level root most) A (scan_fits from to level root most below))))
      (λ bad. tt)
