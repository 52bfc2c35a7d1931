-- A put writes whole blocks, on whatever array, and is local.
use Rattle.iso_tree.proofs.{Words.{◌≡◌, ◌∙◌, sym, refl, ap, subst, ℕ, zero, suc, ◌+◌, ◌-◌, ◌*◌, ◌<◌, ◌≤◌, ◌==◌, ◌&&◌, Bool, true, false, cond, nat_le, List, [], ◌∷◌, ◌++◌, map, take, drop, length, replicate, Option, Some, None, Result, Ok, Err, IfOk, arith, inl, inr, nat_lt, AllByRecursion, cases_Bool, and_parts, leb-true, ltb-true, nat_tests, take-append-drop, length-take, length-drop, length-replicate, Area, StoreError, BadKey, BadValue, Broken, NoBlocks, Array, put, own, at_cell, is_key, is_value, IsIn, put_op, block_at, Program, Done, Store, bytes_in, further_bytes, store_access, then_do, accesses_of, answer_of, IsLocal, cell_count, keys_end, keys_mark, value_mark, value_part, block_with, map_bytes, map_mark, free_count, length-laid_at, Tx, IsTx, HasRun, IsLocalCall, AreWhole, accesses_then, own_reads, whole_reads, local_from, run_local, Cell, FitCells, IsBlock, cell_of, count_of, is_node, is_child, child_of, child_part, is_head, head_mark, node_bytes, Put, put_after, first_key, emptied, half, halves, fit, Descent, AtLeaf, AtBroken, descend, leaf_further, inner_further, with_head, look_again, climb, climb_on, placed, store_nodes, first_write, put_writes, with_map, edit_leaf, put_at, put_below_root, put_program, Answer, full_row, need_of, free_list, cells_in, root_of, level_of, IsTreeArea, IsTreeRegion, tree_map, first_access, HasBlocks, whole_append, blocks_of, length-emptied, all_append, length-placed}, Again.{nodes_at, again_whole}, Bytes.length-node_bytes, Facts.{head_parts, child_below, cell_used, node_parts}, Fits.{cells_fit, cells_few, length-cells}, Gets.descend_reads, MapBits.length-first, NewBlocks.{IsPair, pair_is, HasSizes, sizes_of}, Order.{all_left, all_right, length-put_after, all_put_after}, PutCalls.put_correct, Shapes.same_some, Stored.FitWrite, Taking.{AreTaken, taken_are}}

-- NODES OF A WAY UP
pub record IsFitNode (a : Area) (w : ℕ × List Cell) : Type 0 where
  pub below : w.0 < a.blocks
  pub fit : FitCells w.1
  pub few : length w.1 ≤ cell_count a.size

abbrev Fits : Cell → Type 0
Fits c = (length c.0 ≤ 28) × (length c.1 ≡ 33)

emptied_fit : (level : ℕ) (R : List Cell) → FitCells R → FitCells (emptied level R)
emptied_fit zero R all = all
emptied_fit (suc level) [] all = tt
emptied_fit (suc level) (c ∷ cs) all = ((omega arith, all.0.1), all.1)

first_fit : (R : List Cell) → FitCells R → length (first_key R) ≤ 28
first_fit [] all = omega arith
first_fit (c ∷ cs) all = all.0.0

-- the writes of a node that has one cell more
record FitPut (a : Area) (q : Put) : Type 0 where
  writes : AllByRecursion (FitWrite a) q.writes
  second : (s : List ℕ × ℕ) → q.second ≡ Some s → length s.0 ≤ 28
  left : AllByRecursion (λ (b : ℕ). b < a.blocks) q.left

halves_fit : (a : Area) (level block : ℕ) (cs : List Cell) (news : List ℕ) → 1 < half (cell_count a.size) → half (cell_count a.size) ≤ cell_count a.size → block < a.blocks → FitCells cs → length cs ≤ suc (cell_count a.size) → AllByRecursion (λ (b : ℕ). b < a.blocks) news
    → FitPut a (halves (cell_count a.size) level block cs news)
halves_fit a level block cs [] some less below fit few all = record { writes = tt; second = λ s e. absurd (cc e); left = tt }
halves_fit a level block cs (new ∷ news) some less below fit few all =
    let n = cell_count a.size in
    let L = take (half n) cs in
    let D = drop (half n) cs in
    let both : FitCells (L ++ D) = subst FitCells (sym (take-append-drop (half n) cs)) fit in
    let left = all_left Fits L D both in
    let right = all_right Fits L D both in
    record {
      writes = ((left, omega (arith, length-take (half n) cs), below), ((emptied_fit level D right, omega (arith, length-drop (half n) cs, length-emptied level D), all.0), tt));
      second = λ s e. subst (λ (r : List ℕ × ℕ). length r.0 ≤ 28) (same_some _ s e) (first_fit D right);
      left = all.1;
    }

fit_fit : (a : Area) (level block : ℕ) (cs : List Cell) (news : List ℕ) → 1 < half (cell_count a.size) → half (cell_count a.size) ≤ cell_count a.size → block < a.blocks → FitCells cs → length cs ≤ suc (cell_count a.size) → AllByRecursion (λ (b : ℕ). b < a.blocks) news
    → FitPut a (fit (cell_count a.size) level block cs news)
fit_fit a level block cs news some less below all_fit few all =
    let n = cell_count a.size in
    elim (nat_le (length cs) n) as (λ b. nat_le (length cs) n ≡ b → FitPut a (cond b (record { writes = (block, level, cs) ∷ []; second = None; taken = []; left = news; enough = true }) (halves n level block cs news))) [
      | true ↦ λ b. record { writes = ((all_fit, leb-true (length cs) n b, below), tt); second = λ s e. absurd (cc e); left = all }
      | false ↦ λ b. halves_fit a level block cs news some less below all_fit few all
    ] refl

placed_fit : (level : ℕ) (key : List ℕ) (new : Cell) (cs : List Cell) → Fits new → FitCells cs → FitCells (placed level key new cs)
placed_fit zero key new cs is all = all_put_after Fits key new cs is all
placed_fit (suc level) key new [] is all = tt
placed_fit (suc level) key new (c ∷ cs) is all = (all.0, all_put_after Fits key new cs is all.1)

-- each write of the way up fits its block
pub climb_fit : (a : Area) (key : List ℕ) (level : ℕ) (new : Cell) (below : ℕ) (nodes : List (ℕ × List Cell)) (news : List ℕ) → 1 < half (cell_count a.size) → half (cell_count a.size) ≤ cell_count a.size → 2 ≤ cell_count a.size → Fits new → AllByRecursion (IsFitNode a) nodes
    → AllByRecursion (λ (b : ℕ). b < a.blocks) news → AllByRecursion (FitWrite a) (climb (cell_count a.size) key level new below nodes news).writes
climb_fit a key level new below [] [] some less two is nodes_fit all = tt
climb_fit a key zero new below [] (r ∷ news) some less two is nodes_fit all = (((is, tt), omega arith, all.0), tt)
climb_fit a key (suc level) new below [] (r ∷ news) some less two is nodes_fit all = ((((omega arith, refl), (is, tt)), omega arith, all.0), tt)
climb_fit a key level new below (node ∷ nodes) news some less two is nodes_fit all =
    let n = cell_count a.size in
    let q = fit n level node.0 (placed level key new node.1) news in
    let fits = fit_fit a level node.0 (placed level key new node.1) news some less nodes_fit.0.below (placed_fit level key new node.1 is nodes_fit.0.fit) (omega (arith, length-placed level key new node.1)) all in
    elim q.second as (λ o. q.second ≡ o → AllByRecursion (FitWrite a) (climb_on q (λ s. climb n key (suc level) (s.0, child_part s.1) node.0 nodes q.left) o).writes) [
      | None ↦ λ e. fits.writes
      | Some s ↦ λ e. all_append (FitWrite a) q.writes (climb n key (suc level) (s.0, child_part s.1) node.0 nodes q.left).writes fits.writes
          (climb_fit a key (suc level) (s.0, child_part s.1) node.0 nodes q.left some less two (fits.second s e, refl) nodes_fit.1 fits.left)
    ] refl

-- THE PATH OF A DESCENT ON WHATEVER ARRAY
abbrev ArePassed : Area → Array → List (ℕ × ℕ) → Type 0
ArePassed a A path = AllByRecursion (λ (p : ℕ × ℕ). IsFitNode a (p.0, cells_in a A p.0)) path

record IsEnd (a : Area) (A : Array) (path : List (ℕ × ℕ)) (leaf : ℕ) (keys : List ℕ) : Type 0 where
  passed : ArePassed a A path
  at : IsFitNode a (leaf, cells_in a A leaf)
  keys_are : keys ≡ bytes_in (keys_mark a.size) (block_at A (a.start + leaf))
  node : is_node a.size 0 keys ≡ true

abbrev HasEnd : Area → Array → Descent → Type 0
HasEnd a A (AtLeaf path leaf keys value) = IsEnd a A path leaf keys
HasEnd a A (AtBroken block) = Unit {0}

end_if : (a : Area) (A : Array) (p : Program Descent) (broken : ℕ) (t : Bool) → (t ≡ true → HasEnd a A (answer_of p A)) → HasEnd a A (answer_of (cond t p (Done (AtBroken broken))) A)
end_if a A p broken true is = is refl
end_if a A p broken false is = tt

fit_at : (a : Area) (A : Array) (level block : ℕ) → IsBlock a.size → HasBlocks a A → block < a.blocks → is_node a.size level (bytes_in (keys_mark a.size) (block_at A (a.start + block))) ≡ true → IsFitNode a (block, cells_in a A block)
fit_at a A level block sized shape below node = grind (arith, cells_fit, cells_few)

descend_ends : (a : Area) (A : Array) (key : List ℕ) (level block : ℕ) (path : List (ℕ × ℕ)) → IsBlock a.size → HasBlocks a A → block < a.blocks → ArePassed a A path → HasEnd a A (answer_of (descend a key false level block path) A)
descend_ends a A key zero block path sized shape below passed =
    let K = bytes_in (keys_mark a.size) (block_at A (a.start + block)) in
    end_if a A (Done (AtLeaf path block K (further_bytes (leaf_further a key false K) (block_at A (a.start + block))))) (a.start + block) (is_node a.size 0 K)
    (λ is. record { passed = passed; at = fit_at a A 0 block sized shape below is; keys_are = refl; node = is })
descend_ends a A key (suc level) block path sized shape below passed =
    let B = block_at A (a.start + block) in
    let K = bytes_in (keys_mark a.size) B in
    let part = further_bytes (inner_further a key (suc level) K) B in
    end_if a A (descend a key false level (child_of part) ((block, count_of K) ∷ path)) (a.start + block) (is_node a.size (suc level) K && is_child a.blocks part)
    (λ is.
    let both = and_parts (is_node a.size (suc level) K) (is_child a.blocks part) is in
    descend_ends a A key level (child_of part) ((block, count_of K) ∷ path) sized shape (child_below a.blocks part both.1).below (fit_at a A (suc level) block sized shape below both.0, passed))

-- WHOLE BLOCKS
stores_whole : {R : Type 0} (a : Area) (A : Array) (r : R) (ws : List (ℕ × ℕ × List Cell)) (X : Array) → IsBlock a.size → HasBlocks a A → AllByRecursion (FitWrite a) ws → AreWhole A (accesses_of (store_nodes a ws (Done r)) X)
stores_whole a A r [] X sized shape all = tt
stores_whole a A r (w ∷ ws) X sized shape all =
    (λ write. length-node_bytes a.size w.1 w.2 all.0.0 all.0.1 sized.whole ∙ sym (shape w.0 all.0.2), stores_whole a A r ws (put X (store_access (a.start + w.0) [] (node_bytes a.size w.1 w.2))) sized shape all.1)

first_whole : {R : Type 0} (a : Area) (A : Array) (first taken : List ℕ) (root : Option (ℕ × ℕ)) (next : Program R) → length (first_access a first taken root).bytes ≡ length (block_at A a.start)
    → ((X : Array) → AreWhole A (accesses_of next X)) → AreWhole A (accesses_of (first_write a first taken root next) A)
first_whole a A first taken None next long rest = (λ write. long, rest (put A (first_access a first taken None)))
first_whole a A first taken (Some root) next long rest = (λ write. long, rest (put A (first_access a first taken (Some root))))

first_long : (a : Area) (A : Array) (need : ℕ) (taken : List ℕ) (root : Option (ℕ × ℕ)) → length (block_at A a.start) ≡ a.size → 64 + map_bytes a.blocks ≤ a.size → AreTaken a (bytes_in (map_mark a.blocks) (block_at A a.start)) need taken → 1 ≤ need
    → length (first_access a (bytes_in (map_mark a.blocks) (block_at A a.start)) taken root).bytes ≡ a.size
first_long a A need [] root long room are some = absurd (omega (arith, are.count))
first_long a A need (k ∷ ks) root long room are some = length-first a (block_at A a.start) long room k ks are.up are.below root

below_all : (a : Area) (taken : List ℕ) → ((k : ℕ) → IsIn k taken → k < a.blocks) → AllByRecursion (λ (b : ℕ). b < a.blocks) taken
below_all a [] each = tt
below_all a (k ∷ ks) each = (each k (inl refl), below_all a ks (λ j is. each j (inr is)))

nodes_fit : (a : Area) (A : Array) (k : ℕ) (path : List (ℕ × ℕ)) → ArePassed a A path → AllByRecursion (IsFitNode a) (nodes_at (cells_in a A) (map (λ p. p.0) (take k path)))
nodes_fit a A zero [] all = tt
nodes_fit a A zero (p ∷ path) all = tt
nodes_fit a A (suc k) [] all = tt
nodes_fit a A (suc k) (p ∷ path) all = (all.0, nodes_fit a A k path all.1)

module _ (a : Area) (area : IsTreeArea a) (A : Array) (shape : HasBlocks a A) (key text : List ℕ) (pair : IsPair key text) where
  abbrev n : ℕ
  n = cell_count a.size

  sizes : HasSizes a
  sizes = sizes_of a area

  first_size : length (block_at A a.start) ≡ a.size
  first_size = let e : a.start + 0 ≡ a.start = omega arith in sym (ap (λ (b : ℕ). length (block_at A b)) e) ∙ shape 0 (let x = area.least in omega arith)

  room : 64 + map_bytes a.blocks ≤ a.size
  room = let x = area.most in let y = area.least_size in omega arith

  map_whole : (path : List (ℕ × ℕ)) → ArePassed a A path → 1 ≤ need_of n path → AreWhole A (accesses_of (with_map a key text path) A)
  map_whole path passed some =
      let first = bytes_in (map_mark a.blocks) (block_at A a.start) in
      let need = need_of n path in
      let free = free_count first 1 (a.blocks - 1) in
      let taken = take need (free_list a first) in
      let blocks = map (λ (p : ℕ × ℕ). p.0) (take (suc (full_row n path)) path) in
      let way = climb n key 0 (key, value_part text) 0 (nodes_at (cells_in a A) blocks) taken in
      let f : List (ℕ × List Cell) → Program Answer = λ nodes. put_writes a first taken (climb n key 0 (key, value_part text) 0 nodes taken) in (
        λ write. absurd (Rattle.iso_tree.proofs.Facts.nothing_is write),
        elim (cases_Bool (nat_lt free need)) [
          | inl few ↦ subst (λ (t : Bool). AreWhole A (accesses_of (cond t (Done (Err (NoBlocks need free))) (look_again a blocks f)) A)) (sym few) tt
          | inr enough ↦
              (let le : need ≤ free = grind (arith, nat_tests) in
              let are = taken_are a first need (let l = area.least in omega arith) le in
              let fits = climb_fit a key 0 (key, value_part text) 0 (nodes_at (cells_in a A) blocks) taken sizes.some sizes.less (omega arith) (pair.short, pair.whole) (nodes_fit a A (suc (full_row n path)) path passed) (below_all a taken are.below) in
              subst (λ (t : Bool). AreWhole A (accesses_of (cond t (Done (Err (NoBlocks need free))) (look_again a blocks f)) A)) (sym enough)
              (again_whole a A blocks f
              (first_whole a A first taken way.root (store_nodes a way.writes (Done (Ok tt))) (first_long a A need taken way.root first_size room are some ∙ sym first_size)
              (λ X. stores_whole a A (Ok tt) way.writes X sizes.sized shape fits))))
        ],
      )

  value_long : (i : ℕ) → i < n → length (block_with a.size (keys_end a.size + 33 * i) (value_part text)) ≡ a.size
  value_long i below =
      length-laid_at (keys_end a.size + 33 * i) (value_part text) (replicate a.size 0) (omega (arith, pair.whole, length-replicate {A = ℕ} a.size 0)) ∙ length-replicate {A = ℕ} a.size 0

  full_some : (leaf count : ℕ) (path : List (ℕ × ℕ)) → count ≡ n → 1 ≤ need_of n ((leaf, count) ∷ path)
  full_some leaf count path full =
      let one : full_row n ((leaf, count) ∷ path) ≡ suc (full_row n path) = ap (λ (t : Bool). cond t (suc (full_row n path)) 0) (Rattle.std.proofs.Common.eq-eqb count n full) in
      omega arith

  at_whole : (d : Descent) → HasEnd a A d → AreWhole A (accesses_of (put_at a key text d) A)
  at_whole (AtBroken block) end = tt
  at_whole (AtLeaf path leaf keys x) end =
      let here : ℕ → Program Answer = λ i. Store (a.start + leaf) (value_mark a.size i ∷ []) (block_with a.size (keys_end a.size + 33 * i) (value_part text)) (Done (Ok tt)) in
      let add : Program Answer = edit_leaf a leaf (put_after key (key, value_part text)) (Ok tt) in
      let grow : Program Answer = with_map a key text ((leaf, count_of keys) ∷ path) in
      let long = length-cells (bytes_in (keys_mark a.size) (block_at A (a.start + leaf))) (λ i. bytes_in (value_mark a.size i) (block_at A (a.start + leaf))) 0 (count_of (bytes_in (keys_mark a.size) (block_at A (a.start + leaf)))) in
      let count : length (cells_in a A leaf) ≡ count_of keys = long ∙ ap count_of (sym end.keys_are) in
      elim (cell_of key keys) as (λ o. cell_of key keys ≡ o → AreWhole A (accesses_of (at_cell o here (cond (nat_lt (count_of keys) n) add grow)) A)) [
        | Some i ↦ λ found. (λ write. value_long i (let used = cell_used key keys i found in omega arith) ∙ sym (shape leaf end.at.below), tt)
        | None ↦ λ none.
            elim (nat_lt (count_of keys) n) as (λ t. nat_lt (count_of keys) n ≡ t → AreWhole A (accesses_of (cond t add grow) A)) [
              | true ↦ λ is. (
                λ write. absurd (Rattle.iso_tree.proofs.Facts.nothing_is write),
                (
                  λ write. length-node_bytes a.size 0 (put_after key (key, value_part text) (cells_in a A leaf))
                      (all_put_after Fits key (key, value_part text) (cells_in a A leaf) (pair.short, pair.whole) end.at.fit)
                      (omega (arith, length-put_after key (key, value_part text) (cells_in a A leaf), ltb-true (count_of keys) n is, count)) sizes.sized.whole ∙ sym (shape leaf end.at.below),
                  tt,
                ),
              )
              | false ↦ λ is.
                  (let least : n ≤ count_of keys = grind (arith, nat_tests) in
                  map_whole ((leaf, count_of keys) ∷ path) (end.at, end.passed) (full_some leaf (count_of keys) path (omega arith)))
            ] refl
      ] refl

  below_whole : (root level : ℕ) → root < a.blocks → AreWhole A (accesses_of (put_below_root a key text root level) A)
  below_whole root level below =
      elim (root == 0) as (λ t. AreWhole A (accesses_of (cond t (with_map a key text []) (then_do (descend a key false level root []) (put_at a key text))) A)) [
        | true ↦ map_whole [] tt (omega arith)
        | false ↦
            (let reads = accesses_of (descend a key false level root []) A in
            let d = answer_of (descend a key false level root []) A in
            subst (AreWhole A) (sym (accesses_then (descend a key false level root []) (put_at a key text) A ∙ ap (λ (C : Array). reads ++ accesses_of (put_at a key text d) C) (own_reads A reads (descend_reads a key false level root [] A))))
            (whole_append A reads (accesses_of (put_at a key text d) A) (whole_reads A reads (descend_reads a key false level root [] A))
            (at_whole d (descend_ends a A key level root [] sizes.sized shape below tt))))
      ]

pub put_whole : (a : Area) (area : IsTreeArea a) (A : Array) → HasBlocks a A → (key text : List ℕ) → is_key key ≡ true → is_value text ≡ true → AreWhole A (accesses_of (put_program a key text) A)
unfolding put_program
put_whole a area A shape key text key_is value_is =
    let call : (k v : Bool) → Program Answer = λ k v. cond k (cond v (with_head a (put_below_root a key text)) (Done (Err BadValue))) (Done (Err BadKey)) in
    let pair = pair_is key text (leb-true _ _ (and_parts (nat_le 1 (length key)) (nat_le (length key) 28) key_is).1) (leb-true (length text) 32 value_is) in
    subst (λ (t : Bool). AreWhole A (accesses_of (call t (is_value text)) A)) (sym key_is) (subst (λ (t : Bool). AreWhole A (accesses_of (call true t) A)) (sym value_is) (
      λ write. absurd (Rattle.iso_tree.proofs.Facts.nothing_is write),
      elim (cases_Bool (is_head a (bytes_in head_mark (block_at A a.start)))) [
        | inl good ↦
            subst (λ (h : Bool). AreWhole A (accesses_of (cond h (put_below_root a key text (root_of a A) (level_of a A)) (Done (Err (Broken a.start)))) A)) (sym good)
            (below_whole a area A shape key text pair (root_of a A) (level_of a A) (head_parts a (bytes_in head_mark (block_at A a.start)) good).root)
        | inr bad ↦ subst (λ (h : Bool). AreWhole A (accesses_of (cond h (put_below_root a key text (root_of a A) (level_of a A)) (Done (Err (Broken a.start)))) A)) (sym bad) tt
      ],
    ))

pub put_local : (a : Area) (key text : List ℕ) (A : Array) (r : Unit {0}) → IsTreeArea a → is_key key ≡ true → is_value text ≡ true → HasBlocks a A → answer_of (put_program a key text) A ≡ Ok r
    → IsLocal (IsTreeRegion a) (tree_map a) (put_op key text) A (accesses_of (put_program a key text) A) r
put_local a key text A r area key_is value_is shape e =
    local_from (IsTreeRegion a) (tree_map a) (put_op key text) Ok (put_program a key text) A r (put_correct a key text area key_is value_is) (put_whole a area A shape key text key_is value_is) e

-- A put that was made is local.
pub put_call : (a : Area) (key text : List ℕ) (t u : Tx) (result : Result (Unit {0}) StoreError) → IsTreeArea a → is_key key ≡ true → is_value text ≡ true → IsTx t → t.size ≡ a.size → a.start + a.blocks ≤ t.blocks
    → HasRun (put_program a key text) t u result → IfOk result (IsLocalCall (IsTreeRegion a) (tree_map a) (put_op key text) t u)
put_call a key text t u result area key_is value_is tx size fits run =
    run_local (IsTreeRegion a) (tree_map a) (put_op key text) (put_program a key text) t u result (λ A x told answer. put_local a key text (own A t.accesses) x area key_is value_is (blocks_of a t A tx size fits told) answer) run
