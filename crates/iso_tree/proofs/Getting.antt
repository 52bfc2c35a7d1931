-- A get, part by part.
use Rattle.iso_tree.proofs.{Words.{◌==◌, ◌≡◌, ◌≢◌, ◌∙◌, sym, refl, ap, subst, ℕ, ◌+◌, Bool, true, false, cond, List, [], take, Option, Some, None, Result, Ok, Err, IfOk, option_map, ne_eqb, Area, StoreError, own, Program, Done, Look, bytes_in, further_bytes, then_do, keys_end, value_mark, word_at, is_part, text_of, at_cell, is_key, get_op, Tx, Ran, HasRun, IsLocalCall, IsAt, at_start, at_then, ran_at, ran_done, run_local, run_from, Leaf, is_head, head_mark, Descent, AtLeaf, descend, got, get_below, get_program, with_head, tree_map, IsTreeRegion, head_program, HasDescended, IsLeaf, leaf_value, at_as, refused_then, ◌≤◌, ◌∷◌, length, TxError, del_op, Store, look_access, store_access, Device, IsTx, with_accesses, IsCut, IsCause, at_look_whole, at_store, cut_at_store, Cell, used_cells, node_bytes, edit_leaf, without_key, del_at, del_below, del_program, IsTreeArea, AreBytesOf, zero, suc, ◌&&◌, arith, and_parts, Array, block_at, keys_mark, answer_of, HasRead, own_reads, own_append, whole_run, child_of, count_of, is_child, is_node, ArePathUsable, AreShownUsable, IsUsable, AtBroken, inner_further, ◌*◌, ◌<◌, nat_lt, nat_tests, is_value, block_with, cell_count, value_part, put_after, Answer, need_of, put_at, put_below_root, put_program, with_map}, DelCalls.del_local, Descending.descent_refused, Facts.{missing, node_parts, inner_many}, Gets.get_local}
use Rattle.store_model.specs.declared.stores.StoreError.TheVariants as store
pub use Rattle.tx_blocks.proofs.{Programs.{blocks_of as blocks_in}, Refusals.cut_at_whole}

-- a call that reads root and level first
abbrev after_head : {X : Type 0} → (ℕ → ℕ → Program (Result X StoreError)) → Result (ℕ × ℕ) StoreError → Program (Result X StoreError)
after_head next (Ok x) = next x.0 x.1
after_head next (Err e) = Done (Err e)

head_same : {X : Type 0} (next : ℕ → ℕ → Program (Result X StoreError)) (root level start : ℕ) (t : Bool)
    → cond t (next root level) (Done (Err (store.Broken start))) ≡ then_do (cond t (Done (Ok (root, level))) (Done (Err (store.Broken start)))) (after_head next)
head_same next root level start t = grind arith

head_as : {X : Type 0} (a : Area) (next : ℕ → ℕ → Program (Result X StoreError)) → with_head a next ≡ then_do (head_program a) (after_head next)
head_as a next = λ i. Look a.start head_mark (λ head. None) (λ head none. head_same next (word_at 0 head) (word_at 4 head) a.start (is_head a head) i)

-- root and level were read
pub head_at : {X : Type 0} (a : Area) (next : ℕ → ℕ → Program (Result X StoreError)) (t u : Tx) (x : ℕ × ℕ) → Ran (head_program a) t u (Ok x) → IsAt (with_head a next) (next x.0 x.1) t u
head_at a next t u x ran = at_then (with_head a next) (head_program a) (after_head next) t t u (Ok x) (at_as (with_head a next) _ _ t t (head_as a next) (at_start (with_head a next) t)) ran

-- and the rest ran
pub head_then : {X : Type 0} (a : Area) (next : ℕ → ℕ → Program (Result X StoreError)) (t u v : Tx) (x : ℕ × ℕ) (result : Result X StoreError) → Ran (head_program a) t u (Ok x) → HasRun (next x.0 x.1) u v result → HasRun (with_head a next) t v result
head_then a next t u v x result ran rest =
    run_from (with_head a next) (next x.0 x.1) t u v result (head_at a next t u x ran) rest

-- they were refused
pub head_refused : {X : Type 0} (a : Area) (next : ℕ → ℕ → Program (Result X StoreError)) (t u : Tx) (e : StoreError) → HasRun (head_program a) t u (Err e) → HasRun (with_head a next) t u (Err e)
head_refused {X = X} a next t u e run = subst (λ (p : Program (Result X StoreError)). HasRun p t u (Err e)) (sym (head_as a next)) (refused_then (head_program a) (after_head next) t u e refl run)

-- a call below a root: a descent, and what comes after it
module _ {X : Type 0} (none : Program (Result X StoreError)) (a : Area) (key : List ℕ) (with_value : Bool) (root level : ℕ) (f : Descent → Program (Result X StoreError)) where
  abbrev below_root : Program (Result X StoreError)
  below_root = cond (root == 0) none (then_do (descend a key with_value level root []) f)

  below_is : root ≢ 0 → below_root ≡ then_do (descend a key with_value level root []) f
  below_is some = ap (λ (b : Bool). cond b none (then_do (descend a key with_value level root []) f)) (ne_eqb root 0 some)

  below_at : root ≢ 0 → (t u : Tx) (d : Descent) → Ran (descend a key with_value level root []) t u d → IsAt below_root (f d) t u
  below_at some t u d ran = at_then below_root (descend a key with_value level root []) f t t u d (at_as below_root _ _ t t (below_is some) (at_start below_root t)) ran

  -- the descent was refused
  pub below_refused : root ≢ 0 → ((block : ℕ) → f (AtBroken block) ≡ Done (Err (store.Broken block))) → (t u : Tx) (path : List (ℕ × ℕ)) (buffer : List ℕ) (e : StoreError)
      → HasDescended a key with_value root level t u path buffer (Err e) → HasRun below_root t u (Err e)
  below_refused some broken t u path buffer e ended = descent_refused below_root a key with_value root level f t u (below_is some) broken path buffer e ended

module _ (a : Area) (key : List ℕ) (root level : ℕ) (some : root ≢ 0) (t u : Tx) where
  below_ran : (d : Descent) → Ran (descend a key true level root []) t u d → Ran (get_below a key root level) t u (got a key d)
  below_ran d ran = ran_at (get_below a key root level) t u (got a key d) (below_at (Done (Ok None)) a key true root level (λ d. Done (got a key d)) some t u d ran)

  module _ (path : List (ℕ × ℕ)) (buffer : List ℕ) (leaf : Leaf) (is : IsLeaf a key buffer leaf) (ended : HasDescended a key true root level t u path buffer (Ok leaf)) where
    keys : List ℕ
    keys = take (keys_end a.size) buffer

    -- the leaf does not have the key
    pub below_missing : ((i : ℕ) → leaf.cell ≡ Some i → ⊥) → Ran (get_below a key root level) t u (Ok None)
    below_missing none =
        let e : got a key (AtLeaf path leaf.block (take (keys_end a.size) buffer) (leaf_value a key true buffer)) ≡ Ok None =
        ap (λ (o : Option ℕ). at_cell o (λ i. cond (is_part 32 (leaf_value a key true buffer)) (Ok (Some (text_of (leaf_value a key true buffer)))) (Err (store.Broken (a.start + leaf.block)))) (Ok None)) (sym is.cell ∙ missing leaf.cell none) in
        subst (λ (r : Result (Option (List ℕ)) StoreError). Ran (get_below a key root level) t u r) e (below_ran _ ended)

    value_is : (cell : ℕ) → leaf.cell ≡ Some cell → leaf_value a key true buffer ≡ bytes_in (value_mark a.size cell) buffer
    value_is cell some = (λ i. further_bytes (cond (is.node i) (option_map (value_mark a.size) ((sym is.cell ∙ some) i)) None) buffer)

    got_is : (cell : ℕ) (part : List ℕ) (good : Bool) → leaf.cell ≡ Some cell → part ≡ bytes_in (value_mark a.size cell) buffer → is_part 32 part ≡ good
        → got a key (AtLeaf path leaf.block (take (keys_end a.size) buffer) (leaf_value a key true buffer)) ≡ cond good (Ok (Some (text_of part))) (Err (store.Broken (a.start + leaf.block)))
    got_is cell part good some part_is so = grind (arith, value_is) steps 100000

    -- it has it, with a value part that is well formed or not
    pub below_found : (cell : ℕ) (part text : List ℕ) → leaf.cell ≡ Some cell → part ≡ bytes_in (value_mark a.size cell) buffer → is_part 32 part ≡ true → text ≡ text_of part → Ran (get_below a key root level) t u (Ok (Some text))
    below_found cell part text some part_is good text_is =
        subst (λ (r : Result (Option (List ℕ)) StoreError). Ran (get_below a key root level) t u r) (got_is cell part true some part_is good ∙ ap (λ (x : List ℕ). Ok (Some x)) (sym text_is)) (below_ran _ ended)

    pub below_broken : (cell : ℕ) (part : List ℕ) → leaf.cell ≡ Some cell → part ≡ bytes_in (value_mark a.size cell) buffer → is_part 32 part ≡ false → Ran (get_below a key root level) t u (Err (store.Broken (a.start + leaf.block)))
    below_broken cell part some part_is bad =
        subst (λ (r : Result (Option (List ℕ)) StoreError). Ran (get_below a key root level) t u r) (got_is cell part false some part_is bad) (below_ran _ ended)

-- the key is right
pub get_run : (a : Area) (key : List ℕ) (t u : Tx) (result : Result (Option (List ℕ)) StoreError) → is_key key ≡ true → HasRun (with_head a (get_below a key)) t u result → HasRun (get_program a key) t u result
unfolding get_program
get_run a key t u result is run = rw is run

pub bad_key : (a : Area) (key : List ℕ) (t : Tx) → is_key key ≡ false → Ran (get_program a key) t t (Err store.BadKey)
unfolding get_program
bad_key a key t not = rw not (ran_done (Err store.BadKey) t)

pub local_any : (a : Area) (key : List ℕ) (t u : Tx) (result : Result (Option (List ℕ)) StoreError) → is_key key ≡ true → HasRun (get_program a key) t u result
    → IfOk result (IsLocalCall (IsTreeRegion a) (tree_map a) (get_op key) t u)
local_any a key t u result is run = run_local (IsTreeRegion a) (tree_map a) (get_op key) (get_program a key) t u result (λ A x told answer. get_local a key (own A t.accesses) x is answer) run

-- A removal, part by part.
-- an edit of a leaf
module _ {X : Type 0} (a : Area) (leaf : ℕ) (change : List Cell → List Cell) (r : Result X StoreError) (t u : Tx) where
  pub edit_unread : (before now : Device) (e : TxError) → u ≡ t → IsCause u 1 before now e → IsCut (edit_leaf a leaf change r) t u e
  edit_unread before now e same cause = cut_at_whole (edit_leaf a leaf change r) (a.start + leaf) _ t t u before now e (at_start (edit_leaf a leaf change r) t) same cause

  module _ (old : List ℕ) (bytes : AreBytesOf t (a.start + leaf) old) (fits : length u.accesses ≤ 4096) (read : u ≡ with_accesses t (look_access (a.start + leaf) [] ∷ [])) where
    at_write : IsAt (edit_leaf a leaf change r) (Store (a.start + leaf) [] (node_bytes a.size 0 (change (used_cells a.size old))) (Done r)) t u
    at_write = at_look_whole (edit_leaf a leaf change r) (a.start + leaf) (λ (b : List ℕ). Store (a.start + leaf) [] (node_bytes a.size 0 (change (used_cells a.size b))) (Done r)) t t u old (at_start (edit_leaf a leaf change r) t) bytes fits read

    pub edit_unwritten : (v : Tx) (before now : Device) (e : TxError) → v ≡ u → IsCause v 1 before now e → IsCut (edit_leaf a leaf change r) t v e
    edit_unwritten v before now e same cause = cut_at_store (edit_leaf a leaf change r) (a.start + leaf) [] (node_bytes a.size 0 (change (used_cells a.size old))) (Done r) t u v before now e at_write same cause

    pub edit_done : (v : Tx) (new : List ℕ) → new ≡ node_bytes a.size 0 (change (used_cells a.size old)) → length v.accesses ≤ 4096 → v ≡ with_accesses u (store_access (a.start + leaf) [] new ∷ []) → Ran (edit_leaf a leaf change r) t v r
    edit_done v new is room wrote = grind (arith, ran_at, at_store, at_write) steps 100000

-- the removal below a root
module _ (a : Area) (key : List ℕ) (root level : ℕ) (some : root ≢ 0) (t u : Tx) where
  module _ (path : List (ℕ × ℕ)) (buffer : List ℕ) (leaf : Leaf) (is : IsLeaf a key buffer leaf) (ended : HasDescended a key false root level t u path buffer (Ok leaf)) where
    del_leaf : (o : Option ℕ) → leaf.cell ≡ o → IsAt (del_below a key root level) (at_cell o (λ i. edit_leaf a leaf.block (without_key key) (Ok true)) (Done (Ok false))) t u
    del_leaf o cell = at_as (del_below a key root level) _ _ t u (ap (λ (c : Option ℕ). at_cell c (λ i. edit_leaf a leaf.block (without_key key) (Ok true)) (Done (Ok false))) (sym is.cell ∙ cell))
        (below_at (Done (Ok false)) a key false root level (del_at a key) some t u _ ended)

    pub del_missing : leaf.cell ≡ None → Ran (del_below a key root level) t u (Ok false)
    del_missing none = ran_at (del_below a key root level) t u (Ok false) (del_leaf None none)

    pub del_found : (i : ℕ) (v : Tx) (result : Result Bool StoreError) → leaf.cell ≡ Some i → HasRun (edit_leaf a leaf.block (without_key key) (Ok true)) u v result → HasRun (del_below a key root level) t v result
    del_found i v result cell run = run_from (del_below a key root level) (edit_leaf a leaf.block (without_key key) (Ok true)) t u v result (del_leaf (Some i) cell) run

pub del_run : (a : Area) (key : List ℕ) (t u : Tx) (result : Result Bool StoreError) → is_key key ≡ true → HasRun (with_head a (del_below a key)) t u result → HasRun (del_program a key) t u result
unfolding del_program
del_run a key t u result is run = rw is run

pub del_bad_key : (a : Area) (key : List ℕ) (t : Tx) → is_key key ≡ false → Ran (del_program a key) t t (Err store.BadKey)
unfolding del_program
del_bad_key a key t not = rw not (ran_done (Err store.BadKey) t)

pub del_call : (a : Area) (key : List ℕ) (t u : Tx) (result : Result Bool StoreError) → IsTreeArea a → is_key key ≡ true → IsTx t → t.size ≡ a.size → a.start + a.blocks ≤ t.blocks
    → HasRun (del_program a key) t u result → IfOk result (IsLocalCall (IsTreeRegion a) (tree_map a) (del_op key) t u)
del_call a key t u result area is tx size fits run = grind (arith, run_local, del_local, blocks_in) steps 100000

-- The nodes that a descent has passed are usable, on whatever array.
abbrev HasPassed : Area → Array → Descent → Type 0
HasPassed a A (AtLeaf path leaf keys value) = ArePathUsable a A path × (is_node a.size 0 keys ≡ true) × (keys ≡ bytes_in (keys_mark a.size) (block_at A (a.start + leaf)))
HasPassed a A (AtBroken block) = Unit {0}

passed_if : (a : Area) (A : Array) (p : Program Descent) (broken : ℕ) (t : Bool) → (t ≡ true → HasPassed a A (answer_of p A)) → HasPassed a A (answer_of (cond t p (Done (AtBroken broken))) A)
passed_if a A p broken true is = is refl
passed_if a A p broken false is = tt

descend_passes : (a : Area) (A : Array) (key : List ℕ) (level block : ℕ) (path : List (ℕ × ℕ)) → ArePathUsable a A path → HasPassed a A (answer_of (descend a key false level block path) A)
descend_passes a A key zero block path usable = grind (arith, passed_if) steps 100000
descend_passes a A key (suc level) block path usable =
    let B = block_at A (a.start + block) in
    let K = bytes_in (keys_mark a.size) B in
    let part = further_bytes (inner_further a key (suc level) K) B in
    passed_if a A (descend a key false level (child_of part) ((block, count_of K) ∷ path)) (a.start + block) (is_node a.size (suc level) K && is_child a.blocks part)
    (λ is.
    let node = (and_parts (is_node a.size (suc level) K) (is_child a.blocks part) is).0 in
    let parts = node_parts a.size (suc level) K node in
    let many = inner_many a.size (suc level) K node (omega arith) in
    descend_passes a A key level (child_of part) ((block, count_of K) ∷ path) (record { parts = parts.parts; count_is = refl; some = omega arith; few = parts.few }, usable))

-- reads leave the array that is shown
pub shown_same : (t u : Tx) (A : Array) → HasRead t u → own A u.accesses ≡ own A t.accesses
shown_same t u A read = ap (λ (w : Tx). own A w.accesses) read.is ∙ own_append A t.accesses read.done ∙ own_reads (own A t.accesses) read.done read.reads

-- The leaf and the nodes above it, after a descent.
pub path_usable : (a : Area) (key : List ℕ) (root level : ℕ) (t u : Tx) (path : List (ℕ × ℕ)) (leaf : ℕ) (keys value : List ℕ) → HasRead t u → Ran (descend a key false level root []) t u (AtLeaf path leaf keys value) → 1 ≤ count_of keys
    → AreShownUsable a u ((leaf, count_of keys) ∷ path)
path_usable a key root level t u path leaf keys value read ran some = λ A told.
    let B = own A t.accesses in
    let whole = whole_run (descend a key false level root []) t u (AtLeaf path leaf keys value) ran A (sym (ap (λ (w : Tx). w.base) read.is) ∙ told) in
    let passed : HasPassed a B (AtLeaf path leaf keys value) = subst (HasPassed a B) whole.answer_is (descend_passes a B key level root [] tt) in
    let parts = node_parts a.size 0 keys passed.1 in
    let first : IsUsable a.size (block_at B (a.start + leaf)) (count_of keys) =
    subst (λ (k : List ℕ). IsUsable a.size (block_at B (a.start + leaf)) (count_of k)) (sym passed.2)
    (record { parts = subst (λ (k : List ℕ). Rattle.store_model.specs.Cells.are_key_parts a.size k ≡ true) passed.2 parts.parts; count_is = refl; some = subst (λ (k : List ℕ). 1 ≤ count_of k) passed.2 some; few = subst (λ (k : List ℕ). count_of k ≤ Rattle.store_model.specs.Cells.cell_count a.size) passed.2 parts.few }) in
    subst (λ (C : Array). ArePathUsable a C ((leaf, count_of keys) ∷ path)) (sym (shown_same t u A read)) (first, passed.0)

-- A put, part by part.
-- the put below a root
module _ (a : Area) (key value : List ℕ) (root level : ℕ) (some : root ≢ 0) (t u : Tx) where
  abbrev whole : Program Answer
  whole = put_below_root a key value root level

  module _ (path : List (ℕ × ℕ)) (buffer : List ℕ) (leaf : Leaf) (is : IsLeaf a key buffer leaf) (ended : HasDescended a key false root level t u path buffer (Ok leaf)) where
    abbrev n : ℕ
    n = cell_count a.size

    abbrev here : ℕ → Program Answer
    here i = Store (a.start + leaf.block) (value_mark a.size i ∷ []) (block_with a.size (keys_end a.size + 33 * i) (value_part value)) (Done (Ok tt))

    abbrev add : Program Answer
    add = edit_leaf a leaf.block (put_after key (key, value_part value)) (Ok tt)

    abbrev grow : ℕ → Program Answer
    grow count = with_map a key value ((leaf.block, count) ∷ path)

    abbrev at_count : ℕ → Program Answer
    at_count count = cond (nat_lt count n) add (grow count)

    at_leaf : (o : Option ℕ) → leaf.cell ≡ o → IsAt whole (at_cell o here (at_count leaf.count)) t u
    at_leaf o cell =
        at_as whole _ _ t u (λ i. at_cell ((sym is.cell ∙ cell) i) here (at_count (sym is.count i))) (below_at (with_map a key value []) a key false root level (put_at a key value) some t u _ ended)

    pub put_found : (i : ℕ) (v : Tx) (result : Result (Unit {0}) StoreError) → leaf.cell ≡ Some i → HasRun (here i) u v result → HasRun whole t v result
    put_found i v result cell run = run_from whole (here i) t u v result (at_leaf (Some i) cell) run

    pub put_room : (v : Tx) (result : Result (Unit {0}) StoreError) → leaf.cell ≡ None → leaf.count < n → HasRun add u v result → HasRun whole t v result
    put_room v result none room run =
        let test : nat_lt leaf.count n ≡ true = grind (arith, nat_tests) in
        run_from whole add t u v result (at_as whole _ _ t u (ap (λ (b : Bool). cond b add (grow leaf.count)) test) (at_leaf None none)) run

    pub put_full : (v : Tx) (result : Result (Unit {0}) StoreError) → leaf.cell ≡ None → n ≤ leaf.count → HasRun (grow leaf.count) u v result → HasRun whole t v result
    put_full v result none full run =
        let test : nat_lt leaf.count n ≡ false = grind (arith, nat_tests) in
        run_from whole (grow leaf.count) t u v result (at_as whole _ _ t u (ap (λ (b : Bool). cond b add (grow leaf.count)) test) (at_leaf None none)) run

    pub leaf_usable : HasRead t u → 1 ≤ leaf.count → AreShownUsable a u ((leaf.block, leaf.count) ∷ path)
    leaf_usable read one =
        subst (λ (count : ℕ). AreShownUsable a u ((leaf.block, count) ∷ path)) (sym is.count)
        (path_usable a key root level t u path leaf.block (take (keys_end a.size) buffer) _ read ended (omega (arith, one, is.count)))

-- a full leaf needs a new block
pub full_needs : (n leaf count : ℕ) (path : List (ℕ × ℕ)) → count ≡ n → 1 ≤ need_of n ((leaf, count) ∷ path)
full_needs n leaf count path full = grind arith steps 100000

-- arguments that are well formed, or are not
pub put_run : (a : Area) (key value : List ℕ) (t u : Tx) (result : Result (Unit {0}) StoreError) → is_key key ≡ true → is_value value ≡ true → HasRun (with_head a (put_below_root a key value)) t u result → HasRun (put_program a key value) t u result
unfolding put_program
put_run a key value t u result is short run = rw (is, short) run

pub put_bad_key : (a : Area) (key value : List ℕ) (t : Tx) → is_key key ≡ false → Ran (put_program a key value) t t (Err store.BadKey)
unfolding put_program
put_bad_key a key value t not = rw not (ran_done (Err store.BadKey) t)

pub put_bad_value : (a : Area) (key value : List ℕ) (t : Tx) → is_key key ≡ true → is_value value ≡ false → Ran (put_program a key value) t t (Err store.BadValue)
unfolding put_program
put_bad_value a key value t is not = rw (is, not) (ran_done (Err store.BadValue) t)
