-- One read of a call, and what follows from its bytes.
use Rattle.iso_tree.proofs.Words.{arith, ◌≡◌, ◌∙◌, sym, ap, subst, ℕ, ◌+◌, ◌≤◌, ◌&&◌, Bool, true, false, cond, List, [], ◌∷◌, length, Option, Some, None, Ok, Err, option_map, ForSome, false_from_ne_true, Access, Span, Area, Region, own, is_write, block_at, Program, Done, Look, bytes_in, further_bytes, with_further, look_access, keys_mark, value_mark, word_at, Tx, Device, IsLater, with_accesses, IsCause, Passed, Ran, own_reads, own_append, at_start, at_look, ran_at, read_none, read_more, read_same, Node, keys_in, value_in, is_node, is_child, child_of, count_of, place_of, cell_of, head_mark, is_head, leaf_further, inner_further, AreBytesOf, OnlyReads, head_program, child_program, leaf_program, marked, marked_access}
use Rattle.store_model.specs.declared.stores.StoreError.TheVariants as store
use Rattle.store_model.specs.declared.stores.TxError.{TxError}
pub use Rattle.tx_blocks.proofs.Progress.{at_as}

-- a call that is one read
pub looked : {R : Type 0} (b : ℕ) (mark : Span) (further : List ℕ → Option Span) (next : List ℕ → List ℕ → Program R) (t v : Tx) (bytes : List ℕ) (r : R)
    → ForSome t.base (λ A. bytes ≡ block_at (own A t.accesses) b) → length v.accesses ≤ 4096
    → v ≡ with_accesses t (look_access b (mark ∷ with_further (further (bytes_in mark bytes))) ∷ [])
    → next (bytes_in mark bytes) (further_bytes (further (bytes_in mark bytes)) bytes) ≡ Done r → Ran (Look b mark further next) t v r
looked b mark further next t v bytes r bytes_are fits is ends =
    let whole = Look b mark further next in
    ran_at whole t v r (at_as whole _ _ t v ends (at_look whole b mark further next t t v bytes (at_start whole t) bytes_are fits is))

-- the same where the further mark is known
pub looked_so : {R : Type 0} (b : ℕ) (mark : Span) (further : List ℕ → Option Span) (next : List ℕ → List ℕ → Program R) (t v : Tx) (bytes : List ℕ) (more : Option Span) (r : R)
    → ForSome t.base (λ A. bytes ≡ block_at (own A t.accesses) b) → length v.accesses ≤ 4096 → further (bytes_in mark bytes) ≡ more
    → v ≡ with_accesses t (look_access b (mark ∷ with_further more) ∷ []) → next (bytes_in mark bytes) (further_bytes more bytes) ≡ Done r → Ran (Look b mark further next) t v r
looked_so b mark further next t v bytes more r bytes_are fits same is ends =
    looked b mark further next t v bytes r bytes_are fits
    (is ∙ ap (λ (m : Option Span). with_accesses t (look_access b (mark ∷ with_further m) ∷ [])) (sym same))
    (ap (λ (m : Option Span). next (bytes_in mark bytes) (further_bytes m bytes)) same ∙ ends)

-- what one read leaves
pub ok_read : {R : Type 0} (t v : Tx) (a : Access) (before now : Device) (x : R) → v ≡ with_accesses t (a ∷ []) → is_write a ≡ false → t.is_open ≡ true → IsLater before now → now.faults ≡ before.faults
    → OnlyReads t v before now (Ok x)
ok_read t v a before now x is read is_open later passed = grind (arith, read_more, read_none)

pub broken_read : {R : Type 0} (t v : Tx) (a : Access) (before now : Device) (block : ℕ) → v ≡ with_accesses t (a ∷ []) → is_write a ≡ false → IsLater before now → Passed before now
    → OnlyReads {R = R} t v before now (Err (store.Broken block))
broken_read t v a before now block is read later passed = grind (arith, read_more, read_none)

pub refused_read : {R : Type 0} (t v : Tx) (before now : Device) (e : TxError) → v ≡ t → IsCause v 1 before now e → IsLater before now → OnlyReads {R = R} t v before now (Err (store.Tx e))
refused_read t v before now e same cause later = record { reads = read_same t t v (read_none t) same; cause = cause; known = tt; later = later; passed = tt; is_open = tt }

-- bytes that were read stay those of their block
pub bytes_after : (t v : Tx) (a : Access) (block : ℕ) (bytes : List ℕ) → AreBytesOf t block bytes → v ≡ with_accesses t (a ∷ []) → is_write a ≡ false → AreBytesOf v block bytes
bytes_after t v a block bytes are is read = grind (arith, own_append, own_reads)

-- the device after a mark is as before it
pub later_as : (before mid now : Device) → IsLater before mid → now ≡ mid → IsLater before now
later_as before mid now later same = subst (IsLater before) (sym same) later

-- the node that a view of the bytes shows
pub record IsNodeOf (a : Area) (level : ℕ) (bytes : List ℕ) (node : Node) : Type 0 where
  pub keys_are : keys_in node ≡ bytes_in (keys_mark a.size) bytes
  pub values_are : (i : ℕ) → value_in node i ≡ bytes_in (value_mark a.size i) bytes
  pub blocks_are : node.blocks ≡ a.blocks
  pub size_is : length node.block ≡ a.size
  pub passes : is_node a.size level (bytes_in (keys_mark a.size) bytes) ≡ true

pub node_of : (a : Area) (level : ℕ) (bytes : List ℕ) (node : Node) (r : Region) → length bytes ≡ a.size → node ≡ record { block = bytes; blocks = r.size } → r ≡ record { start = a.start; size = a.blocks }
    → is_node (length bytes) level (bytes_in (keys_mark (length bytes)) bytes) ≡ true → IsNodeOf a level bytes node
node_of a level bytes node r long is same passes = record {
  keys_are = ap keys_in is ∙ ap (λ (n : ℕ). bytes_in (keys_mark n) bytes) long;
  values_are = λ i. ap (λ (m : Node). value_in m i) is ∙ ap (λ (n : ℕ). bytes_in (value_mark n i) bytes) long;
  blocks_are = ap (λ (m : Node). m.blocks) is ∙ ap (λ (s : Region). s.size) same;
  size_is = ap (λ (m : Node). length m.block) is ∙ long;
  passes = subst (λ (n : ℕ). is_node n level (bytes_in (keys_mark n) bytes) ≡ true) long passes;
}

pub not_node : (a : Area) (level : ℕ) (bytes : List ℕ) → length bytes ≡ a.size → (is_node (length bytes) level (bytes_in (keys_mark (length bytes)) bytes) ≡ true → ⊥)
    → is_node a.size level (bytes_in (keys_mark a.size) bytes) ≡ false
not_node a level bytes long fails = subst (λ (n : ℕ). is_node n level (bytes_in (keys_mark n) bytes) ≡ false) long (false_from_ne_true _ fails)

-- what a read and a mark in its block leave
module _ {R : Type 0} (t u v : Tx) (a : Access) (s : Span) (before mid now : Device) (is : u ≡ with_accesses t (a ∷ [])) (more : v ≡ record u { accesses = marked s u.accesses })
    (read : is_write a ≡ false) (later : IsLater before mid) (passed : Passed before mid) (same : now ≡ mid) where
  pub ok_marked : (x : R) → t.is_open ≡ true → OnlyReads t v before now (Ok x)
  ok_marked x is_open = ok_read t v _ before now x (marked_access t u v a s is more) read is_open (later_as before mid now later same) (ap (λ (d : Device). d.faults) same ∙ passed)

  pub broken_marked : (block : ℕ) → OnlyReads {R = R} t v before now (Err (store.Broken block))
  broken_marked block = broken_read t v _ before now block (marked_access t u v a s is more) read (later_as before mid now later same) (ap (λ (d : Device). d.faults) same ∙ passed)

-- the child for a key, as the view of an inner node shows it
module _ (a : Area) (key : List ℕ) (level : ℕ) (bytes : List ℕ) (node : Node) (cell : ℕ) (is : IsNodeOf a level bytes node) (at : cell ≡ place_of key (keys_in node)) where
  abbrev mark : Span
  mark = value_mark a.size (place_of key (bytes_in (keys_mark a.size) bytes))

  at_place : cell ≡ place_of key (bytes_in (keys_mark a.size) bytes)
  at_place = at ∙ ap (place_of key) is.keys_are

  pub part_shown : value_in node cell ≡ bytes_in mark bytes
  part_shown = is.values_are cell ∙ ap (λ (n : ℕ). bytes_in (value_mark a.size n) bytes) at_place

  pub child_shown : (good : Bool) → good ≡ is_child node.blocks (value_in node cell) → is_child a.blocks (bytes_in mark bytes) ≡ good
  child_shown good shown = sym (shown ∙ (λ i. is_child (is.blocks_are i) (part_shown i)))

  pub child_marked : (block : ℕ) (t u v : Tx) (s m : Span) → s ≡ keys_mark a.size → m ≡ value_mark a.size cell → u ≡ with_accesses t (look_access (a.start + block) (s ∷ []) ∷ [])
      → v ≡ record u { accesses = marked m u.accesses } → v ≡ with_accesses t (look_access (a.start + block) (keys_mark a.size ∷ mark ∷ []) ∷ [])
  child_marked block t u v s m s_is m_is first more = marked_access t u v _ m first more
      ∙ (λ i. with_accesses t (look_access (a.start + block) (s_is i ∷ (m_is ∙ ap (value_mark a.size) at_place) i ∷ []) ∷ []))

no_more : (with_value : Bool) (o : Option Span) → cond (with_value && false) o None ≡ None
no_more with_value o = grind arith

module _ (a : Area) (t v : Tx) (bytes : List ℕ) (fits : length v.accesses ≤ 4096) where
  -- root and level were read
  module _ (bytes_are : ForSome t.base (λ A. bytes ≡ block_at (own A t.accesses) a.start)) (is : v ≡ with_accesses t (look_access a.start (head_mark ∷ []) ∷ [])) where
    pub head_broken : is_head a (bytes_in head_mark bytes) ≡ false → Ran (head_program a) t v (Err (store.Broken a.start))
    head_broken not = looked a.start head_mark (λ head. None) _ t v bytes (Err (store.Broken a.start)) bytes_are fits is
        (ap (λ (b : Bool). cond b (Done (Ok (word_at 0 (bytes_in head_mark bytes), word_at 4 (bytes_in head_mark bytes)))) (Done (Err (store.Broken a.start)))) not)

    pub head_read : (root level : ℕ) → is_head a (bytes_in head_mark bytes) ≡ true → root ≡ word_at 0 (bytes_in head_mark bytes) → level ≡ word_at 4 (bytes_in head_mark bytes)
        → Ran (head_program a) t v (Ok (root, level))
    head_read root level good root_is level_is = looked a.start head_mark (λ head. None) _ t v bytes (Ok (root, level)) bytes_are fits is
        (ap (λ (b : Bool). cond b (Done (Ok (word_at 0 (bytes_in head_mark bytes), word_at 4 (bytes_in head_mark bytes)))) (Done (Err (store.Broken a.start)))) good
        ∙ (λ i. Done (Ok (sym root_is i, sym level_is i))))

  module _ (block : ℕ) (bytes_are : ForSome t.base (λ A. bytes ≡ block_at (own A t.accesses) (a.start + block))) where
    abbrev pub keys : List ℕ
    keys = bytes_in (keys_mark a.size) bytes

    -- an inner node whose head and key parts are not well formed
    pub child_not_node : (key : List ℕ) (level : ℕ) → v ≡ with_accesses t (look_access (a.start + block) (keys_mark a.size ∷ []) ∷ []) → is_node a.size level keys ≡ false
        → Ran (child_program a key level block) t v (Err (store.Broken (a.start + block)))
    child_not_node key level is not =
        looked_so (a.start + block) (keys_mark a.size) (inner_further a key level) _ t v bytes None (Err (store.Broken (a.start + block))) bytes_are fits
        (ap (λ (b : Bool). cond b (Some (value_mark a.size (place_of key (bytes_in (keys_mark a.size) bytes)))) None) not) is
        (ap (λ (b : Bool). Done (cond (b && is_child a.blocks []) (Ok (child_of [], count_of (bytes_in (keys_mark a.size) bytes))) (Err (store.Broken (a.start + block))))) not)

    -- an inner node with its child's value part
    module _ (key : List ℕ) (level : ℕ) (is : v ≡ with_accesses t (look_access (a.start + block) (keys_mark a.size ∷ value_mark a.size (place_of key keys) ∷ []) ∷ [])) (node : is_node a.size level keys ≡ true) where
      abbrev pub part : List ℕ
      part = bytes_in (value_mark a.size (place_of key keys)) bytes

      child_end : (good : Bool) → is_child a.blocks part ≡ good → Ran (child_program a key level block) t v (cond good (Ok (child_of part, count_of keys)) (Err (store.Broken (a.start + block))))
      child_end good so =
          looked_so (a.start + block) (keys_mark a.size) (inner_further a key level) _ t v bytes (Some (value_mark a.size (place_of key (bytes_in (keys_mark a.size) bytes)))) _ bytes_are fits
          (ap (λ (b : Bool). cond b (Some (value_mark a.size (place_of key (bytes_in (keys_mark a.size) bytes)))) None) node) is
          ((λ i. Done (cond (node i && so i) (Ok (child_of (bytes_in (value_mark a.size (place_of key (bytes_in (keys_mark a.size) bytes))) bytes), count_of (bytes_in (keys_mark a.size) bytes))) (Err (store.Broken (a.start + block))))))

      pub child_broken : is_child a.blocks part ≡ false → Ran (child_program a key level block) t v (Err (store.Broken (a.start + block)))
      child_broken not = child_end false not

      pub child_read : (child count : ℕ) → is_child a.blocks part ≡ true → child ≡ child_of part → count ≡ count_of keys → Ran (child_program a key level block) t v (Ok (child, count))
      child_read child count good child_is count_is =
          subst (λ (x : ℕ × ℕ). Ran (child_program a key level block) t v (Ok x)) ((λ i. (sym child_is i, sym count_is i))) (child_end true good)

    -- a leaf whose head and key parts are not well formed
    pub leaf_not_node : (key : List ℕ) (with_value : Bool) → v ≡ with_accesses t (look_access (a.start + block) (keys_mark a.size ∷ []) ∷ []) → is_node a.size 0 keys ≡ false
        → Ran (leaf_program a key with_value block) t v (Err (store.Broken (a.start + block)))
    leaf_not_node key with_value is not =
        looked_so (a.start + block) (keys_mark a.size) (leaf_further a key with_value) _ t v bytes None (Err (store.Broken (a.start + block))) bytes_are fits
        (ap (λ (b : Bool). cond (with_value && b) (option_map (value_mark a.size) (cell_of key (bytes_in (keys_mark a.size) bytes))) None) not ∙ no_more with_value _) is
        (ap (λ (b : Bool). Done (cond b (Ok (bytes_in (keys_mark a.size) bytes, [])) (Err (store.Broken (a.start + block))))) not)

    -- a leaf that is well formed, with the marks that it has
    pub leaf_read : (key : List ℕ) (with_value : Bool) → v ≡ with_accesses t (look_access (a.start + block) (keys_mark a.size ∷ with_further (leaf_further a key with_value keys)) ∷ []) → is_node a.size 0 keys ≡ true
        → Ran (leaf_program a key with_value block) t v (Ok (keys, further_bytes (leaf_further a key with_value keys) bytes))
    leaf_read key with_value is node =
        looked (a.start + block) (keys_mark a.size) (leaf_further a key with_value) _ t v bytes _ bytes_are fits is
        (ap (λ (b : Bool). Done (cond b (Ok (bytes_in (keys_mark a.size) bytes, further_bytes (leaf_further a key with_value (bytes_in (keys_mark a.size) bytes)) bytes)) (Err (store.Broken (a.start + block))))) node)

    leaf_as : (key : List ℕ) (with_value : Bool) (more : Option Span) → leaf_further a key with_value keys ≡ more → v ≡ with_accesses t (look_access (a.start + block) (keys_mark a.size ∷ with_further more) ∷ []) → is_node a.size 0 keys ≡ true
        → Ran (leaf_program a key with_value block) t v (Ok (keys, further_bytes (leaf_further a key with_value keys) bytes))
    leaf_as key with_value more same is node = leaf_read key with_value (is ∙ ap (λ (m : Option Span). with_accesses t (look_access (a.start + block) (keys_mark a.size ∷ with_further m) ∷ [])) (sym same)) node

    -- where the value is not wanted, where no cell has the key, and where one has
    pub leaf_plain : (key : List ℕ) (with_value : Bool) → with_value ≡ false → v ≡ with_accesses t (look_access (a.start + block) (keys_mark a.size ∷ []) ∷ []) → is_node a.size 0 keys ≡ true
        → Ran (leaf_program a key with_value block) t v (Ok (keys, further_bytes (leaf_further a key with_value keys) bytes))
    leaf_plain key with_value plain is node =
        leaf_as key with_value None (ap (λ (b : Bool). cond (b && is_node a.size 0 keys) (option_map (value_mark a.size) (cell_of key keys)) None) plain) is node

    wanted : (key : List ℕ) (with_value : Bool) (o : Option ℕ) → with_value ≡ true → is_node a.size 0 keys ≡ true → cell_of key keys ≡ o → leaf_further a key with_value keys ≡ option_map (value_mark a.size) o
    wanted key with_value o want node is = (λ i. cond (want i && node i) (option_map (value_mark a.size) (is i)) None)

    pub leaf_missing : (key : List ℕ) (with_value : Bool) → with_value ≡ true → cell_of key keys ≡ None → v ≡ with_accesses t (look_access (a.start + block) (keys_mark a.size ∷ []) ∷ []) → is_node a.size 0 keys ≡ true
        → Ran (leaf_program a key with_value block) t v (Ok (keys, further_bytes (leaf_further a key with_value keys) bytes))
    leaf_missing key with_value want none is node = leaf_as key with_value None (wanted key with_value None want node none) is node

    pub leaf_found : (key : List ℕ) (with_value : Bool) (cell : ℕ) → with_value ≡ true → cell_of key keys ≡ Some cell → v ≡ with_accesses t (look_access (a.start + block) (keys_mark a.size ∷ value_mark a.size cell ∷ []) ∷ []) → is_node a.size 0 keys ≡ true
        → Ran (leaf_program a key with_value block) t v (Ok (keys, further_bytes (leaf_further a key with_value keys) bytes))
    leaf_found key with_value cell want some is node = leaf_as key with_value (Some (value_mark a.size cell)) (wanted key with_value (Some cell) want node some) is node
