-- What the parts of a call leave, and how a descent ends.
use Rattle.std.specs.Prelude.{◌≡◌, ℕ, ◌+◌, ◌<◌, ◌≤◌, Bool, ◌&&◌, cond, true, List, [], Result, Ok, Err, IfErr, IfOk, OnOk, length, take}
use Rattle.store_model.specs.{declared.stores.Area.Area, declared.stores.StoreError.StoreError, Cells.{keys_end, keys_mark}, Stores.{Program, Done, Look, further_bytes}, TreeNodes.{cell_of, count_of, is_node, is_child, child_of}, TreeCalls.{Answer, AtLeaf, AtBroken, descend, inner_further, leaf_further, with_head}}
use Rattle.store_model.specs.declared.stores.StoreError.TheVariants as store
use Rattle.store_model.specs.declared.stores.TxError.TheVariants as error
use Rattle.store_model.specs.TreeRegion.{IsTreeArea}
use Rattle.tx_blocks.specs.{Tx.{Tx, Device, IsLater, room_of}, Runs.{AreBytesOf, Behaves, HasArea, Ran, IsCut, HasRead, HasRun, IsStoreCause}}
use Rattle.iso_tree.specs.{Rows.AreInside, declared.descent.Leaf.Leaf}

-- a refusal of a walk: a block is not well formed, or the transaction refuses an access
abbrev pub IsWalkError : StoreError → Type 0
IsWalkError (store.Broken block) = Unit {0}
IsWalkError (store.Tx e) = Unit {0}
IsWalkError store.BadKey = ⊥
IsWalkError store.BadValue = ⊥
IsWalkError (store.NoBlocks need free) = ⊥
IsWalkError store.Memory = ⊥

-- a refusal of a call that puts nothing: it needs no block, and has no value
abbrev pub TakesNoBlocks : StoreError → Type 0
TakesNoBlocks store.BadKey = Unit {0}
TakesNoBlocks (store.Broken block) = Unit {0}
TakesNoBlocks (store.Tx e) = Unit {0}
TakesNoBlocks store.Memory = Unit {0}
TakesNoBlocks store.BadValue = ⊥
TakesNoBlocks (store.NoBlocks need free) = ⊥

-- what holds of a transaction and the disk below it, before a call and after it
abbrev pub Across : {T : Type 0} {F : Type 1} → (T → Tx) → (T → Device) → (x y : T) → (Tx → Tx → Device → Device → F) → F
Across state device x y holds = holds (state x) (state y) (device x) (device y)

-- What a part of a call that reads alone leaves: further reads; why it is refused, which is as walks are; that the disk's
-- faults do not fall, and stand after Ok where they stood.
pub record OnlyReads {R : Type 0} (t u : Tx) (before now : Device) (result : Result R StoreError) : Type 0 where
  pub reads : HasRead t u
  pub cause : IfErr result (IsStoreCause u 1 before now)
  pub known : IfErr result IsWalkError
  pub later : IsLater before now
  pub passed : OnOk result (now.faults ≡ before.faults)
  pub is_open : OnOk result (u.is_open ≡ true)

-- an area of a tree in the transaction's blocks, and a buffer for one of them
pub record HasBuffer (t : Tx) (a : Area) (buffer : List ℕ) : Type 0 where
  pub within : HasArea IsTreeArea t a
  pub long : length buffer ≡ a.size

-- buffers for two of them
pub record HasBuffers (t : Tx) (a : Area) (buffer other : List ℕ) : Type 0 where
  pub within : HasArea IsTreeArea t a
  pub long : length buffer ≡ a.size
  pub into : length other ≡ a.size

-- one, where the transaction is open
pub record HasOpenBuffer (t : Tx) (a : Area) (buffer : List ℕ) : Type 0 where
  pub within : HasArea IsTreeArea t a
  pub long : length buffer ≡ a.size
  pub is_open : t.is_open ≡ true

-- so have two buffers
pub record HasOpenBuffers (t : Tx) (a : Area) (buffer other : List ℕ) : Type 0 where
  pub within : HasArea IsTreeArea t a
  pub long : length buffer ≡ a.size
  pub into : length other ≡ a.size
  pub is_open : t.is_open ≡ true

-- a part of a call that follows this program: how it ends, and what it leaves
pub record IsPart {X : Type 0} (writes : ℕ) (p : Program (Result X StoreError)) (t u : Tx) (before now : Device) (result : Result X StoreError) : Type 0 where
  pub run : HasRun p t u result
  pub behaves : Behaves t u writes before now result

-- one that removes a key, with a write at most: it is refused as walks are
pub record IsRemoval {X : Type 0} (p : Program (Result X StoreError)) (t u : Tx) (before now : Device) (result : Result X StoreError) : Type 0 where
  pub run : HasRun p t u result
  pub behaves : Behaves t u 1 before now result
  pub known : IfErr result IsWalkError

-- one that reads alone
pub record IsReading {X : Type 0} (p : Program (Result X StoreError)) (t u : Tx) (before now : Device) (result : Result X StoreError) : Type 0 where
  pub run : HasRun p t u result
  pub reads : OnlyReads t u before now result

-- one that reads alone, with what holds of its answer
pub record IsStep {X : Type 0} (Inside : X → Type 0) (p : Program (Result X StoreError)) (t u : Tx) (before now : Device) (result : Result X StoreError) : Type 0 where
  pub run : HasRun p t u result
  pub inside : IfOk result Inside
  pub reads : OnlyReads t u before now result

-- a part without accesses, which memory alone may be wanted for
pub record OrMemory {R : Type 0} (done : Type 0) (result : Result R StoreError) : Type 0 where
  pub ok : OnOk result done
  pub memory : IfErr result (λ e. e ≡ store.Tx error.Memory)

-- a part for which there is room: memory alone may be wanted, and the disk has no part in it
pub record WantsOnlyMemory {R : Type 0} (before now : Device) (result : Result R StoreError) : Type 0 where
  pub memory : IfErr result (λ e. e ≡ store.Tx error.Memory)
  pub device : now ≡ before

-- the read of root and level
abbrev pub head_program : Area → Program (Result (ℕ × ℕ) StoreError)
head_program a = with_head a (λ root level. Done (Ok (root, level)))

-- one step of a descent, from an inner node to the child of a key: the child, and how many cells the node has
abbrev pub child_program : Area → (key : List ℕ) → (level block : ℕ) → Program (Result (ℕ × ℕ) StoreError)
child_program a key level block =
    Look (a.start + block) (keys_mark a.size) (inner_further a key level)
    (λ keys value. Done (cond (is_node a.size level keys && is_child a.blocks value) (Ok (child_of value, count_of keys)) (Err (store.Broken (a.start + block)))))

-- a block of the region but the first, and any number of cells
pub record IsChild (a : Area) (x : ℕ × ℕ) : Type 0 where
  pub some : 1 ≤ x.0
  pub below : x.0 < a.blocks

-- root and level of a head that is well formed
pub record IsHead (a : Area) (x : ℕ × ℕ) : Type 0 where
  pub root : x.0 < a.blocks
  pub level : x.1 ≤ 31

-- a leaf that a descent of a key has read: the buffer has its block, and these are the key's cell and the count
pub record IsLeaf (a : Area) (key buffer : List ℕ) (leaf : Leaf) : Type 0 where
  pub inside : leaf.block < a.blocks
  pub node : is_node a.size 0 (take (keys_end a.size) buffer) ≡ true
  pub cell : leaf.cell ≡ cell_of key (take (keys_end a.size) buffer)
  pub count : leaf.count ≡ count_of (take (keys_end a.size) buffer)

-- the same, where the transaction shows the block so
pub record HasLeaf (t : Tx) (a : Area) (key buffer : List ℕ) (l : Leaf) : Type 0 where
  pub leaf : IsLeaf a key buffer l
  pub bytes : AreBytesOf t (a.start + l.block) buffer

-- the inner nodes that a descent from a root of this level has passed
pub record ArePassed (a : Area) (level : ℕ) (path : List (ℕ × ℕ)) : Type 0 where
  pub inside : AreInside a path
  pub long : length path ≡ level

-- the leaf's value part of a key, as far as it was read
abbrev pub leaf_value : Area → (key : List ℕ) → (with_value : Bool) → (buffer : List ℕ) → List ℕ
leaf_value a key with_value buffer = further_bytes (leaf_further a key with_value (take (keys_end a.size) buffer)) buffer

-- The descent made its reads and ended here; at a leaf, the buffer has its block.
abbrev pub HasDescended : Area → List ℕ → Bool → (root level : ℕ) → (t u : Tx) → (path : List (ℕ × ℕ)) → (buffer : List ℕ) → Result Leaf StoreError → Type 0
HasDescended a key with_value root level t u path buffer (Ok leaf) =
    Ran (descend a key with_value level root []) t u (AtLeaf path leaf.block (take (keys_end a.size) buffer) (leaf_value a key with_value buffer))
HasDescended a key with_value root level t u path buffer (Err (store.Broken block)) = Ran (descend a key with_value level root []) t u (AtBroken block)
HasDescended a key with_value root level t u path buffer (Err (store.Tx e)) = IsCut (descend a key with_value level root []) t u e
HasDescended a key with_value root level t u path buffer (Err store.BadKey) = ⊥
HasDescended a key with_value root level t u path buffer (Err store.BadValue) = ⊥
HasDescended a key with_value root level t u path buffer (Err (store.NoBlocks need free)) = ⊥
HasDescended a key with_value root level t u path buffer (Err store.Memory) = ⊥

-- the read of a leaf: its head and key parts, and the bytes of the key's value part where they are wanted
abbrev pub leaf_program : Area → (key : List ℕ) → (with_value : Bool) → (block : ℕ) → Program (Result (List ℕ × List ℕ) StoreError)
leaf_program a key with_value block =
    Look (a.start + block) (keys_mark a.size) (leaf_further a key with_value)
    (λ keys value. Done (cond (is_node a.size 0 keys) (Ok (keys, value)) (Err (store.Broken (a.start + block)))))

-- how the read of a leaf ends; after it, the buffer has its block
abbrev pub HasReadLeaf : Area → List ℕ → Bool → (block : ℕ) → (t u : Tx) → (buffer : List ℕ) → Result Leaf StoreError → Type 0
HasReadLeaf a key with_value block t u buffer (Ok leaf) =
    Ran (leaf_program a key with_value block) t u (Ok (take (keys_end a.size) buffer, leaf_value a key with_value buffer))
HasReadLeaf a key with_value block t u buffer (Err (store.Broken broken)) = Ran (leaf_program a key with_value block) t u (Err (store.Broken broken))
HasReadLeaf a key with_value block t u buffer (Err (store.Tx e)) = IsCut (leaf_program a key with_value block) t u e
HasReadLeaf a key with_value block t u buffer (Err store.BadKey) = ⊥
HasReadLeaf a key with_value block t u buffer (Err store.BadValue) = ⊥
HasReadLeaf a key with_value block t u buffer (Err (store.NoBlocks need free)) = ⊥
HasReadLeaf a key with_value block t u buffer (Err store.Memory) = ⊥

-- A part of a call's program was made, and what follows it makes the whole; or the part is refused, and so is the whole.
abbrev pub IsFollowed : (whole rest : Program Answer) → (t u : Tx) → Result (Unit {0}) StoreError → Type 0
IsFollowed whole rest t u (Ok done) = (v : Tx) (result : Result (Unit {0}) StoreError) → HasRun rest u v result → HasRun whole t v result
IsFollowed whole rest t u (Err e) = HasRun {X = Unit {0}} whole t u (Err e)

-- the transaction after n writes
pub record HasWritten (n : ℕ) (t u : Tx) : Type 0 where
  pub size : u.size ≡ t.size
  pub blocks : u.blocks ≡ t.blocks
  pub is_open : u.is_open ≡ t.is_open
  pub room : room_of t ≡ n + room_of u
