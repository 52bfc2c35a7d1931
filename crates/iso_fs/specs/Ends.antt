-- How a call of the file store ends, and what it leaves.
use Rattle.std.specs.Prelude.{◌≡◌, ◌≢◌, ◌↔◌, ℕ, ◌+◌, ◌≤◌, Bool, true, false, IsFalse, IsTrue, List, Some, Result, Ok, Err, IfErr, OnOk, length}
use Rattle.iso_model.specs.{Array.Array, Effect.own}
use Rattle.store_model.specs.{declared.stores.StoreError.StoreError, declared.files.FsError.FsError, declared.files.FsRegion.FsRegion, declared.stores.Area.Area, declared.files.FileAreas.FileAreas, FileCalls.Call, FileRegion.{AreFileAreas, AreFileRegions, files}, HashRegion.Pairs}
use Rattle.store_model.specs.declared.stores.StoreError.TheVariants as store
use Rattle.store_model.specs.declared.files.FsError.TheVariants as fs
use Rattle.tx_blocks.specs.{Tx.{Tx, Device, IsLater}, Runs.{area_of, Ran, Stopped, IsCut, IsStoreCause, HasRead, Passed}}

-- the areas of the regions in the transaction's blocks
abbrev pub areas_of : Tx → FsRegion → FileAreas
areas_of t at = record { tree = area_of t at.tree; files = area_of t at.files }

-- Where the store under a file call refuses it: the call ran to that refusal, or an access was refused; or memory was wanting for
-- buffers, its own or those of a call of the tree, and then it has made fewer accesses than its program.
abbrev pub HasRefused : {X : Type 0} → Call X → (t u : Tx) → StoreError → Type 0
HasRefused p t u store.BadKey = Ran p t u (Err (fs.Store store.BadKey))
HasRefused p t u store.BadValue = Ran p t u (Err (fs.Store store.BadValue))
HasRefused p t u (store.NoBlocks need free) = Ran p t u (Err (fs.Store (store.NoBlocks need free)))
HasRefused p t u (store.Broken block) = Ran p t u (Err (fs.Store (store.Broken block)))
HasRefused p t u (store.Tx e) = IsCut p t u e
HasRefused p t u store.Memory = Stopped p t u

-- how a file call ends
abbrev pub HasRun : {X : Type 0} → Call X → (t u : Tx) → Result X FsError → Type 0
HasRun p t u (Ok x) = Ran p t u (Ok x)
HasRun p t u (Err fs.BadName) = Ran p t u (Err fs.BadName)
HasRun p t u (Err fs.BadRange) = Ran p t u (Err fs.BadRange)
HasRun p t u (Err fs.Exists) = Ran p t u (Err fs.Exists)
HasRun p t u (Err (fs.Store e)) = HasRefused p t u e

-- Why a file call is refused, of which a part makes at most `writes` writes once it has seen that they fit: the store under it
-- refuses for its own causes, and else the disk did not fail in the call.
abbrev pub IsFsCause : Tx → (writes : ℕ) → (before now : Device) → FsError → Type 0
IsFsCause u writes before now (fs.Store e) = IsStoreCause u writes before now e
IsFsCause u writes before now fs.BadName = Passed before now
IsFsCause u writes before now fs.BadRange = Passed before now
IsFsCause u writes before now fs.Exists = Passed before now

-- the call came to its answer: neither its transaction nor want of memory stopped it
abbrev pub HasAnswered : {X : Type 0} → Result X FsError → Type 0
HasAnswered (Ok x) = Unit {0}
HasAnswered (Err fs.BadName) = Unit {0}
HasAnswered (Err fs.BadRange) = Unit {0}
HasAnswered (Err fs.Exists) = Unit {0}
HasAnswered (Err (fs.Store store.BadKey)) = Unit {0}
HasAnswered (Err (fs.Store store.BadValue)) = Unit {0}
HasAnswered (Err (fs.Store (store.NoBlocks need free))) = Unit {0}
HasAnswered (Err (fs.Store (store.Broken block))) = Unit {0}
HasAnswered (Err (fs.Store (store.Tx e))) = ⊥
HasAnswered (Err (fs.Store store.Memory)) = ⊥

-- Where the array is told and its regions are well formed, a call that came to its answer answers `Exists` exactly where its files
-- pass this test.
abbrev pub ExistsWhere : {X : Type 0} → FileAreas → Tx → (Pairs → Bool) → Result X FsError → Type 0
ExistsWhere a t test result =
    (A : Array) → t.base ≡ Some A → AreFileRegions a (own A t.accesses) → HasAnswered result → (result ≡ Err fs.Exists ↔ IsTrue (test (files a (own A t.accesses))))

-- Whether a refusal may come after a write: the transaction's own may, and where a call of the tree follows a write, want of
-- memory and a broken block may too.
abbrev pub may_follow : (tree_call : Bool) → FsError → Bool
may_follow tree_call (fs.Store (store.Tx e)) = true
may_follow tree_call (fs.Store (store.Broken block)) = tree_call
may_follow tree_call (fs.Store store.Memory) = tree_call
may_follow tree_call (fs.Store store.BadKey) = false
may_follow tree_call (fs.Store store.BadValue) = false
may_follow tree_call (fs.Store (store.NoBlocks need free)) = false
may_follow tree_call fs.BadName = false
may_follow tree_call fs.BadRange = false
may_follow tree_call fs.Exists = false

-- a call that was refused otherwise has written nothing
abbrev pub IsUnwritten : (tree_call : Bool) → (t u : Tx) → FsError → Type 0
IsUnwritten tree_call t u e = IsFalse (may_follow tree_call e) → HasRead t u

-- a refusal by the transaction
abbrev pub IsOfTx : FsError → Type 0
IsOfTx e = may_follow false e ≡ true

-- What a call leaves, whatever the bytes: why it is refused, and what a refusal has written; that the disk's faults do not fall, and
-- stand after Ok where they stood.
pub record Leaves {R : Type 0} (tree_call : Bool) (t u : Tx) (writes : ℕ) (before now : Device) (result : Result R FsError) : Type 0 where
  pub cause : IfErr result (IsFsCause u writes before now)
  pub unwritten : IfErr result (IsUnwritten tree_call t u)
  pub later : IsLater before now
  pub passed : OnOk result (Passed before now)

-- What a part of a call leaves: its refusal is not of the arguments.
pub record FsBehaves {R : Type 0} (tree_call : Bool) (t u : Tx) (writes : ℕ) (before now : Device) (result : Result R FsError) : Type 0 where
  pub leaves : Leaves tree_call t u writes before now result
  pub known : IfErr result (λ e. e ≢ fs.BadName)

-- what a call of the tree store leaves: why it is refused, and so of the disk
pub record TreeLeaves {R : Type 0} (u : Tx) (writes : ℕ) (before now : Device) (result : Result R StoreError) : Type 0 where
  pub cause : IfErr result (IsStoreCause u writes before now)
  pub later : IsLater before now
  pub passed : OnOk result (Passed before now)

-- the areas of a call, in blocks that the transaction has
pub record HasFiles (t : Tx) (at : FsRegion) : Type 0 where
  pub areas : AreFileAreas (areas_of t at)
  pub fits : at.files.start + at.files.size ≤ t.blocks

-- blocks of 256 to 4,096 bytes
pub record IsSize (size : ℕ) : Type 0 where
  pub least : 256 ≤ size
  pub most : size ≤ 4096

-- as many bytes as a block of the area has
pub record IsBlockOf (a : Area) (bytes : List ℕ) : Type 0 where
  pub least : 256 ≤ a.size
  pub most : a.size ≤ 4096
  pub long : length bytes ≡ a.size

-- the transaction has the blocks of the area, of 256 to 4,096 bytes each
pub record HasArea (t : Tx) (a : Area) : Type 0 where
  pub least : 256 ≤ a.size
  pub most : a.size ≤ 4096
  pub size : t.size ≡ a.size
  pub fits : a.start + a.blocks ≤ t.blocks

-- so, and a buffer has as many bytes as a block
pub record HasBuffer (t : Tx) (a : Area) (buffer : List ℕ) : Type 0 where
  pub holds : HasArea t a
  pub long : length buffer ≡ a.size

-- so have two buffers
pub record HasBuffers (t : Tx) (a : Area) (x y : List ℕ) : Type 0 where
  pub holds : HasArea t a
  pub one : length x ≡ a.size
  pub other : length y ≡ a.size

-- what holds of a transaction and the disk below it, before a call and after it
abbrev pub Across : {T : Type 0} {F : Type 1} → (T → Tx) → (T → Device) → (x y : T) → (Tx → Tx → Device → Device → F) → F
Across state device x y holds = holds (state x) (state y) (device x) (device y)

-- a part of a call that follows this program: how it ends, and what it leaves
pub record IsPart {X : Type 0} (tree_call : Bool) (writes : ℕ) (p : Call X) (t u : Tx) (before now : Device) (result : Result X FsError) : Type 0 where
  pub run : HasRun p t u result
  pub behaves : FsBehaves tree_call t u writes before now result

-- a part that writes nothing
pub record IsReading {X : Type 0} (p : Call X) (t u : Tx) (before now : Device) (result : Result X FsError) : Type 0 where
  pub part : IsPart false 1 p t u before now result
  pub reads : HasRead t u

-- a part that the transaction alone refuses
pub record IsOwnPart {X : Type 0} (p : Call X) (t u : Tx) (before now : Device) (result : Result X FsError) : Type 0 where
  pub part : IsPart false 1 p t u before now result
  pub of_tx : IfErr result IsOfTx
