-- What a call of a store on a transaction does, and what it is answered.
use Rattle.std.specs.{Prelude.{◌≡◌, ℕ, ◌&&◌, ◌==◌, Bool, false, IsTrue, List, [], Option, Result, Ok, Err, IfOk, IsErrOf, OnErr, take}, Option.ForSome}
use Rattle.counts.specs.Count.{Rose}
use Rattle.iso_model.specs.{declared.access.Access.Access, declared.access.Geometry.Geometry, Array.Array, Effect.own}
use Rattle.script_model.specs.{declared.script.Op.Op, declared.script.Op.TheVariants.{HashPut, HashGet, HashDelete, TreePut, TreeGet, TreeDelete, TreeScan, FileNew, FileWrite, FileRead, FileMove, FileDelete}, declared.script.Reply.Reply, FilesArea.files_area, Step.{file_refusal, found_reply, pairs_reply, removed_reply, store_refusal, store_reply}, declared.stop.Stop.Stop}
use Rattle.script_model.specs.declared.script.Reply.TheVariants as reply
use Rattle.store_model.specs.{declared.files.FileAreas.FileAreas, declared.files.FsRegion.FsRegion, declared.files.FsError.FsError, declared.stores.Area.Area, declared.stores.StoreError.StoreError, declared.stores.TxError.TxError, FileCalls.{create_program, read_program, remove_program, rename_program, write_program}, FileRegion.AreFileAreas, HashCalls.{del_program, get_program, is_key, put_program}, HashRegion.IsHashArea, Areas.{hash_area, tree_area}, Stores.outcome, TreeRegion.IsTreeArea}
use Rattle.store_model.specs.declared.files.FsError.TheVariants as fs
use Rattle.store_model.specs.declared.stores.StoreError.TheVariants as store
use Rattle.store_model.specs.declared.stores.TxError.TheVariants as error
use Rattle.store_model.specs.TreeCalls as tree
use Rattle.tx_blocks.specs.Tx as tx
use Rattle.tx_blocks.specs.{Tx.{Tx, Device, room_of}, Runs.Passed}
use Rattle.script_model.specs.declared.stop.Stop.TheVariants as stop

-- a store that has one region alone
abbrev pub of_one : Area → FileAreas
of_one a = record { tree = a; files = a }

-- Where the store is that an operation calls: its region, and that of the tree which has the names of the files. A store without
-- names has the one region, and an operation that calls none has no blocks.
abbrev pub store_areas : Geometry → Op → FileAreas
store_areas g (HashPut key value) = of_one (hash_area g)
store_areas g (HashGet key) = of_one (hash_area g)
store_areas g (HashDelete key) = of_one (hash_area g)
store_areas g (TreePut key value) = of_one (tree_area g)
store_areas g (TreeGet key) = of_one (tree_area g)
store_areas g (TreeDelete key) = of_one (tree_area g)
store_areas g (TreeScan from to most) = of_one (tree_area g)
store_areas g (FileNew name) = files_area g
store_areas g (FileWrite name off bytes) = files_area g
store_areas g (FileRead name off len) = files_area g
store_areas g (FileMove from to) = files_area g
store_areas g (FileDelete name) = files_area g
store_areas g op = of_one (record { size = g.block; start = 0; blocks = 0 })

-- the areas of these regions, by how many bytes a block has
abbrev pub placed : (size : ℕ) → FsRegion → FileAreas
placed size at = record { tree = record { size = size; start = at.tree.start; blocks = at.tree.size }; files = record { size = size; start = at.files.start; blocks = at.files.size } }

-- how many blocks that store has
abbrev pub store_blocks : Geometry → Op → ℕ
store_blocks g op = (store_areas g op).files.blocks

-- areas where that store may be
abbrev pub AreStoreAreas : Op → FileAreas → Type 0
AreStoreAreas (HashPut key value) a = IsHashArea a.files
AreStoreAreas (HashGet key) a = IsHashArea a.files
AreStoreAreas (HashDelete key) a = IsHashArea a.files
AreStoreAreas (TreePut key value) a = IsTreeArea a.files
AreStoreAreas (TreeGet key) a = IsTreeArea a.files
AreStoreAreas (TreeDelete key) a = IsTreeArea a.files
AreStoreAreas (TreeScan from to most) a = IsTreeArea a.files
AreStoreAreas (FileNew name) a = AreFileAreas a
AreStoreAreas (FileWrite name off bytes) a = AreFileAreas a
AreStoreAreas (FileRead name off len) a = AreFileAreas a
AreStoreAreas (FileMove from to) a = AreFileAreas a
AreStoreAreas (FileDelete name) a = AreFileAreas a
AreStoreAreas op a = Unit {0}

-- whether an operation is a scan that is to find no pair, between two keys
abbrev pub is_empty_scan : Op → Bool
is_empty_scan (TreeScan from to most) = is_key from && is_key to && (most == 0)
is_empty_scan op = false

-- the accesses that a program makes, and the reply that its answer or its refusal represents
abbrev pub replied : {E R : Type 0} → (E → Reply) → (R → Reply) → List Access × Option (Result R E) → List Access × Reply
replied refusal answer ended = (ended.0, store_reply refusal answer ended.1)

-- the accesses and the reply of a call of the hash store or the tree store, and of one on files
abbrev pub stored : {R : Type 0} → (R → Reply) → List Access × Option (Result R StoreError) → List Access × Reply
stored answer ended = replied store_refusal answer ended

abbrev pub filed : {R : Type 0} → (R → Reply) → List Access × Option (Result R FsError) → List Access × Reply
filed answer ended = replied file_refusal answer ended

-- the accesses and the reply of an operation on a store, in a transaction that has room for `room` more accesses
abbrev pub store_ended : FileAreas → Op → (room : ℕ) → Array → List Access × Reply
store_ended a (HashPut key value) room A = stored (λ done. reply.Done) (outcome room (put_program a.files key value) A)
store_ended a (HashGet key) room A = stored found_reply (outcome room (get_program a.files key) A)
store_ended a (HashDelete key) room A = stored removed_reply (outcome room (del_program a.files key) A)
store_ended a (TreePut key value) room A = stored (λ done. reply.Done) (outcome room (tree.put_program a.files key value) A)
store_ended a (TreeGet key) room A = stored found_reply (outcome room (tree.get_program a.files key) A)
store_ended a (TreeDelete key) room A = stored removed_reply (outcome room (tree.del_program a.files key) A)
store_ended a (TreeScan from to most) room A = stored pairs_reply (outcome room (tree.scan_program a.files from to most) A)
store_ended a (FileNew name) room A = filed (λ done. reply.Done) (outcome room (create_program a name) A)
store_ended a (FileWrite name off bytes) room A = filed removed_reply (outcome room (write_program a name off bytes) A)
store_ended a (FileRead name off len) room A = filed found_reply (outcome room (read_program a name off len) A)
store_ended a (FileMove from to) room A = filed removed_reply (outcome room (rename_program a from to) A)
store_ended a (FileDelete name) room A = filed removed_reply (outcome room (remove_program a name) A)
store_ended a op room A = ([], reply.NotInTx)

-- A call made these accesses; where the array is told, they and the reply are those that are given, and where there is no reply they
-- are the first of those.
pub record HasCalled (ended : (room : ℕ) → Array → List Access × Reply) (t u : Tx) (result : Result Reply Stop) : Type 0 where
  pub done : List Access
  pub is : u ≡ tx.with_accesses t done
  pub told : IfOk result (λ r. ForSome t.base (λ A. ended (room_of t) (own A t.accesses) ≡ (done, r)))
  pub stopped : OnErr result (ForSome t.base (λ A. (n : ℕ) × (done ≡ take n (ended (room_of t) (own A t.accesses)).0)))

-- why a call has no reply, and that the disk did not fail but where it is blamed
pub record Stops (before now : Device) (result : Result Reply Stop) : Type 0 where
  pub down : IsErrOf result stop.Down → IsTrue now.is_down
  pub disk : IsErrOf result stop.Disk → Rose before.faults now.faults
  pub passed : ¬ IsErrOf result stop.Disk → Passed before now

-- what a store that refuses is answered, or why there is no reply
abbrev pub refused_access : TxError → Result Reply Stop
refused_access error.TooManyAccesses = Ok reply.TooManyAccesses
refused_access error.Memory = Err stop.Memory
refused_access error.Disk = Err stop.Disk
refused_access error.Down = Err stop.Down
refused_access error.NotInTx = Err stop.Down
refused_access error.BadBlock = Err stop.Down
refused_access error.BadRange = Err stop.Down
refused_access error.NoAccess = Err stop.Down
refused_access error.TooManyMarks = Err stop.Down

abbrev pub refusal_of : StoreError → Result Reply Stop
refusal_of store.BadKey = Ok reply.BadKey
refusal_of store.BadValue = Ok reply.BadValue
refusal_of (store.NoBlocks need free) = Ok (reply.NoBlocks need free)
refusal_of (store.Broken block) = Ok (reply.Broken block)
refusal_of (store.Tx e) = refused_access e
refusal_of store.Memory = Err stop.Memory

abbrev pub file_refusal_of : FsError → Result Reply Stop
file_refusal_of fs.BadName = Ok reply.BadName
file_refusal_of fs.BadRange = Ok reply.BadRange
file_refusal_of fs.Exists = Ok reply.Exists
file_refusal_of (fs.Store e) = refusal_of e

-- an answer of the hash store or the tree store, as that of a call on files
abbrev pub of_store : {R : Type 0} → Result R StoreError → Result R FsError
of_store (Ok x) = Ok x
of_store (Err e) = Err (fs.Store e)

-- what an answer is told as: a reply, or why there is none
abbrev pub told : {R : Type 0} → (R → Reply) → Result R FsError → Result Reply Stop
told answer (Ok x) = Ok (answer x)
told answer (Err e) = file_refusal_of e
