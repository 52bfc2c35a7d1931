-- How a store's call that follows a program ends.
use Rattle.std.specs.{Prelude.{◌≡◌, ◌≢◌, ◌⊎◌, ℕ, ◌+◌, ◌<◌, ◌≤◌, true, false, IsTrue, List, [], ◌∷◌, Option, Some, None, Result, Ok, Err, IfErr, OnOk, OnErr, length, take}, Option.ForSome}
use Rattle.counts.specs.Count.{Rose}
use Rattle.iso_model.specs.{declared.access.Access.Access, Array.Array, Effect.own, Premises.block_at}
use Rattle.store_model.specs.{declared.stores.Area.Area, declared.stores.Region.Region, declared.stores.StoreError.StoreError, declared.stores.TxError.TxError, Stores.{Program, accesses_of, outcome, AreReads, IsLocal}}
use Rattle.store_model.specs.declared.stores.StoreError.TheVariants as store
use Rattle.store_model.specs.declared.stores.TxError.TheVariants as error
use Rattle.tx_blocks.specs.Tx.{Tx, Device, IsLater, with_accesses, added, room_of}

-- the area of a region of the transaction's blocks
abbrev pub area_of : Tx → Region → Area
area_of t region = record { size = t.size; start = region.start; blocks = region.size }

-- a region of its kind, whose blocks are some of the transaction's
pub record HasArea (IsKind : Area → Type 0) (t : Tx) (a : Area) : Type 0 where
  pub area : IsKind a
  pub size : t.size ≡ a.size
  pub fits : a.start + a.blocks ≤ t.blocks

-- a block of such a region, and a buffer for its bytes
pub record HasBlock (IsKind : Area → Type 0) (t : Tx) (a : Area) (k : ℕ) (buffer : List ℕ) : Type 0 where
  pub within : HasArea IsKind t a
  pub inside : k < a.blocks
  pub long : length buffer ≡ a.size

-- the bytes are those of the block that the transaction shows, where that is told
abbrev pub AreBytesOf : Tx → (block : ℕ) → List ℕ → Type 0
AreBytesOf t block bytes = ForSome t.base (λ A. bytes ≡ block_at (own A t.accesses) block)

-- The call made these accesses; where the array is told, they are those of the program, which ends so.
pub record Ends {R : Type 0} (p : Program R) (t u : Tx) (end : Option R) : Type 0 where
  pub done : List Access
  pub is : u ≡ with_accesses t done
  pub told : ForSome t.base (λ A. outcome (room_of t) p (own A t.accesses) ≡ (done, end))

-- the call made the accesses of the program and answered as it does
abbrev pub Ran : {R : Type 0} → Program R → (t u : Tx) → R → Type 0
Ran p t u r = Ends p t u (Some r)

-- the call made the first accesses of the program and no more, all of them perhaps
pub record Began {R : Type 0} (p : Program R) (t u : Tx) : Type 0 where
  pub done : List Access
  pub is : u ≡ with_accesses t done
  pub told : ForSome t.base (λ A. (n : ℕ) × (done ≡ take n (outcome (room_of t) p (own A t.accesses)).0))

-- the call made the first accesses of the program, and fewer than the program has
pub record Stopped {R : Type 0} (p : Program R) (t u : Tx) : Type 0 where
  pub began : Began p t u
  pub fewer : ForSome t.base (λ A. length began.done < length (accesses_of p (own A t.accesses)))

-- How a program ends of which the transaction refuses an access: at the first access or reservation that does not fit, or earlier,
-- for another cause.
abbrev pub IsCut : {R : Type 0} → Program R → (t u : Tx) → TxError → Type 0
IsCut p t u error.TooManyAccesses = Ends p t u None
IsCut p t u error.Memory = Stopped p t u
IsCut p t u error.Down = Stopped p t u
IsCut p t u error.Disk = Stopped p t u
IsCut p t u error.NotInTx = Stopped p t u
IsCut p t u error.BadBlock = ⊥
IsCut p t u error.BadRange = ⊥
IsCut p t u error.NoAccess = ⊥
IsCut p t u error.TooManyMarks = ⊥

-- how a call that follows the program ends, and takes no memory of its own: as the program does, or where an access is refused
abbrev pub HasRun : {X : Type 0} → Program (Result X StoreError) → (t u : Tx) → Result X StoreError → Type 0
HasRun p t u (Ok x) = Ran p t u (Ok x)
HasRun p t u (Err store.BadKey) = Ran p t u (Err store.BadKey)
HasRun p t u (Err store.BadValue) = Ran p t u (Err store.BadValue)
HasRun p t u (Err (store.NoBlocks need free)) = Ran p t u (Err (store.NoBlocks need free))
HasRun p t u (Err (store.Broken block)) = Ran p t u (Err (store.Broken block))
HasRun p t u (Err (store.Tx e)) = IsCut p t u e
HasRun p t u (Err store.Memory) = ⊥

-- How a store's call ends: so, or without memory for its buffers, having done nothing.
abbrev pub HasEnded : {X : Type 0} → Program (Result X StoreError) → (t u : Tx) → Result X StoreError → Type 0
HasEnded p t u (Ok x) = HasRun p t u (Ok x)
HasEnded p t u (Err store.BadKey) = HasRun p t u (Err store.BadKey)
HasEnded p t u (Err store.BadValue) = HasRun p t u (Err store.BadValue)
HasEnded p t u (Err (store.NoBlocks need free)) = HasRun p t u (Err (store.NoBlocks need free))
HasEnded p t u (Err (store.Broken block)) = HasRun p t u (Err (store.Broken block))
HasEnded p t u (Err (store.Tx e)) = HasRun p t u (Err (store.Tx e))
HasEnded p t u (Err store.Memory) = u ≡ t

-- the call wants memory for what it has read, which its last access may have shown
abbrev pub WantsMemory : {X : Type 0} → Program (Result X StoreError) → (t u : Tx) → Result X StoreError → Type 0
WantsMemory p t u result = (result ≡ Err (store.Tx error.Memory)) × Began p t u

-- the disk did not fail in the call
abbrev pub Passed : (before now : Device) → Type 0
Passed before now = now.faults ≡ before.faults

-- Why a transaction refuses an access of a store's call that makes at most `writes` writes: the disk failed in this call; else it
-- did not, and is down, or there is no transaction, or `writes` accesses do not fit. Want of memory is free.
abbrev pub IsCause : Tx → (writes : ℕ) → (before now : Device) → TxError → Type 0
IsCause u writes before now error.Memory = Passed before now
IsCause u writes before now error.Down = IsTrue now.is_down × Passed before now
IsCause u writes before now error.Disk = Rose before.faults now.faults
IsCause u writes before now error.TooManyAccesses = (4096 < length u.accesses + writes) × Passed before now
IsCause u writes before now error.NotInTx = (u.is_open ≡ false) × Passed before now
IsCause u writes before now error.BadBlock = ⊥
IsCause u writes before now error.BadRange = ⊥
IsCause u writes before now error.NoAccess = ⊥
IsCause u writes before now error.TooManyMarks = ⊥

-- why a store refuses its call that makes at most `writes` writes
abbrev pub IsStoreCause : Tx → (writes : ℕ) → (before now : Device) → StoreError → Type 0
IsStoreCause u writes before now (store.Tx e) = IsCause u writes before now e
IsStoreCause u writes before now store.BadKey = Passed before now
IsStoreCause u writes before now store.BadValue = Passed before now
IsStoreCause u writes before now (store.NoBlocks need free) = Passed before now
IsStoreCause u writes before now (store.Broken block) = Passed before now
IsStoreCause u writes before now store.Memory = Passed before now

-- How a write of a store's call ends, whatever its other accesses: the access is made, or nothing is; where it fits, memory alone
-- may be wanted; the disk has no part in it.
pub record HasStored (access : Access) (t u : Tx) (before now : Device) (result : Result (Unit {0}) TxError) : Type 0 where
  pub stored : OnOk result (u ≡ with_accesses t (access ∷ []))
  pub kept : OnErr result (u ≡ t)
  pub cause : IfErr result (IsCause u 1 before now)
  pub room : 0 < room_of t → t.is_open ≡ true → IfErr result (λ e. e ≡ error.Memory)
  pub device : now ≡ before

-- the transaction has further reads, and is else as before
pub record HasRead (t u : Tx) : Type 0 where
  pub done : List Access
  pub is : u ≡ with_accesses t done
  pub reads : AreReads done

-- a refused call that makes at most `writes` writes has written nothing, but where memory is wanted between two of them
abbrev pub IsUnwritten : (t u : Tx) → (writes : ℕ) → StoreError → Type 0
IsUnwritten t u writes e = (writes ≤ 1) ⊎ (e ≢ store.Tx error.Memory) → HasRead t u

-- What a part of a call leaves, whatever the bytes: why it is refused, and that a refusal has written nothing and is not of the
-- arguments; that the disk's faults do not fall, and stand after Ok where they stood.
pub record Behaves {R : Type 0} (t u : Tx) (writes : ℕ) (before now : Device) (result : Result R StoreError) : Type 0 where
  pub cause : IfErr result (IsStoreCause u writes before now)
  pub unwritten : IfErr result (IsUnwritten t u writes)
  pub known : IfErr result (λ e. (e ≢ store.BadKey) × (e ≢ store.BadValue))
  pub later : IsLater before now
  pub passed : OnOk result (Passed before now)

-- where the array is told, the call is local for the operation on the map of its region
abbrev pub IsLocalCall : {M R : Type 0} → (Array → Type 0) → (Array → M) → (M → R × M) → (t u : Tx) → R → Type 0
IsLocalCall IsWellFormed map_of op t u r = ForSome t.base (λ A. IsLocal IsWellFormed map_of op (own A t.accesses) (added t u) r)
