-- What contracts see of a transaction over blocks, and when its calls are refused.
use Rattle.std.specs.{Prelude.{◌≡◌, ℕ, ◌-◌, ◌<◌, ◌≤◌, Bool, not, if◌then◌else◌, IsTrue, List, ◌++◌, Option, Some, None, Result, Err, IfErr, nat_le, length, drop, option_map}, Option.ForSome}
use Rattle.counts.specs.Count.{Rose}
use Rattle.iso_model.specs.{declared.access.Access.Access, declared.access.MarkError.MarkError, Array.Array, Marks.mark_fault, Premises.block_at}
use Rattle.iso_model.specs.declared.access.MarkError.TheVariants as mark
use Rattle.store_model.specs.declared.stores.TxError.{TxError}
use Rattle.store_model.specs.declared.stores.TxError.TheVariants as error

-- A transaction: the bytes of a block, how many blocks there are, the array at its begin where that is told, its accesses in
-- order, and whether there is one.
pub record Tx : Type 0 where
  pub size : ℕ
  pub blocks : ℕ
  pub base : Option Array
  pub accesses : List Access
  pub is_open : Bool

-- the disk below it: how often it has failed, and whether it is down
pub record Device : Type 0 where
  pub faults : ℕ
  pub is_down : Bool

-- the transaction with further accesses
abbrev pub with_accesses : Tx → List Access → Tx
with_accesses t accesses = record t { accesses = t.accesses ++ accesses }

-- the accesses that came to it
abbrev pub added : Tx → Tx → List Access
added t u = drop (length t.accesses) u.accesses

-- how many more accesses it may have
abbrev pub room_of : Tx → ℕ
room_of t = 4096 - length t.accesses

-- an array of the transaction's blocks
pub record IsArrayOf (t : Tx) (A : Array) : Type 0 where
  pub blocks : length A ≡ t.blocks
  pub bytes : (b : ℕ) → b < t.blocks → length (block_at A b) ≡ t.size

-- a transaction whose numbers keep their limits
pub record IsTx (t : Tx) : Type 0 where
  pub least : 64 ≤ t.size
  pub most : t.size ≤ 4096
  pub few : t.blocks < 4294967296
  pub base : ForSome t.base (IsArrayOf t)
  pub count : length t.accesses ≤ 4096

-- the disk at a later moment: the count of faults does not fall, and what is down stays down
pub record IsLater (before now : Device) : Type 0 where
  pub faults : before.faults ≤ now.faults
  pub down : IsTrue before.is_down → IsTrue now.is_down

-- why an access to a block is refused, if it is
abbrev pub access_refusal : Tx → (block : ℕ) → Option TxError
access_refusal t block =
    if not t.is_open then Some error.NotInTx
    else if nat_le t.blocks block then Some error.BadBlock
    else if nat_le 4096 (length t.accesses) then Some error.TooManyAccesses
    else None

abbrev pub marking : MarkError → TxError
marking mark.BadRange = error.BadRange
marking mark.NoAccess = error.NoAccess
marking mark.TooManyMarks = error.TooManyMarks

-- why a mark is refused, if it is
abbrev pub mark_refusal : Tx → (off len : ℕ) → Option TxError
mark_refusal t off len = if not t.is_open then Some error.NotInTx else option_map marking (mark_fault t.size off len t.accesses)

-- a cause that a call's own tests do not give: want of memory, and then the disk did not fail in the call, a disk that is down, or
-- a fault that came in the call
abbrev pub IsFree : (before now : Device) → TxError → Type 0
IsFree before now error.Memory = now.faults ≡ before.faults
IsFree before now error.Down = IsTrue now.is_down
IsFree before now error.Disk = Rose before.faults now.faults
IsFree before now error.BadBlock = ⊥
IsFree before now error.BadRange = ⊥
IsFree before now error.NoAccess = ⊥
IsFree before now error.TooManyMarks = ⊥
IsFree before now error.TooManyAccesses = ⊥
IsFree before now error.NotInTx = ⊥

-- a call is refused exactly where its tests say so, and else for a free cause alone
abbrev pub IsRefused : {T : Type 0} → Option TxError → (TxError → Type 0) → Result T TxError → Type 0
IsRefused (Some e) free result = result ≡ Err e
IsRefused None free result = IfErr result free
