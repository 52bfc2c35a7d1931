-- How the reads, writes and marks of a session end.
use Rattle.std.specs.Prelude.{◌≡◌, ℕ, ◌⊎◌, true, List, [], ◌∷◌, ◌++◌, Option, Some, None, Result, Ok, Err, is_some}
use Rattle.iso_model.specs.{declared.access.Access.Access, Array.Array, History.array_at, Marks.marked, Premises.block_at, Step.{read_access, write_access}}
use Rattle.store_model.specs.declared.stores.TxError.{TxError}
use Rattle.store_model.specs.declared.stores.TxError.TheVariants as error
use Rattle.iso_model.specs.Effect as effect
use Rattle.iso_shared.specs.declared.entry.Call.TheVariants as call
use Rattle.iso_shared.specs.declared.entry.Cause.TheVariants as cause
use Rattle.iso_shared.specs.declared.entry.Entry.TheVariants as entry
use Rattle.iso_shared.specs.States.{Start, state_at}
use Rattle.tx_blocks.specs.Tx.{Tx, access_refusal, mark_refusal}
use Rattle.tx_table.specs.Work.{span_at}
use Rattle.handle_pass.specs.Sessions.{Own, SessionState, Made, Rested}

abbrev pub accesses_of : Option Own → List Access
accesses_of None = []
accesses_of (Some o) = o.accesses

abbrev pub with_access : Own → Access → Own
with_access o a = record o { accesses = o.accesses ++ a ∷ [] }

abbrev pub with_mark : Own → (off len : ℕ) → Own
with_mark o off len = record o { accesses = marked (span_at off len) o.accesses }

-- a read may further be refused so, and a write
abbrev pub IsReadCause : TxError → Type 0
IsReadCause e = (e ≡ error.Memory) ⊎ (e ≡ error.Down) ⊎ (e ≡ error.Disk)

abbrev pub IsWriteCause : TxError → Type 0
IsWriteCause e = e ≡ error.Memory

-- the session's transaction on blocks of the device, whose array is not told here
abbrev pub tx_on : Start → SessionState → Option (Array) → Tx
tx_on A s base = record { size = A.world.geometry.block; blocks = A.world.geometry.blocks; base = base; accesses = accesses_of s.own; is_open = is_some s.own }

-- why an access to a block is refused, and why a mark, by the session's own state
abbrev pub access_answer : Start → SessionState → (block : ℕ) → Option TxError
access_answer A s block = access_refusal (tx_on A s None) block

abbrev pub mark_answer : Start → SessionState → (off len : ℕ) → Option TxError
mark_answer A s off len = mark_refusal (tx_on A s None) off len

-- The bytes that were fetched are the block's at the transaction's begin, where the disk tells them at that place of the list,
-- and what was read is these with the own writes over them.
pub record Shows (A : Start) (o : Own) (block : ℕ) (s t : SessionState) (bytes into : List ℕ) : Type 0 where
  pub made : Made A s t (entry.Fetch o.number block bytes)
  pub base : (state_at A made.entered.before).tells ≡ true → bytes ≡ block_at (array_at (state_at A made.entered.before).world.history o.begin) block
  pub laid : (B : Array) → block_at B block ≡ bytes → into ≡ block_at (effect.own B o.accesses) block

abbrev pub HasRead : (A : Start) → SessionState → (block : ℕ) → Result (Unit {0}) TxError → (into : List ℕ) → SessionState → Type 0
HasRead A s block (Ok done) into t =
    (o : Own) × (s.own ≡ Some o) × (t.own ≡ Some (with_access o (read_access block))) × (bytes : List ℕ) × Shows A o block s t bytes into
HasRead A s block (Err error.Down) into t =
    (o : Own) × (s.own ≡ Some o) × (t.own ≡ Some o) × Made A s t (entry.Refused (call.Fetch o.number block) cause.Down)
HasRead A s block (Err error.Disk) into t =
    (o : Own) × (s.own ≡ Some o) × (t.own ≡ Some o) × (before : ℕ) × (now : ℕ) × Made A s t (entry.Refused (call.Fetch o.number block) (cause.Disk before now))
HasRead A s block (Err error.BadBlock) into t = t ≡ s
HasRead A s block (Err error.BadRange) into t = t ≡ s
HasRead A s block (Err error.NoAccess) into t = t ≡ s
HasRead A s block (Err error.TooManyMarks) into t = t ≡ s
HasRead A s block (Err error.TooManyAccesses) into t = t ≡ s
HasRead A s block (Err error.Memory) into t = t ≡ s
HasRead A s block (Err error.NotInTx) into t = t ≡ s

-- a write of the session: its transaction has this access more
abbrev pub HasAdded : SessionState → Access → Result (Unit {0}) TxError → SessionState → Type 0
HasAdded s a (Ok done) t = (o : Own) × (s.own ≡ Some o) × (t.own ≡ Some (with_access o a)) × Rested s t
HasAdded s a (Err e) t = t ≡ s

abbrev pub HasWritten : SessionState → (block : ℕ) → (bytes : List ℕ) → Result (Unit {0}) TxError → SessionState → Type 0
HasWritten s block bytes r t = HasAdded s (write_access block bytes) r t

abbrev pub HasMarked : SessionState → (off len : ℕ) → Result (Unit {0}) TxError → SessionState → Type 0
HasMarked s off len (Ok done) t = (o : Own) × (s.own ≡ Some o) × (t.own ≡ Some (with_mark o off len)) × Rested s t
HasMarked s off len (Err e) t = t ≡ s
