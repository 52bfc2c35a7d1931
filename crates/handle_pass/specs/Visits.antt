-- A session while calls are made on its transaction: what was fetched since the first of them, and what it saw.
use Rattle.std.specs.{Prelude.{◌≡◌, ℕ, ◌<◌, ◌≤◌, Bool, true, false, cond, List, [], ◌∷◌, ◌++◌, Option, Some, None, IfSome, map, option_map, slice_index}, List.{AllByRecursion, range_with_len}, Option.ForSome}
use Rattle.iso_model.specs.{declared.access.Access.Access, declared.access.Geometry.Geometry, Array.Array, Effect.is_write, History.{array_at, last}, Premises.block_at}
use Rattle.iso_shared.specs.declared.entry.Call.TheVariants as call
use Rattle.iso_shared.specs.{declared.entry.Cause.Cause, declared.entry.Entry.Entry, States.{Start, state_at}}
use Rattle.iso_shared.specs.declared.entry.Cause.TheVariants as cause
use Rattle.iso_shared.specs.declared.entry.Entry.TheVariants as entry
use Rattle.tx_blocks.specs.Tx.{Device, Tx, IsTx as AreLimits}
use Rattle.handle_pass.specs.{Accesses.{accesses_of, tx_on}, Logs.{AreNext, Moves}, Sessions.{Own, SessionState, count}}

-- the blocks of the geometry, each with the array's bytes: the array itself, where it has that shape
abbrev pub shaped : Geometry → Array → Array
shaped g A = map (λ b. map (λ p. slice_index (block_at A b) p) (range_with_len 0 g.block)) (range_with_len 0 g.blocks)

-- the blocks of the reads, in order
abbrev pub blocks_read : List Access → List ℕ
blocks_read [] = []
blocks_read (a ∷ accesses) = cond (is_write a) (blocks_read accesses) (a.block ∷ blocks_read accesses)

-- the number of the session's transaction, 0 without one
abbrev pub number_in : Option Own → ℕ
number_in None = 0
number_in (Some o) = o.number

-- blocks with the bytes that were fetched of them, in order
abbrev pub Fetched : Type 0
Fetched = List (ℕ × List ℕ)

-- the entries of these fetches by the transaction, and of one more that was refused, if one was
abbrev pub fetches : (number : ℕ) → Fetched → List Entry
fetches n fetched = map (λ f. entry.Fetch n f.0 f.1) fetched

abbrev pub refusals : (number : ℕ) → Option (ℕ × Cause) → List Entry
refusals n None = []
refusals n (Some refused) = entry.Refused (call.Fetch n refused.0) refused.1 ∷ []

-- How often the disk has failed, and whether the device was down, by what refused a fetch, if anything did: there is no other cause.
abbrev pub Failed : Option (ℕ × Cause) → (failures : ℕ) → (is_down : Bool) → Type 0
Failed None failures is_down = (failures ≡ 0) × (is_down ≡ false)
Failed (Some (b, cause.Down)) failures is_down = (failures ≡ 0) × (is_down ≡ true)
Failed (Some (b, cause.Disk before now)) failures is_down = (0 < failures) × (is_down ≡ false)
Failed (Some (b, why)) failures is_down = ⊥

-- what a store sees of the session's transaction and of the device
pub record Seen : Type 0 where
  pub tx : Tx
  pub device : Device

-- the transaction is the same but for its accesses
abbrev pub with_list : List Access → Own → Own
with_list accesses o = record o { accesses = accesses }

abbrev pub KeepsOwn : (before now : Option Own) → Type 0
KeepsOwn before now = now ≡ option_map (with_list (accesses_of now)) before

-- a list in which a transaction with this begin has begun
pub record HasBegin (A : Start) (es : List Entry) (begin : ℕ) : Type 0 where
  pub first : 0 < (state_at A es).world.history.first
  pub within : begin ≤ last (state_at A es).world.history

-- what the session has seen has the begin of its transaction
abbrev pub HasItsBegin : Start → SessionState → Type 0
HasItsBegin A s = IfSome s.own (λ o. HasBegin A s.seen o.begin)

-- the array at the begin of the session's transaction, by what the session has seen
abbrev pub begin_array : Start → SessionState → Option Array
begin_array A s = option_map (λ o. shaped A.world.geometry (array_at (state_at A s.seen).world.history o.begin)) s.own

-- the same, where the disk tells its bytes
abbrev pub base_in : Start → SessionState → Option Array
base_in A s = cond A.tells (begin_array A s) None

abbrev pub base_of : Start → Option SessionState → Option Array
base_of A None = None
base_of A (Some s) = base_in A s

abbrev pub seen_by : Start → (before : Option SessionState) → (now : SessionState) → (failures : ℕ) → (is_down : Bool) → Seen
seen_by A before now failures is_down = record { tx = tx_on A now (base_of A before); device = record { faults = failures; is_down = is_down } }

-- From the one state to the other the session made these fetches, one for each read that came, and where one was refused that one
-- last. Its transaction has further accesses, and is else the same.
pub record Visited (A : Start) (s t : SessionState) (refused : Option (ℕ × Cause)) : Type 0 where
  pub fetched : Fetched
  pub moves : Moves s t (fetches (number_in s.own) fetched ++ refusals (number_in s.own) refused)
  pub next : AreNext A s.seen (count s) (fetches (number_in s.own) fetched ++ refusals (number_in s.own) refused) t.seen (count t)
  pub keeps : KeepsOwn s.own t.own
  pub reads : blocks_read (accesses_of t.own) ≡ blocks_read (accesses_of s.own) ++ map (λ f. f.0) fetched
  pub told : ForSome (base_in A s) (λ B. AllByRecursion (λ f. f.1 ≡ block_at B f.0) fetched)
  pub of : t.device ≡ s.device

-- the session during calls on its transaction; `before` is what it was at the first of them
pub record IsVisit (A : Start) (before : Option SessionState) (now : SessionState) (failures : ℕ) (is_down : Bool) : Type 0 where
  pub was : SessionState
  pub is : before ≡ Some was
  pub begun : HasItsBegin A was
  pub refused : Option (ℕ × Cause)
  pub made : Visited A was now refused
  pub failed : Failed refused failures is_down
  pub limits : AreLimits (tx_on A now (base_of A before))
