-- When all commits at the own places of a session, a handed-on transaction or a port are of accounts; contracts of this crate cite them.
use Rattle.std.specs.{Prelude.{◌≡◌, ◌≢◌, ℕ, ◌+◌, ◌<◌, ◌≤◌, true, List, [], ◌∷◌, ◌++◌, Option, Some, None, IfSome, length}, List.AllByRecursion}
use mathlib.Core.List.{IsPrefix}
use Rattle.iso_model.specs.{declared.access.Mode.TheVariants.Serial, History.array_at, Worlds.IsWorld}
use Rattle.iso_shared.specs.{declared.entry.Entry.Entry, declared.shared.Port.Port, declared.shared.Shared.Shared, declared.tx.Tx.Tx, Groups.units_of, Legal.IsLegal, Ports.{IsPort, port_view, tx_view}, States.Start}
use Rattle.iso_shared.specs.declared.entry.Entry.TheVariants as entry
use Rattle.store_scripts.specs.EntriesInOrder.{world_at}
use Rattle.store_laws.specs.{Both.{AreMixed, firsts}, BothStores.StorePart, Calls.{KeyCall, StoreAnswer}, Parts.{accesses_in, answers_in, calls_in}}
use Rattle.store_model.specs.declared.stores.Region.{Region}
use Rattle.store_scripts.specs.Stores.{image_hash, image_tree}
use Rattle.turn_lock.specs.Lists.{times}
use Rattle.group_commit.specs.Groups.{found_in}
use Rattle.iso_core.specs.declared.group_end.TheConstants.{MAX_GROUP}
use Rattle.handle_pass.specs.{Held.{HandleState, held_state}, Sessions.{DeviceId, IsTxAt, Own, SessionState, count, device_of}}
use Rattle.accounts.specs.{Lists.IsOfAccountsAt, Made.IsTakenFor, Sums.Accounts, Transactions.IsOfAccounts, declared.half.Half.Half}

-- a start on a sound world in which no transaction is live
pub record BeginsIdle (A : Start) : Type 0 where
  pub sound : IsWorld A.world
  pub idle : A.world.live ≡ []

-- such a start, on an image with a hash store in this region
pub record HasStore (A : Start) (region : Region) : Type 0 where
  pub ready : BeginsIdle A
  pub some : A.world.geometry.hash ≢ 0
  pub start : region.start ≡ 0
  pub size : region.size ≡ A.world.geometry.hash

-- The entry at this place of the list makes commits of accounts alone, where the disk tells its bytes.
pub record StandsWell (accounts : Accounts) (A : Start) (E : List Entry) (p : ℕ) : Type 0 where
  pub before : List Entry
  pub e : Entry
  pub known : IsPrefix (before ++ e ∷ []) E
  pub place : length before ≡ p
  pub well : A.tells ≡ true → IsOfAccountsAt accounts A before e

-- so do the entries at all places that are counted
abbrev pub Covers : Accounts → Start → List Entry → (ℕ → ℕ) → Type 0
Covers accounts A E count = (p : ℕ) → 0 < count p → StandsWell accounts A E p

-- what is said of the calls that were made of a hash store, and of their answers
abbrev pub OfCalls : Type 1
OfCalls = List KeyCall → List StoreAnswer → Type 0

-- A transaction as its holder knows it, who has seen this list: it has begun there in serial mode, and its accesses are those of such
-- calls of the hash store.
pub record IsFilled (Is : OfCalls) (A : Start) (E : List Entry) (o : Own) : Type 0 where
  pub before : List Entry
  pub known : IsPrefix (before ++ entry.Begin o.number o.begin o.mode ∷ []) E
  pub legal : IsLegal A (before ++ entry.Begin o.number o.begin o.mode ∷ [])
  pub serial : o.mode ≡ Serial
  pub parts : List StorePart
  pub are : accesses_in (firsts parts) ≡ o.accesses
  pub made : AreMixed (image_hash A.world.geometry) (image_tree A.world.geometry) (array_at (world_at A before).history o.begin) parts
  pub is : Is (calls_in (firsts parts)) (answers_in (firsts parts))

-- the transaction, if there is one, is of such calls, where the disk tells its bytes
abbrev pub OwnFilled : OfCalls → Start → List Entry → Option Own → Type 0
OwnFilled Is A E own = A.tells ≡ true → (o : Own) → own ≡ Some o → IsFilled Is A E o

-- a session all of whose entries are of accounts, and whose transaction is of such calls
pub record HoldsCalls (accounts : Accounts) (Is : OfCalls) (A : Start) (s : SessionState) : Type 0 where
  pub covers : Covers accounts A s.seen (count s)
  pub filled : OwnFilled Is A s.seen s.own

-- a session all of whose entries are of accounts, without a transaction
pub record IsKept (accounts : Accounts) (A : Start) (s : SessionState) : Type 0 where
  pub covers : Covers accounts A s.seen (count s)
  pub none : s.own ≡ None

-- it is on the same device with the same units
pub record Stays (s t : SessionState) : Type 0 where
  pub of : t.device ≡ s.device
  pub units : t.units ≡ s.units

-- a session that may begin a transaction of accounts, for which it has a unit, in the hash store of this region
abbrev pub MayBegin : Accounts → Start → Region → SessionState → Type 0
MayBegin accounts A region s = IsKept accounts A s × (1 < s.units) × HasStore A region

-- one that may give away the members of a group and a half, and go on
abbrev pub MayGive : Accounts → Start → Region → SessionState → Type 0
MayGive accounts A region s = IsKept accounts A s × (MAX_GROUP + 2 < s.units) × HasStore A region

-- a session as before, behind transactions of accounts
abbrev pub KeepsOn : Accounts → Start → (s t : SessionState) → Type 0
KeepsOn accounts A s t = IsKept accounts A t × Stays s t

-- a session on the device as before, without a transaction, which has taken these units in
pub record Gains (accounts : Accounts) (A : Start) (s t : SessionState) (more : ℕ) : Type 0 where
  pub session : IsKept accounts A t
  pub of : t.device ≡ s.device
  pub units : t.units ≡ s.units + more

-- a transaction that was given away, as its holder knows it
pub record IsGiven (accounts : Accounts) (Is : OfCalls) (A : Start) (h : HandleState) : Type 0 where
  pub covers : Covers accounts A h.seen (λ p. times p h.mine)
  pub filled : OwnFilled Is A h.seen (Some h.own)

module _ {D O : Type 0} where
  -- a transaction of this device that may end as one of accounts, with one unit; and one that still wants one put
  pub record IsWhole (accounts : Accounts) (A : Start) (d : DeviceId) (t : Tx D O) : Type 0 where
    pub tx : IsTxAt d A t
    pub one : (tx_view t).units ≡ 1
    pub given : IsGiven accounts (IsOfAccounts accounts) A (held_state t)

  abbrev pub IsHalf : Accounts → Start → DeviceId → Half D O → Type 0
  IsHalf accounts A d h = (h.handle.device ≡ d) × IsGiven accounts (IsTakenFor h.to h.more) A h.handle

  abbrev pub half_units : Option (Half D O) → ℕ
  half_units None = 0
  half_units (Some h) = 1

  abbrev pub AreGiven : Accounts → Start → DeviceId → List (Option (Tx D O)) → Type 0
  AreGiven accounts A d members = AllByRecursion (λ m. IfSome m (IsWhole accounts A d)) members

  -- What a session has given away: these transactions, and a half, with units of its own, at most so many. All is of its device.
  pub record Gives (accounts : Accounts) (A : Start) (most : ℕ) (s t : SessionState) (members : List (Option (Tx D O))) (half : Option (Half D O)) : Type 0 where
    pub session : IsKept accounts A t
    pub of : t.device ≡ s.device
    pub left : s.units ≤ t.units + most
    pub units : t.units + units_of (found_in members) + half_units half ≡ s.units
    pub given : AreGiven accounts A s.device members
    pub taken : IfSome half (IsHalf accounts A s.device)

  -- the entries at a port's places are of accounts
  abbrev pub Hold : Accounts → Start → Port D O → Type 0
  Hold accounts A p = Covers accounts A (port_view p).seen (λ k. times k (port_view p).mine)

  -- a port of the device that is so
  abbrev pub IsKeptPort : Shared D O → Accounts → Start → Port D O → Type 0
  IsKeptPort shared accounts A p = IsPort shared p × Hold accounts A p

  -- and a session of the device
  abbrev pub IsKeptSession : Shared D O → Accounts → Start → SessionState → Type 0
  IsKeptSession shared accounts A s = IsKept accounts A s × (s.device ≡ device_of shared)
