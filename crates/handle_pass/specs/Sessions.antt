-- What contracts see of a session, and what an entry of its own changes.
use Rattle.std.specs.Prelude.{◌≡◌, ℕ, ◌+◌, ◌<◌, List, [], ◌∷◌, ◌++◌, Option, length}
use mathlib.Core.List.{IsPrefix}
use Rattle.atomic_table.specs.Seated.{TableId}
use Rattle.iso_shared.specs.{declared.entry.Entry.Entry, declared.entry.Posting.Posting, declared.shared.Port.Port, declared.shared.Shared.Shared, declared.tx.Tx.Tx, Legal.IsLegal, Ports.{IsTxOf, port_view, tx_view}, States.Start, Turns.HasNoTurn}
use Rattle.turn_lock.specs.{Lists.{hit, times}, Lock.lock_id}

-- A transaction as its holder sees it: its number, its begin, its mode, and its accesses with their marks. It is what a look
-- tells of one under a label.
abbrev pub Own : Type 0
Own = Posting

-- what tells devices apart: the number of the device's lock
abbrev pub DeviceId : Type 0
DeviceId = TableId

-- A session: the device, the transaction and up to which commit it was compared ahead of its end, what is known of the list, the
-- places of the own entries, and the units.
pub record SessionState : Type 0 where
  pub device : DeviceId
  pub own : Option Own
  pub checked : ℕ
  pub seen : List Entry
  pub mine : List ℕ
  pub units : ℕ

-- how often a place is the session's own
abbrev pub count : SessionState → ℕ → ℕ
count s p = times p s.mine

module _ {D O : Type 0} where
  abbrev pub device_of : Shared D O → DeviceId
  device_of s = lock_id s.lock.lock

  -- a port of the device, and a transaction of it, between two calls
  abbrev pub IsPortAt : DeviceId → Port D O → Type 0
  IsPortAt d p = (p.pass.table_id ≡ d) × HasNoTurn p.pass × (0 < (port_view p).units)

  abbrev pub IsTxAt : DeviceId → Start → Tx D O → Type 0
  IsTxAt d A t = ((t.pass.table_id ≡ d) × HasNoTurn t.pass × (0 < (tx_view t).units)) × IsTxOf A t

-- The entry was made after all that had been seen, and has been seen then. It is legal there, and its place, which is above all
-- own places before, came to the own ones.
pub record Entered (A : Start) (old : List Entry) (mine : ℕ → ℕ) (e : Entry) (new : List Entry) (after : ℕ → ℕ) : Type 0 where
  pub before : List Entry
  pub told : IsPrefix old before
  pub known : IsPrefix (before ++ e ∷ []) new
  pub legal : IsLegal A (before ++ e ∷ [])
  pub above : (p : ℕ) → 0 < mine p → p < length before
  pub places : (p : ℕ) → after p ≡ mine p + hit (length before) p

-- the session made this entry, on its device and with its units
pub record Made (A : Start) (s t : SessionState) (e : Entry) : Type 0 where
  pub entered : Entered A s.seen (count s) e t.seen (count t)
  pub units : t.units ≡ s.units
  pub of : t.device ≡ s.device

-- the session made no entry, and knows what it knew
pub record Rested (s t : SessionState) : Type 0 where
  pub known : t.seen ≡ s.seen
  pub places : (p : ℕ) → count t p ≡ count s p
  pub units : t.units ≡ s.units
  pub of : t.device ≡ s.device

-- its transaction is as it was
pub record KeepsTx (s t : SessionState) : Type 0 where
  pub is : t.own ≡ s.own
  pub upto : t.checked ≡ s.checked
