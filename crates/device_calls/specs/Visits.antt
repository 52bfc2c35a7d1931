-- What a call on the transaction of a session did.
use Rattle.std.specs.Prelude.{ℕ, Bool, false, Option}
use Rattle.iso_shared.specs.{declared.entry.Cause.Cause, States.Start}
use Rattle.tx_blocks.specs.Tx.{Device, Tx}
use Rattle.handle_pass.specs.{Accesses.tx_on, Sessions.SessionState, Visits.{Failed, Visited, base_in}}

-- no fault of the disk was met, and the device is not known to be down
abbrev pub calm : Device
calm = record { faults = 0; is_down = false }

-- The session made the entries of one fetch for each read, in order, and where one was refused that one last. Its transaction went
-- as the call says, on what it is shown: the array at its begin, where the device tells its bytes. The device's counts are those of
-- this call.
pub record HasCalled (A : Start) (s t : SessionState) (Says : (t u : Tx) → (before now : Device) → Type 0) : Type 0 where
  pub refused : Option (ℕ × Cause)
  pub failures : ℕ
  pub is_down : Bool
  pub visited : Visited A s t refused
  pub failed : Failed refused failures is_down
  pub says : Says (tx_on A s (base_in A s)) (tx_on A t (base_in A s)) calm (record { faults = failures; is_down = is_down })
