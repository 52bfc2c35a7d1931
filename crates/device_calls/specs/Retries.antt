-- What an end makes of a session that begins again after a conflict.
use Rattle.std.specs.Prelude.{◌≢◌, ℕ, Option, Result, Ok, Err}
use Rattle.iso_model.specs.{declared.access.Clash.Clash, declared.access.EndReply.TheVariants.Conflict, declared.access.Mode.Mode}
use Rattle.iso_shared.specs.States.{Start}
use Rattle.handle_pass.specs.{declared.errors.BeginError.BeginError, Calls.{HasBegun, HasEnded}, Sessions.SessionState}
use Rattle.device_calls.specs.{declared.retry.Retry.Retry, declared.retry.RetryError.RetryError}
use Rattle.device_calls.specs.declared.retry.Retry.TheVariants as retry
use Rattle.device_calls.specs.declared.retry.RetryError.TheVariants as error

module _ (A : Start) where
  -- the transaction met a conflict, and a begin was made after its end
  pub record Conflicted (s : SessionState) (mode : Option Mode) (r : Result ℕ BeginError) (t : SessionState) : Type 0 where
    pub between : SessionState
    pub clash : Clash
    pub taken : ℕ
    pub ended : HasEnded A s 0 (Ok (Conflict clash)) between taken
    pub begun : HasBegun A between mode r t

  abbrev pub HasRetried : SessionState → Option Mode → Result Retry RetryError → SessionState → Type 0
  HasRetried s mode (Ok (retry.Ended reply)) t = ((clash : Clash) → reply ≢ Conflict clash) × (taken : ℕ) × HasEnded A s 0 (Ok reply) t taken
  HasRetried s mode (Ok (retry.Begun at)) t = Conflicted s mode (Ok at) t
  HasRetried s mode (Err (error.End e)) t = (taken : ℕ) × HasEnded A s 0 (Err e) t taken
  HasRetried s mode (Err (error.Begin e)) t = Conflicted s mode (Err e) t
