-- What one call on a session's transaction makes of what is seen of it.
use Rattle.std.specs.{Prelude.{◌≡◌, ◌≢◌, ℕ, ◌||◌, Bool, true, false, List, [], ◌∷◌, Result, Ok, Err, OnOk, OnErr, nat_lt}, Option.ForSome}
use Rattle.store_model.specs.{declared.stores.TxError.TxError, Stores.{look_access, store_access}}
use Rattle.store_model.specs.declared.stores.TxError.TheVariants as error
use Rattle.iso_model.specs.{Effect.own, Marks.marked, Premises.block_at}
use Rattle.tx_blocks.specs.{Tx.{Device, IsFree, IsLater, IsRefused, IsTx, access_refusal, mark_refusal, with_accesses}, Runs.Passed}
use Rattle.handle_pass.specs.Visits.{Seen}

-- whether a fetch was refused
abbrev pub failed_in : Device → Bool
failed_in d = d.is_down || nat_lt 0 d.faults

-- how often the disk failed in the first read that ended so, and whether it found the device down
abbrev pub failures_in : Result (Unit {0}) TxError → ℕ
failures_in (Ok done) = 0
failures_in (Err error.Disk) = 1
failures_in (Err e) = 0

abbrev pub down_in : Result (Unit {0}) TxError → Bool
down_in (Ok done) = false
down_in (Err error.Down) = true
down_in (Err e) = false

-- a read of a block
pub record Looked (old new : Seen) (block : ℕ) (result : Result (Unit {0}) TxError) (into : List ℕ) : Type 0 where
  pub bytes : OnOk result (ForSome old.tx.base (λ A. into ≡ block_at (own A old.tx.accesses) block))
  pub read : OnOk result (new.tx ≡ with_accesses old.tx (look_access block [] ∷ []))
  pub kept : OnErr result (new.tx ≡ old.tx)
  pub cause : IsRefused (access_refusal old.tx block) (IsFree old.device new.device) result
  pub later : IsLater old.device new.device
  pub passed : result ≢ Err error.Disk → Passed old.device new.device
  pub limits : IsTx new.tx

-- one that is refused
pub record Unlooked (old new : Seen) (block : ℕ) (result : Result (Unit {0}) TxError) : Type 0 where
  pub fails : (into : List ℕ) → Looked old new block result into

-- a write of a block
pub record Wrote (old new : Seen) (block : ℕ) (bytes : List ℕ) (result : Result (Unit {0}) TxError) : Type 0 where
  pub written : OnOk result (new.tx ≡ with_accesses old.tx (store_access block [] bytes ∷ []))
  pub kept : OnErr result (new.tx ≡ old.tx)
  pub cause : IsRefused (access_refusal old.tx block) (λ e. e ≡ error.Memory) result
  pub device : new.device ≡ old.device
  pub limits : IsTx new.tx

-- a mark on the last access
pub record Marked (old new : Seen) (off len : ℕ) (result : Result (Unit {0}) TxError) : Type 0 where
  pub marked : OnOk result (new.tx ≡ record old.tx { accesses = marked (record { off = off; len = len }) old.tx.accesses })
  pub kept : OnErr result (new.tx ≡ old.tx)
  pub cause : IsRefused (mark_refusal old.tx off len) (λ e. ⊥) result
  pub device : new.device ≡ old.device
  pub limits : IsTx new.tx
