-- The words of a core's calls: whose they are, and what they answer.
use Rattle.std.specs.Prelude.{◌≡◌, ◌≢◌, ◌⊎◌, ℕ, ◌≤◌, List, [], ◌∷◌, Option, Some, None, Result, Ok, Err, OnOk, IfErr, IsErrOf}
use Rattle.counts.specs.Count.{Rose}
use Rattle.conflict_rule.specs.{declared.decision.Checked.Checked, Decision.up_to}
use Rattle.iso_model.specs.{declared.access.EndReply.EndReply, declared.core_error.CoreError.CoreError, declared.core_reply.CoreReply.CoreReply, Conflict.clash, History.last, World.{World, Live}}
use Rattle.iso_model.specs.declared.access.EndReply.TheVariants as ended
use Rattle.iso_model.specs.declared.core_error.CoreError.TheVariants as error
use Rattle.iso_model.specs.declared.core_reply.CoreReply.TheVariants as reply
use Rattle.tx_table.specs.Work.{Doing}
use Rattle.iso_core.specs.{declared.kept.Kept.Kept, Kept.{IsOf, bare}}

-- one of the transactions is this one, but for accesses and places
abbrev pub IsAmong : Live → List Live → Type 0
IsAmong t [] = ⊥
IsAmong t (u ∷ live) = (bare u ≡ bare t) ⊎ IsAmong t live

-- this is the live transaction of that number, but for accesses and places
pub record IsTx (W : World) (tx : ℕ) (t : Live) : Type 0 where
  pub number : t.number ≡ tx
  pub among : IsAmong t W.live

-- what is kept is that of a world with this live transaction
pub record HasLive (kept : Kept) (tx : ℕ) : Type 0 where
  pub world : World
  pub t : Live
  pub of : IsOf kept world
  pub here : IsTx world tx t

-- the work is that of the transaction, on the image of the world
pub record IsWorkOf (W : World) (t : Live) (work : Doing) : Type 0 where
  pub begin : work.begin ≡ t.begin
  pub mode : work.mode ≡ t.mode
  pub size : work.size ≡ W.geometry.block
  pub blocks : work.blocks ≡ W.geometry.blocks
  pub accesses : work.accesses ≡ t.accesses

-- what was checked of the transaction: the commits up to a number from its begin on, and its clash with them
pub record IsCheckedOf (W : World) (t : Live) (checked : Checked) : Type 0 where
  pub from : t.begin ≤ checked.upto
  pub to : checked.upto ≤ last W.history
  pub clash : checked.clash ≡ clash W.geometry (up_to W.history checked.upto) t.mode t.begin t.accesses

-- the reply of the model that an error represents; being down, a fault of the disk and want of memory are none of its replies
abbrev pub refusal_of : CoreError → Option CoreReply
refusal_of error.Down = None
refusal_of error.TooManyTx = Some reply.TooManyTx
refusal_of (error.LogFull need free) = Some (reply.LogFull need free)
refusal_of error.Disk = None
refusal_of error.Memory = None
refusal_of (error.Worn at) = Some reply.Worn
refusal_of error.ModeFixed = Some reply.ModeFixed

-- the reply of the model that the end of a transaction represents
abbrev pub reply_of : EndReply → CoreReply
reply_of (ended.Committed number) = reply.Committed number
reply_of ended.ReadOnly = reply.ReadOnly
reply_of (ended.Conflict clash) = reply.Conflict clash

-- the end made a commit, or failed in making it
abbrev pub Writes : Result EndReply CoreError → Type 0
Writes (Ok (ended.Committed number)) = Unit {0}
Writes (Ok reply) = ⊥
Writes (Err error.Disk) = Unit {0}
Writes (Err e) = ⊥

-- the error is want of memory, or represents the model's reply
abbrev pub Refuses : CoreReply → CoreError → Type 0
Refuses answer e = (e ≡ error.Memory) ⊎ (refusal_of e ≡ Some answer)

-- the count of the disk's faults did not fall, a call that blames the disk raised it, and after any other answer it is what it was
pub record BlamesDisk {T : Type 0} (before now : ℕ) (result : Result T CoreError) : Type 0 where
  pub later : before ≤ now
  pub failed : IsErrOf result error.Disk → Rose before now
  pub passed : OnOk result (now ≡ before)
  pub other : IfErr result (λ e. e ≢ error.Disk → now ≡ before)
