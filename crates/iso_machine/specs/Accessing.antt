-- What an access or a mark of one transaction is answered, and what its work is then.
use Rattle.std.specs.Prelude.{◌≡◌, ◌∷◌, ◌++◌, [], ◌+◌, ◌<◌, ◌≤◌, ℕ, Bool, false, List, Result, Some, None, Ok, Err, IfOk, IsErrOf, OnErr, OnOk, drop, length, take}
use Rattle.counts.specs.Count.{HasCause}
use Rattle.iso_disk.specs.Disk.{DiskState, WritesNothing}
use Rattle.script_model.specs.{declared.script.Op.Op, declared.script.Op.TheVariants.{Put, Read, Get, Write, Fill, Mark}, declared.script.Reply.Reply, Step.{fill_step, get_step, mark_step, put_step, read_step, write_step}, declared.stop.Stop.Stop}
use Rattle.script_model.specs.declared.script.Reply.TheVariants as reply
use Rattle.iso_model.specs.{declared.access.Access.Access, declared.memory.Memory.Memory, Step.{shown_to, with_accesses}, World.{World, Live, attached, with}}
use Rattle.tx_table.specs.Work.{Doing}
use Rattle.iso_core.specs.{declared.core_itself.Core.Core, Calls.{IsTx, IsWorkOf}, Core.{StandsFor, disk_of}, Standing.up}
use Rattle.script_model.specs.declared.stop.Stop.TheVariants as stop
use Rattle.script_runner.specs.{Counts.BlamesDisk, Told.{IfTold, SameButShown}}
use Rattle.iso_machine.specs.{declared.attached.Attached.Attached, Standing.live_of}

-- an access or a mark of the transaction
abbrev pub act_step : World → Live → Op → Reply × World
act_step W t (Put block off bytes) = put_step W t block off bytes
act_step W t (Read block) = read_step W t block
act_step W t (Get block off len) = get_step W t block off len
act_step W t (Write block bytes) = write_step W t block bytes
act_step W t (Fill block bytes) = fill_step W t block bytes
act_step W t (Mark off len) = mark_step W t off len
act_step W t op = (reply.NotInTx, W)

-- the work is that of the transaction, and it is that of the world with its number
pub record IsActive (W : World) (t : Live) (work : Doing) : Type 0 where
  pub is_work : IsWorkOf W t work
  pub here : with t W.live ≡ W.live

-- it is the transaction of the client, live in the world with what its work has
pub record IsHere (W : World) (client : ℕ) (a : Attached) : Type 0 where
  pub here : attached W client ≡ Some (live_of a)
  pub tx : IsTx W a.tx (live_of a)
  pub active : IsActive W (live_of a) a.work.value

-- the world that is given is the one in which the transaction has the accesses of the work
pub record IsWorkedTo (W : World) (t : Live) (given : World) (work : Doing) : Type 0 where
  pub world : given ≡ with_accesses W t work.accesses
  pub is_work : IsWorkOf W (record t { accesses = work.accesses }) work

-- the reply and the world are those that are given
pub record IsGiven (W : World) (t : Live) (given : Reply × World) (work : Doing) (r : Reply) : Type 0 where
  pub reply : r ≡ given.0
  pub worked : IsWorkedTo W t given.1 work

-- so, but for bytes that are shown and that the disk does not tell
pub record IsShown (d : DiskState) (W : World) (t : Live) (given : Reply × World) (work : Doing) (r : Reply) : Type 0 where
  pub reply : IfTold d (r ≡ given.0)
  pub but_shown : SameButShown r given.0
  pub worked : IsWorkedTo W t given.1 work

-- the transaction of this number and work is live in a world that the core represents
abbrev pub IsWorkIn : {D : Type 0} → (state : D → DiskState) → Core D → (tx : ℕ) → Doing → Type 0
IsWorkIn state core tx work = (W : World) × (t : Live) × StandsFor state core W up × IsTx W tx t × IsWorkOf W t work

abbrev pub IsActiveIn : {D : Type 0} → (state : D → DiskState) → Core D → (tx : ℕ) → Doing → Type 0
IsActiveIn state core tx work = (W : World) × (t : Live) × StandsFor state core W up × IsTx W tx t × IsActive W t work

-- its block is inside, it is right, and there may be one more
abbrev pub IsAllowed : Doing → (block : ℕ) → (is_wrong : Bool) → Type 0
IsAllowed work block is_wrong = (block < work.blocks) × (is_wrong ≡ false) × (length work.accesses < 4096)

-- An access of the work alone is answered as a step of the model. Without memory nothing is accessed.
pub record Accesses (old new : Doing) (step : World → Live → Reply × World) (result : Result Reply Memory) : Type 0 where
  pub given : (W : World) (t : Live) → IsActive W t old → IfOk result (IsGiven W t (step W t) new)
  pub kept : OnErr result (new ≡ record old { ready = new.ready })

-- So is a call on a transaction of a core, of which nothing is written.
pub record Acts {D : Type 0} (state : D → DiskState) (before after : Core D) (tx : ℕ) (old new : Doing) (step : World → Live → Reply × World) (result : Result Reply Stop) : Type 0 where
  pub given : (W : World) (t : Live) → StandsFor state before W up → IsTx W tx t → IsActive W t old → IfOk result (IsShown (state (disk_of before)) W t (step W t) new)
  pub kept : OnErr result (new ≡ record old { ready = new.ready })
  pub same : (W : World) → StandsFor state before W up → StandsFor state after W up
  pub unwritten : WritesNothing (state (disk_of before)) (state (disk_of after))
  pub up : ¬ IsErrOf result stop.Down
  pub cause : BlamesDisk (state (disk_of before)).faults (state (disk_of after)).faults result

-- memory is ready for a read of `len` bytes of a block from `off` on, and a slice for the block
pub record MayRead (work : Doing) (block off len size : ℕ) : Type 0 where
  pub ready : work.ready ≡ Some block
  pub inside : block < work.blocks
  pub room : length work.accesses < 4096
  pub bytes : size ≡ work.size
  pub fits : off + len ≤ size

-- the bytes are in their place in the slice as the transaction is shown them, and the work has the access
pub record Reads {D R E : Type 0} (state : D → DiskState) (before after : Core D) (tx : ℕ) (old new : Doing) (block off len : ℕ) (access : Access) (slice into : List ℕ) (result : Result R E) : Type 0 where
  pub shown : (W : World) (t : Live) → StandsFor state before W up → IsTx W tx t → IsWorkOf W t old
      → OnOk result (IfTold (state (disk_of before)) (take len (drop off into) ≡ take len (drop off (shown_to W t block))))
  pub work : OnOk result (new ≡ record old { accesses = old.accesses ++ access ∷ []; ready = None; settled = false })
  pub kept : OnErr result (new ≡ record old { ready = new.ready })
  pub same : (W : World) → StandsFor state before W up → StandsFor state after W up
  pub long : length into ≡ length slice
  pub unwritten : WritesNothing (state (disk_of before)) (state (disk_of after))
  pub cause : HasCause (state (disk_of before)).faults (state (disk_of after)).faults result

-- a reply, where there was memory for it
abbrev pub or_stop : Result Reply Memory → Result Reply Stop
or_stop (Ok r) = Ok r
or_stop (Err e) = Err stop.Memory

-- why an access is refused
abbrev pub IsRefusal : Reply → Type 0
IsRefusal reply.BadBlock = Unit {0}
IsRefusal reply.BadRange = Unit {0}
IsRefusal reply.TooManyAccesses = Unit {0}
IsRefusal r = ⊥

-- The answer of a read into a slice: where it is done the slice has what is shown.
abbrev pub bytes_shown : Reply → (into : List ℕ) → Reply
bytes_shown reply.Done into = reply.Shown into
bytes_shown r into = r

abbrev pub with_bytes : Result Reply Stop → (into : List ℕ) → Result Reply Stop
with_bytes (Ok r) into = Ok (bytes_shown r into)
with_bytes (Err why) into = Err why

-- what a read into a slice shows where it is not refused
abbrev pub as_shown : {T : Type 0} → Result T Stop → (into : List ℕ) → Result Reply Stop
as_shown (Ok x) into = Ok (reply.Shown into)
as_shown (Err why) into = Err why

-- the slice stays as it was else
abbrev pub IsFilled : Result Reply Stop → (old new : List ℕ) → Type 0
IsFilled (Ok reply.Done) old new = length new ≡ length old
IsFilled (Ok (reply.Shown bytes)) old new = ⊥
IsFilled answer old new = new ≡ old
