-- What is between the steps of an end.
use Rattle.std.specs.{Prelude.{◌≡◌, ◌≢◌, ◌⊎◌, ℕ, ◌+◌, ◌<◌, ◌≤◌, true, List, [], ◌∷◌, ◌++◌, length, map, None, Result, OnOk, IfOk, IfErr, IsErrOf}, List.AllByRecursion}
use Rattle.byte_marks.specs.{declared.extent.Extent.Extent, Touched.AreTouched}
use Rattle.conflict_rule.specs.declared.decision.Checked.{Checked}
use Rattle.iso_disk.specs.Disk.{DiskState, IsSettled, LeavesOnly, StaysTold}
use Rattle.iso_image.specs.Half.{IsHeld, MayFollow, half_of_world, next_gate, with_records}
use Rattle.iso_log.specs.Extent.{Extent as LogExtent, extent_of}
use Rattle.iso_model.specs.{Between.ShowsEither, declared.access.EndReply.EndReply, declared.access.Geometry.Geometry, declared.core_error.CoreError.CoreError, declared.core_reply.CoreReply.CoreReply, declared.access.Kind.TheVariants.Write, declared.limits.TheConstants.{LAST, MAX_ACCESSES}, Conflict.clash, Effect.has_write, History.last, Image.{IsRecord, Written, records, written}, Premises.AreAccesses, Step.{after_commit, after_leaving, commit_from}, World.{World, Live}, Worlds.IsWorld}
use Rattle.iso_model.specs.declared.core_error.CoreError.TheVariants as error
use Rattle.iso_model.specs.declared.core_reply.CoreReply.TheVariants as reply
use Rattle.tx_table.specs.Work.{Doing}
use Rattle.version_read.specs.Parts.{HasRoom, part_of}
use Rattle.iso_core.specs.{declared.kept.Kept.Kept, Calls.{BlamesDisk, IsCheckedOf, IsTx, IsWorkOf, Refuses, Writes, reply_of}, Core.AreOf, Kept.{IsOf, SettlesOnly}, Standing.{down, up}}

-- the record that it becomes
abbrev pub written_of : World → Live → Written
written_of W t = written W.geometry (commit_from t)

-- the work is that of the transaction, whose accesses are such, and it is settled
pub record IsSettledOf (W : World) (t : Live) (work : Doing) : Type 0 where
  pub is_work : IsWorkOf W t work
  pub accesses : AreAccesses W.geometry t.accesses
  pub count : length t.accesses ≤ MAX_ACCESSES
  pub settled : work.settled ≡ true

-- the live transaction may be the next commit, where there is a number and room for it
pub record MayCommit (W : World) (tx : ℕ) (t : Live) (work : Doing) : Type 0 where
  pub here : IsTx W tx t
  pub settled : IsSettledOf W t work
  pub write : has_write t.accesses ≡ true
  pub none : clash W.geometry W.history t.mode t.begin t.accesses ≡ None

-- so in a core that is up
pub record HasNextCommit (d : DiskState) (kept : Kept) (tx : ℕ) (work : Doing) : Type 0 where
  pub world : World
  pub t : Live
  pub of : AreOf d kept world up
  pub may : MayCommit world tx t work

-- a core that is up may end this live transaction, of whose work so much was checked
pub record MayEnd (d : DiskState) (kept : Kept) (tx : ℕ) (work : Doing) (checked : Checked) : Type 0 where
  pub world : World
  pub t : Live
  pub of : AreOf d kept world up
  pub here : IsTx world tx t
  pub is_work : IsWorkOf world t work
  pub is : IsCheckedOf world t checked

-- these bytes are the records that follow the last commit of the world
pub record AreNextRecords (W : World) (more : List Written) (bytes : List ℕ) : Type 0 where
  pub some : 0 < length more
  pub each : AllByRecursion (IsRecord W.geometry) more
  pub numbers : last W.history + length more ≤ LAST
  pub bytes_are : bytes ≡ records W.geometry (last W.history + 1) more

-- the record of the transaction is spelled, and its parts are listed
pub record IsSpelled (W : World) (t : Live) (kept : Kept) : Type 0 where
  pub next : AreNextRecords W (written_of W t ∷ []) kept.buffer.records
  pub parts : kept.parts.items ≡ map part_of (written_of W t).parts

-- so of a transaction that may commit, and the log has room for the record and the next gate
pub record HasRecord (kept : Kept) (tx : ℕ) (work : Doing) : Type 0 where
  pub world : World
  pub t : Live
  pub of : IsOf kept world
  pub may : MayCommit world tx t work
  pub spelled : IsSpelled world t kept
  pub fits : kept.log.used + length kept.buffer.records + 1 ≤ kept.log.room

-- and all else that its commit wants is at hand: room for its versions and for its note, and what the note is to tell
pub record IsPrepared (W : World) (t : Live) (kept : Kept) (writes : List (ℕ × List Extent)) : Type 0 where
  pub spelled : IsSpelled W t kept
  pub room : HasRoom kept.parts.items kept.index
  pub note_room : length kept.notes.notes < kept.notes.room
  pub touched : AreTouched W.geometry.block W.geometry.blocks Write t.accesses writes

-- What is kept was that of the world with all that the commit wants, and then its record was appended at the gate.
pub record IsGrownBy (W : World) (tx : ℕ) (t : Live) (kept : Kept) (gate : ℕ) (writes : List (ℕ × List Extent)) : Type 0 where
  pub old_log : LogExtent
  pub was : IsOf (record kept { log = old_log }) W
  pub here : IsTx W tx t
  pub next : IsWorld (after_commit W t)
  pub prepared : IsPrepared W t kept writes
  pub follows : MayFollow W.geometry (half_of_world W kept.half) (written_of W t ∷ [])
  pub log : kept.log ≡ extent_of W.geometry (with_records (written_of W t ∷ []) (half_of_world W kept.half))
  pub gate_is : gate ≡ next_gate W.geometry (half_of_world W kept.half)

-- so of some world, and a live transaction
pub record HasGrown (tx : ℕ) (kept : Kept) (gate : ℕ) (writes : List (ℕ × List Extent)) : Type 0 where
  pub world : World
  pub t : Live
  pub is : IsGrownBy world tx t kept gate writes

-- the bytes are the next records of a core that is up, with a closed gate after them, and fit its log
pub record MayAppend (d : DiskState) (log : LogExtent) (kept : Kept) (W : World) (more : List Written) (bytes : List ℕ) : Type 0 where
  pub of : AreOf d kept W up
  pub log_is : log ≡ kept.log
  pub all : List ℕ
  pub next : AreNextRecords W more all
  pub bytes_are : bytes ≡ all ++ 0 ∷ []
  pub fits : log.used + length bytes ≤ log.room

-- so of some core
pub record HasNextRecords (d : DiskState) (log : LogExtent) (bytes : List ℕ) : Type 0 where
  pub kept : Kept
  pub world : World
  pub more : List Written
  pub may : MayAppend d log kept world more bytes

-- at each moment an image has all of the records or none; once they are there, this is the log, and the place of the first gate
pub record Appends {E : Type 0} (old new : DiskState) (log : LogExtent) (half : ℕ) (W : World) (more : List Written) (result : Result ℕ E) : Type 0 where
  pub moments : LeavesOnly old new (λ c. IsHeld W.geometry (half_of_world W half) c ⊎ IsHeld W.geometry (with_records more (half_of_world W half)) c)
  pub held : OnOk result ((c : List ℕ) → new.now c → IsHeld W.geometry (with_records more (half_of_world W half)) c)
  pub settled : OnOk result (IsSettled new)
  pub told : OnOk result (StaysTold old new)
  pub grown : OnOk result (log ≡ extent_of W.geometry (with_records more (half_of_world W half)))
  pub gate : IfOk result (λ gate. gate ≡ next_gate W.geometry (half_of_world W half))

-- The end goes as this step of the model: so the reply, a refusal, and the world. At each moment an image shows the history
-- before or after. A fault of the disk takes the core down, and the transaction with it, whose commit is made or not.
pub record EndsAs (W : World) (t : Live) (step : CoreReply × World) (old new : DiskState) (kept : Kept) (result : Result EndReply CoreError) : Type 0 where
  pub ended : IfOk result (λ r. (step.0 ≡ reply_of r) × AreOf new kept step.1 up)
  pub refused : IfErr result (λ e. (e ≡ error.Disk) ⊎ Refuses step.0 e)
  pub lost : IsErrOf result error.Disk → (step.0 ≡ reply.Committed (last W.history + 1)) × AreOf new kept (after_leaving W t) (down (commit_from t ∷ []))
  pub moments : LeavesOnly old new (ShowsEither W step.1)

-- what an end does to the disk: it writes for a commit alone, and no other error blames it
pub record EndsOn {D : Type 0} (state : D → DiskState) (old new : D) (result : Result EndReply CoreError) : Type 0 where
  pub last : (at : ℕ) → IsErrOf result (error.Worn at) → at ≡ LAST
  pub unwritten : Writes result ⊎ (new ≡ old)
  pub told : OnOk result (StaysTold (state old) (state new))
  pub cause : BlamesDisk (state old).faults (state new).faults result

-- after any error but a fault of the disk the core is as before
abbrev pub StaysUp : {T : Type 0} → (old new : DiskState) → (before now : Kept) → Result T CoreError → Type 0
StaysUp old new before now result = (W : World) → AreOf old before W up → IfErr result (λ e. e ≢ error.Disk → AreOf new now W up)

-- whatever the end: so much of the core, and of the work and the disk
pub record EndsWith {D : Type 0} (state : D → DiskState) (old new : D) (before now : Kept) (was is : Doing) (result : Result EndReply CoreError) : Type 0 where
  pub same : StaysUp (state old) (state new) before now result
  pub work : SettlesOnly was is
  pub disk : EndsOn state old new result

-- the transaction is the next commit of the world, which has this geometry, and this is its number
pub record IsNextCommit (U : World) (tx : ℕ) (t : Live) (g : Geometry) (work : Doing) (number : ℕ) : Type 0 where
  pub geometry : g ≡ U.geometry
  pub world : IsWorld U
  pub may : MayCommit U tx t work
  pub number_is : number ≡ last U.history + 1
  pub fresh : last U.history < LAST

-- so of some world
pub record IsNextSpelled (g : Geometry) (work : Doing) (number : ℕ) : Type 0 where
  pub world : World
  pub tx : ℕ
  pub t : Live
  pub next : IsNextCommit world tx t g work number
