-- What is between the steps of a group.
use Rattle.std.specs.{Prelude.{◌≡◌, ◌≢◌, ℕ, ◌+◌, ◌≤◌, Bool, true, false, IsTrue, List, [], ◌∷◌, ◌++◌, length, map, flat_map, Option, None, Result, OnOk, IfErr, IsErrOf, ◌⊎◌}, List.AllByRecursion}
use Rattle.conflict_rule.specs.Decision.{AreNotes}
use Rattle.iso_disk.specs.Disk.{DiskState, LeavesOnly, StaysTold}
use Rattle.iso_model.specs.{Between.ShowsEither, declared.core_error.CoreError.CoreError, declared.access.Commit.Commit, declared.access.Geometry.Geometry, Effect.record_length, History.{last, with_commits}, Geometry.{is_valid, log_place}, Image.{IsRecord, records, written}, Step.{after_commit, end_step}, World.{World, Live}, Worlds.IsWorld, declared.access.GroupReply.GroupReply, Group.{ahead, decided, group, leave_all, member_reply}}
use Rattle.iso_image.specs.Half.{Half, MayFollow, half_of_world, last_told, next_gate, with_records}
use Rattle.iso_log.specs.Extent.{Extent as LogExtent, extent_of}
use Rattle.mv_index.specs.{Placed.IsIndexOf, Versions.BlockVersions}
use Rattle.iso_model.specs.declared.core_error.CoreError.TheVariants as error
use Rattle.iso_model.specs.declared.core_reply.CoreReply.TheVariants as reply
use Rattle.tx_table.specs.Work.{Doing}
use Rattle.version_read.specs.{declared.part_span.PartSpan.PartSpan, Parts.{HasRoom, part_of}}
use Rattle.iso_model.specs.declared.access.GroupReply.TheVariants as member
use Rattle.iso_core.specs.{declared.group_end.GroupEnd.GroupEnd, declared.kept.Kept.Kept, declared.plan.Plan.Plan, declared.plan.Staged.Staged, Calls.{BlamesDisk, IsTx, IsWorkOf}, Core.AreOf, Ends.{AreNextRecords, IsSettledOf, StaysUp, written_of}, Kept.{Becomes, IsOf}, Standing.{down, up}}

-- a member is a live transaction with its work, and has no reply yet
pub record IsMember (W : World) (m : GroupEnd) (t : Live) : Type 0 where
  pub here : IsTx W m.tx t
  pub work : IsWorkOf W t m.work
  pub none : m.reply ≡ None

-- and its work is settled
pub record IsReady (W : World) (m : GroupEnd) (t : Live) : Type 0 where
  pub here : IsTx W m.tx t
  pub settled : IsSettledOf W t m.work
  pub none : m.reply ≡ None

-- a member is a live transaction, whatever its work
abbrev pub IsLiveMember : World → GroupEnd → Live → Type 0
IsLiveMember W m t = IsTx W m.tx t

-- the members are those transactions in order, which are different ones
abbrev pub AreEach : (GroupEnd → Live → Type 0) → List GroupEnd → List Live → Type 0
AreEach P [] [] = Unit {0}
AreEach P [] (t ∷ ts) = ⊥
AreEach P (m ∷ ms) [] = ⊥
AreEach P (m ∷ ms) (t ∷ ts) = P m t × AllByRecursion (λ (u : Live). u.number ≢ t.number) ts × AreEach P ms ts

-- a member without what is known of how far its work is settled
abbrev pub unsettled : GroupEnd → GroupEnd
unsettled m = record m { work = record m.work { settled = false } }

-- the members are transactions of the world of what is kept, each of them in this way
pub record HasMembers (Is : World → GroupEnd → Live → Type 0) (kept : Kept) (ends : List GroupEnd) : Type 0 where
  pub world : World
  pub members : List Live
  pub of : IsOf kept world
  pub each : AreEach (Is world) ends members

-- so in a core that is up
pub record MayEndGroup (Is : World → GroupEnd → Live → Type 0) (d : DiskState) (kept : Kept) (ends : List GroupEnd) : Type 0 where
  pub world : World
  pub members : List Live
  pub of : AreOf d kept world up
  pub each : AreEach (Is world) ends members

-- all of them are taken out
abbrev pub LeavesAll : (old new : Kept) → List GroupEnd → Type 0
LeavesAll old new ends = (m : HasMembers IsLiveMember old ends) → Becomes old new (leave_all m.members m.world)

-- the parts of the record of a commit
abbrev pub parts_of : Geometry → Commit → List PartSpan
parts_of g c = map part_of (written g c).parts

-- those of the records of commits, one record after the other
abbrev pub all_parts : Geometry → List Commit → List PartSpan
all_parts g commits = flat_map (parts_of g) commits

-- the staged records are those of these commits, the first of which has its gate at this place after the first one of all
abbrev pub AreStaged : Geometry → (at : ℕ) → List Staged → List Commit → Type 0
AreStaged g at [] [] = Unit {0}
AreStaged g at [] (c ∷ commits) = ⊥
AreStaged g at (s ∷ staged) [] = ⊥
AreStaged g at (s ∷ staged) (c ∷ commits) =
    (s.at ≡ at) × (s.count ≡ length (parts_of g c)) × AreStaged g (at + record_length (written g c).parts) staged commits

-- the plan has these commits, which may follow what is kept
pub record IsAhead (W : World) (more : List Commit) (plan : Plan) : Type 0 where
  pub world : IsWorld (ahead W more)
  pub bytes : plan.bytes.items ≡ records W.geometry (last W.history + 1) (map (written W.geometry) more)
  pub notes : AreNotes W.geometry (last W.history + 1) plan.notes.notes more
  pub staged : AreStaged W.geometry 0 plan.staged.items more
  pub parts : plan.parts.items ≡ all_parts W.geometry more

-- so of some world
pub record HasPlan (kept : Kept) (plan : Plan) : Type 0 where
  pub world : World
  pub more : List Commit
  pub of : IsOf kept world
  pub is : IsAhead world more plan

-- a member comes after those of the plan
pub record IsNextMember (kept : Kept) (plan : Plan) (member : GroupEnd) : Type 0 where
  pub world : World
  pub more : List Commit
  pub t : Live
  pub of : IsOf kept world
  pub is : IsAhead world more plan
  pub ready : IsReady world member t

-- and so do several
pub record AreNextMembers (kept : Kept) (plan : Plan) (group : List GroupEnd) : Type 0 where
  pub world : World
  pub more : List Commit
  pub members : List Live
  pub of : IsOf kept world
  pub is : IsAhead world more plan
  pub each : AreEach (IsReady world) group members

-- nothing is planned
pub record IsEmpty (plan : Plan) : Type 0 where
  pub bytes : plan.bytes.items ≡ []
  pub staged : plan.staged.items ≡ []
  pub parts : plan.parts.items ≡ []
  pub notes : plan.notes.notes ≡ []

-- the same is planned, whatever memory there is
pub record PlansSame (old new : Plan) : Type 0 where
  pub bytes : new.bytes.items ≡ old.bytes.items
  pub staged : new.staged.items ≡ old.staged.items
  pub parts : new.parts.items ≡ old.parts.items
  pub notes : new.notes.notes ≡ old.notes.notes

-- the transaction is the next commit of the world, and its record is spelled
pub record IsNextStaged (U : World) (tx : ℕ) (t : Live) (kept : Kept) : Type 0 where
  pub answer : (end_step U t).0 ≡ reply.Committed (last U.history + 1)
  pub world : IsWorld (after_commit U t)
  pub next : AreNextRecords U (written_of U t ∷ []) kept.buffer.records
  pub parts : kept.parts.items ≡ map part_of (written_of U t).parts

-- where the reply is a commit
abbrev pub IfCommits : GroupReply → Type 0 → Type 0
IfCommits (member.Committed number) P = P
IfCommits member.ReadOnly P = Unit {0}
IfCommits (member.Conflict clash) P = Unit {0}
IfCommits (member.Full need free) P = Unit {0}
IfCommits member.Worn P = Unit {0}

-- a work of which this is the reply comes after those of the plan
pub record MayStage (kept : Kept) (plan : Plan) (work : Doing) (r : GroupReply) : Type 0 where
  pub world : World
  pub more : List Commit
  pub tx : ℕ
  pub t : Live
  pub of : IsOf kept world
  pub is : IsAhead world more plan
  pub settled : IsSettledOf world t work
  pub next : IfCommits r (IsNextStaged (ahead world more) tx t kept)

-- whether the reply is a commit
abbrev pub is_commit : GroupReply → Bool
is_commit (member.Committed number) = true
is_commit member.ReadOnly = false
is_commit (member.Conflict clash) = false
is_commit (member.Full need free) = false
is_commit member.Worn = false

-- the reply is the model's, and where it is a commit, its record is spelled
pub record IsJudged (U : World) (tx : ℕ) (t : Live) (kept : Kept) (r : GroupReply) : Type 0 where
  pub answer : r ≡ member_reply (end_step U t).0
  pub next : IfCommits r (IsNextStaged U tx t kept)

-- all memory is at hand that the commits of the plan take
pub record IsReserved (plan : Plan) (kept : Kept) : Type 0 where
  pub room : HasRoom plan.parts.items kept.index
  pub note_room : length kept.notes.notes + length plan.notes.notes ≤ kept.notes.room

-- a member without its reply
abbrev pub without_reply : GroupEnd → GroupEnd
without_reply m = record m { reply = None }

-- a member without its reply, and without what is known of how far its work is settled
abbrev pub bare_end : GroupEnd → GroupEnd
bare_end m = without_reply (unsettled m)

-- how a member ended
abbrev pub reply_in : GroupEnd → Option GroupReply
reply_in m = m.reply

-- All members are decided, after those whose commits were planned before: the plan has the commits of all, and the replies are after the others.
pub record HasPlanned (W : World) (more : List Commit) (members : List Live) (plan : Plan) (old new : List GroupReply) : Type 0 where
  pub all : List Commit
  pub is : IsAhead W all plan
  pub told : List GroupReply
  pub replies : new ≡ old ++ told
  pub decides : decided (ahead W more) members ≡ (told, ahead W all)

-- What is staged may be taken in, one record after the other.
pub record MayTakeAll (g : Geometry) (x : Half) (t at : ℕ) (commits : List Commit) (number gate : ℕ) (staged : List Staged) (parts : List PartSpan) (index : List BlockVersions) : Type 0 where
  pub valid : IsTrue (is_valid g)
  pub half : x.at ≤ 1
  pub each : AllByRecursion (IsRecord g) x.told
  pub follow : MayFollow g x (map (written g) commits)
  pub trim : t ≤ last_told x
  pub is : IsIndexOf g (x.base + 1) (log_place g x.at) t x.told index
  pub are : AreStaged g at staged commits
  pub parts_are : parts ≡ all_parts g commits
  pub number_is : number ≡ last_told x + 1
  pub gate_is : gate + at ≡ next_gate g x

-- so of some half, with memory for the parts
pub record MayTakeStaged (number gate : ℕ) (staged : List Staged) (parts : List PartSpan) (index : List BlockVersions) : Type 0 where
  pub g : Geometry
  pub x : Half
  pub upto : ℕ
  pub at : ℕ
  pub commits : List Commit
  pub may : MayTakeAll g x upto at commits number gate staged parts index
  pub room : HasRoom parts index

-- the plan has what is to be taken in of these commits
pub record HasStaged (W : World) (more : List Commit) (plan : Plan) : Type 0 where
  pub world : IsWorld (ahead W more)
  pub notes : AreNotes W.geometry (last W.history + 1) plan.notes.notes more
  pub staged : AreStaged W.geometry 0 plan.staged.items more
  pub parts : plan.parts.items ≡ all_parts W.geometry more

-- All members are decided, and all is at hand that their commits take: their records with a closed gate after them, and memory.
pub record IsPlannedFor (W : World) (members : List Live) (plan : Plan) (kept : Kept) (replies : List GroupReply) : Type 0 where
  pub all : List Commit
  pub has : HasStaged W all plan
  pub bytes : plan.bytes.items ≡ records W.geometry (last W.history + 1) (map (written W.geometry) all) ++ 0 ∷ []
  pub reserved : IsReserved plan kept
  pub decides : decided W members ≡ (replies, ahead W all)

-- What is kept was that of the world with all that the commits of the plan want, and then their records were appended at the gate.
pub record IsGrownWith (W : World) (more : List Commit) (plan : Plan) (kept : Kept) (gate : ℕ) : Type 0 where
  pub old_log : LogExtent
  pub was : IsOf (record kept { log = old_log }) W
  pub ahead_of : HasStaged W more plan
  pub reserved : IsReserved plan kept
  pub follows : MayFollow W.geometry (half_of_world W kept.half) (map (written W.geometry) more)
  pub log : kept.log ≡ extent_of W.geometry (with_records (map (written W.geometry) more) (half_of_world W kept.half))
  pub gate_is : gate ≡ next_gate W.geometry (half_of_world W kept.half)

-- so of some world
pub record HasGrownWith (plan : Plan) (kept : Kept) (gate : ℕ) : Type 0 where
  pub world : World
  pub more : List Commit
  pub is : IsGrownWith world more plan kept gate

-- The group ends as in the model, and is told so. At each moment an image shows the history before it or after the whole of it.
-- The disk fails for a commit alone, which takes the core down; nothing is written where no member commits.
pub record EndsGroup {D T : Type 0} (state : D → DiskState) (W : World) (members : List Live) (Told : List GroupReply → Type 0) (old new : D) (kept : Kept) (result : Result T CoreError) : Type 0 where
  pub ended : OnOk result (Told (group W members).0 × AreOf (state new) kept (group W members).1 up)
  pub moments : LeavesOnly (state old) (state new) (ShowsEither W (group W members).1)
  pub lost : IsErrOf result error.Disk → (more : List Commit) × ((group W members).1.history ≡ with_commits more W.history) × AreOf (state new) kept (leave_all members W) (down more)
  pub commits : IsErrOf result error.Disk → (group W members).1.history ≢ W.history
  pub unwritten : (group W members).1.history ≡ W.history → new ≡ old

-- a group fails for want of memory, where nothing is written, or by a fault of the disk
pub record EndsGroupOn {D T : Type 0} (state : D → DiskState) (old new : D) (result : Result T CoreError) : Type 0 where
  pub only : IfErr result (λ e. (e ≡ error.Disk) ⊎ (e ≡ error.Memory))
  pub untouched : IfErr result (λ e. e ≢ error.Disk → new ≡ old)
  pub told : OnOk result (StaysTold (state old) (state new))
  pub cause : BlamesDisk (state old).faults (state new).faults result

-- the end of a group whose members are such, in a core that is up: how they are told, and so much of the core and the disk
pub record EndsMembers {D T : Type 0} (state : D → DiskState) (Is : World → GroupEnd → Live → Type 0) (Told : List GroupReply → Type 0) (old new : D) (before now : Kept) (ends : List GroupEnd) (result : Result T CoreError) : Type 0 where
  pub group : (m : MayEndGroup Is (state old) before ends) → EndsGroup state m.world m.members Told old new now result
  pub same : StaysUp (state old) (state new) before now result
  pub disk : EndsGroupOn state old new result
