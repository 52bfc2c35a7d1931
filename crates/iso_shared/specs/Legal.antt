-- Which lists of entries a shared device may stand for: each entry is the answer that the rules of one thread give at its place.
use Rattle.std.specs.{Prelude.{◌≡◌, ℕ, ◌+◌, ◌<◌, ◌≤◌, true, List, [], ◌∷◌, Option, Some, None, IsSome, bytes_eq, length, is_some, option_map, slice_get}, Map.lookup, List.AllByRecursion}
use Rattle.counts.specs.Count.{Rose}
use Rattle.iso_model.specs.{declared.access.Access.Access, declared.access.EndReply.EndReply, declared.access.EndReply.TheVariants.{Committed, ReadOnly, Conflict}, declared.access.Mode.Mode, declared.limits.TheConstants.MAX_ACCESSES, declared.core_reply.CoreReply.CoreReply, Group.numbers_told, History.{array_at, last}, Premises.{AreAccesses, block_at}, Step.{begin_step, end_step, mode_named, switch_step}, Versions.versions, World.{World, floor, unattached, used}}
use Rattle.iso_core.specs.declared.group_end.TheConstants.{MAX_GROUP}
use Rattle.iso_model.specs.declared.core_reply.CoreReply.TheVariants as reply
use Rattle.iso_shared.specs.{declared.entry.Call.Call, declared.entry.Cause.Cause, declared.entry.Entry.Entry, declared.entry.Member.Member, declared.entry.Numbers.Numbers, States.{Start, State, opened, after, group_answers, is_loose, live_of, members_of, member_numbers, replies_of, tx_of}}
use Rattle.iso_shared.specs.declared.entry.Call.TheVariants as call
use Rattle.iso_shared.specs.declared.entry.Cause.TheVariants as cause
use Rattle.iso_shared.specs.declared.entry.Entry.TheVariants as entry
use Rattle.turn_lock.specs.Lists.{AreDistinct}

abbrev pub reply_of : EndReply → CoreReply
reply_of (Committed n) = reply.Committed n
reply_of ReadOnly = reply.ReadOnly
reply_of (Conflict c) = reply.Conflict c

-- what the rules answer to a begin in this mode, to an end with these accesses, and to a switch to a half of this form
abbrev pub begin_answer : World → Option Mode → CoreReply
begin_answer W named = (begin_step W unattached (mode_named W named)).0

abbrev pub end_answer : World → (number : ℕ) → List Access → CoreReply
end_answer W n accesses = (end_step W (tx_of W n accesses)).0

abbrev pub switch_answer : World → (form : ℕ) → CoreReply
switch_answer W form = (switch_step W form reply.Done).0

-- what the rules answer to a call that they may refuse; Done represents all that they never refuse
abbrev pub answer_to : World → Call → CoreReply
answer_to W (call.Begin named) = begin_answer W named
answer_to W (call.Fetch n block) = reply.Done
answer_to W (call.End n accesses) = end_answer W n accesses
answer_to W (call.EndGroup members) = reply.Done
answer_to W call.Trim = reply.Done
answer_to W call.Compact = switch_answer W W.geometry.form
answer_to W call.Upgrade = switch_answer W 2
answer_to W (call.Post n label accesses) = reply.Done
answer_to W (call.Recent n) = reply.Done

-- accesses that a transaction of the image may have made
pub record MayHaveMade (W : World) (accesses : List Access) : Type 0 where
  pub each : AreAccesses W.geometry accesses
  pub count : length accesses ≤ MAX_ACCESSES

-- members of a group: some and not too many, different ones, each with accesses that it may have made
pub record IsGroup (W : World) (members : List Member) : Type 0 where
  pub some : 0 < length members
  pub most : length members ≤ MAX_GROUP
  pub distinct : AreDistinct (member_numbers members)
  pub each : AllByRecursion (λ m. MayHaveMade W m.accesses) members

-- the arguments are such
abbrev pub IsCall : World → Call → Type 0
IsCall W (call.Begin named) = Unit {0}
IsCall W (call.Fetch n block) = block < W.geometry.blocks
IsCall W (call.End n accesses) = MayHaveMade W accesses
IsCall W (call.EndGroup members) = IsGroup W members
IsCall W call.Trim = Unit {0}
IsCall W call.Compact = Unit {0}
IsCall W call.Upgrade = Unit {0}
IsCall W (call.Post n label accesses) = Unit {0}
IsCall W (call.Recent n) = Unit {0}

abbrev pub IsUp : State → Type 0
IsUp S = S.lost ≡ None

abbrev pub IsHeld : List ℕ → State → Type 0
IsHeld label S = is_some (lookup (bytes_eq label) S.rack) ≡ true

abbrev pub IsFree : List ℕ → State → Type 0
IsFree label S = lookup (bytes_eq label) S.rack ≡ None

-- the calls of the core, which a device that is down refuses; a post is none
abbrev pub IsOfCore : Call → Type 0
IsOfCore (call.Post n label accesses) = ⊥
IsOfCore c = Unit {0}

-- where memory may be wanting: a fetch and a trim take none, and a label that is held is told as such
abbrev pub MayWantMemory : State → Call → Type 0
MayWantMemory S (call.Begin named) = IsUp S
MayWantMemory S (call.Fetch n block) = ⊥
MayWantMemory S (call.End n accesses) = IsUp S
MayWantMemory S (call.EndGroup members) = IsUp S
MayWantMemory S call.Trim = ⊥
MayWantMemory S call.Compact = IsUp S
MayWantMemory S call.Upgrade = IsUp S
MayWantMemory S (call.Post n label accesses) = IsFree label S
MayWantMemory S (call.Recent n) = IsUp S

-- where the disk may fail: an end calls it for a commit alone, a group where some member commits, and a switch where it is not worn
abbrev pub MayFail : State → Call → Type 0
MayFail S (call.Begin named) = ⊥
MayFail S (call.Fetch n block) = IsUp S
MayFail S (call.End n accesses) = IsUp S × (end_answer S.world n accesses ≡ reply.Committed (last S.world.history + 1))
MayFail S (call.EndGroup members) = IsUp S × (0 < length (numbers_told (group_answers S.world members)))
MayFail S call.Trim = ⊥
MayFail S call.Compact = IsUp S × (switch_answer S.world S.world.geometry.form ≡ reply.Done)
MayFail S call.Upgrade = IsUp S × (switch_answer S.world 2 ≡ reply.Done)
MayFail S (call.Post n label accesses) = ⊥
MayFail S (call.Recent n) = ⊥

-- the label of a post is taken
abbrev pub IsTaken : State → Call → Type 0
IsTaken S (call.Begin named) = ⊥
IsTaken S (call.Fetch n block) = ⊥
IsTaken S (call.End n accesses) = ⊥
IsTaken S (call.EndGroup members) = ⊥
IsTaken S call.Trim = ⊥
IsTaken S call.Compact = ⊥
IsTaken S call.Upgrade = ⊥
IsTaken S (call.Post n label accesses) = IsHeld label S
IsTaken S (call.Recent n) = ⊥

-- the call may be refused so at this place
abbrev pub MayRefuse : State → Call → Cause → Type 0
MayRefuse S c cause.Down = IsOfCore c × IsSome S.lost
MayRefuse S c cause.TooManyTx = IsUp S × (answer_to S.world c ≡ reply.TooManyTx)
MayRefuse S c (cause.LogFull need free) = IsUp S × (answer_to S.world c ≡ reply.LogFull need free)
MayRefuse S c (cause.Disk before now) = MayFail S c × (S.faults ≤ before) × Rose before now × (before ≤ now)
MayRefuse S c cause.Memory = MayWantMemory S c
MayRefuse S c cause.Worn = IsUp S × (answer_to S.world c ≡ reply.Worn)
MayRefuse S c cause.ModeFixed = IsUp S × (answer_to S.world c ≡ reply.ModeFixed)
MayRefuse S c cause.LabelTaken = IsTaken S c

-- the numbers of the image at this place
abbrev pub numbers_at : State → Numbers
numbers_at S = record {
  last = last S.world.history;
  base = S.world.base;
  trim = S.world.trim;
  live = length S.world.live;
  used = used S.world;
  versions = versions S.world;
  down = is_some S.lost;
}

-- the answer is the one that the rules give at this place
abbrev pub Answers : State → Entry → Type 0
Answers S (entry.Begin n at mode) = IsUp S × (n ≡ S.world.next) × ((begin_step S.world unattached mode).0 ≡ reply.Began at)
Answers S (entry.Fetch n block bytes) = IsUp S × (block < S.world.geometry.blocks) × (S.tells ≡ true → bytes ≡ block_at (array_at S.world.history (live_of n S.world.live).begin) block)
Answers S (entry.End n accesses r) = IsUp S × MayHaveMade S.world accesses × (end_answer S.world n accesses ≡ reply_of r)
Answers S (entry.EndGroup ends) = IsUp S × IsGroup S.world (members_of ends) × (group_answers S.world (members_of ends) ≡ replies_of ends)
Answers S (entry.Abort n) = Unit {0}
Answers S (entry.Trim n) = IsUp S × (n ≡ floor S.world)
Answers S (entry.Compact n) = IsUp S × (n ≡ floor S.world) × (switch_answer S.world S.world.geometry.form ≡ reply.Done)
Answers S (entry.Upgrade n) = IsUp S × (n ≡ floor S.world) × (switch_answer S.world 2 ≡ reply.Done)
Answers S (entry.Stat numbers) = numbers ≡ numbers_at S
Answers S (entry.Post n label accesses) = IsFree label S
Answers S (entry.Look label found) = found ≡ lookup (bytes_eq label) S.rack
Answers S (entry.Sweep found) = found ≡ option_map (λ e. e.1.number) (slice_get S.rack 0)
Answers S (entry.Recent n upto) = IsUp S × (upto ≡ last S.world.history)
Answers S (entry.Refused c why) = IsCall S.world c × MayRefuse S c why

-- the transactions of a call
abbrev pub tx_in : Call → List ℕ
tx_in (call.Begin named) = []
tx_in (call.Fetch n block) = n ∷ []
tx_in (call.End n accesses) = n ∷ []
tx_in (call.EndGroup members) = member_numbers members
tx_in call.Trim = []
tx_in call.Compact = []
tx_in call.Upgrade = []
tx_in (call.Post n label accesses) = n ∷ []
tx_in (call.Recent n) = n ∷ []

-- the number that an entry hands out
abbrev pub handed : Entry → Option ℕ
handed (entry.Begin n at mode) = Some n
handed (entry.Look label found) = option_map (λ p. p.number) found
handed e = None

-- those that it needs
abbrev pub needed : Entry → List ℕ
needed (entry.Fetch n block bytes) = n ∷ []
needed (entry.Recent n upto) = n ∷ []
needed (entry.Refused c why) = tx_in c
needed e = []

-- those that a fault ends
abbrev pub ended : Call → List ℕ
ended (call.End n accesses) = n ∷ []
ended (call.EndGroup members) = member_numbers members
ended c = []

abbrev pub ended_by : Call → Cause → List ℕ
ended_by c (cause.Disk before now) = ended c
ended_by c why = []

-- those that it takes back
abbrev pub returned : Entry → List ℕ
returned (entry.End n accesses r) = n ∷ []
returned (entry.EndGroup ends) = member_numbers (members_of ends)
returned (entry.Abort n) = n ∷ []
returned (entry.Post n label accesses) = n ∷ []
returned (entry.Refused c why) = ended_by c why
returned e = []

-- these transactions are live and under no label
abbrev pub AreLoose : List ℕ → State → Type 0
AreLoose ns S = AllByRecursion (λ n. is_loose n S ≡ true) ns

-- the entry is legal at this place
pub record Fits (S : State) (e : Entry) : Type 0 where
  pub needs : AreLoose (needed e) S
  pub takes : AreLoose (returned e) S
  pub answers : Answers S e

-- the list is legal from this state on
abbrev pub LegalFrom : State → List Entry → Type 0
LegalFrom S [] = Unit {0}
LegalFrom S (e ∷ es) = Fits S e × LegalFrom (after S e) es

-- the list is legal: each entry is legal at its place
abbrev pub IsLegal : Start → List Entry → Type 0
IsLegal A es = LegalFrom (opened A) es
