-- What the lines of one client make of its own transaction, with the answers of their entries.
use Rattle.std.specs.{Prelude.{◌≡◌, ◌⊎◌, ℕ, ◌-◌, ◌<◌, ◌==◌, ◌&&◌, Bool, true, false, cond, not, List, [], ◌∷◌, ◌++◌, Option, Some, None, Result, Ok, Err, IfOk, length, map, option_map, replicate, unwrap_or}, List.AllByRecursion}
use Rattle.iso_model.specs.{declared.access.Access.Access, declared.access.Geometry.Geometry, declared.access.GroupReply.GroupReply, declared.access.Mode.Mode, Array.Array, Conflict.clash, Effect.is_write, Geometry.is_serial, Group.label_replies, History.History, Premises.block_at, World.{World, Live, client, fresh}}
use Rattle.script_model.specs.{CoreReplies.as_reply, declared.script.Line.Line, declared.script.Op.Op, declared.script.Reply.Reply, FilesArea.file_blocks, Step.step, declared.stop.Stop.Stop}
use Rattle.script_model.specs.declared.script.Op.TheVariants as op
use Rattle.script_model.specs.declared.script.Reply.TheVariants as reply
use Rattle.iso_shared.specs.declared.entry.Call.TheVariants as call
use Rattle.iso_shared.specs.{declared.entry.Cause.Cause, declared.entry.Entry.Entry, declared.entry.Member.Member, declared.entry.Numbers.Numbers, declared.entry.Posting.Posting, Legal.reply_of, States.{members_of, replies_of}}
use Rattle.iso_shared.specs.declared.entry.Cause.TheVariants as cause
use Rattle.iso_shared.specs.declared.entry.Entry.TheVariants as entry
use Rattle.script_model.specs.declared.stop.Stop.TheVariants as stop
use Rattle.par_script.specs.declared.TheConstants.{MAX_LOOKS}

-- a transaction as its client sees it: its number, its begin, its mode and its accesses
abbrev pub Own : Type 0
Own = Posting

abbrev pub live_of : Own → Live
live_of o = record { number = o.number; begin = o.begin; mode = o.mode; accesses = o.accesses; place = client 1 }

abbrev pub lives_of : Option Own → List Live
lives_of None = []
lives_of (Some o) = live_of o ∷ []

abbrev pub own_among : List Live → Option Own
own_among [] = None
own_among (t ∷ live) = Some (record { number = t.number; begin = t.begin; mode = t.mode; accesses = t.accesses })

-- a world of this geometry whose base is the array, and in which the client is alone
abbrev pub alone : Geometry → Array → Option Own → World
alone g base own = record (fresh g 1 (record { first = 1; base = base; commits = [] })) { live = lives_of own }

-- what the rules of one thread answer the client there, and what its transaction is then
abbrev pub answer : Geometry → Array → Option Own → Op → Reply
answer g base own o = (step (alone g base own) 1 o).0

abbrev pub own_after : Geometry → Array → Option Own → Op → Option Own
own_after g base own o = own_among (step (alone g base own) 1 o).1.live

-- an array with these bytes in the block
abbrev pub with_block : (block : ℕ) → List ℕ → Array
with_block block bytes = replicate block [] ++ bytes ∷ []

-- what a call that is refused is answered: the refusals of the rules are replies, and the others stop the client
abbrev pub refused : Cause → Result Reply Stop
refused cause.Down = Err stop.Down
refused cause.TooManyTx = Ok reply.TooManyTx
refused (cause.LogFull need free) = Ok (reply.LogFull need free)
refused (cause.Disk before now) = Err stop.Disk
refused cause.Memory = Err stop.Memory
refused cause.Worn = Ok reply.Worn
refused cause.ModeFixed = Ok reply.ModeFixed
refused cause.LabelTaken = Ok reply.LabelTaken

-- a line that its client's own state, or its arguments, answer: it makes no entry
abbrev pub Says : Geometry → Option Own → Op → List Entry → Result Reply Stop → Option Own → Type 0
Says g own o es r own' = (es ≡ []) × (r ≡ Ok (answer g [] own o)) × (own' ≡ own_after g [] own o)

-- want of memory before a turn: no entry, and the client stops
abbrev pub Wants : Option Own → List Entry → Result Reply Stop → Option Own → Type 0
Wants own es r own' = (es ≡ []) × (r ≡ Err stop.Memory) × (own' ≡ own)

abbrev pub Begins : Geometry → Option Mode → List Entry → Result Reply Stop → Option Own → Type 0
Begins g named (entry.Begin n at mode ∷ []) r own' =
    (mode ≡ unwrap_or named g.mode) × (r ≡ Ok (reply.Began at)) × (own' ≡ Some (record { number = n; begin = at; mode = mode; accesses = [] }))
Begins g named (entry.Refused c why ∷ []) r own' = (c ≡ call.Begin named) × (r ≡ refused why) × (own' ≡ None)
Begins g named es r own' = ⊥

-- a read of a block that is not refused: one fetch, also of a block that the transaction has written
abbrev pub Fetches : Geometry → Own → Op → (block : ℕ) → List Entry → Result Reply Stop → Option Own → Type 0
Fetches g t o block (entry.Fetch n b bytes ∷ []) r own' =
    (n ≡ t.number) × (b ≡ block) × (r ≡ Ok (answer g (with_block block bytes) (Some t) o)) × (own' ≡ own_after g (with_block block bytes) (Some t) o)
Fetches g t o block (entry.Refused c why ∷ []) r own' = (c ≡ call.Fetch t.number block) × (r ≡ refused why) × (own' ≡ Some t)
Fetches g t o block es r own' = ⊥

-- the one where the reply shows bytes, and the other where it refuses
abbrev pub WhereShown : Reply → (shown other : Type 0) → Type 0
WhereShown (reply.Shown bytes) P Q = P
WhereShown r P Q = Q

abbrev pub Reads : Geometry → Own → Op → (block : ℕ) → List Entry → Result Reply Stop → Option Own → Type 0
Reads g t o block es r own' = WhereShown (answer g [] (Some t) o) (Fetches g t o block es r own') (Says g (Some t) o es r own')

-- a fault of the disk ends the transaction of an end
abbrev pub left_by : Cause → Own → Option Own
left_by (cause.Disk before now) t = None
left_by why t = Some t

-- the end itself
abbrev pub EndsNow : Own → List Entry → Result Reply Stop → Option Own → Type 0
EndsNow t (entry.End n accesses answered ∷ []) r own' = (n ≡ t.number) × (accesses ≡ t.accesses) × (r ≡ Ok (as_reply (reply_of answered))) × (own' ≡ None)
EndsNow t (entry.Refused c why ∷ []) r own' = (c ≡ call.End t.number t.accesses) × (r ≡ refused why) × (own' ≡ left_by why t)
EndsNow t es r own' = ⊥

-- after the later commits were asked for: the end, unless memory was wanting for the check
abbrev pub EndsThen : Own → List Entry → Result Reply Stop → Option Own → Type 0
EndsThen t [] r own' = (r ≡ Err stop.Memory) × (own' ≡ Some t)
EndsThen t es r own' = EndsNow t es r own'

-- the later commits are asked for, and then comes the end
abbrev pub AsksAndEnds : Own → List Entry → Result Reply Stop → Option Own → Type 0
AsksAndEnds t (entry.Refused c why ∷ []) r own' = (c ≡ call.Recent t.number) × (r ≡ refused why) × (own' ≡ Some t)
AsksAndEnds t (entry.Recent n upto ∷ es) r own' = (n ≡ t.number) × EndsThen t es r own'
AsksAndEnds t es r own' = ⊥

-- no commit can clash with the transaction, by the rule of conflicts: whatever the history of the image is, it has no clash with it
abbrev pub CannotClash : Geometry → Own → Type 0
CannotClash g t = (H : History) → clash g H t.mode t.begin t.accesses ≡ None

-- an end asks for the later commits; where no commit can clash with the transaction, it may come at once
abbrev pub Ends : Geometry → Own → List Entry → Result Reply Stop → Option Own → Type 0
Ends g t es r own' = AsksAndEnds t es r own' ⊎ (CannotClash g t × EndsNow t es r own')

abbrev pub Aborts : Own → List Entry → Result Reply Stop → Option Own → Type 0
Aborts t (entry.Abort n ∷ []) r own' = (n ≡ t.number) × (r ≡ Ok reply.Done) × (own' ≡ None)
Aborts t es r own' = ⊥

abbrev pub Posts : Own → (label : List ℕ) → List Entry → Result Reply Stop → Option Own → Type 0
Posts t label (entry.Post n l accesses ∷ []) r own' = (n ≡ t.number) × (l ≡ label) × (accesses ≡ t.accesses) × (r ≡ Ok reply.Done) × (own' ≡ None)
Posts t label (entry.Refused c why ∷ []) r own' = (c ≡ call.Post t.number label t.accesses) × (r ≡ refused why) × (own' ≡ Some t)
Posts t label es r own' = ⊥

-- what a look is answered: the begin of the transaction that it found
abbrev pub look_reply : Option Own → Reply
look_reply None = reply.NoHandle
look_reply (Some t) = reply.Began t.begin

abbrev pub Looks : (label : List ℕ) → List Entry → Result Reply Stop → Option Own → Type 0
Looks label (entry.Look l found ∷ []) r own' = (l ≡ label) × (r ≡ Ok (look_reply found)) × (own' ≡ found)
Looks label es r own' = ⊥

-- looks up to the first that finds, or `most` that find none
abbrev pub LooksFor : (label : List ℕ) → (most : ℕ) → List Entry → Result Reply Stop → Option Own → Type 0
LooksFor label most [] r own' = (most ≡ 0) × (r ≡ Ok reply.NoHandle) × (own' ≡ None)
LooksFor label most (entry.Look l None ∷ es) r own' = (0 < most) × (l ≡ label) × LooksFor label (most - 1) es r own'
LooksFor label most (entry.Look l (Some t) ∷ []) r own' = (0 < most) × (l ≡ label) × (r ≡ Ok (reply.Began t.begin)) × (own' ≡ Some t)
LooksFor label most es r own' = ⊥

-- those that the looks of a group found, in their order
abbrev pub found_ones : List (Option Own) → List Own
found_ones [] = []
found_ones (None ∷ found) = found_ones found
found_ones (Some t ∷ found) = t ∷ found_ones found

-- a member of a group, with the accesses of its post
abbrev pub member_for : Own → Member
member_for t = record { number = t.number; accesses = t.accesses }

abbrev pub members_for : List Own → List Member
members_for ones = map member_for ones

-- the replies to the labels of a group whose members are answered so: none to a label under which nothing was found
abbrev pub replies_to : List (Option Own) → List GroupReply → List (Option GroupReply)
replies_to found replies = label_replies (map (option_map live_of) found) replies

abbrev pub aborts_of : List Own → List Entry
aborts_of ones = map (λ t. entry.Abort t.number) ones

-- the members of a group that was refused are aborted, in order; a fault of the disk has ended them
abbrev pub aborts_after : Cause → List Own → List Entry
aborts_after (cause.Disk before now) ones = []
aborts_after why ones = aborts_of ones

-- after all looks of a group: its end, where some look found
abbrev pub GroupEnds : List (Option Own) → List Entry → Result Reply Stop → Type 0
GroupEnds found [] r = (found_ones found ≡ []) × (r ≡ Ok (reply.Grouped (replies_to found [])))
GroupEnds found (entry.EndGroup ends ∷ []) r =
    (0 < length (found_ones found)) × (members_of ends ≡ members_for (found_ones found)) × (r ≡ Ok (reply.Grouped (replies_to found (replies_of ends))))
GroupEnds found (entry.Refused c why ∷ es) r =
    (0 < length (found_ones found)) × (c ≡ call.EndGroup (members_for (found_ones found))) × (es ≡ aborts_after why (found_ones found)) × (r ≡ refused why)
GroupEnds found es r = ⊥

-- memory was wanting before the turn of a group: those that were found so far are aborted, in order
abbrev pub GroupWants : List (Option Own) → List Entry → Result Reply Stop → Type 0
GroupWants found es r = (es ≡ aborts_of (found_ones found)) × (r ≡ Err stop.Memory)

-- After looks that found so, a look for each of the labels that are left, in order, and then the end of the group; where memory
-- was wanting before its turn, the looks may be fewer.
abbrev pub Groups : (labels : List (List ℕ)) → (found : List (Option Own)) → List Entry → Result Reply Stop → Type 0
Groups [] found es r = GroupEnds found es r ⊎ GroupWants found es r
Groups (label ∷ labels) found (entry.Look l one ∷ es) r = (l ≡ label) × Groups labels (found ++ one ∷ []) es r
Groups (label ∷ labels) found es r = GroupWants found es r

abbrev pub Trims : Option Own → List Entry → Result Reply Stop → Option Own → Type 0
Trims own (entry.Trim n ∷ []) r own' = (r ≡ Ok (reply.Trimmed n)) × (own' ≡ own)
Trims own (entry.Refused c why ∷ []) r own' = (c ≡ call.Trim) × (r ≡ refused why) × (own' ≡ own)
Trims own es r own' = ⊥

abbrev pub Compacts : Option Own → List Entry → Result Reply Stop → Option Own → Type 0
Compacts own (entry.Compact n ∷ []) r own' = (r ≡ Ok (reply.Compacted n)) × (own' ≡ own)
Compacts own (entry.Refused c why ∷ []) r own' = (c ≡ call.Compact) × (r ≡ refused why) × (own' ≡ own)
Compacts own es r own' = ⊥

abbrev pub Upgrades : Option Own → List Entry → Result Reply Stop → Option Own → Type 0
Upgrades own (entry.Upgrade n ∷ []) r own' = (r ≡ Ok (reply.Upgraded n)) × (own' ≡ own)
Upgrades own (entry.Refused c why ∷ []) r own' = (c ≡ call.Upgrade) × (r ≡ refused why) × (own' ≡ own)
Upgrades own es r own' = ⊥

abbrev pub stat_reply : Numbers → Reply
stat_reply n = reply.Numbers n.last n.base n.trim n.live n.used n.versions

abbrev pub Stats : Option Own → List Entry → Result Reply Stop → Option Own → Type 0
Stats own (entry.Stat numbers ∷ []) r own' = (r ≡ Ok (stat_reply numbers)) × (own' ≡ own)
Stats own es r own' = ⊥

-- the blocks of the reads among accesses, in order
abbrev pub blocks_read : List Access → List ℕ
blocks_read [] = []
blocks_read (a ∷ accesses) = cond (is_write a) (blocks_read accesses) (a.block ∷ blocks_read accesses)

-- blocks with the bytes that were fetched of them, in order
abbrev pub Fetched : Type 0
Fetched = List (ℕ × List ℕ)

-- the entries of these fetches by a transaction, and of the one at which they stopped, where one was refused
abbrev pub fetches : (number : ℕ) → Fetched → List Entry
fetches n fetched = map (λ f. entry.Fetch n f.0 f.1) fetched

abbrev pub refused_fetch : (number : ℕ) → Option (ℕ × Cause) → List Entry
refused_fetch n None = []
refused_fetch n (Some f) = entry.Refused (call.Fetch n f.0) f.1 ∷ []

-- a client stops at Down or Disk where a fetch was refused so, and nowhere else
abbrev pub StopsBy : Option (ℕ × Cause) → Result Reply Stop → Type 0
StopsBy (Some (b, cause.Down)) r = r ≡ Err stop.Down
StopsBy (Some (b, cause.Disk before now)) r = r ≡ Err stop.Disk
StopsBy (Some (b, why)) r = ⊥
StopsBy None (Ok said) = Unit {0}
StopsBy None (Err stop.Memory) = Unit {0}
StopsBy None (Err why) = ⊥

-- what the rules of one thread answer, and what they make of the transaction, on an array with these bytes
pub record AnswersOn (g : Geometry) (t : Own) (o : Op) (fetched : Fetched) (said : Reply) (own' : Option Own) : Type 0 where
  pub array : Array
  pub has : AllByRecursion (λ f. block_at array f.0 ≡ f.1) fetched
  pub reply : said ≡ answer g array (Some t) o
  pub leaves : own' ≡ own_after g array (Some t) o

-- A call of a store by a transaction: one fetch for each read that came, in their order, and where one was refused that one last.
-- The transaction gets these accesses, and is else the same. Where the device tells its bytes they and the reply are those of
-- the rules, over the bytes that were fetched.
pub record CallsStore (g : Geometry) (tells : Bool) (t : Own) (o : Op) (es : List Entry) (r : Result Reply Stop) (own' : Option Own) : Type 0 where
  pub fetched : Fetched
  pub refused : Option (ℕ × Cause)
  pub done : List Access
  pub are : es ≡ fetches t.number fetched ++ refused_fetch t.number refused
  pub stops : StopsBy refused r
  pub reads : blocks_read done ≡ map (λ f. f.0) fetched
  pub left : own' ≡ Some (record t { accesses = t.accesses ++ done })
  pub told : tells ≡ true → IfOk r (λ said. AnswersOn g t o fetched said own')

abbrev pub Where : Bool → (P Q : Type 0) → Type 0
Where true P Q = P
Where false P Q = Q

-- the one in a serial transaction of an image that has the store, and the other in all others
abbrev pub InStore : (blocks : ℕ) → Own → (stored other : Type 0) → Type 0
InStore blocks t P Q = Where (not (blocks == 0) && is_serial t.mode) P Q

-- these entries are the line's, and it is answered so; the client has the one transaction before it and the other after it
abbrev pub Does : Geometry → (tells : Bool) → Option Own → Op → List Entry → Result Reply Stop → Option Own → Type 0
Does g tells None (op.Begin named) es r own' = Begins g named es r own'
Does g tells None (op.Takeover label) es r own' = Looks label es r own'
Does g tells None (op.Await label) es r own' = LooksFor label MAX_LOOKS es r own'
Does g tells (Some t) (op.Read block) es r own' = Reads g t (op.Read block) block es r own'
Does g tells (Some t) (op.Get block off len) es r own' = Reads g t (op.Get block off len) block es r own'
Does g tells (Some t) op.End es r own' = Ends g t es r own'
Does g tells (Some t) op.Abort es r own' = Aborts t es r own'
Does g tells (Some t) (op.Release label) es r own' = Posts t label es r own'
Does g tells (Some t) (op.HashPut key value) es r own' = InStore g.hash t (CallsStore g tells t (op.HashPut key value) es r own') (Says g (Some t) (op.HashPut key value) es r own')
Does g tells (Some t) (op.HashGet key) es r own' = InStore g.hash t (CallsStore g tells t (op.HashGet key) es r own') (Says g (Some t) (op.HashGet key) es r own')
Does g tells (Some t) (op.HashDelete key) es r own' = InStore g.hash t (CallsStore g tells t (op.HashDelete key) es r own') (Says g (Some t) (op.HashDelete key) es r own')
Does g tells (Some t) (op.TreePut key value) es r own' = InStore g.tree t (CallsStore g tells t (op.TreePut key value) es r own') (Says g (Some t) (op.TreePut key value) es r own')
Does g tells (Some t) (op.TreeGet key) es r own' = InStore g.tree t (CallsStore g tells t (op.TreeGet key) es r own') (Says g (Some t) (op.TreeGet key) es r own')
Does g tells (Some t) (op.TreeDelete key) es r own' = InStore g.tree t (CallsStore g tells t (op.TreeDelete key) es r own') (Says g (Some t) (op.TreeDelete key) es r own')
Does g tells (Some t) (op.TreeScan from to most) es r own' = InStore g.tree t (CallsStore g tells t (op.TreeScan from to most) es r own') (Says g (Some t) (op.TreeScan from to most) es r own')
Does g tells (Some t) (op.FileNew name) es r own' = InStore (file_blocks g) t (CallsStore g tells t (op.FileNew name) es r own') (Says g (Some t) (op.FileNew name) es r own')
Does g tells (Some t) (op.FileWrite name off bytes) es r own' = InStore (file_blocks g) t (CallsStore g tells t (op.FileWrite name off bytes) es r own') (Says g (Some t) (op.FileWrite name off bytes) es r own')
Does g tells (Some t) (op.FileRead name off len) es r own' = InStore (file_blocks g) t (CallsStore g tells t (op.FileRead name off len) es r own') (Says g (Some t) (op.FileRead name off len) es r own')
Does g tells (Some t) (op.FileMove from to) es r own' = InStore (file_blocks g) t (CallsStore g tells t (op.FileMove from to) es r own') (Says g (Some t) (op.FileMove from to) es r own')
Does g tells (Some t) (op.FileDelete name) es r own' = InStore (file_blocks g) t (CallsStore g tells t (op.FileDelete name) es r own') (Says g (Some t) (op.FileDelete name) es r own')
Does g tells own (op.Group labels) es r own' = Groups labels [] es r × (own' ≡ own)
Does g tells own op.Trim es r own' = Trims own es r own'
Does g tells own op.Stat es r own' = Stats own es r own'
Does g tells own op.Compact es r own' = Compacts own es r own'
Does g tells own op.Upgrade es r own' = Upgrades own es r own'
Does g tells own o es r own' = Says g own o es r own'

abbrev pub Did : Geometry → (tells : Bool) → Option Own → Op → List Entry → Result Reply Stop → Option Own → Type 0
Did g tells own o es r own' = Does g tells own o es r own' ⊎ Wants own es r own'

-- each of these lines was answered, and the replies carry their numbers
abbrev pub Walk : Geometry → (tells : Bool) → Option Own → List (ℕ × Line) → List Entry → List (ℕ × Reply) → Option Own → Type 0
Walk g tells own [] F told own' = (F ≡ []) × (told ≡ []) × (own' ≡ own)
Walk g tells own (l ∷ lines) F told own' =
    (es : List Entry) × (r : Reply) × (mid : Option Own) × (G : List Entry) × (rest : List (ℕ × Reply))
    × (F ≡ es ++ G) × (told ≡ (l.0, r) ∷ rest) × Did g tells own l.1.op es (Ok r) mid × Walk g tells mid lines G rest own'

-- the last of these lines is the one at which the client stopped: it has no reply, and the entries of the calls that it made
pub record StopsAtLast (g : Geometry) (tells : Bool) (lines : List (ℕ × Line)) (told : List (ℕ × Reply)) (why : Stop) (F : List Entry) (own' : Option Own) : Type 0 where
  pub first : List (ℕ × Line)
  pub last : ℕ × Line
  pub are : lines ≡ first ++ last ∷ []
  pub walked : List Entry
  pub mid : Option Own
  pub walk : Walk g tells None first walked told mid
  pub entries : List Entry
  pub did : Did g tells mid last.1.op entries (Err why) own'
  pub all : F ≡ walked ++ entries

-- the lines were run, to their end or to the one at which the client stopped
abbrev pub Ran : Geometry → (tells : Bool) → List (ℕ × Line) → List (ℕ × Reply) → Option Stop → List Entry → Option Own → Type 0
Ran g tells lines told None F own' = Walk g tells None lines F told own'
Ran g tells lines told (Some why) F own' = StopsAtLast g tells lines told why F own'

-- at its end a client aborts the transaction that it still has
abbrev pub last_abort : Option Own → List Entry
last_abort None = []
last_abort (Some t) = entry.Abort t.number ∷ []

-- the client's entries are those of its lines, in their order, and then the abort
pub record ClientLines (g : Geometry) (tells : Bool) (lines : List (ℕ × Line)) (told : List (ℕ × Reply)) (why : Option Stop) (F : List Entry) : Type 0 where
  pub made : List Entry
  pub own : Option Own
  pub ran : Ran g tells lines told why made own
  pub all : F ≡ made ++ last_abort own
