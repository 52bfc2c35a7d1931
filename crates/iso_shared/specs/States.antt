-- The state of a shared device at a place of its list, and what each entry makes of it.
use Rattle.std.specs.{Prelude.{ℕ, ◌==◌, Bool, true, false, ◌&&◌, cond, List, [], ◌∷◌, ◌++◌, Option, Some, None, bytes_eq, drop, map}, Map.remove_entry}
use Rattle.iso_model.specs.{declared.access.Access.Access, declared.access.Commit.Commit, declared.access.EndReply.EndReply, declared.access.EndReply.TheVariants.{Committed, ReadOnly, Conflict}, declared.access.Mode.TheVariants.Serial, declared.access.GroupReply.GroupReply, Group.{group, leave_all, made_by}, Step.{after_begin, after_commit, after_leaving, after_switch, after_trim}, World.{World, Live, unattached}}
use Rattle.turn_lock.specs.Lists.{times}
use Rattle.iso_shared.specs.{declared.entry.Call.Call, declared.entry.Cause.Cause, declared.entry.Entry.Entry, declared.entry.Member.Member, declared.entry.MemberEnd.MemberEnd, declared.entry.Posting.Posting}
use Rattle.iso_shared.specs.declared.entry.Call.TheVariants as call
use Rattle.iso_shared.specs.declared.entry.Cause.TheVariants as cause
use Rattle.iso_shared.specs.declared.entry.Entry.TheVariants as entry

-- where a list begins: the world, how often the disk has failed, and whether the disk tells its bytes
pub record Start : Type 0 where
  pub world : World
  pub faults : ℕ
  pub tells : Bool

-- what a shared device is at a place of the list
pub record State : Type 0 where
  -- the live transactions have no accesses here, and no place
  pub world : World
  -- those under labels, the one first that was posted first
  pub rack : List (List ℕ × Posting)
  -- once a fault has set it down, the commits that may stand after the others
  pub lost : Option (List Commit)
  -- the largest count of faults that an entry carried
  pub faults : ℕ
  -- whether the disk tells its bytes
  pub tells : Bool

abbrev pub opened : Start → State
opened A = record { world = A.world; rack = []; lost = None; faults = A.faults; tells = A.tells }

abbrev pub is_live : ℕ → List Live → Bool
is_live n [] = false
is_live n (t ∷ live) = cond (t.number == n) true (is_live n live)

-- the live transaction of this number
abbrev pub live_of : ℕ → List Live → Live
live_of n [] = record { number = n; begin = 0; mode = Serial; accesses = []; place = unattached }
live_of n (t ∷ live) = cond (t.number == n) t (live_of n live)

-- the live transaction of this number, with these accesses
abbrev pub tx_of : World → (number : ℕ) → List Access → Live
tx_of W n accesses = record { number = n; begin = (live_of n W.live).begin; mode = (live_of n W.live).mode; accesses = accesses; place = unattached }

-- the numbers of the transactions under labels
abbrev pub racked : List (List ℕ × Posting) → List ℕ
racked rack = map (λ e. e.1.number) rack

-- whether the transaction is live and under no label
abbrev pub is_loose : ℕ → State → Bool
is_loose n S = is_live n S.world.live && (times n (racked S.rack) == 0)

-- what a post puts under the label
abbrev pub posting_of : World → (number : ℕ) → List Access → Posting
posting_of W n accesses = record { number = n; begin = (live_of n W.live).begin; mode = (live_of n W.live).mode; accesses = accesses }

-- the commit that the transaction would have become
abbrev pub lost_commit : World → (number : ℕ) → List Access → Commit
lost_commit W n accesses = record { begin = (live_of n W.live).begin; mode = (live_of n W.live).mode; accesses = accesses }

-- a member that was ended, without its answer, and its answer
abbrev pub member_of : MemberEnd → Member
member_of m = record { number = m.number; accesses = m.accesses }

abbrev pub members_of : List MemberEnd → List Member
members_of ends = map member_of ends

abbrev pub replies_of : List MemberEnd → List GroupReply
replies_of ends = map (λ m. m.reply) ends

-- the numbers of members
abbrev pub member_numbers : List Member → List ℕ
member_numbers members = map (λ m. m.number) members

-- the live transactions of members, each with its accesses
abbrev pub txs_of : World → List Member → List Live
txs_of W members = map (λ m. tx_of W m.number m.accesses) members

-- what the rules answer to a group of these members, and the world after it
abbrev pub group_answers : World → List Member → List GroupReply
group_answers W members = (group W (txs_of W members)).0

abbrev pub after_group : World → List Member → World
after_group W members = (group W (txs_of W members)).1

-- the commits that transactions make that are answered so, in order
abbrev pub commits_made : List Live → List GroupReply → List Commit
commits_made [] replies = []
commits_made (t ∷ txs) [] = []
commits_made (t ∷ txs) (reply ∷ replies) = made_by t reply ++ commits_made txs replies

-- the commits that the group would have made, all of them or none
abbrev pub lost_commits : World → List Member → List Commit
lost_commits W members = commits_made (txs_of W members) (group_answers W members)

abbrev pub after_end : World → (number : ℕ) → List Access → EndReply → World
after_end W n accesses (Committed k) = after_commit W (tx_of W n accesses)
after_end W n accesses ReadOnly = after_leaving W (tx_of W n accesses)
after_end W n accesses (Conflict c) = after_leaving W (tx_of W n accesses)

abbrev pub with_world : State → World → State
with_world S W = record S { world = W }

-- A fault of the disk ends the transaction of an end, and all members of a group, and sets the device down; in a compaction and
-- an upgrade it sets it down. In a fetch it changes nothing.
abbrev pub after_fault : State → Call → (now : ℕ) → State
after_fault S (call.Begin named) k = record S { faults = k }
after_fault S (call.Fetch n block) k = record S { faults = k }
after_fault S (call.End n accesses) k = record S { world = after_leaving S.world (tx_of S.world n accesses); lost = Some (lost_commit S.world n accesses ∷ []); faults = k }
after_fault S (call.EndGroup members) k = record S { world = leave_all (txs_of S.world members) S.world; lost = Some (lost_commits S.world members); faults = k }
after_fault S call.Trim k = record S { faults = k }
after_fault S call.Compact k = record S { lost = Some []; faults = k }
after_fault S call.Upgrade k = record S { lost = Some []; faults = k }
after_fault S (call.Post n label accesses) k = record S { faults = k }
after_fault S (call.Recent n) k = record S { faults = k }

-- a refusal changes nothing, but for a fault
abbrev pub after_refusal : State → Call → Cause → State
after_refusal S c (cause.Disk before now) = after_fault S c now
after_refusal S c why = S

abbrev pub after_sweep : State → Option ℕ → State
after_sweep S None = S
after_sweep S (Some n) = record S { world = after_leaving S.world (tx_of S.world n []); rack = drop 1 S.rack }

-- the state after an entry
abbrev pub after : State → Entry → State
after S (entry.Begin n at mode) = with_world S (after_begin S.world unattached mode)
after S (entry.Fetch n block bytes) = S
after S (entry.End n accesses reply) = with_world S (after_end S.world n accesses reply)
after S (entry.EndGroup ends) = with_world S (after_group S.world (members_of ends))
after S (entry.Abort n) = with_world S (after_leaving S.world (tx_of S.world n []))
after S (entry.Trim n) = with_world S (after_trim S.world)
after S (entry.Compact n) = with_world S (after_switch S.world S.world.geometry.form)
after S (entry.Upgrade n) = with_world S (after_switch S.world 2)
after S (entry.Stat numbers) = S
after S (entry.Post n label accesses) = record S { rack = S.rack ++ (label, posting_of S.world n accesses) ∷ [] }
after S (entry.Look label found) = record S { rack = remove_entry (bytes_eq label) S.rack }
after S (entry.Sweep found) = after_sweep S found
after S (entry.Recent n upto) = S
after S (entry.Refused c why) = after_refusal S c why

-- the state after a list of entries
abbrev pub after_all : State → List Entry → State
after_all S [] = S
after_all S (e ∷ es) = after_all (after S e) es

-- the state after a list that begins there
abbrev pub state_at : Start → List Entry → State
state_at A es = after_all (opened A) es
