-- Ends of many transactions, one after the other.
use Rattle.std.specs.Prelude.{◌≡◌, ◌≢◌, ◌+◌, ◌≤◌, ℕ, List, [], ◌∷◌, ◌++◌, Option, Some, None, Bool, true, false, Result, Ok, Err, IsSome, length, sum_by, take}
use Rattle.counts.specs.Count.{Rose}
use Rattle.iso_disk.specs.Disk.{DiskState, LeavesOnly, StaysTold, WritesNothing}
use Rattle.iso_model.specs.{declared.access.Geometry.Geometry, declared.access.GroupReply.GroupReply, declared.limits.TheConstants.LAST, Between.{ShowsEither, ShowsLast}, Effect.{record_length, runs}, History.last, World.{Live, World, used}}
use Rattle.iso_model.specs.declared.access.GroupReply.TheVariants as member
use Rattle.script_model.specs.{declared.script.Op.TheVariants.End, declared.script.Reply.Reply, declared.stop.Stop.Stop, Step.step}
use Rattle.script_model.specs.declared.script.Reply.TheVariants as reply
use Rattle.script_model.specs.declared.stop.Stop.TheVariants as stop
use Rattle.script_runner.specs.Told.{IfTold}

-- the replies to the ends of these numbers, each in the world after those before it
abbrev pub end_replies : World → List ℕ → List Reply
end_replies W [] = []
end_replies W (number ∷ numbers) = (step W number End).0 ∷ end_replies (step W number End).1 numbers

-- the world after them
abbrev pub after_ends : World → List ℕ → World
after_ends W [] = W
after_ends W (number ∷ numbers) = after_ends (step W number End).1 numbers

-- the image shows the world after a whole number of these ends, which is no less than that
pub record ShowsFrom (least : ℕ) (W : World) (numbers : List ℕ) (bytes : List ℕ) : Type 0 where
  pub count : ℕ
  pub from : least ≤ count
  pub shows : ShowsLast (after_ends W (take count numbers)) bytes

-- From the world W the first of these ends are answered as the model answers them, and all of them where nothing stopped them. The
-- desk then represents the world after those, unless the disk failed. At each moment an image shows the world after a whole number of
-- the ends, and at the end of the call no fewer than were answered.
pub record Waits (stands : World → Type 0) (old new : DiskState) (W : World) (numbers : List ℕ) (answers : List Reply) (why : Option Stop) : Type 0 where
  pub replies : answers ≡ end_replies W (take (length answers) numbers)
  pub all : why ≡ None → length answers ≡ length numbers
  pub world : why ≢ Some stop.Disk → stands (after_ends W (take (length answers) numbers))
  pub moments : LeavesOnly old new (ShowsFrom 0 W numbers)
  pub stable : (c : List ℕ) → new.now c → ShowsFrom (length answers) W numbers c
  pub told : why ≡ None → IfTold old (IsSome new.contents)
  pub up : why ≢ Some stop.Down
  pub later : old.faults ≤ new.faults
  pub failed : why ≡ Some stop.Disk → Rose old.faults new.faults
  pub passed : why ≢ Some stop.Disk → new.faults ≡ old.faults

-- a member's reply as that to an end of its own
abbrev pub told_of : GroupReply → Reply
told_of (member.Committed number) = reply.Committed number
told_of member.ReadOnly = reply.ReadOnly
told_of (member.Conflict clash) = reply.Conflict clash
told_of (member.Full need free) = reply.LogFull need free
told_of member.Worn = reply.Worn

-- of a member without a reply there is none
abbrev pub told_in : Option GroupReply → Reply
told_in None = reply.NotInTx
told_in (Some r) = told_of r

-- the bytes that the records of these transactions take
abbrev pub needs : Geometry → List Live → ℕ
needs g members = sum_by (λ t. record_length (runs g t.accesses)) members

-- the log has room for all their records, and there is a number for each commit
pub record Fit (W : World) (members : List Live) : Type 0 where
  pub room : needs W.geometry members + used W + 1 ≤ W.geometry.log
  pub numbers : last W.history + length members ≤ LAST

-- What came of ending them as one group: all ended so, or nothing was made, or the disk failed.
abbrev pub HasTried : (stands : World → Type 0) (old new : DiskState) (W : World) (numbers : List ℕ) (before after : List Reply) → Result Bool Stop → Type 0
HasTried stands old new W numbers before after (Ok true) =
    (after ≡ before ++ end_replies W numbers) × stands (after_ends W numbers) × LeavesOnly old new (ShowsEither W (after_ends W numbers)) × StaysTold old new × (new.faults ≡ old.faults)
HasTried stands old new W numbers before after (Ok false) = (after ≡ before) × stands W × WritesNothing old new × (new.faults ≡ old.faults)
HasTried stands old new W numbers before after (Err why) =
    (why ≡ stop.Disk) × (after ≡ before) × LeavesOnly old new (ShowsEither W (after_ends W numbers)) × (old.faults ≤ new.faults) × Rose old.faults new.faults
