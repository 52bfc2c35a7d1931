-- A queued disk as the trait sees it: the bytes that it was given, and all calls since, are replayed for every question.
use Rattle.std.specs.Prelude.{◌≡◌, ℕ, Bool, List, [], ◌∷◌, ◌++◌, Option, None, Some, length}
use Rattle.iso_disk.specs.Disk.{DiskState}
use Rattle.iso_memdisk.specs.{declared.record.Call.Call, declared.record.Call.TheVariants.{Write, Sync}, Replayed.replayed}
use Rattle.queued_disk.specs.{declared.queued.QueuedDisk.QueuedDisk, Past.in_order}

-- the bytes that it was given
abbrev pub given : QueuedDisk → List ℕ
given d = d.given.value.items

-- the calls that were handed on
abbrev pub handed_on : QueuedDisk → List Call
handed_on d = in_order d.past

-- the calls that are still on the tape
abbrev pub tape_of : QueuedDisk → List Call
tape_of d = d.tape.items

-- all calls since it was given its bytes
abbrev pub calls_of : QueuedDisk → List Call
calls_of d = handed_on d ++ tape_of d

-- what a read gives
abbrev pub bytes_of : QueuedDisk → List ℕ
bytes_of d = d.bytes.items

-- a call of the caller's has failed
abbrev pub is_failed : QueuedDisk → Bool
is_failed d = d.failed

-- a call in numbers: where it writes, how much, and the bytes
abbrev pub call_text : Call → List ℕ
call_text Sync = 0 ∷ []
call_text (Write at put) = 1 ∷ at ∷ length put.items ∷ put.items

abbrev pub calls_text : List Call → List ℕ
calls_text [] = []
calls_text (call ∷ calls) = call_text call ++ calls_text calls

-- the call by place and bytes; a sync has none
abbrev pub said : Call → Option (ℕ × List ℕ)
said Sync = None
said (Write at put) = Some (at, put.items)

-- the name of a file that had these bytes, and to which these calls were done since
abbrev pub file_with : List ℕ → List Call → List ℕ
file_with first done = length first ∷ (first ++ calls_text done)

-- the file of the disk: it had the bytes that the disk was given, and what was handed on is done
abbrev pub file_of : QueuedDisk → List ℕ
file_of d = file_with (given d) (handed_on d)

-- The disk is bound to its file, so no call changes what the file had, nor what was done to it.
abbrev pub state_of : QueuedDisk → DiskState
state_of d = replayed (given d) (calls_of d) d.faults 0 (Some (0, file_of d)) (λ _. None)

-- nothing was done to the bytes, and no call was added
pub record IsUntouched (old new : QueuedDisk) : Type 0 where
  pub given : new.given.value.items ≡ old.given.value.items
  pub past : new.past ≡ old.past
  pub tape : new.tape.items ≡ old.tape.items

-- one more call is on the tape
pub record Appends (old new : QueuedDisk) (call : Call) : Type 0 where
  pub given : new.given.value.items ≡ old.given.value.items
  pub past : new.past ≡ old.past
  pub tape : new.tape.items ≡ old.tape.items ++ call ∷ []
