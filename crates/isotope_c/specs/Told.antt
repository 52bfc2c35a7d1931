-- What C is told of an answer, in the numbers and slices that it hands in.
use Rattle.std.specs.Int.{from_be_bytes, w32}
use Rattle.std.specs.Prelude.{Bool, true, false, ◌≡◌, ◌⊎◌, ℕ, ℤ, pos, ◌-◌, ◌==◌, if◌then◌else◌, List, [], ◌∷◌, ◌++◌, Option, None, Some, Result, Ok, Err, drop, length, map, min, nat_le, option_map}
use Rattle.iso_memdisk.specs.declared.record.Call.{Call}
use Rattle.iso_memdisk.specs.declared.record.Call.TheVariants.{Write, Sync}
use Rattle.iso_image.specs.declared.open_error.OpenError.{OpenError}
use Rattle.iso_image.specs.declared.open_error.OpenError.TheVariants as image
use Rattle.iso_model.specs.{declared.access.Geometry.Geometry, declared.access.GroupReply.GroupReply, declared.access.Mode.Mode, declared.access.Mode.TheVariants.{Serial, Snapshot}, Geometry.is_valid, History.last, Versions.versions, World.{Live, World, used}, declared.limits.TheConstants.MAX_ACCESSES}
use Rattle.iso_model.specs.declared.access.GroupReply.TheVariants as member
use Rattle.script_model.specs.{declared.script.Reply.Reply, declared.stop.Stop.Stop}
use Rattle.script_model.specs.declared.script.Reply.TheVariants as reply
use Rattle.device_desk.specs.{Oldest.oldest_of, Status.status_of}
use Rattle.isotope_c.specs.{declared.records.Ended.Ended, declared.records.NewImage.NewImage, declared.records.Numbers.Numbers, declared.records.Refusal.Refusal, declared.records.TapeCall.TapeCall, Codes.code_of}

-- the number of an answer's status
abbrev pub code : Result Reply Stop → ℤ
code answer = code_of (status_of answer)

-- what goes into a slice that is as long, and nothing into one that is not
abbrev pub fitted : (bytes into : List ℕ) → ℤ × List ℕ
fitted bytes into = if length bytes == length into then (pos 0, bytes) else (pos 28, into)

-- how many bytes are asked for to fill a slice; a block has fewer than the most of these
abbrev pub length_asked : (into : List ℕ) → ℕ
length_asked into = min (length into) 4294967295

-- the status, and what the slice has then, of an answer that shows bytes
abbrev pub shown : (into : List ℕ) → Result Reply Stop → ℤ × List ℕ
shown into (Ok (reply.Shown bytes)) = fitted bytes into
shown into answer = (code answer, into)

-- what goes to the front of a slice that has room for it, and nothing into a shorter one, and how long it is
abbrev pub laid : (bytes into : List ℕ) → ℤ × (List ℕ × ℕ)
laid bytes into = if nat_le (length bytes) (length into) then (pos 0, (bytes ++ drop (length bytes) into, length bytes)) else (pos 28, (into, length bytes))

-- the status, what the slice has then, and the length that is told, of an answer that finds bytes
abbrev pub found : (into : List ℕ) (len : ℕ) → Result Reply Stop → ℤ × (List ℕ × ℕ)
found into len (Ok (reply.Found bytes)) = laid bytes into
found into len answer = (code answer, (into, len))

-- the status, and the size that is told, of an answer that finds one: the four bytes that spell it
abbrev pub size_told : (size : ℕ) → Result Reply Stop → ℤ × ℕ
size_told size (Ok (reply.Found bytes)) = if length bytes == 4 then (pos 0, from_be_bytes w32 bytes) else (pos 18, size)
size_told size answer = (code answer, size)

-- a key or a value after its length, which takes one byte: a key has at most 28 bytes, a value 32
abbrev pub part_text : List ℕ → List ℕ
part_text part = min (length part) 255 ∷ part

-- pairs, each as its key and its value
abbrev pub pairs_text : List (List ℕ × List ℕ) → List ℕ
pairs_text [] = []
pairs_text (pair ∷ pairs) = part_text pair.0 ++ (part_text pair.1 ++ pairs_text pairs)

-- so, of an answer that finds pairs
abbrev pub scanned : (into : List ℕ) (len : ℕ) → Result Reply Stop → ℤ × (List ℕ × ℕ)
scanned into len (Ok (reply.Pairs pairs)) = laid (pairs_text pairs) into
scanned into len answer = (code answer, (into, len))

-- they are told, or memory for the text is wanting and nothing is
abbrev pub IsScanned : (into : List ℕ) (len : ℕ) → Result Reply Stop → ℤ × (List ℕ × ℕ) → Type 0
IsScanned into len answer told = (told ≡ scanned into len answer) ⊎ (told ≡ (pos 20, (into, len)))

-- the status, the transaction's number and the commit that it is shown, where one begins
abbrev pub begun : (number tx at : ℕ) → Result Reply Stop → ℤ × (ℕ × ℕ)
begun number tx at (Ok (reply.Began n)) = (pos 0, (number, n))
begun number tx at answer = (code answer, (tx, at))

-- an end of which nothing but the status counts
abbrev pub ended_so : ℤ → Ended
ended_so status = record { status = status; block = 0; at = 0; pad = 0; commit = 0; met = 0; need = 0; room = 0 }

-- how a transaction ended
abbrev pub ended_of : Result Reply Stop → Ended
ended_of (Ok (reply.Committed n)) = record (ended_so (pos 0)) { commit = n }
ended_of (Ok (reply.Conflict clash)) = record (ended_so (pos 1)) { met = clash.commit; block = clash.block; at = clash.at }
ended_of (Ok (reply.LogFull need free)) = record (ended_so (pos 4)) { need = need; room = free }
ended_of answer = ended_so (code answer)

-- how a member of a group ended, none for a number that no live transaction has
abbrev pub member_ended : Option GroupReply → Ended
member_ended None = ended_so (pos 23)
member_ended (Some (member.Committed n)) = record (ended_so (pos 0)) { commit = n }
member_ended (Some member.ReadOnly) = ended_so (pos 0)
member_ended (Some (member.Conflict clash)) = record (ended_so (pos 1)) { met = clash.commit; block = clash.block; at = clash.at }
member_ended (Some (member.Full need free)) = record (ended_so (pos 4)) { need = need; room = free }
member_ended (Some member.Worn) = ended_so (pos 19)

-- how an end was answered that had this reply
abbrev pub reply_ended : Reply → Ended
reply_ended r = ended_of (Ok r)

-- ends that have replies in the first places, and in the others the status of those that have none
abbrev pub filled : List Reply → (status : ℤ) → (places : List Ended) → List Ended
filled replies status [] = []
filled [] status (place ∷ places) = ended_so status ∷ filled [] status places
filled (r ∷ replies) status (place ∷ places) = reply_ended r ∷ filled replies status places

-- the status of ends that have no reply, 0 where each has one
abbrev pub stop_code : Option Stop → ℤ
stop_code None = pos 0
stop_code (Some why) = code (Err why)

abbrev pub waited_told : (places : List Ended) → List Reply → Option Stop → ℤ × List Ended
waited_told places replies stop = (stop_code stop, filled replies (stop_code stop) places)

-- these in the places of as many, as far as there are places
abbrev pub over : {T : Type 0} → List T → List T → List T
over [] places = places
over (x ∷ xs) [] = []
over (x ∷ xs) (place ∷ places) = x ∷ over xs places

-- the status and the places, of an answer to a group
abbrev pub group_told : List Ended → Result Reply Stop → ℤ × List Ended
group_told places (Ok (reply.Grouped answers)) = (pos 0, over (map member_ended answers) places)
group_told places answer = (code answer, places)

-- the status, and how many accesses the transaction may still make, where there is one
abbrev pub room_told : (accesses : ℕ) → Option Live → ℤ × ℕ
room_told accesses None = (pos 23, accesses)
room_told accesses (Some t) = (pos 0, MAX_ACCESSES - length t.accesses)

-- a call of the tape: 0 a write, 1 a sync, 2 the end of the tape, 28 a write whose bytes have no room
abbrev pub call_so : (what at len : ℕ) → TapeCall
call_so what at len = record { what = what; at = at; len = len }

-- a write whose bytes have room or none, before the rest of what is told
abbrev pub put_told : (has_room : Bool) (at : ℕ) (bytes into : List ℕ) (places : List TapeCall) (rest : List TapeCall × List ℕ) → List TapeCall × List ℕ
put_told true at bytes into places rest = (call_so 0 at (length bytes) ∷ rest.0, bytes ++ rest.1)
put_told false at bytes into places rest = (call_so 28 at (length bytes) ∷ places, into)

-- Calls of the tape in places, in order, and the bytes of the writes in a slice, one after the other: as far as there are places, and
-- until a write has no room. Behind the last call stands the end.
abbrev pub calls_told : List Call → (places : List TapeCall) (into : List ℕ) → List TapeCall × List ℕ
calls_told calls [] into = ([], into)
calls_told [] (place ∷ places) into = (call_so 2 0 0 ∷ places, into)
calls_told (Sync ∷ calls) (place ∷ places) into = (call_so 1 0 0 ∷ (calls_told calls places into).0, (calls_told calls places into).1)
calls_told (Write at put ∷ calls) (place ∷ places) into =
    put_told (nat_le (length put.items) (length into)) at put.items into places (calls_told calls places (drop (length put.items) into))

-- the mode that a number represents: 0 is the image's
abbrev pub mode_named : ℕ → Option (Option Mode)
mode_named n =
    if n == 0 then Some None
    else if n == 1 then Some (Some Serial)
    else if n == 2 then Some (Some Snapshot)
    else None

abbrev pub mode_number : Mode → ℕ
mode_number Serial = 1
mode_number Snapshot = 2

-- a geometry in numbers
abbrev pub image_of : Geometry → NewImage
image_of g = record { block_size = g.block; blocks = g.blocks; log = g.log; mode = mode_number g.mode; hash = g.hash; tree = g.tree }

-- the geometry of a new image, whose mode has a number of its own
abbrev pub geometry_in : NewImage → Option (Option Mode) → Option Geometry
geometry_in n (Some (Some mode)) = Some (record { block = n.block_size; blocks = n.blocks; log = n.log; mode = mode; hash = n.hash; tree = n.tree; form = 1 })
geometry_in n (Some None) = None
geometry_in n None = None

abbrev pub geometry_named : NewImage → Option Geometry
geometry_named n = geometry_in n (mode_named n.mode)

-- 29 where the mode has no number of its own, 27 where an image may not have such numbers, else 0
abbrev pub geometry_status : Option Geometry → ℤ
geometry_status None = pos 29
geometry_status (Some g) = if is_valid g then pos 0 else pos 27

-- the number of a transaction, 0 for none
abbrev pub number_in : Option ℕ → ℕ
number_in None = 0
number_in (Some n) = n

-- the counts of a world
abbrev pub counts : World → Numbers
counts W = record {
  last = last W.history;
  base = W.base;
  trim = W.trim;
  versions = versions W;
  oldest = number_in (option_map (λ t. t.number) (oldest_of W));
  live = length W.live;
  used = used W;
  log = W.geometry.log;
  form = W.geometry.form;
}

-- why an image did not open
abbrev pub refusal_of : OpenError → Refusal
refusal_of image.NotIsotope = record { why = 1; what = 0; at = 0; have = 0 }
refusal_of (image.BadGeometry field) = record { why = 2; what = field; at = 0; have = 0 }
refusal_of (image.WrongSize want have) = record { why = 3; what = 0; at = want; have = have }
refusal_of image.NoHalf = record { why = 4; what = 0; at = 0; have = 0 }
refusal_of (image.Damaged at cause) = record { why = 5; what = cause; at = at; have = 0 }
refusal_of (image.UnknownForm form) = record { why = 6; what = form; at = 0; have = 0 }
refusal_of image.Disk = record { why = 0; what = 0; at = 0; have = 0 }
refusal_of image.Memory = record { why = 0; what = 0; at = 0; have = 0 }
