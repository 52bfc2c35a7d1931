-- What a call does to the moments of a queued disk: nothing, or one more call on its tape.
use Rattle.std.proofs.Common.{◌≡◌, ℕ, List, [], ◌∷◌, ◌++◌, length, Some, Vec, refl, sym, ◌∙◌, ap, subst, append_assoc}
use Rattle.std.proofs.lemmas.List.{append-nil}
use Rattle.std.specs.declared.alloc.Global.{Global}
use Rattle.iso_disk.{proofs.Moments.{goes_on_unwritten, starts_unwritten}, specs.Disk.{Elapses, IsSettled, TornFrom, WritesNothing, spliced}}
use Rattle.iso_memdisk.{proofs.Moves.{elapses_same, elapses_call, bytes_call, images_now, synced_image}, specs.{declared.record.Call.Call, declared.record.Call.TheVariants.{Write, Sync}, Record.written}}
use Rattle.queued_disk.specs.{declared.queued.QueuedDisk.QueuedDisk, Past.in_order, Queued.{Appends, IsUntouched, calls_of, file_with, given, handed_on, state_of, tape_of}, Laws.lawful}

calls_same : (old new : QueuedDisk) → IsUntouched old new → calls_of new ≡ calls_of old
calls_same old new same i = in_order (same.past i) ++ same.tape i

calls_more : (old new : QueuedDisk) (call : Call) → Appends old new call → calls_of new ≡ calls_of old ++ call ∷ []
calls_more old new call more = (λ i. in_order (more.past i) ++ more.tape i) ∙ sym (append_assoc (handed_on old) (tape_of old) (call ∷ []))

-- no call of a disk changes the file that it is bound to
same_file : (old new : QueuedDisk) → given new ≡ given old → new.past ≡ old.past → (state_of new).bound ≡ (state_of old).bound
same_file old new same past = λ i. Some (0, file_with (same i) (in_order (past i)))

-- nothing was done
pub elapses_untouched : {old new : QueuedDisk} {among : List ℕ → Type 0} → IsUntouched old new → ((c : List ℕ) → (state_of old).now c → among c) → Elapses (state_of old) (state_of new) among
elapses_untouched {old = old} {new = new} same within = elapses_same same.given (calls_same old new same) (same_file old new same.given same.past) refl within

pub contents_untouched : {old new : QueuedDisk} → IsUntouched old new → (state_of new).contents ≡ (state_of old).contents
contents_untouched {old = old} {new = new} same = λ i. Some (written (calls_same old new same i) (same.given i))

-- after a write
pub elapses_write : {old new : QueuedDisk} (at : ℕ) (put : Vec ℕ Global) (bytes : List ℕ) → Appends old new (Write at put) → put.items ≡ bytes → Elapses (state_of old) (state_of new) (TornFrom at (length bytes) (state_of old).now)
elapses_write {old = old} {new = new} at put bytes more is = elapses_call (calls_of old) (Write at put) more.given (calls_more old new (Write at put) more) (same_file old new more.given more.past) refl (λ c torn. subst (λ (b : List ℕ). TornFrom at (length b) (state_of old).now c) is torn)

pub contents_write : {old new : QueuedDisk} (at : ℕ) (put : Vec ℕ Global) (bytes : List ℕ) → Appends old new (Write at put) → put.items ≡ bytes → (state_of new).contents ≡ Some (spliced (written (calls_of old) (given old)) at bytes)
contents_write {old = old} {new = new} at put bytes more is = ap Some (bytes_call (calls_of old) (Write at put) more.given (calls_more old new (Write at put) more) ∙ ap (spliced (written (calls_of old) (given old)) at) is)

-- after a sync
pub elapses_sync : {old new : QueuedDisk} → Appends old new Sync → Elapses (state_of old) (state_of new) (state_of old).now
elapses_sync {old = old} {new = new} more = elapses_call (calls_of old) Sync more.given (calls_more old new Sync more) (same_file old new more.given more.past) refl (synced_image (calls_of old) (given old) old.writes_fit)

pub contents_sync : {old new : QueuedDisk} → Appends old new Sync → (state_of new).contents ≡ (state_of old).contents
contents_sync {old = old} {new = new} more = ap Some (bytes_call (calls_of old) Sync more.given (calls_more old new Sync more))

pub settled_sync : {old new : QueuedDisk} → Appends old new Sync → IsSettled (state_of new)
settled_sync {old = old} {new = new} more c image =
    let all = calls_more old new Sync more in
    ap Some (bytes_call (calls_of old) Sync more.given all ∙ sym (images_now (calls_of old) Sync more.given all c image))

-- once the tape is handed on
pub handed : (old new : QueuedDisk) → new.past ≡ tape_of old ∷ old.past → tape_of new ≡ [] → calls_of new ≡ calls_of old
handed old new past none = (λ i. in_order (past i) ++ none i) ∙ append-nil (calls_of old)

pub unwritten : (old new : QueuedDisk) → given new ≡ given old → calls_of new ≡ calls_of old → WritesNothing (state_of old) (record (state_of new) { bound = (state_of old).bound })
unwritten old new same calls =
    goes_on_unwritten (lawful old) (starts_unwritten (lawful old)) (λ i. Some (written (calls i) (same i))) (elapses_same same calls refl refl (λ c image. image))
