-- What a crash may leave of a side while its epoch is raised.
use Rattle.std.specs.Prelude.{◌≡◌, ◌⊎◌, ℕ, ◌+◌, ◌≤◌, Bool, true, false, List, take, drop, replicate, Some, None, Result, OnOk}
use Rattle.counts.specs.Count.{HasCause, Rose}
use Rattle.commit_gate.specs.Gate.{IsClosed}
use Rattle.iso_disk.specs.Disk.{DiskState, IsSettled, LeavesOnly}
use Rattle.mirror_disk.specs.{declared.slot.{Mark.Mark, Slot.Slot}, Header.{IsHeader, slot_epoch, epoch, body, last_epoch, number_at}, Slots.{other, place}}

-- the image has a header with this epoch, and this slot holds it
pub record HasEpoch (slot : Slot) (e : ℕ) (image : List ℕ) : Type 0 where
  pub epoch_is : epoch image ≡ e
  pub slot_is : slot_epoch (place slot) image ≡ e
  pub header : IsHeader image

-- each image that a crash now may leave is so
abbrev pub EachNow : DiskState → (List ℕ → Type 0) → Type 0
EachNow d P = (x : List ℕ) → d.now x → P x

-- this was read in the header of a disk that is stable
abbrev pub HasMark : DiskState → Mark → Type 0
HasMark d m = (m.epoch ≤ last_epoch) × EachNow d (HasEpoch m.slot m.epoch)

-- what is after this gate: seven zeros, and the epoch
pub record HoldsEpoch (gate e : ℕ) (image : List ℕ) : Type 0 where
  pub zeros : take 7 (drop (gate + 1) image) ≡ replicate 7 0
  pub number : number_at (gate + 8) image ≡ e

-- every image that a crash now may leave has this epoch, and the header of what is told
pub record IsMarked (slot : Slot) (e : ℕ) (d : DiskState) : Type 0 where
  pub each : (x : List ℕ) → d.now x → HasEpoch slot e x
  pub fronts : (x c : List ℕ) → d.now x → d.contents ≡ Some c → take 64 x ≡ take 64 c
  pub told : (x : List ℕ) → d.now x → (c : List ℕ) × (d.contents ≡ Some c)

-- a header with the old epoch and the mirrored bytes of an image of before, or the next one with those that were told
abbrev pub Raising : (e next : ℕ) → DiskState → List ℕ → Type 0
Raising e next old image =
    IsHeader image × (((epoch image ≡ e) × ((x : List ℕ) × old.now x × (body image ≡ body x)))
    ⊎ ((epoch image ≡ next) × ((c : List ℕ) × (old.contents ≡ Some c) × (body image ≡ body c))))

-- what is told of the mirrored bytes stays
pub record KeepsBody (old new : DiskState) : Type 0 where
  pub told : (c : List ℕ) → old.contents ≡ Some c → (d : List ℕ) × (new.contents ≡ Some d) × (body d ≡ body c)
  pub untold : old.contents ≡ None → new.contents ≡ None

-- the epoch of before in this slot, with the mirrored bytes of an image of before
pub record Still (slot : Slot) (e : ℕ) (old : DiskState) (image : List ℕ) : Type 0 where
  pub marked : HasEpoch slot e image
  pub was : List ℕ
  pub is_old : old.now was
  pub same : body image ≡ body was

-- Of a call that puts the next epoch into the slot that does not hold the one so far: each image has the one or the other, and what is
-- told of the mirrored bytes stays.
pub record RaisesTo {T E : Type 0} (slot : Slot) (next : ℕ) (old new : DiskState) (result : Result T E) : Type 0 where
  pub moments : (e : ℕ) → IsMarked slot e old → e ≤ next → LeavesOnly old new (Raising e next old)
  pub raised : OnOk result (EachNow new (HasEpoch (other slot) next))
  pub settled : OnOk result (IsSettled new)
  pub body : KeepsBody old new
  pub cause : HasCause old.faults new.faults result

-- and of one that shuts the gate of that slot, and leaves the epoch as it is
pub record ShutsGate {T E : Type 0} (slot : Slot) (gate : ℕ) (old new : DiskState) (result : Result T E) : Type 0 where
  pub moments : (e : ℕ) → IsMarked slot e old → LeavesOnly old new (Still slot e old)
  pub shut : (e : ℕ) → IsMarked slot e old → OnOk result (EachNow new (IsClosed gate))
  pub body : KeepsBody old new
  pub cause : HasCause old.faults new.faults result

-- of one that raises the epoch by one, if there is a larger one
pub record RaisesByOne (slot : Slot) (e : ℕ) (old new : DiskState) (done : Bool) : Type 0 where
  pub moments : LeavesOnly old new (Raising e (e + 1) old)
  pub raised : done ≡ true → EachNow new (HasEpoch (other slot) (e + 1))
  pub settled : done ≡ true → IsSettled new
  pub body : KeepsBody old new
  pub later : old.faults ≤ new.faults
  pub cause : done ≡ false → (last_epoch ≤ e) ⊎ Rose old.faults new.faults

-- a disk with room for a header, and the gate of its slot that is not this one
pub record HasGate (d : DiskState) (slot : Slot) (at : ℕ) : Type 0 where
  pub size : 64 ≤ d.size
  pub gate : at ≡ place (other slot)

-- a disk with room for a header, and an epoch that may come next: it is none above the last one, and none below the one so far
pub record Follows (slot : Slot) (next : ℕ) (d : DiskState) : Type 0 where
  pub size : 64 ≤ d.size
  pub last : next ≤ last_epoch
  pub marked : (e : ℕ) × IsMarked slot e d × (e ≤ next)
