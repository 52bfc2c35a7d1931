-- What an export makes of a slot.
use Rattle.std.specs.Prelude.{◌≡◌, ℕ, ℤ, pos, false, true, List, [], Option, None, Some, Result, Err, replicate}
use Rattle.iso_disk.specs.Disk.{LeavesOnly}
use Rattle.iso_model.specs.{declared.access.Geometry.Geometry, Geometry.image_size, History.History, World.{World, empty_history, fresh}}
use Rattle.iso_image.specs.{declared.open_error.OpenError.OpenError, Refusal.refusal}
use Rattle.iso_recover.specs.{Cause.IsTest, Made.IsUnmadeOrEmpty}
use Rattle.iso_machine.specs.Answering.{Answers as AnswersAs}
use Rattle.script_model.specs.{declared.script.Op.Op, declared.script.Reply.Reply, declared.stop.Stop.Stop}
use Rattle.script_model.specs.declared.stop.Stop.TheVariants as stop
use Rattle.queued_disk.specs.{declared.queued.QueuedDisk.QueuedDisk, Queued.{calls_of, file_of, file_with, given, handed_on, is_failed, state_of, tape_of}}
use Rattle.device_desk.specs.{Device.{Answered, Device, StandsAt, disk_under, state_at}, Opened.{IsOpenedAs, IsReopenedAs}, Sizes.Sized, Waiting.Waits}
use Rattle.isotope_c.specs.{declared.records.Refusal.Refusal, declared.instance.Instance.Instance, declared.slot.Slot.Slot, Codes.code_of_open, Instances.{desk_in, laid_in}, Told.{code, refusal_of}}

-- the open device in a slot, and the bytes of an image that is being laid
abbrev pub device_in : Slot → Option (Device QueuedDisk)
device_in s = desk_in s.inner.instance

abbrev pub bytes_in : Slot → Option (List ℕ)
bytes_in s = laid_in s.inner.instance

-- nothing is in it
abbrev pub IsEmpty : Slot → Type 0
IsEmpty s = s.inner.instance ≡ None

-- The device is in the slot again, and has answered so. Of that answer C is told this. What the file had, and what was done to it, is
-- as before: all else that the answer rests on is on the tape.
pub record HasAnswered (old : Device QueuedDisk) (new : Slot) (Did : Device QueuedDisk → Result Reply Stop → Type 0) (IsTold : Result Reply Stop → Type 0) : Type 0 where
  pub now : Device QueuedDisk
  pub there : device_in new ≡ Some now
  pub file : file_of (disk_under now) ≡ file_of (disk_under old)
  pub answer : Result Reply Stop
  pub did : Did now answer
  pub told : IsTold answer

-- What a call makes of a slot, and what its status is.
pub record ServesSo (old new : Slot) (status : ℤ) (Did : (old new : Device QueuedDisk) → World → Result Reply Stop → Type 0) (IsTold : Result Reply Stop → Type 0) : Type 0 where
  -- where no device is open: closed, and the slot stays as it is
  pub closed : device_in old ≡ None → (status ≡ pos 24) × (new ≡ old)
  -- a device that is down says so, and stays as it is
  pub down : (d : Device QueuedDisk) → device_in old ≡ Some d → d.up ≡ false → IsTold (Err stop.Down) × (device_in new ≡ Some d)
  -- one that represents a world answers from it
  pub answer : (d : Device QueuedDisk) (W : World) → device_in old ≡ Some d → StandsAt state_of d W → HasAnswered d new (λ now answer. Did d now W answer) IsTold

-- the operation of the transaction of this number is answered as the model does
abbrev pub Serves : (old new : Slot) (status : ℤ) (number : ℕ) → Op → (IsTold : Result Reply Stop → Type 0) → Type 0
Serves old new status number op IsTold = ServesSo old new status (λ d now W answer. Answered state_of d now W number op answer) IsTold

-- and the size of the file of a name so
abbrev pub TellsSize : (old new : Slot) (status : ℤ) (number : ℕ) (name : List ℕ) → (IsTold : Result Reply Stop → Type 0) → Type 0
TellsSize old new status number name IsTold = ServesSo old new status (λ d now W answer. Sized state_of d now W number name answer) IsTold

-- the status is that of the answer
abbrev pub Says : (status : ℤ) → Result Reply Stop → Type 0
Says status answer = status ≡ code answer

-- The device is in the slot again, and has answered from the world W what is given here. Of that answer C is told this.
pub record HasStepped (old : Device QueuedDisk) (new : Slot) (goes_on : Stop → Type 0) (W : World) (given : Reply × World) (IsTold : Result Reply Stop → Type 0) : Type 0 where
  pub now : Device QueuedDisk
  pub there : device_in new ≡ Some now
  pub file : file_of (disk_under now) ≡ file_of (disk_under old)
  pub answer : Result Reply Stop
  pub did : AnswersAs goes_on (StandsAt state_of now) (state_at state_of old) (state_at state_of now) W given answer
  pub told : IsTold answer

-- So too of an open device, for a call that is more than an operation of one transaction.
pub record Steps (old new : Slot) (goes_on : Stop → Type 0) (given : World → Reply × World) (IsTold : World → Result Reply Stop → Type 0) : Type 0 where
  pub down : (d : Device QueuedDisk) (W : World) → device_in old ≡ Some d → d.up ≡ false → IsTold W (Err stop.Down) × (device_in new ≡ Some d)
  pub answer : (d : Device QueuedDisk) (W : World) → device_in old ≡ Some d → StandsAt state_of d W → HasStepped d new goes_on W (given W) (IsTold W)

-- The device is in the slot again, and has ended transactions of these numbers one after the other from the world W. Of that C is told this.
pub record HasWaited (old : Device QueuedDisk) (new : Slot) (W : World) (numbers : List ℕ) (IsTold : List Reply → Option Stop → Type 0) : Type 0 where
  pub now : Device QueuedDisk
  pub there : device_in new ≡ Some now
  pub file : file_of (disk_under now) ≡ file_of (disk_under old)
  pub answers : List Reply
  pub why : Option Stop
  pub did : Waits (StandsAt state_of now) (state_at state_of old) (state_at state_of now) W numbers answers why
  pub told : IsTold answers why

-- so of an open device: none are ended where it is down
pub record EndsWaiting (old new : Slot) (numbers : List ℕ) (IsTold : List Reply → Option Stop → Type 0) : Type 0 where
  pub down : (d : Device QueuedDisk) → device_in old ≡ Some d → d.up ≡ false → IsTold [] (Some stop.Down) × (device_in new ≡ Some d)
  pub answer : (d : Device QueuedDisk) (W : World) → device_in old ≡ Some d → StandsAt state_of d W → HasWaited d new W numbers IsTold

-- A new image: the device represents the empty history, and at each moment its blank disk held an image of that history, or one that
-- is refused as none of this project.
pub record IsMade (d : Device QueuedDisk) (g : Geometry) : Type 0 where
  pub blank : QueuedDisk
  pub zeros : given blank ≡ replicate (image_size g) 0
  pub untouched : calls_of blank ≡ []
  pub file : file_of (disk_under d) ≡ file_with (replicate (image_size g) 0) []
  pub stands : StandsAt state_of d (fresh g 1 (empty_history g))
  pub moments : LeavesOnly (state_of blank) (state_at state_of d) (IsUnmadeOrEmpty g)

pub record HasMade (holds : Option Instance) (g : Geometry) : Type 0 where
  pub now : Device QueuedDisk
  pub there : desk_in holds ≡ Some now
  pub made : IsMade now g

-- the device is open on the image of these bytes, which its file has
pub record HasOpened (holds : Option Instance) (bytes : List ℕ) : Type 0 where
  pub now : Device QueuedDisk
  pub there : desk_in holds ≡ Some now
  pub file : file_of (disk_under now) ≡ file_with bytes []
  pub opened : IsOpenedAs state_of now (Some bytes)

-- the device is open on this history, which ends at commit p
pub record HasReopened (holds : Option Instance) (g : Geometry) (H : History) (p : ℕ) : Type 0 where
  pub now : Device QueuedDisk
  pub there : desk_in holds ≡ Some now
  pub reopened : IsReopenedAs state_of now g H p

-- the bytes are refused for this error, and C is told so
pub record HasRefused (bytes : List ℕ) (status : ℤ) (why : Refusal) : Type 0 where
  pub error : OpenError
  pub refused : IsTest error → refusal bytes ≡ Some error
  pub told : status ≡ code_of_open error
  pub because : why ≡ refusal_of error

-- what was on the tape is done to the file: the device is as it was, and its tape empty
pub record HasHandedOn (old : Device QueuedDisk) (new : Slot) : Type 0 where
  pub now : Device QueuedDisk
  pub there : device_in new ≡ Some now
  pub tape : tape_of (disk_under now) ≡ []
  pub given : given (disk_under now) ≡ given (disk_under old)
  pub handed : handed_on (disk_under now) ≡ calls_of (disk_under old)
  pub same : (W : World) → StandsAt state_of old W → StandsAt state_of now W
  pub still : now.up ≡ old.up

-- a call of the tape has failed: the device is down, its disk takes no more, and nothing is left on its tape to be done
pub record HasFailed (old : Device QueuedDisk) (new : Slot) : Type 0 where
  pub now : Device QueuedDisk
  pub there : device_in new ≡ Some now
  pub down : now.up ≡ false
  pub failed : is_failed (disk_under now) ≡ true
  pub tape : tape_of (disk_under now) ≡ []
  pub handed : handed_on (disk_under now) ≡ calls_of (disk_under old)
