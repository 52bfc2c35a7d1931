-- What a log was found to tell.
use Rattle.std.specs.{Prelude.{◌≡◌, ℕ, ◌+◌, ◌<◌, ◌≤◌, List, Some, length, take, drop}, List.AllByRecursion}
use Rattle.iso_model.specs.{declared.access.Geometry.Geometry, declared.limits.TheConstants.LAST, Image.{IsRecord, Written, records}, Premises.AreBytes}
use Rattle.commit_gate.specs.Gate.{IsOpen}
use Rattle.iso_format.specs.{declared.format_error.FormatError.FormatError, Records.fault_of}
use Rattle.iso_log.specs.Extent.{Extent}
use Rattle.iso_image.specs.{declared.open_error.OpenError.OpenError, Refusal.{damaged, log_at, log_refusal}}
use Rattle.iso_recover.specs.declared.front.Front.{Front}
use Rattle.mv_index.specs.{Placed.IsIndexOf, Versions.BlockVersions}

-- The gate is open, and the bytes after it fail this test as the record with this number.
pub record IsDamagedBy (g : Geometry) (place rest number : ℕ) (e : OpenError) (image : List ℕ) : Type 0 where
  pub opens : IsOpen place image
  pub fault : FormatError
  pub fails : fault_of g number (take rest (drop place image)) ≡ Some fault
  pub error_is : e ≡ damaged place fault

-- the bytes that these records take in the log of the front
abbrev pub read_bytes : Front → List Written → List ℕ
read_bytes f told = records f.geometry (f.base + 1) told

-- What is in memory once these records of the log were read: how far the log goes, and where their versions stand.
pub record HasRead (f : Front) (told : List Written) (log : Extent) (index : List BlockVersions) : Type 0 where
  pub each : AllByRecursion (IsRecord f.geometry) told
  pub values : AreBytes (read_bytes f told)
  pub log_is : log ≡ record { place = f.log; room = f.geometry.log; used = length (read_bytes f told); last = f.base + length told }
  pub numbers : f.base + length told ≤ LAST
  pub left : length (read_bytes f told) < f.geometry.log
  pub index_is : IsIndexOf f.geometry (f.base + 1) f.log f.base told index

-- The log of the image begins with them, and is refused for what the rest of it is refused for.
pub record BeginsLog (f : Front) (told : List Written) (image : List ℕ) : Type 0 where
  pub bytes : take (length (read_bytes f told)) (drop f.log image) ≡ read_bytes f told
  pub refusal_is : log_refusal f.geometry f.log (f.base + 1) f.geometry.log (log_at f.geometry f.half image)
      ≡ log_refusal f.geometry (f.log + length (read_bytes f told)) (f.base + 1 + length told) f.geometry.log (drop (length (read_bytes f told)) (log_at f.geometry f.half image))
