-- What three writes after the gate of a half leave of an image.
use Rattle.std.specs.{Prelude.{◌≡◌, ℕ, ◌+◌, ◌*◌, ◌-◌, ◌<◌, ◌≤◌, IsTrue, List, [], ◌∷◌, ◌++◌, Option, Some, Result, OnErr, OnOk, length, take, drop}, List.AllByRecursion}
use Rattle.iso_model.specs.{declared.access.Geometry.Geometry, declared.limits.TheConstants.LAST, Geometry.is_valid, Image.{IsRecord, Written, half_header, records}}
use Rattle.counts.specs.Count.{HasCause}
use Rattle.iso_disk.specs.Disk.{DiskState, IsSettled, LeavesOnly, StaysTold, TellsTorn, TornFrom, spliced}
use Rattle.iso_image.specs.declared.places.HalfPlace.{HalfPlace}
use Rattle.half_switch.specs.{declared.plan.FillPlan.FillPlan, Laid.all_laid}

-- a header after its gate
abbrev pub header_tail : (form generation base : ℕ) → List ℕ
header_tail form generation base = take 31 (drop 1 (half_header 0 form generation base))

-- records, and a closed gate after them
abbrev pub closed_log : Geometry → (n : ℕ) → List Written → List ℕ
closed_log g n told = records g n told ++ 0 ∷ []

-- the image with these bytes in a half: its base, its header after the gate, and its log
abbrev pub filled_with : HalfPlace → (base front log old : List ℕ) → List ℕ
filled_with to base front log old = spliced (spliced (spliced old to.base base) (to.header + 1) front) to.log log

-- The half has these bytes after its gate in an image of which the disk told the rest.
pub record IsPut (to : HalfPlace) (header base log : List ℕ) (contents : Option (List ℕ)) (bytes : List ℕ) : Type 0 where
  pub old : List ℕ
  pub was : contents ≡ Some old
  pub is : bytes ≡ filled_with to base (take (length header - 1) (drop 1 header)) log old

-- the bytes are these records, the first of them with the number after the base, and one gate
pub record HasRecords (g : Geometry) (base used : ℕ) (told : List Written) (bytes : List ℕ) : Type 0 where
  pub gate : ℕ
  pub is : bytes ≡ records g (base + 1) told ++ gate ∷ []
  pub used_is : used ≡ length (records g (base + 1) told)

-- The image has what a half is filled with, from these bytes of a base and of a log.
pub record IsLaidOut (to : HalfPlace) (plan : FillPlan) (base log : List ℕ) (contents : Option (List ℕ)) (bytes : List ℕ) : Type 0 where
  pub old : List ℕ
  pub was : contents ≡ Some old
  pub is : (told : List Written) → AllByRecursion (IsRecord plan.geometry) told → plan.base - plan.old_base ≤ length told → plan.base ≤ LAST
      → HasRecords plan.geometry plan.old_base plan.used told log
      → bytes ≡ filled_with to (all_laid plan.geometry.block (take (plan.base - plan.old_base) told) base)
      (header_tail plan.geometry.form plan.generation plan.base)
      (closed_log plan.geometry (plan.base + 1) (drop (plan.base - plan.old_base) told)) old

-- The plan keeps its limits, and these are as many bytes as the base and the log that it copies have.
pub record FitsPlan (plan : FillPlan) (of_base of_log : List ℕ) : Type 0 where
  pub valid : IsTrue (is_valid plan.geometry)
  pub numbers : plan.old_base ≤ plan.base
  pub base : length of_base ≡ plan.geometry.blocks * plan.geometry.block
  pub log : length of_log ≡ plan.used + 1
  pub used : plan.used < plan.geometry.log

-- A disk of this size has a half at this place with so many bytes of a base and of a log.
pub record HasRoom (to : HalfPlace) (base log size : ℕ) : Type 0 where
  pub places : (to.base ≡ to.header + 32) × (to.log ≡ to.base + base)
  pub fits : to.log + log ≤ size

-- What a call makes that writes to n bytes at most after the gate of a half, and makes them stable.
pub record WritesHalf {T E : Type 0} (old new : DiskState) (gate n : ℕ) (result : Result T E) : Type 0 where
  pub moments : LeavesOnly old new (TornFrom (gate + 1) n old.now)
  pub settled : OnOk result (IsSettled new)
  pub told : OnOk result (StaysTold old new)
  pub failed : OnErr result (TellsTorn (gate + 1) n old new)
  pub cause : HasCause old.faults new.faults result
