-- How the bytes of an image change: what the laws of `laws` take of a change.
use Rattle.std.specs.{Prelude.{◌≡◌, ◌⊎◌, ℕ, ◌+◌, ◌<◌, ◌≤◌, IsTrue, List, length}, List.AllByRecursion}
use Rattle.iso_model.specs.{declared.access.Geometry.Geometry, declared.limits.TheConstants.LAST, Geometry.{half_size, header_place, is_valid, log_place}, Image.IsRecord}
use Rattle.iso_disk.specs.Disk.{spliced, Torn}
use Rattle.commit_gate.specs.Gate.{IsClosed}
use Rattle.iso_image.specs.Half.{Half, in_form, last_told}

-- The bytes from a gate on are written, in part or whole: the gate is closed, or all of them stand.
pub record Appending (gate : ℕ) (bytes old new : List ℕ) : Type 0 where
  pub torn : Torn gate (length bytes) old new
  pub state : IsClosed gate new ⊎ (new ≡ spliced old gate bytes)

-- only bytes of this half's log change
pub record InLog (g : Geometry) (at : ℕ) (old new : List ℕ) : Type 0 where
  pub from : ℕ
  pub count : ℕ
  pub starts : log_place g at ≤ from
  pub ends : from + count ≤ log_place g at + g.log
  pub torn : Torn from count old new

-- only bytes of this half change
pub record InHalf (g : Geometry) (at : ℕ) (old new : List ℕ) : Type 0 where
  pub from : ℕ
  pub count : ℕ
  pub starts : header_place g at ≤ from
  pub ends : from + count ≤ header_place g at + half_size g
  pub torn : Torn from count old new

-- The second half may come after the first one, in an image whose form becomes this one.
pub record MaySwitch (g : Geometry) (form : ℕ) (x y : Half) : Type 0 where
  pub both : x.at + y.at ≡ 1
  pub later : x.generation < y.generation
  pub generation : y.generation ≤ LAST
  pub numbers : last_told y ≤ LAST
  pub valid : IsTrue (is_valid (in_form form g))
  pub each : AllByRecursion (IsRecord (in_form form g)) y.told
