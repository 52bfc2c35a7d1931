-- What a half is filled with, and from which half.
use Rattle.std.specs.Prelude.{◌≡◌, ℕ, ◌+◌, ◌-◌, ◌<◌, ◌≤◌, List, length, drop}
use Rattle.iso_model.specs.{declared.access.Geometry.Geometry, declared.limits.TheConstants.LAST, Geometry.{header_place, base_place, log_place}, History.array_at}
use Rattle.iso_image.specs.{declared.places.HalfPlace.HalfPlace, Changes.MaySwitch, Half.{Half, IsFilled, IsHeld, history_of, in_form, last_told, told_bytes}}
use Rattle.half_switch.specs.declared.plan.FillPlan.{FillPlan}

-- where the parts of half 0 or 1 begin
abbrev pub place_of : Geometry → (half : ℕ) → HalfPlace
place_of g half = record { header = header_place g half; base = base_place g half; log = log_place g half }

-- These are the places of the two halves of an image.
pub record AreHalves (g : Geometry) (from to : HalfPlace) : Type 0 where
  pub half : ℕ
  pub other : ℕ
  pub both : half + other ≡ 1
  pub from_is : from ≡ place_of g half
  pub to_is : to ≡ place_of g other

-- The plan is for an image of this geometry, in whatever form, and this half of it is at that place.
pub record IsFrom (g : Geometry) (x : Half) (from : HalfPlace) (plan : FillPlan) : Type 0 where
  pub geometry : plan.geometry ≡ in_form plan.geometry.form g
  pub place : from ≡ place_of g x.at

-- The plan copies this half: its numbers are the half's own, the new generation is higher, and the new base lies from the
-- half's base to its last number.
pub record Copies (g : Geometry) (x : Half) (from : HalfPlace) (plan : FillPlan) : Type 0 where
  pub is_from : IsFrom g x from plan
  -- the form does not fall
  pub form : plan.geometry.form ≡ 1 → g.form ≡ 1
  pub old_base : plan.old_base ≡ x.base
  pub until : plan.base ≤ last_told x
  pub used : plan.used ≡ length (told_bytes g x)
  pub later : x.generation < plan.generation
  pub generation : plan.generation ≤ LAST

-- the half at the other place, with this generation and this base: the array of the half's history at that number, and
-- the records above it
abbrev pub refilled : Geometry → (generation base : ℕ) → Half → Half
refilled g generation base x = record {
  at = 1 - x.at;
  generation = generation;
  base = base;
  array = array_at (history_of g x) base;
  told = drop (base - x.base) x.told;
}

-- The image holds the one half, and the other is filled and may come after it, in an image whose form becomes this one.
pub record IsReady (g : Geometry) (form : ℕ) (x y : Half) (bytes : List ℕ) : Type 0 where
  pub may : MaySwitch g form x y
  pub held : IsHeld g x bytes
  pub filled : IsFilled (in_form form g) y bytes
