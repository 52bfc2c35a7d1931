-- What a half of an image holds.
use Rattle.std.specs.{Prelude.{◌≡◌, ℕ, ◌+◌, ◌-◌, ◌≤◌, List, ◌++◌, length, replicate, take, drop, map}, List.AllByRecursion}
use Rattle.iso_model.specs.{declared.access.Geometry.Geometry, declared.limits.TheConstants.LAST, Array.Array, Geometry.{header_place, base_place, image_size, log_place}, History.{History, array_at}, Image.{IsImage, IsLog, IsRecord, Written, blocks_of, commits_of, half_header, records, superblock, written}, World.World}

-- A half, 0 or 1: its generation, the number and the array of its base, and the records that its log tells.
pub record Half : Type 0 where
  pub at : ℕ
  pub generation : ℕ
  pub base : ℕ
  pub array : Array
  pub told : List Written

-- the history that it tells
abbrev pub history_of : Geometry → Half → History
history_of g x = record { first = x.base + 1; base = x.array; commits = commits_of g (x.base + 1) x.told }

-- The image holds this half as its current one.
pub record IsHeld (g : Geometry) (x : Half) (bytes : List ℕ) : Type 0 where
  pub image : IsImage bytes g x.generation (history_of g x)
  pub at_is : image.half ≡ x.at
  pub told_is : image.told ≡ x.told

-- a half with the commits of the history above number b, over the array at it
abbrev pub half_of : Geometry → (at generation b : ℕ) → History → Half
half_of g at generation b H = record {
  at = at;
  generation = generation;
  base = b;
  array = array_at H b;
  told = map (written g) (drop (b + 1 - H.first) H.commits);
}

-- the half of a world
abbrev pub half_of_world : World → (at : ℕ) → Half
half_of_world W at = half_of W.geometry at W.generation W.base W.history

-- the half with these records after its others
abbrev pub with_records : List Written → Half → Half
with_records more x = record x { told = x.told ++ more }

-- the number of the last record
abbrev pub last_told : Half → ℕ
last_told x = x.base + length x.told

-- the bytes that its records take
abbrev pub told_bytes : Geometry → Half → List ℕ
told_bytes g x = records g (x.base + 1) x.told

-- where the gate of the next record is
abbrev pub next_gate : Geometry → Half → ℕ
next_gate g x = log_place g x.at + length (told_bytes g x)

-- records that may follow: their numbers are not above the last one, and they fit the log with the gate after them
pub record MayFollow (g : Geometry) (x : Half) (more : List Written) : Type 0 where
  pub each : AllByRecursion (IsRecord g) more
  pub numbers : last_told x + length more ≤ LAST
  pub room : length (told_bytes g (with_records more x)) + 1 ≤ g.log

-- the same geometry in this form
abbrev pub in_form : ℕ → Geometry → Geometry
in_form form g = record g { form = form }

-- in the image the log at this place has these records, the first of them with the number first, and then a closed gate
abbrev pub HasLog : (place room : ℕ) → Geometry → (first : ℕ) → List Written → List ℕ → Type 0
HasLog place room g first told image = IsLog g first told (take room (drop place image))

-- The half is written after its gate, in the form of the geometry.
pub record IsFilled (g : Geometry) (x : Half) (bytes : List ℕ) : Type 0 where
  pub header : take 31 (drop (header_place g x.at + 1) bytes) ≡ take 31 (drop 1 (half_header 1 g.form x.generation x.base))
  pub array : x.array ≡ blocks_of g.block g.blocks (drop (base_place g x.at) bytes)
  pub log : HasLog (log_place g x.at) g.log g (x.base + 1) x.told bytes

-- The two halves are one, as far as an image tells.
pub record AreOne (g f : Geometry) (x y : Half) : Type 0 where
  pub geometry : g ≡ f
  pub at : x.at ≡ y.at
  pub generation : x.generation ≡ y.generation
  pub history : history_of g x ≡ history_of f y

-- the bytes of an image of form 1 on which nothing was committed
abbrev pub empty_image : Geometry → List ℕ
empty_image g = superblock 1 g ++ half_header 1 1 1 0 ++ replicate (image_size g - 96) 0
