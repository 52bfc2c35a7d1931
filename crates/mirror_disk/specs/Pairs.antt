-- The state of a mirror, made of the states of its sides.
use Rattle.std.specs.{Prelude.{◌≡◌, ℕ, ◌-◌, ◌≤◌, ◌==◌, Bool, List, [], ◌∷◌, ◌++◌, length, take, slice_index, Option, Some, None, cond, nat_lt}, Option.option_map}
use Rattle.iso_disk.specs.Disk.{DiskState}
use Rattle.mirror_disk.specs.Header.{chosen}

-- the bytes that are chosen of an image of the first side and one of the second
pub record ChosenOf (firsts seconds : List ℕ → Type 0) (bytes : List ℕ) : Type 0 where
  pub first : List ℕ
  pub second : List ℕ
  pub of_first : firsts first
  pub of_second : seconds second
  pub is : bytes ≡ chosen first second

-- what a mirror tells where both sides tell their bytes
abbrev pub chosen_told : Option (List ℕ) → Option (List ℕ) → Option (List ℕ)
chosen_told (Some first) (Some second) = Some (chosen first second)
chosen_told (Some first) None = None
chosen_told None second = None

-- the moments of the two sides at a moment of the mirror, by those before its calls, the last one first, and those of now
abbrev pub pair_at : (past : List (ℕ × ℕ)) → (now : ℕ × ℕ) → ℕ → ℕ × ℕ
pair_at [] now t = now
pair_at (p ∷ past) now t = cond (nat_lt (length past) t) now (pair_at past p t)

-- the name of a mirror by that of its first side
abbrev pub shorter : List ℕ → List ℕ
shorter name = take (length name - 1) name

-- the byte `+` ends the name of a mirror of both sides
abbrev pub names_mirror : List ℕ → Bool
names_mirror name = slice_index name (length name - 1) == 43

-- the names of the two sides, by that of the mirror
abbrev pub first_name : List ℕ → List ℕ
first_name name = name ++ 48 ∷ []

abbrev pub second_name : List ℕ → List ℕ
second_name name = name ++ 49 ∷ []

-- what a bind to this name would read: of both sides, or of the first one alone
abbrev pub named_by : DiskState → DiskState → List ℕ → Option (List ℕ)
named_by a b name = cond (names_mirror name) (chosen_told (a.named (first_name name)) (b.named (second_name name))) (a.named name)

-- A mirror: its images are those chosen of each pair of images that the sides may leave.
abbrev pub mirrored : DiskState → DiskState → (past : List (ℕ × ℕ)) → (faults binds : ℕ) → DiskState
mirrored a b past faults binds = record {
  size = a.size - 64;
  contents = chosen_told a.contents b.contents;
  now = ChosenOf a.now b.now;
  clock = length past;
  left = λ t. ChosenOf (a.left (pair_at past (a.clock, b.clock) t).0) (b.left (pair_at past (a.clock, b.clock) t).1);
  faults = faults;
  bound = option_map (λ m. (0, shorter m.1)) a.bound;
  binds = binds;
  named = named_by a b;
}

-- the moments of both sides do not fall
abbrev pub IsRising : (past : List (ℕ × ℕ)) → (now : ℕ × ℕ) → Type 0
IsRising past now = (t u : ℕ) → t ≤ u → ((pair_at past now t).0 ≤ (pair_at past now u).0) × ((pair_at past now t).1 ≤ (pair_at past now u).1)
