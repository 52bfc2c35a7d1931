-- What the definitions of a mirror are, by computation on sides of one byte.
use Rattle.std.specs.Prelude.{◌≡◌, ℕ, ◌+◌, ◌-◌, ◌^◌, ◌==◌, true, false, List, [], ◌∷◌, ◌++◌, length, replicate, take, cond, slice_index, Option, Some, None, refl}
use Rattle.iso_disk.specs.Disk.{DiskState}
use Rattle.mirror_disk.specs.{Header.{blank_header, body, chosen, epoch, last_epoch, number_at, slot_body, slot_epoch, word}, Pairs.{chosen_told, first_name, names_mirror, pair_at, second_name, shorter}, Slots.{other, place}, Standing.{sides_in, state_in}, declared.slot.Slot.TheVariants.{First, Second}, declared.used.Used.Used, declared.used.Used.TheVariants.{Both, Broken, OnlyFirst, OnlySecond, Plain, Unbound}}

-- a slot with this epoch after an open gate, or a closed one for 0
abbrev pub slot : ℕ → List ℕ
slot e = cond (e == 0) (replicate 16 0) (1 ∷ replicate 14 0 ++ e ∷ [])

-- a side with these epochs in its slots, and one byte after its header
abbrev pub side : (one two byte : ℕ) → List ℕ
side one two byte = word ++ replicate 8 0 ++ slot one ++ slot two ++ replicate 16 0 ++ byte ∷ []

-- the names a, + and a+
abbrev pub plain : List ℕ
plain = 97 ∷ []

abbrev pub double : List ℕ
double = 97 ∷ 43 ∷ []

-- A disk that is one image, that was made of a side at each moment, and that tells for each name whose it is, in an epoch, and
-- with which byte the name ends.
abbrev pub disk_of : List ℕ → ℕ → DiskState
disk_of bytes whose = record {
  size = length bytes;
  contents = Some bytes;
  now = λ c. c ≡ bytes;
  clock = 9;
  left = λ t c. c ≡ side 1 0 (t + whose);
  faults = 3;
  bound = Some (5, (97 + whose) ∷ 43 ∷ 48 ∷ []);
  binds = 4;
  named = λ name. Some (side 1 whose (slice_index name (length name - 1)));
}

-- the epoch is the larger one of an open slot, and the body all after the header
epochs : epoch (side 1 0 7) ∷ epoch (side 1 2 7) ∷ epoch (side 3 2 7) ∷ epoch (side 0 2 7) ∷ epoch (side 0 0 7) ∷ [] ≡ 1 ∷ 2 ∷ 3 ∷ 2 ∷ 0 ∷ []
epochs = refl

bodies : body (side 1 2 7) ≡ 7 ∷ []
bodies = refl

numbers : number_at 1 (9 ∷ 0 ∷ 0 ∷ 0 ∷ 0 ∷ 0 ∷ 0 ∷ 1 ∷ 2 ∷ []) ∷ slot_epoch 16 (side 4 5 0) ∷ slot_epoch 32 (side 4 5 0) ∷ [] ≡ 258 ∷ 4 ∷ 5 ∷ []
numbers = refl

most : last_epoch ≡ 2 ^ 63 - 1
most = refl

blank : blank_header ≡ take 64 (side 1 0 0)
blank = refl

blank_bytes : blank_header ≡ 73 ∷ 83 ∷ 79 ∷ 77 ∷ 73 ∷ 82 ∷ 82 ∷ 49 ∷ replicate 8 0 ++ 1 ∷ replicate 14 0 ++ 1 ∷ replicate 32 0
blank_bytes = refl

-- what is after the gate of a slot
spelled : slot_body 258 ≡ replicate 13 0 ++ 1 ∷ 2 ∷ []
spelled = refl

-- the larger epoch counts, and the first side where both have one
choices : (chosen (side 1 0 7) (side 1 2 9) ≡ 9 ∷ []) × (chosen (side 3 2 7) (side 1 2 9) ≡ 7 ∷ []) × (chosen (side 1 0 7) (side 0 1 9) ≡ 7 ∷ [])
choices = (refl, refl, refl)

slots : (place First ≡ 16) × (place Second ≡ 32) × (other First ≡ Second) × (other Second ≡ First)
slots = (refl, refl, refl, refl)

names : names_mirror double ∷ names_mirror plain ∷ names_mirror [] ∷ names_mirror (43 ∷ 97 ∷ []) ∷ names_mirror (43 ∷ []) ∷ [] ≡ true ∷ false ∷ false ∷ false ∷ true ∷ []
names = refl

names_of_sides : (first_name double ≡ 97 ∷ 43 ∷ 48 ∷ []) × (second_name double ≡ 97 ∷ 43 ∷ 49 ∷ []) × (shorter (first_name double) ≡ double)
names_of_sides = (refl, refl, refl)

-- a mirror tells nothing where one of its sides does not
told_by_one : (chosen_told (Some (side 1 0 7)) None ≡ None) × (chosen_told None (Some (side 1 0 7)) ≡ None) × (chosen_told None None ≡ None)
told_by_one = (refl, refl, refl)

-- the moments of both sides before the first call, the second, and now
moments : pair_at ((3, 4) ∷ (1, 2) ∷ []) (5, 6) 0 ∷ pair_at ((3, 4) ∷ (1, 2) ∷ []) (5, 6) 1 ∷ pair_at ((3, 4) ∷ (1, 2) ∷ []) (5, 6) 2 ∷ pair_at [] (5, 6) 0 ∷ [] ≡ (1, 2) ∷ (3, 4) ∷ (5, 6) ∷ (5, 6) ∷ []
moments = refl

in_use : sides_in Plain ∷ sides_in Both ∷ sides_in OnlyFirst ∷ sides_in OnlySecond ∷ sides_in Broken ∷ sides_in Unbound ∷ [] ≡ (true, false) ∷ (true, true) ∷ (true, false) ∷ (false, true) ∷ (false, false) ∷ (false, false) ∷ []
in_use = refl

-- a mirror of two such disks whose second side has the larger epoch, after two calls
abbrev pub mirror : Used → DiskState
mirror used = state_in used (disk_of (side 1 0 7) 0) (disk_of (side 1 2 8) 50) ((3, 4) ∷ (1, 2) ∷ []) 11 12

-- its size, what it tells, its moment and what it is bound to
abbrev shown : Used → ℕ × Option (List ℕ) × ℕ × Option (ℕ × List ℕ)
shown used = ((mirror used).size, (mirror used).contents, (mirror used).clock, (mirror used).bound)

shown_plain : shown Plain ≡ (65, Some (side 1 0 7), 9, Some (5, first_name double))
shown_plain = refl

shown_both : shown Both ≡ (1, Some (8 ∷ []), 2, Some (0, double))
shown_both = refl

shown_of_pairs : (shown OnlyFirst ≡ shown Both) × (shown OnlySecond ≡ shown Both) × (shown Broken ≡ shown Both)
shown_of_pairs = (refl, refl, refl)

shown_unbound : shown Unbound ≡ (0, None, 0, None)
shown_unbound = refl

-- its counts are its own, and it tells what names have whichever sides are in use
abbrev named : Used → ℕ × ℕ × Option (List ℕ) × Option (List ℕ)
named used = ((mirror used).faults, (mirror used).binds, (mirror used).named plain, (mirror used).named double)

abbrev all_named : ℕ × ℕ × Option (List ℕ) × Option (List ℕ)
all_named = (11, 12, Some (side 1 0 97), Some (49 ∷ []))

named_by_each : (named Plain ≡ all_named) × (named Both ≡ all_named) × (named OnlyFirst ≡ all_named) × (named OnlySecond ≡ all_named) × (named Broken ≡ all_named) × (named Unbound ≡ all_named)
named_by_each = (refl, refl, refl, refl, refl, refl)

-- each side is asked for its own name
named_turned : (state_in Both (disk_of (side 1 0 7) 50) (disk_of (side 1 2 8) 0) [] 0 0).named double ≡ Some (48 ∷ [])
named_turned = refl
