-- What a mirror is, by which sides are in use.
use Rattle.std.specs.Prelude.{Bool, true, false, ◌≡◌, ◌≢◌, ℕ, ◌+◌, ◌<◌, ◌≤◌, List, take, Some, None}
use Rattle.iso_disk.specs.{Disk.DiskState, Untold.untold}
use Rattle.mirror_disk.specs.{declared.slot.Slot.Slot, declared.marks.Marks.Marks, declared.used.Used.Used, declared.used.Used.TheVariants.{Plain, Both, OnlyFirst, OnlySecond, Broken, Unbound}, Header.{IsHeader, body, epoch, slot_epoch}, Pairs.{IsRising, mirrored, named_by, pair_at}, Slots.place}

-- The state of a mirror: its first side alone, nothing, or what is chosen of both sides.
abbrev pub state_in : Used → DiskState → DiskState → (past : List (ℕ × ℕ)) → (faults binds : ℕ) → DiskState
state_in Plain a b past faults binds = record a { faults = faults; binds = binds; named = named_by a b }
state_in Both a b past faults binds = mirrored a b past faults binds
state_in OnlyFirst a b past faults binds = mirrored a b past faults binds
state_in OnlySecond a b past faults binds = mirrored a b past faults binds
state_in Broken a b past faults binds = mirrored a b past faults binds
state_in Unbound a b past faults binds = record (untold 0 faults binds None) { named = named_by a b }

-- by what the mirror knows of its sides
abbrev pub state_by : Marks → DiskState → DiskState → (past : List (ℕ × ℕ)) → (faults binds : ℕ) → DiskState
state_by marks a b past faults binds = state_in marks.used a b past faults binds

-- which of the two sides are in use
abbrev pub sides_in : Used → Bool × Bool
sides_in Plain = (true, false)
sides_in Both = (true, true)
sides_in OnlyFirst = (true, false)
sides_in OnlySecond = (false, true)
sides_in Broken = (false, false)
sides_in Unbound = (false, false)

-- the images of either side since the first moment of the mirror
abbrev pub FromA : DiskState → DiskState → List (ℕ × ℕ) → List ℕ → Type 0
FromA a b past x = a.left (pair_at past (a.clock, b.clock) 0).0 x

abbrev pub FromB : DiskState → DiskState → List (ℕ × ℕ) → List ℕ → Type 0
FromB a b past y = b.left (pair_at past (a.clock, b.clock) 0).1 y

-- Two sides that are mirrored: they have one size, their moments rise, each image has a header, and a side that leaves one
-- tells its bytes.
pub record ArePair (a b : DiskState) (past : List (ℕ × ℕ)) : Type 0 where
  pub sizes : b.size ≡ a.size
  pub room : 64 ≤ a.size
  pub rising : IsRising past (a.clock, b.clock)
  pub first_header : (x : List ℕ) → FromA a b past x → IsHeader x
  pub second_header : (y : List ℕ) → FromB a b past y → IsHeader y
  pub first_told : (x : List ℕ) → FromA a b past x → a.contents ≢ None
  pub second_told : (y : List ℕ) → FromB a b past y → b.contents ≢ None

-- both are in use, at this epoch
pub record AreBoth (a b : DiskState) (past : List (ℕ × ℕ)) (e : ℕ) (one two : Slot) : Type 0 where
  pub first : (x : List ℕ) → FromA a b past x → epoch x ≡ e
  pub second : (y : List ℕ) → FromB a b past y → epoch y ≡ e
  pub first_slot : (x : List ℕ) → a.now x → slot_epoch (place one) x ≡ e
  pub second_slot : (y : List ℕ) → b.now y → slot_epoch (place two) y ≡ e
  pub first_front : (x c : List ℕ) → a.now x → a.contents ≡ Some c → take 64 x ≡ take 64 c
  pub second_front : (y c : List ℕ) → b.now y → b.contents ≡ Some c → take 64 y ≡ take 64 c
  pub agree : (x y : List ℕ) → a.contents ≡ Some x → b.contents ≡ Some y → body x ≡ body y

-- the second side was left out at this epoch
pub record FirstLeads (a b : DiskState) (past : List (ℕ × ℕ)) (e : ℕ) : Type 0 where
  pub first : (x : List ℕ) → FromA a b past x → e ≤ epoch x
  pub raised : (x : List ℕ) → a.now x → e < epoch x
  pub second : (y : List ℕ) → FromB a b past y → epoch y ≤ e

-- the first side was left out at this epoch
pub record SecondLeads (a b : DiskState) (past : List (ℕ × ℕ)) (e : ℕ) : Type 0 where
  pub first : (x : List ℕ) → FromA a b past x → epoch x ≤ e
  pub second : (y : List ℕ) → b.now y → e < epoch y

abbrev pub IsPair : Used → Type 0
IsPair used = (used ≢ Plain) × (used ≢ Unbound)

-- what is known of the sides, by which are in use
pub record Stands (a b : DiskState) (used : Used) (past : List (ℕ × ℕ)) (e : ℕ) (one two : Slot) : Type 0 where
  pub pair : IsPair used → ArePair a b past
  pub both : used ≡ Both → AreBoth a b past e one two
  pub first : used ≡ OnlyFirst → FirstLeads a b past e
  pub second : used ≡ OnlySecond → SecondLeads a b past e

abbrev pub StandsBy : DiskState → DiskState → Marks → (past : List (ℕ × ℕ)) → Type 0
StandsBy a b marks past = Stands a b marks.used past marks.epoch marks.first_slot marks.second_slot

-- sides that are so, of a mirror with room for n bytes from `at` on
pub record HasRange (a b : DiskState) (marks : Marks) (past : List (ℕ × ℕ)) (at n : ℕ) : Type 0 where
  pub stands : StandsBy a b marks past
  pub fits : at + n ≤ (state_by marks a b past 0 0).size

-- each image that a crash now may leave of the first of two disks has a larger epoch than each of the second one
abbrev pub Leads : DiskState → DiskState → Type 0
Leads a b = (x y : List ℕ) → a.now x → b.now y → epoch y < epoch x
