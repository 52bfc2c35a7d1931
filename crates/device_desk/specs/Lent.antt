-- Transactions whose works are lent to a group.
use Rattle.std.specs.{Prelude.{◌≡◌, ◌≢◌, ◌⊎◌, ◌<◌, ℕ, List, [], ◌∷◌, ◌++◌, Some, Result, OnOk, IfErr, drop, false, get_or, length, map, take}, List.AllByRecursion}
use Rattle.iso_disk.specs.Disk.{DiskState, LeavesOnly, StaysTold}
use Rattle.iso_model.specs.{declared.core_error.CoreError.CoreError, Between.ShowsEither, Group.group, World.{Live, World}}
use Rattle.iso_model.specs.declared.core_error.CoreError.TheVariants as error
use Rattle.iso_core.specs.{declared.core_itself.Core.Core, declared.group_end.GroupEnd.GroupEnd, Calls.BlamesDisk, Core.{StandsFor, disk_of}, Planned.reply_in, Standing.up}
use Rattle.tx_table.specs.Work.{Doing}
use Rattle.device_desk.specs.{declared.seat.Seat.Seat, Numbers.member_of}

-- these are different places of a list of that length
abbrev pub ArePlaces : ℕ → List ℕ → Type 0
ArePlaces n [] = Unit {0}
ArePlaces n (i ∷ places) = (i < n) × AllByRecursion (λ j. j ≢ i) places × ArePlaces n places

-- what is there
abbrev pub items_at : {X : Type 0} → List ℕ → List X → List X
items_at [] xs = []
items_at (i ∷ places) xs = take 1 (drop i xs) ++ items_at places xs

-- the transactions at these places have these numbers, which are different ones
abbrev pub StandAt : List Seat → (numbers places : List ℕ) → Type 0
StandAt live [] [] = Unit {0}
StandAt live [] (i ∷ places) = ⊥
StandAt live (n ∷ numbers) [] = ⊥
StandAt live (n ∷ numbers) (i ∷ places) = (i < length live) × ((d : Seat) → (get_or live i d).tx ≡ n) × AllByRecursion (λ m. m ≢ n) numbers × StandAt live numbers places

-- the members so far, and those that the transactions at these places become
abbrev pub members_with : List GroupEnd → List ℕ → List Seat → List GroupEnd
members_with so_far places live = so_far ++ map member_of (items_at places live)

-- a transaction by its number, without what is known of how far its work is settled
abbrev pub doing_of : Seat → ℕ × Doing
doing_of a = (a.tx, record a.work.value { settled = false })

-- What a group of these members came to: the replies that they have, and the world that the core represents.
pub record HasEnded {D T : Type 0} (state : D → DiskState) (old new : Core D) (W : World) (members : List Live) (ends : List GroupEnd) (result : Result T CoreError) : Type 0 where
  pub ended : OnOk result ((map reply_in ends ≡ map Some (group W members).0) × StandsFor state new (group W members).1 up)
  pub same : IfErr result (λ e. e ≢ error.Disk → StandsFor state new W up)
  pub only : IfErr result (λ e. (e ≡ error.Disk) ⊎ (e ≡ error.Memory))
  pub moments : LeavesOnly (state (disk_of old)) (state (disk_of new)) (ShowsEither W (group W members).1)
  pub untouched : IfErr result (λ e. e ≢ error.Disk → disk_of new ≡ disk_of old)
  pub told : OnOk result (StaysTold (state (disk_of old)) (state (disk_of new)))
  pub cause : BlamesDisk (state (disk_of old)).faults (state (disk_of new)).faults result
