-- Transactions that end as a group, asked for by their numbers.
use Rattle.std.specs.{Prelude.{◌≡◌, List, [], ◌∷◌, ◌++◌, Option, None, ℕ, find, map}, List.AllByRecursion}
use Rattle.iso_core.specs.declared.group_end.GroupEnd.{GroupEnd}
use Rattle.iso_model.specs.{declared.access.Geometry.Geometry, declared.access.GroupReply.GroupReply, Group.{found_ones, group, label_replies}, World.{Live, World, is_at_client}}
use Rattle.iso_machine.specs.Grouping.{stand_in, without_found}
use Rattle.device_desk.specs.{declared.seat.Seat.Seat, Seats.{IsSized, live_of}}

-- the one of these transactions that has the number
abbrev pub of_number : ℕ → List Live → Option Live
of_number number live = find (λ t. is_at_client number t.place) live

-- what has these numbers, where each that is found is there no more for the next number; and those that stay
abbrev pub found_of : List ℕ → List Live → List (Option Live)
found_of [] live = []
found_of (number ∷ numbers) live = of_number number live ∷ found_of numbers (without_found live (of_number number live))

abbrev pub left_of : List ℕ → List Live → List Live
left_of [] live = live
left_of (number ∷ numbers) live = left_of numbers (without_found live (of_number number live))

-- The transactions of these numbers end one after the other: a reply for each number, none where no live transaction has it, and
-- the world after them.
abbrev pub numbers_step : World → List ℕ → List (Option GroupReply) × World
numbers_step W numbers = (label_replies (found_of numbers W.live) (group W (found_ones (found_of numbers W.live))).0, (group W (found_ones (found_of numbers W.live))).1)

-- the member that a transaction becomes
abbrev pub member_of : Seat → GroupEnd
member_of a = record { tx = a.tx; work = a.work.value; reply = None }

-- The transactions of these numbers have left the list and are further members, and an answer represents each number.
pub record HasTaken (numbers : List ℕ) (old new : List Seat) (old_answers new_answers : List (Option GroupReply)) (old_ends new_ends : List GroupEnd) : Type 0 where
  pub gone : List Seat
  pub live : map live_of new ≡ left_of numbers (map live_of old)
  pub answers : new_answers ≡ old_answers ++ map stand_in (found_of numbers (map live_of old))
  pub ends : new_ends ≡ old_ends ++ map member_of gone
  pub members : map live_of gone ≡ found_ones (found_of numbers (map live_of old))
  pub stay_sized : (g : Geometry) → AllByRecursion (IsSized g) old → AllByRecursion (IsSized g) new
  pub gone_sized : (g : Geometry) → AllByRecursion (IsSized g) old → AllByRecursion (IsSized g) gone
