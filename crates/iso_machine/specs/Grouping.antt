-- What a machine takes out of its live transactions for a group.
use Rattle.std.specs.{Prelude.{◌≡◌, List, [], ◌∷◌, ◌++◌, Option, Some, None, ℕ, find, map}, List.AllByRecursion}
use Rattle.iso_core.specs.declared.group_end.GroupEnd.{GroupEnd}
use Rattle.iso_model.specs.{declared.access.Geometry.Geometry, declared.access.GroupReply.GroupReply, Group.found_ones, World.{Live, is_under_label, without}}
use Rattle.iso_model.specs.declared.access.GroupReply.TheVariants as member
use Rattle.iso_machine.specs.{declared.attached.Attached.Attached, Standing.{IsSized, live_of}}

-- the one of these transactions that is under the label
abbrev pub under : List ℕ → List Live → Option Live
under text live = find (λ t. is_under_label text t.place) live

-- the transactions without the one that was found
abbrev pub without_found : List Live → Option Live → List Live
without_found live None = live
without_found live (Some t) = without t.number live

-- what is found under the labels where each that is found leaves at once, and those that stay
abbrev pub found_in : List (List ℕ) → List Live → List (Option Live)
found_in [] live = []
found_in (text ∷ texts) live = under text live ∷ found_in texts (without_found live (under text live))

abbrev pub left_in : List (List ℕ) → List Live → List Live
left_in [] live = live
left_in (text ∷ texts) live = left_in texts (without_found live (under text live))

-- the answer that represents the one of what was found
abbrev pub stand_in : Option Live → Option GroupReply
stand_in None = None
stand_in (Some t) = Some member.Worn

-- replies in the place of the answers that stand for them
abbrev pub filled : (answers replies : List (Option GroupReply)) → List (Option GroupReply)
filled [] replies = []
filled (None ∷ answers) replies = None ∷ filled answers replies
filled (Some r ∷ answers) [] = None ∷ filled answers []
filled (Some r ∷ answers) (first ∷ replies) = first ∷ filled answers replies

-- the member that a transaction becomes
abbrev pub member_of : Attached → GroupEnd
member_of a = record { tx = a.tx; work = a.work.value; reply = None }

-- The transactions under the labels have left the list and are further members, and an answer represents each label.
pub record HasTaken (texts : List (List ℕ)) (old new : List Attached) (old_answers new_answers : List (Option GroupReply)) (old_ends new_ends : List GroupEnd) : Type 0 where
  pub gone : List Attached
  pub live : map live_of new ≡ left_in texts (map live_of old)
  pub answers : new_answers ≡ old_answers ++ map stand_in (found_in texts (map live_of old))
  pub ends : new_ends ≡ old_ends ++ map member_of gone
  pub members : map live_of gone ≡ found_ones (found_in texts (map live_of old))
  pub stay_sized : (g : Geometry) → AllByRecursion (IsSized g) old → AllByRecursion (IsSized g) new
  pub gone_sized : (g : Geometry) → AllByRecursion (IsSized g) old → AllByRecursion (IsSized g) gone
