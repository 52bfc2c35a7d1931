-- The rule of the table: word 0 is the next ticket, word 1 the ticket that is served, and slot 0 has the value while no pass has the turn.
use Rattle.std.specs.Prelude.{◌≡◌, ◌⊎◌, ℕ, ◌+◌, ◌<◌, ◌≤◌, List, [], ◌∷◌, length, Option, Some}
use mathlib.Core.{List.IsPrefix, Option.{none, some}}
use mathlib.Core.Option as maybe
use lib.ListN.{get_elem?}
use Rattle.std.specs.Global.{Box}
use Rattle.atomic_table.specs.Table.{State}
use Rattle.turn_lock.specs.{declared.view.TheConstants.LAST, declared.view.View.View, declared.view.Stage.Stage, declared.view.Stage.TheVariants.{Idle, Waits, Turns}, Lists.{total, hit, times, RisesFrom, AllBelow}, Numbers.IsOut}

-- 1 where the pass has the ticket n
abbrev pub ticket_at : ℕ → Stage → ℕ
ticket_at n Idle = 0
ticket_at n (Waits t) = hit t n
ticket_at n (Turns t) = hit t n

-- 1 where the pass has a ticket
abbrev pub tickets_at : Stage → ℕ
tickets_at Idle = 0
tickets_at (Waits t) = 1
tickets_at (Turns t) = 1

-- 1 where the pass has the turn
abbrev pub turns_at : Stage → ℕ
turns_at Idle = 0
turns_at (Waits t) = 0
turns_at (Turns t) = 1

-- k is 1 for the numbers n from `from` on, up to `to`, and 0 for all others
pub record Once (from to n k : ℕ) : Type 0 where
  pub within : from ≤ n → n < to → k ≡ 1
  pub under : n < from → k ≡ 0
  pub over : to ≤ n → k ≡ 0

module _ {E : Type 0} where
  -- each of these over all passes: who has the ticket n, any ticket, the turn, the place p, the number n, the units
  abbrev pub drawn_by : ℕ → List (View E) → ℕ
  drawn_by n views = total (λ v. ticket_at n v.stage) views

  abbrev pub waiting : List (View E) → ℕ
  waiting views = total (λ v. tickets_at v.stage) views

  abbrev pub turning : List (View E) → ℕ
  turning views = total (λ v. turns_at v.stage) views

  abbrev pub placed_by : ℕ → List (View E) → ℕ
  placed_by p views = total (λ v. times p v.mine) views

  abbrev pub held_by : ℕ → List (View E) → ℕ
  held_by n views = total (λ v. times n v.holds) views

  abbrev pub all_units : List (View E) → ℕ
  all_units views = total (λ v. v.units) views

  -- a pass at its turn has seen the whole list, and its ticket is the one that is served
  abbrev pub Whole : List E → List E → Stage → Type 0
  Whole list seen (Turns t) = (seen ≡ list) × (t ≡ length list)
  Whole list seen _ = Unit {0}

  -- what one pass knows of the list
  pub record Knows (list : List E) (v : View E) : Type 0 where
    pub begins : IsPrefix v.seen list
    pub left_begins : IsPrefix v.left list
    pub right_begins : IsPrefix v.right list
    pub below : AllBelow (length v.seen) v.mine
    pub rises : RisesFrom 0 v.mine
    pub whole : Whole list v.seen v.stage
    -- a pass with no unit is a note
    pub note : v.units ≡ 0 → (v.stage ≡ Idle) × (v.mine ≡ []) × (v.holds ≡ [])

  -- how tickets, places, numbers and units are dealt among the passes
  pub record Dealt (hands : E → Option ℕ) (takes : E → List ℕ) (list : List E) (tickets : ℕ) (views : List (View E)) : Type 0 where
    pub counted : length list + waiting views ≡ tickets
    -- each ticket that is not served yet is one pass's
    pub drawn : (n : ℕ) → Once (length list) tickets n (drawn_by n views)
    -- each place of the list is one pass's
    pub placed : (p : ℕ) → Once 0 (length list) p (placed_by p views)
    pub units : all_units views ≡ LAST
    pub alone : (n : ℕ) → held_by n views ≤ 1
    pub out : (n : ℕ) → 0 < held_by n views → IsOut hands takes n list
    pub each : (id : ℕ) (v : View E) → get_elem? views id ≡ some v → Knows list v

-- what is said of a value, of the box that it is in
abbrev pub boxed : {X E : Type 0} → (X → List E → Type 0) → Box X → List E → Type 0
boxed stands b = stands b.value

module _ {X E : Type 0} (stands : X → List E → Type 0) where
  -- the value is at home and represents the list while no pass has the turn, and else it is out
  abbrev pub Rests : List (maybe.Option (Option X)) → List E → ℕ → Type 0
  Rests homes list holders =
      ((x : X) × (homes ≡ some (Some x) ∷ []) × stands x list × (holders ≡ 0)) ⊎ ((homes ≡ none ∷ []) × (holders ≡ 1))

  pub record Fair (hands : E → Option ℕ) (takes : E → List ℕ) (s : State (Option X) (View E)) : Type 0 where
    pub list : List E
    pub tickets : ℕ
    -- what is after the first two says nothing
    pub others : List ℕ
    pub words_are : s.words ≡ tickets ∷ length list ∷ others
    pub few : tickets ≤ LAST
    pub dealt : Dealt hands takes list tickets s.views
    pub slot : Rests s.homes list (turning s.views)
