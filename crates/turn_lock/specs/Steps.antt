-- What each step tells its pass.
use Rattle.std.specs.Prelude.{◌≡◌, ◌≢◌, ℕ, ◌<◌, ◌≤◌, List, [], ◌∷◌, length, Option, Some, None}
use mathlib.Core.List.{IsPrefix}
use Rattle.atomic_table.specs.Table.{Me, Step, rest}
use Rattle.turn_lock.specs.{declared.view.TheConstants.LAST, declared.view.View.View, declared.view.Stage.Stage, declared.view.Stage.TheVariants.{Idle, Waits, Turns}, Lists.{times, RisesFrom, AllBelow, places}, Numbers.{IsOut, AreFree}, Views.{waits, turns, gave}}

-- the ticket of a pass, and 0 where it has none
abbrev pub ticket_of : Stage → ℕ
ticket_of Idle = 0
ticket_of (Waits t) = t
ticket_of (Turns t) = t

abbrev pub Sat : Type 0 → Type 0 → Type 0
Sat X E = Me (Option X) (View E)

module _ {E : Type 0} where
  -- the places of a pass rise, and lie in the list that it has seen
  abbrev pub IsPlaced : View E → Type 0
  IsPlaced v = RisesFrom 0 v.mine × AllBelow (length v.seen) v.mine

-- it waits for nothing and has no turn, as between two calls
abbrev pub IsAtRest : {X E : Type 0} → Sat X E → Type 0
IsAtRest m = (m.0.stage ≡ Idle) × (m.1 ≡ []) × IsPlaced m.0

-- it has the turn of this ticket, and has seen the whole list
abbrev pub IsAtTurn : {X E : Type 0} → Sat X E → ℕ → Type 0
IsAtTurn m ticket = (m.0.stage ≡ Turns ticket) × (m.1 ≡ (0, None) ∷ []) × IsPlaced m.0 × (ticket ≡ length m.0.seen)

-- the ticket is drawn where it is the next one
abbrev pub drew : {X E : Type 0} → Step (Option X) → Sat X E → ℕ → Sat X E → Type 0
drew st m found m' = (found ≡ st.first → m' ≡ (waits st.first m.0, m.1)) × (found ≢ st.first → m' ≡ m)

-- the pass has come to its turn
pub record Turned {X E : Type 0} (stands : X → List E → Type 0) (hands : E → Option ℕ) (takes : E → List ℕ) (ticket : ℕ) (v : View E) (m' : Sat X E) : Type 0 where
  pub value : X
  pub list : List E
  pub view_is : m'.0 ≡ turns ticket list v
  pub slot_is : m'.1 ≡ (0, Some value) ∷ []
  pub stands_for : stands value list
  pub seen : IsPrefix v.seen list
  pub place : ticket ≡ length list
  pub out : (n : ℕ) → 0 < times n v.holds → IsOut hands takes n list
  pub all : v.units ≡ LAST → v.mine ≡ places (length list)

-- the slot is taken where the own ticket is served
abbrev pub looked : {X E : Type 0} → (X → List E → Type 0) → (hands : E → Option ℕ) (takes : E → List ℕ) → Step (Option X) → Sat X E → ℕ → Sat X E → Type 0
looked stands hands takes st m found m' =
    (found ≡ ticket_of m.0.stage → Turned stands hands takes (ticket_of m.0.stage) m.0 m') × (found ≢ ticket_of m.0.stage → m' ≡ m)

-- the entry is added, and the numbers that it takes back are not out any more
abbrev pub advanced : {X E : Type 0} → (hands : E → Option ℕ) (takes : E → List ℕ) → E → Step (Option X) → Sat X E → ℕ → Sat X E → Type 0
advanced hands takes e st m found m' = (m' ≡ (gave hands takes e m.0, rest m.1)) × AreFree hands takes (takes e) m'.0.seen

-- nothing changes for the pass
abbrev pub stayed : {X E : Type 0} → Step (Option X) → Sat X E → ℕ → Sat X E → Type 0
stayed st m found m' = m' ≡ m

-- what holds of a pass after a join
pub record Settled {E : Type 0} (v : View E) : Type 0 where
  pub left : IsPrefix v.left v.seen
  pub right : IsPrefix v.right v.seen
  pub placed : IsPlaced v
  -- what was seen at a turn was the whole list, and still is
  pub whole : (ticket : ℕ) → v.stage ≡ Turns ticket → ticket ≡ length v.left → v.left ≡ v.seen
  pub alone : (n : ℕ) → times n v.holds ≤ 1
  pub units : v.units ≤ LAST

abbrev pub settled : {X E : Type 0} → Step (Option X) → Sat X E → ℕ → Sat X E → Type 0
settled st m found m' = (m' ≡ m) × Settled m.0
