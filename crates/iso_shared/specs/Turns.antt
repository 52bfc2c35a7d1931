-- What a pass of the lock knows, by the entries alone, and by their moments.
use Rattle.std.specs.Prelude.{◌≡◌, ℕ, List, []}
use Rattle.turn_lock.specs.{declared.view.View.View, declared.view.Stage.TheVariants.Idle, Pass.PassOf, Steps.IsPlaced}
use Rattle.iso_shared.specs.{declared.entry.Entry.Entry, declared.guarded.Stamped.Stamped, Stamps.{entries_in, moments_in}}

-- what is known of the entries
abbrev pub shown : View Stamped → View Entry
shown v = record { seen = entries_in v.seen; mine = v.mine; stage = v.stage; holds = v.holds; units = v.units; left = entries_in v.left; right = entries_in v.right }

module _ {X : Type 0} where
  -- what a pass knows of the entries, and the moments of those that it has seen
  abbrev pub view : PassOf X Stamped → View Entry
  view p = shown p.me.0

  abbrev pub moments : PassOf X Stamped → List ℕ
  moments p = moments_in p.me.0.seen

  -- the pass waits for nothing and has no turn, as between two calls
  abbrev pub HasNoTurn : PassOf X Stamped → Type 0
  HasNoTurn p = ((view p).stage ≡ Idle) × (p.me.1 ≡ []) × IsPlaced (view p)
