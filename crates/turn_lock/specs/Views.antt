-- The views that steps make of a view.
use Rattle.std.specs.Prelude.{ℕ, ◌+◌, ◌-◌, List, [], ◌∷◌, ◌++◌, length, Option, option_to_list}
use Rattle.turn_lock.specs.{declared.view.TheConstants.LAST, declared.view.View.View, declared.view.Stage.TheVariants.{Idle, Waits, Turns}, Lists.{merge, longer}, Numbers.{without, held_after}}

module _ {E : Type 0} where
  -- nothing was seen
  abbrev pub blank : ℕ → View E
  blank units = record { seen = []; mine = []; stage = Idle; holds = []; units = units; left = []; right = [] }

  -- the first pass of a lock
  abbrev pub fresh : View E
  fresh = blank LAST

  -- what is left of a pass that was joined into another
  abbrev pub spent : View E
  spent = blank 0

  -- with a ticket
  abbrev pub waits : ℕ → View E → View E
  waits ticket v = record v { stage = Waits ticket }

  -- at its turn, where the whole list is seen
  abbrev pub turns : ℕ → List E → View E → View E
  turns ticket list v = record v { seen = list; stage = Turns ticket }

  -- after an entry of its own
  abbrev pub gave : (hands : E → Option ℕ) (takes : E → List ℕ) → E → View E → View E
  gave hands takes e v = record {
    seen = v.seen ++ e ∷ [];
    mine = v.mine ++ length v.seen ∷ [];
    stage = Idle;
    holds = held_after hands takes e v.holds;
    units = v.units;
    left = v.left;
    right = v.right;
  }

  -- what a split leaves, and what it gives to the new pass
  abbrev pub kept_part : Option ℕ → ℕ → View E → View E
  kept_part number units v = record v { holds = without (option_to_list number) v.holds; units = v.units - units }

  abbrev pub given_part : Option ℕ → ℕ → View E → View E
  given_part number units v = record { seen = v.seen; mine = []; stage = Idle; holds = option_to_list number; units = units; left = []; right = [] }

  -- two passes in one
  abbrev pub both : View E → View E → View E
  both v w = record {
    seen = longer v.seen w.seen;
    mine = merge w.mine v.mine;
    stage = v.stage;
    holds = w.holds ++ v.holds;
    units = v.units + w.units;
    left = v.seen;
    right = w.seen;
  }
