-- The first ones are at or below the number, the last ones above it; what is left is halved with each step.
use Rattle.mv_index.proofs.{Words.{◌-◌, ◌≤◌}, Halves.IsSearched}

abbrev pub invariant-loop-low : Rattle.mv_index.proofs.search.count_upto.Given.invariant-loop-low
invariant-loop-low g l = IsSearched l.versions l.at (l.steps - l.initial.steps) l.low l.high × (l.initial.steps ≤ l.steps)

abbrev pub decreases-loop-low : Rattle.mv_index.proofs.search.count_upto.Given.decreases-loop-low
decreases-loop-low g l = l.high - l.low
