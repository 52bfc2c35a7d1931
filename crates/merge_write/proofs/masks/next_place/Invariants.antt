-- The places so far have the other bit.
use Rattle.merge_write.proofs.Words.{◌≡◌, ℕ, ◌-◌, ◌<◌, ◌≤◌, not, is_set}

abbrev pub invariant-loop-place : Rattle.merge_write.proofs.masks.next_place.Given.invariant-loop-place
invariant-loop-place l = record {
  from : l.at ≤ l.place;
  within : l.place ≤ l.end;
  passed : (k : ℕ) → l.at ≤ k → k < l.place → is_set l.masks k ≡ not l.wanted;
}

abbrev pub decreases-loop-place : Rattle.merge_write.proofs.masks.next_place.Given.decreases-loop-place
decreases-loop-place l = l.end - l.place
