-- None of the bytes that were looked at is a line feed.
use Rattle.script_runner.proofs.Words.{◌≢◌, ℕ, ◌<◌, ◌≤◌, ◌-◌, length, slice_index}

abbrev pub invariant-loop-at : Rattle.script_runner.proofs.feed.find_feed.Given.invariant-loop-at
invariant-loop-at l = (l.at ≤ length l.text) × ((k : ℕ) → k < l.at → slice_index l.text k ≢ 10)

abbrev pub decreases-loop-at : Rattle.script_runner.proofs.feed.find_feed.Given.decreases-loop-at
decreases-loop-at l = length l.text - l.at

abbrev pub invariant-loop-at-2 : Rattle.script_runner.proofs.feed.find_feed.Given.invariant-loop-at-2
invariant-loop-at-2 l = (l.at ≤ length l.text) × ((k : ℕ) → k < l.at → slice_index l.text k ≢ 10)

abbrev pub decreases-loop-at-2 : Rattle.script_runner.proofs.feed.find_feed.Given.decreases-loop-at-2
decreases-loop-at-2 l = length l.text - l.at
