-- The parts so far are of the same block.
use Rattle.version_read.proofs.Words.{◌≡◌, ◌-◌, ◌<◌, ◌≤◌, ℕ, get_or, length, no_part}

abbrev pub invariant-loop-stop : Rattle.version_read.proofs.index.block_end.Given.invariant-loop-stop
invariant-loop-stop l = record {
  more : l.first < l.stop;
  within : l.stop ≤ length l.parts;
  same : (i : ℕ) → l.first ≤ i → i < l.stop → (get_or l.parts i no_part).block ≡ (get_or l.parts l.first no_part).block;
}

abbrev pub decreases-loop-stop : Rattle.version_read.proofs.index.block_end.Given.decreases-loop-stop
decreases-loop-stop l = length l.parts - l.stop
