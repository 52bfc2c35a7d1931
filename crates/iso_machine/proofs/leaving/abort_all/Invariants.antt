-- Those that are left are still live, and no others.
use Rattle.iso_machine.proofs.Words.{◌≡◌, length, map, with_live, World, StandsFor, disk_of, up, AreOf, live_of}

abbrev pub invariant-loop-first : Rattle.iso_machine.proofs.leaving.abort_all.Given.invariant-loop-first
invariant-loop-first g l = record {
  stands : (W : World) → AreOf g.D.Disk.state l.fn.core l.fn.finder l.fn.live W → StandsFor g.D.Disk.state l.core (with_live W (map live_of l.rest)) up;
  disk : disk_of l.core ≡ disk_of l.fn.core;
}

abbrev pub decreases-loop-first : Rattle.iso_machine.proofs.leaving.abort_all.Given.decreases-loop-first
decreases-loop-first g l = length l.rest
