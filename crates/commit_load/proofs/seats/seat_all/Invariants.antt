use Rattle.std.proofs.Common.{◌≡◌, ◌+◌, ◌-◌, ◌*◌, ◌≤◌, length, vec_capacity}
use Rattle.iso_shared.specs.Ports.{IsPort, port_view}
use Rattle.commit_load.specs.Seats.{AreSeated}

-- so many desks have their workers
abbrev pub invariant-loop-alloc : Rattle.commit_load.proofs.seats.seat_all.Given.invariant-loop-alloc
invariant-loop-alloc g l = record {
  port : IsPort l.shared l.port;
  units : (port_view l.port).units + 128 * length l.desks.items ≡ (port_view l.fn.port).units;
  within : length l.desks.items ≤ l.threads;
  room : (l.threads ≤ vec_capacity l.desks) × (l.threads ≤ vec_capacity l.workers);
  seated : AreSeated l.shared l.desks.items l.workers.items;
}

abbrev pub decreases-loop-alloc : Rattle.commit_load.proofs.seats.seat_all.Given.decreases-loop-alloc
decreases-loop-alloc g l = l.threads - length l.desks.items
