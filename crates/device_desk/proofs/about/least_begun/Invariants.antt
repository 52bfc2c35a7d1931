-- The first one with the least begin so far, and of those that are left.
use Rattle.std.proofs.Common.{◌≡◌, drop, map}
use Rattle.device_desk.specs.Seats.{live_of}
use Rattle.device_desk.proofs.Begins.{first_least}

abbrev pub invariant-loop-seat : Rattle.device_desk.proofs.about.least_begun.Given.invariant-loop-seat
invariant-loop-seat l = first_least l.oldest l.least (map live_of (drop l.seat-index l.live)) ≡ first_least l.number l.begin (map live_of l.live)
