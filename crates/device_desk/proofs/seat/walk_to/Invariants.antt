use Rattle.iso_machine.proofs.Words.{◌≡◌, drop, find, map, is_at_client}
use Rattle.device_desk.specs.Seats.{live_of}

-- what is found among those that are left is what is found among all
abbrev pub invariant-loop-i : Rattle.device_desk.proofs.seat.walk_to.Given.invariant-loop-i
invariant-loop-i l = find (λ t. is_at_client l.number t.place) (map live_of l.live) ≡ find (λ t. is_at_client l.number t.place) (map live_of (drop l.i l.live))
