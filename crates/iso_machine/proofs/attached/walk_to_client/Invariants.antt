use Rattle.iso_machine.proofs.Words.{◌≡◌, drop, find, map, is_at_client, live_of}

-- what is found among those that are left is what is found among all
abbrev pub invariant-loop-i : Rattle.iso_machine.proofs.attached.walk_to_client.Given.invariant-loop-i
invariant-loop-i l = find (λ t. is_at_client l.client t.place) (map live_of l.live) ≡ find (λ t. is_at_client l.client t.place) (map live_of (drop l.i l.live))
