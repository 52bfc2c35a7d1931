use Rattle.iso_machine.proofs.Words.{◌≡◌, drop, find, map, is_under_label, live_of}

-- what is found among those that are left is what is found among all
abbrev pub invariant-loop-i : Rattle.iso_machine.proofs.attached.walk_to_label.Given.invariant-loop-i
invariant-loop-i l = find (λ t. is_under_label l.label t.place) (map live_of l.live) ≡ find (λ t. is_under_label l.label t.place) (map live_of (drop l.i l.live))
