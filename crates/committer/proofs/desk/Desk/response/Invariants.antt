use Rattle.committer.proofs.DeskWords.{◌≡◌}

-- nothing was taken yet
abbrev pub invariant-loop : Rattle.committer.proofs.desk.Desk.response.Given.invariant-loop
invariant-loop g l = (l.client.seat.table_id ≡ l.initial.client.seat.table_id) × (l.client.seat.me ≡ l.initial.client.seat.me)
