use Rattle.iso_shared.proofs.Words.{stamped, wanting_entry}
use Rattle.turn_lock.specs.Lock.{turn_value}

abbrev pub ghosts-give_wanting : Rattle.iso_shared.proofs.shared.Shared.refuse_at_turn.Given.ghosts-give_wanting
ghosts-give_wanting g a = record { entry = stamped g.D.Disk.state (turn_value a.turn).core (wanting_entry a.group.now a.error) }
