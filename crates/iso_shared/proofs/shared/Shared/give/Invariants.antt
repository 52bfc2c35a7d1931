use Rattle.iso_shared.specs.Passes.{told_turn}
use Rattle.turn_lock.specs.Lock.{turn_value}

abbrev pub ghosts-give_as : Rattle.iso_shared.proofs.shared.Shared.give.Given.ghosts-give_as
ghosts-give_as g a = record { entry = told_turn g.D.Disk.state a.before.value (turn_value a.turn).core a.told }
