-- The visit begins with the session as it is at the call.
use Rattle.device_calls.proofs.Words.{Some}

abbrev pub ghosts-visit : Rattle.device_calls.proofs.visit.on_blocks.Given.ghosts-visit
ghosts-visit g a = record { before = Some a.session.now; name = a.session.ghost_name }
