-- The visit begins with the session as it is at the call.
use Rattle.par_lines.proofs.Words.{Some}

abbrev pub ghosts-visit : Rattle.par_lines.proofs.stores.store.Given.ghosts-visit
ghosts-visit g a = record { before = Some a.session.now; name = a.session.ghost_name }
