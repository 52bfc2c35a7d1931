-- The visit begins with the session as it is at the call.
use Rattle.std.proofs.Common.{Some}

abbrev pub ghosts-through : Rattle.handle_tests.proofs.session_tests.shown_through.Given.ghosts-through
ghosts-through g a = record { before = Some a.session.now; name = a.session.ghost_name }
