use Rattle.handle_tests.proofs.Starts.{starts}

pub run-requires-clause-start : Rattle.handle_tests.proofs.session_tests.told.Goals.run-requires-clause-start
run-requires-clause-start g c κs within = starts c.new_core.result c.in_ok-core.core c.in_ok-core.ensures.value c.new_core.ensures
