use Rattle.handle_tests.proofs.Starts.{starts}

pub run_across-requires-clause-start : Rattle.handle_tests.proofs.group_tests.across_threads.Goals.run_across-requires-clause-start
run_across-requires-clause-start g c κs within = starts c.core_failing.result c.in_ok-core.core c.in_ok-core.ensures.value c.core_failing.ensures
