-- `counter` steps are counted.
use Rattle.std.proofs.Common.{◌≡◌, ◌+◌}

abbrev pub invariant-loop : Rattle.disk_tests.proofs.count_tests.count_on.Given.invariant-loop
invariant-loop g l = l.steps ≡ l.initial.steps + l.counter
