-- Each turn takes one call off.
use Rattle.std.proofs.Common.{length}

abbrev pub decreases-loop-call : Rattle.queued_disk.proofs.queued.take_calls.Given.decreases-loop-call
decreases-loop-call l = length l.tape.items
