use Rattle.std.proofs.Common.{length}
use Rattle.isotope_c.proofs.tape.+show_calls.Given as goal

abbrev pub decreases-show_calls : goal.decreases-show_calls
decreases-show_calls l = length l.places.now
