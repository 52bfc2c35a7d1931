use Rattle.std.proofs.Common.{length}
use Rattle.isotope_c.proofs.told.+fill_ends.Given as goal

abbrev pub decreases-fill_ends : goal.decreases-fill_ends
decreases-fill_ends l = length l.places.now
