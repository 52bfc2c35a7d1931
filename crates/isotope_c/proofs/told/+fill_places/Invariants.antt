use Rattle.std.proofs.Common.{length}
use Rattle.isotope_c.proofs.told.+fill_places.Given as goal

abbrev pub decreases-fill_places : goal.decreases-fill_places
decreases-fill_places l = length l.places.now
