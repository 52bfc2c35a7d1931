-- Who holds the floor.
use Rattle.std.specs.Prelude.{◌==◌, Option, find}
use Rattle.iso_model.specs.World.{Live, World, floor}

-- the first of the live transactions that began at the floor
abbrev pub oldest_of : World → Option Live
oldest_of W = find (λ t. t.begin == floor W) W.live
