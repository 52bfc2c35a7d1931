use Rattle.std.proofs.Common.{refl}
use Rattle.iso_model.specs.World.{empty_history, fresh}

pub move_over-requires-clause-start : Rattle.accounts.proofs.moved_on.Goals.move_over-requires-clause-start
move_over-requires-clause-start g c κs within =
    let geometry = c.numbers-geometry.result in
    (fresh geometry 1 (empty_history geometry), record { stands = c.in-Ok.ensures.stands; idle = refl })
