use Rattle.std.proofs.Common.{refl}
use Rattle.iso_model.specs.World.{fresh}

pub move_over-requires-clause-start : Rattle.accounts.proofs.moved_again.Goals.move_over-requires-clause-start
move_over-requires-clause-start g c κs within =
    let to = c.in-Ok.ensures.opened in
    (fresh to.geometry to.generation to.history, record { stands = to.stands; idle = refl })
