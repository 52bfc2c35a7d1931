use Rattle.std.proofs.Common.{refl}
use Rattle.iso_model.specs.World.{fresh}

pub with_device-sum-requires : Rattle.accounts.proofs.totals.sum_on.Goals.with_device-sum-requires
with_device-sum-requires g c =
    let to = c.in-Ok.ensures.opened in
    (fresh to.geometry to.generation to.history, record { stands = to.stands; idle = refl })
