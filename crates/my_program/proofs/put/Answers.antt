use Rattle.std.proofs.Common.{refl}
use Rattle.iso_model.specs.World.{empty_history, fresh}

pub with_device-requires : Rattle.my_program.proofs.put.Goals.with_device-requires
with_device-requires g c =
    let geometry = c.numbers-geometry.result in
    (fresh geometry 1 (empty_history geometry), record { stands = c.in-Ok.ensures.stands; idle = refl })

pub with_device-requires-in-Ok-open_image : Rattle.my_program.proofs.put.Goals.with_device-requires-in-Ok-open_image
with_device-requires-in-Ok-open_image g c =
    let to = c.in-Ok-open_image.ensures.opened in
    (fresh to.geometry to.generation to.history, record { stands = to.stands; idle = refl })
