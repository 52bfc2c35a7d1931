use Rattle.iso_image.proofs.Words.{arith, limits}

pub returns-clause-small : Rattle.iso_image.proofs.places.half_size.Goals.returns-clause-small
returns-clause-small c =
    let small = (limits c.args.geometry.now c.requires).half in
    omega (arith, small, c.base_size.ensures.size, c.from.ensures)

pub overflow_add-result-2 : Rattle.iso_image.proofs.places.half_size.Goals.overflow_add-result-2
overflow_add-result-2 c =
    let most = (limits c.args.geometry.now c.requires).largest_log in
    omega (arith, most, c.base_size.ensures.small, c.from.ensures)
