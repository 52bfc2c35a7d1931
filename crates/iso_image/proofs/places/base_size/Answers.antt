use Rattle.iso_image.proofs.Words.{◌≡◌, ◌*◌, arith, limits}

pub returns-clause-small : Rattle.iso_image.proofs.places.base_size.Goals.returns-clause-small
returns-clause-small c =
    let most = (limits c.args.geometry.now c.requires).base in
    let same : c.from.result * c.from-2.result ≡ c.args.geometry.now.blocks * c.args.geometry.now.block = λ i. c.from.ensures i * c.from-2.ensures i in
    omega (arith, most, same)
