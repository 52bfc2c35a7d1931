use Rattle.iso_recover.proofs.{Words.{arith, sym}, Headers.unclean_below}

pub overflow_add-result : Rattle.iso_recover.proofs.halves.header_refusal.Goals.overflow_add-result
overflow_add-result c =
    let below = unclean_below c.args.header.now c.in-Some.i (sym c.in-Some.ensures.place) in
    omega (arith, below, c.requires.place)
