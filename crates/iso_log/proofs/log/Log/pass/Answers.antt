use Rattle.iso_log.proofs.{Words.{◌≡◌, ◌+◌, ◌-◌, ap, arith, Extent, next_place}, Finds.{found_some, taken_is}, Pieces.stand_behind}

pub returns-clause-taken : Rattle.iso_log.proofs.log.Log.pass.Goals.returns-clause-taken
returns-clause-taken c g found = taken_is g _ c.args.self.now c.self.view_is c.args.ahead.now c.args.size c.requires.within found

pub returns-clause-ahead : Rattle.iso_log.proofs.log.Log.pass.Goals.returns-clause-ahead
returns-clause-ahead c image stands =
    let ahead = c.args.ahead.now in
    let passed = c.args.size - 1 in
    let (g, found) = c.requires.found in
    let some = found_some g (c.args.self.now.last + 1) c.args.size ahead found in
    let there : next_place c.args.self.now + passed ≡ c.self.inside.place + (c.self.inside.used + passed) =
    omega (arith, ap (λ (e : Extent). e.place) c.self.view_is, ap (λ (e : Extent). e.used) c.self.view_is) in
    grind (arith, stand_behind)
