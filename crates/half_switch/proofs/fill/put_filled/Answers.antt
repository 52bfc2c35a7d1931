use Rattle.half_switch.proofs.{Words.{◌-◌, arith, length-set, half_size}, Nexts.{rest_is, length-header}}

pub returns-clause-writes : Rattle.half_switch.proofs.fill.put_filled.Goals.returns-clause-writes
returns-clause-writes g c =
    let (base, log) = c.requires.room.places in
    c.put_half.ensures.writes (half_size c.args.plan.now.geometry - 1)
    (omega (arith, base, log, c.requires.bytes.base, c.split_at.ensures.back_len, c.requires.bytes.log, c.requires.bytes.used, length-set c.args.log.now c.args.plan.now.used 0))

pub returns-clause-laid_out : Rattle.half_switch.proofs.fill.put_filled.Goals.returns-clause-laid_out
returns-clause-laid_out g c = grind (arith, rest_is, length-header)
