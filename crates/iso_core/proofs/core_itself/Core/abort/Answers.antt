use Rattle.iso_core.proofs.{Words.without, Standings.stands_as}

pub leave-requires : Rattle.iso_core.proofs.core_itself.Core.abort.Goals.leave-requires
leave-requires g c =
    let (W, standing, t, stands, here) = c.requires in
    record { world = W; t = t; of = stands.kept_of; here = here }

pub returns-clause-left : Rattle.iso_core.proofs.core_itself.Core.abort.Goals.returns-clause-left
returns-clause-left g c W standing t stands here =
    stands_as (g.D.Disk.state c.args.self.now.disk) c.args.self.now.kept c.leave.new.kept W standing (without t.number W.live) W.next W.trim stands
    (let left = c.leave.ensures (record { world = W; t = t; of = stands.kept_of; here = here }) in record { of = left.of; half = left.half; down = left.down })
