use Rattle.iso_shared.proofs.{Words.{arith}, HandedBack.gathers_one}

pub returns : Rattle.iso_shared.proofs.shared.Shared.join_member.Goals.returns
returns g c =
    gathers_one c.args.self.now g.O.Origin.start c.args.tx.now _ _ _ _ c.args.port.now _ c.split-note.ensures c.join.ensures c.replace-pass.ensures.value c.replace-pass.ensures.after
    c.requires.port c.requires.tx (c.count.ensures.within, omega (arith, c.room.ensures))
