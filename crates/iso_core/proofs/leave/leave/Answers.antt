use Rattle.iso_core.proofs.{Words.refl, Leaves.{is_live, leaves_so}}

pub leave-requires : Rattle.iso_core.proofs.leave.leave.Goals.leave-requires
leave-requires c =
    let l = c.requires in
    is_live c.args.kept.now l.world c.args.tx l.t l.of l.here

pub returns : Rattle.iso_core.proofs.leave.leave.Goals.returns
returns c l = record { of = leaves_so c.args.kept.now l.world c.args.tx l.t l.of l.here c.leave.new.self c.leave.ensures; half = refl; down = refl }
