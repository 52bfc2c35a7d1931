use Rattle.iso_machine.proofs.Words.{disk_of, guest_begins}

pub call_from-called-requires-clause-guest : Rattle.iso_machine.proofs.storing.call_on.Goals.call_from-called-requires-clause-guest
call_from-called-requires-clause-guest g c =
    let (W, t, of, here, work) = c.requires.live in
    guest_begins g.D.Disk.state c.args.core.now c.args.tx c.args.work.now W t (g.met.D.Disk.lawful (disk_of c.args.core.now)) of here work c.requires.few
