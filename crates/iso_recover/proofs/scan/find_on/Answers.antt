use Rattle.iso_recover.proofs.{Words.{◌+◌, ◌-◌, sym, subst, next_place, OpenError, IsTest, IsDamagedBy, IsShaped}, Scans.damaged_by, Shapes.opening_shaped}

pub returns-in-Err-clause-damaged : Rattle.iso_recover.proofs.scan.find_on.Goals.returns-in-Err-clause-damaged
returns-in-Err-clause-damaged g c test image told =
    subst (λ (e : OpenError). IsDamagedBy c.args.geometry.now (next_place c.args.log.now) (c.args.log.now.room - c.args.log.now.used) (c.args.log.now.last + 1) e image) (sym c.opening.ensures)
    (damaged_by c.in-Err.error c.args.geometry.now (next_place c.args.log.now) (c.args.log.now.room - c.args.log.now.used) (c.args.log.now.last + 1) image
    (λ at cause is. c.in-Err.ensures.damaged at cause is image told) (subst IsTest c.opening.ensures test))

pub returns-in-Err-clause-shape : Rattle.iso_recover.proofs.scan.find_on.Goals.returns-in-Err-clause-shape
returns-in-Err-clause-shape g c =
    let size = (g.D.Disk.state c.args.disk.now).size in
    subst (IsShaped (g.D.Disk.state c.args.disk.now).size) (sym c.opening.ensures)
    (opening_shaped c.in-Err.error size (c.args.log.now.place + c.args.log.now.room) c.requires.fits c.in-Err.ensures.test)
