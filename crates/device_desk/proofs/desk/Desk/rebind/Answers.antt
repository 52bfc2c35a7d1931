use Rattle.iso_machine.proofs.Words.{◌∙◌, ap, disk_of, subst, up, WritesNothing}
use Rattle.device_desk.specs.Device.{Device, disk_under}
use Rattle.device_desk.proofs.{Devices.{sees}, Tables.{same}}
use Rattle.device_desk.proofs.desk.Desk.rebind.Goals as goal

pub invariant_of-self : goal.invariant_of-self
invariant_of-self g c is_up =
    let was = c.self.invariant is_up in
    (was.0, same was.1 (c.rebind.ensures.same was.0 up was.1.core_of))

pub returns-clause-did : goal.returns-clause-did
returns-clause-did g c =
    subst (λ (d : Device g.row.D.Denot). g.E.Rebinding.did c.args.errand.now (disk_under d) c.rebind.new.errand (disk_of c.rebind.new.self)) c.self.view_is c.rebind.ensures.did

pub returns-clause-same : goal.returns-clause-same
returns-clause-same g c W stands =
    let was = sees c.self.view_is stands in
    record { is_up = was.is_up; table = same was.table (c.rebind.ensures.same W up was.table.core_of) }

pub returns-clause-still : goal.returns-clause-still
returns-clause-still g c = ap (λ (d : Device g.row.D.Denot). d.up) c.self.view_is

pub returns-clause-unwritten : goal.returns-clause-unwritten
returns-clause-unwritten g c =
    subst (λ (d : Device g.row.D.Denot). WritesNothing (g.D.Disk.state (disk_under d)) (record (g.D.Disk.state (disk_of c.rebind.new.self)) { bound = (g.D.Disk.state (disk_under d)).bound })) c.self.view_is c.rebind.ensures.unwritten

pub returns-clause-faults : goal.returns-clause-faults
returns-clause-faults g c = c.rebind.ensures.faults ∙ ap (λ (d : Device g.row.D.Denot). (g.D.Disk.state (disk_under d)).faults) c.self.view_is
