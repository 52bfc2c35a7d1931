use Rattle.std.proofs.Common.{ap, sym, ◌∙◌}
use Rattle.iso_core.specs.{Core.disk_of, Standing.up}
use Rattle.iso_memdisk.specs.{Laws.lawful, MemDisk.state_of}
use Rattle.iso_model.specs.declared.access.Geometry.{Geometry}
use Rattle.iso_shared.proofs.Standings.{came_first}

pub played_over-requires-clause-came : Rattle.handle_tests.proofs.hall.played_on.Goals.played_over-requires-clause-came
played_over-requires-clause-came g c =
    came_first state_of c.args.core c.beginning_of-beginning.result.world (lawful (disk_of c.args.core)) c.beginning_of-beginning.ensures.stands

pub played_over-requires-clause-size : Rattle.handle_tests.proofs.hall.played_on.Goals.played_over-requires-clause-size
played_over-requires-clause-size g c =
    let begins = c.beginning_of-beginning in
    sym (ap (λ (k : Geometry). k.block) (c.geometry.ensures begins.result.world up begins.ensures.stands)) ∙ c.if-geometry-eq64.true
