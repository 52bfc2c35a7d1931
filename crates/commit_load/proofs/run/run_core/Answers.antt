use Rattle.std.proofs.Common.{ap, sym, ◌∙◌}
use Rattle.iso_core.specs.Standing.{up}
use Rattle.iso_model.specs.declared.access.Geometry.{Geometry}
use Rattle.iso_shared.proofs.Standings.{came_first}

pub run_over-requires-clause-came : Rattle.commit_load.proofs.run.run_core.Goals.run_over-requires-clause-came
run_over-requires-clause-came g c κs within =
    came_first g.D.Disk.state c.args.core c.beginning_of-beginning.result.world ((g.met.D.Disk g.world.𝓛 g.world.𝓜 g.world.𝓡 ((λ s x. x), (λ x. x), (λ x. x), λ x. x)).lawful c.args.core.disk) c.beginning_of-beginning.ensures.stands

pub run_over-requires-clause-size : Rattle.commit_load.proofs.run.run_core.Goals.run_over-requires-clause-size
run_over-requires-clause-size g c κs within =
    let begins = c.beginning_of-beginning in
    sym (ap (λ (k : Geometry). k.block) (c.geometry.ensures begins.result.world up begins.ensures.stands)) ∙ c.if-geometry-eq256.true
