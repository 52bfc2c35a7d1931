use Rattle.std.proofs.Common.{ap, arith, rules, ◌∙◌}
use Rattle.std.proofs.lemmas.Grind.{common_steps}
use Rattle.iso_core.specs.Standing.{up}
use Rattle.iso_model.specs.declared.access.Geometry.{Geometry}
use Rattle.iso_shared.proofs.Standings.{came_first}

pub moved-requires-clause-start : Rattle.accounts.proofs.move_over.Goals.moved-requires-clause-start
moved-requires-clause-start g c κs within =
    let begins = c.beginning_of-beginning in
    record {
      holds = first_of (search rules, grind (arith, common_steps));
      idle = begins.ensures.idle;
      came = came_first g.D.Disk.state c.args.core begins.result.world ((g.met.D.Disk g.world.𝓛 g.world.𝓜 g.world.𝓡 ((λ s x. x), (λ x. x), (λ x. x), λ x. x)).lawful c.args.core.disk) begins.ensures.stands;
      store = λ none. c.if-geometry-eq0.false (ap (λ (k : Geometry). k.hash) (c.geometry.ensures begins.result.world up begins.ensures.stands) ∙ none);
    }
