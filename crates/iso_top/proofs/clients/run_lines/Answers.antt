use Rattle.iso_top.proofs.Words.{inl, came_first}

pub run_over-requires-clause-valid : Rattle.iso_top.proofs.clients.run_lines.Goals.run_over-requires-clause-valid
run_over-requires-clause-valid g c κs within = c.world_of-beginning.ensures.stands.kept_of.world.valid

pub run_over-requires-clause-came : Rattle.iso_top.proofs.clients.run_lines.Goals.run_over-requires-clause-came
run_over-requires-clause-came g c κs within =
    came_first g.I.Disk.state c.args.opened.core c.world_of-beginning.result.world ((g.met.I.Disk g.world.𝓛 g.world.𝓜 g.world.𝓡 ((λ s x. x), (λ x. x), (λ x. x), λ x. x)).lawful c.args.opened.core.disk) c.world_of-beginning.ensures.stands

pub returns-in-Ok : Rattle.iso_top.proofs.clients.run_lines.Goals.returns-in-Ok
returns-in-Ok g c =
    let put = c.put_end-status.ensures in
    inl (c.world_of-beginning.result.world, c.in-Ok.end, c.world_of-beginning.ensures, c.in-Ok.ensures.ended, record { done = put.done; disk = put.disk; memory = put.memory })
