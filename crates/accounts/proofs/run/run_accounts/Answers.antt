use Rattle.accounts.proofs.{Words.{refl, ◌∙◌, ap, Geometry, port_view, planned}, Whole.{has_run, ready_of}}

pub run_on-port-requires-clause-store : Rattle.accounts.proofs.run.run_accounts.Goals.run_on-port-requires-clause-store
run_on-port-requires-clause-store g c κs within = record {
  ready = ready_of g.D.Disk.state g.O.Origin.start c.args.core c.requires.start.holds c.requires.start.idle;
  some = c.requires.start.store;
  start = refl;
  size = ap (λ (k : Geometry). k.hash) (c.geometry.ensures ∙ c.in-Ok.ensures.ok.2);
}

pub returns-in-Ok-clause-run : Rattle.accounts.proofs.run.run_accounts.Goals.returns-in-Ok-clause-run
returns-in-Ok-clause-run g c =
    let view = port_view c.run_on-port.result.1 in
    has_run g.D.Disk.state g.O.Origin.start g.O.Origin.disk (planned c.args.plan.now) c.close-core.result view.seen view.mine (ready_of g.D.Disk.state g.O.Origin.start c.args.core c.requires.start.holds c.requires.start.idle)
    c.close-core.ensures.legal c.close-core.ensures.core c.close-core.ensures.came c.close-core.ensures.all c.run_on-port.ensures.port.1
