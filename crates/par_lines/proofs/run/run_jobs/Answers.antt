use Rattle.par_lines.proofs.{Words.{◌+◌, ap, reverse, subst, sym, ◌∙◌, All, port_view, IsNew}, Gathering.jobs_done, Sweeping.told_all}

pub gather-requires-clause-jobs : Rattle.par_lines.proofs.run.run_jobs.Goals.gather-requires-clause-jobs
gather-requires-clause-jobs g c =
    (jobs_done g.O.Origin.start c.args.shared.now c.args.lines.now.value.items c.args.jobs.items c.as_mut_slice.result.now c.run_all.new.jobs _ c.args.jobs.len c.as_mut_slice.ensures.value c.run_all.auto.jobs c.as_mut_slice.ensures.len c.requires.jobs c.run_all.ensures.fits c.run_all.ensures.ran).all

pub sweep_all-requires-clause-units : Rattle.par_lines.proofs.run.run_jobs.Goals.sweep_all-requires-clause-units
sweep_all-requires-clause-units g c =
    let d = jobs_done g.O.Origin.start c.args.shared.now c.args.lines.now.value.items c.args.jobs.items c.as_mut_slice.result.now c.run_all.new.jobs _ c.args.jobs.len c.as_mut_slice.ensures.value c.run_all.auto.jobs c.as_mut_slice.ensures.len c.requires.jobs c.run_all.ensures.fits c.run_all.ensures.ran in
    c.gather.ensures.units ∙ (ap (λ n. (port_view c.args.port.now).units + n) d.units ∙ c.requires.units)

pub returns-clause-told : Rattle.par_lines.proofs.run.run_jobs.Goals.returns-clause-told
returns-clause-told g c =
    let d = jobs_done g.O.Origin.start c.args.shared.now c.args.lines.now.value.items c.args.jobs.items c.as_mut_slice.result.now c.run_all.new.jobs _ c.args.jobs.len c.as_mut_slice.ensures.value c.run_all.auto.jobs c.as_mut_slice.ensures.len c.requires.jobs c.run_all.ensures.fits c.run_all.ensures.ran in
    told_all g.O.Origin.start c.args.lines.now.value.items c.gather.new.parts.items (port_view c.gather.new.port) (port_view c.sweep_all.new.port) c.gather.ensures.told c.sweep_all.ensures.all c.sweep_all.ensures.legal c.sweep_all.ensures.swept
    (c.gather.ensures.clients ∙ (ap reverse d.ids ∙ c.requires.clients))

pub run_all-requires-after_bounds : Rattle.par_lines.proofs.run.run_jobs.Goals.run_all-requires-after_bounds
run_all-requires-after_bounds g c κs within k d below =
    (subst (All (IsNew g.O.Origin.start c.args.shared.now c.args.lines.now.value.items)) (sym c.as_mut_slice.ensures.value) c.requires.jobs k d below).client
