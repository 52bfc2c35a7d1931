use Rattle.half_switch.proofs.{Words.{◌+◌, ◌-◌, length, arith, sym, ◌∙◌, on_ok_weaker, half_size, goes_on_still, starts_inside, runs_inside}, Filled.laid_filled, Tells.{on_err, tells_same, tells_more}}
use Rattle.half_switch.proofs.fill.fill_from.Goals as goal
use Rattle.std.proofs.Common.{rules}

pub returns-in_err-read-clause-writes : goal.returns-in_err-read-clause-writes
returns-in_err-read-clause-writes g c = record {
  moments =
      let laws = g.met.D.Disk.lawful in
      goes_on_still (laws c.args.disk.now) (starts_inside (laws c.args.disk.now) (c.args.to.now.header + 1) (half_size c.args.plan.now.geometry - 1)) c.read.ensures.crash;
  settled = search rules;
  told = search rules;
  failed = on_err _ (tells_same (c.args.to.now.header + 1) (half_size c.args.plan.now.geometry - 1) _ _ c.read.ensures.contents);
  cause = search rules;
}

pub returns-in_err-read-2-clause-writes : goal.returns-in_err-read-2-clause-writes
returns-in_err-read-2-clause-writes g c = record {
  moments =
      let laws = g.met.D.Disk.lawful in
      goes_on_still (laws c.read.new.self) (goes_on_still (laws c.args.disk.now) (starts_inside (laws c.args.disk.now) (c.args.to.now.header + 1) (half_size c.args.plan.now.geometry - 1)) c.read.ensures.crash) c.read-2.ensures.crash;
  settled = search rules;
  told = search rules;
  failed = on_err _ (tells_same (c.args.to.now.header + 1) (half_size c.args.plan.now.geometry - 1) _ _ (c.read-2.ensures.contents ∙ c.read.ensures.contents));
  cause = search rules;
}

pub returns-clause-writes : goal.returns-clause-writes
returns-clause-writes g c = record {
  moments =
      let laws = g.met.D.Disk.lawful in
      let read = goes_on_still (laws c.read.new.self) (goes_on_still (laws c.args.disk.now) (starts_inside (laws c.args.disk.now) (c.args.to.now.header + 1) (half_size c.args.plan.now.geometry - 1)) c.read.ensures.crash) c.read-2.ensures.crash in
      runs_inside (c.args.to.now.header + 1) (half_size c.args.plan.now.geometry - 1) (c.args.to.now.header + 1) (half_size c.args.plan.now.geometry - 1) (omega arith) (omega arith) (laws c.read-2.new.self) read c.put_filled.ensures.writes.moments;
  settled = search rules;
  told = search rules;
  failed = grind (arith, tells_more, tells_same);
  cause = search rules;
}

pub returns-clause-filled : goal.returns-clause-filled
returns-clause-filled g c h x copies held = on_ok_weaker c.put_filled.result (λ whole d image.
    let laid_out = whole d image in
    let told = sym (c.read-2.ensures.contents ∙ c.read.ensures.contents) ∙ laid_out.was in
    let was = (g.met.D.Disk.lawful c.args.disk.now).reads_as_image laid_out.old told in
    laid_filled h x c.args.from.now c.args.to.now c.args.plan.now c.read.new.into c.read-2.new.into d _ copies c.requires.places c.requires.bytes.numbers laid_out (held laid_out.old was)
    (length c.args.base.now) c.requires.bytes.base (c.in_ok-read.ensures.bytes laid_out.old told)
    (length c.args.log.now) c.requires.bytes.log (c.in_ok-read-2.ensures.bytes laid_out.old (c.read.ensures.contents ∙ told)))
    c.put_filled.ensures.laid_out
