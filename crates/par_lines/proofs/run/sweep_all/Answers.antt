use Rattle.par_lines.proofs.{Words.{◌∙◌, port_view}, Sweeping.{swept_last, swept_more}}

pub returns-in-None-sweep-clause-all : Rattle.par_lines.proofs.run.sweep_all.Goals.returns-in-None-sweep-clause-all
returns-in-None-sweep-clause-all g c =
    (swept_last g.O.Origin.start (port_view c.args.port.now) (port_view c.loop.port) (port_view c.sweep.new.port) c.loop.invariant.swept c.in-None-sweep.ensures.made (c.sweep.ensures.all (c.sweep.ensures.units ∙ c.loop.invariant.units)) c.loop.invariant.port.1.2.0 c.loop.invariant.port.1.2.1).0

pub returns-in-None-sweep-clause-swept : Rattle.par_lines.proofs.run.sweep_all.Goals.returns-in-None-sweep-clause-swept
returns-in-None-sweep-clause-swept g c =
    (swept_last g.O.Origin.start (port_view c.args.port.now) (port_view c.loop.port) (port_view c.sweep.new.port) c.loop.invariant.swept c.in-None-sweep.ensures.made (c.sweep.ensures.all (c.sweep.ensures.units ∙ c.loop.invariant.units)) c.loop.invariant.port.1.2.0 c.loop.invariant.port.1.2.1).1

pub loop-preserved : Rattle.par_lines.proofs.run.sweep_all.Goals.loop-preserved
loop-preserved g c = record {
  iterates = (tt, tt);
  port = c.sweep.ensures.port;
  units = c.sweep.ensures.units ∙ c.loop.invariant.units;
  swept = swept_more g.O.Origin.start (port_view c.args.port.now) (port_view c.loop.port) (port_view c.sweep.new.port) c.in-Some-sweep.field-0 c.loop.invariant.swept c.in-Some-sweep.ensures.made (c.sweep.ensures.all (c.sweep.ensures.units ∙ c.loop.invariant.units)) c.loop.invariant.port.1.2.0 c.loop.invariant.port.1.2.1;
}
