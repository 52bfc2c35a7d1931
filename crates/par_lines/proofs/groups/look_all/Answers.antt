use Rattle.par_lines.proofs.{Words.{◌≡◌, arith, length, subst, sym, port_view}, Grouping.{found_size, looked_all, looks_on, not_yet, Looking}}
use Rattle.par_lines.proofs.groups.look_all.Goals as goal

pub loop-label-init : goal.loop-label-init
loop-label-init g c = record {
  looking = not_yet c.args.shared.now g.O.Origin.start c.args.labels.now c.args.port.now c.args.found.now.items c.requires.empty c.requires.port;
  room = c.requires.room;
}

pub look-requires : goal.look-requires
look-requires g c = record { port = (c.loop-label.invariant.looking.port_is, omega (arith, c.requires.units, c.loop-label.invariant.looking.units, c.loop-label.invariant.looking.few, c.loop-label-test.true)) }

pub push_reserved-requires : goal.push_reserved-requires
push_reserved-requires g c =
    let size : length c.loop-label.found.items ≡ c.loop-label.label-index
    = found_size c.args.shared.now g.O.Origin.start (port_view c.args.port.now) c.args.labels.now c.loop-label.label-index c.loop-label.port c.loop-label.found.items (omega (arith, c.loop-label-test.true)) c.loop-label.invariant.looking in
    omega (arith, size, c.loop-label.invariant.room, c.loop-label-test.true)

pub loop-label-preserved : goal.loop-label-preserved
loop-label-preserved g c = record {
  looking = subst (Looking c.args.shared.now g.O.Origin.start (port_view c.args.port.now) c.args.labels.now _ c.look.new.port) (sym c.push_reserved.ensures.items)
      (looks_on c.args.shared.now g.O.Origin.start (port_view c.args.port.now) c.args.labels.now c.loop-label.label-index c.loop-label.port c.look.new.port c.loop-label.found.items c.label-item.result c.look.result c.loop-label-test.true c.label-item.is
      c.look.ensures.port (record { tx = c.look.ensures.tx; found = c.look.ensures.found; none = c.look.ensures.none; units = c.look.ensures.units }) c.loop-label.invariant.looking);
  room = omega (arith, c.loop-label.invariant.room, c.push_reserved.ensures.capacity);
}

pub returns-clause-did : goal.returns-clause-did
returns-clause-did g c =
    looked_all c.args.shared.now g.O.Origin.start (port_view c.args.port.now) c.args.labels.now c.loop-label.label-index c.loop-label.port c.loop-label.found.items c.loop-label-test.false c.loop-label.invariant.looking
