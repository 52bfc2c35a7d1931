use Rattle.par_lines.proofs.{Words.{Serial}, Storing.{has_own, may_call, visited}}

pub call-called-requires-clause-areas : Rattle.par_lines.proofs.stores.visit.Goals.call-called-requires-clause-areas
call-called-requires-clause-areas g c =
    (may_call g.O.Origin.start g.V.Visit.before c.args.session.now c.args.region c.args.op.now c.blocks-blocks.result.visitor c.blocks-blocks.ensures c.requires.region c.requires.there c.requires.valid).0

pub call-called-requires-clause-fits : Rattle.par_lines.proofs.stores.visit.Goals.call-called-requires-clause-fits
call-called-requires-clause-fits g c =
    (may_call g.O.Origin.start g.V.Visit.before c.args.session.now c.args.region c.args.op.now c.blocks-blocks.result.visitor c.blocks-blocks.ensures c.requires.region c.requires.there c.requires.valid).1

pub returns-clause-did : Rattle.par_lines.proofs.stores.visit.Goals.returns-clause-did
returns-clause-did g c =
    let o = has_own c.args.session.now.own Serial c.requires.mode in
    let left = c.leave-session.result in
    visited g.O.Origin.start c.args.session.now c.args.op.now c.requires.op left.session.now g.V.Visit.before o.0 c.args.region left.failures left.is_down c.call-called.result c.settle.result c.blocks-blocks.result.visitor
    c.call-called.new.tx.visitor c.requires.before o.1 o.2 c.requires.region c.requires.there c.requires.some c.blocks-blocks.ensures c.leave-session.ensures.seen c.call-called.ensures.called c.call-called.ensures.stops
    c.leave-session.ensures.visit c.settle.ensures
