use Rattle.device_calls.proofs.Visiting.{called, may_make}

pub make-called-requires : Rattle.device_calls.proofs.visit.visit.Goals.make-called-requires
make-called-requires g c =
    may_make g.O.Origin.start c.args.session.now g.V.Visit.before c.requires.before (g.C.BlocksCall.fits c.args.call) c.blocks-blocks.result.visitor c.blocks-blocks.ensures c.requires.fits

pub returns-clause-did : Rattle.device_calls.proofs.visit.visit.Goals.returns-clause-did
returns-clause-did g c =
    let left = c.leave-session.result in
    called g.O.Origin.start c.args.session.now g.V.Visit.before c.requires.before left.session.now left.failures left.is_down c.blocks-blocks.result.visitor c.make-called.new.tx.visitor
    (λ x y before now. g.C.BlocksCall.says c.args.call x y before now c.make-called.result) c.blocks-blocks.ensures c.leave-session.ensures.seen c.leave-session.ensures.visit c.make-called.ensures
