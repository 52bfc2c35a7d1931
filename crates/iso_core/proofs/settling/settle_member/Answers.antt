use Rattle.iso_core.proofs.{Words.arith, Decides.settled_of}

pub returns-clause-ready : Rattle.iso_core.proofs.settling.settle_member.Goals.returns-clause-ready
returns-clause-ready c W t is = record {
  here = is.here;
  settled = settled_of W t c.args.member.now.work c.settle.new.self is.work c.in_ok-settle.ensures.ok c.settle.ensures.within (omega (arith, c.room.ensures));
  none = is.none;
}
