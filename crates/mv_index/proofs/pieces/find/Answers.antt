-- The piece before a version and the one after it are cut alone.
use Rattle.mv_index.proofs.Laid.{begun_is, ended_is, one_around}

pub returns-clause-cuts : Rattle.mv_index.proofs.pieces.find.Goals.returns-clause-cuts
returns-clause-cuts c = record {
  first = c.begin_near-first.ensures.within;
  last = c.end_near.ensures.within;
  around = one_around c.args.from c.args.to c.begin_near-first.result c.end_near.result c.args.pieces.now c.requires.order c.requires.rise c.begin_near-first.ensures.within c.begin_near-first.ensures.below c.end_near.ensures.above;
}

pub returns-clause-front : Rattle.mv_index.proofs.pieces.find.Goals.returns-clause-front
returns-clause-front c = ended_is c.args.from 0 c.begin_near-first.result c.args.pieces.now c.requires.order c.begin_near-first.ensures.within c.begin_near-first.ensures.below c.begin_near-first.ensures.above

pub returns-clause-back : Rattle.mv_index.proofs.pieces.find.Goals.returns-clause-back
returns-clause-back c = begun_is c.args.to 0 c.end_near.result c.args.pieces.now c.requires.order c.end_near.ensures.below c.end_near.ensures.above
