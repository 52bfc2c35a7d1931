use Rattle.accounts.proofs.{Words.{◌≡◌, ◌+◌, length, AllByRecursion, into_iter_items, into_iter_len, IsKept, opening_of}, Knowing.LearnsMore}
use Rattle.accounts.specs.Learned.{IsEnded}

abbrev pub invariant-loop-ended : Rattle.accounts.proofs.learning.learn_all.Given.invariant-loop-ended
invariant-loop-ended g l = record {
  kept : IsKept (opening_of l.accounts) g.O.Origin.start l.session;
  same : l.session.device ≡ l.fn.session.device;
  len : into_iter_len l.rest ≡ length (into_iter_items l.rest);
  told : AllByRecursion (IsEnded l.shared g.O.Origin.start) (into_iter_items l.rest);
  units : l.session.units + length (into_iter_items l.rest) ≡ l.fn.session.units + length l.fn.told.items;
  learned : LearnsMore l.shared g.O.Origin.start l.session.seen (into_iter_items l.rest) l.fn.told.items;
}

abbrev pub decreases-loop-ended : Rattle.accounts.proofs.learning.learn_all.Given.decreases-loop-ended
decreases-loop-ended g l = into_iter_len l.rest
