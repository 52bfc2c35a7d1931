use Rattle.mirror_disk.proofs.{Words.{arith, inl, inr, refl, started}, Raises.keeps_same}
use Rattle.mirror_disk.proofs.sides.raise_by_one.Goals as goal

pub returns-then-epoch-ge-LAST : goal.returns-then-epoch-ge-LAST
returns-then-epoch-ge-LAST g c = record {
  moments = started (g.met.D.Disk.lawful c.args.disk.now) (λ x now. let has = c.requires.marked.each x now in (has.header, inl (has.epoch_is, (x, now, refl))));
  raised = λ is. absurd (cc is);
  settled = λ is. absurd (cc is);
  body = keeps_same refl;
  later = omega arith;
  cause = λ _. inl (omega (arith, c.if-epoch-ge-LAST.true));
}

pub raise_epoch-requires : goal.raise_epoch-requires
raise_epoch-requires g c = record { size = c.requires.size; last = omega (arith, c.if-epoch-ge-LAST.false); marked = (c.args.epoch, c.requires.marked, omega arith) }

pub returns-in-Ok : goal.returns-in-Ok
returns-in-Ok g c = record {
  moments = c.raise_epoch.ensures.moments c.args.epoch c.requires.marked (omega arith);
  raised = λ _. c.in-Ok.ensures.raised;
  settled = λ _. c.in-Ok.ensures.settled;
  body = c.raise_epoch.ensures.body;
  later = c.raise_epoch.ensures.cause.later;
  cause = λ is. absurd (cc is);
}

pub returns-in-Err : goal.returns-in-Err
returns-in-Err g c = record {
  moments = c.raise_epoch.ensures.moments c.args.epoch c.requires.marked (omega arith);
  raised = λ is. absurd (cc is);
  settled = λ is. absurd (cc is);
  body = c.raise_epoch.ensures.body;
  later = c.raise_epoch.ensures.cause.later;
  cause = λ _. inr (c.in-Err.ensures.cause.failed refl);
}
