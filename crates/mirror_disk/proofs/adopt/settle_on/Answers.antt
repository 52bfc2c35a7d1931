use Rattle.mirror_disk.proofs.{Words.{arith, sym, ◌∙◌}, Adopted.alike_of, Settled.{first_adopted, first_alone, first_settles, second_adopted, second_alone, second_settles}}
use Rattle.mirror_disk.proofs.adopt.settle_on.Goals as goal
use Rattle.std.proofs.{Common.rules, lemmas.Grind.common_steps}

pub returns-in_err-slot : goal.returns-in_err-slot
returns-in_err-slot g c =
    let call = c.take_over.ensures in
    record {
      adopted = search rules;
      settles = second_settles (g.met.A.Disk.lawful c.args.first.now) (g.met.B.Disk.lawful c.args.second.now) (g.met.A.Disk.lawful c.take_over.new.to) (g.met.B.Disk.lawful c.take_over.new.from) c.requires.settled.0 c.requires.settled.1 c.if-one-two.true c.requires.first.1 c.requires.second.1 call.made.moments call.moments call.made.tells call.body;
      later = (call.later.1, call.later.0);
      first_cause = first_of (search rules, grind (arith, common_steps));
      second_cause = first_of (search rules, grind (arith, common_steps));
    }

pub returns-in-Some : goal.returns-in-Some
returns-in-Some g c =
    let call = c.take_over.ensures in
    record {
      adopted = second_adopted (g.met.A.Disk.lawful c.args.first.now) (g.met.B.Disk.lawful c.args.second.now) (g.met.A.Disk.lawful c.take_over.new.to) (g.met.B.Disk.lawful c.take_over.new.from) (c.requires.sized.to ∙ sym c.requires.sized.from) (omega (arith, c.requires.sized.from)) c.in-Some.slot c.args.two.slot
          call.made.moments call.moments call.made.tells call.body c.in_ok-slot.ensures.settled (alike_of c.in_ok-slot.field-0 c.in-Some.slot c.in-Some.is c.in_ok-slot.ensures.made.alike);
      settles = second_settles (g.met.A.Disk.lawful c.args.first.now) (g.met.B.Disk.lawful c.args.second.now) (g.met.A.Disk.lawful c.take_over.new.to) (g.met.B.Disk.lawful c.take_over.new.from) c.requires.settled.0 c.requires.settled.1 c.if-one-two.true c.requires.first.1 c.requires.second.1 call.made.moments call.moments call.made.tells call.body;
      later = (call.later.1, call.later.0);
      first_cause = tt;
      second_cause = tt;
    }

pub returns-in-None : goal.returns-in-None
returns-in-None g c =
    let call = c.take_over.ensures in
    record {
      adopted = second_alone (g.met.A.Disk.lawful c.args.first.now) (g.met.B.Disk.lawful c.args.second.now) (g.met.A.Disk.lawful c.take_over.new.to) (g.met.B.Disk.lawful c.take_over.new.from) (c.requires.sized.to ∙ sym c.requires.sized.from) (omega (arith, c.requires.sized.from)) c.args.one.slot c.args.two.slot
          c.if-one-two.true call.made.moments call.moments call.made.tells call.body c.in_ok-slot.ensures.settled (c.in_ok-slot.ensures.alone c.in-None.is) (c.in_ok-slot.ensures.made.left c.in-None.is);
      settles = second_settles (g.met.A.Disk.lawful c.args.first.now) (g.met.B.Disk.lawful c.args.second.now) (g.met.A.Disk.lawful c.take_over.new.to) (g.met.B.Disk.lawful c.take_over.new.from) c.requires.settled.0 c.requires.settled.1 c.if-one-two.true c.requires.first.1 c.requires.second.1 call.made.moments call.moments call.made.tells call.body;
      later = (call.later.1, call.later.0);
      first_cause = tt;
      second_cause = tt;
    }

pub returns-in_err-slot-2 : goal.returns-in_err-slot-2
returns-in_err-slot-2 g c =
    let call = c.take_over-2.ensures in
    record {
      adopted = search rules;
      settles = first_settles (g.met.A.Disk.lawful c.args.first.now) (g.met.B.Disk.lawful c.args.second.now) (g.met.A.Disk.lawful c.take_over-2.new.from) (g.met.B.Disk.lawful c.take_over-2.new.to) c.requires.settled.0 c.requires.settled.1 c.if-one-two.false c.requires.first.1 c.requires.second.1 call.moments call.made.moments call.body call.made.tells call.still;
      later = call.later;
      first_cause = first_of (search rules, grind (arith, common_steps));
      second_cause = first_of (search rules, grind (arith, common_steps));
    }

pub returns-in-Some-2 : goal.returns-in-Some-2
returns-in-Some-2 g c =
    let call = c.take_over-2.ensures in
    record {
      adopted = first_adopted (g.met.A.Disk.lawful c.args.first.now) (g.met.B.Disk.lawful c.args.second.now) (g.met.A.Disk.lawful c.take_over-2.new.from) (g.met.B.Disk.lawful c.take_over-2.new.to) (c.requires.sized.to ∙ sym c.requires.sized.from) (omega (arith, c.requires.sized.from)) c.args.one.slot c.in-Some-2.slot
          call.moments call.made.moments call.body call.made.tells c.in_ok-slot-2.ensures.settled (alike_of c.in_ok-slot-2.field-0 c.in-Some-2.slot c.in-Some-2.is c.in_ok-slot-2.ensures.made.alike);
      settles = first_settles (g.met.A.Disk.lawful c.args.first.now) (g.met.B.Disk.lawful c.args.second.now) (g.met.A.Disk.lawful c.take_over-2.new.from) (g.met.B.Disk.lawful c.take_over-2.new.to) c.requires.settled.0 c.requires.settled.1 c.if-one-two.false c.requires.first.1 c.requires.second.1 call.moments call.made.moments call.body call.made.tells call.still;
      later = call.later;
      first_cause = tt;
      second_cause = tt;
    }

pub returns-in-None-2 : goal.returns-in-None-2
returns-in-None-2 g c =
    let call = c.take_over-2.ensures in
    record {
      adopted = first_alone (g.met.A.Disk.lawful c.args.first.now) (g.met.B.Disk.lawful c.args.second.now) (g.met.A.Disk.lawful c.take_over-2.new.from) (g.met.B.Disk.lawful c.take_over-2.new.to) (c.requires.sized.to ∙ sym c.requires.sized.from) (omega (arith, c.requires.sized.from)) c.args.one.slot c.args.two.slot
          c.if-one-two.false call.moments call.made.moments call.body call.made.tells c.in_ok-slot-2.ensures.settled (c.in_ok-slot-2.ensures.alone c.in-None-2.is) (c.in_ok-slot-2.ensures.made.left c.in-None-2.is);
      settles = first_settles (g.met.A.Disk.lawful c.args.first.now) (g.met.B.Disk.lawful c.args.second.now) (g.met.A.Disk.lawful c.take_over-2.new.from) (g.met.B.Disk.lawful c.take_over-2.new.to) c.requires.settled.0 c.requires.settled.1 c.if-one-two.false c.requires.first.1 c.requires.second.1 call.moments call.made.moments call.body call.made.tells call.still;
      later = call.later;
      first_cause = tt;
      second_cause = tt;
    }

pub take_over-requires : goal.take_over-requires
take_over-requires g c = record {
  sized = record { from = c.requires.sized.to; to = c.requires.sized.from };
  settled = (c.requires.settled.1, c.requires.settled.0);
  chosen = c.requires.second.1;
  behind = c.requires.first.1;
  most = (omega (arith, c.if-one-two.true), c.requires.second.0);
}

pub take_over-requires-2 : goal.take_over-requires-2
take_over-requires-2 g c = record { sized = c.requires.sized; settled = c.requires.settled; chosen = c.requires.first.1; behind = c.requires.second.1; most = (c.if-one-two.false, c.requires.first.0) }
