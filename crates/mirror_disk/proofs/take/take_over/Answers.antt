use Rattle.mirror_disk.proofs.{Words.{arith, inr, stays_settled, weakened}, Handed.later_twice, Raises.{keeps_same, keeps_twice}, Taking.{chosen_image, chosen_raised}}
use Rattle.mirror_disk.proofs.take.take_over.Goals as goal
use Rattle.std.proofs.{Common.rules, lemmas.Grind.common_steps}

pub returns-in-Some : goal.returns-in-Some
returns-in-Some g c = record {
  made = first_of (search rules, grind (arith, common_steps));
  moments = weakened c.make_alike.ensures.unwritten.moments (chosen_image (g.C.Disk.state c.args.from.now) c.args.chosen.slot c.args.chosen.epoch c.requires.settled.0 c.requires.chosen);
  body = keeps_same c.make_alike.ensures.unwritten.same_contents;
  settled = stays_settled (g.met.C.Disk.lawful c.make_alike.new.from) c.make_alike.ensures.unwritten c.requires.settled.0;
  alone = first_of (search rules, grind (arith, common_steps));
  still = λ same x y told told' alike. inr (c.make_alike.ensures.unwritten, c.make_alike.ensures.still same x y told told' alike);
  cause = tt;
  later = (c.make_alike.ensures.cause.later, c.make_alike.ensures.later);
}

pub returns-then-raise_by_one : goal.returns-then-raise_by_one
returns-then-raise_by_one g c = record {
  made = first_of (search rules, grind (arith, common_steps));
  moments = chosen_raised (g.C.Disk.state c.args.from.now) (g.C.Disk.state c.make_alike.new.from) (g.C.Disk.state c.raise_by_one.new.disk) c.args.chosen.slot c.args.chosen.epoch (g.met.C.Disk.lawful c.make_alike.new.from) c.requires.settled.0 c.requires.chosen
      c.make_alike.ensures.unwritten c.raise_by_one.ensures.moments;
  body = keeps_twice (keeps_same c.make_alike.ensures.unwritten.same_contents) c.raise_by_one.ensures.body;
  settled = c.raise_by_one.ensures.settled c.if-raise_by_one.true;
  alone = λ _. c.raise_by_one.ensures.raised c.if-raise_by_one.true;
  still = first_of (search rules, grind (arith, common_steps));
  cause = tt;
  later = (later_twice _ _ _ c.make_alike.ensures.cause.later c.raise_by_one.ensures.later, c.make_alike.ensures.later);
}

pub returns : goal.returns
returns g c = record {
  made = first_of (search rules, grind (arith, common_steps));
  moments = chosen_raised (g.C.Disk.state c.args.from.now) (g.C.Disk.state c.make_alike.new.from) (g.C.Disk.state c.raise_by_one.new.disk) c.args.chosen.slot c.args.chosen.epoch (g.met.C.Disk.lawful c.make_alike.new.from) c.requires.settled.0 c.requires.chosen
      c.make_alike.ensures.unwritten c.raise_by_one.ensures.moments;
  body = keeps_twice (keeps_same c.make_alike.ensures.unwritten.same_contents) c.raise_by_one.ensures.body;
  settled = tt;
  alone = tt;
  still = first_of (search rules, grind (arith, common_steps));
  cause = first_of (search rules, grind (arith, common_steps));
  later = (later_twice _ _ _ c.make_alike.ensures.cause.later c.raise_by_one.ensures.later, c.make_alike.ensures.later);
}
