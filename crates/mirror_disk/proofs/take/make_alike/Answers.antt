use Rattle.mirror_disk.proofs.{Words.{None, arith, refl, subst, sym, Slot, HasEpoch}, Done.rose_behind, Taking.{alike_copied, alike_raised, copied_mark, copied_moments, made_raised, mark_behind, tells_copied}}
use Rattle.mirror_disk.proofs.take.make_alike.Goals as goal
use Rattle.std.proofs.{Common.rules, lemmas.Grind.common_steps}

pub returns-in_err-copy_body : goal.returns-in_err-copy_body
returns-in_err-copy_body g c = record {
  made = record {
    moments = copied_moments (g.C.Disk.state c.args.from.now) (g.O.Disk.state c.args.to.now) (g.O.Disk.state c.copy_body.new.to) c.args.count c.args.behind.slot c.args.behind.epoch c.args.chosen.epoch (g.met.O.Disk.lawful c.args.to.now) (g.met.O.Disk.lawful c.copy_body.new.to) c.requires.settled.1 c.requires.behind c.copy_body.ensures.moments;
    tells = tells_copied c.copy_body.ensures.torn;
    alike = search rules;
    left = search rules;
  };
  unwritten = c.copy_body.ensures.unwritten;
  still = λ same. c.copy_body.ensures.still;
  cause = first_of (search rules, grind (arith, common_steps));
  later = c.copy_body.ensures.later;
}

pub returns-then-not-branch : goal.returns-then-not-branch
returns-then-not-branch g c = record {
  made = record {
    moments = copied_moments (g.C.Disk.state c.args.from.now) (g.O.Disk.state c.args.to.now) (g.O.Disk.state c.copy_body.new.to) c.args.count c.args.behind.slot c.args.behind.epoch c.args.chosen.epoch (g.met.O.Disk.lawful c.args.to.now) (g.met.O.Disk.lawful c.copy_body.new.to) c.requires.settled.1 c.requires.behind c.copy_body.ensures.moments;
    tells = tells_copied c.copy_body.ensures.torn;
    alike = tt;
    left = λ none. c.in_ok-copy_body.ensures.failed c.if-not-branch.true;
  };
  unwritten = c.copy_body.ensures.unwritten;
  still = λ same. c.copy_body.ensures.still;
  cause = first_of (search rules, grind (arith, common_steps));
  later = c.copy_body.ensures.later;
}

pub returns-then-behind-chosen : goal.returns-then-behind-chosen
returns-then-behind-chosen g c =
    let from = g.C.Disk.state c.args.from.now in
    let to = g.O.Disk.state c.args.to.now in
    let mid = g.O.Disk.state c.copy_body.new.to in
    let law = g.met.O.Disk.lawful c.copy_body.new.to in
    let run = c.copy_body.ensures.moments in
    let copied = c.in_ok-copy_body.ensures.copied c.if-not-branch.false in
    record {
      made = record {
        moments = copied_moments from to mid c.args.count c.args.behind.slot c.args.behind.epoch c.args.chosen.epoch (g.met.O.Disk.lawful c.args.to.now) law c.requires.settled.1 c.requires.behind run;
        tells = tells_copied c.copy_body.ensures.torn;
        alike = alike_copied from (g.C.Disk.state c.copy_body.new.from) mid c.args.chosen.slot c.args.behind.slot c.args.behind.epoch c.args.chosen.epoch c.if-behind-chosen.true
            (g.met.C.Disk.lawful c.copy_body.new.from) c.copy_body.ensures.unwritten c.requires.chosen (copied_mark from to mid c.args.count c.args.behind.slot c.args.behind.epoch c.args.chosen.epoch (g.met.O.Disk.lawful c.args.to.now) law c.requires.settled.1 c.requires.behind run c.copy_body.ensures.torn) copied.settled copied.alike;
        left = λ none. absurd (cc none);
      };
      unwritten = c.copy_body.ensures.unwritten;
      still = λ same. c.copy_body.ensures.still;
      cause = first_of (search rules, grind (arith, common_steps));
      later = c.copy_body.ensures.later;
    }

pub raise_epoch-requires : goal.raise_epoch-requires
raise_epoch-requires g c = record {
  size = omega (arith, c.requires.sized.to, c.copy_body.ensures.moments.same_size);
  last = c.requires.most.1;
  marked = (c.args.behind.epoch, mark_behind c.args.chosen c.args.behind (g.met.O.Disk.lawful c.args.to.now) (g.met.O.Disk.lawful c.copy_body.new.to) c.requires c.in_ok-copy_body.ensures, c.requires.most.0);
}

pub returns-in-Ok : goal.returns-in-Ok
returns-in-Ok g c =
    let copied = c.in_ok-copy_body.ensures.copied c.if-not-branch.false in
    let mark = mark_behind c.args.chosen c.args.behind (g.met.O.Disk.lawful c.args.to.now) (g.met.O.Disk.lawful c.copy_body.new.to) c.requires c.in_ok-copy_body.ensures in
    made_raised c.args.chosen c.args.behind _ (g.met.O.Disk.lawful c.args.to.now) (g.met.O.Disk.lawful c.copy_body.new.to) c.requires c.in_ok-copy_body.ensures copied c.if-behind-chosen.false
    (c.raise_epoch.ensures.moments c.args.behind.epoch mark c.requires.most.0) c.raise_epoch.ensures.body c.raise_epoch.ensures.cause.later
    (alike_raised (g.C.Disk.state c.args.from.now) (g.C.Disk.state c.copy_body.new.from) (g.O.Disk.state c.copy_body.new.to) (g.O.Disk.state c.raise_epoch.new.disk) c.args.chosen.slot c.other.result c.args.chosen.epoch (g.met.C.Disk.lawful c.copy_body.new.from)
    c.copy_body.ensures.unwritten c.requires.chosen (λ y now. subst (λ (s : Slot). HasEpoch s c.args.chosen.epoch y) (sym c.other.ensures) (c.in-Ok.ensures.raised y now)) c.in-Ok.ensures.settled c.raise_epoch.ensures.body copied.alike)
    (λ none. absurd (cc none))

pub returns-in-Err : goal.returns-in-Err
returns-in-Err g c =
    let mark = mark_behind c.args.chosen c.args.behind (g.met.O.Disk.lawful c.args.to.now) (g.met.O.Disk.lawful c.copy_body.new.to) c.requires c.in_ok-copy_body.ensures in
    made_raised c.args.chosen c.args.behind None (g.met.O.Disk.lawful c.args.to.now) (g.met.O.Disk.lawful c.copy_body.new.to) c.requires c.in_ok-copy_body.ensures (c.in_ok-copy_body.ensures.copied c.if-not-branch.false) c.if-behind-chosen.false
    (c.raise_epoch.ensures.moments c.args.behind.epoch mark c.requires.most.0) c.raise_epoch.ensures.body c.raise_epoch.ensures.cause.later tt (λ none. rose_behind _ _ _ c.copy_body.ensures.later (c.in-Err.ensures.cause.failed refl))
