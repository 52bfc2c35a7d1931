use Rattle.iso_machine.proofs.Words.{arith, take}
use Rattle.device_desk.proofs.Members.{nothing_taken, on_both, still_distinct}

pub returns-in_default-clause-taken : Rattle.device_desk.proofs.group.+take_members.Goals.returns-in_default-clause-taken
returns-in_default-clause-taken t c =
    nothing_taken c.args.numbers.now c.args.live.now.items c.args.taken.now.answers.items (take c.args.taken.now.count c.args.ends.now) c.in_default.ensures.cases

pub take_members-requires : Rattle.device_desk.proofs.group.+take_members.Goals.take_members-requires
take_members-requires t c =
    let shorter = c.in-Some.ensures.cases.1 in (
      omega (arith, shorter, c.decreases),
      (
        still_distinct c.in-Some.first.now c.args.live.now.items c.take_member.new.live.items c.args.taken.now.answers.items c.take_member.new.taken.answers.items
            (take c.args.taken.now.count c.args.ends.now) (take c.take_member.new.taken.count c.take_member.new.ends) c.requires.distinct c.in_ok-take_member.ensures.taken,
        omega (arith, shorter, c.requires.places, c.take_member.ensures.count, c.take_member.auto.ends),
      ),
    )

pub returns-clause-taken : Rattle.device_desk.proofs.group.+take_members.Goals.returns-clause-taken
returns-clause-taken t c =
    on_both c.take_members.result c.in-Some.first.now c.in-Some.others.now c.args.numbers.now c.args.live.now.items c.take_member.new.live.items c.take_members.new.live.items c.args.taken.now.answers.items
    c.take_member.new.taken.answers.items c.take_members.new.taken.answers.items (take c.args.taken.now.count c.args.ends.now) (take c.take_member.new.taken.count c.take_member.new.ends)
    (take c.take_members.new.taken.count c.take_members.new.ends) c.in-Some.ensures.cases.0 c.in_ok-take_member.ensures.taken c.take_members.ensures.taken
