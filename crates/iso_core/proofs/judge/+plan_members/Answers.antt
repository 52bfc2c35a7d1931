use Rattle.iso_core.proofs.{Words.{arith, subst, List, GroupEnd, AreEach, IsReady, on_ok_weaker}, Committing.buffer_on, Judging.{none_each, parted, planned_more, planned_none}}

pub plan_member-requires : Rattle.iso_core.proofs.judge.+plan_members.Goals.plan_member-requires
plan_member-requires t c =
    let m = c.requires in
    let p = parted (IsReady m.world) c.in-Some.member.now c.in-Some.rest.now m.members (subst (λ (l : List GroupEnd). AreEach (IsReady m.world) l m.members) c.in-Some.ensures.cases.0 m.each) in
    record { world = m.world; more = m.more; t = p.first; of = m.of; is = m.is; ready = p.is }

pub plan_members-requires : Rattle.iso_core.proofs.judge.+plan_members.Goals.plan_members-requires
plan_members-requires t c =
    let m = c.requires in
    let p = parted (IsReady m.world) c.in-Some.member.now c.in-Some.rest.now m.members (subst (λ (l : List GroupEnd). AreEach (IsReady m.world) l m.members) c.in-Some.ensures.cases.0 m.each) in
    let one = c.in_ok-plan_member.ensures.planned (record { world = m.world; more = m.more; t = p.first; of = m.of; is = m.is; ready = p.is }) in
    let shorter = c.in-Some.ensures.cases.1 in (
      omega (arith, shorter, c.decreases),
      record {
        world = m.world;
        more = one.all;
        members = p.others;
        of = buffer_on c.args.kept.now m.world c.plan_member.new.kept m.of c.plan_member.ensures.same;
        is = one.is;
        each = p.each;
      },
    )

pub returns-in_default-clause-planned : Rattle.iso_core.proofs.judge.+plan_members.Goals.returns-in_default-clause-planned
returns-in_default-clause-planned t c m =
    planned_none m.world m.more m.members c.args.plan.now c.args.replies.now.items (none_each (IsReady m.world) c.args.group.now m.members c.in_default.ensures.cases m.each) m.is

pub returns-clause-planned : Rattle.iso_core.proofs.judge.+plan_members.Goals.returns-clause-planned
returns-clause-planned t c m =
    let p = parted (IsReady m.world) c.in-Some.member.now c.in-Some.rest.now m.members (subst (λ (l : List GroupEnd). AreEach (IsReady m.world) l m.members) c.in-Some.ensures.cases.0 m.each) in
    let one = c.in_ok-plan_member.ensures.planned (record { world = m.world; more = m.more; t = p.first; of = m.of; is = m.is; ready = p.is }) in
    on_ok_weaker c.plan_members.result
    (planned_more m.world m.more p.first p.others m.members c.plan_member.new.plan c.plan_members.new.plan c.args.replies.now.items c.plan_member.new.replies.items c.plan_members.new.replies.items p.are one)
    (c.plan_members.ensures.planned (record {
      world = m.world;
      more = one.all;
      members = p.others;
      of = buffer_on c.args.kept.now m.world c.plan_member.new.kept m.of c.plan_member.ensures.same;
      is = one.is;
      each = p.each;
    }))

pub returns-clause-members : Rattle.iso_core.proofs.judge.+plan_members.Goals.returns-clause-members
returns-clause-members t c = grind arith
