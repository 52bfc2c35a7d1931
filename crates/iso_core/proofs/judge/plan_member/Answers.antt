use Rattle.iso_core.proofs.{Committing.buffer_on, Judging.planned_one}

pub judge-requires : Rattle.iso_core.proofs.judge.plan_member.Goals.judge-requires
judge-requires c = c.requires

pub stage-requires : Rattle.iso_core.proofs.judge.plan_member.Goals.stage-requires
stage-requires c =
    let m = c.requires in
    record {
      world = m.world;
      more = m.more;
      tx = c.args.member.now.tx;
      t = m.t;
      of = buffer_on c.args.kept.now m.world c.judge.new.kept m.of c.judge.ensures.same;
      is = m.is;
      settled = m.ready.settled;
      next = (c.in_ok-reply.ensures.judged m).next;
    }

pub returns-clause-planned : Rattle.iso_core.proofs.judge.plan_member.Goals.returns-clause-planned
returns-clause-planned c m =
    let judged = c.in_ok-reply.ensures.judged m in
    planned_one m.world m.more m.t c.in_ok-reply.reply c.stage.new.plan c.args.replies.now.items c.push_reply.new.replies.items judged.answer
    (c.in_ok-stage.ensures.ahead (record {
      world = m.world;
      more = m.more;
      tx = c.args.member.now.tx;
      t = m.t;
      of = buffer_on c.args.kept.now m.world c.judge.new.kept m.of c.judge.ensures.same;
      is = m.is;
      settled = m.ready.settled;
      next = judged.next;
    }))
    c.in_ok-push_reply.ensures
