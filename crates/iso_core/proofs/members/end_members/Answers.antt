use Rattle.iso_core.proofs.{Words.{◌≡◌, ◌∙◌, sym, ap, length, List, map, Some, GroupReply, IsReady, reply_in}, Causes.group_off, Grouping.group_refused, Replied.{as_many, bare_replied, bare_settled, each_one, each_replied}}
use Rattle.iso_core.proofs.members.end_members.Goals as goal

pub returns-in-Err-clause-members : goal.returns-in-Err-clause-members
returns-in-Err-clause-members g c = bare_settled c.settle_members.new.ends c.args.ends.now c.settle_members.ensures.same

pub returns-in-Err-clause-ends : goal.returns-in-Err-clause-ends
returns-in-Err-clause-ends g c = record {
  group = λ m. group_refused g.D.Disk.state c.args.disk.now (g.met.D.Disk.lawful c.args.disk.now) c.args.kept.now c.args.kept.now m.world m.members (λ told. map reply_in c.settle_members.new.ends ≡ map Some told) _ m.of (λ is_disk. cc is_disk);
  same = λ W of other. of;
  disk = group_off g.D.Disk.state c.args.disk.now;
}

pub end_ready-requires : goal.end_ready-requires
end_ready-requires g c =
    let m = c.requires in
    record { world = m.world; members = m.members; of = m.of; each = c.in_default.ensures.ready m.world m.members m.each }

pub put_replies-requires : goal.put_replies-requires
put_replies-requires g c =
    let m = c.requires in
    let each = c.in_default.ensures.ready m.world m.members m.each in
    let is = c.in-Ok.ensures.ends.group (record { world = m.world; members = m.members; of = m.of; each = each }) in
    as_many c.end_ready.new.ends c.settle_members.new.ends c.end_ready.ensures.members ∙ each_one (IsReady m.world) c.settle_members.new.ends m.members each ∙ sym (each_replied m.world m.members)
    ∙ ap (λ (l : List GroupReply). length l) (sym (c.as_slice.ensures.value ∙ is.ended.0))

pub returns-in-Ok-clause-members : goal.returns-in-Ok-clause-members
returns-in-Ok-clause-members g c =
    bare_replied c.put_replies.new.ends c.end_ready.new.ends c.put_replies.ensures.rest ∙ bare_settled c.end_ready.new.ends c.settle_members.new.ends c.end_ready.ensures.members
    ∙ bare_settled c.settle_members.new.ends c.args.ends.now c.settle_members.ensures.same

pub returns-in-Err-end_ready-clause-members : goal.returns-in-Err-end_ready-clause-members
returns-in-Err-end_ready-clause-members g c =
    bare_settled c.end_ready.new.ends c.settle_members.new.ends c.end_ready.ensures.members ∙ bare_settled c.settle_members.new.ends c.args.ends.now c.settle_members.ensures.same

pub returns-in-Ok-clause-ends : goal.returns-in-Ok-clause-ends
returns-in-Ok-clause-ends g c =
    let all = c.in-Ok.ensures.ends in
    record {
      group = λ m.
          let is = all.group (record { world = m.world; members = m.members; of = m.of; each = c.in_default.ensures.ready m.world m.members m.each }) in
          record {
            ended = (c.put_replies.ensures.replies ∙ ap (map Some) (c.as_slice.ensures.value ∙ is.ended.0), is.ended.1);
            moments = is.moments;
            lost = λ failed. absurd cc;
            commits = λ failed. absurd cc;
            unwritten = is.unwritten;
          };
      same = λ W of. tt;
      disk = record { only = tt; untouched = tt; told = all.disk.told; cause = all.disk.cause };
    }

pub returns-in-Err-end_ready-clause-ends : goal.returns-in-Err-end_ready-clause-ends
returns-in-Err-end_ready-clause-ends g c =
    let all = c.in-Err-end_ready.ensures.ends in
    record {
      group = λ m.
          let is = all.group (record { world = m.world; members = m.members; of = m.of; each = c.in_default.ensures.ready m.world m.members m.each }) in
          record { ended = tt; moments = is.moments; lost = is.lost; commits = is.commits; unwritten = is.unwritten };
      same = all.same;
      disk = all.disk;
    }
