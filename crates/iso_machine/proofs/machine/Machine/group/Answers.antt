use Rattle.iso_machine.proofs.{Words.{◌≡◌, ◌∙◌, take, Geometry, IsTrue, is_block_size, refl, sym, ap, subst, List, [], Option, arith, map, with_items_is, GroupReply, found_ones, looks, group_step, grouped, reply_in, disk_of, shows, up, HasTaken, filled}, Begins.valid_block, Ended.{behind, few, group_fails, moments_of, nobody, nobody_stands, ready, replies_are, stands, step_is}, Machines.known, Quiet.{answered, answers_as, answers_by, shows_still, stays_with, wants_memory}, Taking.from_none, machine.Machine.group.Goals.In_default-take_members}
use Rattle.script_model.specs.declared.script.Reply.TheVariants as reply
use Rattle.iso_machine.proofs.machine.Machine.group.Goals as goal

pub take_members-requires-clause-known : goal.take_members-requires-clause-known
take_members-requires-clause-known g c = known c.requires.stands.1 c.args.self.now.live.items refl

pub make_places-requires : goal.make_places-requires
make_places-requires g c =
    let (W, of) = c.requires.stands in
    subst (λ (h : Geometry). IsTrue (is_block_size h.block)) (sym (c.geometry-geometry.ensures W up of.core_of)) (valid_block W.geometry of.core_of.kept_of.world.valid)

pub returns-in-Err : goal.returns-in-Err
returns-in-Err g c W of = wants_memory (g.met.D.Disk.lawful (disk_of c.args.self.now.core)) of refl (λ may. absurd may)

pub returns-in-Err-take_members : goal.returns-in-Err-take_members
returns-in-Err-take_members g c W of = wants_memory (g.met.D.Disk.lawful (disk_of c.args.self.now.core)) of refl (λ may. absurd may)

taken : (g : Rattle.iso_machine.proofs.machine.Machine.group.Given.Over) (c : In_default-take_members g) → HasTaken c.args.labels.now c.args.self.now.live.items c.take_members.new.live.items [] c.take_members.new.taken.answers.items [] (take c.take_members.new.taken.count c.take_members.new.ends)
taken g c = from_none c.nothing_taken-taken.ensures.answers (ap (λ n. take n c.as_mut_slice-ends.result.now) c.nothing_taken-taken.ensures.count) c.in_default-take_members.ensures.taken

pub returns-then-taken-eq0 : goal.returns-then-taken-eq0
returns-then-taken-eq0 g c W of =
    let has = taken g (goal.at.returns-then-taken-eq0 g c).In_default-take_members in
    let labels = c.args.labels.now in
    let none : take c.take_members.new.taken.count c.take_members.new.ends ≡ [] = ap (λ n. take n c.take_members.new.ends) c.if-taken-eq0.true in
    stays_with (g.met.D.Disk.lawful (disk_of c.args.self.now.core)) of refl
    (step_is W c.args.client labels ∙ ap grouped (nobody of has none) ∙ ap (λ (xs : List (Option GroupReply)). (reply.Grouped xs, (looks W labels).1)) (sym c.of.ensures))
    (nobody_stands of has c.take_members.new.finder c.in_default-take_members.ensures.listed none)

pub end_group-requires-clause-ready : goal.end_group-requires-clause-ready
end_group-requires-clause-ready g c =
    let (W, of) = c.requires.stands in
    let has = taken g (goal.at.end_group-requires-clause-ready g c).In_default-take_members in
    ((looks W c.args.labels.now).1, up, found_ones (looks W c.args.labels.now).0, stands of has, ready of has)

pub end_group-requires-clause-most : goal.end_group-requires-clause-most
end_group-requires-clause-most g c =
    let most = few c.requires.stands.1 (taken g (goal.at.end_group-requires-clause-most g c).In_default-take_members) in
    let allowed = c.requires.op.1 in
    omega (arith, most, allowed)

pub returns-in-Err-Memory : goal.returns-in-Err-Memory
returns-in-Err-Memory g c W of =
    wants_memory (g.met.D.Disk.lawful (disk_of c.args.self.now.core)) of (c.in-Err-Memory.ensures.untouched (λ is. cc (is, c.in-Err-Memory.field-0-is))) (λ may. absurd may)

pub returns-in-Err-end_group : goal.returns-in-Err-end_group
returns-in-Err-end_group g c W of =
    let has = taken g (goal.at.returns-in-Err-end_group g c).In_default-take_members in
    let labels = c.args.labels.now in
    let here = stands of has in
    let moments = moments_of of has (c.in-Err-end_group.ensures.moments (looks W labels).1 (found_ones (looks W labels).0) here (ready of has)) in
    answers_by c.refused.ensures (answers_as (sym (step_is W c.args.client labels))
    (group_fails c.in-Err-end_group.error (c.in-Err-end_group.ensures.only (looks W labels).1 here) moments (λ wants. shows_still g.D.Disk.state W (g.met.D.Disk.lawful (disk_of c.args.self.now.core)) (shows g.D.Disk.state c.args.self.now.core W of.core_of) (c.in-Err-end_group.ensures.untouched (λ disk. cc (wants, disk)))) c.in-Err-end_group.ensures.cause))

pub returns : goal.returns
returns g c W of =
    let has = taken g (goal.at.returns g c).In_default-take_members in
    let labels = c.args.labels.now in
    let V = (looks W labels).1 in
    let members = found_ones (looks W labels).0 in
    let here = stands of has in
    let is = c.in-Ok.ensures.ended V members here (ready of has) in
    let answers_new = with_items_is c.take_members.new.taken.answers c.fill_answers.new.answers (c.fill_answers.auto.answers ∙ c.deref_mut.ensures.len) in
    let filled_are = ap (λ (xs : List (Option GroupReply)). filled xs (map reply_in c.end_group.new.ends)) c.deref_mut.ensures.value in
    let reply_is : reply.Grouped c.of-2.result ≡ (grouped (group_step W labels)).0 =
    ap (λ (xs : List (Option GroupReply)). reply.Grouped xs) (c.of-2.ensures ∙ answers_new ∙ c.fill_answers.ensures ∙ filled_are ∙ replies_are of has c.end_group.new.ends is.0) in
    answers_as (sym (step_is W c.args.client labels))
    (answered reply_is c.in-Ok.ensures.told (behind of has c.take_members.new.finder c.in_default-take_members.ensures.listed is.1) (moments_of of has (c.in-Ok.ensures.moments V members here (ready of has))) c.in-Ok.ensures.cause)
