use Rattle.iso_machine.proofs.{Words.{◌≡◌, ◌∙◌, take, Geometry, IsTrue, is_block_size, refl, sym, ap, subst, List, [], Option, arith, map, with_items_is, GroupReply, found_ones, grouped, reply_in, disk_of, shows, up, filled}, Begins.valid_block, Ended.group_fails, Quiet.{answered, answers_by, shows_still}}
use Rattle.script_model.specs.declared.script.Reply.TheVariants as reply
use Rattle.device_desk.specs.Numbers.{HasTaken, found_of, numbers_step}
use Rattle.device_desk.proofs.Members.{behind, few, from_none, nobody, nobody_stands, ready, replies_are}
use Rattle.device_desk.proofs.Tables.{distinct, stays_with, wants_memory}
use Rattle.device_desk.proofs.table.Table.group.Goals.{In_default-take_members}
use Rattle.device_desk.proofs.table.Table.group.Goals as goal

pub take_members-requires-clause-distinct : goal.take_members-requires-clause-distinct
take_members-requires-clause-distinct g c = distinct c.requires.stands.1

pub make_places-requires : goal.make_places-requires
make_places-requires g c =
    let (W, of) = c.requires.stands in
    subst (λ (h : Geometry). IsTrue (is_block_size h.block)) (sym (c.geometry-geometry.ensures W up of.core_of)) (valid_block W.geometry of.core_of.kept_of.world.valid)

pub returns-in-Err : goal.returns-in-Err
returns-in-Err g c W of = wants_memory of (g.met.D.Disk.lawful (disk_of c.args.self.now.core)) refl (λ may. absurd may)

pub returns-in-Err-take_members : goal.returns-in-Err-take_members
returns-in-Err-take_members g c W of = wants_memory of (g.met.D.Disk.lawful (disk_of c.args.self.now.core)) refl (λ may. absurd may)

taken : (g : Rattle.device_desk.proofs.table.Table.group.Given.Over) (c : In_default-take_members g) → HasTaken c.args.numbers.now c.args.self.now.live.items c.take_members.new.live.items [] c.take_members.new.taken.answers.items [] (take c.take_members.new.taken.count c.take_members.new.ends)
taken g c = from_none c.nothing_taken-taken.ensures.answers (ap (λ n. take n c.as_mut_slice-ends.result.now) c.nothing_taken-taken.ensures.count) c.in_default-take_members.ensures.taken

pub returns-then-taken-eq0 : goal.returns-then-taken-eq0
returns-then-taken-eq0 g c W of =
    let has = taken g (goal.at.returns-then-taken-eq0 g c).In_default-take_members in
    let none : take c.take_members.new.taken.count c.take_members.new.ends ≡ [] = ap (λ n. take n c.take_members.new.ends) c.if-taken-eq0.true in
    stays_with of (g.met.D.Disk.lawful (disk_of c.args.self.now.core)) refl
    (ap grouped (nobody of has none) ∙ ap (λ (xs : List (Option GroupReply)). (reply.Grouped xs, W)) (sym c.of.ensures))
    (nobody_stands of has none)

pub end_group-requires-clause-ready : goal.end_group-requires-clause-ready
end_group-requires-clause-ready g c =
    let (W, of) = c.requires.stands in
    let has = taken g (goal.at.end_group-requires-clause-ready g c).In_default-take_members in
    (W, up, found_ones (found_of c.args.numbers.now W.live), of.core_of, ready of has)

pub end_group-requires-clause-most : goal.end_group-requires-clause-most
end_group-requires-clause-most g c =
    let most = few c.requires.stands.1 (taken g (goal.at.end_group-requires-clause-most g c).In_default-take_members) in
    let allowed = c.requires.most in
    omega (arith, most, allowed)

pub returns-in-Err-end_group : goal.returns-in-Err-end_group
returns-in-Err-end_group g c W of =
    let has = taken g (goal.at.returns-in-Err-end_group g c).In_default-take_members in
    let members = found_ones (found_of c.args.numbers.now W.live) in
    let moments = c.in-Err-end_group.ensures.moments W members of.core_of (ready of has) in
    answers_by c.refused.ensures
    (group_fails c.in-Err-end_group.error (c.in-Err-end_group.ensures.only W of.core_of) moments (λ wants. shows_still g.D.Disk.state W (g.met.D.Disk.lawful (disk_of c.args.self.now.core)) (shows g.D.Disk.state c.args.self.now.core W of.core_of) (c.in-Err-end_group.ensures.untouched (λ disk. cc (wants, disk)))) c.in-Err-end_group.ensures.cause)

pub returns : goal.returns
returns g c W of =
    let has = taken g (goal.at.returns g c).In_default-take_members in
    let numbers = c.args.numbers.now in
    let members = found_ones (found_of numbers W.live) in
    let is = c.in_default-end_group.ensures.ended W members of.core_of (ready of has) in
    let answers_new = with_items_is c.take_members.new.taken.answers c.fill_answers.new.answers (c.fill_answers.auto.answers ∙ c.deref_mut.ensures.len) in
    let filled_are = ap (λ (xs : List (Option GroupReply)). filled xs (map reply_in c.end_group.new.ends)) c.deref_mut.ensures.value in
    let reply_is : reply.Grouped c.of-2.result ≡ (grouped (numbers_step W numbers)).0 =
    ap (λ (xs : List (Option GroupReply)). reply.Grouped xs) (c.of-2.ensures ∙ answers_new ∙ c.fill_answers.ensures ∙ filled_are ∙ replies_are of has c.end_group.new.ends is.0) in
    answered reply_is c.in_default-end_group.ensures.told (behind of has is.1) (c.in_default-end_group.ensures.moments W members of.core_of (ready of has)) c.in_default-end_group.ensures.cause
