use Rattle.iso_core.proofs.{Words.{◌∙◌, refl, [], AreNextMembers, Becomes, HasMembers, IsOf, IsReady, World}, Committing.{buffer_on, reserves_so, spells_so}, Grouping.{ahead_none, planned_for}, Standings.becomes_then, group.prepare_group.Goals.{After-make_room, After-reserve_plan}}
use Rattle.iso_core.proofs.group.prepare_group.Goals as goal

-- nothing is planned, and the members are to be
abbrev first : (c : After-make_room) → HasMembers IsReady c.args.kept.now c.args.ends.now → AreNextMembers c.args.kept.now c.make_room.new.plan c.args.ends.now
first c m = record {
  world = m.world;
  more = [];
  members = m.members;
  of = m.of;
  is = ahead_none m.world c.make_room.new.plan m.of.world (c.make_room.ensures.plan.bytes ∙ c.clear.ensures.bytes) (c.make_room.ensures.plan.staged ∙ c.clear.ensures.staged)
      (c.make_room.ensures.plan.parts ∙ c.clear.ensures.parts) (c.make_room.ensures.plan.notes ∙ c.clear.ensures.notes);
  each = m.each;
}

pub plan_members-requires : goal.plan_members-requires
plan_members-requires c = first (goal.at.plan_members-requires c).After-make_room c.requires

pub reserve_plan-requires : goal.reserve_plan-requires
reserve_plan-requires c =
    let m = c.requires in
    let h = c.in_ok-plan_members.ensures.planned (first (goal.at.reserve_plan-requires c).After-make_room m) in
    record { world = m.world; more = h.all; of = buffer_on c.args.kept.now m.world c.plan_members.new.kept m.of c.plan_members.ensures.same; is = h.is }

pub returns-in_err-make_room-clause-same : goal.returns-in_err-make_room-clause-same
returns-in_err-make_room-clause-same c W of = record { of = of; half = refl; down = refl }

pub returns-in_err-plan_members-clause-same : goal.returns-in_err-plan_members-clause-same
returns-in_err-plan_members-clause-same c W of = spells_so c.args.kept.now c.plan_members.new.kept W of c.plan_members.ensures.same

-- the plan is made, and memory is taken
reserved : (c : After-reserve_plan) (W : World) → IsOf c.args.kept.now W → Becomes c.args.kept.now c.reserve_plan.new.kept W
reserved c W of =
    let spelled = spells_so c.args.kept.now c.plan_members.new.kept W of c.plan_members.ensures.same in
    becomes_then spelled (reserves_so c.plan_members.new.kept c.reserve_plan.new.kept W spelled.of c.reserve_plan.ensures.rest.stays c.reserve_plan.ensures.rest.only)

pub returns-in_err-reserve_plan-clause-same : goal.returns-in_err-reserve_plan-clause-same
returns-in_err-reserve_plan-clause-same c W of = reserved (goal.at.returns-in_err-reserve_plan-clause-same c).After-reserve_plan W of

pub returns-in_err-close-clause-same : goal.returns-in_err-close-clause-same
returns-in_err-close-clause-same c W of = reserved (goal.at.returns-in_err-close-clause-same c).After-reserve_plan W of

pub returns-clause-same : goal.returns-clause-same
returns-clause-same c W of = reserved (goal.at.returns-clause-same c).After-reserve_plan W of

pub returns-clause-planned : goal.returns-clause-planned
returns-clause-planned c m =
    let h = c.in_ok-plan_members.ensures.planned (first (goal.at.returns-clause-planned c).After-make_room m) in
    let r = c.in_ok-reserve_plan.ensures.reserved in
    planned_for m.world m.members c.plan_members.new.plan _ c.reserve_plan.new.kept c.make_room.new.replies.items c.plan_members.new.replies.items h (c.make_room.ensures.replies ∙ c.clear-2.ensures.items) refl refl refl c.in_ok-close.ensures
    (record { room = r.room; note_room = r.note_room })
