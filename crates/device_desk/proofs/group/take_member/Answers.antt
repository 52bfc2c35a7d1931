use Rattle.iso_machine.proofs.Words.{◌∙◌, sym, subst, take, ◌+◌, List, ◌++◌, ◌∷◌, [], ap, map, Option, Some, None, GroupReply, AreDistinct}
use Rattle.iso_model.specs.declared.access.GroupReply.TheVariants as member
use Rattle.device_desk.specs.{declared.seat.Seat.Seat, Seats.live_of}
use Rattle.device_desk.proofs.Members.{none_taken, one_taken}
use Rattle.device_desk.proofs.group.take_member.Goals as goal

pub place_of-requires : goal.place_of-requires
place_of-requires c = subst (λ (l : List Seat). AreDistinct (map live_of l)) (sym c.deref.ensures.value) c.requires.distinct

pub returns-in_default-clause-taken : goal.returns-in_default-clause-taken
returns-in_default-clause-taken c =
    none_taken c.args.number c.deref.result.now c.args.live.now.items c.args.taken.now.answers.items c.push_reserved.new.self.items (take c.args.taken.now.count c.args.ends.now) c.deref.ensures.value c.in_default.ensures
    (c.push_reserved.ensures.items ∙ ap (λ (xs : List (Option GroupReply)). xs ++ None ∷ []) c.reserve.ensures.items)

pub returns-clause-taken : goal.returns-clause-taken
returns-clause-taken c =
    one_taken c.args.number c.deref.result.now c.args.live.now.items c.remove-gone.new.self.items c.in-Some.i c.remove-gone.result c.args.taken.now.answers.items c.push_reserved-2.new.self.items (take c.args.taken.now.count c.args.ends.now)
    (take (c.args.taken.now.count + 1) c.add_member.new.ends) c.deref.ensures.value c.requires.distinct c.in-Some.ensures.0 (c.in-Some.ensures.1 c.remove-gone.result) c.remove-gone.ensures.value c.remove-gone.ensures.items
    (c.push_reserved-2.ensures.items ∙ ap (λ (xs : List (Option GroupReply)). xs ++ Some member.Worn ∷ []) c.reserve.ensures.items) c.add_member.ensures
