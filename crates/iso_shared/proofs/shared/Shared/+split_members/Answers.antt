use Rattle.iso_shared.proofs.{Words.{rules, arith, sym, subst, ◌∷◌}, HandedBack.{part_first, part_rest, parts_more}}
use Rattle.std.proofs.lemmas.Grind.{common_steps}
use Rattle.iso_shared.specs.Groups.{MayPart, PartsWith}
use Rattle.iso_shared.proofs.shared.Shared.+split_members.Goals as goal

pub split_member-requires : goal.split_member-requires
split_member-requires g t c =
    part_first c.args.self.now c.in-Some.tx.now c.in-Some.rest.now c.args.port.now (subst (λ ts. MayPart c.args.self.now ts c.args.port.now) c.in-Some.ensures.cases.0 c.requires)

pub split_members-requires : goal.split_members-requires
split_members-requires g t c κs within =
    let s = c.args.self.now in
    let may = subst (λ ts. MayPart s ts c.args.port.now) c.in-Some.ensures.cases.0 c.requires in
    let rest = part_rest s c.in-Some.tx.now c.split_member.new.tx c.in-Some.rest.now c.args.port.now c.split_member.new.port c.split_member.ensures.parts c.split_member.ensures.holds may in
    (first_of (search rules, grind (arith, common_steps)), (search rules, (search rules, rest)))

pub returns : goal.returns
returns g t c =
    let s = c.args.self.now in
    subst (λ ts. PartsWith s ts (c.split_member.new.tx ∷ c.split_members.new.group) c.args.port.now c.split_members.new.port) (sym c.in-Some.ensures.cases.0)
    (parts_more s c.in-Some.tx.now c.split_member.new.tx c.in-Some.rest.now c.split_members.new.group c.args.port.now c.split_member.new.port c.split_members.new.port c.split_member.ensures.parts c.split_members.ensures)
