use Rattle.iso_shared.proofs.{Words.{sym, subst, ◌∷◌}, HandedBack.gathers_more}
use Rattle.iso_shared.specs.Groups.{Gathers}

pub returns : Rattle.iso_shared.proofs.shared.Shared.+join_members.Goals.returns
returns g t c =
    let s = c.args.self.now in
    let A = g.O.Origin.start in
    subst (λ ts. Gathers s A ts (c.join_member.new.tx ∷ c.join_members.new.group) c.args.port.now c.join_members.new.port) (sym c.in-Some.ensures.cases.0)
    (gathers_more s A c.in-Some.tx.now c.join_member.new.tx c.in-Some.rest.now c.join_members.new.group c.args.port.now c.join_member.new.port c.join_members.new.port c.join_member.ensures c.join_members.ensures)
