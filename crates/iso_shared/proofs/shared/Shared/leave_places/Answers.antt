use Rattle.iso_shared.proofs.{Words.{view, ◌<◌, ℕ, ap, List, Entry, refl, sym, subst, times, arith, IsBack, IsPrefix, prefix_self}, HandedBack.is_back}
use Rattle.iso_shared.proofs.shared.Shared.leave_places.Goals as goal

pub split_member-requires : goal.split_member-requires
split_member-requires g c =
    let t = c.args.tx.now in
    let mid = (view c.join_member.new.port.pass) in
    let noted = c.join_member.ensures.group.0 in
    let holds = c.join_member.ensures.holds t.number in
    let units = c.join_member.ensures.units in
    record {
      port = c.join_member.ensures.port;
      units = omega (arith, units, c.requires.port.2, c.requires.tx.0.2);
      held = (subst (λ (n : ℕ). 0 < times n mid.holds) (sym noted.number) (omega (arith, holds, c.requires.tx.1.held)), tt);
      distinct = (refl, tt);
      group = (noted.joined.note, tt);
    }

pub returns-clause-units : goal.returns-clause-units
returns-clause-units g c = let a = c.split_member.ensures.parts.units in let b = c.join_member.ensures.units in omega (arith, a, b)

pub returns-clause-seen : goal.returns-clause-seen
returns-clause-seen g c =
    let last = sym c.split_member.ensures.parts.seen in (
      subst (λ (l : List Entry). IsPrefix (view c.args.port.now.pass).seen l) last c.join_member.ensures.seen,
      subst (λ (l : List Entry). IsPrefix (view c.args.tx.now.pass).seen l) last c.join_member.ensures.group.0.told,
    )

pub returns-clause-places : goal.returns-clause-places
returns-clause-places g c p = let a = ap (times p) c.split_member.ensures.parts.mine in let b = c.join_member.ensures.places p in omega (arith, a, b)

pub returns-clause-tx : goal.returns-clause-tx
returns-clause-tx g c =
    let A = g.O.Origin.start in
    let s = c.args.self.now in
    let t = c.args.tx.now in
    let noted = c.join_member.ensures.group.0 in
    let u = c.join_member.new.tx in
    let x = c.split_member.new.tx in
    let seen = (view c.join_member.new.port.pass).seen in
    subst (λ (l : List Entry). IsBack s A l t x) (sym c.split_member.ensures.parts.seen)
    (is_back s A seen seen t u u x (prefix_self seen) noted (record { number = refl; work = refl; checked = refl }) c.split_member.ensures.parts.group.0)
