use Rattle.iso_core.proofs.{Words.{◌≡◌, sym, ap, suc, length, arith, subst, List, after_leaving, Live, GroupEnd, leave_all, refl, Becomes, AreEach, IsLiveMember}, Judging.{none_each, parted}, Staging.members_left, Standings.becomes_then}

pub leave-requires : Rattle.iso_core.proofs.taking.+leave_each.Goals.leave-requires
leave-requires t c =
    let m = c.requires in
    let p = parted (IsLiveMember m.world) c.in-Some.member.now c.in-Some.rest.now m.members (subst (λ (l : List GroupEnd). AreEach (IsLiveMember m.world) l m.members) c.in-Some.ensures.cases.0 m.each) in
    record { world = m.world; t = p.first; of = m.of; here = p.is }

pub leave_each-requires : Rattle.iso_core.proofs.taking.+leave_each.Goals.leave_each-requires
leave_each-requires t c =
    let m = c.requires in
    let p = parted (IsLiveMember m.world) c.in-Some.member.now c.in-Some.rest.now m.members (subst (λ (l : List GroupEnd). AreEach (IsLiveMember m.world) l m.members) c.in-Some.ensures.cases.0 m.each) in
    let shorter : length c.args.group.now ≡ suc (length c.in-Some.rest.now) = ap (λ (l : List GroupEnd). length l) c.in-Some.ensures.cases.0 in (
      omega (arith, shorter, c.decreases),
      record {
        world = after_leaving m.world p.first;
        members = p.others;
        of = (c.leave.ensures (record { world = m.world; t = p.first; of = m.of; here = p.is })).of;
        each = members_left m.world p.first c.in-Some.rest.now p.others p.apart p.each;
      },
    )

pub returns-in_default : Rattle.iso_core.proofs.taking.+leave_each.Goals.returns-in_default
returns-in_default t c m =
    subst (λ (l : List Live). Becomes c.args.kept.now c.args.kept.now (leave_all l m.world)) (sym (none_each (IsLiveMember m.world) c.args.group.now m.members c.in_default.ensures.cases m.each))
    (record { of = m.of; half = refl; down = refl })

pub returns : Rattle.iso_core.proofs.taking.+leave_each.Goals.returns
returns t c m =
    let p = parted (IsLiveMember m.world) c.in-Some.member.now c.in-Some.rest.now m.members (subst (λ (l : List GroupEnd). AreEach (IsLiveMember m.world) l m.members) c.in-Some.ensures.cases.0 m.each) in
    let left = c.leave.ensures (record { world = m.world; t = p.first; of = m.of; here = p.is }) in
    subst (λ (l : List Live). Becomes c.args.kept.now c.leave_each.new.kept (leave_all l m.world)) (sym p.are)
    (becomes_then left (c.leave_each.ensures (record { world = after_leaving m.world p.first; members = p.others; of = left.of; each = members_left m.world p.first c.in-Some.rest.now p.others p.apart p.each })))
