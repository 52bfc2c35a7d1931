use Rattle.iso_core.proofs.{Words.{arith, subst, List, GroupEnd, AreEach, IsMember}, Staging.ready_more}

pub settle_members-requires : Rattle.iso_core.proofs.settling.+settle_members.Goals.settle_members-requires
settle_members-requires t c = let shorter = c.in-Some.ensures.cases.1 in omega (arith, shorter, c.decreases)

pub returns-clause-ready : Rattle.iso_core.proofs.settling.+settle_members.Goals.returns-clause-ready
returns-clause-ready t c W members each =
    ready_more c.settle_members.result W c.in-Some.member.now c.settle_member.new.member c.in-Some.rest.now c.settle_members.new.ends members (λ u is. c.in_ok-settle_member.ensures.ready W u is)
    (λ ts rest. c.settle_members.ensures.ready W ts rest) (subst (λ (l : List GroupEnd). AreEach (IsMember W) l members) c.in-Some.ensures.cases.0 each)

pub returns-clause-same : Rattle.iso_core.proofs.settling.+settle_members.Goals.returns-clause-same
returns-clause-same t c = grind arith
