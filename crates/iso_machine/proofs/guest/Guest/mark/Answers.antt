use Rattle.iso_machine.proofs.{BlockWords.arith, Guests.{mark_keeps, works_on}}

pub invariant_of-self : Rattle.iso_machine.proofs.guest.Guest.mark.Goals.invariant_of-self
invariant_of-self g c =
    let guest = c.self.invariant.2 in
    let kept = mark_keeps c.self.inside.work.now c.mark.new.self c.args.off c.args.len c.mark.result c.mark.ensures.ok c.mark.ensures.err in
    (c.self.invariant.0, c.self.invariant.1, works_on _ _ _ _ _ _ _ _ _ _ guest (g.met.D.Disk.lawful c.self.inside.core.now.disk) kept.0 (omega (arith, kept.1, guest.limits.count)))

pub returns-clause-limits : Rattle.iso_machine.proofs.guest.Guest.mark.Goals.returns-clause-limits
returns-clause-limits g c =
    let guest = c.self.invariant.2 in
    let kept = mark_keeps c.self.inside.work.now c.mark.new.self c.args.off c.args.len c.mark.result c.mark.ensures.ok c.mark.ensures.err in
    (works_on _ _ _ _ _ _ _ _ _ _ guest (g.met.D.Disk.lawful c.self.inside.core.now.disk) kept.0 (omega (arith, kept.1, guest.limits.count))).limits
