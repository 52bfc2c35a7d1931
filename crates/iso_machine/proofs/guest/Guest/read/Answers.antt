use Rattle.iso_machine.proofs.{BlockWords.{◌≡◌, ◌∙◌, sym, ap, subst, arith, Some, Err, Array, own, block_at, read_access, up, Doing, Seen}, Guests.{access_keeps, counts_failed, counts_ok, goes_on, if_told, ready_keeps, told_still}}

pub invariant_of-self-in-Ok : Rattle.iso_machine.proofs.guest.Guest.read.Goals.invariant_of-self-in-Ok
invariant_of-self-in-Ok g c =
    let guest = c.self.invariant.2 in
    let kept = access_keeps c.self.inside.work.now c.reserve.new.self c.read.new.self c.args.block (read_access c.args.block) c.in_default.ensures.ok c.read.ensures.work in (
      c.self.invariant.0,
      c.self.invariant.1,
      goes_on _ _ _ _ _ c.self.inside.core.now c.fetch.new.self _ _ c.read.new.self _ _ guest (g.met.D.Disk.lawful c.self.inside.core.now.disk) (λ W. c.fetch.ensures.same W up) c.fetch.ensures.unwritten
          (counts_ok _ _ _ _ guest.counts c.in-Ok.ensures.cause.passed) kept.0
          (omega (arith, kept.1, c.room.ensures, c.if-room-eq0.false)),
    )

pub invariant_of-self-in-Err-fetch : Rattle.iso_machine.proofs.guest.Guest.read.Goals.invariant_of-self-in-Err-fetch
invariant_of-self-in-Err-fetch g c =
    let guest = c.self.invariant.2 in
    let kept = ready_keeps c.self.inside.work.now c.reserve.new.self c.args.block c.in_default.ensures.ok in (
      c.self.invariant.0,
      c.self.invariant.1,
      goes_on _ _ _ _ _ c.self.inside.core.now c.fetch.new.self _ _ c.reserve.new.self _ c.raise.new.count guest (g.met.D.Disk.lawful c.self.inside.core.now.disk) (λ W. c.fetch.ensures.same W up) c.fetch.ensures.unwritten
          (counts_failed _ _ _ _ _ guest.counts c.raise.ensures.count
          (c.fetch.ensures.cause.failed (c.in-Err-fetch.is ∙ ap Err (c.in-Err-fetch.ensures.disk guest.world (guest.stands guest.world guest.was)))) c.fetch.ensures.cause.later) kept.0 (omega (arith, kept.1, guest.limits.count)),
    )

pub returns-in-Ok-clause-bytes : Rattle.iso_machine.proofs.guest.Guest.read.Goals.returns-in-Ok-clause-bytes
returns-in-Ok-clause-bytes g c =
    let guest = c.self.invariant.2 in
    subst (λ (v : Seen). (A : Array) → v.tx.base ≡ Some A → c.read.new.into ≡ block_at (own A v.tx.accesses) c.args.block) c.self.view_is (λ A told.
    c.read.ensures.shown A (ap (λ (B : Array). block_at B c.args.block) (guest.shown A told)
    ∙ sym (if_told _ (told_still g.K.Origin.array A g.K.Origin.disk (g.D.Disk.state c.self.inside.core.now.disk) guest.told told guest.unwritten.same_contents)
    (c.in-Ok.ensures.block guest.world guest.live (guest.stands guest.world guest.was) guest.here)))
    ∙ ap (λ (w : Doing). block_at (own A w.accesses) c.args.block) c.in_default.ensures.ok)
