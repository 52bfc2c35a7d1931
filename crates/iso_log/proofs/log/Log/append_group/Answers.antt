use Rattle.iso_log.proofs.{Handed.{disk_fails, disk_not_full, disk_passes, full_fails}, Words.{◌++◌, ℕ, inl, refl, sym, ◌∙◌, subst, started, IsClosed, Extent, HasTold}, Groups.{before_append, here, there, opens, some_bytes, closed_next, gate_is, grown_is, told_run, told_end, held_run, held_end, held_extent}}
use Rattle.iso_log.proofs.log.Log.append_group.Goals as goal

pub put_group-requires-clause-open : goal.put_group-requires-clause-open
put_group-requires-clause-open g c = let (geometry, more, next) = c.requires.next in opens next

pub put_group-requires-clause-closed : goal.put_group-requires-clause-closed
put_group-requires-clause-closed g c d image =
    let (geometry, first, told, has) = c.requires.told in
    subst (λ (n : ℕ). IsClosed n d) (sym (gate_is _ c.args.self.now c.self.view_is c.from.result c.from.ensures)) (closed_next c.args.self.now geometry first told _ has d image)

pub returns-in-Err-clause-all_or_none : goal.returns-in-Err-clause-all_or_none
returns-in-Err-clause-all_or_none g c =
    told_run (g.met.D.Disk.lawful c.args.disk.now) _ c.args.self.now c.self.view_is c.args.bytes.now c.from.result c.from.ensures c.requires.fits c.from-free.result c.self.invariant c.from-free.ensures c.if-free-need.false
    c.put_group.ensures.moments

pub returns-in-Err-clause-held_moments : goal.returns-in-Err-clause-held_moments
returns-in-Err-clause-held_moments g c =
    held_run (g.met.D.Disk.lawful c.args.disk.now) _ c.args.self.now c.self.view_is c.args.bytes.now c.from.result c.from.ensures c.requires.fits c.from-free.result c.self.invariant c.from-free.ensures c.if-free-need.false
    c.put_group.ensures.moments

pub returns-clause-all_or_none : goal.returns-clause-all_or_none
returns-clause-all_or_none g c =
    told_run (g.met.D.Disk.lawful c.args.disk.now) _ c.args.self.now c.self.view_is c.args.bytes.now c.from.result c.from.ensures c.requires.fits c.from-free.result c.self.invariant c.from-free.ensures c.if-free-need.false
    c.put_group.ensures.moments

pub returns-clause-held_moments : goal.returns-clause-held_moments
returns-clause-held_moments g c =
    held_run (g.met.D.Disk.lawful c.args.disk.now) _ c.args.self.now c.self.view_is c.args.bytes.now c.from.result c.from.ensures c.requires.fits c.from-free.result c.self.invariant c.from-free.ensures c.if-free-need.false
    c.put_group.ensures.moments

pub returns-clause-all : goal.returns-clause-all
returns-clause-all g c geometry first told more has next =
    subst (λ (e : Extent). HasTold e geometry first (told ++ more) (g.D.Disk.state c.put_group.new.disk).now)
    (grown_is _ c.args.self.now c.self.view_is _ c.count_records-count.result _ (some_bytes next) (c.count_records-count.ensures geometry _ more next.bytes_are))
    (told_end (g.met.D.Disk.lawful c.args.disk.now) _ c.args.self.now c.self.view_is c.args.bytes.now c.from.result c.from.ensures c.requires.fits c.from-free.result c.self.invariant c.from-free.ensures c.if-free-need.false
    (g.D.Disk.state c.put_group.new.disk) c.in_default.ensures.whole geometry first told more has next)

pub returns-clause-held : goal.returns-clause-held
returns-clause-held g c geometry x more is next held =
    let grown = grown_is _ c.args.self.now c.self.view_is _ c.count_records-count.result _ (some_bytes next) (c.count_records-count.ensures geometry _ more next.bytes_are) in (
      sym grown ∙ held_extent (g.met.D.Disk.lawful c.args.disk.now) _ c.args.self.now c.self.view_is c.args.bytes.now c.from.result c.from.ensures c.requires.fits c.from-free.result c.self.invariant c.from-free.ensures c.if-free-need.false geometry x more is next,
      held_end (g.met.D.Disk.lawful c.args.disk.now) _ c.args.self.now c.self.view_is c.args.bytes.now c.from.result c.from.ensures c.requires.fits c.from-free.result c.self.invariant c.from-free.ensures c.if-free-need.false
          (g.D.Disk.state c.put_group.new.disk) c.in_default.ensures.whole geometry x more is next held,
    )

pub returns-then-free-need-clause-moments : goal.returns-then-free-need-clause-moments
returns-then-free-need-clause-moments g c =
    let (geometry, first, told, has) = c.requires.told in
    before_append (g.met.D.Disk.lawful c.args.disk.now) c.args.self.now geometry first told has c.args.bytes.now

pub returns-then-free-need-clause-all_or_none : goal.returns-then-free-need-clause-all_or_none
returns-then-free-need-clause-all_or_none g c geometry first told more has next = started (g.met.D.Disk.lawful c.args.disk.now) (λ d image. inl (has.each d image))

pub returns-then-free-need-clause-held_moments : goal.returns-then-free-need-clause-held_moments
returns-then-free-need-clause-held_moments g c geometry x more is next held = started (g.met.D.Disk.lawful c.args.disk.now) (λ d image. inl (held d image))

pub returns-then-free-need-clause-cause : goal.returns-then-free-need-clause-cause
returns-then-free-need-clause-cause g c = full_fails _ _ _

pub returns-in-Err-clause-moments : goal.returns-in-Err-clause-moments
returns-in-Err-clause-moments g c =
    here (g.met.D.Disk.lawful c.args.disk.now) _ c.args.self.now c.self.view_is c.args.bytes.now c.from.result c.from.ensures c.requires.fits c.from-free.result c.self.invariant c.from-free.ensures c.if-free-need.false
    c.put_group.ensures.moments

pub returns-in-Err-clause-cause : goal.returns-in-Err-clause-cause
returns-in-Err-clause-cause g c = disk_fails _ _ _ c.in-Err.ensures.cause

pub returns-in-Err-clause-not_full : goal.returns-in-Err-clause-not_full
returns-in-Err-clause-not_full g c fits = disk_not_full

pub returns-in-Err-clause-only : goal.returns-in-Err-clause-only
returns-in-Err-clause-only g c = inl refl

pub returns-clause-moments : goal.returns-clause-moments
returns-clause-moments g c =
    here (g.met.D.Disk.lawful c.args.disk.now) _ c.args.self.now c.self.view_is c.args.bytes.now c.from.result c.from.ensures c.requires.fits c.from-free.result c.self.invariant c.from-free.ensures c.if-free-need.false
    c.put_group.ensures.moments

pub returns-clause-whole : goal.returns-clause-whole
returns-clause-whole g c =
    there (g.met.D.Disk.lawful c.args.disk.now) _ c.args.self.now c.self.view_is c.args.bytes.now c.from.result c.from.ensures c.requires.fits c.from-free.result c.self.invariant c.from-free.ensures c.if-free-need.false
    (g.D.Disk.state c.put_group.new.disk) c.in_default.ensures.whole

pub returns-clause-place : goal.returns-clause-place
returns-clause-place g c = gate_is _ c.args.self.now c.self.view_is c.from.result c.from.ensures

pub returns-clause-grown : goal.returns-clause-grown
returns-clause-grown g c geometry more next = sym (grown_is _ c.args.self.now c.self.view_is _ c.count_records-count.result _ (some_bytes next) (c.count_records-count.ensures geometry _ more next.bytes_are))

pub returns-clause-settled : goal.returns-clause-settled
returns-clause-settled g c = c.in_default.ensures.settled

pub returns-clause-told : goal.returns-clause-told
returns-clause-told g c = c.in_default.ensures.told

pub returns-clause-cause : goal.returns-clause-cause
returns-clause-cause g c = disk_passes _ _ _ _ c.in_default.ensures.cause
