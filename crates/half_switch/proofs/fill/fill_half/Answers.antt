use Rattle.half_switch.proofs.{Words.{◌+◌, ◌-◌, arith, refl, limits, at_end, started, starts_inside, weakened, half_size}, Filled.filled_ready, Kept.{kept_closed, kept_held}, Tells.tells_same}
use Rattle.half_switch.proofs.fill.fill_half.Goals as goal
use Rattle.std.proofs.Common.{rules}

pub zeros-requires-2 : goal.zeros-requires-2
zeros-requires-2 g c = omega (arith, c.requires.used, (limits c.args.plan.now.geometry c.requires.valid).largest_log)

pub returns-in_default-clause-held : goal.returns-in_default-clause-held
returns-in_default-clause-held g c h x is held = started (g.met.D.Disk.lawful c.args.disk.now) held

pub returns-in-Ok-clause-held : goal.returns-in-Ok-clause-held
returns-in-Ok-clause-held g c h x is held = weakened c.fill_from.ensures.writes.moments (λ d from.
    kept_held h x c.args.from.now c.args.to.now c.args.plan.now from.old d is c.requires.places (held from.old from.was) (c.requires.closed from.old from.was) from.torn)

pub returns-clause-held : goal.returns-clause-held
returns-clause-held g c h x is held = weakened c.fill_from.ensures.writes.moments (λ d from.
    kept_held h x c.args.from.now c.args.to.now c.args.plan.now from.old d is c.requires.places (held from.old from.was) (c.requires.closed from.old from.was) from.torn)

pub returns-in-Ok-clause-ready : goal.returns-in-Ok-clause-ready
returns-in-Ok-clause-ready g c h x copies held d image =
    filled_ready h x c.args.from.now c.args.plan.now d copies c.requires.valid c.requires.base
    (at_end (g.met.D.Disk.lawful c.fill_from.new.disk) (returns-in-Ok-clause-held g c h x copies.is_from held) d image) (c.in-Ok.ensures.filled h x copies held d image)

pub returns-in_default-clause-moments : goal.returns-in_default-clause-moments
returns-in_default-clause-moments g c = starts_inside (g.met.D.Disk.lawful c.args.disk.now) (c.args.to.now.header + 1) (half_size c.args.plan.now.geometry - 1)

pub returns-in_default-clause-closed : goal.returns-in_default-clause-closed
returns-in_default-clause-closed g c = started (g.met.D.Disk.lawful c.args.disk.now) c.requires.closed

pub returns-in_default-clause-failed : goal.returns-in_default-clause-failed
returns-in_default-clause-failed g c = tells_same (c.args.to.now.header + 1) (half_size c.args.plan.now.geometry - 1) _ _ refl

pub returns-in-Ok-clause-moments : goal.returns-in-Ok-clause-moments
returns-in-Ok-clause-moments g c = c.fill_from.ensures.writes.moments

pub returns-in-Ok-clause-closed : goal.returns-in-Ok-clause-closed
returns-in-Ok-clause-closed g c = weakened c.fill_from.ensures.writes.moments (λ d from.
    kept_closed c.args.to.now.header (half_size c.args.plan.now.geometry - 1) from.old d (c.requires.closed from.old from.was) from.torn)

pub returns-in-Ok-clause-settled : goal.returns-in-Ok-clause-settled
returns-in-Ok-clause-settled g c = c.in-Ok.ensures.writes.settled

pub returns-in-Ok-clause-told : goal.returns-in-Ok-clause-told
returns-in-Ok-clause-told g c = c.in-Ok.ensures.writes.told

pub returns-in-Ok-clause-later : goal.returns-in-Ok-clause-later
returns-in-Ok-clause-later g c = c.fill_from.ensures.writes.cause.later

pub returns-in-Ok-clause-passed : goal.returns-in-Ok-clause-passed
returns-in-Ok-clause-passed g c = c.in-Ok.ensures.writes.cause.passed

pub returns-clause-moments : goal.returns-clause-moments
returns-clause-moments g c = c.fill_from.ensures.writes.moments

pub returns-clause-closed : goal.returns-clause-closed
returns-clause-closed g c = weakened c.fill_from.ensures.writes.moments (λ d from.
    kept_closed c.args.to.now.header (half_size c.args.plan.now.geometry - 1) from.old d (c.requires.closed from.old from.was) from.torn)

pub returns-clause-failed : goal.returns-clause-failed
returns-clause-failed g c = c.in-Err.ensures.writes.failed

pub returns-clause-later : goal.returns-clause-later
returns-clause-later g c = c.fill_from.ensures.writes.cause.later

pub returns-clause-cause : goal.returns-clause-cause
returns-clause-cause g c is = c.in-Err.ensures.writes.cause.failed refl

pub fill_from-requires-clause-bytes : goal.fill_from-requires-clause-bytes
fill_from-requires-clause-bytes g c = record { valid = c.requires.valid; numbers = c.requires.base; base = search rules; log = search rules; used = c.requires.used }

pub fill_from-requires-clause-size : goal.fill_from-requires-clause-size
fill_from-requires-clause-size g c = c.requires.size

pub fill_from-requires-clause-places : goal.fill_from-requires-clause-places
fill_from-requires-clause-places g c = c.requires.places
