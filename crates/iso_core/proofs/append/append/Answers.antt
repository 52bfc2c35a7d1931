use Rattle.iso_core.proofs.{Words.{◌+◌, ◌∙◌, ap, half_of_world, next_place}, Causes.{append_fails, append_passes}, Nexts.{log_of, log_told, next_of}}
use Rattle.iso_core.proofs.append.append.Goals as goal

pub append_group-requires-clause-next : goal.append_group-requires-clause-next
append_group-requires-clause-next g c =
    let n = c.requires in
    (n.world.geometry, n.more, next_of (g.D.Disk.state c.args.disk.now) c.args.log.now n.kept n.world n.more c.args.bytes.now n.may)

pub append_group-requires-clause-told : goal.append_group-requires-clause-told
append_group-requires-clause-told g c =
    let n = c.requires in
    (n.world.geometry, n.world.base + 1, (half_of_world n.world n.kept.half).told, log_told (g.D.Disk.state c.args.disk.now) c.args.log.now n.kept n.world n.more c.args.bytes.now n.may)

pub returns-in-Ok-clause-appended : goal.returns-in-Ok-clause-appended
returns-in-Ok-clause-appended g c n =
    let d = g.D.Disk.state c.args.disk.now in
    let is = log_of d c.args.log.now n.kept n.world n.more c.args.bytes.now n.may in
    let next = next_of d c.args.log.now n.kept n.world n.more c.args.bytes.now n.may in
    let held = c.in-Ok.ensures.held n.world.geometry (half_of_world n.world n.kept.half) n.more is next n.may.of.images.each in
    record {
      moments = c.append_group.ensures.held_moments n.world.geometry (half_of_world n.world n.kept.half) n.more is next n.may.of.images.each;
      held = held.1;
      settled = c.in-Ok.ensures.settled;
      told = c.in-Ok.ensures.told;
      grown = held.0;
      gate = c.in-Ok.ensures.place ∙ ap next_place is;
    }

pub returns-in-Err-clause-appended : goal.returns-in-Err-clause-appended
returns-in-Err-clause-appended g c n =
    let d = g.D.Disk.state c.args.disk.now in
    record {
      moments = c.append_group.ensures.held_moments n.world.geometry (half_of_world n.world n.kept.half) n.more (log_of d c.args.log.now n.kept n.world n.more c.args.bytes.now n.may) (next_of d c.args.log.now n.kept n.world n.more c.args.bytes.now n.may) n.may.of.images.each;
      held = tt;
      settled = tt;
      told = tt;
      grown = tt;
      gate = tt;
    }

pub returns-in-Ok-clause-cause : goal.returns-in-Ok-clause-cause
returns-in-Ok-clause-cause g c = append_passes c.in-Ok.ensures.cause

pub returns-in-Err-clause-cause : goal.returns-in-Err-clause-cause
returns-in-Err-clause-cause g c = append_fails c.in-Err.ensures.only (c.in-Err.ensures.not_full c.requires.may.fits) c.in-Err.ensures.cause
