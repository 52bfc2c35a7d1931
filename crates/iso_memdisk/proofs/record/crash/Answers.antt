use Rattle.iso_memdisk.proofs.{Words.{List, length, ◌∙◌, ap, subst, take_rest, Call, written, TornBy, AllFit-take}, Crash.{crash_image, crash_written}}

pub returns-clause-image : Rattle.iso_memdisk.proofs.record.crash.Goals.returns-clause-image
returns-clause-image c =
    let calls = c.args.calls.now in
    let stable = c.stable_calls-stable.result in
    let torn = subst (λ (l : List Call). TornBy l c.replay.new.image c.tear.new.image) (take_rest calls stable) c.tear.ensures.torn in
    crash_image calls stable c.args.image.now c.replay.new.image c.tear.new.image c.replay.ensures (AllFit-take (length c.args.image.now) stable calls c.requires) torn

pub returns-clause-written : Rattle.iso_memdisk.proofs.record.crash.Goals.returns-clause-written
returns-clause-written c pick =
    let calls = c.args.calls.now in
    let stable = c.stable_calls-stable.result in
    crash_written calls stable c.args.image.now c.replay.new.image c.tear.new.image c.replay.ensures (c.tear.ensures.written pick ∙ ap (λ (l : List Call). written l c.replay.new.image) (take_rest calls stable))
