use Rattle.queued_disk.proofs.Moves.{elapses_write, contents_write}
use Rattle.queued_disk.proofs.queued.QueuedDiskDisk.write.Goals as goal

pub returns-in-Ok-clause-written : goal.returns-in-Ok-clause-written
returns-in-Ok-clause-written c =
    let done = c.in-Ok.ensures.ok in
    contents_write c.args.at done.0 c.args.bytes.now done.2 done.1

pub returns-in-Ok-clause-crash : goal.returns-in-Ok-clause-crash
returns-in-Ok-clause-crash c =
    let done = c.in-Ok.ensures.ok in
    elapses_write c.args.at done.0 c.args.bytes.now done.2 done.1
