use Rattle.queued_disk.proofs.Moves.{elapses_sync, contents_sync, settled_sync}
use Rattle.queued_disk.proofs.queued.QueuedDiskDisk.sync.Goals as goal

pub returns-in-Ok-clause-settled : goal.returns-in-Ok-clause-settled
returns-in-Ok-clause-settled c = settled_sync c.in-Ok.ensures.ok

pub returns-in-Ok-clause-contents : goal.returns-in-Ok-clause-contents
returns-in-Ok-clause-contents c = contents_sync c.in-Ok.ensures.ok

pub returns-in-Ok-clause-crash : goal.returns-in-Ok-clause-crash
returns-in-Ok-clause-crash c = elapses_sync c.in-Ok.ensures.ok
