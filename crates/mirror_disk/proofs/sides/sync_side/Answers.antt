use Rattle.mirror_disk.proofs.{Words.{sym, ◌∙◌}, Called.side_kept, Done.by_done}
use Rattle.mirror_disk.proofs.sides.sync_side.Goals as goal

pub returns-clause-called : goal.returns-clause-called
returns-clause-called g c = side_kept c.sync.result (g.met.D.Disk.lawful c.args.side.now) c.is_ok.ensures.value c.sync.ensures.crash c.sync.ensures.contents c.sync.ensures.cause

pub returns-clause-settled : goal.returns-clause-settled
returns-clause-settled g c is = by_done c.sync.result (sym c.is_ok.ensures.value ∙ is) c.sync.ensures.settled
