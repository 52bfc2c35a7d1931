use Rattle.iso_log.proofs.Handed.{disk_fails, disk_not_damaged, disk_not_full, disk_passes, memory_fails, memory_not_damaged, memory_not_full}
use Rattle.iso_disk.proofs.Moments.{goes_on_unwritten, starts_unwritten}
use Rattle.iso_log.proofs.ahead.read_more.Goals as goal

pub returns-in-Err-clause-reads : goal.returns-in-Err-clause-reads
returns-in-Err-clause-reads g c = record {
  unwritten = starts_unwritten (g.met.D.Disk.lawful c.args.disk.now);
  cause = memory_fails _;
  not_full = memory_not_full;
}

pub returns-in-Err-read-clause-reads : goal.returns-in-Err-read-clause-reads
returns-in-Err-read-clause-reads g c =
    let lawful = g.met.D.Disk.lawful c.args.disk.now in
    record {
      unwritten = goes_on_unwritten lawful (starts_unwritten lawful) c.read.ensures.contents c.read.ensures.crash;
      cause = disk_fails _ _ _ c.in-Err-read.ensures.cause;
      not_full = disk_not_full;
    }

pub returns-clause-reads : goal.returns-clause-reads
returns-clause-reads g c =
    let lawful = g.met.D.Disk.lawful c.args.disk.now in
    record {
      unwritten = goes_on_unwritten lawful (starts_unwritten lawful) c.read.ensures.contents c.read.ensures.crash;
      cause = disk_passes _ _ _ _ c.in_default-read.ensures.cause;
      not_full = λ need free is. cc;
    }

pub returns-in-Err-clause-not_damaged : goal.returns-in-Err-clause-not_damaged
returns-in-Err-clause-not_damaged g c = memory_not_damaged

pub returns-in-Err-read-clause-not_damaged : goal.returns-in-Err-read-clause-not_damaged
returns-in-Err-read-clause-not_damaged g c = disk_not_damaged
