use Rattle.iso_memdisk.proofs.{Words.{◌∙◌, ap, arith, Failures, Sync, Appends}, Moves.{elapses_sync, contents_sync, settled_sync}}

pub returns-in-Ok-clause-settled : Rattle.iso_memdisk.proofs.disk.MemDiskDisk.sync.Goals.returns-in-Ok-clause-settled
returns-in-Ok-clause-settled c = settled_sync c.in-Ok.ensures.ok

pub returns-in-Ok-clause-contents : Rattle.iso_memdisk.proofs.disk.MemDiskDisk.sync.Goals.returns-in-Ok-clause-contents
returns-in-Ok-clause-contents c = contents_sync c.in-Ok.ensures.ok

pub returns-in-Ok-clause-crash : Rattle.iso_memdisk.proofs.disk.MemDiskDisk.sync.Goals.returns-in-Ok-clause-crash
returns-in-Ok-clause-crash c =
    let done = c.in-Ok.ensures.ok in
    let more : Appends c.args.self.now c.try_sync.new.self Sync = record { first = done.first; history = done.history } in
    elapses_sync more c.try_sync.ensures.name (ap (λ (f : Failures). f.binds) c.try_sync.ensures.failures ∙ ap (λ (f : Failures). f.binds) c.count_call.ensures.counted)

pub returns-in-Err-clause-cause : Rattle.iso_memdisk.proofs.disk.MemDiskDisk.sync.Goals.returns-in-Err-clause-cause
returns-in-Err-clause-cause c =
    let kept = ap (λ (f : Failures). f.faults) c.try_sync.ensures.failures in
    let rose = c.starve.ensures.rose in
    let later = c.starve.ensures.later in
    record { later = omega arith; failed = λ _. omega arith; passed = tt }
