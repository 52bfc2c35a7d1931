use Rattle.iso_memdisk.proofs.{Words.{◌∙◌, ap, refl, arith, torn_from_old, Failures, Write, Appends}, Moves.{elapses_untouched, elapses_write, contents_write, torn_now}}
use Rattle.iso_memdisk.proofs.disk.MemDiskDisk.write.Goals as goal

pub returns-in_err-count_call-clause-crash : goal.returns-in_err-count_call-clause-crash
returns-in_err-count_call-clause-crash c =
    let d = c.args.self.now in
    elapses_untouched {old = d} {new = record d { failures = c.count_call.new.self }} (record { first = refl; history = refl }) refl (ap (λ (f : Failures). f.binds) c.count_call.ensures.counted) (λ image now. torn_from_old _ _ image now)

pub returns-in-Ok-clause-written : goal.returns-in-Ok-clause-written
returns-in-Ok-clause-written c = let done = c.in-Ok.ensures.ok in contents_write c.args.at done.0 c.args.bytes.now done.2 done.1

pub returns-in-Ok-clause-crash : goal.returns-in-Ok-clause-crash
returns-in-Ok-clause-crash c =
    let done = c.in-Ok.ensures.ok in
    let more : Appends c.args.self.now c.try_write.new.self (Write c.args.at done.0) = record { first = done.2.first; history = done.2.history } in
    elapses_write c.args.at done.0 c.args.bytes.now more done.1 c.try_write.ensures.name (ap (λ (f : Failures). f.binds) c.try_write.ensures.failures ∙ ap (λ (f : Failures). f.binds) c.count_call.ensures.counted)

pub returns-in-Ok-clause-any_bytes : goal.returns-in-Ok-clause-any_bytes
returns-in-Ok-clause-any_bytes c =
    let done = c.in-Ok.ensures.ok in
    let more : Appends c.args.self.now c.try_write.new.self (Write c.args.at done.0) = record { first = done.2.first; history = done.2.history } in
    torn_now c.args.at done.0 c.args.bytes.now more done.1

pub returns-in-Err-clause-crash : goal.returns-in-Err-clause-crash
returns-in-Err-clause-crash c =
    let same = c.in-Err.ensures.err in
    elapses_untouched {old = c.args.self.now} {new = record c.try_write.new.self { failures = c.starve.new.self }} (record { first = same.first; history = same.history }) c.try_write.ensures.name (ap (λ (f : Failures). f.binds) c.starve.ensures.counted ∙ ap (λ (f : Failures). f.binds) c.try_write.ensures.failures ∙ ap (λ (f : Failures). f.binds) c.count_call.ensures.counted) (λ image now. torn_from_old _ _ image now)

pub returns-in-Err-clause-cause : goal.returns-in-Err-clause-cause
returns-in-Err-clause-cause c =
    let kept = ap (λ (f : Failures). f.faults) c.try_write.ensures.failures in
    let rose = c.starve.ensures.rose in
    let later = c.starve.ensures.later in
    record { later = omega arith; failed = λ _. omega arith; passed = tt }
