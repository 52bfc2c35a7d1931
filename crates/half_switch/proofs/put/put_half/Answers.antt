use Rattle.half_switch.proofs.{Words.{◌+◌, ◌-◌, length, take, drop, arith, refl, on_ok_weaker, goes_on_still, starts_inside, writes_inside}, Tells.{on_err, put_whole, tells_same, tells_more, tells_still, tells_written}}
use Rattle.half_switch.proofs.put.put_half.Goals as goal
use Rattle.std.proofs.Common.{rules}

pub returns-in_err-write-clause-writes : goal.returns-in_err-write-clause-writes
returns-in_err-write-clause-writes g c n fits = record {
  moments =
      let (base, log) = c.requires.room.places in
      let laws = g.met.D.Disk.lawful in
      writes_inside (c.args.to.now.header + 1) n c.args.to.now.base (length c.args.base.now) (omega (arith, base)) (omega (arith, base, log, fits)) (laws c.args.disk.now) (starts_inside (laws c.args.disk.now) (c.args.to.now.header + 1) n) c.write.ensures.crash;
  settled = search rules;
  told = search rules;
  failed = grind (arith, on_err, tells_more, tells_same);
  cause = search rules;
}

pub returns-in_err-write-2-clause-writes : goal.returns-in_err-write-2-clause-writes
returns-in_err-write-2-clause-writes g c n fits = record {
  moments =
      let (base, log) = c.requires.room.places in
      let laws = g.met.D.Disk.lawful in
      let one = writes_inside (c.args.to.now.header + 1) n c.args.to.now.base (length c.args.base.now) (omega (arith, base)) (omega (arith, base, log, fits)) (laws c.args.disk.now) (starts_inside (laws c.args.disk.now) (c.args.to.now.header + 1) n) c.write.ensures.crash in
      writes_inside (c.args.to.now.header + 1) n (c.args.to.now.header + 1) (length (take (length c.args.header.now - 1) (drop 1 c.args.header.now))) (omega arith) (omega (arith, base, log, fits, c.requires.header)) (laws c.write.new.self) one c.write-2.ensures.crash;
  settled = search rules;
  told = search rules;
  failed =
      let (base, log) = c.requires.room.places in
      let state = g.D.Disk.state in
      let laws = g.met.D.Disk.lawful in
      let one = tells_written (c.args.to.now.header + 1) n c.args.to.now.base c.args.base.now (omega (arith, base)) (omega (arith, base, log, fits))
      (state c.args.disk.now) (state c.args.disk.now) (state c.write.new.self) (laws c.args.disk.now) (omega (arith, log, c.requires.room.fits)) (tells_same (c.args.to.now.header + 1) n _ _ refl) c.in_ok-write.ensures.written in
      on_err _ (tells_more (c.args.to.now.header + 1) n (c.args.to.now.header + 1) (length (take (length c.args.header.now - 1) (drop 1 c.args.header.now))) (omega arith) (omega (arith, base, log, fits, c.requires.header))
      (state c.args.disk.now) (state c.write.new.self) (state c.write-2.new.self) one c.in_err-write-2.ensures.failed);
  cause = search rules;
}

pub returns-in_err-write-3-clause-writes : goal.returns-in_err-write-3-clause-writes
returns-in_err-write-3-clause-writes g c n fits = record {
  moments =
      let (base, log) = c.requires.room.places in
      let laws = g.met.D.Disk.lawful in
      let one = writes_inside (c.args.to.now.header + 1) n c.args.to.now.base (length c.args.base.now) (omega (arith, base)) (omega (arith, base, log, fits)) (laws c.args.disk.now) (starts_inside (laws c.args.disk.now) (c.args.to.now.header + 1) n) c.write.ensures.crash in
      let two = writes_inside (c.args.to.now.header + 1) n (c.args.to.now.header + 1) (length (take (length c.args.header.now - 1) (drop 1 c.args.header.now))) (omega arith) (omega (arith, base, log, fits, c.requires.header)) (laws c.write.new.self) one c.write-2.ensures.crash in
      writes_inside (c.args.to.now.header + 1) n c.args.to.now.log (length c.args.records.now) (omega (arith, base, log)) (omega (arith, fits)) (laws c.write-2.new.self) two c.write-3.ensures.crash;
  settled = search rules;
  told = search rules;
  failed =
      let (base, log) = c.requires.room.places in
      let state = g.D.Disk.state in
      let laws = g.met.D.Disk.lawful in
      let one = tells_written (c.args.to.now.header + 1) n c.args.to.now.base c.args.base.now (omega (arith, base)) (omega (arith, base, log, fits))
      (state c.args.disk.now) (state c.args.disk.now) (state c.write.new.self) (laws c.args.disk.now) (omega (arith, log, c.requires.room.fits)) (tells_same (c.args.to.now.header + 1) n _ _ refl) c.in_ok-write.ensures.written in
      let two = tells_written (c.args.to.now.header + 1) n (c.args.to.now.header + 1) (take (length c.args.header.now - 1) (drop 1 c.args.header.now)) (omega arith) (omega (arith, base, log, fits, c.requires.header))
      (state c.args.disk.now) (state c.write.new.self) (state c.write-2.new.self) (laws c.write.new.self) (omega (arith, base, log, c.requires.room.fits, c.requires.header, c.write.ensures.crash.same_size)) one c.in_ok-write-2.ensures.written in
      on_err _ (tells_more (c.args.to.now.header + 1) n c.args.to.now.log (length c.args.records.now) (omega (arith, base, log)) (omega (arith, fits))
      (state c.args.disk.now) (state c.write-2.new.self) (state c.write-3.new.self) two c.in_err-write-3.ensures.failed);
  cause = search rules;
}

pub returns-clause-writes : goal.returns-clause-writes
returns-clause-writes g c n fits = record {
  moments =
      let (base, log) = c.requires.room.places in
      let laws = g.met.D.Disk.lawful in
      let one = writes_inside (c.args.to.now.header + 1) n c.args.to.now.base (length c.args.base.now) (omega (arith, base)) (omega (arith, base, log, fits)) (laws c.args.disk.now) (starts_inside (laws c.args.disk.now) (c.args.to.now.header + 1) n) c.write.ensures.crash in
      let two = writes_inside (c.args.to.now.header + 1) n (c.args.to.now.header + 1) (length (take (length c.args.header.now - 1) (drop 1 c.args.header.now))) (omega arith) (omega (arith, base, log, fits, c.requires.header)) (laws c.write.new.self) one c.write-2.ensures.crash in
      let three = writes_inside (c.args.to.now.header + 1) n c.args.to.now.log (length c.args.records.now) (omega (arith, base, log)) (omega (arith, fits)) (laws c.write-2.new.self) two c.write-3.ensures.crash in
      goes_on_still (laws c.write-3.new.self) three c.sync.ensures.crash;
  settled = search rules;
  told = search rules;
  failed =
      let (base, log) = c.requires.room.places in
      let state = g.D.Disk.state in
      let laws = g.met.D.Disk.lawful in
      let one = tells_written (c.args.to.now.header + 1) n c.args.to.now.base c.args.base.now (omega (arith, base)) (omega (arith, base, log, fits))
      (state c.args.disk.now) (state c.args.disk.now) (state c.write.new.self) (laws c.args.disk.now) (omega (arith, log, c.requires.room.fits)) (tells_same (c.args.to.now.header + 1) n _ _ refl) c.in_ok-write.ensures.written in
      let two = tells_written (c.args.to.now.header + 1) n (c.args.to.now.header + 1) (take (length c.args.header.now - 1) (drop 1 c.args.header.now)) (omega arith) (omega (arith, base, log, fits, c.requires.header))
      (state c.args.disk.now) (state c.write.new.self) (state c.write-2.new.self) (laws c.write.new.self) (omega (arith, base, log, c.requires.room.fits, c.requires.header, c.write.ensures.crash.same_size)) one c.in_ok-write-2.ensures.written in
      let three = tells_written (c.args.to.now.header + 1) n c.args.to.now.log c.args.records.now (omega (arith, base, log)) (omega (arith, fits))
      (state c.args.disk.now) (state c.write-2.new.self) (state c.write-3.new.self) (laws c.write-2.new.self) (omega (arith, c.requires.room.fits, c.write.ensures.crash.same_size, c.write-2.ensures.crash.same_size)) two c.in_ok-write-3.ensures.written in
      on_err _ (tells_still (c.args.to.now.header + 1) n (state c.args.disk.now) (state c.write-3.new.self) (state c.sync.new.self) three c.sync.ensures.contents);
  cause = search rules;
}

pub returns-clause-put : goal.returns-clause-put
returns-clause-put g c =
    let state = g.D.Disk.state in
    on_ok_weaker c.sync.result (λ settled d image.
    put_whole c.args.to.now c.args.header.now c.args.base.now c.args.records.now (state c.args.disk.now) (state c.write.new.self) (state c.write-2.new.self) (state c.write-3.new.self) (state c.sync.new.self)
    c.in_ok-write.ensures.written c.in_ok-write-2.ensures.written c.in_ok-write-3.ensures.written c.sync.ensures.contents settled d image)
    c.sync.ensures.settled
