use Rattle.iso_recover.proofs.{Words.{◌≡◌, ◌+◌, ◌-◌, ℕ, List, take, map, refl, arith, ap, sym, ◌∙◌, subst, joined_unwritten, Recorded, stand_front, taken_is, told_first, HasTaken, MayTake, part_of, IsShaped}, Steps.{below, blames_call, blames_memory, blames_none, gate_fits, goes_on_reading, grows, lies, may, reads_end, refuses_now, some_left, stands_now, starts_reading}}
use Rattle.iso_recover.proofs.log.read_log.Goals as goal

pub loop-i-init : goal.loop-i-init
loop-i-init g c = record {
  reading = starts_reading c.args.front.now (g.D.Disk.state c.args.disk.now) (g.met.D.Disk.lawful c.args.disk.now) c.requires c.start-log.result c.in-Ok.index c.new-ahead.result c.start-log.ensures
      c.in-Ok.ensures.blocks c.in-Ok.ensures.none c.new-ahead.ensures;
  steps = omega arith;
}

pub overflow_add-gate : goal.overflow_add-gate
overflow_add-gate g c =
    let fits = gate_fits (g.met.D.Disk.lawful c.args.disk.now) c.requires c.loop-i.invariant.reading c.from.result (c.from.ensures ∙ c.used.ensures) in
    omega (arith, fits)

pub find_on-requires-clause-fits : goal.find_on-requires-clause-fits
find_on-requires-clause-fits g c = lies (g.met.D.Disk.lawful c.args.disk.now) c.requires c.loop-i.invariant.reading

pub find_on-requires-clause-left : goal.find_on-requires-clause-left
find_on-requires-clause-left g c = some_left (g.met.D.Disk.lawful c.args.disk.now) c.requires c.loop-i.invariant.reading

pub find_on-requires-clause-number : goal.find_on-requires-clause-number
find_on-requires-clause-number g c = below (g.met.D.Disk.lawful c.args.disk.now) c.requires c.loop-i.invariant.reading

pub find_on-requires-clause-within : goal.find_on-requires-clause-within
find_on-requires-clause-within g c = c.loop-i.invariant.reading.within

pub find_on-requires-clause-ahead : goal.find_on-requires-clause-ahead
find_on-requires-clause-ahead g c = stands_now (g.met.D.Disk.lawful c.args.disk.now) c.requires c.loop-i.invariant.reading

pub returns-in-Ok-None-clause-read : goal.returns-in-Ok-None-clause-read
returns-in-Ok-None-clause-read g c =
    reads_end (g.met.D.Disk.lawful c.args.disk.now) c.requires c.loop-i.invariant.reading
    c.loop-i.log refl (c.in-Ok-None.ensures.closed c.in-Ok-None.field-0-is)

pub returns-in-Ok-None-clause-unwritten : goal.returns-in-Ok-None-clause-unwritten
returns-in-Ok-None-clause-unwritten g c = joined_unwritten (g.met.D.Disk.lawful c.loop-i.disk) c.loop-i.invariant.reading.unwritten c.find_on.ensures.unwritten

pub returns-in-Ok-None-clause-cause : goal.returns-in-Ok-None-clause-cause
returns-in-Ok-None-clause-cause g c =
    blames_none (g.D.Disk.state c.args.disk.now).faults (g.D.Disk.state c.loop-i.disk).faults (g.D.Disk.state c.find_on.new.disk).faults _ _ c.loop-i.invariant.reading.faults c.in-Ok-None.ensures.cause

pub returns-in-Err-clause-refused : goal.returns-in-Err-clause-refused
returns-in-Err-clause-refused g c test =
    refuses_now (g.met.D.Disk.lawful c.args.disk.now) c.requires c.loop-i.invariant.reading
    c.in-Err.error (c.in-Err.ensures.damaged test)

pub returns-in-Err-clause-shape : goal.returns-in-Err-clause-shape
returns-in-Err-clause-shape g c = subst (λ (n : ℕ). IsShaped n c.in-Err.error) c.loop-i.invariant.reading.unwritten.moments.same_size c.in-Err.ensures.shape

pub returns-in-Err-clause-unwritten : goal.returns-in-Err-clause-unwritten
returns-in-Err-clause-unwritten g c = joined_unwritten (g.met.D.Disk.lawful c.loop-i.disk) c.loop-i.invariant.reading.unwritten c.find_on.ensures.unwritten

pub returns-in-Err-clause-cause : goal.returns-in-Err-clause-cause
returns-in-Err-clause-cause g c =
    blames_call (g.D.Disk.state c.args.disk.now).faults (g.D.Disk.state c.loop-i.disk).faults (g.D.Disk.state c.find_on.new.disk).faults c.in-Err.error c.loop-i.invariant.reading.faults c.in-Err.ensures.cause

pub overflow_add-number : goal.overflow_add-number
overflow_add-number g c =
    let least = below (g.met.D.Disk.lawful c.args.disk.now) c.requires c.loop-i.invariant.reading in
    omega (arith, least, c.last-number.ensures)

pub take_parts-requires : goal.take_parts-requires
take_parts-requires g c =
    let found = rw c.in-Ok-Some.field-0-is at c.in-Ok-Some.ensures.found in
    let taken = taken_is c.args.front.now.geometry c.loop-i.log c.loop-i.log refl c.find_on.new.ahead c.in-Ok-Some.size c.find_on.ensures.within found in
    let there = ap (λ (n : ℕ). c.args.front.now.log + n) (c.from.ensures ∙ c.used.ensures) in
    subst (λ (r : Recorded). MayTake (c.last-number.result + 1) (c.args.front.now.log + c.from.result) (map part_of r.parts) c.loop-i.index) (sym c.view_front-view.ensures.says)
    (may (g.met.D.Disk.lawful c.args.disk.now) c.requires c.loop-i.invariant.reading
    (record c.loop-i.log { used = c.loop-i.log.used + (c.in-Ok-Some.size - 1); last = c.loop-i.log.last + 1 }) (take c.in-Ok-Some.size c.find_on.new.ahead) taken (c.last-number.result + 1) (c.args.front.now.log + c.from.result)
    (ap (λ (n : ℕ). n + 1) c.last-number.ensures) there)

pub pass-requires-clause-found : goal.pass-requires-clause-found
pass-requires-clause-found g c = (c.args.front.now.geometry, rw c.in-Ok-Some.field-0-is at c.in-Ok-Some.ensures.found)

pub returns-in-Err-take_parts-clause-unwritten : goal.returns-in-Err-take_parts-clause-unwritten
returns-in-Err-take_parts-clause-unwritten g c = joined_unwritten (g.met.D.Disk.lawful c.loop-i.disk) c.loop-i.invariant.reading.unwritten c.find_on.ensures.unwritten

pub returns-in-Err-take_parts-clause-cause : goal.returns-in-Err-take_parts-clause-cause
returns-in-Err-take_parts-clause-cause g c =
    blames_memory (g.D.Disk.state c.args.disk.now).faults (g.D.Disk.state c.find_on.new.disk).faults (c.in-Ok-Some.ensures.cause.passed ∙ c.loop-i.invariant.reading.faults)

pub returns-clause-read : goal.returns-clause-read
returns-clause-read g c =
    let left = some_left (g.met.D.Disk.lawful c.args.disk.now) c.requires c.loop-i.invariant.reading in
    absurd (omega (arith, left, c.loop-i.invariant.steps, c.loop-i-test.false, c.loop-i.invariant.reading.read.left, ap (λ e. e.used) c.loop-i.invariant.reading.read.log_is))

pub returns-clause-unwritten : goal.returns-clause-unwritten
returns-clause-unwritten g c = c.loop-i.invariant.reading.unwritten

pub returns-clause-cause : goal.returns-clause-cause
returns-clause-cause g c =
    let same = c.loop-i.invariant.reading.faults in
    record { later = omega (arith, same); failed = λ is. absurd cc; passed = same; other = tt }

pub loop-i-preserved : goal.loop-i-preserved
loop-i-preserved g c =
    let found = rw c.in-Ok-Some.field-0-is at c.in-Ok-Some.ensures.found in
    let size = c.in-Ok-Some.size in
    let into : List ℕ = take size c.find_on.new.ahead in
    let taken = c.pass.ensures.taken c.args.front.now.geometry found in
    let there = ap (λ (n : ℕ). c.args.front.now.log + n) (c.from.ensures ∙ c.used.ensures) in
    let took : HasTaken (c.last-number.result + 1) (c.args.front.now.log + c.from.result) (map part_of (told_first c.args.front.now.geometry into).parts) c.loop-i.index c.take_parts.new.index =
    subst (λ (r : Recorded). HasTaken (c.last-number.result + 1) (c.args.front.now.log + c.from.result) (map part_of r.parts) c.loop-i.index c.take_parts.new.index) c.view_front-view.ensures.says
    c.in_default-take_parts.ensures in
    let last : c.last-number.result + 1 ≡ c.pass.new.self.last = omega (arith, c.last-number.ensures, ap (λ e. e.last) taken.grown) in
    let more = grows (g.met.D.Disk.lawful c.args.disk.now) c.requires c.loop-i.invariant.reading c.pass.new.self into taken in
    record {
      reading = goes_on_reading (g.met.D.Disk.lawful c.args.disk.now) c.requires c.loop-i.invariant.reading c.pass.new.self into taken (g.D.Disk.state c.find_on.new.disk) (g.met.D.Disk.lawful c.loop-i.disk) (c.last-number.result + 1) (c.args.front.now.log + c.from.result)
          c.take_parts.new.index c.pass.new.ahead c.view_front-view.ensures.values last there took
          (λ image told. stand_front _ size c.find_on.new.ahead image found.within (c.find_on.ensures.ahead image told)) (rw c.in-Ok-Some.field-0-is at c.in-Ok-Some.ensures.first)
          c.pass.ensures.within (λ image told. c.pass.ensures.ahead image (c.find_on.ensures.ahead image told)) c.in-Ok-Some.ensures.cause.passed c.find_on.ensures.unwritten;
      steps = omega (arith, more, c.loop-i.invariant.steps);
    }
