use Rattle.iso_format.proofs.{Words.{None, sym, arith, parts_fault}, FaultSteps.{part_stops, part_passes}}

pub returns-in-Some : Rattle.iso_format.proofs.faults.parts_fault.Goals.returns-in-Some
returns-in-Some c =
    part_stops c.args.geometry.now c.loop.before c.loop.at c.args.count c.loop.counter c.loop.rest.now c.in-Some.fault
    (parts_fault c.args.geometry.now None 20 c.args.count c.args.body.now) c.loop-test.true (sym c.in-Some.ensures) c.loop.invariant.same

pub loop-preserved : Rattle.iso_format.proofs.faults.parts_fault.Goals.loop-preserved
loop-preserved c = search (arith, part_passes)
