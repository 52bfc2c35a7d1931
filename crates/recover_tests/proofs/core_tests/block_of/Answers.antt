use Rattle.std.proofs.Common.{replicate, arith}
use Rattle.iso_memdisk.specs.MemDisk.{state_of}
use Rattle.recover_tests.proofs.Standing.{may_fetch}

pub fetch-requires : Rattle.recover_tests.proofs.core_tests.block_of.Goals.fetch-requires
fetch-requires c =
    let W = c.requires.idle.world in
    let stands = c.requires.idle.stands in
    let begun = c.in-Ok.ensures.begun W stands in
    may_fetch state_of c.begin.new.self W begun.3 c.requires.idle.live c.in-Ok.begun.tx c.args.block (replicate 64 0) c.geometry-geometry.result
    (c.geometry-geometry.ensures W _ stands) begun.0 (omega (arith, c.if-block-geometry.false)) (omega (arith, c.if-geometry-ne64.false))
