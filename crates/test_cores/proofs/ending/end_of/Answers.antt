use Rattle.iso_memdisk.specs.MemDisk.{state_of}
use Rattle.test_cores.proofs.Cores.{may_end}

pub end-requires : Rattle.test_cores.proofs.ending.end_of.Goals.end-requires
end-requires g c =
    let W = c.requires.idle.world in
    let stands = c.requires.idle.stands in
    let begun = c.in-Ok.ensures.begun W stands in
    may_end state_of c.begin.new.self W begun.3 c.requires.idle.live c.in-Ok.begun.at c.in-Ok.begun.tx c.in_ok-work.work c.geometry-geometry.result (c.geometry-geometry.ensures W _ stands)
    begun.0 begun.2 c.in_ok-work.ensures
