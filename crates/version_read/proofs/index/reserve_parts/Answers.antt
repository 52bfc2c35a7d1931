-- One block more has its room.
use Rattle.std.proofs.Common.{arith}
use Rattle.version_read.proofs.Rooms.{reserved_more, room_there}

pub returns-in_err-reserve-clause-succeeds : Rattle.version_read.proofs.index.reserve_parts.Goals.returns-in_err-reserve-clause-succeeds
returns-in_err-reserve-clause-succeeds c room = grind (arith, room_there)

pub loop-first-preserved : Rattle.version_read.proofs.index.reserve_parts.Goals.loop-first-preserved
loop-first-preserved c =
    let ends = c.block_end-stop.ensures in
    let made = c.reserve.ensures in
    reserved_more c.args.index.now c.loop-first.index c.args.parts.now c.loop-first.first c.block_end-stop.result c.loop-first.invariant ends.more ends.within ends.same ends.later
    c.reserve.new.self made.blocks made.same made.count made.others c.in_ok-reserve.ensures.room (made.no_less)
