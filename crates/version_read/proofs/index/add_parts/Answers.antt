-- One part more.
use Rattle.version_read.proofs.{Words.{◌+◌, refl, get_or, arith, no_part}, Additions.{added_more, place_fits, room_left, still_rises}}

pub add-requires-clause-room : Rattle.version_read.proofs.index.add_parts.Goals.add-requires-clause-room
add-requires-clause-room c = search (arith, room_left)

pub add-requires-clause-rising : Rattle.version_read.proofs.index.add_parts.Goals.add-requires-clause-rising
add-requires-clause-rising c = search (arith, still_rises)

pub overflow_add-at-in-loop-part-3 : Rattle.version_read.proofs.index.add_parts.Goals.overflow_add-at-in-loop-part-3
overflow_add-at-in-loop-part-3 c =
    let fits = place_fits c.args.index.now c.loop-part.index c.args.number (c.args.gate + 20) c.loop-part.at c.loop-part.part-index c.args.parts.now (get_or c.args.parts.now c.loop-part.part-index no_part) c.loop-part.invariant c.loop-part-test.true refl in
    omega (arith, fits, c.requires.may.place, c.from.ensures)

pub loop-part-preserved : Rattle.version_read.proofs.index.add_parts.Goals.loop-part-preserved
loop-part-preserved c =
    added_more c.args.index.now c.loop-part.index c.args.number (c.args.gate + 20) c.loop-part.at c.loop-part.part-index c.args.parts.now (get_or c.args.parts.now c.loop-part.part-index no_part) c.loop-part.invariant c.loop-part-test.true refl
    c.add.new.self (c.loop-part.at + (8 + c.from.result)) c.add.ensures.added (omega (arith, c.from.ensures))
