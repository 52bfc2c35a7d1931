-- Where the place of the block has another one, no place has it.
use Rattle.tx_table.proofs.{Words.arith, Blocks.other_places}

pub returns-then-entry-block-clause-none : Rattle.tx_table.proofs.patches.slot_of.Goals.returns-then-entry-block-clause-none
returns-then-entry-block-clause-none c k d lt =
    let place = c.place_of-place.result in
    other_places c.args.block place c.args.order.now _ c.requires (omega arith) c.place_of-place.ensures.before
    (c.place_of-place.ensures.after place (omega arith) (omega arith) _) c.if-entry-block.true k d lt
