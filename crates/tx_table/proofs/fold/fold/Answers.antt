-- All rows are added, in the order of their blocks.
use Rattle.tx_table.proofs.{Words.{arith, Read, Write}, Covered.touched_rest}

pub returns-clause-reads : Rattle.tx_table.proofs.fold.fold.Goals.returns-clause-reads
returns-clause-reads c before =
    let order = c.in-Ok.order.items in
    let step = rw c.as_slice.ensures.value at c.in_default-fold_places.ensures.reads in
    touched_rest c.args.size c.args.blocks Read c.args.from c.args.rows.now order c.args.reads.now c.fold_places.new.reads (omega (arith, c.if-rows-from-le-FEW.false)) c.requires.rows c.in-Ok.ensures.all step before

pub returns-clause-writes : Rattle.tx_table.proofs.fold.fold.Goals.returns-clause-writes
returns-clause-writes c before =
    let order = c.in-Ok.order.items in
    let step = rw c.as_slice.ensures.value at c.in_default-fold_places.ensures.writes in
    touched_rest c.args.size c.args.blocks Write c.args.from c.args.rows.now order c.args.writes.now c.fold_places.new.writes (omega (arith, c.if-rows-from-le-FEW.false)) c.requires.rows c.in-Ok.ensures.all step before
