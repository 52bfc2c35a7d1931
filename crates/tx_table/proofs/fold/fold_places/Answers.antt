-- The row at one place more.
use Rattle.tx_table.proofs.{Words.{◌≡◌, ◌∙◌, ℕ, ◌<◌, ◌&&◌, ◌||◌, ap, arith, length, get_or, nat_lt, list_any, get_or_default, take_all, touches, Read, Write, covers, access_of}, Covered.places_more}

pub loop-entry-preserved : Rattle.tx_table.proofs.fold.fold_places.Goals.loop-entry-preserved
loop-entry-preserved c =
    let rows = c.args.rows.now in
    let order = c.args.order.now in
    let i = c.loop-entry.entry-index in
    let e : ℕ × ℕ = get_or order i (0, 0) in
    let lt : i < length order = c.loop-entry-test.true in
    let at : e ≡ get_or order i e = get_or_default order i (0, 0) e lt in
    let inside : e.1 < length rows = c.requires.inside i (0, 0) lt in
    record {
      reads = places_more c.args.size Read rows order i e c.index-rows-entry.result c.args.reads.now c.loop-entry.reads c.touch.new.reads lt at inside c.index-rows-entry.is c.loop-entry.invariant.reads c.in_ok-touch.ensures.reads;
      writes = places_more c.args.size Write rows order i e c.index-rows-entry.result c.args.writes.now c.loop-entry.writes c.touch.new.writes lt at inside c.index-rows-entry.is c.loop-entry.invariant.writes c.in_ok-touch.ensures.writes;
    }

pub returns-clause-reads : Rattle.tx_table.proofs.fold.fold_places.Goals.returns-clause-reads
returns-clause-reads c d b p =
    c.loop-entry.invariant.reads d b p
    ∙ ap (λ l. touches c.args.reads.now b p || (nat_lt p c.args.size && list_any (λ (e : ℕ × ℕ). covers Read b p (access_of (get_or c.args.rows.now e.1 d))) l))
    (take_all c.loop-entry.entry-index c.args.order.now (omega arith))

pub returns-clause-writes : Rattle.tx_table.proofs.fold.fold_places.Goals.returns-clause-writes
returns-clause-writes c d b p =
    c.loop-entry.invariant.writes d b p
    ∙ ap (λ l. touches c.args.writes.now b p || (nat_lt p c.args.size && list_any (λ (e : ℕ × ℕ). covers Write b p (access_of (get_or c.args.rows.now e.1 d))) l))
    (take_all c.loop-entry.entry-index c.args.order.now (omega arith))
