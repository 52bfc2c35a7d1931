-- One row more.
use Rattle.tx_table.proofs.{Words.{◌<◌, sym, subst, Read, Write, Row, IsRow}, Covered.touched_more, Slots.all_there}

pub loop-at-preserved : Rattle.tx_table.proofs.fold.fold_in_turn.Goals.loop-at-preserved
loop-at-preserved c =
    let rows = c.args.rows.now in
    let row = c.index-rows-at.result in
    let i = c.loop-at.at in
    let size = c.args.size in
    let blocks = c.args.blocks in
    let all = all_there (λ r. IsRow size r × (r.block < blocks)) i rows row c.requires.rows c.loop-at-test.true in
    let within : row.block < blocks = subst (λ (r : Row). r.block < blocks) (sym c.index-rows-at.is) all.1 in
    record {
      reads = λ before. touched_more size blocks Read i rows row row c.loop-at.reads c.touch.new.reads c.loop-at-test.true c.index-rows-at.is within (c.loop-at.invariant.reads before) c.in_default.ensures.reads;
      writes = λ before. touched_more size blocks Write i rows row row c.loop-at.writes c.touch.new.writes c.loop-at-test.true c.index-rows-at.is within (c.loop-at.invariant.writes before) c.in_default.ensures.writes;
    }
