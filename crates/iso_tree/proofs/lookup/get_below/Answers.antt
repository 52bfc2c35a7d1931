use Rattle.iso_tree.proofs.{Words.{refl, true, Ok, None, Done, got, ◌∙◌, sym, take, arith, keys_end}, Descending.{reads_answered, reads_broken, reads_refused}, Facts.{cell_used, node_parts}, Fits.area_block, Getting.{below_refused, below_missing, below_found, below_broken}}
use Rattle.iso_tree.proofs.lookup.get_below.Goals as goal

pub returns-in-Err : goal.returns-in-Err
returns-in-Err g c =
    let state = g.T.TxBlocks.state in
    record {
      run = below_refused (Done (Ok None)) c.args.root.area c.args.key.now true c.args.root.block c.args.root.level (λ d. Done (got c.args.root.area c.args.key.now d)) c.if-root-eq0.false (λ block. refl) (state c.args.tx.now) (state c.descend.new.tx) c.descend.new.path c.descend.new.buffer c.in-Err.e c.in-Err.ensures.run;
      reads = reads_refused _ _ _ _ _ c.in-Err.ensures.reads;
    }

pub returns-in_default : goal.returns-in_default
returns-in_default g c = record { run = grind (arith, below_missing); reads = reads_answered _ _ _ _ _ _ c.in-Ok.ensures.reads }

pub value_part-part-requires-clause-cell : goal.value_part-part-requires-clause-cell
value_part-part-requires-clause-cell g c =
    let keys = take (keys_end c.args.root.area.size) c.descend.new.buffer in
    let used = cell_used c.args.key.now keys c.in-Some.cell (sym c.in-Ok.ensures.leaf.cell ∙ c.in-Some.is) in
    let few = (node_parts c.args.root.area.size 0 keys c.in-Ok.ensures.leaf.node).few in
    record { size = record { least = c.args.root.kind.least_size; most = (area_block c.args.root.area c.args.root.kind).most }; cell = omega (arith, used, few) }

pub returns-then-not-is_part : goal.returns-then-not-is_part
returns-then-not-is_part g c = record { run = grind (arith, below_broken); reads = reads_broken _ _ _ _ _ _ c.in-Ok.ensures.reads }

pub returns : goal.returns
returns g c = record { run = grind (arith, below_found); reads = reads_answered _ _ _ _ _ _ c.in-Ok.ensures.reads }
