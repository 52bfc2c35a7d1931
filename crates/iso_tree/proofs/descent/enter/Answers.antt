use Rattle.iso_tree.proofs.{Words.{looked_as, ◌∙◌, refl, ap, ◌+◌, arith, keys_mark, value_mark, bytes_in, cut_first, may_mark, count_of, place_of, child_of}, Facts.{inner_many, child_below, node_parts, nothing_is}, Looking.{IsNodeOf, node_of, not_node, child_not_node, child_broken, child_read, child_marked, child_shown, part_shown, ok_marked, broken_marked, broken_read, refused_read}, descent.enter.Goals.In-Some}
use Rattle.iso_tree.proofs.descent.enter.Goals as goal

-- the node that the view shows
node_at : (g : Rattle.iso_tree.proofs.descent.enter.Given.Over) (c : In-Some g) → IsNodeOf c.args.area c.args.level c.look.new.into c.in-Some.node
node_at g c = node_of c.args.area c.args.level c.look.new.into c.in-Some.node c.region_of.result (c.look.auto.into ∙ c.requires.block.long) c.in-Some.ensures.value c.region_of.ensures (c.in-Some.ensures.some.0 refl)

pub place-place-requires : goal.place-place-requires
place-place-requires g c = grind (arith, node_at, inner_many) steps 100000

pub mark-requires : goal.mark-requires
mark-requires g c = grind (arith, node_at, node_parts, may_mark) steps 100000

pub returns-in_default-of : goal.returns-in_default-of
returns-in_default-of g c = record {
  run = grind (arith, looked_as, child_not_node, not_node, nothing_is);
  inside = tt;
  reads = broken_read _ _ _ _ _ _ c.in_default.ensures.read refl c.in_default.ensures.later c.in_default.ensures.passed;
}

pub returns-then-not-has_child : goal.returns-then-not-has_child
returns-then-not-has_child g c =
    let state = g.T.TxBlocks.state in
    let node = node_at g (goal.at.returns-then-not-has_child g c).In-Some in
    let access = child_marked c.args.area c.args.key.now c.args.level c.look.new.into c.in-Some.node c.place-place.result node c.place-place.ensures.value c.args.block (state c.args.tx.now) (state c.look.new.tx) (state c.mark.new.tx)
    c.keys_mark.result c.value_mark.result c.keys_mark.ensures c.value_mark.ensures c.in_default.ensures.read c.mark.ensures.marked in
    record {
      run = child_broken c.args.area (state c.args.tx.now) (state c.mark.new.tx) c.look.new.into (g.met.T.TxBlocks.limits c.mark.new.tx).count c.args.block c.in_default.ensures.bytes c.args.key.now c.args.level access node.passes
          (child_shown c.args.area c.args.key.now c.args.level c.look.new.into c.in-Some.node c.place-place.result node c.place-place.ensures.value c.has_child.result c.has_child.ensures ∙ c.if-not-has_child.true);
      inside = tt;
      reads = broken_marked (g.T.TxBlocks.state c.args.tx.now) (g.T.TxBlocks.state c.look.new.tx) (g.T.TxBlocks.state c.mark.new.tx) _ _ (g.T.TxBlocks.device c.args.tx.now) (g.T.TxBlocks.device c.look.new.tx) (g.T.TxBlocks.device c.mark.new.tx)
          c.in_default.ensures.read c.mark.ensures.marked refl c.in_default.ensures.later c.in_default.ensures.passed c.mark.ensures.device (c.args.area.start + c.args.block);
    }

pub returns : goal.returns
returns g c =
    let state = g.T.TxBlocks.state in
    let a = c.args.area in
    let node = node_at g (goal.at.returns g c).In-Some in
    let access = child_marked a c.args.key.now c.args.level c.look.new.into c.in-Some.node c.place-place.result node c.place-place.ensures.value c.args.block (state c.args.tx.now) (state c.look.new.tx) (state c.mark.new.tx)
    c.keys_mark.result c.value_mark.result c.keys_mark.ensures c.value_mark.ensures c.in_default.ensures.read c.mark.ensures.marked in
    let shown = child_shown a c.args.key.now c.args.level c.look.new.into c.in-Some.node c.place-place.result node c.place-place.ensures.value c.has_child.result c.has_child.ensures ∙ c.if-not-has_child.false in
    let same = c.child.ensures ∙ ap child_of (part_shown a c.args.key.now c.args.level c.look.new.into c.in-Some.node c.place-place.result node c.place-place.ensures.value) in
    let below = child_below a.blocks (bytes_in (value_mark a.size (place_of c.args.key.now (bytes_in (keys_mark a.size) c.look.new.into))) c.look.new.into) shown in
    record {
      run = child_read a (state c.args.tx.now) (state c.mark.new.tx) c.look.new.into (g.met.T.TxBlocks.limits c.mark.new.tx).count c.args.block c.in_default.ensures.bytes c.args.key.now c.args.level access node.passes c.child.result c.count.result shown same (c.count.ensures.value ∙ ap count_of node.keys_are);
      inside = record { some = omega (arith, below.some, same); below = omega (arith, below.below, same) };
      reads = ok_marked (g.T.TxBlocks.state c.args.tx.now) (g.T.TxBlocks.state c.look.new.tx) (g.T.TxBlocks.state c.mark.new.tx) _ _ (g.T.TxBlocks.device c.args.tx.now) (g.T.TxBlocks.device c.look.new.tx) (g.T.TxBlocks.device c.mark.new.tx)
          c.in_default.ensures.read c.mark.ensures.marked refl c.in_default.ensures.later c.in_default.ensures.passed c.mark.ensures.device (c.child.result, c.count.result) c.in_default.ensures.is_open;
    }

pub returns-in-Err : goal.returns-in-Err
returns-in-Err g c = record { run = grind (arith, cut_first) steps 100000; inside = tt; reads = refused_read _ _ _ _ _ c.in-Err.ensures.kept c.in-Err.ensures.cause c.in-Err.ensures.later }
