use Rattle.iso_tree.proofs.{Words.{looked_as, ◌≡◌, ◌∙◌, sym, refl, ap, ◌+◌, [], ◌∷◌, Some, arith, keys_mark, value_mark, bytes_in, look_access, with_accesses, may_mark, marked_access, cell_of, cut_first}, Facts.{missing, cell_used, node_parts, nothing_is}, Looking.{IsNodeOf, bytes_after, node_of, not_node, leaf_not_node, leaf_plain, leaf_missing, leaf_found, ok_marked}, descent.read_leaf.Goals.In-Some}
use Rattle.iso_tree.proofs.descent.read_leaf.Goals as goal

-- the leaf that the view shows
node_at : (g : Rattle.iso_tree.proofs.descent.read_leaf.Given.Over) (c : In-Some g) → IsNodeOf c.args.area 0 c.look.new.into c.in-Some.node
node_at g c = node_of c.args.area 0 c.look.new.into c.in-Some.node c.region_of.result (c.look.auto.into ∙ c.requires.block.long) c.in-Some.ensures.value c.region_of.ensures (c.in-Some.ensures.some.0 refl)

pub returns-in_default-of-clause-run : goal.returns-in_default-of-clause-run
returns-in_default-of-clause-run g c = grind (arith, looked_as, leaf_not_node, not_node, nothing_is)

pub returns-then-not-with_value-clause-run : goal.returns-then-not-with_value-clause-run
returns-then-not-with_value-clause-run g c =
    let state = g.T.TxBlocks.state in
    let node = node_at g (goal.at.returns-then-not-with_value-clause-run g c).In-Some in
    let access = looked_as (state c.args.tx.now) (state c.look.new.tx) (c.args.area.start + c.args.block) _ _ c.in_default.ensures.read c.keys_mark.ensures in
    leaf_plain c.args.area (state c.args.tx.now) (state c.look.new.tx) c.look.new.into (g.met.T.TxBlocks.limits c.look.new.tx).count c.args.block c.in_default.ensures.bytes c.args.key.now c.args.with_value c.if-not-with_value.true access node.passes

pub returns-in_default-cell-clause-run : goal.returns-in_default-cell-clause-run
returns-in_default-cell-clause-run g c =
    let state = g.T.TxBlocks.state in
    let a = c.args.area in
    let node = node_at g (goal.at.returns-in_default-cell-clause-run g c).In-Some in
    let access = looked_as (state c.args.tx.now) (state c.look.new.tx) (a.start + c.args.block) _ _ c.in_default.ensures.read c.keys_mark.ensures in
    let none = ap (cell_of c.args.key.now) (sym node.keys_are) ∙ sym c.cell.ensures.value ∙ missing c.cell.result c.in_default-cell.not-Some in
    leaf_missing a (state c.args.tx.now) (state c.look.new.tx) c.look.new.into (g.met.T.TxBlocks.limits c.look.new.tx).count c.args.block c.in_default.ensures.bytes c.args.key.now c.args.with_value c.if-not-with_value.false none access node.passes

pub mark-requires : goal.mark-requires
mark-requires g c = grind (arith, node_at, node_parts, cell_used, may_mark)

pub returns-clause-run : goal.returns-clause-run
returns-clause-run g c =
    let state = g.T.TxBlocks.state in
    let a = c.args.area in
    let node = node_at g (goal.at.returns-clause-run g c).In-Some in
    let some : cell_of c.args.key.now (bytes_in (keys_mark a.size) c.look.new.into) ≡ Some c.in-Some-cell.cell =
    ap (cell_of c.args.key.now) (sym node.keys_are) ∙ sym c.cell.ensures.value ∙ c.in-Some-cell.is in
    let access : state c.mark.new.tx ≡ with_accesses (state c.args.tx.now) (look_access (a.start + c.args.block) (keys_mark a.size ∷ value_mark a.size c.in-Some-cell.cell ∷ []) ∷ []) =
    marked_access (state c.args.tx.now) (state c.look.new.tx) (state c.mark.new.tx) _ _ c.in_default.ensures.read c.mark.ensures.marked
    ∙ (λ i. with_accesses (state c.args.tx.now) (look_access (a.start + c.args.block) (c.keys_mark.ensures i ∷ c.value_mark.ensures i ∷ []) ∷ [])) in
    leaf_found a (state c.args.tx.now) (state c.mark.new.tx) c.look.new.into (g.met.T.TxBlocks.limits c.mark.new.tx).count c.args.block c.in_default.ensures.bytes c.args.key.now c.args.with_value c.in-Some-cell.cell c.if-not-with_value.false some access node.passes

pub returns-clause-reads : goal.returns-clause-reads
returns-clause-reads g c =
    ok_marked (g.T.TxBlocks.state c.args.tx.now) (g.T.TxBlocks.state c.look.new.tx) (g.T.TxBlocks.state c.mark.new.tx) _ _ (g.T.TxBlocks.device c.args.tx.now) (g.T.TxBlocks.device c.look.new.tx) (g.T.TxBlocks.device c.mark.new.tx)
    c.in_default.ensures.read c.mark.ensures.marked refl c.in_default.ensures.later c.in_default.ensures.passed c.mark.ensures.device (record { block = c.args.block; cell = c.cell.result; count = c.count.result }) c.in_default.ensures.is_open

pub returns-then-not-with_value-clause-bytes : goal.returns-then-not-with_value-clause-bytes
returns-then-not-with_value-clause-bytes g c =
    bytes_after (g.T.TxBlocks.state c.args.tx.now) (g.T.TxBlocks.state c.look.new.tx) _ (c.args.area.start + c.args.block) c.look.new.into c.in_default.ensures.bytes c.in_default.ensures.read refl

pub returns-in_default-cell-clause-bytes : goal.returns-in_default-cell-clause-bytes
returns-in_default-cell-clause-bytes g c =
    bytes_after (g.T.TxBlocks.state c.args.tx.now) (g.T.TxBlocks.state c.look.new.tx) _ (c.args.area.start + c.args.block) c.look.new.into c.in_default.ensures.bytes c.in_default.ensures.read refl

pub returns-clause-bytes : goal.returns-clause-bytes
returns-clause-bytes g c =
    let state = g.T.TxBlocks.state in
    bytes_after (state c.args.tx.now) (state c.mark.new.tx) _ (c.args.area.start + c.args.block) c.look.new.into c.in_default.ensures.bytes
    (marked_access (state c.args.tx.now) (state c.look.new.tx) (state c.mark.new.tx) _ _ c.in_default.ensures.read c.mark.ensures.marked) refl

pub returns-in-Err-clause-run : goal.returns-in-Err-clause-run
returns-in-Err-clause-run g c = grind (arith, cut_first) steps 100000
