use Rattle.iso_tree.proofs.{Words.{◌∙◌, sym, ap, is_node}, Facts.node_parts}

pub invariant_of-result : Rattle.iso_tree.proofs.node.NodeView.of.Goals.invariant_of-result
invariant_of-result c =
    let is = ap (is_node (Rattle.std.proofs.Common.length c.args.block.now) c.args.level) (sym c.keys_of.ensures.value) ∙ sym c.is_node.ensures ∙ c.if-not-is_node.false in
    let parts = node_parts _ _ _ is in
    (c.requires.least, (c.requires.most, (parts.parts, (parts.few, tt))))
