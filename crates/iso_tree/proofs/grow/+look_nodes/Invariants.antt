use Rattle.iso_tree.proofs.Words.{length}

abbrev pub decreases-look_nodes : Rattle.iso_tree.proofs.grow.+look_nodes.Given.decreases-look_nodes
decreases-look_nodes g l = length l.path.now
