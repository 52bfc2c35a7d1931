use Rattle.iso_tree.proofs.{Words.{◌∙◌, ap, ℕ, List, set}, Building.empty_is}

pub returns : Rattle.iso_tree.proofs.build.empty_node.Goals.returns
returns c = ap (λ (l : List ℕ). set (set l 0 1) 1 c.args.level) c.clear.ensures ∙ empty_is _ c.args.level c.requires.block
