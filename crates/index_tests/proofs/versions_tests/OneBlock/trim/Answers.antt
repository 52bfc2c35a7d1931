-- What is left is not above the last number.
use Rattle.std.proofs.Common.{◌∙◌, sym, subst}
use Rattle.mv_index.{specs.Versions.{AreAtMost, versions_in}, proofs.Sublists.most_shown}

pub invariant_of-self : Rattle.index_tests.proofs.versions_tests.OneBlock.trim.Goals.invariant_of-self
invariant_of-self c = record {
  blocks = c.trim_to.ensures.blocks ∙ c.args.self.now.blocks;
  most = subst (AreAtMost c.args.self.now.last) (sym (c.trim_to.ensures.kept 0)) (most_shown c.args.number c.args.self.now.last (versions_in c.args.self.now.index 0) c.args.self.now.most);
}
