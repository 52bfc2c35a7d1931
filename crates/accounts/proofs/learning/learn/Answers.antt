use Rattle.accounts.proofs.{Words.subst, Knowing.all_ended}
use Rattle.accounts.specs.Learned.{AreTold}
use Rattle.accounts.proofs.learning.learn.Goals as goal

pub learn_all-members-requires-clause-told : goal.learn_all-members-requires-clause-told
learn_all-members-requires-clause-told g c =
    all_ended c.args.shared.now g.O.Origin.start c.requires.told.0 c.in-Ok.told.items (subst (AreTold c.args.shared.now g.O.Origin.start c.requires.told.0) c.in-Ok.is c.requires.told.1)
