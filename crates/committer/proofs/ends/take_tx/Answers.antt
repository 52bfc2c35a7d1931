use Rattle.committer.proofs.Words.{Option, Shared, subst}
use Rattle.std.specs.Prelude.{IfSome}
use Rattle.committer.specs.Outcomes.{MayEnd}
use Rattle.committer.proofs.ends.take_tx.Goals as goal

pub returns-in-Some : goal.returns-in-Some
returns-in-Some g c = (c.in-Some.ensures.0, subst (λ (o : Option (Shared _ _)). IfSome o (λ d. MayEnd d g.O.Origin.start c.in-Some.tx)) c.requires.device c.in-Some.ensures.1)
