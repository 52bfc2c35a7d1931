use Rattle.committer.proofs.Words.{Option, Shared, subst, sym}
use Rattle.std.specs.Prelude.{IfSome}
use Rattle.committer.specs.Outcomes.{MayEnd}
use Rattle.committer.proofs.ends.hand_in.Goals as goal

pub request-requires-clause-allowed : goal.request-requires-clause-allowed
request-requires-clause-allowed g c = subst (λ (o : Option (Shared _ _)). IfSome o (λ d. MayEnd d g.O.Origin.start c.args.tx)) (sym c.requires.device) c.requires.tx
