use Rattle.committer.proofs.Words.{Option, Shared, subst}
use Rattle.std.specs.Prelude.{IfSome}
use Rattle.committer.specs.Outcomes.{IsOutcome}
use Rattle.committer.proofs.ends.take_outcome.Goals as goal

pub returns-in-Some-clause-some : goal.returns-in-Some-clause-some
returns-in-Some-clause-some g c = (
  c.in-Some.ensures.some.0,
  λ t was. subst (λ (o : Option (Shared _ _)). IfSome o (λ d. IsOutcome d g.O.Origin.start t c.in-Some.outcome)) c.requires.device (c.in-Some.ensures.some.1 t was),
)
