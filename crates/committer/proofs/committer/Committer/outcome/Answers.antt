use Rattle.committer.proofs.Words.{sym, ◌∙◌}
use Rattle.committer.proofs.committer.Committer.outcome.Goals as goal

pub returns-in-Some-take_outcome-clause-outcome : goal.returns-in-Some-take_outcome-clause-outcome
returns-in-Some-take_outcome-clause-outcome g c = λ t was. c.in-Some-take_outcome.ensures.some.1 t (c.loop.invariant.1 ∙ was)

pub loop-preserved-then-comes_to_serve : goal.loop-preserved-then-comes_to_serve
loop-preserved-then-comes_to_serve g c = (
  c.in_default.ensures.client ∙ sym c.requires.client,
  c.in_default.ensures.none c.requires.request.0 (c.loop.invariant.1 ∙ c.requires.request.1) ∙ sym c.requires.request.1,
)

pub loop-preserved : goal.loop-preserved
loop-preserved g c = (
  c.in_default.ensures.client ∙ sym c.requires.client,
  c.in_default.ensures.none c.requires.request.0 (c.loop.invariant.1 ∙ c.requires.request.1) ∙ sym c.requires.request.1,
)
