use Rattle.committer.proofs.DeskWords.{sym, ◌∙◌}
use Rattle.committer.proofs.desk.Desk.response.Goals as goal

pub loop-preserved : goal.loop-preserved
loop-preserved g c = (
  c.in_default.ensures.client ∙ sym c.requires.client,
  c.in_default.ensures.none c.requires.request.0 (c.loop.invariant.1 ∙ c.requires.request.1) ∙ sym c.requires.request.1,
)
