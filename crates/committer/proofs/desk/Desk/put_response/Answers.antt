use Rattle.committer.proofs.{DeskWords.{Message, Me, Response, Side, ap, rest, rules, ◌∙◌, ◌∷◌}, Keeps.responds}
use Rattle.committer.proofs.desk.Desk.put_response.Goals as goal

pub store-requires : goal.store-requires
store-requires g c = (
  c.exchange.ensures.0 ∙ c.requires.desk,
  search rules,
  responds g.P.Protocol.allows g.P.Protocol.answers _ _ _ c.requires.answers.0 c.args.response
      (c.exchange.ensures.3 ∙ ap (λ (m : Me (Message _ _) (Side _)). (m.0, (0, Response c.args.response) ∷ rest m.1)) c.requires.answers.1) c.requires.answers.2,
)
