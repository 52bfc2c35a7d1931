use Rattle.committer.proofs.{DeskWords.{Message, Me, Request, Side, ap, rest, rules, ◌∙◌, ◌∷◌}, Keeps.puts}
use Rattle.committer.proofs.desk.Desk.request.Goals as goal

pub store-requires : goal.store-requires
store-requires g c = (
  c.exchange.ensures.0 ∙ c.requires.client.0,
  search rules,
  puts g.P.Protocol.allows g.P.Protocol.answers _ _ _ c.args.request c.requires.allowed
      (c.exchange.ensures.3 ∙ ap (λ (m : Me (Message _ _) (Side _)). (m.0, (0, Request c.args.request) ∷ rest m.1)) c.requires.client.1),
)

pub returns : goal.returns
returns g c = (
  c.store.ensures.0 ∙ c.exchange.ensures.0 ∙ c.requires.client.0,
  c.store.ensures.2 c.args.request (c.exchange.ensures.3 ∙ ap (λ (m : Me (Message _ _) (Side _)). (m.0, (0, Request c.args.request) ∷ rest m.1)) c.requires.client.1),
)
