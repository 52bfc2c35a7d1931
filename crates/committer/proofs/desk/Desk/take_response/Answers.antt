use Rattle.committer.proofs.{DeskWords.{Empty, Response, Resting, rules, subst, ◌∙◌}, Keeps.{exchanged, got, has_slot, hears, same_response}}
use Rattle.committer.proofs.desk.Desk.take_response.Goals as goal

pub load-requires : goal.load-requires
load-requires g c = (c.requires.client, search rules, hears g.P.Protocol.allows g.P.Protocol.answers _ _ _ c.requires.request.0 c.requires.request.1)

pub returns-then-load-ne-RESPONDED-clause-none : goal.returns-then-load-ne-RESPONDED-clause-none
returns-then-load-ne-RESPONDED-clause-none g c = λ request was. (c.load.ensures.2 request was).1 c.if-load-ne-RESPONDED.true ∙ was

pub exchange-requires : goal.exchange-requires
exchange-requires g c =
    let took = (c.load.ensures.2 c.requires.request.0 c.requires.request.1).0 c.if-load-ne-RESPONDED.false in
    (c.load.ensures.0 ∙ c.requires.client, (Response took.0, has_slot c.load.new.seat.me Resting (Response took.0) took.2))

pub unreachable-requires : goal.unreachable-requires
unreachable-requires g c =
    let took = (c.load.ensures.2 c.requires.request.0 c.requires.request.1).0 c.if-load-ne-RESPONDED.false in
    c.in_default.not-Response took.0 (got c.load.new.seat.me Resting (Response took.0) c.exchange.result took.2 c.exchange.ensures.2)

pub returns-clause-some : goal.returns-clause-some
returns-clause-some g c =
    let took = (c.load.ensures.2 c.requires.request.0 c.requires.request.1).0 c.if-load-ne-RESPONDED.false in (
      exchanged c.load.new.seat.me c.exchange.new.seat.me Resting (Response took.0) Empty took.2 c.exchange.ensures.3,
      (λ request was.
          let mine = (c.load.ensures.2 request was).0 c.if-load-ne-RESPONDED.false in
          let same = same_response mine.0 c.in-Response.response c.exchange.result (got c.load.new.seat.me Resting (Response mine.0) c.exchange.result mine.2 c.exchange.ensures.2) c.in-Response.is in
          subst (g.P.Protocol.answers request) same mine.1),
    )
