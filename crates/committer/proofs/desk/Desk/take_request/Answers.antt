use Rattle.committer.proofs.{DeskWords.{Request, Serving, rules, ◌∙◌}, Keeps.{has_slot, sees}}
use Rattle.committer.proofs.desk.Desk.take_request.Goals as goal

pub load-requires : goal.load-requires
load-requires g c = (c.requires.desk, search rules, sees g.P.Protocol.allows g.P.Protocol.answers _ _ _ c.requires.idle)

pub exchange-requires : goal.exchange-requires
exchange-requires g c =
    let took = (c.load.ensures.2 c.requires.idle).0 c.if-load-ne-REQUESTED.false in
    (c.load.ensures.0 ∙ c.requires.desk, (Request took.0, has_slot c.load.new.seat.me (Serving took.0) (Request took.0) took.2))
