use Rattle.committer.proofs.{DeskWords.{Me, Message, Side, ap, rules, some-injective, sym, ◌∙◌}, Keeps.{leaves, ends_full}}
use Rattle.committer.proofs.desk.Desk.close.Goals as goal

pub store-requires : goal.store-requires
store-requires g c = (c.requires.0, search rules, leaves g.P.Protocol.allows g.P.Protocol.answers _ _ _ c.requires.1)

pub unreachable-requires : goal.unreachable-requires
unreachable-requires g c =
    let has_left = ap (λ (m : Me (Message _ _) (Side _)). m.0) (c.store.ensures.2 c.requires.1) in
    let empty = ends_full g.P.Protocol.allows g.P.Protocol.answers _ _ _ _ has_left c.close_with-closed.ensures.values.2 in
    c.in_default.not-Empty (some-injective _ _ (sym c.take-message.ensures.value ∙ empty))
