use Rattle.iso_machine.proofs.{Words.{◌∙◌, sym, ap, get_or_default, Attached, place_of, is_at_client}, Whereabouts.{client_lone, found_there, nobody_there}}

pub returns-in_default : Rattle.iso_machine.proofs.attached.index_at_client.Goals.returns-in_default
returns-in_default c = nobody_there (is_at_client c.args.client) c.args.live.now (c.requires.nobody c.in_default.is)

pub returns-then-is_at_client : Rattle.iso_machine.proofs.attached.index_at_client.Goals.returns-then-is_at_client
returns-then-is_at_client c = (
  c.if-place-live.true,
  λ d. found_there (is_at_client c.args.client) (client_lone c.args.client) c.args.live.now c.place_of_number-place.result d c.requires.distinct
      c.if-place-live.true (ap (λ (a : Attached). is_at_client c.args.client (place_of a.spot)) (get_or_default c.args.live.now c.place_of_number-place.result d _ c.if-place-live.true) ∙ sym c.is_at_client.ensures ∙ c.if-is_at_client.true),
)
