use Rattle.iso_machine.proofs.{Words.{◌∙◌, sym, ap, get_or_default, Attached, place_of, is_under_label}, Whereabouts.{label_lone, found_there, nobody_there}}

pub returns-in_default : Rattle.iso_machine.proofs.attached.index_under_label.Goals.returns-in_default
returns-in_default c = nobody_there (is_under_label c.args.label.now) c.args.live.now (c.requires.nobody c.in_default.is)

pub returns-then-is_under_label : Rattle.iso_machine.proofs.attached.index_under_label.Goals.returns-then-is_under_label
returns-then-is_under_label c = (
  c.if-place-live.true,
  λ d. found_there (is_under_label c.args.label.now) (label_lone c.args.label.now) c.args.live.now c.place_of_number-place.result d c.requires.distinct
      c.if-place-live.true (ap (λ (a : Attached). is_under_label c.args.label.now (place_of a.spot)) (get_or_default c.args.live.now c.place_of_number-place.result d _ c.if-place-live.true) ∙ sym c.is_under_label.ensures ∙ c.if-is_under_label.true),
)
