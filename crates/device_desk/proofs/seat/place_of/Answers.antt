use Rattle.iso_machine.proofs.Words.{◌∙◌, ap, get_or_default}
use Rattle.device_desk.specs.declared.seat.Seat.{Seat}
use Rattle.device_desk.proofs.Lists.{found_at}

pub returns-then-live-place : Rattle.device_desk.proofs.seat.place_of.Goals.returns-then-live-place
returns-then-live-place c = (
  c.if-place-live.true,
  λ d. found_at c.args.number c.args.live.now c.place_of_number-place.result d c.requires c.if-place-live.true
      (ap (λ (a : Seat). a.tx) (get_or_default c.args.live.now c.place_of_number-place.result d _ c.if-place-live.true) ∙ c.if-live-place.true),
)
