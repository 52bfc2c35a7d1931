use Rattle.std.proofs.{Common.{◌≡◌, ◌∙◌, ◌==◌, ◌∷◌, ℕ, List, Some, ap, arith, find, map, option_map, subst, sym}, lemmas.List.drop_all}
use Rattle.iso_model.specs.World.{Live, least_begin}
use Rattle.device_desk.specs.{declared.seat.Seat.Seat, Seats.live_of}
use Rattle.device_desk.proofs.Begins.{first_is, first_least}

pub returns : Rattle.device_desk.proofs.about.least_begun.Goals.returns
returns c t number begin =
    let live : List Live = map live_of c.args.live.now in
    let none = drop_all c.loop-seat.seat-index c.args.live.now (omega (arith, c.loop-seat-test.false)) in
    let first : first_least c.args.number c.args.begin live ≡ c.loop-seat.oldest =
    sym c.loop-seat.invariant ∙ ap (λ (l : List Seat). first_least c.loop-seat.oldest c.loop-seat.least (map live_of l)) none in
    subst (λ (n : ℕ). option_map (λ u. u.number) (find (λ u. u.begin == least_begin n live) (t ∷ live)) ≡ Some (first_least t.number n live)) begin (first_is t live)
    ∙ ap (λ (n : ℕ). Some (first_least n c.args.begin live)) number ∙ ap Some first
