use Rattle.std.proofs.Common.{◌≡◌, ◌∙◌, ◌==◌, ◌∷◌, ℕ, List, Some, ap, find, map, option_map, refl, subst, sym}
use Rattle.iso_model.specs.World.{Live, floor_of, least_begin}
use Rattle.tx_table.specs.Work.{Doing}
use Rattle.device_desk.specs.{declared.seat.Seat.Seat, Seats.live_of}

pub returns : Rattle.device_desk.proofs.about.first_begun.Goals.returns
returns c n =
    let first = c.in-Some.first.now in
    let others : List Live = map live_of c.in-Some.others.now in
    let begin : c.begun_at.result ≡ (live_of first).begin = c.begun_at.ensures ∙ ap (λ (w : Doing). w.begin) c.deref.ensures in
    subst (λ (l : List Seat). Some c.least_begun.result ≡ option_map (λ t. t.number) (find (λ t. t.begin == floor_of n (map live_of l)) (map live_of l))) (sym c.in-Some.ensures.cases.0)
    (subst (λ (m : ℕ). Some c.least_begun.result ≡ option_map (λ t. t.number) (find (λ t. t.begin == least_begin m others) (live_of first ∷ others))) begin
    (sym (c.least_begun.ensures (live_of first) refl (sym begin))))
