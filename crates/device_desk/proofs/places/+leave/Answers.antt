use Rattle.iso_machine.proofs.Words.{◌∙◌, ℕ, List, Live, ap, map, sym}
use Rattle.device_desk.specs.{Numbers.left_of, Seats.live_of}
use Rattle.device_desk.proofs.Fitting.{last_leaves, placed_all}

pub returns-clause-live : Rattle.device_desk.proofs.places.+leave.Goals.returns-clause-live
returns-clause-live t c =
    let live = map live_of c.args.live.now.items in
    c.leave.ensures.live ∙ ap (left_of c.in-Some.others.now) c.leave_one.ensures.live ∙ sym (last_leaves c.in-Some.others.now c.in-Some.last.now live (placed_all c.args.live.now.items))
    ∙ ap (λ (l : List ℕ). left_of l live) (sym c.in-Some.ensures.cases.0)

pub returns-clause-sized : Rattle.device_desk.proofs.places.+leave.Goals.returns-clause-sized
returns-clause-sized t c g sized = c.leave.ensures.sized g (c.leave_one.ensures.sized g sized)
