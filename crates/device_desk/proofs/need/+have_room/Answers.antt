use Rattle.iso_machine.proofs.Words.{◌<◌, AllByRecursion, ap, arith, length, List, subst, ℕ}
use Rattle.device_desk.specs.{declared.seat.Seat.Seat, Lent.items_at, Waiting.needs}
use Rattle.iso_model.specs.World.{Live}
use Rattle.device_desk.proofs.Lendings.{needs_first, on_true, pick, same_live, same_sized}

pub returns-clause-room : Rattle.device_desk.proofs.need.+have_room.Goals.returns-clause-room
returns-clause-room t c g sized =
    let live = c.args.live.now in
    let i : ℕ = c.in-Some.first.now in
    let cases = c.in-Some.ensures.cases in
    let within = subst (λ (l : List ℕ). AllByRecursion (λ j. j < length live) l) cases.0 c.requires in
    let d : Seat = pick live i within.0 in
    let first = needs_first g live i d c.args.places.now c.in-Some.others.now cases.0 within.0 in
    let left = c.in-Some-left_at.ensures.left g d sized in
    let same = ap (λ (l : List Live). needs g (items_at c.in-Some.others.now l)) (same_live c.left_at.new.live live c.left_at.ensures.live) in
    on_true c.have_room.result (λ fits. omega (arith, first, left, same, fits)) (c.have_room.ensures.room g (same_sized g c.left_at.new.live live c.left_at.ensures.live sized))
