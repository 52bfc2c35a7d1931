use Rattle.iso_machine.proofs.{Words.{◌≡◌, ◌+◌, ◌∙◌, IfSome, ap, false, get_or, get_or_default, subst, sym, true, Doing}, Lists.all_at}
use Rattle.std.proofs.Math.Seq.{map-set_same}
use Rattle.iso_model.specs.Effect.{record_length, runs}
use Rattle.device_desk.specs.{declared.seat.Seat.Seat, Lent.doing_of, Seats.IsSized}
use Rattle.device_desk.proofs.need.left_at.Goals as goal

pub returns-in-Err-clause-live : goal.returns-in-Err-clause-live
returns-in-Err-clause-live c =
    let a : Seat = get_or c.args.live.now c.args.i c.index-live-i.result in
    let same = ap (λ (w : Doing). record w { settled = false }) (c.in-Err.ensures.err) ∙ ap (λ (w : Doing). record w { settled = false }) c.deref_mut.ensures.value in
    map-set_same doing_of c.args.live.now c.args.i _ c.index-live-i.result (λ j. (a.tx, same j))

pub returns-clause-live : goal.returns-clause-live
returns-clause-live c =
    let a : Seat = get_or c.args.live.now c.args.i c.index-live-i.result in
    let same = ap (λ (w : Doing). record w { settled = false }) (c.in_default.ensures.ok) ∙ ap (λ (w : Doing). record w { settled = false }) c.deref_mut.ensures.value in
    map-set_same doing_of c.args.live.now c.args.i _ c.index-live-i.result (λ j. (a.tx, same j))

pub returns-clause-left : goal.returns-clause-left
returns-clause-left c g d sized =
    let is = all_at (IsSized g) c.args.live.now c.args.i d sized c.requires in
    let work : c.deref.result.now ≡ record (get_or c.args.live.now c.args.i d).work.value { settled = true } =
    c.deref.ensures ∙ c.in_default.ensures.ok
    ∙ ap (λ (w : Doing). record w { settled = true }) (c.deref_mut.ensures.value ∙ ap (λ (a : Seat). a.work.value) (get_or_default c.args.live.now c.args.i c.index-live-i.result d c.requires)) in
    subst (λ (w : Doing). g.block ≡ w.size → g.blocks ≡ w.blocks → IfSome c.left_by.result (λ left. left + record_length (runs g w.accesses) ≡ c.args.room)) work (c.left_by.ensures g) (sym is.size) (sym is.blocks)
