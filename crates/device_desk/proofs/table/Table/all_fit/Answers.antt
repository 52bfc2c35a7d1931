use Rattle.iso_machine.proofs.Words.{◌<◌, ◌∙◌, AllByRecursion, Geometry, List, Stat, ap, length, map, refl, subst, sym, up}
use Rattle.device_desk.specs.{declared.seat.Seat.Seat, Seats.{IsSized, live_of}}
use Rattle.device_desk.proofs.{Gathered.all_have_room, Lendings.on_true}

pub returns-clause-fit : Rattle.device_desk.proofs.table.Table.all_fit.Goals.returns-clause-fit
returns-clause-fit g c W of =
    let live = c.deref_mut.result.now in
    let value = c.deref_mut.ensures.value in
    let stat = c.stat-stat.ensures W up of.core_of in
    let geometry = c.geometry-geometry.ensures W up of.core_of in
    on_true c.have_room.result (λ fits.
    all_have_room W live c.args.places.now c.in-Some.room c.stat-stat.result.last c.stat-stat.result.used c.geometry-geometry.result.log (length c.args.places.now) (ap (λ (l : List Seat). map live_of l) value ∙ of.live_are)
    (subst (λ (l : List Seat). AllByRecursion (λ i. i < length l) c.args.places.now) (sym value) c.requires.places) fits c.in-Some.ensures
    (ap (λ (s : Stat). s.last) stat) (ap (λ (s : Stat). s.used) stat) (ap (λ (h : Geometry). h.log) geometry) refl)
    (c.have_room.ensures.room W.geometry (subst (λ (l : List Seat). AllByRecursion (IsSized W.geometry) l) (sym value) of.sized))
