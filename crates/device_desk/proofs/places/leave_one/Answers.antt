use Rattle.iso_machine.proofs.Words.{◌≡◌, ◌<◌, ◌∙◌, List, Live, Option, Some, ap, AreDistinct, get_or, length, map, subst, sym, without_found}
use Rattle.device_desk.specs.{declared.seat.Seat.Seat, Numbers.of_number, Seats.live_of}
use Rattle.device_desk.proofs.{Lists.without_at, Members.without_distinct}
use Rattle.device_desk.proofs.places.leave_one.Goals as goal

pub returns-clause-live : goal.returns-clause-live
returns-clause-live c =
    let live = c.args.live.now.items in
    let d : Seat = c.remove-gone.result in
    let i = c.in-Some.i in
    let same = c.deref.ensures.value in
    let inside = subst (λ (l : List Seat). i < length l) same c.in-Some.ensures.0 in
    let found : of_number c.args.number (map live_of live) ≡ Some (live_of (get_or live i d)) =
    subst (λ (l : List Seat). of_number c.args.number (map live_of l) ≡ Some (live_of (get_or l i d))) same (c.in-Some.ensures.1 d) in
    ap (λ (l : List Seat). map live_of l) c.remove-gone.ensures.items ∙ sym (without_at live i d c.requires inside) ∙ ap (λ (o : Option Live). without_found (map live_of live) o) (sym found)

pub returns-clause-distinct : goal.returns-clause-distinct
returns-clause-distinct c =
    let live = c.args.live.now.items in
    let d : Seat = c.remove-gone.result in
    let i = c.in-Some.i in
    let same = c.deref.ensures.value in
    let inside = subst (λ (l : List Seat). i < length l) same c.in-Some.ensures.0 in
    let found : of_number c.args.number (map live_of live) ≡ Some (live_of (get_or live i d)) =
    subst (λ (l : List Seat). of_number c.args.number (map live_of l) ≡ Some (live_of (get_or l i d))) same (c.in-Some.ensures.1 d) in
    let left = ap (λ (l : List Seat). map live_of l) c.remove-gone.ensures.items ∙ sym (without_at live i d c.requires inside) ∙ ap (λ (o : Option Live). without_found (map live_of live) o) (sym found) in
    subst (λ (l : List Live). AreDistinct l) (sym left) (without_distinct (map live_of live) (of_number c.args.number (map live_of live)) c.requires)
