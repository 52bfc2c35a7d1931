use Rattle.iso_machine.proofs.Words.{◌∙◌, ◌++◌, ◌∷◌, [], List, ap, append_assoc, map, subst, sym, ℕ, get_or}
use Rattle.device_desk.specs.{Lent.StandAt, Seats.live_of}
use Rattle.device_desk.proofs.{Fitting.{found_number, placed_all}, Lendings.on_true}

pub returns : Rattle.device_desk.proofs.places.+find_places.Goals.returns
returns t c =
    let live = c.args.live.now in
    let i : ℕ = c.in-Some-place_of.i in
    let cases = c.in-Some.ensures.cases in
    on_true c.find_places.result (λ found. (
      i ∷ found.0,
      found.1 ∙ ap (λ (l : List ℕ). l ++ found.0) c.in_default-push.ensures.items ∙ append_assoc c.args.places.now.items (i ∷ []) found.0,
      subst (λ (l : List ℕ). StandAt live l (i ∷ found.0)) (sym cases.0) (
        c.in-Some-place_of.ensures.0,
        (λ d. found_number c.in-Some.first.now (map live_of live) (live_of (get_or live i d)) (placed_all live) (c.in-Some-place_of.ensures.1 d)),
        c.if-not-is_other.ensures,
        found.2,
      ),
    )) c.find_places.ensures
