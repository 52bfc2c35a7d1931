use Rattle.iso_shared.proofs.{Words.{arith, clock_of, moments, view, [], ◌∷◌, ◌++◌, ◌≡◌, ℕ, Ok, Err, ◌<◌, ap, refl, rules, subst, sym, ◌∙◌, IsErr, bytes_eq, lookup, prefix_trans, Doing, Entry, Posted, IsAhead, IsOwn, state_at, times, IsOn, StandsAt, post_entry}, Giving.lends, Mades.{ahead_on, both_by, held_same, made_by, one_more, own_on, units_by}, Racked.{free_by, none_by, post_holds, stands_post, stands_unposted, taken_by}}
use Rattle.std.proofs.lemmas.Grind.{common_steps}

settled_same : (old new : Doing) → new ≡ old → new ≡ record old { settled = new.settled }
settled_same old new is = subst (λ (w : Doing). w ≡ record old { settled = w.settled }) (sym is) refl

pub give-requires : Rattle.iso_shared.proofs.shared.Shared.post.Goals.give-requires
give-requires g c = record {
  lock = search rules;
  turn = search rules;
  value = (
      let A = g.O.Origin.start in
      let es = (view c.take-turn.new.pass).seen in
      let tx = c.tell_tx.new.tx in
      let p : Posted = record { number = tx.number; work = tx.work } in
      let entry_is : post_entry c.of-name.result.value c.of-item.result.value (Ok tt) ≡ post_entry c.args.label p (Ok tt) = λ i. post_entry (c.of-name.ensures i) (c.of-item.ensures i) (Ok tt) in
      let kept = c.value-guarded.result.now.rack in
      subst (λ (e : Entry). StandsAt g.D.Disk.state A g.O.Origin.disk c.value-guarded.result.now.core c.post.new.self (es ++ e ∷ []) (moments c.take-turn.new.pass ++ clock_of g.D.Disk.state c.value-guarded.result.now.core ∷ [])) (sym entry_is)
      (stands_post (lends c.take-turn.ensures c.value-guarded.ensures.value) _ c.args.label p
      (held_same tx.number _ _ c.take-turn.ensures.same.1 c.tell_tx.ensures.tx.1.held)
      (own_on A _ es tx.number tx.work c.take-turn.ensures.seen c.tell_tx.ensures.tx.1.own)
      (none_by (lookup (bytes_eq c.args.label) kept) (λ is. (let no_error = subst (λ r. IsErr r) c.in-Ok.is (c.post.ensures.held is) in absurd (cc no_error))))
      c.in-Ok.ensures.ok));
  held = first_of (search rules, grind (arith, common_steps));
}

pub give-requires-in-Err : Rattle.iso_shared.proofs.shared.Shared.post.Goals.give-requires-in-Err
give-requires-in-Err g c = record {
  lock = search rules;
  turn = search rules;
  value = (
      let d = g.D.Disk.state in
      let A = g.O.Origin.start in
      let tx = c.tell_tx.new.tx in
      let p : Posted = record { number = tx.number; work = tx.work } in
      let e = c.in-Err.error in
      let entry_is : post_entry c.of-name.result.value c.of-item.result.value (Err e) ≡ post_entry c.args.label p (Err e) = λ i. post_entry (c.of-name.ensures i) (c.of-item.ensures i) (Err e) in
      let kept = c.value-guarded.result.now.rack in
      subst (λ (x : Entry). StandsAt d A g.O.Origin.disk c.value-guarded.result.now.core c.post.new.self ((view c.take-turn.new.pass).seen ++ x ∷ []) (moments c.take-turn.new.pass ++ clock_of d c.value-guarded.result.now.core ∷ [])) (sym entry_is)
      (stands_unposted (lends c.take-turn.ensures c.value-guarded.ensures.value) _ c.args.label p e
      (held_same tx.number _ _ c.take-turn.ensures.same.1 c.tell_tx.ensures.tx.1.held)
      c.in-Err.ensures.err.0
      (taken_by (lookup (bytes_eq c.args.label) kept) e c.in-Err.ensures.free)
      (free_by (lookup (bytes_eq c.args.label) kept) e c.in-Err.ensures.taken)));
  held = first_of (search rules, grind (arith, common_steps));
}

pub returns-in-Ok-clause-ok : Rattle.iso_shared.proofs.shared.Shared.post.Goals.returns-in-Ok-clause-ok
returns-in-Ok-clause-ok g c =
    let A = g.O.Origin.start in
    let es = (view c.take-turn.new.pass).seen in
    let same = c.tell_tx.ensures.same in
    let entry_is : post_entry c.of-name.result.value c.of-item.result.value (Ok tt) ≡ post_entry c.args.label (record { number = c.args.tx.number; work = c.args.tx.work }) (Ok tt) =
    λ i. post_entry (c.of-name.ensures i) ((c.of-item.ensures ∙ (λ j. record { number = same.0.number j; work = same.1 j })) i) (Ok tt) in (
      both_by A (view c.args.port.now.pass) (view c.tell_tx.new.port.pass) (view c.args.tx.pass) (view c.take-turn.new.pass) (view c.give.new.pass) (view c.take_back.new.port.pass) _
          c.tell_tx.ensures.port.1
          (prefix_trans _ _ _ c.tell_tx.ensures.told c.take-turn.ensures.seen)
          (prefix_trans _ _ _ c.tell_tx.ensures.begins c.take-turn.ensures.seen)
          (c.take-turn.ensures.same.0 ∙ same.2.0)
          (c.give.ensures.seen ∙ ap (λ (e : Entry). es ++ e ∷ []) entry_is) c.give.ensures.mine c.give.ensures.legal c.take_back.ensures.seen c.take_back.ensures.places,
      units_by (view c.tell_tx.new.port.pass) (view c.args.port.now.pass) (view c.args.tx.pass) (view c.give.new.pass) (view c.take_back.new.port.pass) c.tell_tx.ensures.port.1 (c.give.ensures.units ∙ c.take-turn.ensures.same.2 ∙ same.2.2) c.take_back.ensures.units,
    )

pub returns-in-Err-clause-err : Rattle.iso_shared.proofs.shared.Shared.post.Goals.returns-in-Err-clause-err
returns-in-Err-clause-err g c =
    let A = g.O.Origin.start in
    let same = c.tell_tx.ensures.same in
    let tx = c.tell_tx.new.tx in
    let back : c.in-Err.field-0-1 ≡ record { number = tx.number; work = tx.work } = c.in-Err.ensures.err.1 in
    let number = ap (λ (v : Posted). v.number) back in
    let work = ap (λ (v : Posted). v.work) back in
    let e = c.in-Err.error in
    let w = (view c.give-in-Err.new.pass) in
    let entry_is : post_entry c.of-name.result.value c.of-item.result.value (Err e) ≡ post_entry c.args.label (record { number = c.args.tx.number; work = c.args.tx.work }) (Err e) =
    λ i. post_entry (c.of-name.ensures i) ((c.of-item.ensures ∙ (λ j. record { number = same.0.number j; work = same.1 j })) i) (Err e) in
    let begins = one_more (view tx.pass) (view c.take-turn.new.pass) w _ c.take-turn.ensures.seen c.give-in-Err.ensures.seen in
    let held = held_same tx.number _ _ (c.give-in-Err.ensures.holds ∙ post_holds c.of-name.result.value c.of-item.result.value e _ ∙ c.take-turn.ensures.same.1) c.tell_tx.ensures.tx.1.held in
    let own = own_on A _ w.seen tx.number tx.work begins c.tell_tx.ensures.tx.1.own in
    let ahead = ahead_on A _ w.seen tx.work tx.checked begins c.tell_tx.ensures.tx.1.ahead in (
      (
        search rules,
        record {
          held = subst (λ (k : ℕ). 0 < times k w.holds) (sym number) held;
          on = subst (λ (v : Posted). IsOn A.world.geometry v.work) (sym back) c.tell_tx.ensures.tx.1.on;
          own = subst (λ (v : Posted). IsOwn (state_at A w.seen) v.number v.work) (sym back) own;
          ahead = subst (λ (v : Posted). IsAhead (state_at A w.seen) v.work tx.checked) (sym back) ahead;
        },
      ),
      record {
        number = number ∙ same.0.number;
        work = settled_same c.args.tx.work _ (work ∙ same.1);
        checked = same.0.checked;
      },
      c.give-in-Err.ensures.units ∙ c.take-turn.ensures.same.2 ∙ same.2.2,
      c.tell_tx.ensures.port.1,
      made_by A (view c.args.port.now.pass) (view c.args.tx.pass) (view c.take-turn.new.pass) w _
          (prefix_trans _ _ _ c.tell_tx.ensures.told c.take-turn.ensures.seen)
          (prefix_trans _ _ _ c.tell_tx.ensures.begins c.take-turn.ensures.seen)
          (c.take-turn.ensures.same.0 ∙ same.2.0)
          (c.give-in-Err.ensures.seen ∙ ap (λ (x : Entry). (view c.take-turn.new.pass).seen ++ x ∷ []) entry_is) c.give-in-Err.ensures.mine c.give-in-Err.ensures.legal,
    )
