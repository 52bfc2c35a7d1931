use Rattle.handle_pass.proofs.{Words.{ap, refl, subst, sym, ◌∙◌, ◌+◌, ◌≤◌, ℕ, Some, CoreError, view, prefix_self, most_steps, left_by, checked_of, own_in, own_of}, Entering.{left_kept, made_gone, made_kept, own_same}}

pub returns-in-Ok : Rattle.handle_pass.proofs.session.Session.end_tx.Goals.returns-in-Ok
returns-in-Ok g c =
    let A = g.O.Origin.start in
    let s = c.self.inside in
    let was = sym c.take.ensures.value ∙ c.in-Some.is in
    let m = c.in-Ok.ensures.ok.0 in rw (← c.self.view_is) (record {
      did = (
        own_in c.in-Some.tx,
        ap own_of was,
        ap own_of c.take.ensures.after,
        made_gone A s c.end.new.port c.take.new.self c.in-Some.tx _ c.self.invariant was c.take.ensures.after m c.in-Ok.ensures.ok.1,
        subst (λ (k : ℕ). c.end.new.steps ≤ c.args.steps.now + most_steps A m.before k) (sym (ap checked_of was)) (c.in-Ok.ensures.steps m.before _ m.seen),
      );
    })

pub returns-in-None : Rattle.handle_pass.proofs.session.Session.end_tx.Goals.returns-in-None
returns-in-None g c =
    let A = g.O.Origin.start in
    let s = c.self.inside in
    let was = sym c.take.ensures.value ∙ c.in-Some.is in
    let gone = rw c.in-None.is at c.in-Err.ensures.gone in
    let took = rw c.in-None.is at c.in-Err.ensures.steps in
    let m = gone.2.2 in rw (← c.self.view_is) (record {
      did = (
        own_in c.in-Some.tx,
        ap own_of was,
        ap own_of c.take.ensures.after ∙ sym (ap (λ (e : CoreError). left_by e (own_in c.in-Some.tx)) gone.0),
        gone.2.0,
        gone.2.1,
        made_gone A s c.end.new.port c.take.new.self c.in-Some.tx _ c.self.invariant was c.take.ensures.after m gone.1,
        subst (λ (k : ℕ). c.end.new.steps ≤ c.args.steps.now + most_steps A m.before k) (sym (ap checked_of was)) (took m.before _ m.seen),
      );
    })

pub returns-in-Some-back : Rattle.handle_pass.proofs.session.Session.end_tx.Goals.returns-in-Some-back
returns-in-Some-back g c =
    let A = g.O.Origin.start in
    let s = c.self.inside in
    let t = c.in-Some.tx in
    let was = sym c.take.ensures.value ∙ c.in-Some.is in
    let kept = rw c.in-Some-back.is at c.in-Err.ensures.kept in
    let took = rw c.in-Some-back.is at c.in-Err.ensures.steps in
    let m = kept.5.2 in
    let same = own_same c.in-Some-back.tx c.tell_port.new.tx c.tell_port.ensures.same.0 ∙ own_same t c.in-Some-back.tx kept.2 in rw (← c.self.view_is) (record {
      did = (
        own_in t,
        ap own_of was,
        ap own_of c.attach.ensures ∙ ap Some same ∙ sym (left_kept c.in-Err.error (own_in t) kept.0),
        kept.5.0,
        kept.5.1,
        made_kept A s c.tell_port.new.port c.attach.new.place t c.in-Some-back.tx c.tell_port.new.tx _ (view s.port.pass) (view t.pass) (view c.end.new.port.pass) c.self.invariant was c.attach.ensures
            m (prefix_self _) refl kept.3 c.tell_port.ensures.tx.1 kept.4 c.tell_port.ensures.alike c.tell_port.ensures.told,
        subst (λ (k : ℕ). c.end.new.steps ≤ c.args.steps.now + most_steps A m.before k) (sym (ap checked_of was)) (took m.before _ m.seen),
      );
    })
