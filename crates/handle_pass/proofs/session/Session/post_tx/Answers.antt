use Rattle.handle_pass.{proofs.Words.{◌≡◌, ℕ, IfSome, IsPrefix, List, Entry, Err, View, ap, refl, subst, sym, ◌∙◌, Some, Checked, view, prefix_self, post_cause, checked_of, own_in, own_of, SessionState, state_of, Start}, specs.Handles.{HasPosted, Unposted}, specs.declared.errors.PostTxError.PostTxError, proofs.Entering.{made_gone, made_kept, own_same}}
use Rattle.handle_pass.specs.declared.errors.PostTxError.TheVariants as error
use Rattle.tx_table.specs.declared.rack.PostError.{PostError}
use Rattle.tx_table.specs.declared.rack.PostError.TheVariants as cause

pub returns-in-Ok : Rattle.handle_pass.proofs.session.Session.post_tx.Goals.returns-in-Ok
returns-in-Ok g c =
    let s = c.self.inside in
    let was = sym c.take.ensures.value ∙ c.in-Some.is in rw (← c.self.view_is) (record {
      did = (
        own_in c.in-Some.tx,
        ap own_of was,
        ap own_of c.take.ensures.after,
        made_gone g.O.Origin.start s c.post.new.port c.take.new.self c.in-Some.tx _ c.self.invariant was c.take.ensures.after c.in-Ok.ensures.ok.0 c.in-Ok.ensures.ok.1,
      );
    })

-- a post that is refused, as it is told
unposted : (A : Start) (s t : SessionState) (label : List ℕ) (why : PostError) (said : PostTxError) → (why ≡ cause.LabelTaken → said ≡ error.LabelTaken) → (why ≡ cause.Memory → said ≡ error.Memory) → Unposted A s t label (post_cause why)
    → HasPosted A s label (Err said) t
unposted A s t label cause.LabelTaken said taken memory is = subst (λ e. HasPosted A s label (Err e) t) (sym (taken refl)) is
unposted A s t label cause.Memory said taken memory is = subst (λ e. HasPosted A s label (Err e) t) (sym (memory refl)) is

pub returns-in-Err : Rattle.handle_pass.proofs.session.Session.post_tx.Goals.returns-in-Err
returns-in-Err g c =
    let A = g.O.Origin.start in
    let s = c.self.inside in
    let t = c.in-Some.tx in
    let k = c.in-Err.tx in
    let l = c.tell_port.new.tx in
    let was = sym c.take.ensures.value ∙ c.in-Some.is in
    let e = c.in-Err.ensures.err in
    let upto = c.tell_port.ensures.same.0.checked ∙ e.1.checked in
    let t' : SessionState = state_of (record { shared = s.shared; port = c.tell_port.new.port; tx = c.attach.new.place }) in
    record {
      did = subst (λ (x : SessionState). HasPosted A x c.args.label (Err c.refused.result) t') c.self.view_is (unposted A (state_of s) t' c.args.label c.in-Err.error c.refused.result c.refused.ensures.taken c.refused.ensures.memory (
        own_in t,
        ap own_of was,
        record {
          is = ap own_of c.attach.ensures ∙ ap Some (own_same k l c.tell_port.ensures.same.0 ∙ own_same t k e.1) ∙ sym (ap own_of was);
          upto = ap checked_of c.attach.ensures ∙ ap (λ (v : Checked). v.upto) upto ∙ sym (ap checked_of was);
        },
        made_kept A s c.tell_port.new.port c.attach.new.place t k l _ (view s.port.pass) (view t.pass) (view c.post.new.port.pass) c.self.invariant was c.attach.ensures
            e.4 (prefix_self _) refl e.2 c.tell_port.ensures.tx.1 e.3 c.tell_port.ensures.alike c.tell_port.ensures.told,
      ));
    }

pub invariant_of-self-in-Err : Rattle.handle_pass.proofs.session.Session.post_tx.Goals.invariant_of-self-in-Err
invariant_of-self-in-Err g c =
    let was = sym c.take.ensures.value ∙ c.in-Some.is in
    let same = c.tell_port.ensures.tx.1 in
    let one = subst (λ o. IfSome o (λ t. (view t.pass).units ≡ 1)) was c.self.invariant.one in
    rw c.attach.ensures (record {
      image = c.self.invariant.image;
      port = c.tell_port.ensures.port;
      tx = (c.tell_port.ensures.tx.0, subst (λ (v : View Entry). IsPrefix v.seen (view c.tell_port.new.port.pass).seen) (sym same) c.tell_port.ensures.told);
      one = ap (λ (v : View Entry). v.units) same ∙ c.in-Err.ensures.err.2 ∙ one;
    })
