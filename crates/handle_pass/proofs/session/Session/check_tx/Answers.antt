use Rattle.handle_pass.proofs.{Words.{ap, inl, inr, sym, refl, ◌∙◌, Some, Checked, view, Recent, Refused, cause_of, checked_of, own_in, own_of, OfRecent}, Entering.{Through, made_through, own_by_parts, own_same, still_session}, session.Session.check_tx.Goals.{After-tell_port, in-Ok, in-Err}}
use Rattle.handle_pass.proofs.session.Session.check_tx.Goals as goal

-- the call after which the port is told
through : (g : Rattle.handle_pass.proofs.session.Session.check_tx.Given.Over) (c : After-tell_port g) → Through g.O.Origin.start c.self.inside c.tell_port.new.port c.in-Some.tx c.tell_tx.new.tx c.check-checked.new.tx c.tell_port.new.tx
through g c =
    let a = c.tell_tx.new.tx in
    let k = c.check-checked.new.tx in
    record {
      is = c.self.invariant;
      was = c.in-Some.is;
      owns = own_same k c.tell_port.new.tx c.tell_port.ensures.same.0 ∙ own_by_parts a k (record a.work { settled = k.work.settled }) c.check-checked.ensures.same.0 c.check-checked.ensures.same.1 ∙ own_same c.in-Some.tx a c.tell_tx.ensures.same.0;
      number = c.tell_tx.ensures.same.0.number;
      told = c.tell_tx.ensures.told;
      mine = c.tell_tx.ensures.same.2.0;
      kept = c.check-checked.ensures.same.2 ∙ c.tell_tx.ensures.same.2.2;
      last = c.tell_port.ensures.tx.1;
      port = view c.tell_tx.new.port.pass;
      same = c.tell_tx.ensures.port.1;
      alike = c.tell_port.ensures.alike;
      knows = c.tell_port.ensures.told;
    }

pub returns-after-checked : goal.returns-after-checked
returns-after-checked g c =
    let h = through g (goal.at.returns-after-checked g c).After-tell_port in
    let b = c.tell_port.new.tx in
    elim c.match-checked.branch [
      | in-Ok w ↦
          rw (w.result-is, ← c.self.view_is) (record {
            did = (
              own_in c.in-Some.tx,
              ap own_of c.in-Some.is,
              ap Some h.owns,
              ap (λ (v : Checked). v.upto) c.tell_port.ensures.same.0.checked ∙ w.in-Ok.ensures.ok.0,
              made_through h b (λ n. Recent n w.in-Ok.upto) w.in-Ok.ensures.ok.1 refl,
            );
          })
      | in-Err w ↦
          let before = c.tell_port.ensures.same.0.checked ∙ w.in-Err.ensures.err.0 ∙ c.tell_tx.ensures.same.0.checked in
          rw (w.result-is, ← c.self.view_is) (record {
            did = (
              own_in c.in-Some.tx,
              ap own_of c.in-Some.is,
              record {
                is = ap Some h.owns ∙ sym (ap own_of c.in-Some.is);
                upto = ap (λ (v : Checked). v.upto) before ∙ sym (ap checked_of c.in-Some.is);
              },
              elim w.in-Err.ensures.err.1 [
                | inl m ↦ inl (m.0, m.1, made_through h b (λ n. Refused (OfRecent n) (cause_of m.0 m.1 w.in-Err.error)) m.2 refl)
                | inr m ↦ inr (m.0, m.1, made_through h b (λ n. Recent n m.1) m.2 refl)
              ],
            );
          })
    ]

pub invariant_of-self-in-Some : goal.invariant_of-self-in-Some
invariant_of-self-in-Some g c =
    let rests = c.tell_port.ensures.tx.0 in
    still_session (through g (goal.at.invariant_of-self-in-Some g c).After-tell_port) c.tell_port.new.tx c.tell_port.ensures.port rests refl rests.1
