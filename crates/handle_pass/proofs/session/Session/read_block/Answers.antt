use Rattle.handle_pass.proofs.{Words.{ap, refl, subst, ◌∙◌, ◌≡◌, List, Some, block_at, read_access, CoreError, Entry, Fetch, Refused, IsLegal, cause_of, view, prefix_trans, with_access, own_in, own_of, Own}, Entering.{Through, down_by, fetched_is, made_through, own_by_parts, own_same, still_session}, session.Session.read_block.Goals.{After-tell_port, in-Ok, in-Err-fetched+in-Disk, in-Err-fetched+in_default-error}}
use Rattle.iso_model.specs.Effect as effect
use Rattle.iso_model.specs.declared.core_error.CoreError.TheVariants as error
use Rattle.iso_shared.specs.declared.entry.Call.TheVariants as call
use Rattle.iso_shared.specs.Ports.{Made}
use Rattle.handle_pass.proofs.session.Session.read_block.Goals as goal

-- the call after which the port is told
through : (g : Rattle.handle_pass.proofs.session.Session.read_block.Given.Over) (c : After-tell_port g) → Through g.O.Origin.start c.self.inside c.tell_port.new.port c.in-Some.tx c.tell_tx.new.tx c.fetch-fetched.new.tx c.tell_port.new.tx
through g c =
    let a = c.tell_tx.new.tx in
    record {
      is = c.self.invariant;
      was = c.in-Some.is;
      owns = own_same c.fetch-fetched.new.tx c.tell_port.new.tx c.tell_port.ensures.same.0 ∙ own_same a c.fetch-fetched.new.tx c.fetch-fetched.ensures.same.0 ∙ own_same c.reserve.new.self a c.tell_tx.ensures.same.0 ∙ ap own_in c.in_default.ensures.ok;
      number = c.tell_tx.ensures.same.0.number ∙ ap (λ x. x.number) c.in_default.ensures.ok;
      told = c.tell_tx.ensures.told;
      mine = c.tell_tx.ensures.same.2.0 ∙ ap (λ x. (view x.pass).mine) c.in_default.ensures.ok;
      kept = c.fetch-fetched.ensures.same.2 ∙ c.tell_tx.ensures.same.2.2 ∙ ap (λ x. (view x.pass).units) c.in_default.ensures.ok;
      last = c.tell_port.ensures.tx.1;
      port = view c.tell_tx.new.port.pass;
      same = c.tell_tx.ensures.port.1;
      alike = c.tell_port.ensures.alike;
      knows = c.tell_port.ensures.told;
    }

pub returns-after-fetched-clause-did : goal.returns-after-fetched-clause-did
returns-after-fetched-clause-did g c =
    let A = g.O.Origin.start in
    let h = through g (goal.at.returns-after-fetched-clause-did g c).After-tell_port in
    let t = c.in-Some.tx in
    let b = c.tell_port.new.tx in
    let u = view c.tell_tx.new.tx.pass in
    elim c.match-fetched.branch [
      | in-Ok w ↦
          let l = w.read.new.self in
          let bytes = c.fetch-fetched.new.into in
          let first : own_in l ≡ with_access (own_in b) (read_access c.args.block) = own_by_parts b l _ w.read.ensures.same.1 w.read.ensures.work in
          let made = made_through h l (λ n. Fetch n c.args.block bytes) w.in-Ok.ensures.made.2 (ap view w.read.ensures.same.0) in
          let rests = rw c.in-Some.is at c.self.invariant.tx in
          rw (w.result-is, w.self-inside-is, w.into-is, ← c.self.view_is) (
            own_in t,
            ap own_of c.in-Some.is,
            ap Some (first ∙ ap (λ (o : Own). with_access o (read_access c.args.block)) h.owns),
            bytes,
            record {
              made = made;
              base = fetched_is A t made.entered.before c.args.block bytes rests.0.1 (prefix_trans _ _ _ rests.1 made.entered.told) made.entered.legal;
              laid = λ B told. w.read.ensures.shown B told ∙ ap (λ (o : Own). block_at (effect.own B o.accesses) c.args.block) h.owns;
            },
          )
      | in-Err-fetched+in-Disk w ↦
          let m = w.in-Err-fetched.ensures.made in
          let made = subst (λ (e : CoreError). Made A u u (Refused (call.Fetch c.tell_tx.new.tx.number c.args.block) (cause_of m.0 m.1 e)) (view c.fetch-fetched.new.tx.pass)) w.in-Disk.is m.2 in
          rw (w.result-is, w.self-inside-is, ← c.self.view_is) (own_in t, ap own_of c.in-Some.is, ap Some h.owns, m.0, m.1, made_through h b (λ n. Refused (call.Fetch n c.args.block) (cause_of m.0 m.1 error.Disk)) made refl)
      | in-Err-fetched+in_default-error w ↦
          let a = c.tell_tx.new.tx in
          let m = w.in-Err-fetched.ensures.made in
          let down = down_by A m.2.before a.number c.args.block m.0 m.1 w.in-Err-fetched.error (subst (λ (l : List Entry). IsLegal A l) m.2.seen m.2.legal) w.in_default-error.not-Disk in
          let made = subst (λ (e : CoreError). Made A u u (Refused (call.Fetch a.number c.args.block) (cause_of m.0 m.1 e)) (view c.fetch-fetched.new.tx.pass)) down m.2 in
          rw (w.result-is, w.self-inside-is, ← c.self.view_is) (own_in t, ap own_of c.in-Some.is, ap Some h.owns, made_through h b (λ n. Refused (call.Fetch n c.args.block) (cause_of m.0 m.1 error.Down)) made refl)
    ]

pub invariant_of-self-in-Some : goal.invariant_of-self-in-Some
invariant_of-self-in-Some g c =
    let h = through g (goal.at.invariant_of-self-in-Some g c).After-tell_port in
    let b = c.tell_port.new.tx in
    let port = c.tell_port.ensures.port in
    let rests = c.tell_port.ensures.tx.0 in
    elim c.match-fetched.branch [
      | in-Ok w ↦ rw w.self-inside-is (still_session h w.read.new.self port rests w.read.ensures.same.0 w.read.ensures.tx)
      | in-Err-fetched+in-Disk w ↦ rw w.self-inside-is (still_session h b port rests refl rests.1)
      | in-Err-fetched+in_default-error w ↦ rw w.self-inside-is (still_session h b port rests refl rests.1)
    ]
