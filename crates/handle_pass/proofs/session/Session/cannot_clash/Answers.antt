use Rattle.std.proofs.lemmas.Bool.{OnTrue_at, OnTrue_from}
use Rattle.handle_pass.proofs.{Words.{own_in, refl, sym}, Entering.{own_by_parts, seen_state}, session.Session.cannot_clash.Goals.{in-None, in-Some}}

pub returns-clause-same : Rattle.handle_pass.proofs.session.Session.cannot_clash.Goals.returns-clause-same
returns-clause-same g c = elim c.match-self.branch [
  | in-None w ↦ rw (w.self-inside-is, ← c.self.view_is) refl
  | in-Some w ↦
      let t = w.in-Some.tx in
      let u = w.cannot_clash.new.self in
      let same = w.cannot_clash.ensures.same in
      rw (w.self-inside-is, ← c.self.view_is) (seen_state c.self.inside t u w.in-Some.is same.0 (own_by_parts t u (record t.work { settled = u.work.settled }) same.1 same.3) same.2)
]

pub returns-clause-never : Rattle.handle_pass.proofs.session.Session.cannot_clash.Goals.returns-clause-never
returns-clause-never g c = elim c.match-self.branch [
  | in-None w ↦ rw w.result-is tt
  | in-Some w ↦
      let on = w.cannot_clash.ensures.tx.on in
      rw (w.result-is, w.self-inside-is) (OnTrue_from w.cannot_clash.result _ (λ is.
      (own_in w.cannot_clash.new.self, refl, λ H. OnTrue_at is w.cannot_clash.ensures.free g.O.Origin.start.world.geometry H (sym on.size) (sym on.blocks))))
]
