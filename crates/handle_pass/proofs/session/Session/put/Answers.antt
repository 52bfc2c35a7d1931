use Rattle.std.proofs.Common.{rules}
use Rattle.handle_pass.proofs.{Words.{ap, ◌∙◌, ◌≡◌, Some, put_access, with_access, own_in, own_of}, Entering.{own_by_parts, rested_by}, session.Session.put.Goals.{in-None, in-Some+else-block-geometry+else-room-eq0+in_default}}

pub returns-clause-did : Rattle.handle_pass.proofs.session.Session.put.Goals.returns-clause-did
returns-clause-did g c = elim c.match-self.branch [
  | in-None w ↦ rw (w.result-is, w.self-inside-is, ← c.self.view_is) (search rules)
  | in-Some+else-block-geometry+else-room-eq0+in_default w ↦
      let size = g.O.Origin.start.world.geometry.block in
      let t = w.in-Some.tx in
      let r = w.reserve.new.self in
      let is = w.in_default.ensures.ok in
      let rests = rw w.in-Some.is at c.self.invariant.tx in
      let same : r.work.size ≡ size = ap (λ x. x.work.size) is ∙ rests.0.1.on.size in
      let first : own_in w.put.new.self ≡ with_access (own_in r) (put_access r.work.size c.args.block c.args.off c.args.bytes.now) = own_by_parts r w.put.new.self _ w.put.ensures.same.1 w.put.ensures.work in
      rw (w.result-is, w.self-inside-is, ← c.self.view_is) (
        own_in t,
        ap own_of w.in-Some.is,
        ap Some (first ∙ ap (λ n. with_access (own_in r) (put_access n c.args.block c.args.off c.args.bytes.now)) same ∙ ap (λ x. with_access (own_in x) (put_access size c.args.block c.args.off c.args.bytes.now)) is),
        rested_by c.self.inside t w.put.new.self w.in-Some.is (w.put.ensures.same.0 ∙ ap (λ x. x.pass) is),
      )
]
