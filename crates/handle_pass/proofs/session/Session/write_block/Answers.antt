use Rattle.std.proofs.Common.{rules}
use Rattle.handle_pass.proofs.{Words.{ap, ◌∙◌, ◌≡◌, Some, write_access, with_access, own_in, own_of}, Entering.{own_by_parts, rested_by}, session.Session.write_block.Goals.{in-None, in-Some+else-block-geometry+else-room-eq0+in_default}}

pub returns-clause-did : Rattle.handle_pass.proofs.session.Session.write_block.Goals.returns-clause-did
returns-clause-did g c = elim c.match-self.branch [
  | in-None w ↦ rw (w.result-is, w.self-inside-is, ← c.self.view_is) (search rules)
  | in-Some+else-block-geometry+else-room-eq0+in_default w ↦
      let t = w.in-Some.tx in
      let r = w.reserve.new.self in
      let is = w.in_default.ensures.ok in
      let a = write_access c.args.block c.args.bytes.now in
      let first : own_in w.write.new.self ≡ with_access (own_in r) a = own_by_parts r w.write.new.self _ w.write.ensures.same.1 w.write.ensures.work in
      rw (w.result-is, w.self-inside-is, ← c.self.view_is) (
        own_in t,
        ap own_of w.in-Some.is,
        ap Some (first ∙ ap (λ x. with_access (own_in x) a) is),
        rested_by c.self.inside t w.write.new.self w.in-Some.is (w.write.ensures.same.0 ∙ ap (λ x. x.pass) is),
      )
]
