use Rattle.std.proofs.Common.{rules}
use Rattle.handle_pass.proofs.{Words.{ap, refl, Some, own_in, own_of}, Entering.{own_by_parts, rested_by, same_state}, session.Session.mark_accessed.Goals.{in-None, in-Some+in-Ok, in-Some+in-Err-BadRange, in-Some+in-Err-NoAccess, in-Some+in-Err-TooManyMarks}}

pub returns-clause-did : Rattle.handle_pass.proofs.session.Session.mark_accessed.Goals.returns-clause-did
returns-clause-did g c =
    let s = c.self.inside in
    elim c.match-self.branch [
      | in-None w ↦ rw (w.result-is, w.self-inside-is, ← c.self.view_is) (search rules)
      | in-Some+in-Ok w ↦
          let t = w.in-Some.tx in
          rw (w.result-is, w.self-inside-is, ← c.self.view_is) (
            own_in t,
            ap own_of w.in-Some.is,
            ap Some (own_by_parts t w.mark.new.self _ w.mark.ensures.same.1 w.in-Ok.ensures.ok.2),
            rested_by s t w.mark.new.self w.in-Some.is w.mark.ensures.same.0,
          )
      | in-Some+in-Err-BadRange w ↦
          rw (w.result-is, w.self-inside-is, ← c.self.view_is) (same_state s w.in-Some.tx w.mark.new.self w.in-Some.is (w.in-Err-BadRange.ensures.err _ refl).1)
      | in-Some+in-Err-NoAccess w ↦
          rw (w.result-is, w.self-inside-is, ← c.self.view_is) (same_state s w.in-Some.tx w.mark.new.self w.in-Some.is (w.in-Err-NoAccess.ensures.err _ refl).1)
      | in-Some+in-Err-TooManyMarks w ↦
          rw (w.result-is, w.self-inside-is, ← c.self.view_is) (same_state s w.in-Some.tx w.mark.new.self w.in-Some.is (w.in-Err-TooManyMarks.ensures.err _ refl).1)
    ]
