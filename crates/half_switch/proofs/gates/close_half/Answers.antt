use Rattle.half_switch.proofs.{Words.{ℕ, [], ◌∷◌, arith, refl, subst, on_err_weaker, on_ok_weaker, all_passed, failed_behind, told_same, told_written, Torn, joined, runs_inside, stays_settled, weakened, at_end, IsOpen, beside_shut}, Tells.{inside_still, tells_more, tells_same}}
use Rattle.counts.specs.Count.{HasCause}
use Rattle.half_switch.proofs.gates.close_half.Goals as goal

pub returns-in_default-clause-held : goal.returns-in_default-clause-held
returns-in_default-clause-held g c h x other both place each = weakened c.stands_closed.ensures.unwritten.moments each

pub returns-then-closed-clause-held : goal.returns-then-closed-clause-held
returns-then-closed-clause-held g c h x other both place each = weakened c.stands_closed.ensures.unwritten.moments each

pub returns-clause-held : goal.returns-clause-held
returns-clause-held g c h x other both place each =
    let run = c.stands_closed.ensures.unwritten.moments in
    joined (weakened run each) (weakened c.shut_gate.ensures.moments (λ d from.
    let was = at_end (g.met.D.Disk.lawful c.stands_closed.new.disk) run from.old from.was in
    let is_open = (c.in-Ok.ensures.open from.old (c.requires.settled from.old was)).0 c.if-closed.false in
    beside_shut h x other from.old d both (each from.old was) (subst (λ (k : ℕ). IsOpen k from.old) place is_open) (subst (λ (k : ℕ). Torn k 1 from.old d) place from.torn)))

pub returns-clause-unwritten : goal.returns-clause-unwritten
returns-clause-unwritten g c d told closed = absurd (closed ((c.in-Ok.ensures.open d told).0 c.if-closed.false))

pub returns-in_default-clause-moments : goal.returns-in_default-clause-moments
returns-in_default-clause-moments g c = inside_still c.args.place.now.header 1 c.stands_closed.ensures.unwritten

pub returns-in_default-clause-unwritten : goal.returns-in_default-clause-unwritten
returns-in_default-clause-unwritten g c d told closed = c.stands_closed.ensures.unwritten

pub returns-in_default-clause-failed : goal.returns-in_default-clause-failed
returns-in_default-clause-failed g c = tells_same c.args.place.now.header 1 _ _ c.stands_closed.ensures.unwritten.same_contents

pub returns-in_default-clause-cause : goal.returns-in_default-clause-cause
returns-in_default-clause-cause g c = failed_behind refl c.in_default.ensures.cause

pub returns-then-closed-clause-moments : goal.returns-then-closed-clause-moments
returns-then-closed-clause-moments g c = inside_still c.args.place.now.header 1 c.stands_closed.ensures.unwritten

pub returns-then-closed-clause-unwritten : goal.returns-then-closed-clause-unwritten
returns-then-closed-clause-unwritten g c d told closed = c.stands_closed.ensures.unwritten

pub returns-then-closed-clause-closed : goal.returns-then-closed-clause-closed
returns-then-closed-clause-closed g c d image =
    (c.in-Ok.ensures.closed d (c.requires.settled d (at_end (g.met.D.Disk.lawful c.stands_closed.new.disk) c.stands_closed.ensures.unwritten.moments d image))).0 c.if-closed.true

pub returns-then-closed-clause-settled : goal.returns-then-closed-clause-settled
returns-then-closed-clause-settled g c = stays_settled (g.met.D.Disk.lawful c.stands_closed.new.disk) c.stands_closed.ensures.unwritten c.requires.settled

pub returns-then-closed-clause-told : goal.returns-then-closed-clause-told
returns-then-closed-clause-told g c = told_same (g.D.Disk.state c.args.disk.now) (g.D.Disk.state c.stands_closed.new.disk) c.stands_closed.ensures.unwritten.same_contents

pub returns-then-closed-clause-cause : goal.returns-then-closed-clause-cause
returns-then-closed-clause-cause g c = all_passed c.in-Ok.ensures.cause.passed

pub returns-clause-moments : goal.returns-clause-moments
returns-clause-moments g c =
    runs_inside c.args.place.now.header 1 c.args.place.now.header 1 (omega arith) (omega arith) (g.met.D.Disk.lawful c.stands_closed.new.disk) (inside_still c.args.place.now.header 1 c.stands_closed.ensures.unwritten) c.shut_gate.ensures.moments

pub returns-clause-closed : goal.returns-clause-closed
returns-clause-closed g c = on_ok_weaker c.shut_gate.result (λ shut d image is. absurd (omega (arith, shut d image, is))) c.shut_gate.ensures.shut

pub returns-clause-settled : goal.returns-clause-settled
returns-clause-settled g c = c.shut_gate.ensures.settled

pub returns-clause-told : goal.returns-clause-told
returns-clause-told g c =
    let state = g.D.Disk.state in
    let mid = state c.stands_closed.new.disk in
    on_ok_weaker c.shut_gate.result
    (λ written some. told_written mid (state c.shut_gate.new.disk) c.args.place.now.header (0 ∷ []) written (told_same (state c.args.disk.now) mid c.stands_closed.ensures.unwritten.same_contents some)) c.shut_gate.ensures.written

pub returns-clause-failed : goal.returns-clause-failed
returns-clause-failed g c =
    on_err_weaker c.shut_gate.result (λ torn. tells_more c.args.place.now.header 1 c.args.place.now.header 1 (omega arith) (omega arith) _ _ _ (tells_same c.args.place.now.header 1 _ _ c.stands_closed.ensures.unwritten.same_contents) torn) c.shut_gate.ensures.failed

pub returns-clause-cause : goal.returns-clause-cause
returns-clause-cause g c = subst (λ (n : ℕ). HasCause n (g.D.Disk.state c.shut_gate.new.disk).faults c.shut_gate.result) c.in-Ok.ensures.cause.passed c.shut_gate.ensures.cause
