-- A commit that meets nothing is passed over, and the first that meets is the answer.
use Rattle.conflict_rule.proofs.Words.{ap, arith, length, sym, subst, Some, List, inl, inr, refl, Note, AreApart, IsFirstMeet, IsLeastMeeting}

pub loop-commit-init : Rattle.conflict_rule.proofs.decision.least_meeting.Goals.loop-commit-init
loop-commit-init g c = grind arith

pub returns-in-Some-first_meet-clause-least : Rattle.conflict_rule.proofs.decision.least_meeting.Goals.returns-in-Some-first_meet-clause-least
returns-in-Some-first_meet-clause-least g c =
    let (rest_is, ticked) = c.in-Some.ensures.some in
    let x : Note = (c.in-Some.commit, c.in-Some.marks.now) in
    let block = c.in-Some-first_meet.block in
    let at = c.in-Some-first_meet.at in
    let here : IsFirstMeet x.1 c.args.bytes.now block at =
    record { both = c.in-Some-first_meet.ensures.found; least_block = c.in-Some-first_meet.ensures.least_block; least_byte = c.in-Some-first_meet.ensures.least_byte } in
    c.loop-commit.invariant.all _ (subst (λ (l : List Note). IsLeastMeeting c.args.bytes.now l (Some (record { commit = x.0; block = block; at = at }))) (sym rest_is)
    (inr (block, at, here, refl)))

pub loop-commit-preserved : Rattle.conflict_rule.proofs.decision.least_meeting.Goals.loop-commit-preserved
loop-commit-preserved g c =
    let (rest_is, ticked) = c.in-Some.ensures.some in
    let x : Note = (c.in-Some.commit, c.in-Some.marks.now) in
    let apart : AreApart x.1 c.args.bytes.now = c.in_default-first_meet.ensures.none in
    record {
      all = λ found is. c.loop-commit.invariant.all found (subst (λ (l : List Note). IsLeastMeeting c.args.bytes.now l found) (sym rest_is) (inl (apart, is)));
      steps = omega (arith, ap (length {A = Note}) rest_is, ticked, c.loop-commit.invariant.steps);
    }
