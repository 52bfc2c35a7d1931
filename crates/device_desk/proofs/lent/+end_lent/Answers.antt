use Rattle.iso_machine.proofs.Words.{◌≡◌, ◌∙◌, ◌+◌, ◌<◌, ◌∷◌, ℕ, List, ap, arith, get_or, length, map, subst, sym, take, AreEach, GroupEnd, IsMember}
use Rattle.std.proofs.{Common.rules, lemmas.List.take-map}
use Rattle.iso_core.specs.Planned.{bare_end, reply_in}
use Rattle.device_desk.specs.{declared.seat.Seat.Seat, Lent.{ArePlaces, HasEnded}, Numbers.member_of}
use Rattle.device_desk.proofs.Lendings.{ended_so, given_back, last_kept, no_more, others_within, pick, same_members}
use Rattle.device_desk.proofs.lent.+end_lent.Goals as goal

pub end_first-requires-clause-ready : goal.end_first-requires-clause-ready
end_first-requires-clause-ready g t c =
    let (W, members, of, ready) = c.requires.ready in
    (W, members, of, subst (λ (ms : List GroupEnd). AreEach (IsMember W) ms members) (no_more (take c.args.count c.args.ends.now) c.args.places.now c.args.live.now c.in_default.ensures.cases) ready)

pub returns-in_default-clause-group : goal.returns-in_default-clause-group
returns-in_default-clause-group g t c W members of ready =
    let none : length c.args.places.now ≡ 0 = c.in_default.ensures.cases in
    subst (λ (n : ℕ). HasEnded g.D.Disk.state c.args.core.now c.end_first.new.core W members (take n c.end_first.new.ends) c.end_first.result) (omega (arith, none))
    (c.end_first.ensures.group W members of
    (subst (λ (ms : List GroupEnd). AreEach (IsMember W) ms members) (no_more (take c.args.count c.args.ends.now) c.args.places.now c.args.live.now none) ready))

pub end_lent-ended-requires : goal.end_lent-ended-requires
end_lent-ended-requires g t c κs within =
    let (W, members, of, ready) = c.requires.ready in
    let cases = c.in-Some.ensures.cases in
    let same =
    same_members (take c.args.count c.args.ends.now) (take (c.args.count + 1) c.lend_at.new.ends) c.args.places.now c.in-Some.others.now c.args.live.now c.lend_at.new.live c.in-Some.first.now cases.0 c.requires.places c.lend_at.ensures.live c.lend_at.ensures.ends in (
      omega (arith, cases.1, c.decreases),
      (
        search rules,
        (
          (W, members, of, subst (λ (ms : List GroupEnd). AreEach (IsMember W) ms members) (sym same) ready),
          (
            others_within c.args.places.now c.in-Some.others.now c.args.live.now c.lend_at.new.live c.in-Some.first.now cases.0 c.requires.places c.lend_at.auto.live,
            (omega arith, (omega (arith, cases.1, c.requires.within, c.lend_at.auto.ends), omega (arith, cases.1, c.requires.most))),
          ),
        ),
      ),
    )

pub returns-clause-group : goal.returns-clause-group
returns-clause-group g t c W members of ready =
    let cases = c.in-Some.ensures.cases in
    let same =
    same_members (take c.args.count c.args.ends.now) (take (c.args.count + 1) c.lend_at.new.ends) c.args.places.now c.in-Some.others.now c.args.live.now c.lend_at.new.live c.in-Some.first.now cases.0 c.requires.places c.lend_at.ensures.live c.lend_at.ensures.ends in
    let n : ℕ = c.args.count + length c.args.places.now in
    let m : ℕ = c.args.count + 1 + length c.in-Some.others.now in
    let count : n ≡ m = omega (arith, cases.1) in
    ended_so (take n c.take_back_at.new.ends)
    (sym (take-map reply_in n c.take_back_at.new.ends) ∙ (λ i. take (count i) (c.take_back_at.ensures.replies i)) ∙ take-map reply_in m c.end_lent-ended.new.ends)
    (c.end_lent-ended.ensures.group W members of (subst (λ (ms : List GroupEnd). AreEach (IsMember W) ms members) (sym same) ready))

pub returns-clause-live : goal.returns-clause-live
returns-clause-live g t c =
    let cases = c.in-Some.ensures.cases in
    let i : ℕ = c.in-Some.first.now in
    let have : ArePlaces (length c.args.live.now) (i ∷ c.in-Some.others.now) = subst (ArePlaces (length c.args.live.now)) cases.0 c.requires.places in
    let d : Seat = pick c.args.live.now i have.0 in
    let e : GroupEnd = member_of d in
    let lent = c.lend_at.ensures.live d in
    let back = c.take_back_at.ensures.live d e in
    let inside : c.args.count < length c.end_lent-ended.new.ends = omega (arith, cases.1, c.requires.within, c.lend_at.auto.ends, c.end_lent-ended.auto.ends) in
    let kept = last_kept c.args.count c.args.ends.now c.lend_at.new.ends c.end_lent-ended.new.ends (member_of (get_or c.args.live.now i d)) e inside c.end_lent-ended.ensures.before (c.lend_at.ensures.ends d) in
    given_back c.args.live.now c.lend_at.new.live c.end_lent-ended.new.live c.take_back_at.new.live i (get_or c.lend_at.new.live i d) (get_or c.take_back_at.new.live i d) d (get_or c.end_lent-ended.new.ends c.args.count e)
    have.0 lent.0 c.end_lent-ended.ensures.live back.0 lent.1 back.1 back.2 kept.1

pub returns-clause-before : goal.returns-clause-before
returns-clause-before g t c =
    let cases = c.in-Some.ensures.cases in
    let i : ℕ = c.in-Some.first.now in
    let have : ArePlaces (length c.args.live.now) (i ∷ c.in-Some.others.now) = subst (ArePlaces (length c.args.live.now)) cases.0 c.requires.places in
    let d : Seat = pick c.args.live.now i have.0 in
    let e : GroupEnd = member_of d in
    let inside : c.args.count < length c.end_lent-ended.new.ends = omega (arith, cases.1, c.requires.within, c.lend_at.auto.ends, c.end_lent-ended.auto.ends) in
    let kept = last_kept c.args.count c.args.ends.now c.lend_at.new.ends c.end_lent-ended.new.ends (member_of (get_or c.args.live.now i d)) e inside c.end_lent-ended.ensures.before (c.lend_at.ensures.ends d) in
    ap (map bare_end) c.take_back_at.ensures.before ∙ kept.0
