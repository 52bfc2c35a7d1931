use Rattle.iso_core.proofs.{Words.{◌≡◌, ◌≢◌, ◌∙◌, sym, ap, ℕ, ◌+◌, ◌-◌, ◌<◌, ◌≤◌, List, length, arith, length_push, false, true, CoreReply, LAST, has_write, last, need, World, used, ahead, member_reply, IsNextCommit, IsNextMember, IsSpelled, MayCommit}, Committing.{buffer_on, next_world}, Endings.{ends_in_conflict, ends_read_only}, Judging.{commits_as, fits_ahead, free_ahead, full_so, may_ahead, number_ahead, worn_so}, Moments.record_needs, judge.judge.Goals.{After-len, After-len-2}}
use Rattle.iso_model.specs.declared.access.GroupReply.TheVariants as member
use Rattle.iso_core.proofs.judge.judge.Goals as goal

pub returns-then-not-has_write-clause-judged : goal.returns-then-not-has_write-clause-judged
returns-then-not-has_write-clause-judged c m =
    let none : has_write m.t.accesses ≡ false = ap has_write (sym m.ready.settled.is_work.accesses) ∙ sym c.has_write.ensures ∙ c.if-not-has_write.true in
    record { answer = ap (λ (x : CoreReply × World). member_reply x.0) (sym (ends_read_only (ahead m.world m.more) m.t none)); next = tt }

pub clash_in-requires-clause-settled : goal.clash_in-requires-clause-settled
clash_in-requires-clause-settled c = grind arith

pub returns-in-Some-clause-judged : goal.returns-in-Some-clause-judged
returns-in-Some-clause-judged c m =
    let write : has_write m.t.accesses ≡ true = ap has_write (sym m.ready.settled.is_work.accesses) ∙ sym c.has_write.ensures ∙ c.if-not-has_write.false in
    let conflict = ends_in_conflict (ahead m.world m.more) m.t c.in-Some.clash write (sym c.in-Some.is ∙ c.clash_in.ensures m) in
    record { answer = ap (λ (x : CoreReply × World). member_reply x.0) (sym conflict); next = tt }

-- the member may be the next commit, where there is a number for it
module _ (c : After-len) (m : IsNextMember c.args.kept.now c.args.plan.now c.args.member.now) where
  number : c.last.result + c.len.result ≡ last (ahead m.world m.more).history
  number = number_ahead c.args.kept.now m.world m.more c.args.plan.now m.of m.is c.last.result c.len.result c.last.ensures (c.len.ensures ∙ c.args.plan.now.staged.ok.0)

  may : MayCommit (ahead m.world m.more) c.args.member.now.tx m.t c.args.member.now.work
  may =
      let write : has_write m.t.accesses ≡ true = ap has_write (sym m.ready.settled.is_work.accesses) ∙ sym c.has_write.ensures ∙ c.if-not-has_write.false in
      may_ahead m.world m.more c.args.member.now.tx m.t c.args.member.now.work m.ready.here m.ready.settled write (sym (c.clash_in.ensures m) ∙ c.in_default.is)

  as_next : c.last.result + c.len.result < LAST → IsNextCommit (ahead m.world m.more) c.args.member.now.tx m.t c.args.kept.now.geometry c.args.member.now.work (c.last.result + c.len.result + 1)
  as_next low = record { geometry = m.of.keeps.geometry; world = m.is.world; may = may; number_is = ap (λ (n : ℕ). n + 1) number; fresh = omega (arith, number, low) }

pub overflow_add-last : goal.overflow_add-last
overflow_add-last c =
    let m = c.requires in
    omega (arith, number (goal.at.overflow_add-last c).After-len m, m.is.world.numbers)

pub returns-then-last-ge-LAST-clause-judged : goal.returns-then-last-ge-LAST-clause-judged
returns-then-last-ge-LAST-clause-judged c m =
    let s = (goal.at.returns-then-last-ge-LAST-clause-judged c).After-len in
    let all = number s m in
    record { answer = worn_so (ahead m.world m.more) c.args.member.now.tx m.t c.args.member.now.work m.is.world (may s m) (omega (arith, all, m.is.world.numbers, c.if-last-ge-LAST.true)); next = tt }

pub spell_as-requires : goal.spell_as-requires
spell_as-requires c =
    let m = c.requires in
    record { world = ahead m.world m.more; tx = c.args.member.now.tx; t = m.t; next = as_next (goal.at.spell_as-requires c).After-len m c.if-last-ge-LAST.false }

pub overflow_sub-free : goal.overflow_sub-free
overflow_sub-free c = grind (arith, fits_ahead, buffer_on)

-- the record is spelled, and what it needs and what is free are the model's
module _ (c : After-len-2) (m : IsNextMember c.args.kept.now c.args.plan.now c.args.member.now) (next : IsNextCommit (ahead m.world m.more) c.args.member.now.tx m.t c.args.kept.now.geometry c.args.member.now.work (c.last.result + c.len.result + 1)) where
  spelled : IsSpelled (ahead m.world m.more) m.t c.spell_as.new.kept
  spelled = c.in_ok-spell_as.ensures.spelled (record { world = ahead m.world m.more; tx = c.args.member.now.tx; t = m.t; next = next })

  needs : length c.with_closed_gate.result.now ≡ need (ahead m.world m.more) m.t
  needs = ap (λ (l : List ℕ). length l) c.with_closed_gate.ensures ∙ length_push c.spell_as.new.kept.buffer.records 0 ∙ record_needs (ahead m.world m.more) m.t c.spell_as.new.kept.buffer.records spelled.next

  left : c.from.result - c.len-2.result ≡ (ahead m.world m.more).geometry.log - used (ahead m.world m.more)
  left = grind (arith, free_ahead, buffer_on)

pub returns-then-free-need-clause-judged : goal.returns-then-free-need-clause-judged
returns-then-free-need-clause-judged c m =
    let s = goal.at.returns-then-free-need-clause-judged c in
    let next = as_next s.After-len m c.if-last-ge-LAST.false in
    record {
      answer = full_so (ahead m.world m.more) c.args.member.now.tx m.t c.args.member.now.work m.is.world next.may _ _ (λ e. absurd (omega (arith, next.fresh, e))) (needs s.After-len-2 m next) (left s.After-len-2 m next) (omega (arith, c.if-free-need.true));
      next = tt;
    }

pub returns-clause-judged : goal.returns-clause-judged
returns-clause-judged c m =
    let s = goal.at.returns-clause-judged c in
    let U : World = ahead m.world m.more in
    let tx = c.args.member.now.tx in
    let work = c.args.member.now.work in
    let next = as_next s.After-len m c.if-last-ge-LAST.false in
    let fits : need U m.t ≤ U.geometry.log - used U = omega (arith, needs s.After-len-2 m next, left s.After-len-2 m next, c.if-free-need.false) in
    let unworn : last U.history ≢ LAST = λ e. absurd (omega (arith, next.fresh, e)) in
    let commits = commits_as U tx m.t work m.is.world next.may unworn fits in
    let spelled_as = spelled s.After-len-2 m next in
    record {
      answer = ap (λ (n : ℕ). member.Committed (n + 1)) (number s.After-len m) ∙ ap member_reply (sym commits);
      next = record { answer = commits; world = next_world U tx m.t work m.is.world next.may unworn fits; next = spelled_as.next; parts = spelled_as.parts };
    }
