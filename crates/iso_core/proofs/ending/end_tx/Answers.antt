use Rattle.iso_core.proofs.{Words.{◌≡◌, ◌∙◌, inl, refl, sym, ap, subst, None, true, clash, commit_step, CoreReply, has_write, end_step, World, Live, AreOf, Doing, EndsAs, IsCheckedOf, IsTx, IsWorkOf, MayCommit, up}, Causes.{ends_off, passes_off}, Committing.{passes_so, refused_so}, Endings.{ends_by, ends_in_conflict, ends_read_only, left_so, may_commit}, Moments.stays_shown}
use Rattle.iso_core.proofs.ending.end_tx.Goals as goal

pub leave-requires : goal.leave-requires
leave-requires g c =
    let m = c.requires in
    record { world = m.world; t = m.t; of = m.of.kept_of; here = m.here }

pub returns-then-not-has_write-clause-ends : goal.returns-then-not-has_write-clause-ends
returns-then-not-has_write-clause-ends g c m =
    let d = g.D.Disk.state c.args.disk.now in
    passes_so d d c.leave.new.kept m.world m.t (end_step m.world m.t) _
    (left_so d c.args.kept.now c.leave.new.kept m.world m.t (ends_read_only m.world m.t (ap has_write (sym m.is_work.accesses) ∙ sym c.has_write.ensures ∙ c.if-not-has_write.true)) m.of (c.leave.ensures (record { world = m.world; t = m.t; of = m.of.kept_of; here = m.here })))
    (stays_shown d (g.met.D.Disk.lawful c.args.disk.now) c.args.kept.now m.world (end_step m.world m.t).1 m.of)

pub returns-in-Err-clause-ends : goal.returns-in-Err-clause-ends
returns-in-Err-clause-ends g c m =
    refused_so (g.D.Disk.state c.args.disk.now) (g.met.D.Disk.lawful c.args.disk.now) c.args.kept.now c.args.kept.now m.world m.t (end_step m.world m.t) _ m.of (inl refl) (λ is_disk. cc is_disk)

pub leave-requires-in-Some : goal.leave-requires-in-Some
leave-requires-in-Some g c =
    let m = c.requires in
    record { world = m.world; t = m.t; of = m.of.kept_of; here = m.here }

pub returns-in-Some-clause-ends : goal.returns-in-Some-clause-ends
returns-in-Some-clause-ends g c m =
    let d = g.D.Disk.state c.args.disk.now in
    let write : has_write m.t.accesses ≡ true = ap has_write (sym m.is_work.accesses) ∙ sym c.has_write.ensures ∙ c.if-not-has_write.false in
    passes_so d d c.leave-in-Some.new.kept m.world m.t (end_step m.world m.t) _
    (left_so d c.args.kept.now c.leave-in-Some.new.kept m.world m.t (ends_in_conflict m.world m.t c.in-Some.clash write (sym c.in-Some.is ∙ c.in-Ok.ensures.clash (record { world = m.world; t = m.t; of = m.of.kept_of; here = m.here }) m.is_work m.is)) m.of (c.leave-in-Some.ensures (record { world = m.world; t = m.t; of = m.of.kept_of; here = m.here })))
    (stays_shown d (g.met.D.Disk.lawful c.args.disk.now) c.args.kept.now m.world (end_step m.world m.t).1 m.of)

pub commit-requires : goal.commit-requires
commit-requires g c =
    let m = c.requires in
    let write : has_write m.t.accesses ≡ true = ap has_write (sym m.is_work.accesses) ∙ sym c.has_write.ensures ∙ c.if-not-has_write.false in
    record { world = m.world; t = m.t; of = m.of; may = may_commit m.world c.args.tx m.t c.decide_end.new.work m.here (c.in-Ok.ensures.settled m.world m.t m.is_work) write (sym c.in_default.is ∙ c.in-Ok.ensures.clash (record { world = m.world; t = m.t; of = m.of.kept_of; here = m.here }) m.is_work m.is) }

-- it may commit, and the model's end is that commit
module _ (g : Rattle.iso_core.proofs.ending.end_tx.Given.Over) (c : goal.After-commit g) (W : World) (t : Live) (of : AreOf (g.D.Disk.state c.args.disk.now) c.args.kept.now W up) (here : IsTx W c.args.tx t) (is_work : IsWorkOf W t c.args.work.now)
    (is : IsCheckedOf W t c.args.checked.now) where
  write : has_write t.accesses ≡ true
  write = ap has_write (sym is_work.accesses) ∙ sym c.has_write.ensures ∙ c.if-not-has_write.false

  none : None ≡ clash W.geometry W.history t.mode t.begin t.accesses
  none = sym c.in_default.is ∙ c.in-Ok.ensures.clash (record { world = W; t = t; of = of.kept_of; here = here }) is_work is

  may : MayCommit W c.args.tx t c.decide_end.new.work
  may = may_commit W c.args.tx t c.decide_end.new.work here (c.in-Ok.ensures.settled W t is_work) write none

  step : commit_step W t None ≡ end_step W t
  step = sym (ends_by W t None write none)

pub returns-clause-ends : goal.returns-clause-ends
returns-clause-ends g c m =
    subst (λ (x : CoreReply × World). EndsAs m.world m.t x (g.D.Disk.state c.args.disk.now) (g.D.Disk.state c.commit.new.disk) c.commit.new.kept c.commit.result) (step g c m.world m.t m.of m.here m.is_work m.is)
    (c.commit.ensures.ends (record { world = m.world; t = m.t; of = m.of; may = may g c m.world m.t m.of m.here m.is_work m.is }))

pub returns-then-not-has_write-clause-rest : goal.returns-then-not-has_write-clause-rest
returns-then-not-has_write-clause-rest g c = record { same = λ W of. tt; work = refl; disk = passes_off g.D.Disk.state c.args.disk.now _ }

pub returns-in-Err-clause-rest : goal.returns-in-Err-clause-rest
returns-in-Err-clause-rest g c = record { same = λ W of other. of; work = c.decide_end.ensures.same; disk = ends_off g.D.Disk.state c.args.disk.now _ (λ at is. cc is) (λ is. cc is) }

pub returns-in-Some-clause-rest : goal.returns-in-Some-clause-rest
returns-in-Some-clause-rest g c = record { same = λ W of. tt; work = c.decide_end.ensures.same; disk = passes_off g.D.Disk.state c.args.disk.now _ }

pub returns-clause-rest : goal.returns-clause-rest
returns-clause-rest g c =
    let rest = c.commit.ensures.rest in
    record {
      same = rest.same;
      work = rest.work ∙ ap (λ (w : Doing). record w { settled = c.commit.new.work.settled }) c.decide_end.ensures.same;
      disk = rest.disk;
    }
