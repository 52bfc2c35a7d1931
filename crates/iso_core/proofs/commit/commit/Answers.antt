use Rattle.iso_core.proofs.{Words.{◌≡◌, ◌≢◌, ◌∙◌, ◌⊎◌, inl, inr, sym, refl, ap, ℕ, ◌+◌, ◌-◌, ◌≤◌, [], ◌∷◌, List, length, length_push, arith, subst, Some, None, true, DiskState, IsHeld, LeavesOnly, weakened, MayFollow, half_of_world, next_gate, with_records, LogExtent, extent_of, LAST, CoreReply, last, after_commit, commit_step, need, World, Live, used, IsWorld, Kept, AreOf, IsGrownBy, IsPrepared, IsSpelled, MayAppend, MayCommit, written_of, IsOf, up, ShowsEither}, Causes.{blames_on_err, blames_on_ok, ends_off}, Committing.{committed_core, down_on, fits_log, full_log, grown_by, lost_core, next_commit, next_world, passes_so, prepared_stage, refused_so, spelled_stage}, Moments.{is_committed, is_full, is_worn, shows_either}, Numbers.log_last, Prepares.follows, commit.commit.Goals.{After-last-last, After-with_closed_gate-bytes}}
use Rattle.iso_model.specs.declared.core_reply.CoreReply.TheVariants as reply
use Rattle.iso_core.proofs.commit.commit.Goals as goal

-- the number of the last commit
number : (g : Rattle.iso_core.proofs.commit.commit.Given.Over) (c : After-last-last g) (W : World) → AreOf (g.D.Disk.state c.args.disk.now) c.args.kept.now W up → c.last-last.result ≡ last W.history
number g c W of = c.last-last.ensures ∙ log_last c.args.kept.now W of.kept_of.world of.kept_of.keeps

pub returns-then-last-ge-LAST-clause-ends : goal.returns-then-last-ge-LAST-clause-ends
returns-then-last-ge-LAST-clause-ends g c n =
    let is = number g (goal.at.returns-then-last-ge-LAST-clause-ends g c).After-last-last n.world n.of in
    refused_so (g.D.Disk.state c.args.disk.now) (g.met.D.Disk.lawful c.args.disk.now) c.args.kept.now _ n.world n.t (commit_step n.world n.t None) _ n.of
    (inr (ap Some (sym (is_worn n.world n.t (omega (arith, c.if-last-ge-LAST.true, is, n.of.kept_of.world.numbers)))))) (λ is_disk. cc is_disk)

pub spell_as-requires : goal.spell_as-requires
spell_as-requires g c =
    let n = c.requires in
    record { world = n.world; tx = c.args.tx; t = n.t; next = next_commit (g.D.Disk.state c.args.disk.now) c.args.kept.now n.world c.args.tx n.t c.args.work.now c.last-last.result n.of n.may c.last-last.ensures c.if-last-ge-LAST.false }

pub returns-in-Err-clause-ends : goal.returns-in-Err-clause-ends
returns-in-Err-clause-ends g c n =
    refused_so (g.D.Disk.state c.args.disk.now) (g.met.D.Disk.lawful c.args.disk.now) c.args.kept.now _ n.world n.t (commit_step n.world n.t None) _ n.of (inl refl) (λ is_disk. cc is_disk)

pub returns-then-free-need-clause-ends : goal.returns-then-free-need-clause-ends
returns-then-free-need-clause-ends g c n =
    let stage = spelled_stage (g.D.Disk.state c.args.disk.now) c.args.kept.now c.spell_as.new.kept n.world n.of c.spell_as.ensures.same in
    let next = next_commit (g.D.Disk.state c.args.disk.now) c.args.kept.now n.world c.args.tx n.t c.args.work.now c.last-last.result n.of n.may c.last-last.ensures c.if-last-ge-LAST.false in
    let spelled = c.in_default.ensures.spelled (record { world = n.world; tx = c.args.tx; t = n.t; next = next }) in
    let (need_is, free_is) = full_log c.spell_as.new.kept n.world n.t c.with_closed_gate.result.now c.from-free.result stage.kept_of spelled c.with_closed_gate.ensures (c.from-free.ensures ∙ c.free.ensures) in
    let is = number g (goal.at.returns-then-free-need-clause-ends g c).After-last-last n.world n.of in
    let full = is_full n.world n.t (λ e. absurd (omega (arith, c.if-last-ge-LAST.false, is, e))) (omega (arith, c.if-free-need.true, need_is, free_is)) in
    refused_so (g.D.Disk.state c.args.disk.now) (g.met.D.Disk.lawful c.args.disk.now) c.args.kept.now _ n.world n.t (commit_step n.world n.t None) _ n.of
    (inr ((λ i. Some (reply.LogFull (need_is i) (free_is i))) ∙ ap Some (sym full))) (λ is_disk. cc is_disk)

pub prepare-requires : goal.prepare-requires
prepare-requires g c =
    let n = c.requires in
    let next = next_commit (g.D.Disk.state c.args.disk.now) c.args.kept.now n.world c.args.tx n.t c.args.work.now c.last-last.result n.of n.may c.last-last.ensures c.if-last-ge-LAST.false in
    record {
      world = n.world;
      t = n.t;
      of = (spelled_stage (g.D.Disk.state c.args.disk.now) c.args.kept.now c.spell_as.new.kept n.world n.of c.spell_as.ensures.same).kept_of;
      may = n.may;
      spelled = c.in_default.ensures.spelled (record { world = n.world; tx = c.args.tx; t = n.t; next = next });
      fits = fits_log c.spell_as.new.kept c.with_closed_gate.result.now c.from-free.result c.with_closed_gate.ensures (c.from-free.ensures ∙ c.free.ensures) (omega (arith, c.if-free-need.false));
    }

pub returns-in_default-prepare-clause-ends : goal.returns-in_default-prepare-clause-ends
returns-in_default-prepare-clause-ends g c n =
    refused_so (g.D.Disk.state c.args.disk.now) (g.met.D.Disk.lawful c.args.disk.now) c.args.kept.now _ n.world n.t (commit_step n.world n.t None) _ n.of (inl refl) (λ is_disk. cc is_disk)

-- what there is once all memory is taken
module _ (g : Rattle.iso_core.proofs.commit.commit.Given.Over) (c : After-with_closed_gate-bytes g) (W : World) (t : Live) (of : AreOf (g.D.Disk.state c.args.disk.now) c.args.kept.now W up) (may : MayCommit W c.args.tx t c.args.work.now) where
  one : AreOf (g.D.Disk.state c.args.disk.now) c.spell_as.new.kept W up
  one = spelled_stage (g.D.Disk.state c.args.disk.now) c.args.kept.now c.spell_as.new.kept W of c.spell_as.ensures.same

  two : AreOf (g.D.Disk.state c.args.disk.now) c.prepare.new.kept W up
  two = prepared_stage (g.D.Disk.state c.args.disk.now) c.spell_as.new.kept c.prepare.new.kept W one c.prepare.ensures.rest.stays c.prepare.ensures.rest.only

  spelled : IsSpelled W t c.spell_as.new.kept
  spelled = c.in_default.ensures.spelled (record {
    world = W;
    tx = c.args.tx;
    t = t;
    next = next_commit (g.D.Disk.state c.args.disk.now) c.args.kept.now W c.args.tx t c.args.work.now c.last-last.result of may c.last-last.ensures c.if-last-ge-LAST.false;
  })

  room : c.spell_as.new.kept.log.used + length c.spell_as.new.kept.buffer.records + 1 ≤ c.spell_as.new.kept.log.room
  room = fits_log c.spell_as.new.kept c.with_closed_gate.result.now c.from-free.result c.with_closed_gate.ensures (c.from-free.ensures ∙ c.free.ensures) (omega (arith, c.if-free-need.false))

  prepared : IsPrepared W t c.prepare.new.kept c.in-Ok.writes
  prepared = c.in-Ok.ensures.prepared (record { world = W; t = t; of = one.kept_of; may = may; spelled = spelled; fits = room })

  number_is : c.last-last.result ≡ last W.history
  number_is = c.last-last.ensures ∙ log_last c.args.kept.now W of.kept_of.world of.kept_of.keeps

  fresh : last W.history ≢ LAST
  fresh e = absurd (omega (arith, c.if-last-ge-LAST.false, number_is, e))

  fits : need W t ≤ W.geometry.log - used W
  fits =
      let (need_is, free_is) = full_log c.spell_as.new.kept W t c.with_closed_gate.result.now c.from-free.result one.kept_of spelled c.with_closed_gate.ensures (c.from-free.ensures ∙ c.free.ensures) in
      omega (arith, c.if-free-need.false, need_is, free_is)

  next : IsWorld (after_commit W t)
  next = next_world W c.args.tx t c.args.work.now of.kept_of.world may fresh fits

  commits : commit_step W t None ≡ (reply.Committed (last W.history + 1), after_commit W t)
  commits = is_committed W t fresh fits

  -- so the record may be appended
  may_append : MayAppend (g.D.Disk.state c.args.disk.now) c.prepare.new.kept.log c.prepare.new.kept W (written_of W t ∷ []) c.with_closed_gate-bytes.result.now
  may_append = record {
    of = two;
    log_is = refl;
    all = c.prepare.new.kept.buffer.records;
    next = prepared.spelled.next;
    bytes_are = c.with_closed_gate-bytes.ensures;
    fits = let fit = subst (λ (k : Kept). k.log.used + length k.buffer.records + 1 ≤ k.log.room) (sym c.prepare.ensures.rest.only) room in
        omega (arith, fit, ap (λ (l : List ℕ). length l) c.with_closed_gate-bytes.ensures ∙ length_push c.prepare.new.kept.buffer.records 0);
  }

  follow : MayFollow W.geometry (half_of_world W c.prepare.new.kept.half) (written_of W t ∷ [])
  follow = subst (λ (k : Kept). MayFollow W.geometry (half_of_world W k.half) (written_of W t ∷ [])) (sym c.prepare.ensures.rest.only) (follows c.spell_as.new.kept W c.args.tx t c.args.work.now one.kept_of may spelled room)

pub append-requires : goal.append-requires
append-requires g c =
    let n = c.requires in
    record { kept = c.prepare.new.kept; world = n.world; more = written_of n.world n.t ∷ []; may = may_append g (goal.at.append-requires g c).After-with_closed_gate-bytes n.world n.t n.of n.may }

-- what the images show, whatever an append left of the two
module _ (g : Rattle.iso_core.proofs.commit.commit.Given.Over) (c : After-with_closed_gate-bytes g) (W : World) (t : Live) (of : AreOf (g.D.Disk.state c.args.disk.now) c.args.kept.now W up) (may : MayCommit W c.args.tx t c.args.work.now) (new : DiskState)
    (held : LeavesOnly (g.D.Disk.state c.args.disk.now) new (λ image. IsHeld W.geometry (half_of_world W c.prepare.new.kept.half) image ⊎ IsHeld W.geometry (with_records (written_of W t ∷ []) (half_of_world W c.prepare.new.kept.half)) image)) where
  run : LeavesOnly (g.D.Disk.state c.args.disk.now) new (ShowsEither W (after_commit W t))
  run = weakened held (shows_either W t c.prepare.new.kept.half of.kept_of.world (next g c W t of may))

  shown : LeavesOnly (g.D.Disk.state c.args.disk.now) new (ShowsEither W (commit_step W t None).1)
  shown = subst (λ (x : CoreReply × World). LeavesOnly (g.D.Disk.state c.args.disk.now) new (ShowsEither W x.1)) (sym (commits g c W t of may)) run

-- once the record is there, the commit may be taken in
grown : (g : Rattle.iso_core.proofs.commit.commit.Given.Over) (c : After-with_closed_gate-bytes g) (W : World) (t : Live) (of : AreOf (g.D.Disk.state c.args.disk.now) c.args.kept.now W up) (may : MayCommit W c.args.tx t c.args.work.now) (log : LogExtent) (gate : ℕ)
    → log ≡ extent_of W.geometry (with_records (written_of W t ∷ []) (half_of_world W c.prepare.new.kept.half)) → gate ≡ next_gate W.geometry (half_of_world W c.prepare.new.kept.half)
    → IsGrownBy W c.args.tx t (record c.prepare.new.kept { log = log }) gate c.in-Ok.writes
grown g c W t of may log gate log_is gate_is =
    grown_by W c.args.tx t c.prepare.new.kept (record c.prepare.new.kept { log = log }) gate c.in-Ok.writes (two g c W t of may).kept_of (λ i. record c.prepare.new.kept { log = log_is i }) c.args.work.now may (next g c W t of may)
    (prepared g c W t of may) (follow g c W t of may) gate_is

-- or it was not appended
fallen : (g : Rattle.iso_core.proofs.commit.commit.Given.Over) (c : After-with_closed_gate-bytes g) (W : World) (t : Live) (of : AreOf (g.D.Disk.state c.args.disk.now) c.args.kept.now W up) (may : MayCommit W c.args.tx t c.args.work.now) (log : LogExtent)
    → log ≡ c.prepare.new.kept.log → IsOf (record c.prepare.new.kept { log = log; down = true }) W
fallen g c W t of may log same = subst (λ (l : LogExtent). IsOf (record c.prepare.new.kept { log = l; down = true }) W) (sym same) (down_on c.prepare.new.kept W true (two g c W t of may).kept_of)

pub take_in-requires : goal.take_in-requires
take_in-requires g c =
    let n = c.requires in
    let b = (goal.at.take_in-requires g c).After-with_closed_gate-bytes in
    let appended = c.in-Ok-append.ensures.appended (record { kept = c.prepare.new.kept; world = n.world; more = written_of n.world n.t ∷ []; may = may_append g b n.world n.t n.of n.may }) in
    record { world = n.world; t = n.t; is = grown g b n.world n.t n.of n.may c.append.new.log c.in-Ok-append.gate appended.grown appended.gate }

pub leave-requires : goal.leave-requires
leave-requires g c =
    let n = c.requires in
    record {
      world = n.world;
      t = n.t;
      of = fallen g (goal.at.leave-requires g c).After-with_closed_gate-bytes n.world n.t n.of n.may c.append.new.log c.in-Err-append.ensures.kept;
      here = n.may.here;
    }

pub returns-in-Ok-append-clause-ends : goal.returns-in-Ok-append-clause-ends
returns-in-Ok-append-clause-ends g c n =
    let b = (goal.at.returns-in-Ok-append-clause-ends g c).After-with_closed_gate-bytes in
    let new = g.D.Disk.state c.append.new.disk in
    let appended = c.in-Ok-append.ensures.appended (record { kept = c.prepare.new.kept; world = n.world; more = written_of n.world n.t ∷ []; may = may_append g b n.world n.t n.of n.may }) in
    let taken = (c.take_in.ensures (record { world = n.world; t = n.t; is = grown g b n.world n.t n.of n.may c.append.new.log c.in-Ok-append.gate appended.grown appended.gate })).becomes in
    let fin = committed_core (g.D.Disk.state c.args.disk.now) new c.prepare.new.kept c.take_in.new.kept n.world n.t (two g b n.world n.t n.of n.may) (record { of = taken.of; half = taken.half; down = taken.down }) appended.moments.same_size appended.settled appended.held in
    let is = sym (commits g b n.world n.t n.of n.may) in
    passes_so (g.D.Disk.state c.args.disk.now) new c.take_in.new.kept n.world n.t (commit_step n.world n.t None) _ (
      sym (ap (λ (x : CoreReply × World). x.0) is) ∙ (λ i. reply.Committed (sym (number_is g b n.world n.t n.of n.may) i + 1)),
      subst (λ (x : CoreReply × World). AreOf new c.take_in.new.kept x.1 up) is fin,
    ) (shown g b n.world n.t n.of n.may new appended.moments)

pub returns-in-Err-append-clause-ends : goal.returns-in-Err-append-clause-ends
returns-in-Err-append-clause-ends g c n =
    let b = (goal.at.returns-in-Err-append-clause-ends g c).After-with_closed_gate-bytes in
    let new = g.D.Disk.state c.append.new.disk in
    let held = (c.append.ensures.appended (record { kept = c.prepare.new.kept; world = n.world; more = written_of n.world n.t ∷ []; may = may_append g b n.world n.t n.of n.may })).moments in
    let images = run g b n.world n.t n.of n.may new held in
    let left = c.leave.ensures (record { world = n.world; t = n.t; of = fallen g b n.world n.t n.of n.may c.append.new.log c.in-Err-append.ensures.kept; here = n.may.here }) in
    record {
      ended = tt;
      refused = inl refl;
      lost = λ is_disk. (
        ap (λ (x : CoreReply × World). x.0) (commits g b n.world n.t n.of n.may),
        lost_core new (g.D.Disk.state c.args.disk.now) c.leave.new.kept n.world n.t (g.met.D.Disk.lawful c.append.new.disk) (sym images.same_size) left.of left.down n.of.size images,
      );
      moments = shown g b n.world n.t n.of n.may new held;
    }

pub returns-then-last-ge-LAST-clause-rest : goal.returns-then-last-ge-LAST-clause-rest
returns-then-last-ge-LAST-clause-rest g c =
    record {
      same = λ W of other. of;
      work = refl;
      disk = ends_off g.D.Disk.state c.args.disk.now _ (λ at is. cc is) (λ is. cc is);
    }

pub returns-in-Err-clause-rest : goal.returns-in-Err-clause-rest
returns-in-Err-clause-rest g c =
    record {
      same = λ W of other. spelled_stage (g.D.Disk.state c.args.disk.now) c.args.kept.now c.spell_as.new.kept W of c.spell_as.ensures.same;
      work = refl;
      disk = ends_off g.D.Disk.state c.args.disk.now _ (λ at is. cc is) (λ is. cc is);
    }

pub returns-then-free-need-clause-rest : goal.returns-then-free-need-clause-rest
returns-then-free-need-clause-rest g c =
    record {
      same = λ W of other. spelled_stage (g.D.Disk.state c.args.disk.now) c.args.kept.now c.spell_as.new.kept W of c.spell_as.ensures.same;
      work = refl;
      disk = ends_off g.D.Disk.state c.args.disk.now _ (λ at is. cc is) (λ is. cc is);
    }

pub returns-in_default-prepare-clause-rest : goal.returns-in_default-prepare-clause-rest
returns-in_default-prepare-clause-rest g c =
    record {
      same = λ W of other. prepared_stage (g.D.Disk.state c.args.disk.now) c.spell_as.new.kept c.prepare.new.kept W
          (spelled_stage (g.D.Disk.state c.args.disk.now) c.args.kept.now c.spell_as.new.kept W of c.spell_as.ensures.same) c.prepare.ensures.rest.stays c.prepare.ensures.rest.only;
      work = c.prepare.ensures.work;
      disk = ends_off g.D.Disk.state c.args.disk.now _ (λ at is. cc is) (λ is. cc is);
    }

pub returns-in-Ok-append-clause-rest : goal.returns-in-Ok-append-clause-rest
returns-in-Ok-append-clause-rest g c =
    let n = c.requires in
    let b = (goal.at.returns-in-Ok-append-clause-rest g c).After-with_closed_gate-bytes in
    record {
      same = λ W of. tt;
      work = c.prepare.ensures.work;
      disk = record {
        last = λ at is. cc is;
        unwritten = inl tt;
        told = (c.in-Ok-append.ensures.appended (record { kept = c.prepare.new.kept; world = n.world; more = written_of n.world n.t ∷ []; may = may_append g b n.world n.t n.of n.may })).told;
        cause = blames_on_ok c.in-Ok-append.ensures.cause;
      };
    }

pub returns-in-Err-append-clause-rest : goal.returns-in-Err-append-clause-rest
returns-in-Err-append-clause-rest g c =
    record {
      same = λ W of other. absurd (other refl);
      work = c.prepare.ensures.work;
      disk = record { last = λ at is. cc is; unwritten = inl tt; told = tt; cause = blames_on_err c.in-Err-append.ensures.cause };
    }
