use Rattle.iso_core.proofs.{Words.{◌≡◌, ◌≢◌, ◌∙◌, ◌⊎◌, inl, sym, refl, ap, ℕ, ◌+◌, ◌<◌, true, List, length, map, subst, arith, DiskState, LeavesOnly, weakened, IsHeld, half_of_world, next_gate, with_records, LogExtent, extent_of, image_size, last, records, written, World, Live, GroupReply, AreOf, AreNextRecords, ahead, group, leave_all, IsOf, AreEach, IsGrownWith, IsLiveMember, IsPlannedFor, IsReady, MayAppend, up, ShowsEither}, Causes.{blames_on_err, blames_on_ok, group_off, group_passes_off}, Committing.{down_on, keeps_stand}, Grouping.{fits_kept, group_core, group_refused, group_so, grown_with, history_so, leave_all_is, left_all, live_members, lost_group, many, members_ahead, next_records, none_ahead, other_history, shows_group, shows_lost}, Moments.stays_shown, Standings.becomes_then, group.end_ready.Goals.After-as_slice}
use Rattle.iso_core.proofs.group.end_ready.Goals as goal

pub prepare_group-requires : goal.prepare_group-requires
prepare_group-requires g c =
    let m = c.requires in
    record { world = m.world; members = m.members; of = m.of.kept_of; each = m.each }

pub returns-in-Err-clause-ends : goal.returns-in-Err-clause-ends
returns-in-Err-clause-ends g c = record {
  group = λ m.
      group_refused g.D.Disk.state c.args.disk.now (g.met.D.Disk.lawful c.args.disk.now) c.args.kept.now c.prepare_group.new.kept m.world m.members (λ told. c.prepare_group.new.replies.items ≡ told) _ m.of (λ is_disk. cc is_disk);
  same = λ W of other. keeps_stand (g.D.Disk.state c.args.disk.now) c.args.kept.now c.prepare_group.new.kept W of (c.prepare_group.ensures.same W of.kept_of);
  disk = group_off g.D.Disk.state c.args.disk.now;
}

pub leave_members-requires : goal.leave_members-requires
leave_members-requires g c =
    let m = c.requires in
    record { world = m.world; members = m.members; of = (c.prepare_group.ensures.same m.world m.of.kept_of).of; each = live_members m.world c.prepare_group.new.ends c.args.ends.now m.members c.prepare_group.ensures.members m.each }

pub returns-then-is_bare-clause-ends : goal.returns-then-is_bare-clause-ends
returns-then-is_bare-clause-ends g c = record {
  group = λ m.
      let d = g.D.Disk.state c.args.disk.now in
      let kept = c.prepare_group.new.kept in
      let replies = c.prepare_group.new.replies.items in
      let one = c.prepare_group.ensures.same m.world m.of.kept_of in
      let p = c.in_default.ensures.planned (record { world = m.world; members = m.members; of = m.of.kept_of; each = m.each }) in
      let e = none_ahead m.world p.all c.prepare_group.new.plan m.of.kept_of.world p.has (c.is_bare.ensures.none c.if-is_bare.true) in
      let whole = sym (group_so m.world m.members p.all replies p.decides ∙ (λ i. (replies, leave_all m.members (e i)))) in
      let left = c.leave_members.ensures (record { world = m.world; members = m.members; of = one.of; each = live_members m.world c.prepare_group.new.ends c.args.ends.now m.members c.prepare_group.ensures.members m.each }) in
      record {
        ended = (
          ap (λ (x : List GroupReply × World). x.0) whole,
          subst (λ (x : List GroupReply × World). AreOf d c.leave_members.new.kept x.1 up) whole (left_all d kept c.leave_members.new.kept m.world m.members (keeps_stand d c.args.kept.now kept m.world m.of one) left.becomes),
        );
        moments = stays_shown d (g.met.D.Disk.lawful c.args.disk.now) c.args.kept.now m.world (group m.world m.members).1 m.of;
        lost = λ failed. absurd cc;
        commits = λ failed. absurd cc;
        unwritten = λ same. refl;
      };
  same = λ W of. tt;
  disk = group_passes_off g.D.Disk.state c.args.disk.now _;
}

-- what is to be appended
module _ (g : Rattle.iso_core.proofs.group.end_ready.Given.Over) (c : After-as_slice g) (W : World) (members : List Live) (of : AreOf (g.D.Disk.state c.args.disk.now) c.args.kept.now W up) (each : AreEach (IsReady W) c.args.ends.now members) where
  stands : AreOf (g.D.Disk.state c.args.disk.now) c.prepare_group.new.kept W up
  stands = keeps_stand (g.D.Disk.state c.args.disk.now) c.args.kept.now c.prepare_group.new.kept W of (c.prepare_group.ensures.same W of.kept_of)

  abbrev planned : IsPlannedFor W members c.prepare_group.new.plan c.prepare_group.new.kept c.prepare_group.new.replies.items
  planned = c.in_default.ensures.planned (record { world = W; members = members; of = of.kept_of; each = each })

  some : 0 < length c.prepare_group.new.plan.staged.items
  some = c.is_bare.ensures.some c.if-is_bare.false

  abbrev all : List ℕ
  all = records W.geometry (last W.history + 1) (map (written W.geometry) planned.all)

  next : AreNextRecords W (map (written W.geometry) planned.all) all
  next = next_records W planned.all c.prepare_group.new.plan of.kept_of.world planned.has some

  may_append : MayAppend (g.D.Disk.state c.args.disk.now) c.prepare_group.new.kept.log c.prepare_group.new.kept W (map (written W.geometry) planned.all) c.as_slice.result.now
  may_append = record {
    of = stands;
    log_is = refl;
    all = all;
    next = next;
    bytes_are = c.as_slice.ensures.value ∙ planned.bytes;
    fits = fits_kept W planned.all c.prepare_group.new.plan of.kept_of.world planned.has c.prepare_group.new.kept c.as_slice.result.now stands.kept_of (c.as_slice.ensures.value ∙ planned.bytes);
  }

  whole : (c.prepare_group.new.replies.items, leave_all members (ahead W planned.all)) ≡ group W members
  whole = sym (group_so W members planned.all c.prepare_group.new.replies.items planned.decides)

  changes : (group W members).1.history ≢ W.history
  changes = other_history W members planned.all c.prepare_group.new.replies.items planned.decides (let n = many W planned.all c.prepare_group.new.plan of.kept_of.world planned.has in omega (arith, n, some))

  grown : (log : LogExtent) (gate : ℕ) → log ≡ extent_of W.geometry (with_records (map (written W.geometry) planned.all) (half_of_world W c.prepare_group.new.kept.half))
      → gate ≡ next_gate W.geometry (half_of_world W c.prepare_group.new.kept.half) → IsGrownWith W planned.all c.prepare_group.new.plan (record c.prepare_group.new.kept { log = log }) gate
  grown log gate log_is gate_is =
      grown_with W planned.all c.prepare_group.new.plan of.kept_of.world planned.has c.prepare_group.new.kept (record c.prepare_group.new.kept { log = log }) gate some stands.kept_of planned.reserved (λ i. record c.prepare_group.new.kept { log = log_is i }) gate_is

  fallen : (log : LogExtent) → log ≡ c.prepare_group.new.kept.log → IsOf (record c.prepare_group.new.kept { log = log; down = true }) W
  fallen log same = subst (λ (l : LogExtent). IsOf (record c.prepare_group.new.kept { log = l; down = true }) W) (sym same) (down_on c.prepare_group.new.kept W true stands.kept_of)

  live : AreEach (IsLiveMember W) c.prepare_group.new.ends members
  live = live_members W c.prepare_group.new.ends c.args.ends.now members c.prepare_group.ensures.members each

  -- the images show the history before or after, where they hold so much
  shown : (new : DiskState) → LeavesOnly (g.D.Disk.state c.args.disk.now) new (λ image. IsHeld W.geometry (half_of_world W c.prepare_group.new.kept.half) image
      ⊎ IsHeld W.geometry (with_records (map (written W.geometry) planned.all) (half_of_world W c.prepare_group.new.kept.half)) image) → LeavesOnly (g.D.Disk.state c.args.disk.now) new (ShowsEither W (group W members).1)
  shown new run =
      subst (λ (x : List GroupReply × World). LeavesOnly (g.D.Disk.state c.args.disk.now) new (ShowsEither W x.1)) whole
      (weakened run (shows_group W planned.all c.prepare_group.new.plan of.kept_of.world planned.has c.prepare_group.new.kept.half members))

pub append-requires : goal.append-requires
append-requires g c =
    let m = c.requires in
    let s = (goal.at.append-requires g c).After-as_slice in
    record { kept = c.prepare_group.new.kept; world = m.world; more = map (written m.world.geometry) (planned g s m.world m.members m.of m.each).all; may = may_append g s m.world m.members m.of m.each }

pub take_plan-requires : goal.take_plan-requires
take_plan-requires g c =
    let m = c.requires in
    let s = (goal.at.take_plan-requires g c).After-as_slice in
    let p = planned g s m.world m.members m.of m.each in
    let appended = c.in-Ok.ensures.appended (record { kept = c.prepare_group.new.kept; world = m.world; more = map (written m.world.geometry) p.all; may = may_append g s m.world m.members m.of m.each }) in
    record { world = m.world; more = p.all; is = grown g s m.world m.members m.of m.each c.append.new.log c.in-Ok.gate appended.grown appended.gate }

pub leave_members-requires-in-Ok : goal.leave_members-requires-in-Ok
leave_members-requires-in-Ok g c =
    let m = c.requires in
    let s = (goal.at.leave_members-requires-in-Ok g c).After-as_slice in
    let p = planned g s m.world m.members m.of m.each in
    let appended = c.in-Ok.ensures.appended (record { kept = c.prepare_group.new.kept; world = m.world; more = map (written m.world.geometry) p.all; may = may_append g s m.world m.members m.of m.each }) in
    record {
      world = ahead m.world p.all;
      members = m.members;
      of = (c.take_plan.ensures (record { world = m.world; more = p.all; is = grown g s m.world m.members m.of m.each c.append.new.log c.in-Ok.gate appended.grown appended.gate })).of;
      each = members_ahead m.world p.all c.prepare_group.new.ends m.members (live g s m.world m.members m.of m.each);
    }

pub leave_members-requires-in-Err-append : goal.leave_members-requires-in-Err-append
leave_members-requires-in-Err-append g c =
    let m = c.requires in
    let s = (goal.at.leave_members-requires-in-Err-append g c).After-as_slice in
    record { world = m.world; members = m.members; of = fallen g s m.world m.members m.of m.each c.append.new.log c.in-Err-append.ensures.kept; each = live g s m.world m.members m.of m.each }

pub returns-in-Ok-clause-ends : goal.returns-in-Ok-clause-ends
returns-in-Ok-clause-ends g c = record {
  group = λ m.
      let s = (goal.at.returns-in-Ok-clause-ends g c).After-as_slice in
      let d = g.D.Disk.state c.args.disk.now in
      let new = g.D.Disk.state c.append.new.disk in
      let p = planned g s m.world m.members m.of m.each in
      let appended = c.in-Ok.ensures.appended (record { kept = c.prepare_group.new.kept; world = m.world; more = map (written m.world.geometry) p.all; may = may_append g s m.world m.members m.of m.each }) in
      let taken = c.take_plan.ensures (record { world = m.world; more = p.all; is = grown g s m.world m.members m.of m.each c.append.new.log c.in-Ok.gate appended.grown appended.gate }) in
      let left = c.leave_members-in-Ok.ensures (record { world = ahead m.world p.all; members = m.members; of = taken.of; each = members_ahead m.world p.all c.prepare_group.new.ends m.members (live g s m.world m.members m.of m.each) }) in
      let fin = becomes_then taken left.becomes in
      record {
        ended = (
          ap (λ (x : List GroupReply × World). x.0) (whole g s m.world m.members m.of m.each),
          subst (λ (x : List GroupReply × World). AreOf new c.leave_members-in-Ok.new.kept x.1 up) (whole g s m.world m.members m.of m.each)
              (group_core m.world p.all c.prepare_group.new.plan m.of.kept_of.world p.has d new c.prepare_group.new.kept c.leave_members-in-Ok.new.kept m.members (stands g s m.world m.members m.of m.each)
              (record { of = fin.of; half = fin.half; down = fin.down }) appended.moments.same_size appended.settled appended.held),
        );
        moments = shown g s m.world m.members m.of m.each new appended.moments;
        lost = λ failed. absurd cc;
        commits = λ failed. absurd cc;
        unwritten = λ same. absurd (changes g s m.world m.members m.of m.each same);
      };
  same = λ W of. tt;
  disk = let m = c.requires in
      let s = (goal.at.returns-in-Ok-clause-ends g c).After-as_slice in
      record {
        only = tt;
        untouched = tt;
        told = (c.in-Ok.ensures.appended (record { kept = c.prepare_group.new.kept; world = m.world; more = map (written m.world.geometry) (planned g s m.world m.members m.of m.each).all; may = may_append g s m.world m.members m.of m.each })).told;
        cause = blames_on_ok c.in-Ok.ensures.cause;
      };
}

pub returns-in-Err-append-clause-ends : goal.returns-in-Err-append-clause-ends
returns-in-Err-append-clause-ends g c = record {
  group = λ m.
      let s = (goal.at.returns-in-Err-append-clause-ends g c).After-as_slice in
      let new = g.D.Disk.state c.append.new.disk in
      let p = planned g s m.world m.members m.of m.each in
      let run = (c.append.ensures.appended (record { kept = c.prepare_group.new.kept; world = m.world; more = map (written m.world.geometry) p.all; may = may_append g s m.world m.members m.of m.each })).moments in
      let left = (c.leave_members-in-Err-append.ensures (record { world = m.world; members = m.members; of = fallen g s m.world m.members m.of m.each c.append.new.log c.in-Err-append.ensures.kept; each = live g s m.world m.members m.of m.each })).becomes in
      record {
        ended = tt;
        moments = shown g s m.world m.members m.of m.each new run;
        lost = λ failed. (
          p.all,
          history_so m.world m.members p.all c.prepare_group.new.replies.items p.decides,
          lost_group (g.D.Disk.state c.args.disk.now) new c.leave_members-in-Err-append.new.kept m.world p.all m.members (g.met.D.Disk.lawful c.append.new.disk) (sym run.same_size) left.of left.down
              (m.of.size ∙ ap (λ (V : World). image_size V.geometry) (sym (leave_all_is m.members m.world)))
              (weakened run (shows_lost m.world p.all c.prepare_group.new.plan m.of.kept_of.world p.has c.prepare_group.new.kept.half m.members)),
        );
        commits = λ failed. changes g s m.world m.members m.of m.each;
        unwritten = λ same. absurd (changes g s m.world m.members m.of m.each same);
      };
  same = λ W of other. absurd (other refl);
  disk = record { only = inl refl; untouched = λ other. absurd (other refl); told = tt; cause = blames_on_err c.in-Err-append.ensures.cause };
}
