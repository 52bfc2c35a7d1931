-- A core that ends a group.
use Rattle.iso_core.proofs.{Words.{◌≡◌, ◌≢◌, ◌∙◌, ◌⊎◌, inl, inr, sym, refl, ap, ℕ, ◌+◌, ◌<◌, ◌≤◌, true, List, [], ◌∷◌, ◌++◌, drop, get_or, length, map, arith, subst, AllByRecursion, length-append, length-map, length_push, DiskState, IsLawful, IsSettled, LeavesOnly, at_end, Half, IsHeld, half_of_world, next_gate, with_records, extent_of, Commit, Geometry, image_size, History, last, with_commits, IsRecord, records, written, after_leaving, with_live, World, Live, used, IsWorld, length-records, sum_by-map, GroupReply, GroupEnd, Kept, Plan, AreOf, Becomes, IsErrOf, Err, CoreError, Disk, EndsGroup, AreNextRecords, ahead, decided, group, leave_all, IsOf, AreEach, HasPlanned, HasStaged, IsAhead, IsLiveMember, IsReady, IsGrownWith, IsPlannedFor, IsReserved, IsTx, ShowsWith, up, down, ShowsEither, ShowsLast, unsettled, group_is, nothing_ahead}, Judging.{last_ahead, staged_count, used_ahead}, Moments.{shows_world, stays_shown}, Nexts.may_follow, Numbers.{log_room, log_used}, Staging.half_ahead, Standings.stands_as}

-- a world that some have left differs in what is live alone
pub leave_all_is : (members : List Live) (W : World) → leave_all members W ≡ with_live W (leave_all members W).live
leave_all_is [] W = refl
leave_all_is (t ∷ members) W = leave_all_is members (after_leaving W t)

-- the model's answer, by what was decided
pub group_so : (W : World) (members : List Live) (all : List Commit) (replies : List GroupReply) → decided W members ≡ (replies, ahead W all) → group W members ≡ (replies, leave_all members (ahead W all))
group_so W members all replies decides = group_is W members ∙ (λ i. ((decides i).0, leave_all members (decides i).1))

-- the history after a group
pub history_so : (W : World) (members : List Live) (all : List Commit) (replies : List GroupReply) → decided W members ≡ (replies, ahead W all) → (group W members).1.history ≡ with_commits all W.history
history_so W members all replies decides =
    ap (λ (x : List GroupReply × World). x.1.history) (group_so W members all replies decides)
    ∙ ap (λ (V : World). V.history) (leave_all_is members (ahead W all))

records_behind : (g : Geometry) (commits all : List Commit) → AllByRecursion (IsRecord g) (map (written g) (commits ++ all)) → AllByRecursion (IsRecord g) (map (written g) all)
records_behind g [] all are = are
records_behind g (c ∷ commits) all are = records_behind g commits all are.1

module _ (W : World) (all : List Commit) (plan : Plan) (is : IsWorld W) (has : HasStaged W all plan) where
  pub many : length plan.staged.items ≡ length all
  many = staged_count W.geometry 0 plan.staged.items all has.staged

  -- the records that are appended follow the last one
  pub next_records : 0 < length plan.staged.items → AreNextRecords W (map (written W.geometry) all) (records W.geometry (last W.history + 1) (map (written W.geometry) all))
  next_records some =
      let count = length-map all (written W.geometry) in
      record {
        some = omega (arith, some, many, count);
        each = records_behind W.geometry W.history.commits all has.world.records;
        numbers = omega (arith, count, last_ahead W all is, has.world.numbers);
        bytes_are = refl;
      }

  pub bytes_fit : used W + length (records W.geometry (last W.history + 1) (map (written W.geometry) all)) + 1 ≤ W.geometry.log
  bytes_fit = grind (arith, length-records, sum_by-map, used_ahead)

  pub fits_kept : (kept : Kept) (bytes : List ℕ) → IsOf kept W → bytes ≡ records W.geometry (last W.history + 1) (map (written W.geometry) all) ++ 0 ∷ [] → kept.log.used + length bytes ≤ kept.log.room
  fits_kept kept bytes of bytes_are =
      let count = ap (λ (l : List ℕ). length l) bytes_are ∙ length_push (records W.geometry (last W.history + 1) (map (written W.geometry) all)) 0 in
      omega (arith, count, log_used kept W of.world of.keeps, log_room kept W of.world of.keeps, bytes_fit)

  -- no commit, no change
  pub none_ahead : length plan.staged.items ≡ 0 → ahead W all ≡ W
  none_ahead none = go all (omega (arith, none, many))
    where
      go : (commits : List Commit) → length commits ≡ 0 → ahead W commits ≡ W
      go [] e = sym (nothing_ahead W)
      go (c ∷ commits) e = absurd (omega (arith, e))

  -- the records were appended, and the commits may be taken in
  pub grown_with : (kept new : Kept) (gate : ℕ) → 0 < length plan.staged.items → IsOf kept W → IsReserved plan kept
      → new ≡ record kept { log = extent_of W.geometry (with_records (map (written W.geometry) all) (half_of_world W kept.half)) }
      → gate ≡ next_gate W.geometry (half_of_world W kept.half) → IsGrownWith W all plan new gate
  grown_with kept new gate some of reserved new_is gate_is =
      subst (λ (k : Kept). IsGrownWith W all plan k gate) (sym new_is) (record {
        old_log = kept.log;
        was = of;
        ahead_of = has;
        reserved = record { room = reserved.room; note_room = reserved.note_room };
        follows = may_follow W kept.half (map (written W.geometry) all) (records W.geometry (last W.history + 1) (map (written W.geometry) all)) is (next_records some) bytes_fit;
        log = refl;
        gate_is = gate_is;
      })

  -- what an image shows before the group or after the whole of it
  pub shows_group : (at : ℕ) (members : List Live) (c : List ℕ) → IsHeld W.geometry (half_of_world W at) c ⊎ IsHeld W.geometry (with_records (map (written W.geometry) all) (half_of_world W at)) c
      → ShowsEither W (leave_all members (ahead W all)) c
  shows_group at members c (inl before) = inl (shows_world W at is c before)
  shows_group at members c (inr after) =
      inr (subst (λ (V : World). ShowsLast V c) (sym (leave_all_is members (ahead W all)))
      (shows_world (ahead W all) at has.world c (subst (λ (h : Half). IsHeld W.geometry h c) (sym (half_ahead W all at is)) after)))

  pub shows_lost : (at : ℕ) (members : List Live) (c : List ℕ) → IsHeld W.geometry (half_of_world W at) c ⊎ IsHeld W.geometry (with_records (map (written W.geometry) all) (half_of_world W at)) c
      → ShowsWith (leave_all members W) all c
  shows_lost at members c held = subst (λ (V : World). ShowsWith V all c) (sym (leave_all_is members W)) (go held)
    where
      go : IsHeld W.geometry (half_of_world W at) c ⊎ IsHeld W.geometry (with_records (map (written W.geometry) all) (half_of_world W at)) c → ShowsWith W all c
      go (inl before) = inl (shows_world W at is c before)
      go (inr after) = inr (shows_world (ahead W all) at has.world c (subst (λ (h : Half). IsHeld W.geometry h c) (sym (half_ahead W all at is)) after))

  -- a core that committed a group
  pub group_core : (old new : DiskState) (kept fin : Kept) (members : List Live) → AreOf old kept W up → Becomes kept fin (leave_all members (ahead W all)) → new.size ≡ old.size → IsSettled new
      → ((c : List ℕ) → new.now c → IsHeld W.geometry (with_records (map (written W.geometry) all) (half_of_world W kept.half)) c) → AreOf new fin (leave_all members (ahead W all)) up
  group_core old new kept fin members of is_fin same settled held =
      subst (λ (V : World). AreOf new fin V up) (sym (leave_all_is members (ahead W all)))
      (record {
        kept_of = subst (IsOf fin) (leave_all_is members (ahead W all)) is_fin.of;
        is_down = is_fin.down ∙ of.is_down;
        size = same ∙ of.size;
        images = record {
          settled = settled;
          each = λ c image. subst (λ (n : ℕ). IsHeld W.geometry (half_of_world (ahead W all) n) c) (sym is_fin.half)
              (subst (λ (h : Half). IsHeld W.geometry h c) (sym (half_ahead W all kept.half is)) (held c image));
        };
      })

-- a group that failed before the first call of the disk
pub group_refused : {D T : Type 0} (state : D → DiskState) (d : D) (laws : IsLawful (state d)) (kept new : Kept) (W : World) (members : List Live) (Told : List GroupReply → Type 0) (e : CoreError) → AreOf (state d) kept W up
    → (IsErrOf {T = T} (Err e) Disk → ⊥) → EndsGroup {T = T} state W members Told d d new (Err e)
group_refused state d laws kept new W members Told e of other = record {
  ended = tt;
  moments = stays_shown (state d) laws kept W (group W members).1 of;
  lost = λ failed. absurd (other failed);
  commits = λ failed. absurd (other failed);
  unwritten = λ same. refl;
}

-- a core without its members
pub left_all : (d : DiskState) (kept fin : Kept) (W : World) (members : List Live) → AreOf d kept W up → Becomes kept fin (leave_all members W) → AreOf d fin (leave_all members W) up
left_all d kept fin W members of left =
    subst (λ (V : World). AreOf d fin V up) (sym (leave_all_is members W))
    (stands_as d kept fin W up (leave_all members W).live W.next W.trim of (subst (Becomes kept fin) (leave_all_is members W) left))

-- a core that a fault set down in a group
pub lost_group : (old new : DiskState) (fin : Kept) (W : World) (all : List Commit) (members : List Live) → IsLawful new → old.size ≡ new.size → IsOf fin (leave_all members W) → fin.down ≡ true
    → old.size ≡ image_size (leave_all members W).geometry → LeavesOnly old new (ShowsWith (leave_all members W) all) → AreOf new fin (leave_all members W) (down all)
lost_group old new fin W all members laws same fin_of fin_down size run = record {
  kept_of = fin_of;
  is_down = fin_down;
  size = sym same ∙ size;
  images = at_end laws run;
}

pub members_ahead : (W : World) (more : List Commit) (ms : List GroupEnd) (ts : List Live) → AreEach (IsLiveMember W) ms ts → AreEach (IsLiveMember (ahead W more)) ms ts
members_ahead W more [] [] each = tt
members_ahead W more [] (t ∷ ts) each = absurd each
members_ahead W more (m ∷ ms) [] each = absurd each
members_ahead W more (m ∷ ms) (t ∷ ts) each = (record { number = each.0.number; among = each.0.among }, each.1, members_ahead W more ms ts each.2)

-- members that were ready are live, however far their works are settled
pub live_members : (W : World) (new old : List GroupEnd) (ts : List Live) → map unsettled new ≡ map unsettled old → AreEach (IsReady W) old ts → AreEach (IsLiveMember W) new ts
live_members W [] [] [] same each = tt
live_members W [] [] (t ∷ ts) same each = absurd each
live_members W [] (m ∷ old) ts same each = absurd (cc same)
live_members W (n ∷ new) [] ts same each = absurd (cc same)
live_members W (n ∷ new) (m ∷ old) [] same each = absurd each
live_members W (n ∷ new) (m ∷ old) (t ∷ ts) same each = (
  subst (λ (tx : ℕ). IsTx W tx t) (sym (ap (λ (l : List GroupEnd). (get_or l 0 m).tx) same)) each.0.here,
  each.1,
  live_members W new old ts (ap (drop 1) same) each.2,
)

-- a plan with a commit leads to another history
pub other_history : (W : World) (members : List Live) (all : List Commit) (replies : List GroupReply) → decided W members ≡ (replies, ahead W all) → 0 < length all → (group W members).1.history ≢ W.history
other_history W members all replies decides some same =
    absurd (omega (arith, ap (λ (H : History). length H.commits) (sym (history_so W members all replies decides) ∙ same), length-append W.history.commits all, some))

-- before the first member nothing is planned
pub ahead_none : (W : World) (plan : Plan) → IsWorld W → plan.bytes.items ≡ [] → plan.staged.items ≡ [] → plan.parts.items ≡ [] → plan.notes.notes ≡ [] → IsAhead W [] plan
ahead_none W plan is bytes staged parts notes = grind (arith, nothing_ahead)

pub planned_for : (W : World) (members : List Live) (mid plan : Plan) (kept : Kept) (old new : List GroupReply) (h : HasPlanned W [] members mid old new) → old ≡ []
    → plan.notes.notes ≡ mid.notes.notes → plan.staged.items ≡ mid.staged.items → plan.parts.items ≡ mid.parts.items → plan.bytes.items ≡ mid.bytes.items ++ 0 ∷ [] → IsReserved plan kept → IsPlannedFor W members plan kept new
planned_for W members mid plan kept old new h none notes staged parts bytes reserved = grind (arith, nothing_ahead)
