-- Each call of a core leaves an entry that is legal at its place, and the core then represents the state after it.
use Rattle.iso_shared.proofs.Words.{◌≡◌, inl, inr, ⊎_elim, ℕ, ◌<◌, ◌≤◌, Bool, true, false, cond, List, [], ◌∷◌, Option, Some, None, Result, Ok, Err, IfOk, IfErr, OnOk, OnErr, IsSome, length, refl, sym, ap, ◌∙◌, subst, arith, is_some, nat_tests, ForSome, Begun, Stat, Core, BlamesDisk, IsAmong, IsTx, Refuses, StandsFor, disk_of, bare, Standing, up, down, is_down, DiskState, WritesNothing, Access, Commit, Mode, CoreError, array_at, last, block_at, after_begin, after_leaving, after_trim, begin_step, mode_named, versions, World, Live, floor, unattached, used, Call, Entry, Answers, IsCall, IsOfCore, MayWantMemory, answer_to, numbers_at, Holds, faults_of, standing_of, State, after, is_live, live_of, tx_of, with_world, begin_entry, cause_of, entry_of, fetch_entry, numbers_of, trim_entry, ◌≢◌, ◌⊎◌, IsErrOf, StaysTold, CoreReply, after_switch, switch_step, switch_answer, compact_entry, upgrade_entry}
use Rattle.std.specs.Prelude.{◌==◌}
use Rattle.iso_model.specs.declared.core_error.CoreError.TheVariants as error
use Rattle.iso_model.specs.declared.core_reply.CoreReply.TheVariants as reply
use Rattle.iso_shared.specs.declared.entry.Call.TheVariants as call
use Rattle.iso_shared.specs.declared.entry.Entry.TheVariants as entry

-- the transaction of this number is one of those that are live, where it is
among_by : (n : ℕ) (t u : Live) (live : List Live) (b : Bool) → (u.number == n) ≡ b → cond b true (is_live n live) ≡ true → bare t ≡ bare (record (cond b u (live_of n live)) { number = n })
    → (is_live n live ≡ true → bare t ≡ bare (record (live_of n live) { number = n }) → IsAmong t live) → IsAmong t (u ∷ live)
among_by n t u live true is here same ih = inl (bare_same u n t is same)
  where
    bare_same : (u : Live) (n : ℕ) (t : Live) → (u.number == n) ≡ true → bare t ≡ bare (record u { number = n }) → bare u ≡ bare t
    bare_same u n t is same = let number : u.number ≡ n = grind (arith, nat_tests) in ap (λ (k : ℕ). bare (record u { number = k })) number ∙ sym same
among_by n t u live false is here same ih = inr (ih here same)

pub among : (n : ℕ) (t : Live) (live : List Live) → is_live n live ≡ true → bare t ≡ bare (record (live_of n live) { number = n }) → IsAmong t live
among n t [] is same = absurd (cc is)
among n t (u ∷ live) is same = among_by n t u live (u.number == n) refl is same (among n t live)

-- the transaction of the list is one of the world
pub is_tx : (W : World) (n : ℕ) (accesses : List Access) → is_live n W.live ≡ true → IsTx W n (tx_of W n accesses)
is_tx W n accesses is = record { number = refl; among = among n (tx_of W n accesses) W.live is refl }

module _ {D : Type 0} (disk : D → DiskState) where
  -- the entry is legal at its place, and the core represents the state after it
  abbrev pub Did : State → Core D → Entry → Type 0
  Did S new e = Answers S e × Holds disk new (after S e)

  -- by whether the device is up
  pub by_lost : (S : State) (old : Core D) (P : Type 0) → Holds disk old S → (S.lost ≡ None → StandsFor disk old S.world up → P) → ((lost : List Commit) → S.lost ≡ Some lost → StandsFor disk old S.world (down lost) → P) → P
  by_lost S old P h is_up is_down = by S.lost refl
    where
      by : (o : Option (List Commit)) → S.lost ≡ o → P
      by None is = is_up is (subst (λ v. StandsFor disk old S.world (standing_of v)) is h.world)
      by (Some lost) is = is_down lost is (subst (λ v. StandsFor disk old S.world (standing_of v)) is h.world)

  -- the core represents the state with another world, and its disk has told and counted as before
  pub holds_up : (S : State) (old new : Core D) (W : World) → S.lost ≡ None → Holds disk old S → StandsFor disk new W up → faults_of disk old ≤ faults_of disk new
      → (IsSome (disk (disk_of old)).contents → IsSome (disk (disk_of new)).contents) → Holds disk new (with_world S W)
  holds_up S old new W is h stands later told = grind arith

  pub same_faults : (old new : Core D) → disk_of new ≡ disk_of old → faults_of disk old ≤ faults_of disk new
  same_faults old new same = let e : faults_of disk new ≡ faults_of disk old = ap (λ d. (disk d).faults) same in omega arith

  pub same_told : (old new : Core D) → disk_of new ≡ disk_of old → IsSome (disk (disk_of old)).contents → IsSome (disk (disk_of new)).contents
  same_told old new same told = subst (λ d. IsSome (disk d).contents) (sym same) told

  -- a call of a core that is down is refused, and changes nothing
  pub refused_down : {T : Type 0} → (S : State) (old new : Core D) (b n : ℕ) (c : Call) (made : T → Entry) (r : Result T CoreError) (lost : List Commit) → Holds disk old S
      → S.lost ≡ Some lost → IsCall S.world c → IsOfCore c → r ≡ Err error.Down → new ≡ old → Did S new (entry_of b n c made r)
  refused_down S old new b n c made r lost h is args core refused same = grind arith

  -- a core that is up refuses as the rules say, or for want of memory
  pub refused_up : (S : State) (new : Core D) (b n : ℕ) (c : Call) (e : CoreError) → S.lost ≡ None → IsCall S.world c → MayWantMemory S c → Refuses (answer_to S.world c) e → Holds disk new S
      → Did S new (entry.Refused c (cause_of b n e))
  refused_up S new b n c error.Down is args memory never h = absurd (⊎_elim (λ (x : error.Down ≡ error.Memory). cc x) (λ (x : None ≡ Some (answer_to S.world c)). cc x) never)
  refused_up S new b n c error.TooManyTx is args memory so h = ((args, (is, ⊎_elim (λ (x : error.TooManyTx ≡ error.Memory). absurd (cc x)) (λ (x : Some reply.TooManyTx ≡ Some (answer_to S.world c)). cc x) so)), h)
  refused_up S new b n c (error.LogFull wanted free) is args memory so h = ((args, (is, ⊎_elim (λ (x : error.LogFull wanted free ≡ error.Memory). absurd (cc x)) (λ (x : Some (reply.LogFull wanted free) ≡ Some (answer_to S.world c)). cc x) so)), h)
  refused_up S new b n c error.Disk is args memory never h = absurd (⊎_elim (λ (x : error.Disk ≡ error.Memory). cc x) (λ (x : None ≡ Some (answer_to S.world c)). cc x) never)
  refused_up S new b n c error.Memory is args memory so h = ((args, memory), h)
  refused_up S new b n c (error.Worn at) is args memory so h = ((args, (is, ⊎_elim (λ (x : error.Worn at ≡ error.Memory). absurd (cc x)) (λ (x : Some reply.Worn ≡ Some (answer_to S.world c)). cc x) so)), h)
  refused_up S new b n c error.ModeFixed is args memory so h = ((args, (is, ⊎_elim (λ (x : error.ModeFixed ≡ error.Memory). absurd (cc x)) (λ (x : Some reply.ModeFixed ≡ Some (answer_to S.world c)). cc x) so)), h)

  pub did_begin : (S : State) (old new : Core D) (b n : ℕ) (named : Option Mode) (r : Result Begun CoreError) → Holds disk old S
      → ((W : World) → StandsFor disk old W up → IfOk r (λ t. (t.tx ≡ W.next) × (t.mode ≡ mode_named W named) × ((begin_step W unattached (mode_named W named)).0 ≡ reply.Began t.at) × StandsFor disk new (after_begin W unattached (mode_named W named)) up))
      → ((W : World) → StandsFor disk old W up → IfErr r (Refuses (begin_step W unattached (mode_named W named)).0))
      → ((W : World) (lost : List Commit) → StandsFor disk old W (down lost) → r ≡ Err error.Down)
      → OnErr r (new ≡ old) → disk_of new ≡ disk_of old
      → Did S new (begin_entry b n named r)
  did_begin S old new b n named r h begun refused fallen kept same =
      by_lost S old (Did S new (begin_entry b n named r)) h
      (λ is stands. up_by r is (begun S.world stands) (refused S.world stands) kept)
      (λ lost is stands. let e = fallen S.world lost stands in
      refused_down S old new b n (call.Begin named) (λ t. entry.Begin t.tx t.at t.mode) r lost h is tt tt e (subst (λ v. OnErr v (new ≡ old)) e kept))
    where
      up_by : (r : Result Begun CoreError) → S.lost ≡ None
          → IfOk r (λ t. (t.tx ≡ S.world.next) × (t.mode ≡ mode_named S.world named) × ((begin_step S.world unattached (mode_named S.world named)).0 ≡ reply.Began t.at) × StandsFor disk new (after_begin S.world unattached (mode_named S.world named)) up)
          → IfErr r (Refuses (begin_step S.world unattached (mode_named S.world named)).0) → OnErr r (new ≡ old) → Did S new (begin_entry b n named r)
      up_by (Ok t) is so never kept = (
        (is, so.0, ap (λ m. (begin_step S.world unattached m).0) so.1 ∙ so.2),
        holds_up S old new (after_begin S.world unattached t.mode) is h (subst (λ m. StandsFor disk new (after_begin S.world unattached m) up) (sym so.1) so.3) (same_faults old new same) (same_told old new same),
      )
      up_by (Err e) is so never kept = refused_up S new b n (call.Begin named) e is tt is never (subst (λ v. Holds disk v S) (sym kept) h)

  pub did_abort : (S : State) (old new : Core D) (tx : ℕ) → Holds disk old S → is_live tx S.world.live ≡ true
      → ((W : World) (standing : Standing) (t : Live) → StandsFor disk old W standing → IsTx W tx t → StandsFor disk new (after_leaving W t) standing)
      → disk_of new ≡ disk_of old → Did S new (entry.Abort tx)
  did_abort S old new tx h live left same =
      let counts : S.faults ≤ faults_of disk old = h.counts in
      let later = same_faults old new same in (
        tt,
        record {
          world = left S.world (standing_of S.lost) (tx_of S.world tx []) h.world (is_tx S.world tx [] live);
          counts = omega arith;
          told = λ up is. same_told old new same (h.told up is);
        },
      )

  pub did_trim : (S : State) (old new : Core D) (b n : ℕ) (r : Result ℕ CoreError) → Holds disk old S
      → ((W : World) → StandsFor disk old W up → (r ≡ Ok (floor W)) × StandsFor disk new (after_trim W) up)
      → ((W : World) (lost : List Commit) → StandsFor disk old W (down lost) → (r ≡ Err error.Down) × (new ≡ old))
      → disk_of new ≡ disk_of old → Did S new (trim_entry b n r)
  did_trim S old new b n r h trimmed fallen same =
      by_lost S old (Did S new (trim_entry b n r)) h
      (λ is stands. let so = trimmed S.world stands in
      subst (λ v. Did S new (trim_entry b n v)) (sym so.0) ((is, refl), holds_up S old new (after_trim S.world) is h so.1 (same_faults old new same) (same_told old new same)))
      (λ lost is stands. let so = fallen S.world lost stands in refused_down S old new b n call.Trim (λ k. entry.Trim k) r lost h is tt tt so.0 so.1)

  pub did_stat : (S : State) (core : Core D) (s : Stat) → Holds disk core S
      → ((W : World) (standing : Standing) → StandsFor disk core W standing → s ≡ record {
        last = last W.history;
        base = W.base;
        trim = W.trim;
        live = length W.live;
        used = used W;
        versions = versions W;
        down = is_down standing;
      })
      → Did S core (entry.Stat (numbers_of s))
  did_stat S core s h so = (ap numbers_of (so S.world (standing_of S.lost) h.world) ∙ ap (λ (v : Bool). record (numbers_at S) { down = v }) (down_is S.lost), h)
    where
      down_is : (o : Option (List Commit)) → is_down (standing_of o) ≡ is_some o
      down_is None = refl
      down_is (Some lost) = refl

  pub did_fetch : (S : State) (old new : Core D) (tx block : ℕ) (bytes : List ℕ) (r : Result (Unit {0}) CoreError) → Holds disk old S → is_live tx S.world.live ≡ true → block < S.world.geometry.blocks
      → ((W : World) (t : Live) → StandsFor disk old W up → IsTx W tx t → OnOk r (ForSome (disk (disk_of old)).contents (λ _. bytes ≡ block_at (array_at W.history t.begin) block)))
      → ((W : World) (standing : Standing) → StandsFor disk old W standing → StandsFor disk new W standing)
      → ((W : World) (lost : List Commit) → StandsFor disk old W (down lost) → (r ≡ Err error.Down) × (new ≡ old))
      → ((W : World) → StandsFor disk old W up → IfErr r (λ e. e ≡ error.Disk))
      → WritesNothing (disk (disk_of old)) (disk (disk_of new))
      → BlamesDisk (faults_of disk old) (faults_of disk new) r
      → Did S new (fetch_entry (faults_of disk old) (faults_of disk new) tx block bytes r)
  did_fetch S old new tx block bytes r h live inside shown same fallen blamed nothing cause =
      by_lost S old (Did S new (fetch_entry (faults_of disk old) (faults_of disk new) tx block bytes r)) h
      (λ is stands. up_by r is (shown S.world (tx_of S.world tx []) stands (is_tx S.world tx [] live)) (blamed S.world stands) cause)
      (λ lost is stands. let so = fallen S.world lost stands in refused_down S old new (faults_of disk old) (faults_of disk new) (call.Fetch tx block) (λ done. entry.Fetch tx block bytes) r lost h is inside tt so.0 so.1)
    where
      told : IsSome (disk (disk_of old)).contents → IsSome (disk (disk_of new)).contents
      told is = subst (λ o. IsSome o) (sym nothing.same_contents) is

      counts : S.faults ≤ faults_of disk old
      counts = h.counts

      some_of : (o : Option (List ℕ)) → IsSome o → (P : Type 0) → ForSome o (λ _. P) → P
      some_of None is P each = absurd (cc is)
      some_of (Some x) is P each = each x refl

      up_by : (r : Result (Unit {0}) CoreError) → S.lost ≡ None → OnOk r (ForSome (disk (disk_of old)).contents (λ _. bytes ≡ block_at (array_at S.world.history (live_of tx S.world.live).begin) block))
          → IfErr r (λ e. e ≡ error.Disk) → BlamesDisk (faults_of disk old) (faults_of disk new) r → Did S new (fetch_entry (faults_of disk old) (faults_of disk new) tx block bytes r)
      up_by (Ok done) is so never cause = grind (arith, some_of)
      up_by (Err e) is so never cause = grind arith

pub by_disk : (e : CoreError) → (e ≡ error.Disk) ⊎ (e ≢ error.Disk)
by_disk error.Disk = inl refl
by_disk why = inr (λ e. cc e)

-- ---- a switch to the other half leaves an entry that is legal at its place

module _ {D : Type 0} (disk : D → DiskState) (S : State) (old new : Core D) (form : ℕ) where
  -- what the clauses of a switch say of this state
  pub record Switches (r : Result ℕ CoreError) : Type 0 where
    pub switched : StandsFor disk old S.world up → IfOk r (λ n. (n ≡ floor S.world) × ((answer : CoreReply) → switch_step S.world form answer ≡ (answer, after_switch S.world form)) × StandsFor disk new (after_switch S.world form) up)
    pub refused : StandsFor disk old S.world up → IfErr r (λ e. (e ≡ error.Disk) ⊎ Refuses (switch_answer S.world form) e)
    pub same : StandsFor disk old S.world up → IfErr r (λ e. e ≢ error.Disk → StandsFor disk new S.world up)
    pub fallen : (lost : List Commit) → StandsFor disk old S.world (down lost) → (r ≡ Err error.Down) × (new ≡ old)
    pub lost : StandsFor disk old S.world up → IsErrOf r error.Disk → StandsFor disk new S.world (down [])
    pub unworn : StandsFor disk old S.world up → IsErrOf r error.Disk → switch_answer S.world form ≡ reply.Done
    pub told : OnOk r (StaysTold (disk (disk_of old)) (disk (disk_of new)))
    pub still : IfErr r (λ e. e ≢ error.Disk → StaysTold (disk (disk_of old)) (disk (disk_of new)))
    pub cause : BlamesDisk (faults_of disk old) (faults_of disk new) r

  faulted : Holds disk old S → StandsFor disk new S.world (down []) → faults_of disk old ≤ faults_of disk new → Holds disk new (record S { lost = Some []; faults = faults_of disk new })
  faulted h stands later = record { world = stands; counts = omega arith; told = λ up. absurd (cc up) }

  module _ (c : Call) (made : ℕ → Entry) where
    by_answer : (r : Result ℕ CoreError) → Holds disk old S → S.lost ≡ None → StandsFor disk old S.world up → Switches r
        → ((n : ℕ) → n ≡ floor S.world → switch_answer S.world form ≡ reply.Done → Holds disk new (with_world S (after_switch S.world form)) → Did disk S new (made n))
        → ((e : CoreError) → e ≢ error.Disk → Refuses (switch_answer S.world form) e → Holds disk new S → Did disk S new (entry.Refused c (cause_of (faults_of disk old) (faults_of disk new) e)))
        → (BlamesDisk {T = ℕ} (faults_of disk old) (faults_of disk new) (Err error.Disk) → switch_answer S.world form ≡ reply.Done → Holds disk new (record S { lost = Some []; faults = faults_of disk new }) → Did disk S new (entry.Refused c (cause_of (faults_of disk old) (faults_of disk new) error.Disk)))
        → Did disk S new (entry_of (faults_of disk old) (faults_of disk new) c made r)
    by_answer (Ok n) h is stands so done other fault = grind arith
    by_answer (Err e) h is stands so done other fault =
        let later : faults_of disk old ≤ faults_of disk new = so.cause.later in
        ⊎_elim
        (λ (d : e ≡ error.Disk). subst (λ v. Did disk S new (entry.Refused c (cause_of (faults_of disk old) (faults_of disk new) v))) (sym d)
        (fault (subst (λ v. BlamesDisk {T = ℕ} (faults_of disk old) (faults_of disk new) (Err v)) d so.cause) (so.unworn stands (ap Err d)) (faulted h (so.lost stands (ap Err d)) later)))
        (λ (n : e ≢ error.Disk). other e n (⊎_elim (λ (d : e ≡ error.Disk). absurd (n d)) (λ (x : Refuses (switch_answer S.world form) e). x) (so.refused stands)) (holds_up disk S old new S.world is h (so.same stands n) later (so.still n)))
        (by_disk e)

pub did_compact : {D : Type 0} → (disk : D → DiskState) (S : State) (old new : Core D) (r : Result ℕ CoreError) → Holds disk old S → Switches disk S old new S.world.geometry.form r → Did disk S new (compact_entry (faults_of disk old) (faults_of disk new) r)
did_compact disk S old new r h so =
    by_lost disk S old (Did disk S new (compact_entry (faults_of disk old) (faults_of disk new) r)) h
    (λ is stands. by_answer disk S old new S.world.geometry.form call.Compact (λ n. entry.Compact n) r h is stands so
    (λ n at answer holds. ((is, at, answer), holds))
    (λ e other refuses holds. refused_up disk S new (faults_of disk old) (faults_of disk new) call.Compact e is tt is refuses holds)
    (λ cause unworn holds. ((tt, ((is, unworn), h.counts, cause.failed refl, cause.later)), holds)))
    (λ lost is stands. let f = so.fallen lost stands in refused_down disk S old new (faults_of disk old) (faults_of disk new) call.Compact (λ n. entry.Compact n) r lost h is tt tt f.0 f.1)

pub did_upgrade : {D : Type 0} → (disk : D → DiskState) (S : State) (old new : Core D) (r : Result ℕ CoreError) → Holds disk old S → Switches disk S old new 2 r → Did disk S new (upgrade_entry (faults_of disk old) (faults_of disk new) r)
did_upgrade disk S old new r h so =
    by_lost disk S old (Did disk S new (upgrade_entry (faults_of disk old) (faults_of disk new) r)) h
    (λ is stands. by_answer disk S old new 2 call.Upgrade (λ n. entry.Upgrade n) r h is stands so
    (λ n at answer holds. ((is, at, answer), holds))
    (λ e other refuses holds. refused_up disk S new (faults_of disk old) (faults_of disk new) call.Upgrade e is tt is refuses holds)
    (λ cause unworn holds. ((tt, ((is, unworn), h.counts, cause.failed refl, cause.later)), holds)))
    (λ lost is stands. let f = so.fallen lost stands in refused_down disk S old new (faults_of disk old) (faults_of disk new) call.Upgrade (λ n. entry.Upgrade n) r lost h is tt tt f.0 f.1)
