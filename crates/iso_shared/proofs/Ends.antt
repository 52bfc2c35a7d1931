-- The end of a transaction leaves an entry that is legal at its place.
use Rattle.iso_shared.proofs.{Words.{◌≡◌, ◌≢◌, ◌⊎◌, inl, inr, ⊎_elim, ℕ, ◌+◌, ◌<◌, ◌≤◌, Bool, true, false, cond, List, [], ◌∷◌, ◌++◌, Option, Some, None, Result, Ok, Err, IfOk, IfErr, OnOk, IsSome, length, refl, sym, ap, ◌∙◌, subst, arith, IsErrOf, Checked, Core, BlamesDisk, IsCheckedOf, IsWorkOf, Refuses, Writes, StandsFor, disk_of, up, down, ShowsEither, ShowsLast, DiskState, LeavesOnly, StaysTold, weakened, Access, Clash, Commit, EndReply, Committed, ReadOnly, Conflict, Geometry, CoreError, CoreReply, clash, has_write, last, after_commit, after_leaving, commit_step, end_step, commit_from, World, AreWithin, Doing, Entry, Answers, IsLegal, MayHaveMade, end_answer, reply_of, IsAhead, IsOwn, Holds, IsOn, ShowsFrom, faults_of, with_lost, Start, State, after_end, is_live, state_at, tx_of, end_entry}, Growing.{from_after, from_last}, Standings.Moved, Cores.{Did, by_disk, by_lost, holds_up, refused_down, refused_up}}
use Rattle.iso_core.specs.Calls as calls
use Rattle.iso_model.specs.declared.core_error.CoreError.TheVariants as error
use Rattle.iso_model.specs.declared.core_reply.CoreReply.TheVariants as reply
use Rattle.iso_shared.specs.declared.entry.Call.TheVariants as call
use Rattle.iso_shared.specs.declared.entry.Entry.TheVariants as entry

same_reply : (r : EndReply) → calls.reply_of r ≡ reply_of r
same_reply (Committed n) = refl
same_reply x = refl

module _ (W : World) (n : ℕ) (accesses : List Access) where
  -- a world that the reply leads to
  abbrev pub Leads : CoreReply × World → Type 0
  Leads x = (r : EndReply) → x.0 ≡ reply_of r → x.1 ≡ after_end W n accesses r

  in_conflict : (c : Clash) → Leads (reply.Conflict c, after_leaving W (tx_of W n accesses))
  in_conflict c (Committed k) e = absurd (cc e)
  in_conflict c ReadOnly e = absurd (cc e)
  in_conflict c (Conflict d) e = refl

  read_only : Leads (reply.ReadOnly, after_leaving W (tx_of W n accesses))
  read_only (Committed k) e = absurd (cc e)
  read_only ReadOnly e = refl
  read_only (Conflict d) e = absurd (cc e)

  committed : (k : ℕ) → Leads (reply.Committed k, after_commit W (tx_of W n accesses))
  committed k (Committed m) e = refl
  committed k ReadOnly e = absurd (cc e)
  committed k (Conflict d) e = absurd (cc e)

  worn : Leads (reply.Worn, W)
  worn (Committed k) e = absurd (cc e)
  worn x e = absurd (cc e)

  log_full : (wanted free : ℕ) → Leads (reply.LogFull wanted free, W)
  log_full wanted free (Committed k) e = absurd (cc e)
  log_full wanted free x e = absurd (cc e)

  chosen : (test : Bool) (x y : CoreReply × World) → Leads x → Leads y → Leads (cond test x y)
  chosen true x y first second = first
  chosen false x y first second = second

  commit_leads : (o : Option Clash) → Leads (commit_step W (tx_of W n accesses) o)
  unfolding commit_step
  commit_leads (Some c) = in_conflict c
  commit_leads None = grind (arith, worn, log_full, committed)

  -- the world that the rules give is the one that the reply tells
  pub ends_so : Leads (end_step W (tx_of W n accesses))
  unfolding end_step
  ends_so = chosen (has_write accesses) _ _ (commit_leads (clash W.geometry W.history (tx_of W n accesses).mode (tx_of W n accesses).begin accesses)) read_only

unwritten_err : (P : Type 0) (e : CoreError) → e ≢ error.Disk → Writes (Err e) ⊎ P → P
unwritten_err P error.Down other w = ⊎_elim (λ (x : Writes (Err error.Down)). absurd x) (λ (x : P). x) w
unwritten_err P error.TooManyTx other w = ⊎_elim (λ (x : Writes (Err error.TooManyTx)). absurd x) (λ (x : P). x) w
unwritten_err P (error.LogFull wanted free) other w = ⊎_elim (λ (x : Writes (Err (error.LogFull wanted free))). absurd x) (λ (x : P). x) w
unwritten_err P error.Disk other w = absurd (other refl)
unwritten_err P error.Memory other w = ⊎_elim (λ (x : Writes (Err error.Memory)). absurd x) (λ (x : P). x) w
unwritten_err P (error.Worn at) other w = ⊎_elim (λ (x : Writes (Err (error.Worn at))). absurd x) (λ (x : P). x) w
unwritten_err P error.ModeFixed other w = ⊎_elim (λ (x : Writes (Err error.ModeFixed)). absurd x) (λ (x : P). x) w

module _ {D : Type 0} (disk : D → DiskState) (S : State) (old new : Core D) (tx : ℕ) (accesses : List Access) where
  pub did_end : (r : Result EndReply CoreError) → Holds disk old S → MayHaveMade S.world accesses
      → (StandsFor disk old S.world up → IfOk r (λ x. ((end_step S.world (tx_of S.world tx accesses)).0 ≡ calls.reply_of x) × StandsFor disk new (end_step S.world (tx_of S.world tx accesses)).1 up))
      → (StandsFor disk old S.world up → IfErr r (λ e. (e ≡ error.Disk) ⊎ Refuses (end_step S.world (tx_of S.world tx accesses)).0 e))
      → (StandsFor disk old S.world up → IfErr r (λ e. e ≢ error.Disk → StandsFor disk new S.world up))
      → ((W : World) (lost : List Commit) → StandsFor disk old W (down lost) → (r ≡ Err error.Down) × (new ≡ old))
      → Writes r ⊎ (disk_of new ≡ disk_of old)
      → (StandsFor disk old S.world up → IsErrOf r error.Disk → ((end_step S.world (tx_of S.world tx accesses)).0 ≡ reply.Committed (last S.world.history + 1)) × StandsFor disk new (after_leaving S.world (tx_of S.world tx accesses)) (down (commit_from (tx_of S.world tx accesses) ∷ [])))
      → OnOk r (StaysTold (disk (disk_of old)) (disk (disk_of new)))
      → BlamesDisk (faults_of disk old) (faults_of disk new) r
      → Did disk S new (end_entry (faults_of disk old) (faults_of disk new) tx accesses r)
  did_end r h made ended refused same fallen unwritten lost told cause =
      by_lost disk S old (Did disk S new (end_entry (faults_of disk old) (faults_of disk new) tx accesses r)) h
      (λ is stands. up_by r is (ended stands) (refused stands) (same stands) unwritten (lost stands) told cause)
      (λ commits is stands. let so = fallen S.world commits stands in refused_down disk S old new (faults_of disk old) (faults_of disk new) (call.End tx accesses) (λ x. entry.End tx accesses x) r commits h is made tt so.0 so.1)
    where
      faulted : S.lost ≡ None → ((end_step S.world (tx_of S.world tx accesses)).0 ≡ reply.Committed (last S.world.history + 1)) × StandsFor disk new (after_leaving S.world (tx_of S.world tx accesses)) (down (commit_from (tx_of S.world tx accesses) ∷ []))
          → BlamesDisk {T = EndReply} (faults_of disk old) (faults_of disk new) (Err error.Disk) → Did disk S new (end_entry (faults_of disk old) (faults_of disk new) tx accesses (Err error.Disk))
      faulted is so cause = grind arith

      others : (e : CoreError) → S.lost ≡ None → e ≢ error.Disk → Refuses (end_step S.world (tx_of S.world tx accesses)).0 e → StandsFor disk new S.world up → disk_of new ≡ disk_of old
          → Did disk S new (end_entry (faults_of disk old) (faults_of disk new) tx accesses (Err e))
      others e is other so stands equal =
          refused_up disk S new (faults_of disk old) (faults_of disk new) (call.End tx accesses) e is made is so (holds_up disk S old new S.world is h stands (same_count equal) (same_tells equal))
        where
          same_count : disk_of new ≡ disk_of old → faults_of disk old ≤ faults_of disk new
          same_count equal = let e : faults_of disk new ≡ faults_of disk old = ap (λ d. (disk d).faults) equal in omega arith

          same_tells : disk_of new ≡ disk_of old → IsSome (disk (disk_of old)).contents → IsSome (disk (disk_of new)).contents
          same_tells equal some = subst (λ d. IsSome (disk d).contents) (sym equal) some

      up_by : (r : Result EndReply CoreError) → S.lost ≡ None
          → IfOk r (λ x. ((end_step S.world (tx_of S.world tx accesses)).0 ≡ calls.reply_of x) × StandsFor disk new (end_step S.world (tx_of S.world tx accesses)).1 up)
          → IfErr r (λ e. (e ≡ error.Disk) ⊎ Refuses (end_step S.world (tx_of S.world tx accesses)).0 e)
          → IfErr r (λ e. e ≢ error.Disk → StandsFor disk new S.world up)
          → Writes r ⊎ (disk_of new ≡ disk_of old)
          → (IsErrOf r error.Disk → ((end_step S.world (tx_of S.world tx accesses)).0 ≡ reply.Committed (last S.world.history + 1)) × StandsFor disk new (after_leaving S.world (tx_of S.world tx accesses)) (down (commit_from (tx_of S.world tx accesses) ∷ [])))
          → OnOk r (StaysTold (disk (disk_of old)) (disk (disk_of new)))
          → BlamesDisk (faults_of disk old) (faults_of disk new) r
          → Did disk S new (end_entry (faults_of disk old) (faults_of disk new) tx accesses r)
      up_by (Ok x) is so never same unwritten lost told cause =
          let answer : end_answer S.world tx accesses ≡ reply_of x = so.0 ∙ same_reply x in
          let later : faults_of disk old ≤ faults_of disk new = cause.later in (
            (is, made, answer),
            holds_up disk S old new (after_end S.world tx accesses x) is h (subst (λ V. StandsFor disk new V up) (ends_so S.world tx accesses x answer) so.1) later told,
          )
      up_by (Err e) is so refused same unwritten lost told cause =
          ⊎_elim
          (λ (d : e ≡ error.Disk). subst (λ v. Did disk S new (end_entry (faults_of disk old) (faults_of disk new) tx accesses (Err v))) (sym d)
          (faulted is (lost (ap Err d)) (subst (λ v. BlamesDisk {T = EndReply} (faults_of disk old) (faults_of disk new) (Err v)) d cause)))
          (λ (other : e ≢ error.Disk). others e is other (⊎_elim (λ (d : e ≡ error.Disk). absurd (other d)) (λ (x : Refuses (end_step S.world (tx_of S.world tx accesses)).0 e). x) refused) (same other)
          (unwritten_err (disk_of new ≡ disk_of old) e other unwritten))
          (by_disk e)

-- what the pass knows of its work is what the core asks of it
pub work_of : (S : State) (tx : ℕ) (work : Doing) → IsOwn S tx work → is_live tx S.world.live ≡ true → IsWorkOf S.world (tx_of S.world tx work.accesses) work
work_of S tx work own live = grind arith

pub checked_of : (S : State) (tx : ℕ) (work : Doing) (checked : Checked) → IsOwn S tx work → is_live tx S.world.live ≡ true → IsAhead S work checked → IsCheckedOf S.world (tx_of S.world tx work.accesses) checked
checked_of S tx work checked own live is = grind arith

pub may_have : (S : State) (tx : ℕ) (work : Doing) → IsOwn S tx work → AreWithin work.size work.blocks work.accesses → length work.accesses ≤ 4096 → MayHaveMade S.world work.accesses
may_have S tx work own within count = record { each = within S.world.geometry (sym own.on.size) (sym own.on.blocks); count = count }

-- settling changes nothing that the pass knows of its work
pub own_same : (S : State) (tx : ℕ) (old new : Doing) → new ≡ record old { settled = new.settled } → IsOwn S tx old → IsOwn S tx new
own_same S tx old new is own = grind arith

pub ahead_same : (S : State) (old new : Doing) (checked : Checked) → new ≡ record old { settled = new.settled } → IsAhead S old checked → IsAhead S new checked
ahead_same S old new checked is ahead = grind arith

-- two lists with one entry more each
pub init_same : (xs ys : List Entry) (x y : Entry) → xs ++ x ∷ [] ≡ ys ++ y ∷ [] → xs ≡ ys
init_same [] [] x y e = refl
init_same [] (z ∷ []) x y e = absurd (cc e)
init_same [] (z ∷ w ∷ ys) x y e = absurd (cc e)
init_same (z ∷ []) [] x y e = absurd (cc e)
init_same (z ∷ w ∷ xs) [] x y e = absurd (cc e)
init_same (z ∷ xs) (w ∷ ys) x y e =
    let heads : z ≡ w = cc e in
    let tails : xs ++ x ∷ [] ≡ ys ++ y ∷ [] = cc e in
    let rest = init_same xs ys x y tails in
    λ i. heads i ∷ rest i

pub if_err_by : {T E : Type 0} → (P : E → Type 0) (r : Result T E) → ((e : E) → r ≡ Err e → P e) → IfErr r P
if_err_by P (Ok x) each = tt
if_err_by P (Err e) each = each e refl

pub on_same : (g : Geometry) (old new : Doing) → new ≡ record old { settled = new.settled } → IsOn g old → IsOn g new
on_same g old new is on = record { size = ap (λ (w : Doing). w.size) is ∙ on.size; blocks = ap (λ (w : Doing). w.blocks) is ∙ on.blocks }

-- a crash in the course of an end
pub moved_end : {D : Type 0} (disk : D → DiskState) (A : Start) (es : List Entry) (old new : Core D) (b n tx : ℕ) (accesses : List Access) (r : Result EndReply CoreError)
    → IsLegal A es → 0 < (state_at A es).world.history.first → (state_at A es).lost ≡ None → Answers (state_at A es) (end_entry b n tx accesses r)
    → IfOk r (λ x. ((end_step (state_at A es).world (tx_of (state_at A es).world tx accesses)).0 ≡ calls.reply_of x) × StandsFor disk new (end_step (state_at A es).world (tx_of (state_at A es).world tx accesses)).1 up)
    → (IsErrOf r error.Disk → ((end_step (state_at A es).world (tx_of (state_at A es).world tx accesses)).0 ≡ reply.Committed (last (state_at A es).world.history + 1))
    × StandsFor disk new (after_leaving (state_at A es).world (tx_of (state_at A es).world tx accesses)) (down (commit_from (tx_of (state_at A es).world tx accesses) ∷ [])))
    → Writes r ⊎ (disk_of new ≡ disk_of old)
    → LeavesOnly (disk (disk_of old)) (disk (disk_of new)) (ShowsEither (state_at A es).world (end_step (state_at A es).world (tx_of (state_at A es).world tx accesses)).1)
    → Moved disk A es (end_entry b n tx accesses r) old new
moved_end {D} disk A es old new b n tx accesses r legal some is answers ended lost unwritten run = by r answers ended lost unwritten
  where
    S : State
    S = state_at A es

    before : (e : Entry) → Answers S e → (c : List ℕ) → ShowsLast S.world c → ShowsFrom A es (es ++ e ∷ []) c
    before e answers c shown = from_last A es e legal some answers c (subst (λ (o : Option (List Commit)). ShowsLast (with_lost S.world o) c) (sym is) shown)

    by : (r : Result EndReply CoreError) → Answers S (end_entry b n tx accesses r)
        → IfOk r (λ x. ((end_step S.world (tx_of S.world tx accesses)).0 ≡ calls.reply_of x) × StandsFor disk new (end_step S.world (tx_of S.world tx accesses)).1 up)
        → (IsErrOf r error.Disk → ((end_step S.world (tx_of S.world tx accesses)).0 ≡ reply.Committed (last S.world.history + 1)) × StandsFor disk new (after_leaving S.world (tx_of S.world tx accesses)) (down (commit_from (tx_of S.world tx accesses) ∷ [])))
        → Writes r ⊎ (disk_of new ≡ disk_of old) → Moved disk A es (end_entry b n tx accesses r) old new
    by (Ok x) answers ended lost unwritten =
        let same = ends_so S.world tx accesses x (ended.0 ∙ same_reply x) in
        inr (weakened run (λ c shown. ⊎_elim (before (entry.End tx accesses x) answers c)
        (λ (after : ShowsLast (end_step S.world (tx_of S.world tx accesses)).1 c). from_after A es (entry.End tx accesses x) legal some answers c
        (subst (λ (o : Option (List Commit)). ShowsLast (with_lost (after_end S.world tx accesses x) o) c) (sym is) (subst (λ (V : World). ShowsLast V c) same after)))
        shown))
    by (Err e) answers ended lost unwritten =
        ⊎_elim
        (λ (d : e ≡ error.Disk). subst (λ (v : CoreError). Moved disk A es (end_entry b n tx accesses (Err v)) old new) (sym d)
        (failed (subst (λ (v : CoreError). Answers S (end_entry b n tx accesses (Err v))) d answers) (ends_so S.world tx accesses (Committed (last S.world.history + 1)) (lost (ap Err d)).0)))
        (λ (other : e ≢ error.Disk). inl (unwritten_err (disk_of new ≡ disk_of old) e other unwritten))
        (by_disk e)
      where
        failed : Answers S (end_entry b n tx accesses (Err error.Disk)) → (end_step S.world (tx_of S.world tx accesses)).1 ≡ after_end S.world tx accesses (Committed (last S.world.history + 1))
            → Moved disk A es (end_entry b n tx accesses (Err error.Disk)) old new
        failed answers same =
            let e : Entry = end_entry b n tx accesses (Err error.Disk) in
            inr (weakened run (λ c shown. ⊎_elim (before e answers c)
            (λ (after : ShowsLast (end_step S.world (tx_of S.world tx accesses)).1 c). from_after A es e legal some answers c (subst (λ (V : World). ShowsLast V c) same after))
            shown))
