-- What is under the lock after a call of the core that leaves the labels.
use Rattle.iso_shared.{proofs.Words.{clock_of, ◌≡◌, ◌≤◌, inr, true, Access, IsTx, Live, Standing, StandsFor, standing_of, tx_of, Checked, Doing, IsAhead, IsOwn, IsPrefix, IsTxOf, Tx, live_of, tx_view, times, faults_of, is_live, ℕ, ◌<◌, List, [], ◌∷◌, ◌++◌, Option, None, Result, Ok, Err, refl, sym, ap, ◌∙◌, subst, Recent, Core, disk_of, DiskState, LeavesOnly, WritesNothing, weakened, Commit, World, ShowsBetween, ShowsLast, CoreError, AreHeld, held_after, Call, Entry, Posted, Answers, IsLegal, ended, handed, returned, tx_in, Holds, StandsAt, whole, with_lost, Start, State, after, after_fault, opened, state_at, cause_of, entry_of, fetch_entry, recent_entry}, proofs.Cores.{Did, is_tx}, proofs.Ends.{ahead_same, own_same}, proofs.Growing.{from_last, shows_now}, proofs.Mades.{ahead_on, held_same, own_on}, proofs.Trace.after_snoc, proofs.Standings.{HoldsOut, MayLeave, Moved, held_live, stands_next}, specs.{Passes.TakesTurn, Turns.{moments, view}, declared.guarded.{Guarded.Guarded, Stamped.Stamped}}}
use Rattle.iso_model.specs.declared.core_error.CoreError.TheVariants as error
use Rattle.turn_lock.specs.{Lock.turn_value, Numbers.without, Pass.PassOf, declared.turn.Turn.Turn}
use Rattle.iso_shared.specs.declared.entry.Call.TheVariants as call
use Rattle.iso_shared.specs.declared.entry.Entry.TheVariants as entry

-- the entry leaves the labels
abbrev pub KeepsRack : Entry → Type 0
KeepsRack e = (S : State) → (after S e).rack ≡ S.rack

pub fault_keeps : (S : State) (c : Call) (k : ℕ) → (after_fault S c k).rack ≡ S.rack
fault_keeps S (call.Begin named) k = refl
fault_keeps S c k = refl

pub entry_keeps : {T : Type 0} → (b n : ℕ) (c : Call) (made : T → Entry) → ((x : T) → KeepsRack (made x)) → (r : Result T CoreError) → KeepsRack (entry_of b n c made r)
entry_keeps b n c made each (Ok x) S = each x S
entry_keeps b n c made each (Err error.Disk) S = fault_keeps S c n
entry_keeps b n c made each (Err e) S = refl

ended_held : (c : Call) (holds : List ℕ) → AreHeld (tx_in c) holds → AreHeld (ended c) holds
ended_held (call.End n accesses) holds h = h
ended_held (call.EndGroup members) holds h = h
ended_held c holds h = tt

pub entry_may : {T : Type 0} → (b n : ℕ) (c : Call) (made : T → Entry) (holds : List ℕ) → ((x : T) → MayLeave holds (made x)) → AreHeld (tx_in c) holds → (r : Result T CoreError) → MayLeave holds (entry_of b n c made r)
entry_may b n c made holds each h (Ok x) = each x
entry_may b n c made holds each h (Err error.Disk) = (h, ended_held c holds h)
entry_may b n c made holds each h (Err e) = (h, tt)

-- what a pass holds after a call that was refused, where no fault ended its transaction
pub refused_holds : (b n : ℕ) (c : Call) (e : CoreError) (holds : List ℕ) → (e ≡ error.Disk → ended c ≡ []) → held_after handed returned (entry.Refused c (cause_of b n e)) holds ≡ holds
refused_holds b n c error.Disk holds other = ap (λ ns. without ns holds) (other refl)
refused_holds b n c e holds other = refl

pub fetch_holds : (b n tx block : ℕ) (bytes : List ℕ) (r : Result (Unit {0}) CoreError) (holds : List ℕ) → held_after handed returned (fetch_entry b n tx block bytes r) holds ≡ holds
fetch_holds b n tx block bytes (Ok done) holds = refl
fetch_holds b n tx block bytes (Err e) holds = refused_holds b n (call.Fetch tx block) e holds (λ is. refl)

pub recent_holds : (b n tx : ℕ) (r : Result Recent CoreError) (holds : List ℕ) → held_after handed returned (recent_entry b n tx r) holds ≡ holds
recent_holds b n tx (Ok x) holds = refl
recent_holds b n tx (Err e) holds = refused_holds b n (call.Recent tx) e holds (λ is. refl)

-- an image that shows the last commit before the call shows it in the list with the entry
pub moved_last : {D : Type 0} (disk : D → DiskState) (A : Start) (es : List Entry) (e : Entry) (old new : Core D) → IsLegal A es → 0 < (state_at A es).world.history.first → Answers (state_at A es) e
    → (state_at A es).lost ≡ None → LeavesOnly (disk (disk_of old)) (disk (disk_of new)) (ShowsLast (state_at A es).world) → Moved disk A es e old new
moved_last disk A es e old new legal some answers is run =
    inr (weakened run (λ c shown. from_last A es e legal some answers c (subst (λ (o : Option (List Commit)). ShowsLast (with_lost (state_at A es).world o) c) (sym is) shown)))

fetch_whole : (S : State) (b n tx block : ℕ) (bytes : List ℕ) (r : Result (Unit {0}) CoreError) → whole (after S (fetch_entry b n tx block bytes r)) ≡ whole S
fetch_whole S b n tx block bytes (Ok done) = refl
fetch_whole S b n tx block bytes (Err error.Down) = refl
fetch_whole S b n tx block bytes (Err e) = refl

-- a fetch leaves the images that there were
pub moved_fetch : {D : Type 0} (disk : D → DiskState) (A : Start) (es : List Entry) (b n tx block : ℕ) (bytes : List ℕ) (old new : Core D) (r : Result (Unit {0}) CoreError)
    → Holds disk old (state_at A es) → WritesNothing (disk (disk_of old)) (disk (disk_of new)) → Moved disk A es (fetch_entry b n tx block bytes r) old new
moved_fetch disk A es b n tx block bytes old new r holds nothing =
    let e : Entry = fetch_entry b n tx block bytes r in
    let W : World = (state_at A es).world in
    inr (weakened nothing.moments (λ c here.
    subst (λ (T : State). ShowsBetween W (whole T) c) (sym (after_snoc (opened A) es e))
    (subst (λ (V : World). ShowsBetween W V c) (sym (fetch_whole (state_at A es) b n tx block bytes r)) (shows_now disk old (state_at A es) holds c here))))

-- What a turn lends represents the list, and the numbers that its pass holds are out.
pub record Lends {D : Type 0} (disk : D → DiskState) (A : Start) (first : DiskState) (lent : Core D) (items : List (List ℕ × Posted)) (es : List Entry) (ms : List ℕ) (holds : List ℕ) : Type 0 where
  pub at : StandsAt disk A first lent items es ms
  pub out : HoldsOut holds es

pub lends : {D O : Type 0} {disk : D → DiskState} {A : Start} {first : DiskState} {p q : PassOf (Guarded D O) Stamped} {t : Turn (Guarded D O) Stamped} {lent : Guarded D O} → TakesTurn disk A first p q t → lent ≡ turn_value t
    → Lends disk A first lent.core lent.rack (view q).seen (moments q) (view q).holds
lends {D} {O} {disk} {A} {first} {p} {q} {t} {lent} taken same = record { at = subst (λ (v : Guarded D O). StandsAt disk A first v.core v.rack (view q).seen (moments q)) (sym same) taken.value; out = taken.out }

-- what is known at its turn of the transaction whose pass it is
pub record AtTurn (A : Start) (es : List Entry) (n : ℕ) (work : Doing) (checked : Checked) : Type 0 where
  pub live : is_live n (state_at A es).world.live ≡ true
  pub own : IsOwn (state_at A es) n work
  pub ahead : IsAhead (state_at A es) work checked
  pub from : (live_of n (state_at A es).world.live).begin ≤ checked.upto

pub settled_turn : {A : Start} {es : List Entry} {n : ℕ} {old : Doing} {checked : Checked} → AtTurn A es n old checked → (new : Doing) → new ≡ record old { settled = new.settled } → AtTurn A es n new checked
settled_turn {A} {es} {n} {old} {checked} t new is = record { live = t.live; own = own_same (state_at A es) n old new is t.own; ahead = ahead_same (state_at A es) old new checked is t.ahead; from = t.from }

module _ {D : Type 0} {disk : D → DiskState} {A : Start} {first : DiskState} {lent : Core D} {items : List (List ℕ × Posted)} {es : List Entry} {ms : List ℕ} {holds : List ℕ} (l : Lends disk A first lent items es ms holds) where
  pub live_lent : (n : ℕ) → 0 < times n holds → is_live n (state_at A es).world.live ≡ true
  live_lent n held = held_live disk A lent items es holds l.at l.out n held

  -- the transaction of this number, as the core asks for it
  abbrev pub asked : (n : ℕ) (accesses : List Access) → is_live n (state_at A es).world.live ≡ true → (W : World) × (standing : Standing) × (t : Live) × StandsFor disk lent W standing × IsTx W n t
  asked n accesses live = let S = state_at A es in (S.world, standing_of S.lost, tx_of S.world n accesses, l.at.core.world, is_tx S.world n accesses live)

  pub at_turn : {O : Type 0} (t : Tx D O) → IsTxOf A t → IsPrefix (tx_view t).seen es → holds ≡ (tx_view t).holds → AtTurn A es t.number t.work t.checked
  at_turn t is begins same =
      let live = live_lent t.number (held_same t.number (tx_view t).holds holds same is.held) in
      let own = own_on A (tx_view t).seen es t.number t.work begins is.own in
      let ahead = ahead_on A (tx_view t).seen es t.work t.checked begins is.ahead in
      record { live = live; own = own; ahead = ahead; from = subst (λ (k : ℕ). k ≤ t.checked.upto) (sym (own.begin live)) ahead.from }

  -- after a call of the core: e is the entry, and e' the same, told of the core that was lent
  pub stands_call : (new : Core D) (e e' : Entry) → MayLeave holds e → e ≡ e' → Moved disk A es e' lent new → Did disk (state_at A es) new e' → KeepsRack e → StandsAt disk A first new items (es ++ e ∷ []) (ms ++ clock_of disk new ∷ [])
  stands_call new e e' may same moved did keeps =
      let did' : Did disk (state_at A es) new e = subst (Did disk (state_at A es) new) (sym same) did in
      stands_next disk A lent new items items es e holds l.at l.out may (subst (λ (x : Entry). Moved disk A es x lent new) (sym same) moved) did'.0 did'.1 (l.at.rack ∙ sym (keeps (state_at A es))) l.at.works

  -- after one that is answered or refused, of which a copy of the core was taken before
  pub stands_answer : {T : Type 0} (shot new : Core D) (c : Call) (made : T → Entry) (r : Result T CoreError) → shot ≡ lent → ((x : T) → MayLeave holds (made x)) → AreHeld (tx_in c) holds → ((x : T) → KeepsRack (made x))
      → Moved disk A es (entry_of (faults_of disk lent) (faults_of disk new) c made r) lent new → Did disk (state_at A es) new (entry_of (faults_of disk lent) (faults_of disk new) c made r)
      → StandsAt disk A first new items (es ++ entry_of (faults_of disk shot) (faults_of disk new) c made r ∷ []) (ms ++ clock_of disk new ∷ [])
  stands_answer shot new c made r copied may held keeps moved did =
      stands_call new (entry_of (faults_of disk shot) (faults_of disk new) c made r) (entry_of (faults_of disk lent) (faults_of disk new) c made r)
      (entry_may (faults_of disk shot) (faults_of disk new) c made holds may held r)
      (ap (λ v. entry_of (faults_of disk v) (faults_of disk new) c made r) copied) moved did (entry_keeps (faults_of disk shot) (faults_of disk new) c made keeps r)
