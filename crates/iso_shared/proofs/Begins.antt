-- A transaction that has just begun.
use Rattle.iso_shared.proofs.{Words.{view, tests_passed, ◌≡◌, ℕ, suc, zero, ◌+◌, ◌-◌, ◌<◌, ◌≤◌, ◌==◌, Bool, true, false, ◌&&◌, not, cond, List, [], ◌∷◌, ◌++◌, Option, Some, None, Result, Ok, Err, IfOk, IsTrue, nat_le, nat_lt, length, take, eq-eqb, refl, sym, ap, ◌∙◌, subst, arith, Checked, up_to, Begun, Core, StandsFor, up, down, DiskState, Access, Commit, Geometry, Mode, Serial, CoreError, LAST, MAX_LIVE, CoreReply, clash, clash_from, first_after, has_write, is_block_size, same_mode, History, last, after_begin, begin_step, mode_named, World, Live, unattached, IsWorld, Doing, Entry, IsLegal, IsAhead, IsOwn, Holds, IsOn, IsTxOf, Tx, standing_of, Start, State, is_live, live_of, opened, state_at, IfErr, IsErrOf, take-length, AreNotesAfter, Recent, IsRecent, recent_entry}, Trace.{after_snoc, legal_last, opened_sound, sound_all}, Cores.{Did, by_lost, refused_down}}
use Rattle.std.proofs.Common.{drop}
use Rattle.iso_model.specs.declared.core_error.CoreError.TheVariants as error
use Rattle.iso_model.specs.declared.core_reply.CoreReply.TheVariants as reply
use Rattle.iso_shared.specs.declared.entry.Entry.TheVariants as entry
use Rattle.iso_shared.specs.declared.entry.Call.TheVariants as call

-- a sound world has blocks of a size that a work may have
pub block_size : (W : World) → IsWorld W → IsTrue (is_block_size W.geometry.block)
block_size W is = (tests_passed W.geometry is.valid).block

-- a begin that is answered begins at the last commit
pub began_last : (W : World) (mode : Mode) (at : ℕ) → (begin_step W unattached mode).0 ≡ reply.Began at → at ≡ last W.history
unfolding begin_step
began_last W mode at e = by ((W.geometry.form == 1) && not (same_mode mode W.geometry.mode)) (nat_le MAX_LIVE (length W.live)) (nat_lt LAST W.next) e
  where
    by : (x y z : Bool) → (let r : CoreReply × World = cond x (reply.ModeFixed, W) (cond y (reply.TooManyTx, W) (cond z (reply.Worn, W) (reply.Began (last W.history), after_begin W unattached mode))) in r.0 ≡ reply.Began at) → at ≡ last W.history
    by true y z e = absurd (cc e)
    by false true z e = absurd (cc e)
    by false false true e = absurd (cc e)
    by false false false e = cc e

of_new : (n : ℕ) (live : List Live) (t : Live) → t.number ≡ n → (is_live n live ≡ true → ⊥) → live_of n (live ++ t ∷ []) ≡ t
of_new n [] t same never = ap (λ (b : Bool). cond b t (record { number = n; begin = 0; mode = Serial; accesses = []; place = unattached })) (eq-eqb t.number n same)
of_new n (u ∷ live) t same never = by (u.number == n) never (of_new n live t same)
  where
    by : (b : Bool) → (cond b true (is_live n live) ≡ true → ⊥) → ((is_live n live ≡ true → ⊥) → live_of n (live ++ t ∷ []) ≡ t) → cond b u (live_of n (live ++ t ∷ [])) ≡ t
    by true never ih = absurd (never refl)
    by false never ih = ih never

drop_of_take : {T : Type 0} → (k : ℕ) (xs : List T) → drop k (take k xs) ≡ []
drop_of_take zero xs = refl
drop_of_take (suc k) [] = refl
drop_of_take (suc k) (x ∷ xs) = drop_of_take k xs

-- a transaction clashes with no commit up to its begin
pub clash_none : (g : Geometry) (H : History) (mode : Mode) (begin : ℕ) (accesses : List Access) → None ≡ clash g (up_to H begin) mode begin accesses
unfolding clash
clash_none g H mode begin accesses =
    by (has_write accesses) ∙ ap (λ commits. cond (has_write accesses) (clash_from g mode accesses (first_after H begin) commits) None) (sym (drop_of_take (begin + 1 - H.first) H.commits))
  where
    by : (b : Bool) → None ≡ cond b (clash_from g mode accesses (first_after H begin) []) None
    by true = refl
    by false = refl

-- nothing was checked yet
pub ahead_first : (S : State) (work : Doing) (checked : Checked) → 0 < S.world.history.first → work.begin ≤ last S.world.history → checked ≡ record { upto = work.begin; clash = None } → IsAhead S work checked
ahead_first S work checked some within is = grind (arith, clash_none)

-- what a legal begin made
pub began_own : (A : Start) (es : List Entry) (n at : ℕ) (mode : Mode) (work : Doing) → A.world.live ≡ [] → IsLegal A (es ++ entry.Begin n at mode ∷ [])
    → work.begin ≡ at → work.mode ≡ mode → IsOn (state_at A es).world.geometry work → IsOwn (state_at A (es ++ entry.Begin n at mode ∷ [])) n work
began_own A es n at mode work none legal begin is_mode on =
    let l = legal_last (opened A) es (entry.Begin n at mode) legal in
    let S : State = state_at A es in
    let s = sound_all (opened A) es (opened_sound A none) l.0 in
    let a = l.1.answers in
    let next : n ≡ S.world.next = a.1 in
    let never : is_live n S.world.live ≡ true → ⊥ = λ is. (let lt = s.below n is in absurd (omega (arith, next))) in
    let t : Live = record { number = S.world.next; begin = last S.world.history; mode = mode; accesses = []; place = unattached } in
    let new : live_of n (S.world.live ++ t ∷ []) ≡ t = of_new n S.world.live t (sym next) never in
    grind (arith, after_snoc, began_last)

pub began_ahead : (A : Start) (es : List Entry) (n at : ℕ) (mode : Mode) (work : Doing) (checked : Checked) → A.world.live ≡ [] → IsLegal A (es ++ entry.Begin n at mode ∷ []) → 0 < (state_at A es).world.history.first
    → work.begin ≡ at → checked ≡ record { upto = work.begin; clash = None } → IsAhead (state_at A (es ++ entry.Begin n at mode ∷ [])) work checked
began_ahead A es n at mode work checked none legal some begin is = grind (arith, legal_last, after_snoc, ahead_first, began_last)

-- the mode of a begin that was answered
pub begun_mode : {D : Type 0} → (disk : D → DiskState) (S : State) (old new : Core D) (named : Option Mode) (r : Result Begun CoreError) (t : Begun) → Holds disk old S
    → ((W : World) → StandsFor disk old W up → IfOk r (λ t. (t.tx ≡ W.next) × (t.mode ≡ mode_named W named) × ((begin_step W unattached (mode_named W named)).0 ≡ reply.Began t.at) × StandsFor disk new (after_begin W unattached (mode_named W named)) up))
    → ((W : World) (lost : List Commit) → StandsFor disk old W (down lost) → r ≡ Err error.Down)
    → r ≡ Ok t → t.mode ≡ mode_named S.world named
begun_mode disk S old new named r t h begun fallen is = by S.lost refl
  where
    by : (o : Option (List Commit)) → S.lost ≡ o → t.mode ≡ mode_named S.world named
    by None lost =
        let so = begun S.world (subst (λ v. StandsFor disk old S.world (standing_of v)) lost h.world) in
        (subst (λ v. IfOk v (λ u. (u.tx ≡ S.world.next) × (u.mode ≡ mode_named S.world named) × ((begin_step S.world unattached (mode_named S.world named)).0 ≡ reply.Began u.at) × StandsFor disk new (after_begin S.world unattached (mode_named S.world named)) up)) is so).1
    by (Some commits) lost = absurd (cc (is, fallen S.world commits (subst (λ v. StandsFor disk old S.world (standing_of v)) lost h.world)))

-- ---- the check ahead of the turn of an end

pub some_size : (k : ℕ) → IsTrue (is_block_size k) → 0 < k
some_size zero is = absurd (cc is)
some_size (suc k) is = omega arith

take_take : {T : Type 0} → (k m : ℕ) (xs : List T) → k ≤ m → take k (take m xs) ≡ take k xs
take_take zero m xs le = refl
take_take (suc k) zero xs le = absurd (omega arith)
take_take (suc k) (suc m) [] le = refl
take_take (suc k) (suc m) (x ∷ xs) le = ap (λ l. x ∷ l) (take_take k m xs (omega arith))

-- the commits up to a number, of those up to a later one
pub up_to_twice : (H : History) (n m : ℕ) → n ≤ m → up_to (up_to H m) n ≡ up_to H n
up_to_twice H n m le = ap (λ l. record H { commits = l }) (take_take (n + 1 - H.first) (m + 1 - H.first) H.commits (omega arith))

pub up_to_last : (H : History) → 0 < H.first → up_to H (last H) ≡ H
up_to_last H some =
    let k : last H + 1 - H.first ≡ length H.commits = omega arith in
    ap (λ l. record H { commits = l }) (ap (λ (n : ℕ). take n H.commits) k ∙ take-length H.commits)

pub if_ok_by : {T E : Type 0} → (P : T → Type 0) (r : Result T E) → ((x : T) → r ≡ Ok x → P x) → IfOk r P
if_ok_by P (Ok x) each = each x refl
if_ok_by P (Err e) each = tt

module _ {D : Type 0} (disk : D → DiskState) (S : State) (core : Core D) (tx after : ℕ) where
  -- what the clauses of the call say of this state
  pub record Recounts (r : Result Recent CoreError) : Type 0 where
    pub notes : StandsFor disk core S.world up → IfOk r (λ x. (x.after ≡ after) × (x.upto ≡ last S.world.history) × AreNotesAfter S.world.geometry S.world.history after x.notes.notes)
    pub memory : StandsFor disk core S.world up → IfErr r (λ e. e ≡ error.Memory)
    pub fallen : (lost : List Commit) → StandsFor disk core S.world (down lost) → IsErrOf r error.Down

  pub did_recent : (b n : ℕ) (r : Result Recent CoreError) → Holds disk core S → Recounts r → Did disk S core (recent_entry b n tx r)
  did_recent b n r h so =
      by_lost disk S core (Did disk S core (recent_entry b n tx r)) h
      (λ is stands. up_by r is (so.notes stands) (so.memory stands))
      (λ lost is stands. refused_down disk S core core b n (call.Recent tx) (λ x. entry.Recent tx x.upto) r lost h is tt tt (so.fallen lost stands) refl)
    where
      up_by : (r : Result Recent CoreError) → S.lost ≡ None → IfOk r (λ x. (x.after ≡ after) × (x.upto ≡ last S.world.history) × AreNotesAfter S.world.geometry S.world.history after x.notes.notes) → IfErr r (λ e. e ≡ error.Memory)
          → Did disk S core (recent_entry b n tx r)
      up_by (Ok x) is notes wanted = ((is, notes.1), h)
      up_by (Err e) is notes wanted =
          subst (λ v. Did disk S core (recent_entry b n tx (Err v))) (sym wanted)
          ((tt, is), record { world = h.world; counts = h.counts; told = h.told })

  pub is_recent : (r : Result Recent CoreError) (x : Recent) (checked : Checked) → Holds disk core S → Recounts r → r ≡ Ok x → checked.upto ≡ after → after ≤ last S.world.history → 0 < S.world.history.first → IsRecent S checked x
  is_recent r x checked h so is at within some =
      by_lost disk S core (IsRecent S checked x) h
      (λ none stands.
      let notes = subst (λ v. IfOk v (λ y. (y.after ≡ after) × (y.upto ≡ last S.world.history) × AreNotesAfter S.world.geometry S.world.history after y.notes.notes)) is (so.notes stands) in
      record {
        from = notes.0 ∙ sym at;
        later = omega (arith, notes.0, notes.1);
        to = omega (arith, notes.1);
        notes = subst (λ (k : ℕ). AreNotesAfter S.world.geometry (up_to S.world.history k) x.after x.notes.notes) (sym notes.1)
            (subst (λ (H : History). AreNotesAfter S.world.geometry H x.after x.notes.notes) (sym (up_to_last S.world.history some))
            (subst (λ (k : ℕ). AreNotesAfter S.world.geometry S.world.history k x.notes.notes) (sym notes.0) notes.2));
      })
      (λ lost gone stands. absurd (cc (is, so.fallen lost stands)))

-- the entry of the call leaves the state
pub recent_state : (A : Start) (es : List Entry) (tx upto : ℕ) → state_at A (es ++ entry.Recent tx upto ∷ []) ≡ state_at A es
recent_state A es tx upto = after_snoc (opened A) es (entry.Recent tx upto)

-- a work that was gone on with is still the transaction's, and nothing of it is checked
pub own_gone_on : (S : State) (tx : ℕ) (old new : Doing) → new.begin ≡ old.begin → new.mode ≡ old.mode → new.size ≡ old.size → new.blocks ≡ old.blocks → IsOwn S tx old → IsOwn S tx new
own_gone_on S tx old new begin mode size blocks own = record {
  number = own.number;
  begin = λ live. own.begin live ∙ sym begin;
  mode = λ live. own.mode live ∙ sym mode;
  on = record { size = size ∙ own.on.size; blocks = blocks ∙ own.on.blocks };
}

pub ahead_gone_on : (S : State) (old new : Doing) (checked : Checked) → new.begin ≡ old.begin → IsAhead S old checked → IsAhead S new (record { upto = new.begin; clash = None })
ahead_gone_on S old new checked begin is = ahead_first S new (record { upto = new.begin; clash = None }) is.first (omega (arith, is.from, is.to, begin)) refl

-- a transaction that did more, of which nothing is checked any more
pub gone_on : {D O : Type 0} {A : Start} (t : Tx D O) {accesses : List Access} {ready : Option ℕ} {settled : Bool} (new : Doing) → new ≡ record t.work { accesses = accesses; ready = ready; settled = settled } → IsTxOf A t
    → IsTxOf A (record t { work = new; checked = record { upto = new.begin; clash = None } })
gone_on {A = A} t new is tx =
    let S : State = state_at A (view t.pass).seen in
    let begin : new.begin ≡ t.work.begin = ap (λ (w : Doing). w.begin) is in
    let size : new.size ≡ t.work.size = ap (λ (w : Doing). w.size) is in
    let blocks : new.blocks ≡ t.work.blocks = ap (λ (w : Doing). w.blocks) is in
    grind (arith, own_gone_on, ahead_gone_on)
