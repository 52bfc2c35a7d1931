-- Reads of a client: what the rules answer over the bytes that were fetched, and what the session does.
use Rattle.par_lines.proofs.{Words.{◌≡◌, ◌⊎◌, ℕ, zero, suc, ◌+◌, ◌-◌, Bool, true, false, cond, nat_le, List, [], ◌∷◌, ◌++◌, Option, Some, None, ap, drop, get_or, inl, inr, refl, replicate, sym, subst, take, ◌∙◌, Result, Ok, Err, length-replicate, get_or-append_seam, access_answer, mark_answer, with_access, with_mark, HasMarked, HasRead, IsReadCause, Shows, Made, moves_made, moves_none, moves_on, moves_rested, Access, Commit, Geometry, Op, Reply, TxError, Array, all_own, is_outside, mark_fault, marked, block_at, access_step, get_step, read_step, step, get_access, read_access, marked_last, World, Cause, Entry, Start, Stop, IsRefused, span_at, Own, Did, Does, Fetches, Says, WhereShown, alone, answer, live_of, own_after, own_among, with_block, Answered, SessionState}, Allowing.{allowed, by_tests, refusal, Allows, IsAllowed, Refuses}, Answering.{by_entry, by_none, same_own}, Marking.{mark_free, never_refused, takes_mark, Marked}, Writing.{outside, wrong_range}}
use Rattle.script_model.specs.declared.script.Op.TheVariants as op
use Rattle.script_model.specs.declared.script.Reply.TheVariants as reply
use Rattle.store_model.specs.declared.stores.TxError.TheVariants as error
use Rattle.iso_model.specs.Effect as effect
use Rattle.iso_shared.specs.declared.entry.Call.TheVariants as call
use Rattle.iso_shared.specs.declared.entry.Cause.TheVariants as cause
use Rattle.iso_shared.specs.declared.entry.Entry.TheVariants as entry
use Rattle.script_model.specs.declared.stop.Stop.TheVariants as stop
use Rattle.par_script.specs.Lines as lines
use Rattle.par_lines.specs.Replies as say

-- the block over this array, with the client's writes over it
abbrev pub own_block : Array → Own → (block : ℕ) → List ℕ
own_block B o block = block_at (effect.own B o.accesses) block

pub no_take : (n : ℕ) → take {A = Commit} n [] ≡ []
no_take zero = refl
no_take (suc n) = refl

-- what a read of it shows
abbrev pub shows : (view : List ℕ → List ℕ) → (block : ℕ) → Array → Own → Reply
shows view block B o = reply.Shown (view (own_block B o block))

-- an operation that reads: what it shows of a block, and the access
pub record IsReading (g : Geometry) (x : Op) (block : ℕ) (view : List ℕ → List ℕ) (a : Access) : Type 0 where
  pub can : IsAllowed g x block (shows view block) a
  pub none : (tells : Bool) (r : Reply) → Refuses g x None r → Does g tells None x [] (Ok r) None
  pub some : (tells : Bool) (o : Own) (es : List Entry) (r : Result Reply Stop) (own' : Option Own) → WhereShown (answer g [] (Some o) x) (Fetches g o x block es r own') (Says g (Some o) x es r own') → Does g tells (Some o) x es r own'

-- the array of the one block has it
with_block_at : (block : ℕ) (bytes : List ℕ) → block_at (with_block block bytes) block ≡ bytes
with_block_at block bytes = ap (λ n. get_or (with_block block bytes) n []) (sym (length-replicate {A = List ℕ} block [])) ∙ get_or-append_seam (replicate block []) bytes [] []

read_opened : (g : Geometry) (block : ℕ) (B : Array) (o : Own)
    → step (alone g B (Some o)) 1 (op.Read block) ≡ access_step (alone g B (Some o)) (live_of o) block false (reply.Shown (block_at (effect.own (all_own B (take (o.begin + 1 - 1) [])) o.accesses) block)) (read_access block)
unfolding step read_step
read_opened g block B o = refl

pub read_parts : (g : Geometry) (block : ℕ) → IsReading g (op.Read block) block (λ l. l) (read_access block)
unfolding step
read_parts g block = record {
  can = record {
    opened = λ B o. read_opened g block B o ∙ ap (λ c. access_step (alone g B (Some o)) (live_of o) block false (reply.Shown (block_at (effect.own (all_own B c) o.accesses) block)) (read_access block)) (no_take (o.begin + 1 - 1));
    closed = refl;
  };
  none = λ tells r refuses. (refl, ap (λ v. Ok v) (sym refuses.answer_is), sym refuses.left);
  some = λ tells o es r own' does. does;
}

get_opened : (g : Geometry) (block off len : ℕ) (B : Array) (o : Own)
    → step (alone g B (Some o)) 1 (op.Get block off len) ≡ access_step (alone g B (Some o)) (live_of o) block (is_outside g.block off len) (reply.Shown (take len (drop off (block_at (effect.own (all_own B (take (o.begin + 1 - 1) [])) o.accesses) block)))) (get_access block off len)
unfolding step get_step
get_opened g block off len B o = refl

pub get_parts : (g : Geometry) (block off len : ℕ) → is_outside g.block off len ≡ false → IsReading g (op.Get block off len) block (λ l. take len (drop off l)) (get_access block off len)
unfolding step
get_parts g block off len is = record {
  can = record {
    opened = λ B o. get_opened g block off len B o
        ∙ ap (λ c. access_step (alone g B (Some o)) (live_of o) block (is_outside g.block off len) (reply.Shown (take len (drop off (block_at (effect.own (all_own B c) o.accesses) block)))) (get_access block off len)) (no_take (o.begin + 1 - 1))
        ∙ ap (λ b. access_step (alone g B (Some o)) (live_of o) block b (reply.Shown (take len (drop off (own_block B o block)))) (get_access block off len)) is;
    closed = refl;
  };
  none = λ tells r refuses. (refl, ap (λ v. Ok v) (sym refuses.answer_is), sym refuses.left);
  some = λ tells o es r own' does. does;
}

same_err : (f e : TxError) → ◌≡◌ {A = Result (Unit {0}) TxError} (Err e) (Err f) → f ≡ e
same_err f e is = cc

module _ (A : Start) (x : Op) (block : ℕ) (view : List ℕ → List ℕ) (a : Access) (parts : IsReading A.world.geometry x block view a) where
  not_shown : (o : Own) (r : Reply) (es : List Entry) (q : Result Reply Stop) (own' : Option Own) → Refuses A.world.geometry x (Some o) r
      → WhereShown r (Fetches A.world.geometry o x block es q own') (Says A.world.geometry (Some o) x es q own') → Does A.world.geometry A.tells (Some o) x es q own'
  not_shown o r es q own' refuses says = parts.some A.tells o es q own' (subst (λ v. WhereShown v (Fetches A.world.geometry o x block es q own') (Says A.world.geometry (Some o) x es q own')) (sym refuses.answer_is) says)

  said : (o : Own) (r : Reply) → Refuses A.world.geometry x (Some o) r → Says A.world.geometry (Some o) x [] (Ok r) (Some o)
  said o r refuses = (refl, ap (λ v. Ok v) (sym refuses.answer_is), sym refuses.left)

  fetched : (o : Own) (es : List Entry) (r : Result Reply Stop) (own' : Option Own) → answer A.world.geometry [] (Some o) x ≡ shows view block [] o → Fetches A.world.geometry o x block es r own' → Does A.world.geometry A.tells (Some o) x es r own'
  fetched o es r own' is does = parts.some A.tells o es r own' (subst (λ v. WhereShown v (Fetches A.world.geometry o x block es r own') (Says A.world.geometry (Some o) x es r own')) (sym is) does)

module _ (A : Start) (x : Op) (block : ℕ) (view : List ℕ → List ℕ) (a : Access) (parts : IsReading A.world.geometry x block view a) where
  -- a read that is refused before it asks
  refused : (s t : SessionState) (e : TxError) (into : List ℕ) → HasRead A s block (Err e) into t → refusal A.world.geometry s.own block ≡ Some e → Answered A s x (say.accessed (Err e)) t
  refused s t e into did so =
      by_tests A.world.geometry x block (shows view block) a parts.can (λ was f. s.own ≡ was → HasRead A s block (Err f) into t → Answered A s x (say.accessed (Err f)) t) s.own e so
      (λ refuses is same. by_none A s t x (Ok reply.NotInTx) None is same (parts.none A.tells reply.NotInTx refuses))
      (λ o refuses is same. by_none A s t x (Ok reply.BadBlock) (Some o) is same (not_shown A x block view a parts o reply.BadBlock [] (Ok reply.BadBlock) (Some o) refuses (said A x block view a parts o reply.BadBlock refuses)))
      (λ o refuses is same. by_none A s t x (Ok reply.TooManyAccesses) (Some o) is same (not_shown A x block view a parts o reply.TooManyAccesses [] (Ok reply.TooManyAccesses) (Some o) refuses (said A x block view a parts o reply.TooManyAccesses refuses)))
      refl did

  -- the device refuses the fetch
  refused_fetch : (s t : SessionState) (o p : Own) (why : Cause) (r : Result Reply Stop) → s.own ≡ Some o → s.own ≡ Some p → answer A.world.geometry [] (Some p) x ≡ shows view block [] p → t.own ≡ Some o → r ≡ lines.refused why
      → Made A s t (entry.Refused (call.Fetch o.number block) why) → Answered A s x r t
  refused_fetch s t o p why r is was answers left says made =
      let same : p ≡ o = same_own p o (sym was ∙ is) in
      by_entry A s t x (entry.Refused (call.Fetch o.number block) why) r (Some o) is made (fetched A x block view a parts o (entry.Refused (call.Fetch o.number block) why ∷ []) r t.own (subst (λ q. answer A.world.geometry [] (Some q) x ≡ shows view block [] q) same answers) (refl, says, left))

  -- a read that was refused
  pub refused_read : (s t : SessionState) (e : TxError) (into : List ℕ) → IsRefused {T = Unit {0}} (access_answer A s block) IsReadCause (Err e) → HasRead A s block (Err e) into t → Answered A s x (say.accessed (Err e)) t
  refused_read s t e into because did = by (access_answer A s block) refl
    where
      by : (o : Option TxError) → access_answer A s block ≡ o → Answered A s x (say.accessed (Err e)) t
      by (Some f) is = refused s t e into did (is ∙ ap (λ v. Some v) (same_err f e (subst (λ v. IsRefused {T = Unit {0}} v IsReadCause (Err e)) is because)))
      by None is = free (subst (λ v. IsRefused {T = Unit {0}} v IsReadCause (Err e)) is because)
        where
          allows : Allows A.world.geometry x block (shows view block) a parts.can s.own
          allows = allowed A.world.geometry x block (shows view block) a parts.can s.own is

          at : (f : TxError) → e ≡ f → HasRead A s block (Err f) into t
          at f so = subst (λ v. HasRead A s block (Err v) into t) so did

          down : HasRead A s block (Err error.Down) into t → Answered A s x (Err stop.Down) t
          down h = refused_fetch s t h.0 allows.own cause.Down (Err stop.Down) h.1 allows.own_is (allows.answers []) h.2 refl h.3

          disk : HasRead A s block (Err error.Disk) into t → Answered A s x (Err stop.Disk) t
          disk h = refused_fetch s t h.0 allows.own (cause.Disk h.3 h.4) (Err stop.Disk) h.1 allows.own_is (allows.answers []) h.2 refl h.5

          memory : HasRead A s block (Err error.Memory) into t → Answered A s x (Err stop.Memory) t
          memory same = subst (λ u. Answered A s x (Err stop.Memory) u) (sym same) (record { entries = []; moves = moves_none s; did = inr (refl, refl, refl); of = refl })

          free : (e ≡ error.Memory) ⊎ (e ≡ error.Down) ⊎ (e ≡ error.Disk) → Answered A s x (say.accessed (Err e)) t
          free (inl so) = subst (λ f. Answered A s x (say.accessed (Err f)) t) (sym so) (memory (at error.Memory so))
          free (inr (inl so)) = subst (λ f. Answered A s x (say.accessed (Err f)) t) (sym so) (down (at error.Down so))
          free (inr (inr so)) = subst (λ f. Answered A s x (say.accessed (Err f)) t) (sym so) (disk (at error.Disk so))

  -- what the bytes of a fetch are for the rules
  pub record Fetched (s m : SessionState) (into : List ℕ) : Type 0 where
    pub own : Own
    pub was : s.own ≡ Some own
    pub bytes : List ℕ
    pub made : Made A s m (entry.Fetch own.number block bytes)
    pub answers : answer A.world.geometry (with_block block bytes) (Some own) x ≡ reply.Shown (view into)
    pub shown : answer A.world.geometry [] (Some own) x ≡ shows view block [] own
    pub leaves : own_after A.world.geometry (with_block block bytes) (Some own) x ≡ Some (with_access own a)
    pub is : m.own ≡ Some (with_access own (read_access block))

  pub was_fetched : (s m : SessionState) (into : List ℕ) (done : Unit {0}) → IsRefused (access_answer A s block) IsReadCause (Ok done) → HasRead A s block (Ok done) into m → Fetched s m into
  was_fetched s m into done cause did = by (access_answer A s block) refl
    where
      by : (o : Option TxError) → access_answer A s block ≡ o → Fetched s m into
      by (Some f) is = absurd (cc (subst (λ v. IsRefused v IsReadCause (Ok done)) is cause))
      by None is =
          let allows = allowed A.world.geometry x block (shows view block) a parts.can s.own is in
          let o : Own = did.0 in
          let same : allows.own ≡ o = same_own allows.own o (sym allows.own_is ∙ did.1) in
          let shown : Shows A o block s m did.3 into = did.4 in
          record {
            own = o;
            was = did.1;
            bytes = did.3;
            made = shown.made;
            answers = subst (λ p. answer A.world.geometry (with_block block did.3) (Some p) x ≡ shows view block (with_block block did.3) p) same (allows.answers (with_block block did.3))
                ∙ ap (λ l. reply.Shown (view l)) (sym (shown.laid (with_block block did.3) (with_block_at block did.3)));
            shown = subst (λ p. answer A.world.geometry [] (Some p) x ≡ shows view block [] p) same (allows.answers []);
            leaves = subst (λ p. own_after A.world.geometry (with_block block did.3) (Some p) x ≡ Some (with_access p a)) same (allows.leaves (with_block block did.3));
            is = did.2;
          }

no_get : (g : Geometry) (tells : Bool) (block off len : ℕ) → Does g tells None (op.Get block off len) [] (Ok reply.NotInTx) None
unfolding step
no_get g tells block off len = (refl, refl, refl)

module _ (A : Start) (block : ℕ) where
  -- a line that reads a whole block
  pub read_line : (s t : SessionState) (bytes : List ℕ) (r : Result (Unit {0}) TxError) → IsRefused (access_answer A s block) IsReadCause r → HasRead A s block r bytes t → Answered A s (op.Read block) (say.shown r bytes) t
  read_line s t bytes (Err e) cause did = refused_read A (op.Read block) block (λ l. l) (read_access block) (read_parts A.world.geometry block) s t e bytes cause did
  read_line s t bytes (Ok done) cause did =
      let parts : IsReading A.world.geometry (op.Read block) block (λ l. l) (read_access block) = read_parts A.world.geometry block in
      let f : Fetched A (op.Read block) block (λ l. l) (read_access block) parts s t bytes = was_fetched A (op.Read block) block (λ l. l) (read_access block) parts s t bytes done cause did in
      by_entry A s t (op.Read block) (entry.Fetch f.own.number block f.bytes) (Ok (reply.Shown bytes)) (Some f.own) f.was f.made
      (fetched A (op.Read block) block (λ l. l) (read_access block) parts f.own (entry.Fetch f.own.number block f.bytes ∷ []) (Ok (reply.Shown bytes)) t.own f.shown
      (refl, refl, ap (λ v. Ok v) (sym f.answers), f.is ∙ sym f.leaves))

  -- a line that reads a part of one, and marks it
  pub get_line : (off len : ℕ) → is_outside A.world.geometry.block off len ≡ false → (s m t : SessionState) (into bytes : List ℕ) (done : Unit {0}) (r : Result (Unit {0}) TxError)
      → IsRefused (access_answer A s block) IsReadCause (Ok done) → HasRead A s block (Ok done) into m → IsRefused (mark_answer A m off len) (λ e. ⊥) r → HasMarked m off len r t → bytes ≡ take len (drop off into)
      → Answered A s (op.Get block off len) (say.shown r bytes) t
  get_line off len inside s m t into bytes done r cause did may marks cut =
      let view : List ℕ → List ℕ = λ l. take len (drop off l) in
      let a : Access = get_access block off len in
      let parts : IsReading A.world.geometry (op.Get block off len) block view a = get_parts A.world.geometry block off len inside in
      let f : Fetched A (op.Get block off len) block view a parts s m into = was_fetched A (op.Get block off len) block view a parts s m into done cause did in
      let fault : mark_fault A.world.geometry.block off len (f.own.accesses ++ read_access block ∷ []) ≡ None = takes_mark A.world.geometry.block off len f.own.accesses (read_access block) refl inside in
      let free : IsRefused None (λ e. ⊥) r = subst (λ g. IsRefused g (λ e. ⊥) r) (mark_free A m (with_access f.own (read_access block)) off len f.is fault) may in
      let k : Marked m off len r t = never_refused m t off len r free marks in
      let own' : k.own ≡ with_access f.own (read_access block) = same_own k.own (with_access f.own (read_access block)) (sym k.was ∙ f.is) in
      let last : marked (span_at off len) (f.own.accesses ++ read_access block ∷ []) ≡ f.own.accesses ++ a ∷ [] = marked_last (span_at off len) f.own.accesses (read_access block) in
      subst (λ q. Answered A s (op.Get block off len) (say.shown q bytes) t) (sym k.answered) (record {
        entries = entry.Fetch f.own.number block f.bytes ∷ [];
        moves = moves_on s m t (entry.Fetch f.own.number block f.bytes ∷ []) [] (moves_made A s m (entry.Fetch f.own.number block f.bytes) f.made) (moves_rested m t k.rested);
        did = subst (λ w. Did A.world.geometry A.tells w (op.Get block off len) (entry.Fetch f.own.number block f.bytes ∷ []) (Ok (reply.Shown bytes)) t.own) (sym f.was)
            (inl (fetched A (op.Get block off len) block view a parts f.own (entry.Fetch f.own.number block f.bytes ∷ []) (Ok (reply.Shown bytes)) t.own f.shown
            (refl, refl, ap (λ l. Ok (reply.Shown l)) cut ∙ ap (λ v. Ok v) (sym f.answers), k.is ∙ ap (λ p. Some (with_mark p off len)) own' ∙ ap (λ l. Some (record f.own { accesses = l })) last ∙ sym f.leaves)));
        of = k.rested.of ∙ f.made.of;
      })

  -- a line whose bytes are none, or pass the end of a block
  pub wrong_get : (h : Geometry) (off len : ℕ) (s : SessionState) → h ≡ A.world.geometry → is_outside h.block off len ≡ true → Answered A s (op.Get block off len) (Ok (say.wrong_bytes h.blocks s.own block)) s
  wrong_get h off len s is outside_is =
      subst (λ k. Answered A s (op.Get block off len) (Ok (say.wrong_bytes k.blocks s.own block)) s) (sym is) (by s.own refl)
    where
      wrong : is_outside A.world.geometry.block off len ≡ true
      wrong = ap (λ k. is_outside k.block off len) (sym is) ∙ outside_is

      bytes : Own → Reply
      bytes o = reply.Shown (take len (drop off (block_at (effect.own (all_own [] (take (o.begin + 1 - 1) [])) o.accesses) block)))

      so : (o : Own) (r : Reply) (w : Reply × World) → access_step (alone A.world.geometry [] (Some o)) (live_of o) block true (bytes o) (get_access block off len) ≡ w → w.0 ≡ r → own_among w.1.live ≡ Some o
          → (WhereShown r (Fetches A.world.geometry o (op.Get block off len) block [] (Ok r) (Some o)) (Says A.world.geometry (Some o) (op.Get block off len) [] (Ok r) (Some o)) ≡ Says A.world.geometry (Some o) (op.Get block off len) [] (Ok r) (Some o))
          → Does A.world.geometry A.tells (Some o) (op.Get block off len) [] (Ok r) (Some o)
      so o r w stepped says left other =
          let whole : step (alone A.world.geometry [] (Some o)) 1 (op.Get block off len) ≡ w = get_opened A.world.geometry block off len [] o
          ∙ ap (λ b. access_step (alone A.world.geometry [] (Some o)) (live_of o) block b (bytes o) (get_access block off len)) wrong ∙ stepped in
          let answers : answer A.world.geometry [] (Some o) (op.Get block off len) ≡ r = ap (λ (v : Reply × World). v.0) whole ∙ says in
          let leaves : own_after A.world.geometry [] (Some o) (op.Get block off len) ≡ Some o = ap (λ (v : Reply × World). own_among v.1.live) whole ∙ left in
          subst (λ v. WhereShown v (Fetches A.world.geometry o (op.Get block off len) block [] (Ok r) (Some o)) (Says A.world.geometry (Some o) (op.Get block off len) [] (Ok r) (Some o))) (sym answers)
          (subst (λ (T : Type 0). T) (sym other) (refl, ap (λ v. Ok v) (sym answers), sym leaves))

      by : (was : Option Own) → s.own ≡ was → Answered A s (op.Get block off len) (Ok (say.wrong_bytes A.world.geometry.blocks s.own block)) s
      by None is = subst (λ w. Answered A s (op.Get block off len) (Ok (say.wrong_bytes A.world.geometry.blocks w block)) s) (sym is) (by_none A s s (op.Get block off len) (Ok reply.NotInTx) None is refl (no_get A.world.geometry A.tells block off len))
      by (Some o) is = subst (λ w. Answered A s (op.Get block off len) (Ok (say.wrong_bytes A.world.geometry.blocks w block)) s) (sym is) (tests (nat_le A.world.geometry.blocks block) refl)
        where
          tests : (b : Bool) → nat_le A.world.geometry.blocks block ≡ b → Answered A s (op.Get block off len) (Ok (cond b reply.BadBlock reply.BadRange)) s
          tests true within =
              by_none A s s (op.Get block off len) (Ok reply.BadBlock) (Some o) is refl
              (so o reply.BadBlock (reply.BadBlock, alone A.world.geometry [] (Some o)) (outside A.world.geometry o block (bytes o) (get_access block off len) true within) refl refl refl)
          tests false within =
              by_none A s s (op.Get block off len) (Ok reply.BadRange) (Some o) is refl
              (so o reply.BadRange (reply.BadRange, alone A.world.geometry [] (Some o)) (wrong_range A.world.geometry o block (bytes o) (get_access block off len) within) refl refl refl)
