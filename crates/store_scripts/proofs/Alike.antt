-- The rules answer a client alone on two arrays alike, where its operation reads the same blocks of both.
use Rattle.store_scripts.proofs.{ThreadWords.{◌≡◌, ◌∙◌, sym, refl, ap, ℕ, ◌==◌, ◌&&◌, not, Bool, true, false, cond, nat_le, List, [], ◌∷◌, ◌++◌, length, replicate, slice_index, take, drop, Option, Some, None, eq-eqb, Access, Geometry, MarkError, Span, MAX_ACCESSES, Array, is_serial, is_outside, mark_fault, marked, get_access, put_access, read_access, shown_to, with_accesses, write_access, Live, World, Op, Reply, access_step, in_store, mark_refused, marked_step, fill_step, get_step, mark_step, put_step, read_step, step, write_step, Own, alone, live_of, own_among, SecondStore, Told, told_more, IsSecond}, Sound.{as_first, sound}}
use Rattle.script_model.specs.declared.script.Op.TheVariants as op
use Rattle.script_model.specs.declared.script.Reply.TheVariants as reply

module _ (S : SecondStore) (lawful : IsSecond S) (g : Geometry) (B C : Array) (t : Own) where
  -- the client alone with its transaction on the array B, and as the first one in a sound world on C
  abbrev here : World
  here = alone g B (Some t)

  abbrev there : World
  there = sound g C t

  abbrev first : Live
  first = live_of (as_first t)

  -- what two replies say of calls is the same
  abbrev pub TellAlike : Op → (r q : Reply) → Type 0
  TellAlike x r q = (told : Told S) (before after : List Access) → told_more S g x r before after told (S.answered x r) ≡ told_more S g x q before after told (S.answered x q)

  -- both answers tell the same, and leave the transaction with the same accesses
  pub record AreAlike (x : Op) (a b : Reply × World) : Type 0 where
    pub accesses : List Access
    pub own : own_among a.1.live ≡ Some (record t { accesses = accesses })
    pub is : b.1 ≡ with_accesses there first accesses
    pub tell : TellAlike x a.0 b.0

  same_tell : (x : Op) (r : Reply) → TellAlike x r r
  same_tell x r told before after = refl

  pub stays : (x : Op) (r : Reply) → AreAlike x (r, here) (r, there)
  stays x r = record { accesses = t.accesses; own = refl; is = refl; tell = same_tell x r }

  grows : (x : Op) (r q : Reply) (l : List Access) → TellAlike x r q → AreAlike x (r, with_accesses here (live_of t) l) (q, with_accesses there first l)
  grows x r q l alike = record {
    accesses = l;
    own = ap (λ b. own_among (cond b (record (live_of t) { accesses = l }) (live_of t) ∷ [])) (eq-eqb t.number t.number refl);
    is = refl;
    tell = alike;
  }

  pub grows_same : (x : Op) (r : Reply) (l : List Access) → AreAlike x (r, with_accesses here (live_of t) l) (r, with_accesses there first l)
  grows_same x r l = grows x r r l (same_tell x r)

  pub choose : (x : Op) (test : Bool) (a a' b b' : Reply × World) → AreAlike x a b → AreAlike x a' b' → AreAlike x (cond test a a') (cond test b b')
  choose x true a a' b b' one two = one
  choose x false a a' b b' one two = two

  access_alike : (x : Op) (block : ℕ) (wrong : Bool) (r q : Reply) (a : Access) → TellAlike x r q → AreAlike x (access_step here (live_of t) block wrong r a) (access_step there first block wrong q a)
  access_alike x block wrong r q a alike =
      choose x (nat_le g.blocks block) _ _ _ _ (stays x reply.BadBlock)
      (choose x wrong _ _ _ _ (stays x reply.BadRange)
      (choose x (nat_le MAX_ACCESSES (length t.accesses)) _ _ _ _ (stays x reply.TooManyAccesses) (grows x r q (t.accesses ++ a ∷ []) alike)))

  pub put_alike : (block off : ℕ) (bytes : List ℕ) → AreAlike (op.Put block off bytes) (step here 1 (op.Put block off bytes)) (step there 1 (op.Put block off bytes))
  unfolding step put_step
  put_alike block off bytes =
      access_alike (op.Put block off bytes) block (is_outside g.block off (length bytes)) reply.Done reply.Done (put_access g.block block off bytes) (same_tell (op.Put block off bytes) reply.Done)

  pub write_alike : (block : ℕ) (bytes : List ℕ) → AreAlike (op.Write block bytes) (step here 1 (op.Write block bytes)) (step there 1 (op.Write block bytes))
  unfolding step write_step
  write_alike block bytes =
      access_alike (op.Write block bytes) block (not (length bytes == g.block)) reply.Done reply.Done (write_access block bytes) (same_tell (op.Write block bytes) reply.Done)

  pub fill_alike : (block : ℕ) (bytes : List ℕ) → AreAlike (op.Fill block bytes) (step here 1 (op.Fill block bytes)) (step there 1 (op.Fill block bytes))
  unfolding step fill_step
  fill_alike block bytes =
      access_alike (op.Fill block bytes) block (not (length bytes == 1)) reply.Done reply.Done (write_access block (replicate g.block (slice_index bytes 0))) (same_tell (op.Fill block bytes) reply.Done)

  -- bytes that are shown tell nothing of calls
  read_tells : (block : ℕ) (r q : Reply) → TellAlike (op.Read block) r q
  read_tells block r q told before after =
      ap (λ o. told_more S g (op.Read block) r before after told o) (lawful.quiet (op.Read block) tt r)
      ∙ sym (ap (λ o. told_more S g (op.Read block) q before after told o) (lawful.quiet (op.Read block) tt q))

  get_tells : (block off len : ℕ) (r q : Reply) → TellAlike (op.Get block off len) r q
  get_tells block off len r q told before after =
      ap (λ o. told_more S g (op.Get block off len) r before after told o) (lawful.quiet (op.Get block off len) tt r)
      ∙ sym (ap (λ o. told_more S g (op.Get block off len) q before after told o) (lawful.quiet (op.Get block off len) tt q))

  pub read_alike : (block : ℕ) → AreAlike (op.Read block) (step here 1 (op.Read block)) (step there 1 (op.Read block))
  unfolding step read_step
  read_alike block =
      access_alike (op.Read block) block false (reply.Shown (shown_to here (live_of t) block)) (reply.Shown (shown_to there first block)) (read_access block)
      (read_tells block (reply.Shown (shown_to here (live_of t) block)) (reply.Shown (shown_to there first block)))

  pub get_alike : (block off len : ℕ) → AreAlike (op.Get block off len) (step here 1 (op.Get block off len)) (step there 1 (op.Get block off len))
  unfolding step get_step
  get_alike block off len =
      let r = reply.Shown (take len (drop off (shown_to here (live_of t) block))) in
      let q = reply.Shown (take len (drop off (shown_to there first block))) in
      access_alike (op.Get block off len) block (is_outside g.block off len) r q (get_access block off len) (get_tells block off len r q)

  pub mark_alike : (off len : ℕ) → AreAlike (op.Mark off len) (step here 1 (op.Mark off len)) (step there 1 (op.Mark off len))
  unfolding step mark_step
  mark_alike off len = by (mark_fault g.block off len t.accesses)
    where
      span : Span
      span = record { off = off; len = len }

      by : (o : Option MarkError) → AreAlike (op.Mark off len) (marked_step here (live_of t) span o) (marked_step there first span o)
      by (Some fault) = stays (op.Mark off len) (mark_refused fault)
      by None = grows (op.Mark off len) reply.Done reply.Done (marked span t.accesses) (same_tell (op.Mark off len) reply.Done)

  -- a store that is not there, or not for this transaction
  pub store_stays : (x : Op) (blocks : ℕ) (a b : Reply × World) → (not (blocks == 0) && is_serial t.mode) ≡ false → AreAlike x (in_store here (live_of t) blocks a) (in_store there first blocks b)
  store_stays x blocks a b none = by (blocks == 0) (is_serial t.mode) none
    where
      by : (e m : Bool) → (not e && m) ≡ false → AreAlike x (cond e (reply.NoStore, here) (cond m a (reply.StoreMode, here))) (cond e (reply.NoStore, there) (cond m b (reply.StoreMode, there)))
      by true m none = stays x reply.NoStore
      by false true none = absurd (cc none)
      by false false none = stays x reply.StoreMode

  -- a store that is called
  pub store_in : (x : Op) (blocks : ℕ) (a b : Reply × World) → AreAlike x a b → AreAlike x (in_store here (live_of t) blocks a) (in_store there first blocks b)
  store_in x blocks a b alike = choose x (blocks == 0) _ _ _ _ (stays x reply.NoStore) (choose x (is_serial t.mode) _ _ _ _ alike (stays x reply.StoreMode))
