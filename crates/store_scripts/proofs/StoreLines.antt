-- What is told of a client's transaction stays true by a line that calls a store.
use Rattle.store_scripts.proofs.{ThreadWords.{IsOnStore, ◌≡◌, ◌∙◌, sym, refl, ap, subst, ℕ, ◌-◌, ◌==◌, ◌&&◌, not, Bool, true, false, cond, eq-eqb, IsTrue, List, [], ◌∷◌, ◌++◌, length, map, Option, Some, None, Ok, append_cancel_left, AllByRecursion, Access, Geometry, MAX_ACCESSES, Array, is_serial, is_valid, HasShape, block_at, with_accesses, Live, World, Op, Reply, IsOp, in_store, step, FileAreas, is_empty_scan, store_areas, store_blocks, store_ended, Entry, CallsStore, Fetched, InStore, Own, Says, Where, alone, blocks_read, fetches, live_of, own_after, own_among, refused_fetch, SecondStore, Told, SecondGoes, IsSecond, written}, Agree.Same, Alike.{AreAlike, grows_same, stays, store_in, store_stays}, ThreadLines.{IsNext, by_rules, says}, OnStores.{ended_agrees, shown_alone, stores_step}, Sound.{IsGood, as_first, second_form, sound}}
use Rattle.script_model.specs.declared.script.Op.TheVariants as op
use Rattle.script_model.specs.declared.script.Reply.TheVariants as reply
use Rattle.iso_shared.specs.declared.entry.Entry.TheVariants as entry

-- where the stores are is the same in an image of another form
areas_same : (g : Geometry) (x : Op) → store_areas (second_form g) x ≡ store_areas g x
areas_same g (op.HashPut key value) = refl
areas_same g x = refl

-- bytes that were fetched are those of the array
abbrev pub IsOfArray : Array → Entry → Type 0
IsOfArray C (entry.Fetch n block bytes) = bytes ≡ block_at C block
IsOfArray C e = Unit {0}

-- the fetches of a call, on two arrays
same_fetched : (n : ℕ) (B C : Array) (fetched : Fetched) (rest : List Entry) → AllByRecursion (IsOfArray C) (fetches n fetched ++ rest) → AllByRecursion (λ f. block_at B f.0 ≡ f.1) fetched
    → AllByRecursion (Same B C) (map (λ f. f.0) fetched)
same_fetched n B C [] rest of has = tt
same_fetched n B C (f ∷ fetched) rest of has = (has.0 ∙ of.0, same_fetched n B C fetched rest of.1 has.1)

abbrev accesses_of : Option Own → List Access
accesses_of None = []
accesses_of (Some o) = o.accesses

-- a store that is there is called
in_store_is : (W : World) (u : Live) (blocks : ℕ) (x : Reply × World) → (not (blocks == 0) && is_serial u.mode) ≡ true → in_store W u blocks x ≡ x
in_store_is W u blocks x there = by (blocks == 0) (is_serial u.mode) there
  where
    by : (e m : Bool) → (not e && m) ≡ true → cond e (reply.NoStore, W) (cond m x (reply.StoreMode, W)) ≡ x
    by true m is = absurd (cc is)
    by false true is = refl
    by false false is = absurd (cc is)

module _ (S : SecondStore) (lawful : IsSecond S) (second : SecondGoes S) (g : Geometry) (valid : IsTrue (is_valid g)) (C : Array) (shape : HasShape g C) (t : Own) (told : Told S) (good : IsGood S g C t told)
    (x : Op) (calls : IsOnStore x) (isop : IsOp x) where
  abbrev there : World
  there = sound g C t

  abbrev first : Live
  first = live_of (as_first t)

  abbrev AlikeOn : Array → Type 0
  AlikeOn B = AreAlike S lawful g B C t x (step (alone g B (Some t)) 1 x) (step there 1 x)

  -- what the call ends with on an array
  abbrev ended : Array → List Access × Reply
  ended B = store_ended (store_areas g x) x (MAX_ACCESSES - length t.accesses) (written B t.accesses)

  abbrev given : World → Live → List Access × Reply → Reply × World
  given W u e = (e.1, with_accesses W u (u.accesses ++ e.0))

  abbrev form : World → Live → List Access × Reply → Reply × World
  form W u e = in_store W u (store_blocks g x) (cond (is_empty_scan x) (reply.BadRange, W) (given W u e))

  here_is : (B : Array) → step (alone g B (Some t)) 1 x ≡ form (alone g B (Some t)) (live_of t) (ended B)
  here_is B =
      let W : World = alone g B (Some t) in
      stores_step W (live_of t) x calls refl ∙ ap (λ D. form W (live_of t) (store_ended (store_areas g x) x (MAX_ACCESSES - length t.accesses) D)) (shown_alone g B t)

  there_is : step there 1 x ≡ form there first (ended C)
  there_is =
      stores_step there first x calls refl
      ∙ ap (λ (a : FileAreas). in_store there first a.files.blocks (cond (is_empty_scan x) (reply.BadRange, there) (given there first (store_ended a x (MAX_ACCESSES - length t.accesses) (written C t.accesses))))) (areas_same g x)

  alike_by : (B : Array) → AreAlike S lawful g B C t x (form (alone g B (Some t)) (live_of t) (ended B)) (form there first (ended C)) → AlikeOn B
  alike_by B a =
      subst (λ (y : Reply × World). AreAlike S lawful g B C t x y (step there 1 x)) (sym (here_is B))
      (subst (λ (z : Reply × World). AreAlike S lawful g B C t x (form (alone g B (Some t)) (live_of t) (ended B)) z) (sym there_is) a)

  same_ends : (B : Array) → (is_empty_scan x ≡ false → ended B ≡ ended C) → AlikeOn B
  same_ends B same =
      alike_by B
      (store_in S lawful g B C t x (store_blocks g x) _ _ (by (is_empty_scan x) same))
    where
      W : World
      W = alone g B (Some t)

      by : (e : Bool) → (e ≡ false → ended B ≡ ended C) → AreAlike S lawful g B C t x (cond e (reply.BadRange, W) (given W (live_of t) (ended B))) (cond e (reply.BadRange, there) (given there first (ended C)))
      by true same = stays S lawful g B C t x reply.BadRange
      by false same =
          subst (λ (e : List Access × Reply). AreAlike S lawful g B C t x (given W (live_of t) (ended B)) (given there first e)) (same refl)
          (grows_same S lawful g B C t x (ended B).1 (t.accesses ++ (ended B).0))

  grown : (B : Array) (l : List Access) → own_among (with_accesses (alone g B (Some t)) (live_of t) l).live ≡ Some (record t { accesses = l })
  grown B l = ap (λ b. own_among (cond b (record (live_of t) { accesses = l }) (live_of t) ∷ [])) (eq-eqb t.number t.number refl)

  -- what the line left, where the store was called
  left_is : (B : Array) → (not (store_blocks g x == 0) && is_serial t.mode) ≡ true → is_empty_scan x ≡ false → own_after g B (Some t) x ≡ own_among (given (alone g B (Some t)) (live_of t) (ended B)).1.live
  left_is B serial full =
      let W : World = alone g B (Some t) in
      ap (λ (y : Reply × World). own_among y.1.live)
      (here_is B ∙ in_store_is W (live_of t) (store_blocks g x) _ serial ∙ ap (λ e. cond e (reply.BadRange, W) (given W (live_of t) (ended B))) full)

  pub store_line : (tells : Bool) → tells ≡ true → (es : List Entry) (r : Reply) (own' : Option Own) → AllByRecursion (IsOfArray C) es
      → InStore (store_blocks g x) t (CallsStore g tells t x es (Ok r) own') (Says g (Some t) x es (Ok r) own') → IsNext S lawful second g valid C shape t told good x r own'
  store_line tells all es r own' of d = by (not (store_blocks g x == 0) && is_serial t.mode) refl d
    where
      by : (test : Bool) → (not (store_blocks g x == 0) && is_serial t.mode) ≡ test → Where test (CallsStore g tells t x es (Ok r) own') (Says g (Some t) x es (Ok r) own')
          → IsNext S lawful second g valid C shape t told good x r own'
      by false none d =
          says S lawful second g valid C shape t told good x es r own' isop (alike_by [] (store_stays S lawful g [] C t x (store_blocks g x) _ _ none)) d
      by true serial d =
          let on = d.told all in
          let B : Array = on.array in
          let done_is : is_empty_scan x ≡ false → d.done ≡ (ended B).0 = λ full.
          append_cancel_left t.accesses d.done (ended B).0
          (ap accesses_of (sym d.left ∙ on.leaves ∙ left_is B serial full ∙ grown B (t.accesses ++ (ended B).0))) in
          let fetched = same_fetched t.number B C d.fetched (refused_fetch t.number d.refused) (subst (AllByRecursion (IsOfArray C)) d.are of) on.has in
          let same : is_empty_scan x ≡ false → ended B ≡ ended C = λ full.
          ended_agrees (store_areas g x) x (MAX_ACCESSES - length t.accesses) B C t.accesses
          (subst (λ l. AllByRecursion (Same B C) (blocks_read l)) (done_is full) (subst (AllByRecursion (Same B C)) (sym d.reads) fetched)) in
          by_rules S lawful second g valid C shape t told good B x r own' isop (same_ends B same) (ap (λ q. Ok q) on.reply) on.leaves
