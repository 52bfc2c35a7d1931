-- What is told of a client's transaction stays true by each of its lines.
use Rattle.store_scripts.proofs.{ThreadWords.{◌≡◌, ◌∙◌, ◌⊎◌, inl, inr, sym, ap, subst, ℕ, ◌&&◌, IsTrue, List, [], ◌∷◌, length, drop, Option, Some, None, Result, Ok, and_parts, list_all, Access, Geometry, Array, is_valid, HasShape, with_accesses, Op, Reply, Stop, IsOp, step, Entry, AsksAndEnds, Compacts, Ends, EndsNow, EndsThen, Fetches, Own, Posts, Reads, Says, Stats, Trims, Upgrades, WhereShown, answer, own_after, with_block, SecondStore, Told, spares_calls, spares_stores, told_more, SecondGoes, same_told, IsSecond, Answered, alone, live_of}, Sound.{IsGood, as_first, line_good, sound}, Alike.AreAlike}
use Rattle.script_model.specs.declared.script.Op.TheVariants as op
use Rattle.script_model.specs.declared.script.Reply.TheVariants as reply
use Rattle.iso_shared.specs.declared.entry.Cause.TheVariants as cause
use Rattle.iso_shared.specs.declared.entry.Entry.TheVariants as entry

module _ (S : SecondStore) (lawful : IsSecond S) (second : SecondGoes S) (g : Geometry) (valid : IsTrue (is_valid g)) (C : Array) (shape : HasShape g C) (t : Own) (told : Told S) (good : IsGood S g C t told) where
  -- after a line that was answered so the client has the transaction with these accesses, and what is told of it then is true
  pub record IsNext (x : Op) (r : Reply) (own' : Option Own) : Type 0 where
    pub accesses : List Access
    pub is : own' ≡ Some (record t { accesses = accesses })
    pub true_is : IsGood S g C (record t { accesses = accesses }) (told_more S g x r t.accesses accesses told (S.answered x r))

  abbrev pub Leaves : Op → Reply → Option Own → Type 0
  Leaves x r own' = (own' ≡ None) ⊎ IsNext x r own'

  -- a line that tells no call, and leaves the accesses
  idle_by : (x : Op) (r : Reply) (o : Option (Answered S.Call S.Answer)) → o ≡ None → IsGood S g C t (told_more S g x r t.accesses t.accesses told o)
  idle_by x r None none = record {
    accesses = good.accesses;
    count = good.count;
    made = λ kept.
        let both = and_parts (told.kept && list_all (spares_stores S g) (drop (length t.accesses) t.accesses)) (spares_calls x r told.over (length t.accesses)) kept in
        same_told S g C t.accesses t.mode told (good.made (and_parts told.kept (list_all (spares_stores S g) (drop (length t.accesses) t.accesses)) both.0).0)
        (told_more S g x r t.accesses t.accesses told None).kept;
  }
  idle_by x r (Some call) none = absurd (cc none)

  pub idle : (x : Op) (r : Reply) (own' : Option Own) → S.answered x r ≡ None → own' ≡ Some t → IsNext x r own'
  idle x r own' none is = record { accesses = t.accesses; is = is; true_is = idle_by x r (S.answered x r) none }

  pub by_rules : (B : Array) (x : Op) (r : Reply) (own' : Option Own) → IsOp x → AreAlike S lawful g B C t x (step (alone g B (Some t)) 1 x) (step (sound g C t) 1 x)
      → ◌≡◌ {A = Result Reply Stop} (Ok r) (Ok (answer g B (Some t) x)) → own' ≡ own_after g B (Some t) x → IsNext x r own'
  by_rules B x r own' isop alike said left =
      let q : Reply = (step (sound g C t) 1 x).0 in
      let r_is : r ≡ answer g B (Some t) x = cc said in
      let whole : step (sound g C t) 1 x ≡ (q, with_accesses (sound g C t) (live_of (as_first t)) alike.accesses) = λ i. (q, alike.is i) in
      let now = line_good S lawful second g C t told valid shape good x q alike.accesses isop whole in
      let same : told_more S g x r t.accesses alike.accesses told (S.answered x r) ≡ told_more S g x q t.accesses alike.accesses told (S.answered x q) =
      ap (λ v. told_more S g x v t.accesses alike.accesses told (S.answered x v)) r_is ∙ alike.tell told t.accesses alike.accesses in
      record {
        accesses = alike.accesses;
        is = left ∙ alike.own;
        true_is = subst (IsGood S g C (record t { accesses = alike.accesses })) (sym same) now;
      }

  abbrev pub Alike : Array → Op → Type 0
  Alike B x = AreAlike S lawful g B C t x (step (alone g B (Some t)) 1 x) (step (sound g C t) 1 x)

  pub says : (x : Op) (es : List Entry) (r : Reply) (own' : Option Own) → IsOp x → Alike [] x → Says g (Some t) x es (Ok r) own' → IsNext x r own'
  says x es r own' isop alike d = by_rules [] x r own' isop alike d.1 d.2

  pub fetched : (x : Op) (block : ℕ) (es : List Entry) (r : Reply) (own' : Option Own) → IsOp x → ((B : Array) → Alike B x) → ((q : Reply) → S.answered x q ≡ None) → Fetches g t x block es (Ok r) own' → IsNext x r own'
  fetched x block (entry.Fetch n b bytes ∷ []) r own' isop alike none d = by_rules (with_block block bytes) x r own' isop (alike (with_block block bytes)) d.2 d.3
  fetched x block (entry.Refused c why ∷ []) r own' isop alike none d = idle x r own' (none r) d.2
  fetched x block es r own' isop alike none d = absurd d

  reads_by : (q : Reply) (x : Op) (block : ℕ) (es : List Entry) (r : Reply) (own' : Option Own) → (Fetches g t x block es (Ok r) own' → IsNext x r own') → (Says g (Some t) x es (Ok r) own' → IsNext x r own')
      → WhereShown q (Fetches g t x block es (Ok r) own') (Says g (Some t) x es (Ok r) own') → IsNext x r own'
  reads_by (reply.Shown bytes) x block es r own' one two d = one d
  reads_by q x block es r own' one two d = two d

  pub reads : (x : Op) (block : ℕ) (es : List Entry) (r : Reply) (own' : Option Own) → IsOp x → ((B : Array) → Alike B x) → ((q : Reply) → S.answered x q ≡ None) → Reads g t x block es (Ok r) own' → IsNext x r own'
  reads x block es r own' isop alike none d =
      reads_by (answer g [] (Some t) x) x block es r own' (fetched x block es r own' isop alike none) (says x es r own' isop (alike [])) d

  ends_now : (es : List Entry) (r : Reply) (own' : Option Own) → EndsNow t es (Ok r) own' → Leaves op.End r own'
  ends_now (entry.End n accesses answered ∷ []) r own' d = inl d.3
  ends_now (entry.Refused c (cause.Disk before now) ∷ []) r own' d = inl d.2
  ends_now (entry.Refused c why ∷ []) r own' d = inr (idle op.End r own' (lawful.quiet op.End tt r) d.2)
  ends_now es r own' d = absurd d

  ends_then : (es : List Entry) (r : Reply) (own' : Option Own) → EndsThen t es (Ok r) own' → Leaves op.End r own'
  ends_then [] r own' d = absurd (cc d.0)
  ends_then es r own' d = ends_now es r own' d

  asks_and_ends : (es : List Entry) (r : Reply) (own' : Option Own) → AsksAndEnds t es (Ok r) own' → Leaves op.End r own'
  asks_and_ends (entry.Refused c why ∷ []) r own' d = inr (idle op.End r own' (lawful.quiet op.End tt r) d.2)
  asks_and_ends (entry.Recent n upto ∷ es) r own' d = ends_then es r own' d.1
  asks_and_ends es r own' d = absurd d

  pub ends : (es : List Entry) (r : Reply) (own' : Option Own) → Ends g t es (Ok r) own' → Leaves op.End r own'
  ends es r own' (inl d) = asks_and_ends es r own' d
  ends es r own' (inr d) = ends_now es r own' d.1

  pub posts : (label : List ℕ) (es : List Entry) (r : Reply) (own' : Option Own) → Posts t label es (Ok r) own' → Leaves (op.Release label) r own'
  posts label (entry.Post n l accesses ∷ []) r own' d = inl d.4
  posts label (entry.Refused c why ∷ []) r own' d = inr (idle (op.Release label) r own' (lawful.quiet (op.Release label) tt r) d.2)
  posts label es r own' d = absurd d

  pub trims : (es : List Entry) (r : Reply) (own' : Option Own) → Trims (Some t) es (Ok r) own' → IsNext op.Trim r own'
  trims (entry.Trim n ∷ []) r own' d = idle op.Trim r own' (lawful.quiet op.Trim tt r) d.1
  trims (entry.Refused c why ∷ []) r own' d = idle op.Trim r own' (lawful.quiet op.Trim tt r) d.2
  trims es r own' d = absurd d

  pub compacts : (es : List Entry) (r : Reply) (own' : Option Own) → Compacts (Some t) es (Ok r) own' → IsNext op.Compact r own'
  compacts (entry.Compact n ∷ []) r own' d = idle op.Compact r own' (lawful.quiet op.Compact tt r) d.1
  compacts (entry.Refused c why ∷ []) r own' d = idle op.Compact r own' (lawful.quiet op.Compact tt r) d.2
  compacts es r own' d = absurd d

  pub upgrades : (es : List Entry) (r : Reply) (own' : Option Own) → Upgrades (Some t) es (Ok r) own' → IsNext op.Upgrade r own'
  upgrades (entry.Upgrade n ∷ []) r own' d = idle op.Upgrade r own' (lawful.quiet op.Upgrade tt r) d.1
  upgrades (entry.Refused c why ∷ []) r own' d = idle op.Upgrade r own' (lawful.quiet op.Upgrade tt r) d.2
  upgrades es r own' d = absurd d

  pub stats : (es : List Entry) (r : Reply) (own' : Option Own) → Stats (Some t) es (Ok r) own' → IsNext op.Stat r own'
  stats (entry.Stat numbers ∷ []) r own' d = idle op.Stat r own' (lawful.quiet op.Stat tt r) d.1
  stats es r own' d = absurd d

  pub in_tx : (x : Op) (es : List Entry) (r : Reply) (own' : Option Own) → ((q : Reply) → S.answered x q ≡ None) → own_after g [] (Some t) x ≡ Some t → Says g (Some t) x es (Ok r) own' → IsNext x r own'
  in_tx x es r own' none same d = idle x r own' (none r) (d.2 ∙ same)
