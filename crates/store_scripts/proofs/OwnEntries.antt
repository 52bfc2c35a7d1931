-- Each entry of a line is of its client's own transaction, or of those that its looks found.
use Rattle.store_scripts.proofs.ThreadWords.{◌≡◌, ◌∙◌, inl, inr, sym, refl, ap, subst, ℕ, ◌-◌, Bool, true, false, List, [], ◌∷◌, ◌++◌, Option, Some, None, Result, Geometry, Mode, Op, Reply, Stop, Cause, Entry, Aborts, AsksAndEnds, Begins, CallsStore, Compacts, Did, Does, Ends, EndsNow, EndsThen, Fetched, Fetches, GroupEnds, GroupWants, Groups, Looks, LooksFor, Own, Posts, Says, Stats, Trims, Upgrades, Where, WhereShown, aborts_after, aborts_of, answer, fetches, found_ones, members_for, refused_fetch, IsOfOwn, found_in}
use Rattle.script_model.specs.declared.script.Op.TheVariants as op
use Rattle.script_model.specs.declared.script.Reply.TheVariants as reply
use Rattle.iso_shared.specs.declared.entry.Cause.TheVariants as cause
use Rattle.iso_shared.specs.declared.entry.Entry.TheVariants as entry

-- each of these entries, after those that were made before
abbrev pub AreOfOwn : Option Own → (made : List Entry) → List Entry → Type 0
AreOfOwn own made [] = Unit {0}
AreOfOwn own made (e ∷ es) = IsOfOwn own made e × AreOfOwn own (made ++ e ∷ []) es

aborted : (own : Option Own) (made : List Entry) (ones : List Own) → AreOfOwn own made (aborts_of ones)
aborted own made [] = tt
aborted own made (t ∷ ones) = (tt, aborted own (made ++ entry.Abort t.number ∷ []) ones)

aborted_after : (why : Cause) (own : Option Own) (made : List Entry) (ones : List Own) → AreOfOwn own made (aborts_after why ones)
aborted_after (cause.Disk before now) own made ones = tt
aborted_after why own made ones = aborted own made ones

-- what looks found, in order
pub found_append : (xs ys : List Entry) → found_in (xs ++ ys) ≡ found_in xs ++ found_in ys
found_append [] ys = refl
found_append (entry.Look label None ∷ xs) ys = found_append xs ys
found_append (entry.Look label (Some t) ∷ xs) ys = ap (λ l. t ∷ l) (found_append xs ys)
found_append (entry.Begin n at mode ∷ xs) ys = found_append xs ys
found_append (entry.Fetch n block bytes ∷ xs) ys = found_append xs ys
found_append (entry.End n accesses answer ∷ xs) ys = found_append xs ys
found_append (entry.EndGroup ends ∷ xs) ys = found_append xs ys
found_append (entry.Abort n ∷ xs) ys = found_append xs ys
found_append (entry.Trim n ∷ xs) ys = found_append xs ys
found_append (entry.Compact n ∷ xs) ys = found_append xs ys
found_append (entry.Upgrade n ∷ xs) ys = found_append xs ys
found_append (entry.Stat numbers ∷ xs) ys = found_append xs ys
found_append (entry.Post n label accesses ∷ xs) ys = found_append xs ys
found_append (entry.Sweep found ∷ xs) ys = found_append xs ys
found_append (entry.Recent n upto ∷ xs) ys = found_append xs ys
found_append (entry.Refused c why ∷ xs) ys = found_append xs ys

found_snoc : (made : List Entry) (label : List ℕ) (one : Option Own) (found : List (Option Own)) → found_in made ≡ found_ones found
    → found_in (made ++ entry.Look label one ∷ []) ≡ found_ones (found ++ one ∷ [])
found_snoc made label one found same = found_append made (entry.Look label one ∷ []) ∙ ap (λ l. l ++ found_in (entry.Look label one ∷ [])) same ∙ behind one ∙ sym (ones_append found (one ∷ []))
  where
    behind : (one : Option Own) → found_ones found ++ found_in (entry.Look label one ∷ []) ≡ found_ones found ++ found_ones (one ∷ [])
    behind None = refl
    behind (Some t) = refl

    ones_append : (xs ys : List (Option Own)) → found_ones (xs ++ ys) ≡ found_ones xs ++ found_ones ys
    ones_append [] ys = refl
    ones_append (None ∷ xs) ys = ones_append xs ys
    ones_append (Some t ∷ xs) ys = ap (λ l. t ∷ l) (ones_append xs ys)

fetched : (t : Own) (made : List Entry) (fs : Fetched) (rest : List Entry) → ((made : List Entry) → AreOfOwn (Some t) made rest) → AreOfOwn (Some t) made (fetches t.number fs ++ rest)
fetched t made [] rest of = of made
fetched t made (f ∷ fs) rest of = (refl, fetched t (made ++ entry.Fetch t.number f.0 f.1 ∷ []) fs rest of)

refused_of : (t : Own) (n : ℕ) (o : Option (ℕ × Cause)) (made : List Entry) → AreOfOwn (Some t) made (refused_fetch n o)
refused_of t n None made = tt
refused_of t n (Some f) made = (tt, tt)

module _ (g : Geometry) (tells : Bool) (r : Result Reply Stop) where
  none_of : (own : Option Own) (made es : List Entry) → es ≡ [] → AreOfOwn own made es
  none_of own made es none = subst (AreOfOwn own made) (sym none) tt

  begins : (named : Option Mode) (es : List Entry) (own' : Option Own) → Begins g named es r own' → AreOfOwn None [] es
  begins named (entry.Begin n at mode ∷ []) own' d = (tt, tt)
  begins named (entry.Refused c why ∷ []) own' d = (tt, tt)
  begins named es own' d = absurd d

  one_fetch : (t : Own) (x : Op) (block : ℕ) (es : List Entry) (own' : Option Own) → Fetches g t x block es r own' → AreOfOwn (Some t) [] es
  one_fetch t x block (entry.Fetch n b bytes ∷ []) own' d = (d.0, tt)
  one_fetch t x block (entry.Refused c why ∷ []) own' d = (tt, tt)
  one_fetch t x block es own' d = absurd d

  read_by : (q : Reply) (t : Own) (x : Op) (block : ℕ) (es : List Entry) (own' : Option Own) → WhereShown q (Fetches g t x block es r own') (Says g (Some t) x es r own') → AreOfOwn (Some t) [] es
  read_by (reply.Shown bytes) t x block es own' d = one_fetch t x block es own' d
  read_by q t x block es own' d = none_of (Some t) [] es d.0

  ends_now : (t : Own) (made es : List Entry) (own' : Option Own) → EndsNow t es r own' → AreOfOwn (Some t) made es
  ends_now t made (entry.End n accesses answered ∷ []) own' d = ((d.0, d.1), tt)
  ends_now t made (entry.Refused c why ∷ []) own' d = (tt, tt)
  ends_now t made es own' d = absurd d

  ends_then : (t : Own) (made es : List Entry) (own' : Option Own) → EndsThen t es r own' → AreOfOwn (Some t) made es
  ends_then t made [] own' d = tt
  ends_then t made es own' d = ends_now t made es own' d

  asks_and_ends : (t : Own) (es : List Entry) (own' : Option Own) → AsksAndEnds t es r own' → AreOfOwn (Some t) [] es
  asks_and_ends t (entry.Refused c why ∷ []) own' d = (tt, tt)
  asks_and_ends t (entry.Recent n upto ∷ es) own' d = (tt, ends_then t (entry.Recent n upto ∷ []) es own' d.1)
  asks_and_ends t es own' d = absurd d

  ends : (t : Own) (es : List Entry) (own' : Option Own) → Ends g t es r own' → AreOfOwn (Some t) [] es
  ends t es own' (inl d) = asks_and_ends t es own' d
  ends t es own' (inr d) = ends_now t [] es own' d.1

  aborts : (t : Own) (es : List Entry) (own' : Option Own) → Aborts t es r own' → AreOfOwn (Some t) [] es
  aborts t (entry.Abort n ∷ []) own' d = (tt, tt)
  aborts t es own' d = absurd d

  posts : (t : Own) (label : List ℕ) (es : List Entry) (own' : Option Own) → Posts t label es r own' → AreOfOwn (Some t) [] es
  posts t label (entry.Post n l accesses ∷ []) own' d = ((d.0, d.2), tt)
  posts t label (entry.Refused c why ∷ []) own' d = (tt, tt)
  posts t label es own' d = absurd d

  looks : (label : List ℕ) (es : List Entry) (own' : Option Own) → Looks label es r own' → AreOfOwn None [] es
  looks label (entry.Look l found ∷ []) own' d = (tt, tt)
  looks label es own' d = absurd d

  looks_for : (label : List ℕ) (most : ℕ) (made es : List Entry) (own' : Option Own) → LooksFor label most es r own' → AreOfOwn None made es
  looks_for label most made [] own' d = tt
  looks_for label most made (entry.Look l None ∷ es) own' d = (tt, looks_for label (most - 1) (made ++ entry.Look l None ∷ []) es own' d.2)
  looks_for label most made (entry.Look l (Some t) ∷ []) own' d = (tt, tt)
  looks_for label most made es own' d = absurd d

  group_ends : (own : Option Own) (found : List (Option Own)) (made es : List Entry) → found_in made ≡ found_ones found → GroupEnds found es r → AreOfOwn own made es
  group_ends own found made [] same d = tt
  group_ends own found made (entry.EndGroup members ∷ []) same d = (d.1 ∙ ap members_for (sym same), tt)
  group_ends own found made (entry.Refused c why ∷ es) same d =
      (tt, subst (AreOfOwn own (made ++ entry.Refused c why ∷ [])) (sym d.2) (aborted_after why own (made ++ entry.Refused c why ∷ []) (found_ones found)))
  group_ends own found made es same d = absurd d

  wants : (own : Option Own) (found : List (Option Own)) (made es : List Entry) → GroupWants found es r → AreOfOwn own made es
  wants own found made es d = subst (AreOfOwn own made) (sym d.0) (aborted own made (found_ones found))

  groups : (own : Option Own) (labels : List (List ℕ)) (found : List (Option Own)) (made es : List Entry) → found_in made ≡ found_ones found → Groups labels found es r → AreOfOwn own made es
  groups own [] found made es same (inl d) = group_ends own found made es same d
  groups own [] found made es same (inr d) = wants own found made es d
  groups own (label ∷ labels) found made (entry.Look l one ∷ es) same d =
      (tt, groups own labels (found ++ one ∷ []) (made ++ entry.Look l one ∷ []) es (found_snoc made l one found same) d.1)
  groups own (label ∷ labels) found made es same d = wants own found made es d

  trims : (own : Option Own) (es : List Entry) (own' : Option Own) → Trims own es r own' → AreOfOwn own [] es
  trims own (entry.Trim n ∷ []) own' d = (tt, tt)
  trims own (entry.Refused c why ∷ []) own' d = (tt, tt)
  trims own es own' d = absurd d

  compacts : (own : Option Own) (es : List Entry) (own' : Option Own) → Compacts own es r own' → AreOfOwn own [] es
  compacts own (entry.Compact n ∷ []) own' d = (tt, tt)
  compacts own (entry.Refused c why ∷ []) own' d = (tt, tt)
  compacts own es own' d = absurd d

  upgrades : (own : Option Own) (es : List Entry) (own' : Option Own) → Upgrades own es r own' → AreOfOwn own [] es
  upgrades own (entry.Upgrade n ∷ []) own' d = (tt, tt)
  upgrades own (entry.Refused c why ∷ []) own' d = (tt, tt)
  upgrades own es own' d = absurd d

  stats : (own : Option Own) (es : List Entry) (own' : Option Own) → Stats own es r own' → AreOfOwn own [] es
  stats own (entry.Stat numbers ∷ []) own' d = (tt, tt)
  stats own es own' d = absurd d

  calls : (t : Own) (x : Op) (es : List Entry) (own' : Option Own) → CallsStore g tells t x es r own' → AreOfOwn (Some t) [] es
  calls t x es own' d = subst (AreOfOwn (Some t) []) (sym d.are) (fetched t [] d.fetched (refused_fetch t.number d.refused) (refused_of t t.number d.refused))

  stored : (b : Bool) (t : Own) (x : Op) (es : List Entry) (own' : Option Own) → Where b (CallsStore g tells t x es r own') (Says g (Some t) x es r own') → AreOfOwn (Some t) [] es
  stored true t x es own' d = calls t x es own' d
  stored false t x es own' d = none_of (Some t) [] es d.0

  does : (own : Option Own) (x : Op) (es : List Entry) (own' : Option Own) → Does g tells own x es r own' → AreOfOwn own [] es
  does None (op.Begin named) es own' d = begins named es own' d
  does None (op.Takeover label) es own' d = looks label es own' d
  does None (op.Await label) es own' d = looks_for label _ [] es own' d
  does None (op.Group labels) es own' d = groups None labels [] [] es refl d.0
  does None op.Trim es own' d = trims None es own' d
  does None op.Stat es own' d = stats None es own' d
  does None op.Compact es own' d = compacts None es own' d
  does None op.Upgrade es own' d = upgrades None es own' d
  does (Some t) (op.Begin named) es own' d = none_of (Some t) [] es d.0
  does (Some t) (op.Takeover label) es own' d = none_of (Some t) [] es d.0
  does (Some t) (op.Await label) es own' d = none_of (Some t) [] es d.0
  does (Some t) (op.Put block off bytes) es own' d = none_of (Some t) [] es d.0
  does (Some t) (op.Write block bytes) es own' d = none_of (Some t) [] es d.0
  does (Some t) (op.Fill block bytes) es own' d = none_of (Some t) [] es d.0
  does (Some t) (op.Mark off len) es own' d = none_of (Some t) [] es d.0
  does (Some t) (op.Read block) es own' d = read_by (answer g [] (Some t) (op.Read block)) t (op.Read block) block es own' d
  does (Some t) (op.Get block off len) es own' d = read_by (answer g [] (Some t) (op.Get block off len)) t (op.Get block off len) block es own' d
  does (Some t) op.End es own' d = ends t es own' d
  does (Some t) op.Abort es own' d = aborts t es own' d
  does (Some t) (op.Release label) es own' d = posts t label es own' d
  does (Some t) (op.Group labels) es own' d = groups (Some t) labels [] [] es refl d.0
  does (Some t) op.Trim es own' d = trims (Some t) es own' d
  does (Some t) op.Stat es own' d = stats (Some t) es own' d
  does (Some t) op.Compact es own' d = compacts (Some t) es own' d
  does (Some t) op.Upgrade es own' d = upgrades (Some t) es own' d
  does (Some t) x es own' d = stored _ t x es own' d
  does None x es own' d = none_of None [] es d.0

  pub of_own : (own : Option Own) (x : Op) (es : List Entry) (own' : Option Own) → Did g tells own x es r own' → AreOfOwn own [] es
  of_own own x es own' (inl d) = does own x es own' d
  of_own own x es own' (inr wanted) = none_of own [] es wanted.0
