-- What is left to do of a group, one transaction after the other.
use Rattle.group_commit.proofs.Words.{◌≡◌, ◌⊎◌, false, true, is_some, spread, marks_of, inl, inr, CoreError, aborts_after, cause_of, refused_by, ℕ, ◌+◌, ◌<◌, ◌≤◌, List, [], ◌∷◌, ◌++◌, Option, Some, None, Ok, length, map, refl, sym, ap, ◌∙◌, subst, arith, AllByRecursion, GroupReply, IsLegal, MadeBoth, number_of, tx_view, Start, Entry, Shared, Tx, prefix_self, prefix_trans, hit, times, total, View, AreNext, Next, next_on, next_prefix, next_same, through_next, MovesThrough, SessionState, ArePaired, IsBack, MadeAll, answered, made_in, members_in, units_of, AreMembers, AreTxs, HasEnded, HasMade, KnowsAll, aborts_of, count_all, found_in, group_of, IsPrefix}
use Rattle.iso_model.specs.declared.core_error.CoreError.TheVariants as error
use Rattle.iso_shared.specs.declared.entry.Call.TheVariants as call
use Rattle.iso_shared.specs.declared.entry.Entry.TheVariants as entry

pub nothing_left : {X : Type 0} (xs : List X) → length xs ≡ 0 → xs ≡ []
nothing_left [] none = refl
nothing_left (x ∷ xs) none = absurd (omega arith)

module _ {D O : Type 0} (A : Start) where
  -- what the port v and these transactions make from here on is all that is made from u and those on
  abbrev pub GoesOn : (u : View Entry) (us : List (Tx D O)) (es : List Entry) (v : View Entry) (vs : List (Tx D O)) (ds : List Entry) → Type 0
  GoesOn u us es v vs ds = (new : List Entry) (after : ℕ → ℕ) → AreNext A v.seen (count_all v vs) ds new after → AreNext A u.seen (count_all u us) es new after

  abort_next : (v w : View Entry) (t : Tx D O) (rest : List (Tx D O)) → MadeBoth A v (tx_view t) (entry.Abort (number_of t)) w
      → Next A v.seen (count_all v (t ∷ rest)) (entry.Abort (number_of t)) w.seen (count_all w rest)
  abort_next v w t rest m = record {
    before = m.before;
    told = m.told;
    known = subst (λ l. IsPrefix (m.before ++ entry.Abort (number_of t) ∷ []) l) (sym m.seen) (prefix_self (m.before ++ entry.Abort (number_of t) ∷ []));
    legal = subst (IsLegal A) m.seen m.legal;
    places = λ p. (let a = m.mine p in omega arith);
  }

  -- one abort more
  pub goes_on : (u v w : View Entry) (us : List (Tx D O)) (t : Tx D O) (rest : List (Tx D O)) (es : List Entry) → MadeBoth A v (tx_view t) (entry.Abort (number_of t)) w
      → GoesOn u us es v (t ∷ rest) (aborts_of (t ∷ rest)) → GoesOn u us es w rest (aborts_of rest)
  goes_on u v w us t rest es m before new after next = before new after (w.seen, count_all w rest, abort_next v w t rest m, next)

  -- no transaction is left
  pub all_gone : (u v : View Entry) (us : List (Tx D O)) (es : List Entry) → GoesOn u us es v [] [] → AreNext A u.seen (count_all u us) es v.seen (λ p. times p v.mine)
  all_gone u v us es before = before v.seen (λ p. times p v.mine) (prefix_self v.seen, λ p. omega arith)

  pub knows_next : (v w : View Entry) (t : Tx D O) → MadeBoth A v (tx_view t) (entry.Abort (number_of t)) w → IsPrefix v.seen w.seen × IsPrefix (tx_view t).seen w.seen
  knows_next v w t m =
      let e : Entry = entry.Abort (number_of t) in
      let more : IsPrefix m.before w.seen = subst (λ l. IsPrefix m.before l) (sym m.seen) (e ∷ [], refl) in
      (prefix_trans v.seen m.before w.seen m.told more, prefix_trans (tx_view t).seen m.before w.seen m.begins more)

module _ {D O : Type 0} where
  -- once all that is left was told of, all was
  abbrev pub KnowsMore : (us : List (Tx D O)) (v : View Entry) (vs : List (Tx D O)) → Type 0
  KnowsMore us v vs = (new : List Entry) → IsPrefix v.seen new → KnowsAll vs new → KnowsAll us new

  pub knows_more : (A : Start) (us : List (Tx D O)) (v w : View Entry) (t : Tx D O) (rest : List (Tx D O)) → MadeBoth A v (tx_view t) (entry.Abort (number_of t)) w
      → KnowsMore us v (t ∷ rest) → KnowsMore us w rest
  knows_more A us v w t rest m before new more knows =
      let k = knows_next A v w t m in
      before new (prefix_trans v.seen w.seen new k.0 more) (prefix_trans (tx_view t).seen w.seen new k.1 more, knows)

  -- where as many replies are told as there are transactions, each of these has one
  pub told_places : (members : List (Option (Tx D O))) (replies : List GroupReply) → length replies ≡ length (found_in members) → map is_some (spread (marks_of members) replies) ≡ marks_of members
  told_places [] replies same = refl
  told_places (None ∷ members) replies same = ap (λ marks. false ∷ marks) (told_places members replies same)
  told_places (Some t ∷ members) [] same = absurd (omega (arith, same))
  told_places (Some t ∷ members) (first ∷ replies) same = ap (λ marks. true ∷ marks) (told_places members replies (omega (arith, same)))

  -- where nothing was found nothing is made
  pub none_ended : (A : Start) (v : View Entry) (members : List (Option (Tx D O))) → found_in members ≡ [] → HasEnded A v (found_in members) (Ok []) v
  none_ended A v members none = subst (λ (txs : List (Tx D O)). HasEnded A v txs (Ok []) v) (sym none) (refl, (prefix_self v.seen, λ p. omega arith))

  pub found_are : (shared : Shared D O) (A : Start) (members : List (Option (Tx D O))) → AreMembers shared A members → AreTxs shared A (found_in members)
  found_are shared A [] are = tt
  found_are shared A (None ∷ members) are = found_are shared A members are.1
  found_are shared A (Some t ∷ members) are = (are.0, found_are shared A members are.1)

  pub found_few : (members : List (Option (Tx D O))) → length (found_in members) ≤ length members
  found_few [] = omega arith
  found_few (None ∷ members) = let few = found_few members in omega arith
  found_few (Some t ∷ members) = let few = found_few members in omega arith

module _ {D O : Type 0} (A : Start) where
  total_views : (p : ℕ) (txs : List (Tx D O)) → total (λ (u : View Entry). times p u.mine) (map tx_view txs) ≡ made_in p txs
  total_views p [] = refl
  total_views p (t ∷ txs) = ap (λ (n : ℕ). times p (tx_view t).mine + n) (total_views p txs)

  -- the one entry of a group
  group_next : (v w : View Entry) (txs : List (Tx D O)) (e : Entry) → MadeAll A v (map tx_view txs) e w → HasMade A v txs (e ∷ []) w
  group_next v w txs e m = (
    w.seen,
    (λ p. times p w.mine),
    record {
      before = m.before;
      told = m.told;
      known = subst (λ l. IsPrefix (m.before ++ e ∷ []) l) (sym m.seen) (prefix_self (m.before ++ e ∷ []));
      legal = subst (IsLegal A) m.seen m.legal;
      places = λ p. m.mine p ∙ ap (λ (n : ℕ). times p v.mine + n + hit (length m.before) p) (total_views p txs);
    },
    (prefix_self w.seen, λ p. refl),
  )

  pub group_answered : (v w : View Entry) (txs : List (Tx D O)) (replies : List GroupReply) → 0 < length txs → MadeAll A v (map tx_view txs) (entry.EndGroup (answered (members_in txs) replies)) w
      → HasMade A v txs (group_of txs replies) w
  group_answered v w [] replies some m = absurd (omega (arith, some))
  group_answered v w (t ∷ txs) replies some m = group_next v w (t ∷ txs) (entry.EndGroup (answered (members_in (t ∷ txs)) replies)) m

  knows_views : (seen : List Entry) (txs : List (Tx D O)) → AllByRecursion (λ (u : View Entry). IsPrefix u.seen seen) (map tx_view txs) → KnowsAll txs seen
  knows_views seen [] all = tt
  knows_views seen (t ∷ txs) all = (all.0, knows_views seen txs all.1)

  knows_on : (seen more : List Entry) (txs : List (Tx D O)) → IsPrefix seen more → KnowsAll txs seen → KnowsAll txs more
  knows_on seen more [] pre all = tt
  knows_on seen more (t ∷ txs) pre all = (prefix_trans (tx_view t).seen seen more all.0 pre, knows_on seen more txs pre all.1)

  pub group_knows : (v w : View Entry) (txs : List (Tx D O)) (e : Entry) → MadeAll A v (map tx_view txs) e w → KnowsAll txs w.seen
  group_knows v w txs e m = knows_on m.before w.seen txs (subst (λ l. IsPrefix m.before l) (sym m.seen) (e ∷ [], refl)) (knows_views m.before txs m.begins)

  -- ---- members that were handed back

  module _ (shared : Shared D O) (seen : List Entry) where
    pub back_are : (txs back : List (Tx D O)) → ArePaired (IsBack shared A seen) txs back → AreTxs shared A back
    back_are [] [] are = tt
    back_are (t ∷ txs) (u ∷ back) are = (are.0.tx, back_are txs back are.1)
    back_are [] (u ∷ back) are = absurd are
    back_are (t ∷ txs) [] are = absurd are

    pub back_units : (txs back : List (Tx D O)) → ArePaired (IsBack shared A seen) txs back → units_of back ≡ length txs
    back_units [] [] are = refl
    back_units (t ∷ txs) (u ∷ back) are = let one : (tx_view u).units ≡ 1 = are.0.has.2 in let rest = back_units txs back are.1 in omega (arith, one, rest)
    back_units [] (u ∷ back) are = absurd are
    back_units (t ∷ txs) [] are = absurd are

    back_made : (p : ℕ) (txs back : List (Tx D O)) → ArePaired (IsBack shared A seen) txs back → made_in p back ≡ 0
    back_made p [] [] are = refl
    back_made p (t ∷ txs) (u ∷ back) are = let none : times p (tx_view u).mine ≡ 0 = ap (times p) are.0.has.0 in let rest = back_made p txs back are.1 in omega (arith, none, rest)
    back_made p [] (u ∷ back) are = absurd are
    back_made p (t ∷ txs) [] are = absurd are

    back_aborts : (txs back : List (Tx D O)) → ArePaired (IsBack shared A seen) txs back → aborts_of back ≡ aborts_of txs
    back_aborts [] [] are = refl
    back_aborts (t ∷ txs) (u ∷ back) are = λ i. entry.Abort (are.0.same.number i) ∷ back_aborts txs back are.1 i
    back_aborts [] (u ∷ back) are = absurd are
    back_aborts (t ∷ txs) [] are = absurd are

    -- the refusal, and then an abort of each
    group_aborted : (v u w : View Entry) (txs back : List (Tx D O)) (e : Entry) → ArePaired (IsBack shared A seen) txs back → MadeAll A v (map tx_view txs) e u
        → HasMade A u back (aborts_of back) w → HasMade A v txs (e ∷ aborts_of txs) w
    group_aborted v u w txs back e are m made =
        next_on A v.seen u.seen w.seen (count_all v txs) (λ p. times p u.mine) (λ p. times p w.mine) (e ∷ []) (aborts_of txs) (group_next v u txs e m)
        (subst (λ es. AreNext A u.seen (λ p. times p u.mine) es w.seen (λ p. times p w.mine)) (back_aborts txs back are)
        (next_same A u.seen w.seen (count_all u back) (λ p. times p u.mine) (λ p. times p w.mine) (aborts_of back) (λ p. let none = back_made p txs back are in omega (arith, none)) made))

  pub aborted_knows : (v u w : View Entry) (txs back : List (Tx D O)) (e : Entry) → MadeAll A v (map tx_view txs) e u → HasMade A u back (aborts_of back) w → KnowsAll txs w.seen
  aborted_knows v u w txs back e m made =
      knows_on u.seen w.seen txs (next_prefix A u.seen w.seen (count_all u back) (λ p. times p w.mine) (aborts_of back) made) (group_knows v u txs e m)

  -- which aborts follow a refusal
  after_gone : (e : CoreError) (txs : List (Tx D O)) → e ≡ error.Disk → aborts_after e txs ≡ []
  after_gone e txs is = ap (λ (x : CoreError). aborts_after x txs) is

  after_kept : (e : CoreError) (txs : List (Tx D O)) → (e ≡ error.Down) ⊎ (e ≡ error.Memory) → aborts_after e txs ≡ aborts_of txs
  after_kept e txs (inl is) = ap (λ (x : CoreError). aborts_after x txs) is
  after_kept e txs (inr is) = ap (λ (x : CoreError). aborts_after x txs) is

  -- the refusal of a group
  abbrev pub refusal : List (Tx D O) → (before now : ℕ) → CoreError → Entry
  refusal txs before now e = entry.Refused (call.EndGroup (members_in txs)) (cause_of before now e)

  pub refused_gone : (v w : View Entry) (txs : List (Tx D O)) (before now : ℕ) (e : CoreError) → e ≡ error.Disk → MadeAll A v (map tx_view txs) (refusal txs before now e) w
      → HasMade A v txs (refused_by txs before now e) w
  refused_gone v w txs before now e is m =
      subst (λ (es : List Entry). HasMade A v txs (refusal txs before now e ∷ es) w) (sym (after_gone e txs is)) (group_next v w txs (refusal txs before now e) m)

  pub refused_kept : (shared : Shared D O) (v u w : View Entry) (txs back : List (Tx D O)) (before now : ℕ) (e : CoreError) → (e ≡ error.Down) ⊎ (e ≡ error.Memory) → ArePaired (IsBack shared A u.seen) txs back
      → MadeAll A v (map tx_view txs) (refusal txs before now e) u → HasMade A u back (aborts_of back) w → HasMade A v txs (refused_by txs before now e) w
  refused_kept shared v u w txs back before now e is are m made =
      subst (λ (es : List Entry). HasMade A v txs (refusal txs before now e ∷ es) w) (sym (after_kept e txs is)) (group_aborted shared u.seen v u w txs back (refusal txs before now e) are m made)

-- ---- the log of a session and of the port that was split off it

module _ {D O : Type 0} where
  -- transactions that were looked up have no places
  pub unmade : (p : ℕ) (txs : List (Tx D O)) → AllByRecursion (λ t. (tx_view t).mine ≡ []) txs → made_in p txs ≡ 0
  unmade p [] all = refl
  unmade p (t ∷ txs) all = let none : times p (tx_view t).mine ≡ 0 = ap (times p) all.0 in let rest = unmade p txs all.1 in omega (arith, none, rest)

  pub through_group : (A : Start) (s : SessionState) (v w : View Entry) (txs : List (Tx D O)) (es : List Entry) → AllByRecursion (λ t. (tx_view t).mine ≡ []) txs → HasMade A v txs es w → MovesThrough s v w es
  through_group A s v w txs es all made =
      through_next A s v w es
      (next_same A v.seen w.seen (count_all v txs) (λ p. times p v.mine) (λ p. times p w.mine) es (λ p. let none = unmade p txs all in omega (arith, none)) made)
