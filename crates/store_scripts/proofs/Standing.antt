-- What is known of the transactions of clients, of those under labels and of those that a line's looks found, at a place of the list.
use Rattle.store_scripts.proofs.{ThreadWords.{known_on, ◌≡◌, ◌∙◌, sym, refl, ap, subst, ℕ, ◌<◌, ◌≤◌, Bool, true, false, cond, List, [], ◌∷◌, ◌++◌, bytes_eq, Option, Some, None, arith, AllByRecursion, lookup, remove_entry, Access, Geometry, Array, History, array_at, last, block_at, Extends, Call, Cause, Entry, Posting, State, after_refusal, is_live, is_loose, posting_of, Follows, last_longer, fault_keeps, IsPosting, loose_is, Own, SecondStore, Told, array_extends, if_some, OfOwn}, Sound.IsGood}
use Rattle.iso_shared.specs.declared.entry.Cause.TheVariants as cause
use Rattle.iso_shared.specs.declared.entry.Entry.TheVariants as entry
use Rattle.iso_shared.specs.States.{live_of}

-- an entry that is no post, look or sweep leaves the labels
pub refusal_keeps : (U : State) (c : Call) (why : Cause) → (after_refusal U c why).rack ≡ U.rack
refusal_keeps U c (cause.Disk before now) = fault_keeps U c now
refusal_keeps U c why = refl

module _ (S : SecondStore) (g : Geometry) (H : History) where
  -- a transaction of which this is told, at a place of the list that leads to the history H
  pub record IsHeld (U : State) (t : Own) (told : Told S) : Type 0 where
    pub posting : IsPosting U t
    pub within : t.begin ≤ last U.world.history
    pub good : IsGood S g (array_at H t.begin) t told

  abbrev pub OptionHeld : State → Option Own → Told S → Type 0
  OptionHeld U None told = Unit {0}
  OptionHeld U (Some t) told = IsHeld U t told

  abbrev pub AllHeld : State → List Own → List (Told S) → Type 0
  AllHeld U [] [] = Unit {0}
  AllHeld U [] (m ∷ told) = ⊥
  AllHeld U (t ∷ ts) [] = ⊥
  AllHeld U (t ∷ ts) (m ∷ told) = IsHeld U t m × AllHeld U ts told

  -- those under labels, with what is told of each
  abbrev pub AreRacked : State → List (List ℕ × Posting) → List (List ℕ × Told S) → Type 0
  AreRacked U [] [] = Unit {0}
  AreRacked U [] (m ∷ told) = ⊥
  AreRacked U (e ∷ rack) [] = ⊥
  AreRacked U (e ∷ rack) (m ∷ told) = (e.0 ≡ m.0) × IsHeld U e.1 m.1 × AreRacked U rack told

  -- what a begin and a fetch of a line tell
  abbrev pub Tells : State → Option Own → Entry → Type 0
  Tells U own (entry.Begin n at mode) = IsPosting U (record { number = n; begin = at; mode = mode; accesses = [] }) × (at ≤ last U.world.history)
  Tells U own (entry.Fetch n block bytes) = OfOwn own (λ t. bytes ≡ block_at (array_at H t.begin) block)
  Tells U own e = Unit {0}

  -- AT A LATER PLACE
  module _ (U V : State) (f : Follows U V) (some : 0 < U.world.history.first) where
    longer : last U.world.history ≤ last V.world.history
    longer = last_longer U.world.history V.world.history some f.history

    pub held_on : (t : Own) (told : Told S) → IsHeld U t told → IsHeld V t told
    held_on t told is = record { posting = known_on U V t f is.posting; within = (let below = is.within in omega (arith, below, longer)); good = is.good }

    pub option_on : (own : Option Own) (told : Told S) → OptionHeld U own told → OptionHeld V own told
    option_on None told is = tt
    option_on (Some t) told is = held_on t told is

    pub all_on : (ts : List Own) (told : List (Told S)) → AllHeld U ts told → AllHeld V ts told
    all_on [] [] is = tt
    all_on [] (m ∷ told) is = is
    all_on (t ∷ ts) [] is = is
    all_on (t ∷ ts) (m ∷ told) is = (held_on t m is.0, all_on ts told is.1)

    pub racked_on : (rack : List (List ℕ × Posting)) (told : List (List ℕ × Told S)) → AreRacked U rack told → AreRacked V rack told
    racked_on [] [] is = tt
    racked_on [] (m ∷ told) is = is
    racked_on (e ∷ rack) [] is = is
    racked_on (e ∷ rack) (m ∷ told) is = (is.0, held_on e.1 m.1 is.1, racked_on rack told is.2)

    pub tells_on : (own : Option Own) (e : Entry) → Tells U own e → Tells V own e
    tells_on own (entry.Begin n at mode) is =
        (known_on U V (record { number = n; begin = at; mode = mode; accesses = [] }) f is.0, (let below = is.1 in omega (arith, below, longer)))
    tells_on own (entry.Fetch n block bytes) is = is
    tells_on own e is = tt

    pub all_tell_on : (own : Option Own) (es : List Entry) → AllByRecursion (Tells U own) es → AllByRecursion (Tells V own) es
    all_tell_on own [] all = tt
    all_tell_on own (e ∷ es) all = (tells_on own e all.0, all_tell_on own es all.1)

  -- UNDER LABELS
  pub racked_more : (U : State) (rack : List (List ℕ × Posting)) (told : List (List ℕ × Told S)) (label : List ℕ) (t : Own) (m : Told S) → AreRacked U rack told → IsHeld U t m
      → AreRacked U (rack ++ (label, t) ∷ []) (told ++ (label, m) ∷ [])
  racked_more U [] [] label t m all one = (refl, one, tt)
  racked_more U [] (n ∷ told) label t m all one = absurd all
  racked_more U (e ∷ rack) [] label t m all one = absurd all
  racked_more U (e ∷ rack) (n ∷ told) label t m all one = (all.0, all.1, racked_more U rack told label t m all.2 one)

  removed_by : (U : State) (label : List ℕ) (b d : Bool) (e : List ℕ × Posting) (m : List ℕ × Told S) (rack : List (List ℕ × Posting)) (told : List (List ℕ × Told S)) → b ≡ d → e.0 ≡ m.0 → IsHeld U e.1 m.1 → AreRacked U rack told
      → AreRacked U (remove_entry (bytes_eq label) rack) (remove_entry (bytes_eq label) told)
      → AreRacked U (cond b rack (e ∷ remove_entry (bytes_eq label) rack)) (cond d told (m ∷ remove_entry (bytes_eq label) told))
  removed_by U label true true e m rack told same names one all rest = all
  removed_by U label true false e m rack told same names one all rest = absurd (cc same)
  removed_by U label false true e m rack told same names one all rest = absurd (cc same)
  removed_by U label false false e m rack told same names one all rest = (names, one, rest)

  pub racked_less : (U : State) (label : List ℕ) (rack : List (List ℕ × Posting)) (told : List (List ℕ × Told S)) → AreRacked U rack told → AreRacked U (remove_entry (bytes_eq label) rack) (remove_entry (bytes_eq label) told)
  racked_less U label [] [] all = tt
  racked_less U label [] (m ∷ told) all = absurd all
  racked_less U label (e ∷ rack) [] all = absurd all
  racked_less U label (e ∷ rack) (m ∷ told) all =
      removed_by U label (bytes_eq label e.0) (bytes_eq label m.0) e m rack told (ap (bytes_eq label) all.0) all.0 all.1 all.2 (racked_less U label rack told all.2)

  looked_by : (U : State) (label : List ℕ) (b d : Bool) (e : List ℕ × Posting) (m : List ℕ × Told S) (o : Option Posting) (p : Option (Told S)) → b ≡ d → IsHeld U e.1 m.1 → AllHeld U (if_some o) (if_some p)
      → AllHeld U (if_some (cond b (Some e.1) o)) (if_some (cond d (Some m.1) p))
  looked_by U label true true e m o p same one rest = (one, tt)
  looked_by U label true false e m o p same one rest = absurd (cc same)
  looked_by U label false true e m o p same one rest = absurd (cc same)
  looked_by U label false false e m o p same one rest = rest

  pub racked_found : (U : State) (label : List ℕ) (rack : List (List ℕ × Posting)) (told : List (List ℕ × Told S)) → AreRacked U rack told
      → AllHeld U (if_some (lookup (bytes_eq label) rack)) (if_some (lookup (bytes_eq label) told))
  racked_found U label [] [] all = tt
  racked_found U label [] (m ∷ told) all = absurd all
  racked_found U label (e ∷ rack) [] all = absurd all
  racked_found U label (e ∷ rack) (m ∷ told) all =
      looked_by U label (bytes_eq label e.0) (bytes_eq label m.0) e m (lookup (bytes_eq label) rack) (lookup (bytes_eq label) told) (ap (bytes_eq label) all.0) all.1 (racked_found U label rack told all.2)

  pub held_append : (U : State) (ts us : List Own) (told more : List (Told S)) → AllHeld U ts told → AllHeld U us more → AllHeld U (ts ++ us) (told ++ more)
  held_append U [] us [] more one two = two
  held_append U [] us (m ∷ told) more one two = absurd one
  held_append U (t ∷ ts) us [] more one two = absurd one
  held_append U (t ∷ ts) us (m ∷ told) more one two = (one.0, held_append U ts us told more one.1 two)

  -- what a post puts under its label is the transaction itself
  pub posting_is : (U : State) (n : ℕ) (t : Own) (accesses : List Access) → IsPosting U t → n ≡ t.number → accesses ≡ t.accesses → is_loose n U ≡ true → posting_of U.world n accesses ≡ t
  posting_is U n t accesses is number same loose =
      let live : is_live t.number U.world.live ≡ true = subst (λ k. is_live k U.world.live ≡ true) number (loose_is n U loose).0 in
      let begin : (live_of n U.world.live).begin ≡ t.begin = ap (λ k. (live_of k U.world.live).begin) number ∙ is.begin live in
      let mode : (live_of n U.world.live).mode ≡ t.mode = ap (λ k. (live_of k U.world.live).mode) number ∙ is.mode live in
      λ i. record { number = number i; begin = begin i; mode = mode i; accesses = same i }

  -- what a fetch shows is the array at the begin
  pub fetch_is : (U : State) (n block : ℕ) (bytes : List ℕ) (t : Own) → IsPosting U t → t.begin ≤ last U.world.history → 0 < U.world.history.first → Extends U.world.history H → n ≡ t.number → is_loose n U ≡ true
      → bytes ≡ block_at (array_at U.world.history (live_of n U.world.live).begin) block → bytes ≡ block_at (array_at H t.begin) block
  fetch_is U n block bytes t is within some more number loose shown =
      let live : is_live t.number U.world.live ≡ true = subst (λ k. is_live k U.world.live ≡ true) number (loose_is n U loose).0 in
      let begin : (live_of n U.world.live).begin ≡ t.begin = ap (λ k. (live_of k U.world.live).begin) number ∙ is.begin live in
      shown ∙ ap (λ k. block_at (array_at U.world.history k) block) begin ∙ sym (ap (λ (B : Array). block_at B block) (array_extends U.world.history H t.begin some more within))
