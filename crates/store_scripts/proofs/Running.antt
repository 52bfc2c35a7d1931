-- What is known of clients stays true along a trace.
use Rattle.store_scripts.{proofs.ThreadWords.{◌≡◌, ◌∙◌, ◌⊎◌, inl, inr, sym, refl, ap, subst, ℕ, ◌<◌, ◌==◌, Bool, true, false, cond, IsTrue, List, [], ◌∷◌, ◌++◌, append-nil, bytes_eq, Option, Some, None, Ok, arith, eq-eqb, eqb-true, AllByRecursion, lookup, remove_entry, Access, Geometry, is_valid, History, array_at, last, HasShape, Live, unattached, Extends, IsOp, Call, Cause, Entry, Posting, Fits, State, after, after_fault, after_refusal, is_live, posting_of, began_last, follows_next, IsSound, sound_next, Did, Own, SecondStore, Told, nothing_told, told_more, SecondGoes, begins_told, IsSecond, own_accesses, after_entry, after_line, first_or_nothing, if_some, put_at, Event, IsOfOwn, Made, OfOwn, Runs, Step, events_of, found_in}, specs.Notes.{Notes, told_by}, specs.Trace.Done, proofs.Events.swapped, proofs.Leaving.{HasBegun, Starts, with_tx, without_tx}, proofs.ThreadLines.IsNext, proofs.OwnEntries.found_append, proofs.Sound.IsGood, proofs.Standing.{AllHeld, AreRacked, IsHeld, OptionHeld, Tells, all_on, all_tell_on, fetch_is, held_append, option_on, posting_is, racked_found, racked_less, racked_more, racked_on, refusal_keeps}, proofs.StoreLines.IsOfArray}
use Rattle.iso_shared.specs.declared.entry.Call.TheVariants as call
use Rattle.iso_shared.specs.declared.entry.Cause.TheVariants as cause
use Rattle.iso_shared.specs.declared.entry.Entry.TheVariants as entry
use Rattle.iso_shared.specs.States.{live_of}

-- a new transaction is the last of those that are live
of_new : (n : ℕ) (live : List Live) (t : Live) → t.number ≡ n → (is_live n live ≡ true → ⊥) → live_of n (live ++ t ∷ []) ≡ t
of_new n [] t is none = ap (λ b. cond b t (live_of n [])) (eq-eqb t.number n is)
of_new n (u ∷ live) t is none = by (u.number == n) none (of_new n live t is)
  where
    by : (b : Bool) → (cond b true (is_live n live) ≡ true → ⊥) → ((is_live n live ≡ true → ⊥) → live_of n (live ++ t ∷ []) ≡ t) → cond b u (live_of n (live ++ t ∷ [])) ≡ t
    by true none rest = absurd (none refl)
    by false none rest = rest none

-- whether the device tells its bytes stays
tells_fault : (U : State) (c : Call) (k : ℕ) → (after_fault U c k).tells ≡ U.tells
tells_fault U (call.Begin named) k = refl
tells_fault U x k = refl

tells_refused : (U : State) (c : Call) (why : Cause) → (after_refusal U c why).tells ≡ U.tells
tells_refused U c (cause.Disk before now) = tells_fault U c now
tells_refused U c why = refl

pub tells_after : (U : State) (e : Entry) → (after U e).tells ≡ U.tells
tells_after U (entry.Sweep (Some n)) = refl
tells_after U (entry.Refused x why) = tells_refused U x why
tells_after U e = refl

-- what an entry tells of the transactions that its look found
abbrev new_found : (S : SecondStore) → Entry → Notes S → List (Told S)
new_found S (entry.Look label found) N = if_some (lookup (bytes_eq label) N.posted)
new_found S e N = []

of_same : (S : SecondStore) (c d : ℕ) (e : Entry) (N : Notes S) → (after_entry S c e N).of d ≡ N.of d
of_same S c d (entry.Begin n at mode) N = refl
of_same S c d e N = refl

put_here : {X : Type 0} (c d : ℕ) (x : X) (f : ℕ → X) → (c == d) ≡ true → put_at c x f d ≡ x
put_here c d x f same = ap (λ b. cond b x (f d)) (eq-eqb d c (sym (eqb-true c d same)))

put_there : {X : Type 0} (c d : ℕ) (x : X) (f : ℕ → X) → (c == d) ≡ false → put_at c x f d ≡ f d
put_there c d x f differ = ap (λ b. cond b x (f d)) (swapped c d differ)

found_here : (S : SecondStore) (c d : ℕ) (e : Entry) (N : Notes S) → (c == d) ≡ true → (after_entry S c e N).found d ≡ N.found d ++ new_found S e N
found_here S c d (entry.Look label found) N same = put_here c d (N.found c ++ if_some (lookup (bytes_eq label) N.posted)) N.found same ∙ ap (λ k. N.found k ++ if_some (lookup (bytes_eq label) N.posted)) (eqb-true c d same)
found_here S c d (entry.Sweep found) N same = sym (append-nil (N.found d))
found_here S c d e N same = sym (append-nil (N.found d))

found_there : (S : SecondStore) (c d : ℕ) (e : Entry) (N : Notes S) → (c == d) ≡ false → (after_entry S c e N).found d ≡ N.found d
found_there S c d (entry.Look label found) N differ = put_there c d (N.found c ++ if_some (lookup (bytes_eq label) N.posted)) N.found differ
found_there S c d e N differ = refl

module _ (S : SecondStore) (lawful : IsSecond S) (second : SecondGoes S) (g : Geometry) (valid : IsTrue (is_valid g)) (H : History) (shapes : (n : ℕ) → HasShape g (array_at H n)) (tells : Bool) (all : tells ≡ true) where
  -- a client at a place of the trace: its transaction, the entries that its line has made, and what is told of these
  pub record IsClientAt (U : State) (told : Told S) (found : List (Told S)) (events : List Event) : Type 0 where
    pub own : Option Own
    pub made : List Entry
    pub held : OptionHeld S g H U own told
    pub looked : AllHeld S g H U (found_in made) found
    pub tell : AllByRecursion (Tells S g H U own) made
    pub runs : Runs g tells own made events

  -- all clients, and those under labels
  pub record IsAt (U : State) (N : Notes S) (events : List Event) : Type 0 where
    pub sound : IsSound U
    pub first : 0 < U.world.history.first
    pub told : U.tells ≡ true
    pub racked : AreRacked S g H U U.rack N.posted
    pub each : (c : ℕ) → IsClientAt U (N.of c) (N.found c) (events_of c events)

  -- what the entry itself tells
  entry_tells : (U : State) (told : Told S) (e : Entry) (own : Option Own) (made : List Entry) → IsSound U → 0 < U.world.history.first → U.tells ≡ true → Extends U.world.history H → OptionHeld S g H U own told → IsOfOwn own made e → Fits U e
      → Tells S g H (after U e) own e
  entry_tells U told (entry.Begin n at mode) own made sound some tell more held of fits =
      let next : n ≡ U.world.next = fits.answers.1 in
      let never : is_live n U.world.live ≡ true → ⊥ = λ live. (let lt = sound.below n live in absurd (omega (arith, next, lt))) in
      let t : Live = record { number = U.world.next; begin = last U.world.history; mode = mode; accesses = []; place = unattached } in
      let new : live_of n (U.world.live ++ t ∷ []) ≡ t = of_new n U.world.live t (sym next) never in
      let at_last : at ≡ last U.world.history = began_last U.world mode at fits.answers.2 in (
        record {
          number = omega (arith, next);
          begin = λ live. ap (λ (v : Live). v.begin) new ∙ sym at_last;
          mode = λ live. ap (λ (v : Live). v.mode) new;
        },
        omega (arith, at_last),
      )
  entry_tells U told (entry.Fetch n block bytes) (Some t) made sound some tell more held of fits =
      fetch_is S g H U n block bytes t held.posting held.within some more of fits.needs.0 (fits.answers.2 tell)
  entry_tells U told (entry.Fetch n block bytes) None made sound some tell more held of fits = absurd of
  entry_tells U told (entry.End n accesses answered) own made sound some tell more held of fits = tt
  entry_tells U told (entry.EndGroup ends) own made sound some tell more held of fits = tt
  entry_tells U told (entry.Abort n) own made sound some tell more held of fits = tt
  entry_tells U told (entry.Trim n) own made sound some tell more held of fits = tt
  entry_tells U told (entry.Compact n) own made sound some tell more held of fits = tt
  entry_tells U told (entry.Upgrade n) own made sound some tell more held of fits = tt
  entry_tells U told (entry.Stat numbers) own made sound some tell more held of fits = tt
  entry_tells U told (entry.Post n label accesses) own made sound some tell more held of fits = tt
  entry_tells U told (entry.Look label found) own made sound some tell more held of fits = tt
  entry_tells U told (entry.Sweep found) own made sound some tell more held of fits = tt
  entry_tells U told (entry.Recent n upto) own made sound some tell more held of fits = tt
  entry_tells U told (entry.Refused x why) own made sound some tell more held of fits = tt

  -- what a look found is what is told under its label
  look_tells : (U : State) (N : Notes S) (e : Entry) → AreRacked S g H U U.rack N.posted → Fits U e → AllHeld S g H U (found_in (e ∷ [])) (new_found S e N)
  look_tells U N (entry.Begin n at mode) racked fits = tt
  look_tells U N (entry.Fetch n block bytes) racked fits = tt
  look_tells U N (entry.End n accesses answered) racked fits = tt
  look_tells U N (entry.EndGroup ends) racked fits = tt
  look_tells U N (entry.Abort n) racked fits = tt
  look_tells U N (entry.Trim n) racked fits = tt
  look_tells U N (entry.Compact n) racked fits = tt
  look_tells U N (entry.Upgrade n) racked fits = tt
  look_tells U N (entry.Stat numbers) racked fits = tt
  look_tells U N (entry.Post n label accesses) racked fits = tt
  look_tells U N (entry.Look label found) racked fits = by found fits.answers
    where
      listed : (o : Option Posting) → found_in (entry.Look label o ∷ []) ≡ if_some o
      listed None = refl
      listed (Some t) = refl

      by : (o : Option Posting) → o ≡ lookup (bytes_eq label) U.rack → AllHeld S g H U (found_in (entry.Look label o ∷ [])) (if_some (lookup (bytes_eq label) N.posted))
      by o is =
          subst (λ ts. AllHeld S g H U ts (if_some (lookup (bytes_eq label) N.posted))) (sym (listed o ∙ ap if_some is)) (racked_found S g H U label U.rack N.posted racked)
  look_tells U N (entry.Sweep found) racked fits = tt
  look_tells U N (entry.Recent n upto) racked fits = tt
  look_tells U N (entry.Refused x why) racked fits = tt

  own_of : (U : State) (own : Option Own) (told : Told S) (P : Own → Type 0) → OptionHeld S g H U own told → OfOwn own P → (t : Own) × IsHeld S g H U t told × P t × (own ≡ Some t)
  own_of U None told P held of = absurd of
  own_of U (Some t) told P held of = (t, held, of, refl)

  kept_rack : (U : State) (e : Entry) (posted : List (List ℕ × Told S)) → 0 < U.world.history.first → (after U e).rack ≡ U.rack → AreRacked S g H U U.rack posted → AreRacked S g H (after U e) (after U e).rack posted
  kept_rack U e posted some same racked =
      subst (λ rack. AreRacked S g H (after U e) rack posted) (sym same) (racked_on S g H U (after U e) (follows_next U e) some U.rack posted racked)

  -- those under labels after an entry of a client
  rack_next : (U : State) (N : Notes S) (c : ℕ) (e : Entry) (own : Option Own) (made : List Entry) → 0 < U.world.history.first → OptionHeld S g H U own (N.of c) → IsOfOwn own made e → Fits U e → AreRacked S g H U U.rack N.posted
      → AreRacked S g H (after U e) (after U e).rack (after_entry S c e N).posted
  rack_next U N c (entry.Begin n at mode) own made some held of fits racked = kept_rack U (entry.Begin n at mode) N.posted some refl racked
  rack_next U N c (entry.Fetch n block bytes) own made some held of fits racked = kept_rack U (entry.Fetch n block bytes) N.posted some refl racked
  rack_next U N c (entry.End n accesses answered) own made some held of fits racked = kept_rack U (entry.End n accesses answered) N.posted some refl racked
  rack_next U N c (entry.EndGroup ends) own made some held of fits racked = kept_rack U (entry.EndGroup ends) N.posted some refl racked
  rack_next U N c (entry.Abort n) own made some held of fits racked = kept_rack U (entry.Abort n) N.posted some refl racked
  rack_next U N c (entry.Trim n) own made some held of fits racked = kept_rack U (entry.Trim n) N.posted some refl racked
  rack_next U N c (entry.Compact n) own made some held of fits racked = kept_rack U (entry.Compact n) N.posted some refl racked
  rack_next U N c (entry.Upgrade n) own made some held of fits racked = kept_rack U (entry.Upgrade n) N.posted some refl racked
  rack_next U N c (entry.Stat numbers) own made some held of fits racked = kept_rack U (entry.Stat numbers) N.posted some refl racked
  rack_next U N c (entry.Post n label accesses) own made some held of fits racked =
      let e = entry.Post n label accesses in
      let mine = own_of U own (N.of c) (λ t. (n ≡ t.number) × (accesses ≡ t.accesses)) held of in
      let t : Own = mine.0 in
      let same : posting_of U.world n accesses ≡ t = posting_is S g H U n t accesses mine.1.posting mine.2.0 mine.2.1 fits.takes.0 in
      subst (λ p. AreRacked S g H (after U e) (U.rack ++ (label, p) ∷ []) (N.posted ++ (label, N.of c) ∷ [])) (sym same)
      (racked_on S g H U (after U e) (follows_next U e) some (U.rack ++ (label, t) ∷ []) (N.posted ++ (label, N.of c) ∷ []) (racked_more S g H U U.rack N.posted label t (N.of c) racked mine.1))
  rack_next U N c (entry.Look label found) own made some held of fits racked =
      let e = entry.Look label found in
      racked_on S g H U (after U e) (follows_next U e) some (remove_entry (bytes_eq label) U.rack) (remove_entry (bytes_eq label) N.posted) (racked_less S g H U label U.rack N.posted racked)
  rack_next U N c (entry.Sweep found) own made some held of fits racked = absurd of
  rack_next U N c (entry.Recent n upto) own made some held of fits racked = kept_rack U (entry.Recent n upto) N.posted some refl racked
  rack_next U N c (entry.Refused x why) own made some held of fits racked = kept_rack U (entry.Refused x why) N.posted some (refusal_keeps U x why) racked

  all_snoc : (P : Entry → Type 0) (es : List Entry) (e : Entry) → AllByRecursion P es → P e → AllByRecursion P (es ++ e ∷ [])
  all_snoc P [] e all one = (one, tt)
  all_snoc P (x ∷ es) e all one = (all.0, all_snoc P es e all.1 one)

  -- AN ENTRY OF A CLIENT
  module _ (U : State) (N : Notes S) (c : ℕ) (e : Entry) (events : List Event) (is : IsAt U N (Made c e ∷ events)) (fits : Fits U e) (front : Extends U.world.history H) where
    V : State
    V = after U e

    M : Notes S
    M = after_entry S c e N

    abbrev At : ℕ → List Event → Type 0
    At d R = IsClientAt (after U e) ((after_entry S c e N).of d) ((after_entry S c e N).found d) R

    maker : (d : ℕ) → (c == d) ≡ true → IsClientAt U (N.of d) (N.found d) (Made c e ∷ events_of d events) → At d (events_of d events)
    maker d same k = record {
      own = k.own;
      made = k.made ++ e ∷ [];
      held = subst (OptionHeld S g H (after U e) k.own) (sym (of_same S c d e N)) (option_on S g H U (after U e) (follows_next U e) is.first k.own (N.of d) k.held);
      looked =
          subst (AllHeld S g H (after U e) (found_in (k.made ++ e ∷ []))) (sym (found_here S c d e N same))
          (subst (λ ts. AllHeld S g H (after U e) ts (N.found d ++ new_found S e N)) (sym (found_append k.made (e ∷ [])))
          (held_append S g H (after U e) (found_in k.made) (found_in (e ∷ [])) (N.found d) (new_found S e N)
          (all_on S g H U (after U e) (follows_next U e) is.first (found_in k.made) (N.found d) k.looked)
          (all_on S g H U (after U e) (follows_next U e) is.first (found_in (e ∷ [])) (new_found S e N) (look_tells U N e is.racked fits))));
      tell = all_snoc (Tells S g H (after U e) k.own) k.made e (all_tell_on S g H U (after U e) (follows_next U e) is.first k.own k.made k.tell)
          (entry_tells U (N.of d) e k.own k.made is.sound is.first is.told front k.held k.runs.0 fits);
      runs = k.runs.1;
    }

    other : (d : ℕ) → (c == d) ≡ false → IsClientAt U (N.of d) (N.found d) (events_of d events) → At d (events_of d events)
    other d differ k = record {
      own = k.own;
      made = k.made;
      held = subst (OptionHeld S g H (after U e) k.own) (sym (of_same S c d e N)) (option_on S g H U (after U e) (follows_next U e) is.first k.own (N.of d) k.held);
      looked = subst (AllHeld S g H (after U e) (found_in k.made)) (sym (found_there S c d e N differ)) (all_on S g H U (after U e) (follows_next U e) is.first (found_in k.made) (N.found d) k.looked);
      tell = all_tell_on S g H U (after U e) (follows_next U e) is.first k.own k.made k.tell;
      runs = k.runs;
    }

    each_next : (d : ℕ) → At d (events_of d events)
    each_next d = by (c == d) refl (is.each d)
      where
        by : (b : Bool) → (c == d) ≡ b → IsClientAt U (N.of d) (N.found d) (cond b (Made c e ∷ events_of d events) (events_of d events)) → At d (events_of d events)
        by true same k = maker d same k
        by false differ k = other d differ k

    -- the client that makes it
    pub by_client : IsClientAt U (N.of c) (N.found c) (Made c e ∷ events_of c events)
    by_client = subst (λ b. IsClientAt U (N.of c) (N.found c) (cond b (Made c e ∷ events_of c events) (events_of c events))) (eq-eqb c c refl) (is.each c)

    pub made_next : IsAt (after U e) (after_entry S c e N) events
    made_next = record {
      sound = sound_next U e is.sound fits;
      first = (let same = (follows_next U e).history.first in let some = is.first in omega arith);
      told = tells_after U e ∙ is.told;
      racked = rack_next U N c e by_client.own by_client.made is.first by_client.held by_client.runs.0 fits is.racked;
      each = each_next;
    }

  -- A LINE OF A CLIENT
  -- the transaction with other accesses
  grown : (U : State) (t : Own) (l : List Access) (told old : Told S) → IsHeld S g H U t old → IsGood S g (array_at H t.begin) (record t { accesses = l }) told → IsHeld S g H U (record t { accesses = l }) told
  grown U t l told old is good = record {
    posting = record { number = is.posting.number; begin = is.posting.begin; mode = is.posting.mode };
    within = is.within;
    good = good;
  }

  arrays_of : (U : State) (t : Own) (made : List Entry) → AllByRecursion (Tells S g H U (Some t)) made → AllByRecursion (IsOfArray (array_at H t.begin)) made
  arrays_of U t [] tell = tt
  arrays_of U t (e ∷ made) tell = (one e tell.0, arrays_of U t made tell.1)
    where
      one : (e : Entry) → Tells S g H U (Some t) e → IsOfArray (array_at H t.begin) e
      one (entry.Fetch n block bytes) is = is
      one e is = tt

  -- what is told after a line is true
  line_held : (U : State) (s : Step) (own : Option Own) (made : List Entry) (told : Told S) (found : List (Told S)) → IsOp s.line.1.op → OptionHeld S g H U own told → AllHeld S g H U (found_in made) found
      → AllByRecursion (Tells S g H U own) made → Did g tells own s.line.1.op made (Ok s.reply) s.after → OptionHeld S g H U s.after (told_by S g own s told found)
  line_held U s (Some t) made told found isop held looked tell did =
      by (with_tx S lawful second g valid (array_at H t.begin) (shapes t.begin) t told held.good tells all s.line.1.op made s.reply s.after isop (arrays_of U t made tell) did)
    where
      by : (s.after ≡ None) ⊎ IsNext S lawful second g valid (array_at H t.begin) (shapes t.begin) t told held.good s.line.1.op s.reply s.after
          → OptionHeld S g H U s.after (told_more S g s.line.1.op s.reply t.accesses (own_accesses s.after) told (S.answered s.line.1.op s.reply))
      by (inl none) = subst (λ o. OptionHeld S g H U o (told_more S g s.line.1.op s.reply t.accesses (own_accesses s.after) told (S.answered s.line.1.op s.reply))) (sym none) tt
      by (inr next) =
          subst (λ o. OptionHeld S g H U o (told_more S g s.line.1.op s.reply t.accesses (own_accesses o) told (S.answered s.line.1.op s.reply))) (sym next.is)
          (grown U t next.accesses (told_more S g s.line.1.op s.reply t.accesses next.accesses told (S.answered s.line.1.op s.reply)) told held next.true_is)
  line_held U s None made told found isop held looked tell did = by (without_tx g tells s.line.1.op made s.reply s.after did)
    where
      none_found : (found : List (Told S)) → AllHeld S g H U [] found → first_or_nothing S found ≡ nothing_told S
      none_found [] is = refl
      none_found (m ∷ found) is = absurd is

      begun : HasBegun made s.after → OptionHeld S g H U s.after (first_or_nothing S found)
      begun has =
          let t : Own = record { number = has.number; begin = has.at; mode = has.mode; accesses = [] } in
          let told_is = none_found found (subst (λ l. AllHeld S g H U (found_in l) found) has.made looked) in
          let begin : Tells S g H U None (entry.Begin has.number has.at has.mode) = (subst (AllByRecursion (Tells S g H U None)) has.made tell).0 in
          subst (λ o. OptionHeld S g H U o (first_or_nothing S found)) (sym has.is)
          (subst (IsHeld S g H U t) (sym told_is) (record {
            posting = begin.0;
            within = begin.1;
            good = record { accesses = tt; count = omega arith; made = λ kept. begins_told S g (array_at H has.at) has.mode };
          }))

      first_held : (one : Own) (found : List (Told S)) → AllHeld S g H U (one ∷ []) found → IsHeld S g H U one (first_or_nothing S found)
      first_held one [] is = absurd is
      first_held one (m ∷ found) is = is.0

      by : Starts made s.after → OptionHeld S g H U s.after (first_or_nothing S found)
      by (inl none) = subst (λ o. OptionHeld S g H U o (first_or_nothing S found)) (sym none) tt
      by (inr (inl has)) = begun has
      by (inr (inr has)) =
          subst (λ o. OptionHeld S g H U o (first_or_nothing S found)) (sym has.is) (first_held has.one found (subst (λ l. AllHeld S g H U l found) has.found looked))

  module _ (U : State) (N : Notes S) (c : ℕ) (s : Step) (events : List Event) (is : IsAt U N (Done c s ∷ events)) (isop : IsOp s.line.1.op) where
    abbrev Now : ℕ → List Event → Type 0
    Now d R = IsClientAt U ((after_line S g c s N).of d) ((after_line S g c s N).found d) R

    teller : (d : ℕ) → (c == d) ≡ true → IsClientAt U (N.of d) (N.found d) (Done c s ∷ events_of d events) → Now d (events_of d events)
    teller d same k =
        let own_is : s.before ≡ k.own = k.runs.0 in
        let here : c ≡ d = eqb-true c d same in
        let held = line_held U s k.own k.made (N.of d) (N.found d) isop k.held k.looked k.tell k.runs.1 in
        let told_is : put_at c (told_by S g s.before s (N.of c) (N.found c)) N.of d ≡ told_by S g k.own s (N.of d) (N.found d) =
        put_here c d (told_by S g s.before s (N.of c) (N.found c)) N.of same ∙ ap (λ o. told_by S g o s (N.of c) (N.found c)) own_is ∙ ap (λ x. told_by S g k.own s (N.of x) (N.found x)) here in
        record {
          own = s.after;
          made = [];
          held = subst (OptionHeld S g H U s.after) (sym told_is) held;
          looked = subst (AllHeld S g H U []) (sym (put_here {X = List (Told S)} c d [] N.found same)) tt;
          tell = tt;
          runs = k.runs.2;
        }

    hearer : (d : ℕ) → (c == d) ≡ false → IsClientAt U (N.of d) (N.found d) (events_of d events) → Now d (events_of d events)
    hearer d differ k = record {
      own = k.own;
      made = k.made;
      held = subst (OptionHeld S g H U k.own) (sym (put_there c d (told_by S g s.before s (N.of c) (N.found c)) N.of differ)) k.held;
      looked = subst (AllHeld S g H U (found_in k.made)) (sym (put_there {X = List (Told S)} c d [] N.found differ)) k.looked;
      tell = k.tell;
      runs = k.runs;
    }

    -- what is told of the client's transaction after the line
    pub told_after_line : OptionHeld S g H U s.after ((after_line S g c s N).of c)
    told_after_line =
        let same : (c == c) ≡ true = eq-eqb c c refl in
        let k : IsClientAt U (N.of c) (N.found c) (Done c s ∷ events_of c events) =
        subst (λ b. IsClientAt U (N.of c) (N.found c) (cond b (Done c s ∷ events_of c events) (events_of c events))) same (is.each c) in
        let told_is : put_at c (told_by S g s.before s (N.of c) (N.found c)) N.of c ≡ told_by S g k.own s (N.of c) (N.found c) =
        put_here c c (told_by S g s.before s (N.of c) (N.found c)) N.of same ∙ ap (λ o. told_by S g o s (N.of c) (N.found c)) k.runs.0 in
        subst (OptionHeld S g H U s.after) (sym told_is) (line_held U s k.own k.made (N.of c) (N.found c) isop k.held k.looked k.tell k.runs.1)

    pub done_next : IsAt U (after_line S g c s N) events
    done_next = record {
      sound = is.sound;
      first = is.first;
      told = is.told;
      racked = is.racked;
      each = λ d. by d (c == d) refl (is.each d);
    }
      where
        by : (d : ℕ) (b : Bool) → (c == d) ≡ b → IsClientAt U (N.of d) (N.found d) (cond b (Done c s ∷ events_of d events) (events_of d events)) → Now d (events_of d events)
        by d true same k = teller d same k
        by d false differ k = hearer d differ k
