-- What clients were told is a trace, in which the calls that their lines tell answer in order.
use Rattle.store_scripts.proofs.{ThreadWords.{◌≡◌, ◌∙◌, sym, refl, ap, subst, ℕ, zero, suc, ◌+◌, ◌≤◌, ◌==◌, ◌||◌, Bool, true, false, cond, List, [], ◌∷◌, ◌++◌, length, map, take, filter, is_some, append_assoc, None, arith, eq-eqb, eqb-true, AllByRecursion, list_any, Geometry, IsWorld, Line, AreLines, RisesFrom, Entry, IsIsolatedAt, Start, Part, ClientLines, FoundSome, entries_of, lines_of, lines_run, files_answer_at, stores_answer_at, files_second, tree_second, file_goes, tree_goes, the_files, the_tree, SecondStore, IsSecond, SecondGoes, AnswersWithAt, second_store, IsLegal, CallsAnswer, LinesTellCalls, Event, IsOfPart, IsOneOf, IsTrace, Runs, client_of, entries_in, events_of, lines_in}, Clients.{OfClient, client_events}, Events.{AreOps, ops_each, ops_lines, swapped}, Merging.{AreAmong, Dealt, IsDealt, IsMerged, IsOf, merged}, Placed.AreSweeps, ThreadWhole.calls_answer}
use Rattle.par_script.{proofs.Owners.{clients_rise}, specs.Told.{Told}}
use Rattle.iso_shared.specs.declared.entry.Entry.TheVariants as entry

-- some of good lines are good
good_filter : (q : ℕ × Line → Bool) (lines : List (ℕ × Line)) → AreLines lines → AreLines (filter q lines)
good_filter q [] all = tt
good_filter q (l ∷ lines) all = by (q l) (good_filter q lines all.1)
  where
    by : (b : Bool) → AreLines (filter q lines) → AreLines (cond b (l ∷ filter q lines) (filter q lines))
    by true rest = (all.0, rest)
    by false rest = rest

good_take : (n : ℕ) (lines : List (ℕ × Line)) → AreLines lines → AreLines (take n lines)
good_take zero lines all = tt
good_take (suc n) [] all = tt
good_take (suc n) (l ∷ lines) all = (all.0, good_take n lines all.1)

good_run : (lines : List (ℕ × Line)) (p : Part) → AreLines lines → AreLines (lines_run lines p)
good_run lines p all = by (is_some p.stop) (good_filter (λ l. l.1.client == p.client) lines all)
  where
    by : (b : Bool) → AreLines (lines_of p.client lines) → AreLines (cond b (take (length p.told + 1) (lines_of p.client lines)) (lines_of p.client lines))
    by true mine = good_take (length p.told + 1) (lines_of p.client lines) mine
    by false mine = mine

or_false : (a b : Bool) → (a || b) ≡ false → (a ≡ false) × (b ≡ false)
or_false true b is = absurd (cc is)
or_false false b is = (refl, is)

any_client : (parts : List Part) (c : ℕ) → list_any (λ x. x == c) (map (λ p. p.client) parts) ≡ list_any (λ p. p.client == c) parts
any_client [] c = refl
any_client (p ∷ parts) c = ap (λ b. (p.client == c) || b) (any_client parts c)

all_any : (parts : List Part) (owners : List ℕ) → AllByRecursion (λ o. list_any (λ p. p.client == o) parts ≡ true) owners → AllByRecursion (λ o. list_any (λ x. x == o) (map (λ p. p.client) parts) ≡ true) owners
all_any parts [] all = tt
all_any parts (o ∷ owners) all = (any_client parts o ∙ all.0, all_any parts owners all.1)

none_of : (parts : List Part) (c : ℕ) (owners : List ℕ) (made : List Entry) → AllByRecursion (λ o. list_any (λ p. p.client == o) parts ≡ true) owners → list_any (λ p. p.client == c) parts ≡ false → entries_of c owners made ≡ []
none_of parts c [] made all none = refl
none_of parts c (o ∷ owners) [] all none = refl
none_of parts c (o ∷ owners) (e ∷ made) all none = by (o == c) refl (none_of parts c owners made all.1 none)
  where
    by : (b : Bool) → (o == c) ≡ b → entries_of c owners made ≡ [] → cond b (e ∷ entries_of c owners made) (entries_of c owners made) ≡ []
    by true is rest = absurd (cc (sym none ∙ ap (λ k. list_any (λ p. p.client == k) parts) (sym (eqb-true o c is)) ∙ all.0))
    by false is rest = rest

sweeps_of : (swept : List Entry) → AllByRecursion FoundSome swept → AreSweeps (swept ++ entry.Sweep None ∷ [])
sweeps_of [] all = ((λ none. none), tt)
sweeps_of (entry.Sweep found ∷ swept) all = ((λ none. none), sweeps_of swept all.1)
sweeps_of (entry.Begin n at mode ∷ swept) all = absurd all.0
sweeps_of (entry.Fetch n block bytes ∷ swept) all = absurd all.0
sweeps_of (entry.End n accesses answered ∷ swept) all = absurd all.0
sweeps_of (entry.EndGroup ends ∷ swept) all = absurd all.0
sweeps_of (entry.Abort n ∷ swept) all = absurd all.0
sweeps_of (entry.Trim n ∷ swept) all = absurd all.0
sweeps_of (entry.Compact n ∷ swept) all = absurd all.0
sweeps_of (entry.Upgrade n ∷ swept) all = absurd all.0
sweeps_of (entry.Stat numbers ∷ swept) all = absurd all.0
sweeps_of (entry.Post n label accesses ∷ swept) all = absurd all.0
sweeps_of (entry.Look label found ∷ swept) all = absurd all.0
sweeps_of (entry.Recent n upto ∷ swept) all = absurd all.0
sweeps_of (entry.Refused c why ∷ swept) all = absurd all.0

module _ (g : Geometry) (tells : Bool) (lines : List (ℕ × Line)) (owners : List ℕ) (made : List Entry) where
  abbrev IsMade : Part → Type 0
  IsMade p = OfClient g tells p.client (lines_run lines p) p.told (entries_of p.client owners made)

  all_made : (parts : List Part) → AllByRecursion (λ p. ClientLines g tells (lines_run lines p) p.told p.stop (entries_of p.client owners made)) parts → AllByRecursion IsMade parts
  all_made [] all = tt
  all_made (p ∷ parts) all = (client_events g tells p.client (lines_run lines p) p.told p.stop (entries_of p.client owners made) all.0, all_made parts all.1)

  -- the events of each client, of the first part that is its
  abbrev events_by : (parts : List Part) → AllByRecursion IsMade parts → Dealt
  events_by [] all = λ c. []
  events_by (p ∷ parts) all = λ c. cond (c == p.client) all.0.events (events_by parts all.1 c)

  dealt_by : (parts : List Part) (all : AllByRecursion IsMade parts) (c : ℕ) → (list_any (λ p. p.client == c) parts ≡ false → entries_of c owners made ≡ []) → IsDealt c owners made (events_by parts all c)
  dealt_by [] all c none = record { entries = sym (none refl); mine = tt }
  dealt_by (p ∷ parts) all c none =
      by (c == p.client) refl (λ other. dealt_by parts all.1 c (λ no. none (ap (λ b. b || list_any (λ q. q.client == c) parts) (swapped c p.client other) ∙ no)))
    where
      by : (b : Bool) → (c == p.client) ≡ b → ((c == p.client) ≡ false → IsDealt c owners made (events_by parts all.1 c)) → IsDealt c owners made (cond b all.0.events (events_by parts all.1 c))
      by true is rest = subst (λ k. IsDealt k owners made all.0.events) (sym (eqb-true c p.client is)) (record { entries = all.0.entries_are; mine = all.0.mine })
      by false is rest = rest is

  runs_by : (parts : List Part) (all : AllByRecursion IsMade parts) (c : ℕ) → Runs g tells None [] (events_by parts all c)
  runs_by [] all c = tt
  runs_by (p ∷ parts) all c = by (c == p.client) (runs_by parts all.1 c)
    where
      by : (b : Bool) → Runs g tells None [] (events_by parts all.1 c) → Runs g tells None [] (cond b all.0.events (events_by parts all.1 c))
      by true rest = all.0.runs
      by false rest = rest

  among_by : (parts : List Part) (all : AllByRecursion IsMade parts) → AreAmong (map (λ p. p.client) parts) (events_by parts all)
  among_by [] all c none = refl
  among_by (p ∷ parts) all c none =
      let both = or_false (p.client == c) (list_any (λ x. x == c) (map (λ q. q.client) parts)) none in
      ap (λ b. cond b all.0.events (events_by parts all.1 c)) (swapped p.client c both.0) ∙ among_by parts all.1 c both.1

  above : (k c : ℕ) → suc k ≤ c → (c == k) ≡ false
  above k c more = by (c == k) refl
    where
      by : (b : Bool) → (c == k) ≡ b → (c == k) ≡ false
      by false is = is
      by true is = let same = eqb-true c k is in absurd (omega (arith, same, more))

  -- each part has its own events
  parts_by : (k : ℕ) (parts : List Part) (all : AllByRecursion IsMade parts) (V : Dealt) → RisesFrom k (map (λ p. p.client) parts) → ((c : ℕ) → k ≤ c → V c ≡ events_by parts all c) → AllByRecursion (λ p. IsOfPart g tells lines p (V p.client)) parts
  parts_by k [] all V rises same = tt
  parts_by k (p ∷ parts) all V rises same =
      let own : V p.client ≡ all.0.events = same p.client rises.0 ∙ ap (λ b. cond b all.0.events (events_by parts all.1 p.client)) (eq-eqb p.client p.client refl) in (
        subst (IsOfPart g tells lines p) (sym own) (record { told = all.0.told_are; unanswered = all.0.unanswered; ran = all.0.ran; runs = all.0.runs }),
        parts_by (suc p.client) parts all.1 V rises.1 (λ c more.
            same c (let from = rises.0 in omega (arith, from, more)) ∙ ap (λ b. cond b all.0.events (events_by parts all.1 c)) (above p.client c more)),
      )

-- THE LINES OF A TRACE ARE GOOD
good_front : (xs ys : List (ℕ × Line)) → AreLines (xs ++ ys) → AreLines xs
good_front [] ys all = tt
good_front (x ∷ xs) ys all = (all.0, good_front xs ys all.1)

-- a client that was told nothing has no events
no_events : (parts : List Part) (c : ℕ) (events : List Event) → AllByRecursion (λ e. IsOneOf parts (client_of e)) events → list_any (λ p. p.client == c) parts ≡ false → events_of c events ≡ []
no_events parts c [] owned none = refl
no_events parts c (e ∷ events) owned none = by (client_of e == c) refl (no_events parts c events owned.1 none)
  where
    by : (b : Bool) → (client_of e == c) ≡ b → events_of c events ≡ [] → cond b (e ∷ events_of c events) (events_of c events) ≡ []
    by true is rest = absurd (cc (sym none ∙ ap (λ k. list_any (λ p. p.client == k) parts) (sym (eqb-true (client_of e) c is)) ∙ owned.0))
    by false is rest = rest

module _ (g : Geometry) (tells : Bool) (lines : List (ℕ × Line)) (good : AreLines lines) (events : List Event) where
  part_ops : (c : ℕ) (parts : List Part) → AllByRecursion (λ p. IsOfPart g tells lines p (events_of p.client events)) parts → list_any (λ p. p.client == c) parts ≡ true → AreOps (events_of c events)
  part_ops c [] of has = absurd (cc has)
  part_ops c (p ∷ parts) of has = by (p.client == c) refl (λ rest. part_ops c parts of.1 rest) has
    where
      by : (b : Bool) → (p.client == c) ≡ b → (list_any (λ q. q.client == c) parts ≡ true → AreOps (events_of c events)) → (b || list_any (λ q. q.client == c) parts) ≡ true → AreOps (events_of c events)
      by true is on has =
          subst (λ k. AreOps (events_of k events)) (eqb-true p.client c is)
          (ops_lines (events_of p.client events) (good_front (lines_in (events_of p.client events)) of.0.unanswered (subst AreLines (sym of.0.ran) (good_run lines p good))))
      by false is on has = on has

  trace_ops : (parts : List Part) → AllByRecursion (λ e. IsOneOf parts (client_of e)) events → AllByRecursion (λ p. IsOfPart g tells lines p (events_of p.client events)) parts → AreOps events
  trace_ops parts owned of = ops_each events (λ c. by c (list_any (λ p. p.client == c) parts) refl)
    where
      by : (c : ℕ) (b : Bool) → list_any (λ p. p.client == c) parts ≡ b → AreOps (events_of c events)
      by c true has = part_ops c parts of has
      by c false none = subst AreOps (sym (no_events parts c events owned none)) tt

owned_parts : (parts : List Part) (events : List Event) → AllByRecursion (IsOf (map (λ p. p.client) parts)) events → AllByRecursion (λ e. IsOneOf parts (client_of e)) events
owned_parts parts [] all = tt
owned_parts parts (e ∷ events) all = (sym (any_client parts (client_of e)) ∙ all.0, owned_parts parts events all.1)

module _ (A : Start) (lines : List (ℕ × Line)) (parts : List Part) (E : List Entry) (sound : IsWorld A.world) (none : A.world.live ≡ []) (good : AreLines lines) (legal : IsLegal A E) where
  -- in each order the calls of a store answer so
  each_answers : (S : SecondStore) → IsSecond S → SecondGoes S → AnswersWithAt (second_store S A.world.geometry) A E → (order : List Event) → IsTrace A lines parts E order → CallsAnswer S A E order
  each_answers S lawful second answers order t =
      let tail : List Entry = t.swept ++ entry.Sweep None ∷ [] in
      calls_answer S lawful second A E order tail sound none legal (t.are ∙ append_assoc (entries_in order) t.swept (entry.Sweep None ∷ [])) (sweeps_of t.swept t.found) t.each
      (trace_ops A.world.geometry A.tells lines good order parts t.owned t.of) answers

pub lines_tell : (A : Start) (lines : List (ℕ × Line)) (parts : List Part) (E : List Entry) → IsWorld A.world → A.world.live ≡ [] → IsIsolatedAt A E → AreLines lines → Told A lines parts E → LinesTellCalls A lines parts E
lines_tell A lines parts E sound none isolated good told =
    let g : Geometry = A.world.geometry in
    let all = all_made g A.tells lines told.owners told.made parts told.told in
    let V : Dealt = events_by g A.tells lines told.owners told.made parts all in
    let cs : List ℕ = map (λ p. p.client) parts in
    let one : IsMerged cs told.made V =
    merged cs told.owners told.made V told.each (all_any parts told.owners told.owned) (among_by g A.tells lines told.owners told.made parts all)
    (λ c. dealt_by g A.tells lines told.owners told.made parts all c (none_of parts c told.owners told.made told.owned)) in
    let rises : RisesFrom 1 cs = subst (RisesFrom 1) (sym told.clients) (clients_rise lines) in
    record {
      events = one.events;
      trace = record {
        swept = told.swept;
        found = told.found;
        are = told.are ∙ ap (λ es. es ++ told.swept ++ entry.Sweep None ∷ []) (sym one.entries);
        owned = owned_parts parts one.events one.among;
        each = λ c. subst (Runs g A.tells None []) (sym (one.each c)) (runs_by g A.tells lines told.owners told.made parts all c);
        of = parts_by g A.tells lines told.owners told.made 1 parts all (λ c. events_of c one.events) rises (λ c from. one.each c);
      };
      tree = each_answers A lines parts E sound none good told.legal the_tree tree_second tree_goes (stores_answer_at A E sound none told.legal isolated);
      files = each_answers A lines parts E sound none good told.legal the_files files_second file_goes (files_answer_at A E sound none told.legal isolated);
    }
