-- The sweeps after all else, and what all clients were told by one legal list.
use Rattle.par_lines.proofs.Words.{count_snoc, clients_rise, ◌≡◌, ◌⊎◌, inl, inr, ⊎_elim, ℕ, zero, suc, ◌+◌, ◌≤◌, ◌==◌, ◌||◌, true, List, [], ◌∷◌, ◌++◌, Some, None, length, map, refl, sym, ap, ◌∙◌, subst, arith, length-append, append_assoc, append-nil, AllByRecursion, list_any, Line, Entry, IsLegal, Start, View, count_up, places, times, AllBelow, AreDistinct, RisesFrom, prefix_whole, times_before, Part, ClientLines, clients_in, entries_of, lines_run, FoundSome, Told, dealt_entries, dealt_times, length-owners, owned_by, owners_of, AreRising, Dealt, ReadsAt, AllTold, Swept}
use Rattle.iso_shared.specs.declared.entry.Entry.TheVariants as entry
use Rattle.iso_shared.specs.Ports.{Made}

cancel : (xs ys : List ℕ) (n : ℕ) → xs ++ n ∷ [] ≡ ys ++ n ∷ [] → xs ≡ ys
cancel [] [] n e = refl
cancel [] (y ∷ ys) n e = absurd (omega (arith, ap length e, length-append ys (n ∷ [])))
cancel (x ∷ xs) [] n e = absurd (omega (arith, ap length e, length-append xs (n ∷ [])))
cancel (x ∷ xs) (y ∷ ys) n e = let h : x ≡ y = cc e in let t : xs ++ n ∷ [] ≡ ys ++ n ∷ [] = cc e in let r = cancel xs ys n t in cc (h, r)

room : (k m : ℕ) (xs : List ℕ) → k ≤ m → RisesFrom k xs → AllBelow m xs → k + length xs ≤ m
room k m [] le r b = omega arith
room k m (x ∷ xs) le r b = let t = room (suc x) m xs (omega (arith, b.0)) r.1 b.1 in let h = r.0 in omega arith

count_length : (k n : ℕ) → length (count_up k n) ≡ n
count_length k zero = refl
count_length k (suc n) = ap suc (count_length (suc k) n)

places_snoc : (n : ℕ) → places n ++ n ∷ [] ≡ places (n + 1)
places_snoc n = let e : n ≡ 0 + n = omega arith in ap (λ (k : ℕ). places n ++ k ∷ []) e ∙ count_snoc 0 n

-- where all places are a port's own after its entry, nobody else had made one
alone : (A : Start) (v w : View Entry) (e : Entry) → Made A v v e w → w.mine ≡ places (length w.seen) → RisesFrom 0 v.mine → AllBelow (length v.seen) v.mine → (w.seen ≡ v.seen ++ e ∷ []) × (v.mine ≡ places (length v.seen))
alone A v w e m all rises below =
    let n : ℕ = length m.before in
    let len : length w.seen ≡ n + 1 = ap length m.seen ∙ length-append m.before (e ∷ []) in
    let own : v.mine ≡ places n = cancel v.mine (places n) n (sym m.mine ∙ all ∙ ap places len ∙ sym (places_snoc n)) in
    let a : length v.mine ≡ n = ap length own ∙ count_length 0 n in
    let b = room 0 (length v.seen) v.mine (omega arith) rises below in
    let same : v.seen ≡ m.before = prefix_whole v.seen m.before m.told (omega arith) in
    (m.seen ∙ ap (λ l. l ++ e ∷ []) (sym same), own ∙ ap (λ l. places (length l)) (sym same))

found_snoc : (es : List Entry) (n : ℕ) → AllByRecursion FoundSome es → AllByRecursion FoundSome (es ++ entry.Sweep (Some n) ∷ [])
found_snoc [] n f = (tt, tt)
found_snoc (e ∷ es) n f = (f.0, found_snoc es n f.1)

pub swept_none : (v : View Entry) → Swept v v
swept_none v = record { entries = []; found = tt; seen = sym (append-nil v.seen); all = inl refl }

all_of : (v w : View Entry) → (w ≡ v) ⊎ (v.mine ≡ places (length v.seen)) → w.mine ≡ places (length w.seen) → v.mine ≡ places (length v.seen)
all_of v w s a = ⊎_elim (λ (e : w ≡ v). subst (λ (z : View Entry). z.mine ≡ places (length z.seen)) e a) (λ (e : v.mine ≡ places (length v.seen)). e) s

pub swept_more : (A : Start) (v w x : View Entry) (n : ℕ) → Swept v w → Made A w w (entry.Sweep (Some n)) x → x.mine ≡ places (length x.seen) → RisesFrom 0 w.mine → AllBelow (length w.seen) w.mine → Swept v x
swept_more A v w x n s m all rises below =
    let a = alone A w x (entry.Sweep (Some n)) m all rises below in
    record {
      entries = s.entries ++ entry.Sweep (Some n) ∷ [];
      found = found_snoc s.entries n s.found;
      seen = a.0 ∙ (ap (λ l. l ++ entry.Sweep (Some n) ∷ []) s.seen ∙ append_assoc v.seen s.entries (entry.Sweep (Some n) ∷ []));
      all = inr (all_of v w s.all a.1);
    }

pub swept_last : (A : Start) (v w x : View Entry) → Swept v w → Made A w w (entry.Sweep None) x → x.mine ≡ places (length x.seen) → RisesFrom 0 w.mine → AllBelow (length w.seen) w.mine
    → (v.mine ≡ places (length v.seen)) × ((swept : List Entry) × AllByRecursion FoundSome swept × (x.seen ≡ v.seen ++ swept ++ entry.Sweep None ∷ []))
swept_last A v w x s m all rises below =
    let a = alone A w x (entry.Sweep None) m all rises below in
    (all_of v w s.all a.1, (s.entries, s.found, a.0 ∙ ap (λ l. l ++ entry.Sweep None ∷ []) s.seen))

-- the clients are distinct
rises_distinct : (k : ℕ) (xs : List ℕ) → RisesFrom k xs → AreDistinct xs
rises_distinct k [] r = tt
rises_distinct k (x ∷ xs) r = (times_before (suc x) x xs (omega arith) r.1, rises_distinct (suc x) xs r.1)

distinct_clients : (lines : List (ℕ × Line)) → AreDistinct (clients_in lines)
distinct_clients lines = rises_distinct 1 (clients_in lines) (clients_rise lines)

module _ (A : Start) (lines : List (ℕ × Line)) (E : List Entry) where
  -- the clients with their places
  abbrev logs_of : (parts : List Part) (count : ℕ → ℕ) → AllTold A lines E parts count → Dealt
  logs_of [] count t = []
  logs_of (q ∷ parts) count t = (q.client, t.3.1.places) ∷ logs_of parts t.1 t.4

  dealt_is : (parts : List Part) (count : ℕ → ℕ) (t : AllTold A lines E parts count) (p : ℕ) → dealt_times (logs_of parts count t) p ≡ count p
  dealt_is [] count t p = sym (t p)
  dealt_is (q ∷ parts) count t p =
      let rest = dealt_is parts t.1 t.4 p in
      let here = t.3.1.counts p in
      let sum = t.2 p in
      omega arith

  ids_are : (parts : List Part) (count : ℕ → ℕ) (t : AllTold A lines E parts count) → map (λ l. l.0) (logs_of parts count t) ≡ map (λ q. q.client) parts
  ids_are [] count t = refl
  ids_are (q ∷ parts) count t = ap (λ l. q.client ∷ l) (ids_are parts t.1 t.4)

  rising : (parts : List Part) (count : ℕ → ℕ) (t : AllTold A lines E parts count) → AreRising (logs_of parts count t)
  rising [] count t = tt
  rising (q ∷ parts) count t = (t.3.1.rises, rising parts t.1 t.4)

  told_each : (owners : List ℕ) (parts : List Part) (count : ℕ → ℕ) (t : AllTold A lines E parts count) → AllByRecursion (ReadsAt (entry.Abort 0) E owners) (logs_of parts count t)
      → AllByRecursion (λ q. ClientLines A.world.geometry A.tells (lines_run lines q) q.told q.stop (entries_of q.client owners E)) parts
  told_each owners [] count t reads = tt
  told_each owners (q ∷ parts) count t reads =
      (subst (λ F. ClientLines A.world.geometry A.tells (lines_run lines q) q.told q.stop F) (sym (reads.0 ∙ t.3.1.reads)) t.3.2, told_each owners parts t.1 t.4 reads.1)

  any_same : (o : ℕ) (parts : List Part) (count : ℕ → ℕ) (t : AllTold A lines E parts count) → list_any (λ l. l.0 == o) (logs_of parts count t) ≡ list_any (λ q. q.client == o) parts
  any_same o [] count t = refl
  any_same o (q ∷ parts) count t = ap (λ b. (q.client == o) || b) (any_same o parts t.1 t.4)

all_as : (P Q : ℕ → Type 0) → ((x : ℕ) → P x → Q x) → (xs : List ℕ) → AllByRecursion P xs → AllByRecursion Q xs
all_as P Q f [] all = tt
all_as P Q f (x ∷ xs) all = (f x all.0, all_as P Q f xs all.1)

-- all that was told at the end
pub told_all : (A : Start) (lines : List (ℕ × Line)) (parts : List Part) (v w : View Entry) → AllTold A lines v.seen parts (λ p. times p v.mine) → v.mine ≡ places (length v.seen) → IsLegal A w.seen
    → (s : (swept : List Entry) × AllByRecursion FoundSome swept × (w.seen ≡ v.seen ++ swept ++ entry.Sweep None ∷ [])) → map (λ q. q.client) parts ≡ clients_in lines → Told A lines parts w.seen
told_all A lines parts v w told all legal s clients =
    let E : List Entry = v.seen in
    let logs : Dealt = logs_of A lines E parts (λ p. times p v.mine) told in
    let once : (p : ℕ) → dealt_times logs p ≡ times p (places (length E)) = λ p. dealt_is A lines E parts (λ p. times p v.mine) told p ∙ ap (times p) all in
    let ids : map (λ l. l.0) logs ≡ clients_in lines = ids_are A lines E parts (λ p. times p v.mine) told ∙ clients in
    record {
      legal = legal;
      made = E;
      swept = s.0;
      found = s.1;
      are = s.2;
      owners = owners_of logs E;
      each = length-owners logs E;
      clients = clients;
      owned = all_as (λ o. list_any (λ l. l.0 == o) logs ≡ true) (λ o. list_any (λ q. q.client == o) parts ≡ true) (λ o is. sym (any_same A lines E o parts (λ p. times p v.mine) told) ∙ is) (owners_of logs E) (owned_by logs E once);
      told = told_each A lines E (owners_of logs E) parts (λ p. times p v.mine) told
          (dealt_entries (entry.Abort 0) E logs (subst AreDistinct (sym ids) (distinct_clients lines)) (rising A lines E parts (λ p. times p v.mine) told) once);
    }
