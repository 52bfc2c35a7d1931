-- The events of several clients stand in one order, by whose each entry of the list is.
use Rattle.store_scripts.{proofs.ThreadWords.{◌≡◌, ◌∙◌, sym, refl, ap, subst, ℕ, ◌==◌, ◌||◌, Bool, true, false, cond, List, [], ◌∷◌, ◌++◌, append-nil, length, arith, eq-eqb, eqb-true, AllByRecursion, list_any, Entry, entries_of, Event, Made, client_of, entries_in, events_of}, specs.Trace.Done, proofs.Clients.AreMine, proofs.Events.{entries_joined, swapped}}

-- the events of each client
abbrev pub Dealt : Type 0
Dealt = ℕ → List Event

-- those of one client changed
abbrev now : ℕ → List Event → Dealt → Dealt
now c events V = λ d. cond (d == c) events (V d)

-- the events of a client that is not among these are none
abbrev pub AreAmong : List ℕ → Dealt → Type 0
AreAmong cs V = (d : ℕ) → list_any (λ c. c == d) cs ≡ false → V d ≡ []

-- what a client's events are by whose the entries are
pub record IsDealt (c : ℕ) (owners : List ℕ) (made : List Entry) (events : List Event) : Type 0 where
  pub entries : entries_in events ≡ entries_of c owners made
  pub mine : AreMine c events

-- an event of one of these clients
abbrev pub IsOf : List ℕ → Event → Type 0
IsOf cs e = list_any (λ c. c == client_of e) cs ≡ true

pub record IsMerged (cs : List ℕ) (made : List Entry) (V : Dealt) : Type 0 where
  pub events : List Event
  pub entries : entries_in events ≡ made
  pub each : (c : ℕ) → events_of c events ≡ V c
  pub among : AllByRecursion (IsOf cs) events

mine_front : (c : ℕ) (xs ys : List Event) → AreMine c (xs ++ ys) → AreMine c xs
mine_front c [] ys all = tt
mine_front c (x ∷ xs) ys all = (all.0, mine_front c xs ys all.1)

mine_behind : (c : ℕ) (xs ys : List Event) → AreMine c (xs ++ ys) → AreMine c ys
mine_behind c [] ys all = all
mine_behind c (x ∷ xs) ys all = mine_behind c xs ys all.1

-- the events of a client after its own ones, and after those of another
behind_mine : (c : ℕ) (xs ys : List Event) → AreMine c xs → events_of c (xs ++ ys) ≡ xs ++ events_of c ys
behind_mine c [] ys all = refl
behind_mine c (x ∷ xs) ys all = ap (λ b. cond b (x ∷ events_of c (xs ++ ys)) (events_of c (xs ++ ys))) (eq-eqb (client_of x) c all.0) ∙ ap (λ l. x ∷ l) (behind_mine c xs ys all.1)

behind_others : (c d : ℕ) (xs ys : List Event) → (d == c) ≡ false → AreMine c xs → events_of d (xs ++ ys) ≡ events_of d ys
behind_others c d [] ys other all = refl
behind_others c d (x ∷ xs) ys other all =
    ap (λ b. cond b (x ∷ events_of d (xs ++ ys)) (events_of d (xs ++ ys))) (ap (λ k. k == d) all.0 ∙ swapped d c other) ∙ behind_others c d xs ys other all.1

-- WITHOUT ENTRIES: one client after another
left_over : List ℕ → Dealt → List Event
left_over [] V = []
left_over (c ∷ cs) V = V c ++ left_over cs (now c [] V)

here_is : (c : ℕ) (events : List Event) (V : Dealt) → now c events V c ≡ events
here_is c events V = ap (λ b. cond b events (V c)) (eq-eqb c c refl)

there_is : (c d : ℕ) (events : List Event) (V : Dealt) → (d == c) ≡ false → now c events V d ≡ V d
there_is c d events V other = ap (λ b. cond b events (V d)) other

among_less : (c : ℕ) (cs : List ℕ) (V : Dealt) → AreAmong (c ∷ cs) V → AreAmong cs (now c [] V)
among_less c cs V among d none = by (d == c) refl
  where
    by : (b : Bool) → (d == c) ≡ b → cond b [] (V d) ≡ []
    by true is = refl
    by false is = among d (ap (λ b. b || list_any (λ x. x == d) cs) (swapped d c is) ∙ none)

abbrev Each : (P : ℕ → List Event → Type 0) → Dealt → Type 0
Each P V = (d : ℕ) → P d (V d)

each_now : (P : ℕ → List Event → Type 0) (c : ℕ) (events : List Event) (V : Dealt) → P c events → Each P V → Each P (now c events V)
each_now P c events V one all d = by (d == c) refl
  where
    by : (b : Bool) → (d == c) ≡ b → P d (cond b events (V d))
    by true is = subst (λ k. P k events) (sym (eqb-true d c is)) one
    by false is = all d

left_each : (cs : List ℕ) (V : Dealt) → AreAmong cs V → Each AreMine V → (d : ℕ) → events_of d (left_over cs V) ≡ V d
unfolding left_over
left_each [] V among mine d = sym (among d refl)
left_each (c ∷ cs) V among mine d = by (d == c) refl (left_each cs (now c [] V) (among_less c cs V among) (each_now AreMine c [] V tt mine) d)
  where
    by : (b : Bool) → (d == c) ≡ b → events_of d (left_over cs (now c [] V)) ≡ now c [] V d → events_of d (V c ++ left_over cs (now c [] V)) ≡ V d
    by true is rest =
        let same : d ≡ c = eqb-true d c is in
        subst (λ k. events_of k (V c ++ left_over cs (now c [] V)) ≡ V k) (sym same)
        (behind_mine c (V c) (left_over cs (now c [] V)) (mine c)
        ∙ ap (λ l. V c ++ l) (subst (λ k. events_of k (left_over cs (now c [] V)) ≡ now c [] V k) same rest ∙ here_is c [] V) ∙ append-nil (V c))
    by false is rest = behind_others c d (V c) (left_over cs (now c [] V)) is (mine c) ∙ rest ∙ there_is c d [] V is

abbrev HasNoEntry : ℕ → List Event → Type 0
HasNoEntry c events = entries_in events ≡ []

left_entries : (cs : List ℕ) (V : Dealt) → Each HasNoEntry V → entries_in (left_over cs V) ≡ []
unfolding left_over
left_entries [] V none = refl
left_entries (c ∷ cs) V none =
    entries_joined (V c) (left_over cs (now c [] V)) ∙ ap (λ l. l ++ entries_in (left_over cs (now c [] V))) (none c) ∙ left_entries cs (now c [] V) (each_now HasNoEntry c [] V refl none)

all_joined : (P : Event → Type 0) (xs ys : List Event) → AllByRecursion P xs → AllByRecursion P ys → AllByRecursion P (xs ++ ys)
all_joined P [] ys one two = two
all_joined P (x ∷ xs) ys one two = (one.0, all_joined P xs ys one.1 two)

-- the events of a client of these are such
mine_of : (cs : List ℕ) (c : ℕ) (events : List Event) → list_any (λ x. x == c) cs ≡ true → AreMine c events → AllByRecursion (IsOf cs) events
mine_of cs c [] has mine = tt
mine_of cs c (e ∷ events) has mine = (ap (λ k. list_any (λ x. x == k) cs) mine.0 ∙ has, mine_of cs c events has mine.1)

left_among : (all cs : List ℕ) (V : Dealt) → AllByRecursion (λ c. list_any (λ x. x == c) all ≡ true) cs → Each AreMine V → AllByRecursion (IsOf all) (left_over cs V)
unfolding left_over
left_among all [] V among mine = tt
left_among all (c ∷ cs) V among mine =
    all_joined (IsOf all) (V c) (left_over cs (now c [] V)) (mine_of all c (V c) among.0 (mine c)) (left_among all cs (now c [] V) among.1 (each_now AreMine c [] V tt mine))

or_true : (a b : Bool) → b ≡ true → (a || b) ≡ true
or_true true b is = refl
or_true false b is = is

more_among : (c : ℕ) (all cs : List ℕ) → AllByRecursion (λ d. list_any (λ x. x == d) all ≡ true) cs → AllByRecursion (λ d. list_any (λ x. x == d) (c ∷ all) ≡ true) cs
more_among c all [] has = tt
more_among c all (d ∷ cs) has = (or_true (c == d) (list_any (λ x. x == d) all) has.0, more_among c all cs has.1)

each_among : (cs : List ℕ) → AllByRecursion (λ c. list_any (λ x. x == c) cs ≡ true) cs
each_among [] = tt
each_among (c ∷ cs) = (ap (λ b. b || list_any (λ x. x == c) cs) (eq-eqb c c refl), more_among c cs cs (each_among cs))

-- AN ENTRY
-- the events of a client up to its next entry
record IsCut (events : List Event) (e : Entry) (es : List Entry) : Type 0 where
  pub front : List Event
  pub client : ℕ
  pub later : List Event
  pub is : events ≡ front ++ Made client e ∷ later
  pub none : entries_in front ≡ []
  pub rest : entries_in later ≡ es

cut : (events : List Event) (e : Entry) (es : List Entry) → entries_in events ≡ e ∷ es → IsCut events e es
cut [] e es is = absurd (cc is)
cut (Made c x ∷ events) e es is =
    let same : x ≡ e = cc is in
    record { front = []; client = c; later = events; is = ap (λ (y : Entry). Made c y ∷ events) same; none = refl; rest = cc is }
cut (Done c s ∷ events) e es is =
    let k = cut events e es is in
    record { front = Done c s ∷ k.front; client = k.client; later = k.later; is = ap (λ (l : List Event). Done c s ∷ l) k.is; none = k.none; rest = k.rest }

entries_mine : (c : ℕ) (owners : List ℕ) (e : Entry) (made : List Entry) → entries_of c (c ∷ owners) (e ∷ made) ≡ e ∷ entries_of c owners made
entries_mine c owners e made = ap (λ b. cond b (e ∷ entries_of c owners made) (entries_of c owners made)) (eq-eqb c c refl)

entries_other : (c d : ℕ) (owners : List ℕ) (e : Entry) (made : List Entry) → (d == c) ≡ false → entries_of d (c ∷ owners) (e ∷ made) ≡ entries_of d owners made
entries_other c d owners e made other = ap (λ b. cond b (e ∷ entries_of d owners made) (entries_of d owners made)) (swapped d c other)

among_now : (c : ℕ) (cs : List ℕ) (later : List Event) (V : Dealt) → list_any (λ x. x == c) cs ≡ true → AreAmong cs V → AreAmong cs (now c later V)
among_now c cs later V has among d none = by (d == c) refl
  where
    by : (b : Bool) → (d == c) ≡ b → cond b later (V d) ≡ []
    by true is = absurd (cc (sym none ∙ ap (λ k. list_any (λ x. x == k) cs) (eqb-true d c is) ∙ has))
    by false is = among d none

pub merged : (cs owners : List ℕ) (made : List Entry) (V : Dealt) → length owners ≡ length made → AllByRecursion (λ o. list_any (λ c. c == o) cs ≡ true) owners → AreAmong cs V
    → ((c : ℕ) → IsDealt c owners made (V c)) → IsMerged cs made V
merged cs [] [] V size all among is = record {
  events = left_over cs V;
  entries = left_entries cs V (λ c. (is c).entries);
  each = left_each cs V among (λ c. (is c).mine);
  among = left_among cs cs V (each_among cs) (λ c. (is c).mine);
}
merged cs [] (e ∷ made) V size all among is = absurd (cc size)
merged cs (o ∷ owners) [] V size all among is = absurd (cc size)
merged cs (o ∷ owners) (e ∷ made) V size all among is =
    let k = cut (V o) e (entries_of o owners made) ((is o).entries ∙ entries_mine o owners e made) in
    let mine = subst (AreMine o) k.is (is o).mine in
    let own : k.client ≡ o = (mine_behind o k.front (Made k.client e ∷ k.later) mine).0 in
    let later : IsDealt o owners made k.later =
    record { entries = k.rest; mine = (mine_behind o k.front (Made k.client e ∷ k.later) mine).1 } in
    let W : Dealt = now o k.later V in
    let rest = merged cs owners made W (let s = size in omega arith) all.1 (among_now o cs k.later V all.0 among) (dealt k.later later) in
    record {
      events = k.front ++ Made o e ∷ rest.events;
      entries = entries_joined k.front (Made o e ∷ rest.events) ∙ ap (λ l. l ++ e ∷ entries_in rest.events) k.none ∙ ap (λ l. e ∷ l) rest.entries;
      each = λ d. each_of k.front k.later rest.events (mine_front o k.front (Made k.client e ∷ k.later) mine) (k.is ∙ ap (λ (c : ℕ). k.front ++ Made c e ∷ k.later) own) d (rest.each d);
      among = all_joined (IsOf cs) k.front (Made o e ∷ rest.events) (mine_of cs o k.front all.0 (mine_front o k.front (Made k.client e ∷ k.later) mine)) (all.0, rest.among);
    }
  where
    dealt : (later : List Event) → IsDealt o owners made later → (d : ℕ) → IsDealt d owners made (now o later V d)
    dealt later one d = by (d == o) refl
      where
        by : (b : Bool) → (d == o) ≡ b → IsDealt d owners made (cond b later (V d))
        by true same = subst (λ k. IsDealt k owners made later) (sym (eqb-true d o same)) one
        by false other = record { entries = (is d).entries ∙ entries_other o d owners e made other; mine = (is d).mine }

    each_of : (front later events : List Event) → AreMine o front → V o ≡ front ++ Made o e ∷ later → (d : ℕ) → events_of d events ≡ now o later V d → events_of d (front ++ Made o e ∷ events) ≡ V d
    each_of front later events mine cut_is d rest = by (d == o) refl
      where
        by : (b : Bool) → (d == o) ≡ b → events_of d (front ++ Made o e ∷ events) ≡ V d
        by true same =
            let is_o : d ≡ o = eqb-true d o same in
            subst (λ k. events_of k (front ++ Made o e ∷ events) ≡ V k) (sym is_o)
            (behind_mine o front (Made o e ∷ events) mine
            ∙ ap (λ l. front ++ l) (behind_mine o (Made o e ∷ []) events (refl, tt) ∙ ap (λ l. Made o e ∷ l) (subst (λ k. events_of k events ≡ now o later V k) is_o rest ∙ here_is o later V))
            ∙ sym cut_is)
        by false other =
            behind_others o d front (Made o e ∷ events) other mine ∙ behind_others o d (Made o e ∷ []) events other (refl, tt) ∙ rest ∙ there_is o d later V other
