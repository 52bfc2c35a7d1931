-- From what clients were told a trace is made: their lines and entries in one order.
use Rattle.store_scripts.{proofs.ThreadWords.{◌≡◌, ◌∙◌, sym, refl, ap, subst, ℕ, Bool, List, [], ◌∷◌, ◌++◌, append_assoc, append-nil, map, Option, Some, None, Ok, Err, AllByRecursion, Geometry, Line, Reply, Stop, Entry, ClientLines, Own, StopsAtLast, Walk, last_abort, Event, Made, Runs, Step, client_of, entries_in, lines_in, told_in}, specs.Trace.Done, proofs.OwnEntries.{AreOfOwn, of_own}, proofs.Events.entries_joined}

abbrev pub AreMine : ℕ → List Event → Type 0
AreMine c events = AllByRecursion (λ e. client_of e ≡ c) events

-- the entries of a client as events
abbrev pub made_all : ℕ → List Entry → List Event
made_all c es = map (λ e. Made c e) es

entries_made : (c : ℕ) (es : List Entry) (rest : List Event) → entries_in (made_all c es ++ rest) ≡ es ++ entries_in rest
entries_made c [] rest = refl
entries_made c (e ∷ es) rest = ap (λ l. e ∷ l) (entries_made c es rest)

lines_made : (c : ℕ) (es : List Entry) (rest : List Event) → lines_in (made_all c es ++ rest) ≡ lines_in rest
lines_made c [] rest = refl
lines_made c (e ∷ es) rest = lines_made c es rest

told_made : (c : ℕ) (es : List Entry) (rest : List Event) → told_in (made_all c es ++ rest) ≡ told_in rest
told_made c [] rest = refl
told_made c (e ∷ es) rest = told_made c es rest

mine_made : (c : ℕ) (es : List Entry) (rest : List Event) → AreMine c rest → AreMine c (made_all c es ++ rest)
mine_made c [] rest all = all
mine_made c (e ∷ es) rest all = (refl, mine_made c es rest all)

module _ (g : Geometry) (tells : Bool) (c : ℕ) where
  runs_made : (own : Option Own) (made es : List Entry) (rest : List Event) → AreOfOwn own made es → Runs g tells own (made ++ es) rest → Runs g tells own made (made_all c es ++ rest)
  runs_made own made [] rest of runs = subst (λ l. Runs g tells own l rest) (append-nil made) runs
  runs_made own made (e ∷ es) rest of runs =
      (of.0, runs_made own (made ++ e ∷ []) es rest of.1 (subst (λ l. Runs g tells own l rest) (sym (append_assoc made (e ∷ []) es)) runs))

  -- the events of lines that were answered
  record OfWalk (own : Option Own) (lines : List (ℕ × Line)) (F : List Entry) (told : List (ℕ × Reply)) (own' : Option Own) : Type 0 where
    pub events : List Event
    pub entries_are : entries_in events ≡ F
    pub lines_are : lines_in events ≡ lines
    pub told_are : told_in events ≡ told
    pub mine : AreMine c events
    pub runs : (tail : List Event) → Runs g tells own' [] tail → Runs g tells own [] (events ++ tail)

  walked : (own : Option Own) (lines : List (ℕ × Line)) (F : List Entry) (told : List (ℕ × Reply)) (own' : Option Own) → Walk g tells own lines F told own' → OfWalk own lines F told own'
  walked own [] F told own' w = record {
    events = [];
    entries_are = sym w.0;
    lines_are = refl;
    told_are = sym w.1;
    mine = tt;
    runs = λ tail runs. subst (λ o. Runs g tells o [] tail) w.2 runs;
  }
  walked own (l ∷ lines) F told own' (es, r, mid, G, rest, F_is, told_is, did, w) =
      let next = walked mid lines G rest own' w in
      let s : Step = record { line = l; reply = r; before = own; after = mid } in
      record {
        events = made_all c es ++ Done c s ∷ next.events;
        entries_are = entries_made c es (Done c s ∷ next.events) ∙ ap (λ v. es ++ v) next.entries_are ∙ sym F_is;
        lines_are = lines_made c es (Done c s ∷ next.events) ∙ ap (λ v. l ∷ v) next.lines_are;
        told_are = told_made c es (Done c s ∷ next.events) ∙ ap (λ v. (l.0, r) ∷ v) next.told_are ∙ sym told_is;
        mine = mine_made c es (Done c s ∷ next.events) (refl, next.mine);
        runs = λ tail runs.
            subst (Runs g tells own []) (sym (append_assoc (made_all c es) (Done c s ∷ next.events) tail))
            (runs_made own [] es (Done c s ∷ (next.events ++ tail)) (of_own g tells (Ok r) own l.1.op es mid did) (refl, did, next.runs tail runs));
      }

  -- the events of all that a client did
  pub record OfClient (lines : List (ℕ × Line)) (told : List (ℕ × Reply)) (F : List Entry) : Type 0 where
    pub events : List Event
    pub entries_are : entries_in events ≡ F
    pub told_are : told_in events ≡ told
    pub unanswered : List (ℕ × Line)
    pub ran : lines_in events ++ unanswered ≡ lines
    pub mine : AreMine c events
    pub runs : Runs g tells None [] events

  last_of_own : (own : Option Own) (made : List Entry) → AreOfOwn own made (last_abort own)
  last_of_own None made = tt
  last_of_own (Some t) made = (tt, tt)

  of_own_append : (own : Option Own) (made xs ys : List Entry) → AreOfOwn own made xs → ((made : List Entry) → AreOfOwn own made ys) → AreOfOwn own made (xs ++ ys)
  of_own_append own made [] ys one two = two made
  of_own_append own made (x ∷ xs) ys one two = (one.0, of_own_append own (made ++ x ∷ []) xs ys one.1 two)

  -- a client goes on after its lines with entries of its own transaction, and is not answered
  ended : (own : Option Own) (lines first others : List (ℕ × Line)) (told : List (ℕ × Reply)) (F walked_F es : List Entry) (o : OfWalk None first walked_F told own) → first ++ others ≡ lines → F ≡ walked_F ++ es → AreOfOwn own [] es → OfClient lines told F
  ended own lines first others told F walked_F es o are all of =
      let tail : List Event = made_all c es ++ [] in
      record {
        events = o.events ++ tail;
        entries_are = entries_joined o.events tail ∙ ap (λ v. v ++ entries_in tail) o.entries_are ∙ ap (λ v. walked_F ++ v) (entries_made c es [] ∙ append-nil es) ∙ sym all;
        told_are = told_joined o.events tail ∙ ap (λ v. v ++ told_in tail) o.told_are ∙ ap (λ v. told ++ v) (told_made c es []) ∙ append-nil told;
        unanswered = others;
        ran =
            ap (λ v. v ++ others) (lines_joined o.events tail ∙ ap (λ v. v ++ lines_in tail) o.lines_are ∙ ap (λ v. first ++ v) (lines_made c es []) ∙ append-nil first) ∙ are;
        mine = mine_joined o.events tail o.mine (mine_made c es [] tt);
        runs = o.runs tail (runs_made own [] es [] of tt);
      }
    where
      told_joined : (xs ys : List Event) → told_in (xs ++ ys) ≡ told_in xs ++ told_in ys
      told_joined [] ys = refl
      told_joined (Made d e ∷ xs) ys = told_joined xs ys
      told_joined (Done d s ∷ xs) ys = ap (λ l. (s.line.0, s.reply) ∷ l) (told_joined xs ys)

      lines_joined : (xs ys : List Event) → lines_in (xs ++ ys) ≡ lines_in xs ++ lines_in ys
      lines_joined [] ys = refl
      lines_joined (Made d e ∷ xs) ys = lines_joined xs ys
      lines_joined (Done d s ∷ xs) ys = ap (λ l. s.line ∷ l) (lines_joined xs ys)

      mine_joined : (xs ys : List Event) → AreMine c xs → AreMine c ys → AreMine c (xs ++ ys)
      mine_joined [] ys one two = two
      mine_joined (x ∷ xs) ys one two = (one.0, mine_joined xs ys one.1 two)

  pub client_events : (lines : List (ℕ × Line)) (told : List (ℕ × Reply)) (why : Option Stop) (F : List Entry) → ClientLines g tells lines told why F → OfClient lines told F
  client_events lines told None F is =
      ended is.own lines lines [] told F is.made (last_abort is.own) (walked None lines is.made told is.own is.ran) (append-nil lines) is.all (last_of_own is.own [])
  client_events lines told (Some w) F is =
      let s : StopsAtLast g tells lines told w is.made is.own = is.ran in
      let o = walked None s.first s.walked told s.mid s.walk in
      ended s.mid lines s.first (s.last ∷ []) told F s.walked (s.entries ++ last_abort is.own) o (sym s.are) (is.all ∙ ap (λ v. v ++ last_abort is.own) s.all ∙ append_assoc s.walked s.entries (last_abort is.own))
      (of_own_append s.mid [] s.entries (last_abort is.own) (of_own g tells (Err w) s.mid s.last.1.op s.entries is.own s.did) (λ made. aborted is.own made))
    where
      aborted : (own : Option Own) (made : List Entry) → AreOfOwn (StopsAtLast.mid is.ran) made (last_abort own)
      aborted None made = tt
      aborted (Some t) made = (tt, tt)
