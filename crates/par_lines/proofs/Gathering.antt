-- What the clients of a run were told, from what their steps did.
use Rattle.par_lines.proofs.Words.{◌≡◌, Bool, ⊎_elim, ℕ, zero, suc, ◌+◌, ◌<◌, cond, List, [], ◌∷◌, ◌++◌, Option, Some, None, length, take, map, reverse, get_or, refl, sym, ap, ◌∙◌, subst, arith, length-append, append_assoc, append-nil, map-append, reverse-append, take_at, slice_get, is_some, All, sum_by, Result, Ok, Err, get_or-append, get_or-append_seam, sum_by-append, sum_by-cons, Geometry, Line, Reply, Entry, Shared, Start, View, times, Go, Halt, Job, Went, Halted, JobRan, Part, Stop, EndsWith, Log, Moves, count, log_count, log_more, log_none, log_seen, moves_none, moves_on, Own, ClientLines, Did, Ran, StopsAtLast, Walk, last_abort, lines_of, lines_run, ParClient, IsClient, Stepped, Tells, part_of, units_in, AllTold, Finished, IsNew, IsPrefix, SessionState}
use Rattle.iso_shared.specs.declared.entry.Entry.TheVariants as entry

-- the entries of a session and its last abort
pub finish_log : (A : Start) (s : SessionState) (w : View Entry) (was : Option Own) → EndsWith A s was w → (F : List Entry) → Log (count s) s.seen F → Log (λ p. times p w.mine) w.seen (F ++ last_abort was)
finish_log A s w None h F l =
    subst (Log (λ p. times p w.mine) w.seen) (sym (append-nil F)) (subst (λ E. Log (λ p. times p w.mine) E F) (sym h.0) (log_count (count s) (λ p. times p w.mine) s.seen F h.1 l))
finish_log A s w (Some o) h F l = log_more (count s) (λ p. times p w.mine) s.seen h.before w.seen F (entry.Abort o.number) h.told h.known h.places l

-- what was told of a beginning is told of the list
pub told_seen : (A : Start) (lines : List (ℕ × Line)) (E G : List Entry) (parts : List Part) (count : ℕ → ℕ) → IsPrefix E G → AllTold A lines E parts count → AllTold A lines G parts count
told_seen A lines E G [] count pre t = t
told_seen A lines E G (q ∷ parts) count pre t = (t.0, t.1, t.2, (t.3.0, log_seen t.0 E G t.3.0 pre t.3.1, t.3.2), told_seen A lines E G parts t.1 pre t.4)

-- with one client more
told_snoc : (A : Start) (lines : List (ℕ × Line)) (E : List Entry) (parts : List Part) (q : Part) (count one count' : ℕ → ℕ) (F : List Entry) → AllTold A lines E parts count → Log one E F
    → ClientLines A.world.geometry A.tells (lines_run lines q) q.told q.stop F → ((p : ℕ) → count' p ≡ count p + one p) → AllTold A lines E (parts ++ q ∷ []) count'
told_snoc A lines E [] q count one count' F t log told sum = (one, λ p. 0, (λ p. let a = t p in let b = sum p in omega arith), (F, log, told), λ p. refl)
told_snoc A lines E (r ∷ parts) q count one count' F t log told sum =
    (t.0, λ p. t.1 p + one p, (λ p. let a = t.2 p in let b = sum p in omega arith), t.3, told_snoc A lines E parts q t.1 one (λ p. t.1 p + one p) F t.4 log told (λ p. refl))

walk_length : (g : Geometry) (tells : Bool) (was own' : Option Own) (ls : List (ℕ × Line)) (F : List Entry) (told : List (ℕ × Reply)) → Walk g tells was ls F told own' → length told ≡ length ls
walk_length g tells was own' [] F told w = ap length w.1
walk_length g tells was own' (l ∷ ls) F told w = ap length w.6 ∙ ap suc (walk_length g tells w.2 own' ls w.3 w.4 w.8)

-- one line more of a list
take_next : (n : ℕ) (ls : List (ℕ × Line)) (l : ℕ × Line) → slice_get ls n ≡ Some l → (take (n + 1) ls ≡ take n ls ++ l ∷ []) × (length (take n ls) ≡ n)
take_next n [] l is = absurd (none n is)
  where
    none : (n : ℕ) → slice_get {X = ℕ × Line} [] n ≡ Some l → ⊥
    none zero is = cc is
    none (suc n) is = cc is
take_next zero (x ∷ ls) l is = let same : x ≡ l = cc is in (ap (λ v. v ∷ []) same, refl)
take_next (suc n) (x ∷ ls) l is = let rest = take_next n ls l is in let e : suc n + 1 ≡ suc (n + 1) = omega arith in (ap (λ m. take m (x ∷ ls)) e ∙ ap (λ v. x ∷ v) rest.0, ap suc rest.1)

-- lines that were run to their end, and lines that ended in a stop
ran_all : (g : Geometry) (tells : Bool) (lines xs : List (ℕ × Line)) (q : Part) (made : List Entry) (own' : Option Own) → q.stop ≡ None → xs ≡ lines_of q.client lines → Walk g tells None xs made q.told own' → Ran g tells (lines_run lines q) q.told q.stop made own'
ran_all g tells lines xs q made own' is same walk =
    subst (λ st. Ran g tells (cond (is_some st) (take (length q.told + 1) (lines_of q.client lines)) (lines_of q.client lines)) q.told st made own') (sym is) (subst (λ l. Walk g tells None l made q.told own') same walk)

ran_stopped : (g : Geometry) (tells : Bool) (lines xs : List (ℕ × Line)) (q : Part) (why : Stop) (made : List Entry) (own' : Option Own) → q.stop ≡ Some why → xs ≡ lines_of q.client lines → StopsAtLast g tells (take (length q.told + 1) xs) q.told why made own'
    → Ran g tells (lines_run lines q) q.told q.stop made own'
ran_stopped g tells lines xs q why made own' is same stops =
    subst (λ st. Ran g tells (cond (is_some st) (take (length q.told + 1) (lines_of q.client lines)) (lines_of q.client lines)) q.told st made own') (sym is) (subst (λ l. StopsAtLast g tells (take (length q.told + 1) l) q.told why made own') same stops)

module _ {D O : Type 0} (A : Start) where
  -- what a client's steps did
  pub record Stretch (c : ParClient D O) (ls : List (ℕ × Line)) (d : ParClient D O) : Type 0 where
    pub of : d.session.device ≡ c.session.device
    pub made : List Entry
    pub texts : List (ℕ × Reply)
    pub moves : Moves c.session d.session made
    pub walk : Walk A.world.geometry A.tells c.session.own ls made texts d.session.own
    pub said : d.told.items ≡ c.told.items ++ texts
    pub stop : d.stop ≡ c.stop

  step_text : (c m : ParClient D O) (n : ℕ) (line : Line) (s : Stepped A c n line Go m) → (r : Reply) × (s.answer ≡ Ok r) × (m.told.items ≡ c.told.items ++ (n, r) ∷ []) × (m.stop ≡ c.stop)
  step_text c m n line s = by_answer s.answer refl s.tells
    where
      by_answer : (r : Result Reply Stop) → s.answer ≡ r → Tells Go n r c.told.items c.stop m.told.items m.stop → (r : Reply) × (s.answer ≡ Ok r) × (m.told.items ≡ c.told.items ++ (n, r) ∷ []) × (m.stop ≡ c.stop)
      by_answer (Ok r) is t = (r, is, t.0, t.1)
      by_answer (Err why) is t = absurd t

  step_stop : (c m : ParClient D O) (n : ℕ) (line : Line) (s : Stepped A c n line Halt m) → (why : Stop) × (s.answer ≡ Err why) × (m.told.items ≡ c.told.items) × (m.stop ≡ Some why)
  step_stop c m n line s = by_answer s.answer refl s.tells
    where
      by_answer : (r : Result Reply Stop) → s.answer ≡ r → Tells Halt n r c.told.items c.stop m.told.items m.stop → (why : Stop) × (s.answer ≡ Err why) × (m.told.items ≡ c.told.items) × (m.stop ≡ Some why)
      by_answer (Ok r) is t = absurd t
      by_answer (Err why) is t = (why, is, t.0, t.1)

  went_stretch : (c d : ParClient D O) (ls : List (ℕ × Line)) → Went (λ c n line flow d. Stepped A c n line flow d) c ls d → Stretch c ls d
  went_stretch c d [] went =
      subst (λ (z : ParClient D O). Stretch c [] z) (sym went) (record {
        of = refl;
        made = [];
        texts = [];
        moves = moves_none c.session;
        walk = (refl, refl, refl);
        said = sym (append-nil c.told.items);
        stop = refl;
      })
  went_stretch c d (l ∷ ls) went =
      let m : ParClient D O = went.0 in
      let s : Stepped A c l.0 l.1 Go m = went.1 in
      let rest : Stretch m ls d = went_stretch m d ls went.2 in
      let t = step_text c m l.0 l.1 s in
      let did : Did A.world.geometry A.tells c.session.own l.1.op s.made.entries (Ok t.0) m.session.own = subst (λ r. Did A.world.geometry A.tells c.session.own l.1.op s.made.entries r m.session.own) t.1 s.made.did in
      record {
        of = rest.of ∙ s.made.of;
        made = s.made.entries ++ rest.made;
        texts = (l.0, t.0) ∷ rest.texts;
        moves = moves_on c.session m.session d.session s.made.entries rest.made s.made.moves rest.moves;
        walk = (s.made.entries, t.0, m.session.own, rest.made, rest.texts, refl, refl, did, rest.walk);
        said = rest.said ∙ (ap (λ v. v ++ rest.texts) t.2 ∙ append_assoc c.told.items ((l.0, t.0) ∷ []) rest.texts);
        stop = rest.stop ∙ t.3;
      }

  texts_new : (c d : ParClient D O) (texts : List (ℕ × Reply)) → c.told.items ≡ [] → d.told.items ≡ c.told.items ++ texts → texts ≡ d.told.items
  texts_new c d texts none said = sym (said ∙ ap (λ l. l ++ texts) none)

  -- the walk of a client that was new
  walk_new : (c d : ParClient D O) (ls : List (ℕ × Line)) (s : Stretch c ls d) → c.session.own ≡ None → c.told.items ≡ [] → Walk A.world.geometry A.tells None ls s.made d.told.items d.session.own
  walk_new c d ls s none told =
      subst (λ v. Walk A.world.geometry A.tells None ls s.made v d.session.own) (texts_new c d s.texts told s.said) (subst (λ o. Walk A.world.geometry A.tells o ls s.made s.texts d.session.own) none s.walk)

  -- a job of a new client, after it was run
  pub finished_job : (l : Shared D O) (lines : List (ℕ × Line)) (j k : Job (ParClient D O)) → IsNew A l lines j → IsClient A k.client → JobRan (λ c n line flow d. Stepped A c n line flow d) j k → Finished A l lines k × (units_in k ≡ units_in j)
  finished_job l lines j k n fits r = ⊎_elim all halted r.ran
    where
      start : Log (count j.client.session) j.client.session.seen []
      start = log_none (count j.client.session) j.client.session.seen n.unmade

      own_lines : j.lines.items ≡ lines_of k.id lines
      own_lines = n.asked ∙ ap (λ c. lines_of c lines) (sym r.id)

      all : (k.done ≡ length j.lines.items) × Went (λ c n line flow d. Stepped A c n line flow d) j.client j.lines.items k.client → Finished A l lines k × (units_in k ≡ units_in j)
      all a =
          let s : Stretch j.client j.lines.items k.client = went_stretch j.client k.client j.lines.items a.1 in (
            record {
              device = s.of ∙ n.device;
              client = fits;
              made = s.made;
              log = s.moves.log [] start;
              ran = ran_all A.world.geometry A.tells lines j.lines.items (part_of k) s.made k.client.session.own (s.stop ∙ n.stop) own_lines (walk_new j.client k.client j.lines.items s n.none n.told);
            },
            s.moves.units,
          )

      halted : Halted (λ c n line flow d. Stepped A c n line flow d) j.client j.lines.items k.done k.client → Finished A l lines k × (units_in k ≡ units_in j)
      halted h =
          let s : Stretch j.client (take h.number j.lines.items) h.before = went_stretch j.client h.before (take h.number j.lines.items) h.went in
          let t : Stepped A h.before h.line.0 h.line.1 Halt k.client = h.halt in
          let stopped = step_stop h.before k.client h.line.0 h.line.1 t in
          let walk : Walk A.world.geometry A.tells None (take h.number j.lines.items) s.made h.before.told.items h.before.session.own = walk_new j.client h.before (take h.number j.lines.items) s n.none n.told in
          let next = take_next h.number j.lines.items h.line h.line_is in
          let size : length k.client.told.items ≡ h.number = ap length stopped.2 ∙ walk_length A.world.geometry A.tells None h.before.session.own (take h.number j.lines.items) s.made h.before.told.items walk ∙ next.1 in
          let both = moves_on j.client.session h.before.session k.client.session s.made t.made.entries s.moves t.made.moves in (
            record {
              device = t.made.of ∙ s.of ∙ n.device;
              client = fits;
              made = s.made ++ t.made.entries;
              log = both.log [] start;
              ran = ran_stopped A.world.geometry A.tells lines j.lines.items (part_of k) stopped.0 (s.made ++ t.made.entries) k.client.session.own stopped.3 own_lines (record {
                first = take h.number j.lines.items;
                last = h.line;
                are = ap (λ m. take (m + 1) j.lines.items) size ∙ next.0;
                walked = s.made;
                mid = h.before.session.own;
                walk = subst (λ v. Walk A.world.geometry A.tells None (take h.number j.lines.items) s.made v h.before.session.own) (sym stopped.2) walk;
                entries = t.made.entries;
                did = subst (λ v. Did A.world.geometry A.tells h.before.session.own h.line.1.op t.made.entries v k.client.session.own) stopped.1 t.made.did;
                all = refl;
              });
            },
            both.units,
          )

  -- one client more, whose port was joined
  pub gather_more : (l : Shared D O) (lines : List (ℕ × Line)) (j : Job (ParClient D O)) (v v' w : View Entry) (parts : List Part) → Finished A l lines j → EndsWith A j.client.session j.client.session.own w
      → IsPrefix v.seen v'.seen → IsPrefix w.seen v'.seen → ((p : ℕ) → times p v'.mine ≡ times p v.mine + times p w.mine) → AllTold A lines v.seen parts (λ p. times p v.mine)
      → AllTold A lines v'.seen (parts ++ part_of j ∷ []) (λ p. times p v'.mine)
  gather_more l lines j v v' w parts f ends pre pre' places told =
      told_snoc A lines v'.seen parts (part_of j) (λ p. times p v.mine) (λ p. times p w.mine) (λ p. times p v'.mine) (f.made ++ last_abort j.client.session.own) (told_seen A lines v.seen v'.seen parts (λ p. times p v.mine) pre told)
      (log_seen (λ p. times p w.mine) w.seen v'.seen (f.made ++ last_abort j.client.session.own) pre' (finish_log A j.client.session w j.client.session.own ends f.made f.log))
      (record { made = f.made; own = j.client.session.own; ran = f.ran; all = refl }) places

pub all_last : {X : Type 0} (P : X → Type 0) (xs ys : List X) (x : X) → xs ≡ ys ++ x ∷ [] → All P xs → P x × All P ys
all_last {X} P xs ys x e all =
    let a : All P (ys ++ x ∷ []) = subst (All P) e all in
    let len : length (ys ++ x ∷ []) ≡ length ys + 1 = length-append ys (x ∷ []) in (
      subst P (get_or-append_seam ys x [] x) (a (length ys) x (omega arith)),
      λ k d h. subst P (get_or-append ys (x ∷ []) d k h) (a k d (omega arith)),
    )

pub units_more : {X : Type 0} (f : X → ℕ) (xs ys : List X) (x : X) → xs ≡ ys ++ x ∷ [] → sum_by f xs ≡ sum_by f ys + f x
units_more f xs ys x e = ap (sum_by f) e ∙ (sum_by-append f ys (x ∷ []) ∙ (let a = sum_by-cons f x [] in let b : sum_by f [] ≡ 0 = refl in let g : sum_by f ys + sum_by f (x ∷ []) ≡ sum_by f ys + f x = omega arith in g))

pub joined_units : (x v w u rest all s : ℕ) → x ≡ v + w → w ≡ u → all ≡ rest + u → v + all ≡ s → x + rest ≡ s
joined_units x v w u rest all s a b c d = omega arith

map_same : {X Y : Type 0} (f : X → Y) (xs ys : List X) → length xs ≡ length ys → ((i : ℕ) (d : X) → i < length xs → f (get_or ys i d) ≡ f (get_or xs i d)) → map f xs ≡ map f ys
map_same f [] [] len each = refl
map_same f [] (y ∷ ys) len each = absurd (omega arith)
map_same f (x ∷ xs) [] len each = absurd (omega arith)
map_same f (x ∷ xs) (y ∷ ys) len each =
    let h : f y ≡ f x = each 0 x (omega arith) in
    let t = map_same f xs ys (omega arith) (λ i d lt. each (suc i) d (omega arith)) in
    ap (λ v. v ∷ map f xs) (sym h) ∙ ap (λ l. f y ∷ l) t

summed : {X : Type 0} (f : X → ℕ) (xs : List X) → sum_by f xs ≡ sum_by (λ n. n) (map f xs)
summed f [] = refl
summed f (x ∷ xs) = sum_by-cons f x xs ∙ ap (λ n. f x + n) (summed f xs) ∙ sym (sum_by-cons (λ n. n) (f x) (map f xs))

sum_same : {X : Type 0} (f : X → ℕ) (xs ys : List X) → length xs ≡ length ys → ((i : ℕ) (d : X) → i < length xs → f (get_or ys i d) ≡ f (get_or xs i d)) → sum_by f xs ≡ sum_by f ys
sum_same f xs ys len each = summed f xs ∙ ap (sum_by (λ n. n)) (map_same f xs ys len each) ∙ sym (summed f ys)

-- the clients of the parts, and those of the jobs that are left
pub clients_more : {K : Type 0} (all : List ℕ) (parts : List Part) (q : Part) (xs ys : List (Job K)) (x : Job K) → xs ≡ ys ++ x ∷ [] → q.client ≡ x.id → all ≡ map (λ p. p.client) parts ++ reverse (map (λ j. j.id) xs)
    → all ≡ map (λ p. p.client) (parts ++ q ∷ []) ++ reverse (map (λ j. j.id) ys)
clients_more all parts q xs ys x e key was =
    let turned : reverse (map (λ j. j.id) xs) ≡ x.id ∷ reverse (map (λ j. j.id) ys) = ap (λ l. reverse (map (λ j. j.id) l)) e ∙ (ap reverse (map-append (λ j. j.id) ys (x ∷ [])) ∙ reverse-append (map (λ j. j.id) ys) (x.id ∷ [])) in
    was ∙ (ap (λ l. map (λ p. p.client) parts ++ l) turned ∙ (sym (append_assoc (map (λ p. p.client) parts) (x.id ∷ []) (reverse (map (λ j. j.id) ys)))
    ∙ (ap (λ k. (map (λ p. p.client) parts ++ k ∷ []) ++ reverse (map (λ j. j.id) ys)) (sym key) ∙ ap (λ l. l ++ reverse (map (λ j. j.id) ys)) (sym (map-append (λ p. p.client) parts (q ∷ []))))))

module _ {D O : Type 0} (A : Start) where
  -- after a run of new clients all jobs are finished, with their units
  pub record Done (l : Shared D O) (lines : List (ℕ × Line)) (olds after : List (Job (ParClient D O))) : Type 0 where
    pub all : All (Finished A l lines) after
    pub units : sum_by units_in after ≡ sum_by units_in olds
    pub ids : map (λ j. j.id) after ≡ map (λ j. j.id) olds
    pub count : length after ≡ length olds

  pub jobs_done : (l : Shared D O) (lines : List (ℕ × Line)) (olds s news rest : List (Job (ParClient D O))) (n : ℕ) → s ≡ olds → length news ≡ length s → length s ≡ n → All (IsNew A l lines) olds → All (λ j. IsClient A j.client) news
      → ((i : ℕ) (d : Job (ParClient D O)) → i < length s → JobRan (λ c k line flow d. Stepped A c k line flow d) (get_or s i d) (get_or news i d)) → Done l lines olds (take n (news ++ rest))
  jobs_done l lines olds s news rest n same len len' fresh fits ran =
      let whole : take n (news ++ rest) ≡ news = take_at news rest n (len ∙ len') in
      let fresh' : All (IsNew A l lines) s = subst (All (IsNew A l lines)) (sym same) fresh in
      let each = λ (i : ℕ) (d : Job (ParClient D O)) (lt : i < length s). finished_job A l lines (get_or s i d) (get_or news i d) (fresh' i d lt) (fits i d (omega arith)) (ran i d lt) in
      let done : All (Finished A l lines) news = λ i d lt. (each i d (omega arith)).0 in
      record {
        all = subst (All (Finished A l lines)) (sym whole) done;
        units = ap (sum_by units_in) whole ∙ (sym (sum_same units_in s news (sym len) (λ i d lt. (each i d lt).1)) ∙ ap (sum_by units_in) same);
        ids = ap (map (λ j. j.id)) whole ∙ (sym (map_same (λ j. j.id) s news (sym len) (λ i d lt. (ran i d lt).id)) ∙ ap (map (λ j. j.id)) same);
        count = ap length whole ∙ len ∙ ap length same;
      }
