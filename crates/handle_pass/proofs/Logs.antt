-- The entries of a session, as it makes more.
use Rattle.handle_pass.proofs.{Words.{IsLegal, times, ◌≡◌, ℕ, ◌+◌, List, [], ◌∷◌, ◌++◌, get_or, length, refl, sym, ap, ◌∙◌, subst, append_assoc, arith, length-append, map-append, append-nil, get_or-append, get_or-append_seam, hit, AllBelow, prefix_length, prefix_self, prefix_trans, below_more, below_snoc, rises_snoc, times_append, Entry, Start, Port, View, port_view, Joined, Split, entries_at, AreNext, Log, Moves, MovesThrough, count, count_with, Made, Rested, IsPrefix, PassMade, SessionState}, Entering.{known_by, one_place}}
use Rattle.iso_shared.specs.declared.entry.Entry.TheVariants as entry

at_prefix : (xs E : List Entry) (ps : List ℕ) → IsPrefix xs E → AllBelow (length xs) ps → entries_at E ps ≡ entries_at xs ps
at_prefix xs E [] pre below = refl
at_prefix xs E (p ∷ ps) pre below =
    let here : get_or E p (entry.Abort 0) ≡ get_or xs p (entry.Abort 0) = sym (ap (λ l. get_or l p (entry.Abort 0)) pre.1) ∙ get_or-append xs pre.0 (entry.Abort 0) p below.0 in
    ap (λ e. e ∷ entries_at E ps) here ∙ ap (λ l. get_or xs p (entry.Abort 0) ∷ l) (at_prefix xs E ps pre below.1)

-- a log of a beginning is one of the list
pub log_seen : (count : ℕ → ℕ) (xs E F : List Entry) → IsPrefix xs E → Log count xs F → Log count E F
log_seen count xs E F pre l = record {
  places = l.places;
  rises = l.rises;
  below = below_more (length xs) (length E) l.places (prefix_length xs E pre) l.below;
  counts = l.counts;
  reads = at_prefix xs E l.places pre l.below ∙ l.reads;
}

pub log_count : (count after : ℕ → ℕ) (E F : List Entry) → ((p : ℕ) → after p ≡ count p) → Log count E F → Log after E F
log_count count after E F same l = record {
  places = l.places;
  rises = l.rises;
  below = l.below;
  counts = λ p. l.counts p ∙ sym (same p);
  reads = l.reads;
}

-- no place
pub log_none : (count : ℕ → ℕ) (E : List Entry) → ((p : ℕ) → count p ≡ 0) → Log count E []
log_none count E none = record { places = []; rises = tt; below = tt; counts = λ p. sym (none p); reads = refl }

-- one entry more, after all that was seen
pub log_more : (count after : ℕ → ℕ) (xs before ys F : List Entry) (e : Entry) → IsPrefix xs before → IsPrefix (before ++ e ∷ []) ys
    → ((p : ℕ) → after p ≡ count p + hit (length before) p) → Log count xs F → Log after ys (F ++ e ∷ [])
log_more count after xs before ys F e pre more counts l =
    let n : ℕ = length before in
    let len : length (before ++ e ∷ []) ≡ n + 1 = length-append before (e ∷ []) in
    let most = prefix_length (before ++ e ∷ []) ys more in
    let below : AllBelow n l.places = below_more (length xs) n l.places (prefix_length xs before pre) l.below in
    let first : IsPrefix xs ys = prefix_trans xs before ys pre (prefix_trans before (before ++ e ∷ []) ys (e ∷ [], refl) more) in
    let seam : get_or ys n (entry.Abort 0) ≡ e =
    sym (ap (λ l. get_or l n (entry.Abort 0)) more.1) ∙ (get_or-append (before ++ e ∷ []) more.0 (entry.Abort 0) n (omega arith) ∙ get_or-append_seam before e [] (entry.Abort 0)) in
    record {
      places = l.places ++ n ∷ [];
      rises = rises_snoc 0 n l.places (omega arith) l.rises below;
      below = below_more (n + 1) (length ys) (l.places ++ n ∷ []) (omega arith) (below_snoc n l.places below);
      counts = λ p. (let a = times_append p l.places (n ∷ []) in let b = l.counts p in let c = counts p in omega arith);
      reads = map-append (λ p. get_or ys p (entry.Abort 0)) l.places (n ∷ []) ∙ (ap (λ v. v ++ get_or ys n (entry.Abort 0) ∷ []) (at_prefix xs ys l.places first l.below ∙ l.reads) ∙ ap (λ v. F ++ v ∷ []) seam);
    }

-- an entry that a session made is the next one of its log
pub moves_made : (A : Start) (s t : SessionState) (e : Entry) → Made A s t e → Moves s t (e ∷ [])
moves_made A s t e m = record {
  known = prefix_trans s.seen m.entered.before t.seen m.entered.told (prefix_trans m.entered.before (m.entered.before ++ e ∷ []) t.seen (e ∷ [], refl) m.entered.known);
  log = λ F l. log_more (count s) (count t) s.seen m.entered.before t.seen F e m.entered.told m.entered.known m.entered.places l;
  units = m.units;
}

-- a session that made none keeps its log
pub moves_rested : (s t : SessionState) → Rested s t → Moves s t []
moves_rested s t r = record {
  known = subst (λ l. IsPrefix s.seen l) (sym r.known) (prefix_self s.seen);
  log = λ F l. subst (Log (count t) t.seen) (sym (append-nil F)) (subst (λ E. Log (count t) E F) (sym r.known) (log_count (count s) (count t) s.seen F r.places l));
  units = r.units;
}

pub moves_none : (s : SessionState) → Moves s s []
moves_none s = record { known = prefix_self s.seen; log = λ F l. subst (Log (count s) s.seen) (sym (append-nil F)) l; units = refl }

-- what was made in two calls
pub moves_on : (s t u : SessionState) (es ds : List Entry) → Moves s t es → Moves t u ds → Moves s u (es ++ ds)
moves_on s t u es ds m n = record {
  known = prefix_trans s.seen t.seen u.seen m.known n.known;
  log = λ F l. subst (Log (count u) u.seen) (append_assoc F es ds) (n.log (F ++ es) (m.log F l));
  units = n.units ∙ m.units;
}

-- what was made in two stretches
pub next_on : (A : Start) (xs ys zs : List Entry) (mine now after : ℕ → ℕ) (es ds : List Entry) → AreNext A xs mine es ys now → AreNext A ys now ds zs after → AreNext A xs mine (es ++ ds) zs after
next_on A xs ys zs mine now after [] [] first second = (prefix_trans xs ys zs first.0 second.0, λ p. second.1 p ∙ first.1 p)
next_on A xs ys zs mine now after [] (d ∷ ds) first second =
    let m = second.2 in (
      second.0,
      second.1,
      record {
        before = m.before;
        told = prefix_trans xs ys m.before first.0 m.told;
        known = m.known;
        legal = m.legal;
        places = λ p. (let a = m.places p in let b = first.1 p in omega arith);
      },
      second.3,
    )
next_on A xs ys zs mine now after (e ∷ es) ds first second = (first.0, first.1, first.2, next_on A first.0 ys zs first.1 now after es ds first.3 second)

-- the own places may be counted in another way
pub next_same : (A : Start) (xs ys : List Entry) (mine other after : ℕ → ℕ) (es : List Entry) → ((p : ℕ) → other p ≡ mine p) → AreNext A xs mine es ys after → AreNext A xs other es ys after
next_same A xs ys mine other after [] same is = (is.0, λ p. is.1 p ∙ sym (same p))
next_same A xs ys mine other after (e ∷ es) same is = (
  is.0,
  is.1,
  record {
    before = is.2.before;
    told = is.2.told;
    known = is.2.known;
    legal = is.2.legal;
    places = λ p. is.2.places p ∙ ap (λ (n : ℕ). n + hit (length is.2.before) p) (sym (same p));
  },
  is.3,
)

-- other own places stay
next_beside : (A : Start) (xs ys : List Entry) (others mine after : ℕ → ℕ) (es : List Entry) → AreNext A xs mine es ys after → AreNext A xs (λ p. others p + mine p) es ys (λ p. others p + after p)
next_beside A xs ys others mine after [] is = (is.0, λ p. ap (λ (n : ℕ). others p + n) (is.1 p))
next_beside A xs ys others mine after (e ∷ es) is = (
  is.0,
  (λ p. others p + is.1 p),
  record {
    before = is.2.before;
    told = is.2.told;
    known = is.2.known;
    legal = is.2.legal;
    places = λ p. (let a = is.2.places p in omega arith);
  },
  next_beside A is.0 ys others is.1 after es is.3,
)

-- what was seen before is seen afterwards
pub next_prefix : (A : Start) (xs ys : List Entry) (mine after : ℕ → ℕ) (es : List Entry) → AreNext A xs mine es ys after → IsPrefix xs ys
next_prefix A xs ys mine after [] is = is.0
next_prefix A xs ys mine after (e ∷ es) is =
    prefix_trans xs is.2.before ys is.2.told
    (prefix_trans is.2.before (is.2.before ++ e ∷ []) ys (e ∷ [], refl) (prefix_trans (is.2.before ++ e ∷ []) is.0 ys is.2.known (next_prefix A is.0 ys is.1 after es is.3)))

-- entries made one after the other are the next ones of a log
pub log_all : (A : Start) (xs : List Entry) (mine : ℕ → ℕ) (es ys : List Entry) (after : ℕ → ℕ) (F : List Entry) → AreNext A xs mine es ys after → Log mine xs F → Log after ys (F ++ es)
log_all A xs mine [] ys after F is l = subst (Log after ys) (sym (append-nil F)) (log_seen after xs ys F is.0 (log_count mine after xs F is.1 l))
log_all A xs mine (e ∷ es) ys after F is l =
    let m = is.2 in
    subst (Log after ys) (append_assoc F (e ∷ []) es) (log_all A is.0 is.1 es ys after (F ++ e ∷ []) is.3 (log_more mine is.1 xs m.before is.0 F e m.told m.known m.places l))

-- an entry that a session made is the next one
pub next_made : (A : Start) (s t : SessionState) (e : Entry) → Made A s t e → AreNext A s.seen (count s) (e ∷ []) t.seen (count t)
next_made A s t e m = (
  t.seen,
  count t,
  record { before = m.entered.before; told = m.entered.told; known = m.entered.known; legal = m.entered.legal; places = m.entered.places },
  (prefix_self t.seen, λ p. refl),
)

-- a session that made none
pub next_rested : (A : Start) (s t : SessionState) → Rested s t → AreNext A s.seen (count s) [] t.seen (count t)
next_rested A s t r = (subst (λ l. IsPrefix s.seen l) (sym r.known) (prefix_self s.seen), r.places)

-- a port that has just been split off has no place: a log of the session is one of the two
pub log_split : {D O : Type 0} (s t : SessionState) (q : Port D O) (F : List Entry) → Split s q t → Log (count s) s.seen F → Log (count_with t (port_view q)) (port_view q).seen F
log_split s t q F cut l =
    subst (λ E. Log (count_with t (port_view q)) E F) (sym cut.told)
    (log_count (count s) (count_with t (port_view q)) s.seen F (λ p. let a = cut.places p in let b = cut.none p in omega arith) l)

-- entries that were made through the port are the next ones of the two
pub through_next : (A : Start) (s : SessionState) (v w : View Entry) (es : List Entry) → AreNext A v.seen (λ p. times p v.mine) es w.seen (λ p. times p w.mine) → MovesThrough s v w es
through_next A s v w es is = record {
  known = next_prefix A v.seen w.seen (λ p. times p v.mine) (λ p. times p w.mine) es is;
  log = λ F l. log_all A v.seen (count_with s v) es w.seen (count_with s w) F (next_beside A v.seen w.seen (count s) (λ p. times p v.mine) (λ p. times p w.mine) es is) l;
}

pub through_made : (A : Start) (s : SessionState) (v w : View Entry) (e : Entry) → PassMade A v v e w → MovesThrough s v w (e ∷ [])
through_made A s v w e m =
    through_next A s v w (e ∷ []) (
      w.seen,
      (λ p. times p w.mine),
      record {
        before = m.before;
        told = m.told;
        known = known_by m.before w.seen w.seen e m.seen (prefix_self w.seen);
        legal = subst (λ l. IsLegal A l) m.seen m.legal;
        places = λ p. one_place A v v w e m p;
      },
      (prefix_self w.seen, λ p. refl),
    )

pub through_none : (s : SessionState) (v : View Entry) → MovesThrough s v v []
through_none s v = record { known = prefix_self v.seen; log = λ F l. subst (Log (count_with s v) v.seen) (sym (append-nil F)) l }

pub through_on : (s : SessionState) (v w u : View Entry) (es ds : List Entry) → MovesThrough s v w es → MovesThrough s w u ds → MovesThrough s v u (es ++ ds)
through_on s v w u es ds m n = record {
  known = prefix_trans v.seen w.seen u.seen m.known n.known;
  log = λ F l. subst (Log (count_with s u) u.seen) (append_assoc F es ds) (n.log (F ++ es) (m.log F l));
}

-- once the port is joined back, they are the next ones of the session
pub moves_joined : {D O : Type 0} (s t u : SessionState) (q r : Port D O) (es : List Entry) → Split s q t → MovesThrough t (port_view q) (port_view r) es → Joined t r u → (port_view r).units ≡ 32 → Moves s u es
moves_joined s t u q r es cut m joined all = record {
  known = subst (λ l. IsPrefix l u.seen) cut.known joined.known;
  log = λ F l.
      log_seen (count u) (port_view r).seen u.seen (F ++ es) joined.told
      (log_count (count_with t (port_view r)) (count u) (port_view r).seen (F ++ es) joined.places (m.log F (log_split s t q F cut l)));
  units = joined.more ∙ (ap (λ (n : ℕ). t.units + n) all ∙ cut.less);
}
