-- Places that are dealt among clients: each place has one owner, and a client's entries are those at its places.
use Rattle.par_script.{proofs.Words.{◌≡◌, ℕ, zero, suc, ◌+◌, ◌<◌, ◌≤◌, ◌==◌, ◌||◌, Bool, true, false, nat_lt, cond, List, [], ◌∷◌, ◌++◌, get_or, length, map, refl, sym, ap, ◌∙◌, subst, append_assoc, arith, length-append, eq-eqb, length-map, filter, AllByRecursion, list_any, eqb-true, nat_tests, get_or-append_seam, hit, times, total, AreDistinct, RisesFrom, count_up, places, rises_less, times_before, hit_same, hit_other, Entry, entries_of}, specs.Told.{clients_in, has_line}}
use Rattle.std.specs.List.{range_with_len}
use Rattle.script_model.specs.declared.script.Line.{Line}

-- clients, each with its places
abbrev pub Dealt : Type 0
Dealt = List (ℕ × List ℕ)

abbrev pub dealt_times : Dealt → ℕ → ℕ
dealt_times logs p = total (λ l. times p l.1) logs

-- the first client that has the place
abbrev pub owner : Dealt → ℕ → ℕ
owner [] p = 0
owner (l ∷ logs) p = cond (nat_lt 0 (times p l.1)) l.0 (owner logs p)

-- how often the place is one of this client's
abbrev own_times : ℕ → Dealt → ℕ → ℕ
own_times c logs p = total (λ l. cond (l.0 == c) (times p l.1) 0) logs

-- a number, or none
abbrev if_so : Bool → ℕ → ℕ
if_so b n = cond b n 0

own_few : (c : ℕ) (logs : Dealt) (p : ℕ) → own_times c logs p ≤ dealt_times logs p
own_few c [] p = omega arith
own_few c (l ∷ logs) p = by (l.0 == c) (own_few c logs p)
  where
    by : (b : Bool) → own_times c logs p ≤ dealt_times logs p → cond b (times p l.1) 0 + own_times c logs p ≤ times p l.1 + dealt_times logs p
    by true ih = omega arith
    by false ih = omega arith

-- the place is its owner's
owner_times : (c : ℕ) (logs : Dealt) (p : ℕ) → dealt_times logs p ≤ 1 → cond (owner logs p == c) (dealt_times logs p) 0 ≡ own_times c logs p
owner_times c [] p few = by (0 == c)
  where
    by : (b : Bool) → if_so b 0 ≡ 0
    by true = refl
    by false = refl
owner_times c (l ∷ logs) p few = here (nat_lt 0 (times p l.1)) refl (λ less. owner_times c logs p less)
  where
    first : (b : Bool) (t rest other : ℕ) → t ≡ 1 → rest ≡ 0 → other ≡ 0 → cond b (t + rest) 0 ≡ cond b t 0 + other
    first true t rest other one none never = omega arith
    first false t rest other one none never = omega arith

    later : (b d : Bool) (t rest other : ℕ) → t ≡ 0 → cond b rest 0 ≡ other → cond b (t + rest) 0 ≡ cond d t 0 + other
    later true true t rest other none same = omega arith
    later true false t rest other none same = omega arith
    later false true t rest other none same = omega arith
    later false false t rest other none same = omega arith

    here : (b : Bool) → nat_lt 0 (times p l.1) ≡ b → (dealt_times logs p ≤ 1 → cond (owner logs p == c) (dealt_times logs p) 0 ≡ own_times c logs p) → cond (cond b l.0 (owner logs p) == c) (times p l.1 + dealt_times logs p) 0 ≡ cond (l.0 == c) (times p l.1) 0 + own_times c logs p
    here true is ih =
        let some : 0 < times p l.1 = grind (arith, nat_tests) in
        let small = own_few c logs p in
        first (l.0 == c) (times p l.1) (dealt_times logs p) (own_times c logs p) (omega (arith, few, some)) (omega (arith, few, some)) (omega (arith, few, some, small))
    here false is ih =
        let none : times p l.1 ≡ 0 = grind (arith, nat_tests) in
        later (owner logs p == c) (l.0 == c) (times p l.1) (dealt_times logs p) (own_times c logs p) none (ih (omega (arith, few, none)))

abbrev ids : Dealt → List ℕ
ids logs = map (λ l. l.0) logs

abbrev one_if : Bool → ℕ
one_if b = cond b 1 0

cond_hit : (b : Bool) (t : ℕ) → one_if b ≡ 0 → cond b t 0 ≡ 0
cond_hit true t none = absurd (cc none)
cond_hit false t none = refl

-- a client that is not among them has no place
no_times : (c : ℕ) (logs : Dealt) (p : ℕ) → times c (ids logs) ≡ 0 → own_times c logs p ≡ 0
no_times c [] p none = refl
no_times c (l ∷ logs) p none =
    let other = no_times c logs p (omega arith) in
    let this : cond (l.0 == c) (times p l.1) 0 ≡ 0 = cond_hit (l.0 == c) (times p l.1) (omega arith) in
    omega arith

-- each client's places are its own
abbrev AreOwn : Dealt → ℕ × List ℕ → Type 0
AreOwn logs l = (p : ℕ) → own_times l.0 logs p ≡ times p l.1

all_own : (logs : Dealt) → AreDistinct (ids logs) → AllByRecursion (AreOwn logs) logs
all_own [] apart = tt
all_own (l ∷ logs) apart = (here, behind logs apart.0 (all_own logs apart.1))
  where
    same : (b : Bool) (t : ℕ) → b ≡ true → cond b t 0 ≡ t
    same true t is = refl
    same false t is = absurd (cc is)

    here : AreOwn (l ∷ logs) l
    here p =
        let none = no_times l.0 logs p apart.0 in
        let this : cond (l.0 == l.0) (times p l.1) 0 ≡ times p l.1 = same (l.0 == l.0) (times p l.1) (eq-eqb l.0 l.0 refl) in
        omega arith

    behind : (rest : Dealt) → times l.0 (ids rest) ≡ 0 → AllByRecursion (AreOwn logs) rest → AllByRecursion (AreOwn (l ∷ logs)) rest
    behind [] none all = tt
    behind (m ∷ rest) none all = (
      λ p.
          let other : cond (l.0 == m.0) (times p l.1) 0 ≡ 0 = cond_hit (l.0 == m.0) (times p l.1) (swapped m.0 (omega arith)) in
          let own = all.0 p in
          omega arith,
      behind rest (omega arith) all.1,
    )
      where
        swapped : (n : ℕ) → hit n l.0 ≡ 0 → hit l.0 n ≡ 0
        swapped n none = by (l.0 == n) refl
          where
            by : (b : Bool) → (l.0 == n) ≡ b → one_if b ≡ 0
            by false is = refl
            by true is = let e : l.0 ≡ n = eqb-true l.0 n is in absurd (let h : hit n l.0 ≡ 1 = hit_same n l.0 (sym e) in omega (arith, none, h))

-- two rising lists with the same numbers are one list
same_rising : (k : ℕ) (xs ys : List ℕ) → RisesFrom k xs → RisesFrom k ys → ((p : ℕ) → times p xs ≡ times p ys) → xs ≡ ys
same_rising k [] [] r s same = refl
same_rising k [] (y ∷ ys) r s same = let e = same y in let h = hit_same y y refl in absurd (omega arith)
same_rising k (x ∷ xs) [] r s same = let e = same x in let h = hit_same x x refl in absurd (omega arith)
same_rising k (x ∷ xs) (y ∷ ys) r s same = one (heads (nat_lt x y) (nat_lt y x) refl refl) (λ e rest. same_rising (suc x) xs ys r.1 (subst (λ v. RisesFrom (suc v) ys) (sym e) s.1) rest)
  where
    heads : (b d : Bool) → nat_lt x y ≡ b → nat_lt y x ≡ d → x ≡ y
    heads true d lt gt =
        let less : x < y = grind (arith, nat_tests) in
        let e = same x in
        let h = hit_same x x refl in
        let none = times_before y x (y ∷ ys) less (let le : y ≤ y = omega arith in (le, s.1)) in
        absurd (omega arith)
    heads false true lt gt =
        let less : y < x = grind (arith, nat_tests) in
        let e = same y in
        let h = hit_same y y refl in
        let none = times_before x y (x ∷ xs) less (let le : x ≤ x = omega arith in (le, r.1)) in
        absurd (omega arith)
    heads false false lt gt = grind (arith, nat_tests)

    one : x ≡ y → (x ≡ y → ((p : ℕ) → times p xs ≡ times p ys) → xs ≡ ys) → x ∷ xs ≡ y ∷ ys
    one e more =
        let tail : xs ≡ ys = more e (λ p. (let a = same p in let b : hit x p ≡ hit y p = ap (λ v. hit v p) e in omega arith)) in
        λ j. e j ∷ tail j

-- some of the numbers of a list
times_filter : (q : ℕ → Bool) (p : ℕ) (xs : List ℕ) → times p (filter q xs) ≡ cond (q p) (times p xs) 0
times_filter q p [] = by (q p)
  where
    by : (b : Bool) → 0 ≡ if_so b 0
    by true = refl
    by false = refl
times_filter q p (x ∷ xs) = by (q x) (q p) refl refl (times_filter q p xs)
  where
    other : (a b : Bool) → q x ≡ a → q p ≡ b → (a ≡ b → ⊥) → hit x p ≡ 0
    other a b is at differ = hit_other x p (λ e. differ (sym is ∙ ap q e ∙ at))

    by : (a b : Bool) → q x ≡ a → q p ≡ b → times p (filter q xs) ≡ cond b (times p xs) 0 → times p (cond a (x ∷ filter q xs) (filter q xs)) ≡ cond b (hit x p + times p xs) 0
    by true true is at ih = ap (λ n. hit x p + n) ih
    by true false is at ih = let h = other true false is at (λ e. cc e) in omega arith
    by false true is at ih = let h = other false true is at (λ e. cc e) in omega arith
    by false false is at ih = ih

rises_filter : (q : ℕ → Bool) (k : ℕ) (xs : List ℕ) → RisesFrom k xs → RisesFrom k (filter q xs)
rises_filter q k [] r = tt
rises_filter q k (x ∷ xs) r = by (q x) (rises_filter q (suc x) xs r.1)
  where
    by : (b : Bool) → RisesFrom (suc x) (filter q xs) → RisesFrom k (cond b (x ∷ filter q xs) (filter q xs))
    by true rest = (r.0, rest)
    by false rest = rises_less k (suc x) (filter q xs) (let le = r.0 in omega arith) rest

rises_range : (k n : ℕ) → RisesFrom k (range_with_len k n)
rises_range k zero = tt
rises_range k (suc n) = let next : suc k ≡ k + 1 = omega arith in (omega arith, subst (λ m. RisesFrom (suc k) (range_with_len m n)) next (rises_range (suc k) n))

-- the clients that have a line rise
pub clients_rise : (lines : List (ℕ × Line)) → RisesFrom 1 (clients_in lines)
clients_rise lines = rises_filter (has_line lines) 1 (range_with_len 1 64) (rises_range 1 64)

count_rises : (k m : ℕ) → RisesFrom k (count_up k m)
count_rises k zero = tt
count_rises k (suc m) = (omega arith, count_rises (suc k) m)

pub count_once : (k m p : ℕ) → times p (count_up k m) ≤ 1
count_once k zero p = omega arith
count_once k (suc m) p = by (k == p) refl (count_once (suc k) m p)
  where
    one : hit k p ≤ 1
    one = hit_few (k == p)
      where
        hit_few : (b : Bool) → one_if b ≤ 1
        hit_few true = omega arith
        hit_few false = omega arith

    by : (b : Bool) → (k == p) ≡ b → times p (count_up (suc k) m) ≤ 1 → hit k p + times p (count_up (suc k) m) ≤ 1
    by true is ih =
        let e : k ≡ p = eqb-true k p is in
        let none = times_before (suc k) p (count_up (suc k) m) (omega arith) (count_rises (suc k) m) in
        let few = one in
        omega arith
    by false is ih = let none : hit k p ≡ 0 = ap one_if is in omega arith

-- the list, read at the places that are counted up
entries_by : (d : Entry) (E front : List Entry) (f : ℕ → ℕ) (c k m : ℕ) (es : List Entry) → E ≡ front ++ es → length front ≡ k → length es ≡ m
    → entries_of c (map f (count_up k m)) es ≡ map (λ p. get_or E p d) (filter (λ p. f p == c) (count_up k m))
entries_by d E front f c k zero [] is at size = refl
entries_by d E front f c k zero (e ∷ es) is at size = absurd (omega arith)
entries_by d E front f c k (suc m) [] is at size = absurd (omega arith)
entries_by d E front f c k (suc m) (e ∷ es) is at size =
    by (f k == c) (entries_by d E (front ++ e ∷ []) f c (suc k) m es (is ∙ sym (append_assoc front (e ∷ []) es)) (let l = length-append front (e ∷ []) in omega arith) (omega arith))
  where
    here : get_or E k d ≡ e
    here = ap (λ l. get_or l k d) is ∙ ap (λ n. get_or (front ++ e ∷ es) n d) (sym at) ∙ get_or-append_seam front e es d

    by : (b : Bool) → entries_of c (map f (count_up (suc k) m)) es ≡ map (λ p. get_or E p d) (filter (λ p. f p == c) (count_up (suc k) m))
        → cond b (e ∷ entries_of c (map f (count_up (suc k) m)) es) (entries_of c (map f (count_up (suc k) m)) es)
        ≡ map (λ p. get_or E p d) (cond b (k ∷ filter (λ p. f p == c) (count_up (suc k) m)) (filter (λ p. f p == c) (count_up (suc k) m)))
    by true rest = λ j. sym here j ∷ rest j
    by false rest = rest

-- Where the clients have each place once between them, and each client's rise, there are owners of the entries with which each
-- client's entries are those at its places.
abbrev pub owners_of : Dealt → List Entry → List ℕ
owners_of logs E = map (owner logs) (places (length E))

abbrev pub AreRising : Dealt → Type 0
AreRising logs = AllByRecursion (λ l. RisesFrom 0 l.1) logs

abbrev pub ReadsAt : (d : Entry) → List Entry → List ℕ → ℕ × List ℕ → Type 0
ReadsAt d E owners l = entries_of l.0 owners E ≡ map (λ p. get_or E p d) l.1

pub dealt_entries : (d : Entry) (E : List Entry) (logs : Dealt) → AreDistinct (map (λ l. l.0) logs) → AreRising logs
    → ((p : ℕ) → dealt_times logs p ≡ times p (places (length E))) → AllByRecursion (ReadsAt d E (owners_of logs E)) logs
dealt_entries d E logs apart rising once = each logs rising (all_own logs apart)
  where
    one : (c : ℕ) (ps : List ℕ) → RisesFrom 0 ps → ((p : ℕ) → own_times c logs p ≡ times p ps) → filter (λ p. owner logs p == c) (places (length E)) ≡ ps
    one c ps rises own =
        same_rising 0 (filter (λ p. owner logs p == c) (places (length E))) ps (rises_filter (λ p. owner logs p == c) 0 (places (length E)) (count_rises 0 (length E))) rises
        (λ p. times_filter (λ q. owner logs q == c) p (places (length E)) ∙ ap (λ n. if_so (owner logs p == c) n) (sym (once p))
        ∙ owner_times c logs p (let few = count_once 0 (length E) p in let e = once p in omega arith) ∙ own p)

    each : (rest : Dealt) → AreRising rest → AllByRecursion (AreOwn logs) rest → AllByRecursion (ReadsAt d E (owners_of logs E)) rest
    each [] r all = tt
    each (l ∷ rest) r all =
        (entries_by d E [] (owner logs) l.0 0 (length E) E refl refl refl ∙ ap (map (λ p. get_or E p d)) (one l.0 l.1 r.0 all.0), each rest r.1 all.1)

pub length-owners : (logs : Dealt) (E : List Entry) → length (owners_of logs E) ≡ length E
length-owners logs E = length-map (places (length E)) (owner logs) ∙ counted 0 (length E)
  where
    counted : (k m : ℕ) → length (count_up k m) ≡ m
    counted k zero = refl
    counted k (suc m) = let rest = counted (suc k) m in omega arith

apart : (k p : ℕ) → k ≤ p → (k ≡ p → ⊥) → suc k ≤ p
apart k p from differ = strict (nat_lt k p) refl
  where
    strict : (b : Bool) → nat_lt k p ≡ b → suc k ≤ p
    strict true is = grind (arith, nat_tests)
    strict false is = absurd (differ (let le : p ≤ k = grind (arith, nat_tests) in omega arith))

-- each owner is one of the clients
pub owned_by : (logs : Dealt) (E : List Entry) → ((p : ℕ) → dealt_times logs p ≡ times p (places (length E))) → AllByRecursion (λ o. list_any (λ l. l.0 == o) logs ≡ true) (owners_of logs E)
owned_by logs E once = each 0 (length E) (λ p from to. (let e = once p in let f : times p (places (length E)) ≡ 1 = counted 0 (length E) p from to in omega (arith, e, f)))
  where
    counted : (k m p : ℕ) → k ≤ p → p < k + m → times p (count_up k m) ≡ 1
    counted k zero p from to = absurd (omega arith)
    counted k (suc m) p from to = by (k == p) refl (λ above. counted (suc k) m p above (omega arith))
      where
        by : (b : Bool) → (k == p) ≡ b → (suc k ≤ p → times p (count_up (suc k) m) ≡ 1) → hit k p + times p (count_up (suc k) m) ≡ 1
        by true is ih =
            let e : k ≡ p = eqb-true k p is in
            let one = hit_same k p e in
            let none = times_before (suc k) p (count_up (suc k) m) (omega arith) (count_rises (suc k) m) in
            omega arith
        by false is ih =
            let none : hit k p ≡ 0 = ap one_if is in
            let differ : k ≡ p → ⊥ = λ e. cc (sym is ∙ eq-eqb k p e) in
            let rest = ih (apart k p from differ) in
            omega arith

    or_true : (b : Bool) → (b || true) ≡ true
    or_true true = refl
    or_true false = refl

    among : (logs : Dealt) (p : ℕ) → 0 < dealt_times logs p → list_any (λ l. l.0 == owner logs p) logs ≡ true
    among [] p some = absurd (omega arith)
    among (l ∷ logs) p some = by (nat_lt 0 (times p l.1)) refl (λ more. among logs p more)
      where
        by : (b : Bool) → nat_lt 0 (times p l.1) ≡ b → (0 < dealt_times logs p → list_any (λ m. m.0 == owner logs p) logs ≡ true)
            → ((l.0 == cond b l.0 (owner logs p)) || list_any (λ m. m.0 == cond b l.0 (owner logs p)) logs) ≡ true
        by true is ih = ap (λ b. b || list_any (λ m. m.0 == l.0) logs) (eq-eqb l.0 l.0 refl)
        by false is ih =
            let none : times p l.1 ≡ 0 = grind (arith, nat_tests) in
            ap (λ b. (l.0 == owner logs p) || b) (ih (omega (arith, none, some))) ∙ or_true (l.0 == owner logs p)

    each : (k m : ℕ) → ((p : ℕ) → k ≤ p → p < k + m → 0 < dealt_times logs p) → AllByRecursion (λ o. list_any (λ l. l.0 == o) logs ≡ true) (map (owner logs) (count_up k m))
    each k zero some = tt
    each k (suc m) some = (among logs k (some k (omega arith) (omega arith)), each (suc k) m (λ p from to. some p (omega arith) (omega arith)))
