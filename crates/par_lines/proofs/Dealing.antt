-- Lines that are taken off the end of a list, one by one, and the lines of each client.
use Rattle.par_lines.proofs.Words.{◌≡◌, ℕ, zero, suc, ◌+◌, ◌-◌, ◌<◌, ◌≤◌, ◌==◌, ◌||◌, Bool, true, false, not, cond, List, [], ◌∷◌, ◌++◌, drop, get_or, length, map, reverse, refl, sym, ap, ◌∙◌, subst, arith, append_assoc, length-append, eqb-true, append-nil, map-append, reverse-append, filter-append, IfSome, Option, Some, None, slice_get, set, All-append, drop-cons, filter, All, list_any, range_with_len, Line, Job, has_line, lines_of}

-- what holds of all elements holds of the one at a place, if there is one, and the other way round
pub each_some : {X : Type 0} (P : X → Type 0) (xs : List X) → All P xs → (k : ℕ) → IfSome (slice_get xs k) P
each_some P [] all k = tt
each_some P (x ∷ xs) all zero = all zero x (omega arith)
each_some P (x ∷ xs) all (suc k) = each_some P xs (λ n d lt. all (suc n) d (omega (arith, lt))) k

pub some_at : {X : Type 0} (P : X → Type 0) (xs : List X) (k : ℕ) (d : X) → k < length xs → IfSome (slice_get xs k) P → P (get_or xs k d)
some_at P [] k d lt is = absurd (omega (arith, lt))
some_at P (x ∷ xs) zero d lt is = is
some_at P (x ∷ xs) (suc k) d lt is = some_at P xs k d (omega (arith, lt)) is

pub some_too : {X : Type 0} (P Q : X → Type 0) (o : Option X) → ((x : X) → P x → Q x) → IfSome o P → IfSome o Q
some_too P Q None gives is = tt
some_too P Q (Some x) gives is = gives x is

-- what holds of each element at its place, after one has changed
pub after_set : {X : Type 0} (Q : ℕ → X → Type 0) (xs : List X) (i : ℕ) (v : X) → (i < length xs → Q i v) → ((k : ℕ) → (k ≡ i → ⊥) → IfSome (slice_get xs k) (Q k)) → (k : ℕ) → IfSome (slice_get (set xs i v) k) (Q k)
after_set Q [] i v now kept k = tt
after_set Q (x ∷ xs) zero v now kept zero = now (omega arith)
after_set Q (x ∷ xs) zero v now kept (suc k) = kept (suc k) (λ e. absurd (omega (arith, e)))
after_set Q (x ∷ xs) (suc i) v now kept zero = kept zero (λ e. absurd (omega (arith, e)))
after_set Q (x ∷ xs) (suc i) v now kept (suc k) =
    after_set (λ n. Q (suc n)) xs i v (λ lt. now (omega (arith, lt))) (λ n apart. kept (suc n) (λ e. apart (omega (arith, e)))) k

-- the lines of each client, as the last line is taken off and comes to its client's
module _ (whole lines rest own : List (ℕ × Line)) (l : ℕ × Line) (e : lines ≡ rest ++ l ∷ []) (client : ℕ) (was : lines_of client whole ≡ lines_of client lines ++ reverse own) where
  split : lines_of client lines ≡ lines_of client rest ++ cond (l.1.client == client) (l ∷ []) []
  split = ap (lines_of client) e ∙ filter-append (λ x. x.1.client == client) rest (l ∷ [])

  pub own_more : (l.1.client == client) ≡ true → lines_of client whole ≡ lines_of client rest ++ reverse (own ++ l ∷ [])
  own_more is =
      was ∙ ap (λ v. v ++ reverse own) (split ∙ ap (λ b. lines_of client rest ++ cond b (l ∷ []) []) is) ∙ append_assoc (lines_of client rest) (l ∷ []) (reverse own)
      ∙ ap (λ v. lines_of client rest ++ v) (sym (reverse-append own (l ∷ [])))

  pub own_same : (l.1.client == client) ≡ false → lines_of client whole ≡ lines_of client rest ++ reverse own
  own_same is = was ∙ ap (λ v. v ++ reverse own) (split ∙ ap (λ b. lines_of client rest ++ cond b (l ∷ []) []) is ∙ append-nil (lines_of client rest))

some_not_none : (n : ℕ) → not (suc n == 0) ≡ true
some_not_none n = by (suc n == 0) refl
  where
    by : (b : Bool) → (suc n == 0) ≡ b → not b ≡ true
    by true is = let e : suc n ≡ 0 = eqb-true (suc n) 0 is in absurd (omega (arith, e))
    by false is = refl

-- a client has a line where its lines are some
pub has_some : (c : ℕ) (lines : List (ℕ × Line)) → has_line lines c ≡ not (length (lines_of c lines) == 0)
has_some c [] = refl
has_some c (l ∷ lines) = by (l.1.client == c) (has_some c lines)
  where
    by : (b : Bool) → has_line lines c ≡ not (length (lines_of c lines) == 0) → (b || has_line lines c) ≡ not (length (cond b (l ∷ lines_of c lines) (lines_of c lines)) == 0)
    by true rest = sym (some_not_none (length (lines_of c lines)))
    by false rest = rest

range_snoc : (from n : ℕ) → range_with_len from (n + 1) ≡ range_with_len from n ++ (from + n) ∷ []
range_snoc from zero = let e : from + 0 ≡ from = omega arith in ap (λ (k : ℕ). k ∷ []) (sym e)
range_snoc from (suc n) =
    let a : suc n + 1 ≡ suc (n + 1) = omega arith in
    let e : (from + 1) + n ≡ from + suc n = omega arith in
    ap (range_with_len from) a ∙ ap (λ l. from ∷ l) (range_snoc (from + 1) n ∙ ap (λ (k : ℕ). range_with_len (from + 1) n ++ k ∷ []) e)

-- the clients up to one more
clients_snoc : (q : ℕ → Bool) (n : ℕ) → filter q (range_with_len 1 (n + 1)) ≡ filter q (range_with_len 1 n) ++ cond (q (1 + n)) ((1 + n) ∷ []) []
clients_snoc q n = ap (filter q) (range_snoc 1 n) ∙ filter-append q (range_with_len 1 n) ((1 + n) ∷ [])

pub clients_some : (q : ℕ → Bool) (n c m : ℕ) (ids : List ℕ) → c ≡ 1 + n → m ≡ n + 1 → q c ≡ true → ids ≡ filter q (range_with_len 1 n) → ids ++ c ∷ [] ≡ filter q (range_with_len 1 m)
clients_some q n c m ids e f is was =
    ap (λ l. l ++ c ∷ []) was ∙ ap (λ k. filter q (range_with_len 1 n) ++ k ∷ []) e ∙ sym (ap (λ b. filter q (range_with_len 1 n) ++ cond b ((1 + n) ∷ []) []) (ap q (sym e) ∙ is)) ∙ sym (clients_snoc q n) ∙ ap (λ k. filter q (range_with_len 1 k)) (sym f)

pub clients_none : (q : ℕ → Bool) (n c m : ℕ) (ids : List ℕ) → c ≡ 1 + n → m ≡ n + 1 → q c ≡ false → ids ≡ filter q (range_with_len 1 n) → ids ≡ filter q (range_with_len 1 m)
clients_none q n c m ids e f is was =
    was ∙ sym (append-nil (filter q (range_with_len 1 n))) ∙ sym (ap (λ b. filter q (range_with_len 1 n) ++ cond b ((1 + n) ∷ []) []) (ap q (sym e) ∙ is)) ∙ sym (clients_snoc q n) ∙ ap (λ k. filter q (range_with_len 1 k)) (sym f)

-- the clients, as one more may come to them
pub ids_more : {V : Type 0} (size : V → ℕ) (lines : List (ℕ × Line)) (client : ℕ) (own : V) (dealt after : List (ℕ × V)) → 1 ≤ client → after ≡ cond (size own == 0) dealt (dealt ++ (client, own) ∷ []) → size own ≡ length (lines_of client lines)
    → map (λ a. a.0) dealt ≡ filter (has_line lines) (range_with_len 1 (client - 1)) → map (λ a. a.0) after ≡ filter (has_line lines) (range_with_len 1 (client + 1 - 1))
ids_more size lines client own dealt after some is own_is was = by (size own == 0) refl
  where
    at : client ≡ 1 + (client - 1)
    at = omega arith

    next : client + 1 - 1 ≡ (client - 1) + 1
    next = omega arith

    tested : (b : Bool) → (size own == 0) ≡ b → has_line lines client ≡ not b
    tested b so = has_some client lines ∙ ap (λ n. not (n == 0)) (sym own_is) ∙ ap not so

    by : (b : Bool) → (size own == 0) ≡ b → map (λ a. a.0) after ≡ filter (has_line lines) (range_with_len 1 (client + 1 - 1))
    by true so =
        ap (map (λ a. a.0)) (is ∙ ap (λ b. cond b dealt (dealt ++ (client, own) ∷ [])) so) ∙ clients_none (has_line lines) (client - 1) client (client + 1 - 1) (map (λ a. a.0) dealt) at next (tested true so) was
    by false so =
        ap (map (λ a. a.0)) (is ∙ ap (λ b. cond b dealt (dealt ++ (client, own) ∷ [])) so) ∙ map-append (λ a. a.0) dealt ((client, own) ∷ [])
        ∙ clients_some (has_line lines) (client - 1) client (client + 1 - 1) (map (λ a. a.0) dealt) at next (tested false so) was

pub all_more : {X : Type 0} (P : X → Type 0) (b : Bool) (xs ys : List X) (x : X) → ys ≡ cond b xs (xs ++ x ∷ []) → P x → All P xs → All P ys
all_more P true xs ys x is one all = subst (All P) (sym is) all
all_more P false xs ys x is one all = subst (All P) (sym is) (All-append P xs (x ∷ []) all (λ k d lt. subst (λ n. P (get_or (x ∷ []) n d)) (zero_is k lt) one))
  where
    zero_is : (k : ℕ) → k < 1 → 0 ≡ k
    zero_is k lt = omega arith

-- whether one of these, element by element
pub any_next : {X : Type 0} (f : X → Bool) (xs : List X) (i : ℕ) (x : X) → i < length xs → x ≡ get_or xs i x → list_any f (drop i xs) ≡ (f x || list_any f (drop (i + 1) xs))
any_next f xs i x lt is =
    let next : suc i ≡ i + 1 = omega arith in
    ap (list_any f) (drop-cons xs i x lt) ∙ ap (λ y. f y || list_any f (drop (suc i) xs)) (sym is) ∙ ap (λ n. f x || list_any f (drop n xs)) next

pub none_left : {X : Type 0} (f : X → Bool) (n : ℕ) (xs : List X) → length xs ≤ n → list_any f (drop n xs) ≡ false
none_left f zero [] le = refl
none_left f (suc n) [] le = refl
none_left f zero (x ∷ xs) le = absurd (omega arith)
none_left f (suc n) (x ∷ xs) le = none_left f n xs (omega arith)

pub length_more : {X : Type 0} (b : Bool) (xs ys : List X) (x : X) → ys ≡ cond b xs (xs ++ x ∷ []) → length ys ≤ length xs + 1
length_more true xs ys x is = let e = ap length is in omega arith
length_more false xs ys x is = let e = ap length is in let n = length-append xs (x ∷ []) in omega arith

-- the clients whose jobs were made, the last one first
pub ids_turn : {V K : Type 0} (whole : List ℕ) (xs ys : List (ℕ × V)) (x : ℕ × V) (old new : List (Job K)) (j : Job K) → xs ≡ ys ++ x ∷ [] → new ≡ old ++ j ∷ [] → j.id ≡ x.0
    → whole ≡ map (λ a. a.0) xs ++ reverse (map (λ j. j.id) old) → whole ≡ map (λ a. a.0) ys ++ reverse (map (λ j. j.id) new)
ids_turn whole xs ys x old new j e is same was =
    let turned : reverse (map (λ j. j.id) new) ≡ j.id ∷ reverse (map (λ j. j.id) old) = ap (λ l. reverse (map (λ j. j.id) l)) is ∙ (ap reverse (map-append (λ j. j.id) old (j ∷ [])) ∙ reverse-append (map (λ j. j.id) old) (j.id ∷ [])) in
    was ∙ (ap (λ l. l ++ reverse (map (λ j. j.id) old)) (ap (map (λ a. a.0)) e ∙ map-append (λ a. a.0) ys (x ∷ [])) ∙ (append_assoc (map (λ a. a.0) ys) (x.0 ∷ []) (reverse (map (λ j. j.id) old))
    ∙ (ap (λ n. map (λ a. a.0) ys ++ n ∷ reverse (map (λ j. j.id) old)) (sym same) ∙ ap (λ l. map (λ a. a.0) ys ++ l) (sym turned))))
