-- Pieces over which a later version is laid.
use Rattle.mv_index.proofs.{Words.{◌≡◌, get_or-drop, get_or-take, length-take-le, length-drop, take-append-drop, take-set, drop-set, inl, inr, ◌∙◌, sym, refl, ap, ℕ, zero, suc, ◌+◌, ◌-◌, ◌<◌, ◌≤◌, Bool, true, false, cond, nat_lt, List, [], ◌∷◌, ◌++◌, filter, map, None, Option, length, get_or, set, take, drop, arith, subst, cases_eq, cases_lt, le-leb, lt-leb, ltb-true, ltb-false, min, or_else, ArePieces, Follow, IsStart, Version, back_of, backs, begun, ended, front_of, fronts, laid, newest_with, no_version, place_in, place_of}, Layers.{newest_elsewhere, newest_here, or_else_none, or_else_twice, place_newest}, Orders.{apart_at, has_cases, has_it, has_not, place_none, place_own, sooner}, Sublists.{all_append, all_left, all_weaker}}

place_front : (x p : ℕ) (q : Version) → p < x → place_of p (front_of x q) ≡ place_of p q
place_front x p q lt = grind (arith, has_cases, place_own, has_it, place_none)

place_back : (x p : ℕ) (q : Version) → x ≤ p → place_of p (back_of x q) ≡ place_of p q
place_back x p q le = grind (arith, has_cases, place_own, has_it, place_none)

-- what is left of pieces has the bytes of the pieces
left_step : (f : Version → Version) (p : ℕ) (q : Version) (xs : List Version) (o : Option ℕ) → place_in (map f xs) p ≡ o → (b : Bool) → place_of p (f q) ≡ place_of p q → (b ≡ false → place_of p q ≡ None)
    → place_in (map f (cond b (q ∷ xs) xs)) p ≡ or_else o (place_of p q)
left_step f p q xs o rest true same none = λ i. or_else (rest i) (same i)
left_step f p q xs o rest false same none = rest ∙ sym (ap (or_else o) (none refl) ∙ or_else_none o)

place_left : (test : Version → Bool) (f : Version → Version) (p : ℕ) (pieces : List Version) → ((q : Version) → place_of p (f q) ≡ place_of p q) → ((q : Version) → test q ≡ false → place_of p q ≡ None) → place_in (map f (filter test pieces)) p ≡ place_in pieces p
place_left test f p [] same none = refl
place_left test f p (q ∷ pieces) same none = left_step f p q (filter test pieces) (place_in pieces p) (place_left test f p pieces same none) (test q) (same q) (none q)

none_left : (f : Version → Version) (p : ℕ) (pieces : List Version) → ((q : Version) → place_of p (f q) ≡ None) → place_in (map f pieces) p ≡ None
none_left f p [] none = refl
none_left f p (q ∷ pieces) none = λ i. or_else (none_left f p pieces none i) (none q i)

place_fronts : (x p : ℕ) (pieces : List Version) → p < x → place_in (fronts x pieces) p ≡ place_in pieces p
place_fronts x p pieces lt = place_left (λ q. nat_lt q.off x) (front_of x) p pieces (λ q. place_front x p q lt) (λ q test. place_none p q (inl (omega (arith, lt, ltb-false q.off x test))))

place_backs : (x p : ℕ) (pieces : List Version) → x ≤ p → place_in (backs x pieces) p ≡ place_in pieces p
place_backs x p pieces le = place_left (λ q. nat_lt x (q.off + q.len)) (back_of x) p pieces (λ q. place_back x p q le) (λ q test. place_none p q (inr (omega (arith, le, ltb-false x (q.off + q.len) test))))

-- none has a byte on the other side
no_fronts : (x p : ℕ) (pieces : List Version) → x ≤ p → place_in (fronts x pieces) p ≡ None
no_fronts x p pieces le = grind (arith, none_left, place_none)

no_backs : (x p : ℕ) (pieces : List Version) → p < x → place_in (backs x pieces) p ≡ None
no_backs x p pieces lt = none_left (back_of x) p (filter (λ q. nat_lt x (q.off + q.len)) pieces) (λ q. place_none p (back_of x q) (inl (omega (arith, lt))))

place_append : (xs ys : List Version) (p : ℕ) → place_in (xs ++ ys) p ≡ or_else (place_in ys p) (place_in xs p)
place_append [] ys p = sym (or_else_none (place_in ys p))
place_append (v ∷ xs) ys p = ap (λ (o : Option ℕ). or_else o (place_of p v)) (place_append xs ys p) ∙ sym (or_else_twice (place_in ys p) (place_in xs p) (place_of p v))

place_laid : (v : Version) (pieces versions : List Version) (p : ℕ) → place_in pieces p ≡ place_in versions p → place_in (laid v pieces) p ≡ place_in (versions ++ v ∷ []) p
place_laid v pieces versions p was =
    place_append (fronts v.off pieces) (v ∷ backs (v.off + v.len) pieces) p
    ∙ elim (has_cases p v) [
      | inl both ↦
          let own = place_own p v (has_it p v both.0 both.1) in
          (λ i. or_else (or_else (no_backs (v.off + v.len) p pieces both.1 i) (own i)) (place_in (fronts v.off pieces) p)) ∙ sym (ap (λ (o : Option ℕ). or_else o (place_in versions p)) own)
      | inr off ↦
          let none = place_none p v off in
          elim off [
            | inl lt ↦ (λ i. or_else (or_else (no_backs (v.off + v.len) p pieces (omega (arith, lt)) i) (none i)) (place_fronts v.off p pieces lt i))
            | inr le ↦
                (λ i. or_else (or_else (place_backs (v.off + v.len) p pieces le i) (none i)) (no_fronts v.off p pieces (omega (arith, le)) i))
                ∙ or_else_none (or_else (place_in pieces p) None) ∙ or_else_none (place_in pieces p)
          ]
          ∙ was ∙ sym (ap (λ (o : Option ℕ). or_else o (place_in versions p)) none)
    ]
    ∙ sym (place_append versions (v ∷ []) p)

-- what is left is in order
front_order : (y x : ℕ) (q : Version) (xs rest : List Version) → y ≤ x → y ≤ q.off → 0 < q.len → (q.off < x → Follow (q.off + min q.len (x - q.off)) (map (front_of x) xs ++ rest)) → Follow y (map (front_of x) xs ++ rest)
    → (b : Bool) → nat_lt q.off x ≡ b → Follow y (map (front_of x) (cond b (q ∷ xs) xs) ++ rest)
front_order y x q xs rest le from some here past true is = let lt = ltb-true q.off x is in (from, omega (arith, lt, some), here lt)
front_order y x q xs rest le from some here past false is = past

follow_fronts : (y x : ℕ) (pieces rest : List Version) → y ≤ x → Follow y pieces → Follow x rest → Follow y (fronts x pieces ++ rest)
follow_fronts y x [] rest le order after = sooner x y rest le after
follow_fronts y x (q ∷ pieces) rest le order after =
    front_order y x q (filter (λ q. nat_lt q.off x) pieces) rest le order.0 order.1
    (λ lt. follow_fronts (q.off + min q.len (x - q.off)) x pieces rest (omega (arith, lt)) (sooner (q.off + q.len) (q.off + min q.len (x - q.off)) pieces (omega arith) order.2) after)
    (follow_fronts y x pieces rest le (sooner (q.off + q.len) y pieces (omega (arith, order.0)) order.2) after) (nat_lt q.off x) refl

back_order : (y x : ℕ) (q : Version) (xs : List Version) → y ≤ q.off → 0 < q.len → Follow (q.off + q.len + (x - (q.off + q.len))) (map (back_of x) xs) → (b : Bool) → nat_lt x (q.off + q.len) ≡ b
    → Follow (y + (x - y)) (map (back_of x) (cond b (q ∷ xs) xs))
back_order y x q xs from some rest true is = grind (arith, sooner)
back_order y x q xs from some rest false is = sooner (q.off + q.len + (x - (q.off + q.len))) (y + (x - y)) (map (back_of x) xs) (omega (arith, from)) rest

follow_backs : (y x : ℕ) (pieces : List Version) → Follow y pieces → Follow (y + (x - y)) (backs x pieces)
follow_backs y x [] order = tt
follow_backs y x (q ∷ pieces) order = back_order y x q (filter (λ q. nat_lt x (q.off + q.len)) pieces) order.0 order.1 (follow_backs (q.off + q.len) x pieces order.2) (nat_lt x (q.off + q.len)) refl

follow_laid : (v : Version) (pieces : List Version) → 0 < v.len → Follow 0 pieces → Follow 0 (laid v pieces)
follow_laid v pieces some order =
    follow_fronts 0 v.off pieces (v ∷ backs (v.off + v.len) pieces) (omega arith) order
    (omega arith, some, sooner (0 + (v.off + v.len - 0)) (v.off + v.len) (backs (v.off + v.len) pieces) (omega arith) (follow_backs 0 (v.off + v.len) pieces order))

-- each begins where a version begins or ends
pub start_same : (xs ys : List Version) (s : ℕ) → newest_with ys s ≡ newest_with xs s → newest_with ys (s - 1) ≡ newest_with xs (s - 1) → IsStart xs s → IsStart ys s
start_same xs ys s here before start = (start.0, elim start.1 [ inl at ↦ inl (here ∙ at.0, at.1) | inr at ↦ inr (before ∙ at.0, at.1) ])

module _ (v : Version) (versions : List Version) (some : 0 < v.len) where
  front_start : (q : Version) → q.off < v.off → IsStart versions q.off → IsStart (versions ++ v ∷ []) q.off
  front_start q lt = start_same versions (versions ++ v ∷ []) q.off (newest_elsewhere versions v q.off (has_not q.off v (inl lt))) (newest_elsewhere versions v (q.off - 1) (has_not (q.off - 1) v (inl (omega (arith, lt)))))

  back_start : (q : Version) → IsStart versions q.off → IsStart (versions ++ v ∷ []) (q.off + (v.off + v.len - q.off))
  back_start q start = elim (cases_lt (v.off + v.len) q.off) [
    | inl lt ↦
        let there : q.off ≡ q.off + (v.off + v.len - q.off) = omega (arith, lt) in
        subst (IsStart (versions ++ v ∷ [])) there
        (start_same versions (versions ++ v ∷ []) q.off (newest_elsewhere versions v q.off (has_not q.off v (inr (omega (arith, lt))))) (newest_elsewhere versions v (q.off - 1) (has_not (q.off - 1) v (inr (omega (arith, lt))))) start)
    | inr le ↦
        let there : v.off + v.len ≡ q.off + (v.off + v.len - q.off) = omega (arith, le) in
        subst (IsStart (versions ++ v ∷ [])) there (v, inr (newest_here versions v (v.off + v.len - 1) (has_it (v.off + v.len - 1) v (omega (arith, some)) (omega (arith, some))), refl))
  ]

  own_start : IsStart (versions ++ v ∷ []) v.off
  own_start = (v, inl (newest_here versions v v.off (has_it v.off v (omega arith) (omega (arith, some))), refl))

  pub pieces_laid : (pieces : List Version) → ArePieces pieces versions → ArePieces (laid v pieces) (versions ++ v ∷ [])
  pieces_laid pieces were = record {
    order = follow_laid v pieces some were.order;
    place = λ p. place_laid v pieces versions p (were.place p);
    start = all_append (λ q. IsStart (versions ++ v ∷ []) q.off) (fronts v.off pieces) (v ∷ backs (v.off + v.len) pieces)
        (all_left (λ q. IsStart versions q.off) (λ q. IsStart (versions ++ v ∷ []) q.off) (λ q. nat_lt q.off v.off) (front_of v.off) pieces (λ q test. front_start q (ltb-true q.off v.off test)) were.start)
        (own_start, all_left (λ q. IsStart versions q.off) (λ q. IsStart (versions ++ v ∷ []) q.off) (λ q. nat_lt (v.off + v.len) (q.off + q.len)) (back_of (v.off + v.len)) pieces (λ q test. back_start q) were.start);
  }

-- pieces of versions that show the same are pieces of both
pub pieces_kept : (pieces xs ys : List Version) → ((p : ℕ) → newest_with ys p ≡ newest_with xs p) → ArePieces pieces xs → ArePieces pieces ys
pieces_kept pieces xs ys same are = record {
  order = are.order;
  place = λ p. are.place p ∙ place_newest xs ys p (sym (same p));
  start = all_weaker (λ q. IsStart xs q.off) (λ q. IsStart ys q.off) pieces (λ q. start_same xs ys q.off (same q.off) (same (q.off - 1))) are.start;
}

-- a version without bytes changes nothing
pub laid_none : (v : Version) (pieces versions : List Version) → v.len ≡ 0 → ArePieces pieces versions → ArePieces pieces (versions ++ v ∷ [])
laid_none v pieces versions none were =
    let same : (p : ℕ) → newest_with (versions ++ v ∷ []) p ≡ newest_with versions p = λ p. newest_elsewhere versions v p (has_not p v (elim (cases_lt p v.off) [ inl lt ↦ inl lt | inr le ↦ inr (omega (arith, le, none)) ])) in
    pieces_kept pieces versions (versions ++ v ∷ []) same were

-- what was found by halving: the last piece that begins before the version is cut, and so is the first that ends after it
backs_same : (x y : ℕ) (pieces : List Version) → x ≤ y → Follow y pieces → backs x pieces ≡ pieces
backs_same x y [] le order = refl
backs_same x y (q ∷ pieces) le order =
    let place : q.place + (x - q.off) ≡ q.place = omega (arith, le, order.0) in
    let off : q.off + (x - q.off) ≡ q.off = omega (arith, le, order.0) in
    let len : q.len - (x - q.off) ≡ q.len = omega (arith, le, order.0) in
    ap (λ (b : Bool). map (back_of x) (cond b (q ∷ filter (λ r. nat_lt x (r.off + r.len)) pieces) (filter (λ r. nat_lt x (r.off + r.len)) pieces))) (le-leb (suc x) (q.off + q.len) (omega (arith, le, order.0, order.1)))
    ∙ (λ i. record q { place = place i; off = off i; len = len i } ∷ backs_same x (q.off + q.len) pieces (omega (arith, le, order.0)) order.2 i)

pub begun_is : (x y n : ℕ) (pieces : List Version) → Follow y pieces → ((k : ℕ) → k < n → (get_or pieces k no_version).off + (get_or pieces k no_version).len ≤ x)
    → ((k : ℕ) → n ≤ k → k < length pieces → x < (get_or pieces k no_version).off + (get_or pieces k no_version).len) → backs x pieces ≡ begun x (drop n pieces)
begun_is x y zero [] order below above = refl
begun_is x y (suc n) [] order below above = refl
begun_is x y zero (q ∷ pieces) order below above =
    let lt = above 0 (omega arith) (omega arith) in
    ap (λ (b : Bool). map (back_of x) (cond b (q ∷ filter (λ r. nat_lt x (r.off + r.len)) pieces) (filter (λ r. nat_lt x (r.off + r.len)) pieces))) (le-leb (suc x) (q.off + q.len) (omega (arith, lt)))
    ∙ ap (λ (l : List Version). back_of x q ∷ l) (backs_same x (q.off + q.len) pieces (omega (arith, lt)) order.2)
begun_is x y (suc n) (q ∷ pieces) order below above =
    ap (λ (b : Bool). map (back_of x) (cond b (q ∷ filter (λ r. nat_lt x (r.off + r.len)) pieces) (filter (λ r. nat_lt x (r.off + r.len)) pieces))) (lt-leb (suc x) (q.off + q.len) (let le = below 0 (omega arith) in omega (arith, le)))
    ∙ begun_is x (q.off + q.len) n pieces order.2 (λ k lt. below (suc k) (omega (arith, lt))) (λ k le inside. above (suc k) (omega (arith, le)) (omega (arith, inside)))

pub ended_is : (x y n : ℕ) (pieces : List Version) → Follow y pieces → n ≤ length pieces → ((k : ℕ) → k < n → (get_or pieces k no_version).off < x) → ((k : ℕ) → n ≤ k → k < length pieces → x ≤ (get_or pieces k no_version).off) → fronts x pieces ≡ ended x (take n pieces)
ended_is x y zero [] order within below above = refl
ended_is x y (suc n) [] order within below above = refl
ended_is x y zero (q ∷ pieces) order within below above =
    ap (λ (b : Bool). map (front_of x) (cond b (q ∷ filter (λ r. nat_lt r.off x) pieces) (filter (λ r. nat_lt r.off x) pieces))) (lt-leb (suc q.off) x (let le = above 0 (omega arith) (omega arith) in omega (arith, le)))
    ∙ ended_is x (q.off + q.len) zero pieces order.2 (omega arith) (λ k lt. absurd (omega (arith, lt))) (λ k le inside. above (suc k) (omega arith) (omega (arith, inside)))
ended_is x y (suc zero) (q ∷ pieces) order within below above =
    ap (λ (b : Bool). map (front_of x) (cond b (q ∷ filter (λ r. nat_lt r.off x) pieces) (filter (λ r. nat_lt r.off x) pieces))) (le-leb (suc q.off) x (let lt = below 0 (omega arith) in omega (arith, lt)))
    ∙ ap (λ (l : List Version). front_of x q ∷ l) (ended_is x (q.off + q.len) zero pieces order.2 (omega arith) (λ k lt. absurd (omega (arith, lt))) (λ k le inside. above (suc k) (omega arith) (omega (arith, inside))))
ended_is x y (suc (suc n)) (q ∷ []) order within below above = absurd (omega (arith, within))
ended_is x y (suc (suc n)) (q ∷ r ∷ pieces) order within below above =
    let next = below 1 (omega arith) in
    let whole : min q.len (x - q.off) ≡ q.len = omega (arith, next, order.2.0) in
    let rest = ended_is x (q.off + q.len) (suc n) (r ∷ pieces) order.2 (omega (arith, within)) (λ k lt. below (suc k) (omega (arith, lt))) (λ k le inside. above (suc k) (omega (arith, le)) (omega (arith, inside))) in
    ap (λ (b : Bool). map (front_of x) (cond b (q ∷ filter (λ s. nat_lt s.off x) (r ∷ pieces)) (filter (λ s. nat_lt s.off x) (r ∷ pieces)))) (le-leb (suc q.off) x (omega (arith, next, order.2.0, order.1)))
    ∙ (λ i. record q { len = whole i } ∷ rest i)

pub ended_set : (x n : ℕ) (pieces : List Version) → length pieces ≡ suc n → set pieces n (front_of x (get_or pieces n no_version)) ≡ ended x pieces
ended_set x n [] long = absurd (omega (arith, long))
ended_set x zero (q ∷ []) long = refl
ended_set x (suc n) (q ∷ []) long = absurd (omega (arith, long))
ended_set x zero (q ∷ r ∷ pieces) long = absurd (omega (arith, long))
ended_set x (suc n) (q ∷ r ∷ pieces) long = ap (λ (l : List Version). q ∷ l) (ended_set x n (r ∷ pieces) (omega (arith, long)))

-- at most one piece has bytes on both sides of a version
pub one_around : (from to first last : ℕ) (pieces : List Version) → Follow 0 pieces → from ≤ to → first ≤ length pieces → ((k : ℕ) → k < first → (get_or pieces k no_version).off < from)
    → ((k : ℕ) → last ≤ k → k < length pieces → to < (get_or pieces k no_version).off + (get_or pieces k no_version).len) → last < first → last + 1 ≡ first
one_around from to first last pieces order le within below above lt = elim (cases_eq (last + 1) first) [
  | inl is ↦ is
  | inr other ↦
      let apart = apart_at 0 last (last + 1) no_version pieces order (omega arith) (omega (arith, lt, other, within)) in
      let next = below (last + 1) (omega (arith, lt, other)) in
      let here = above last (omega arith) (omega (arith, lt, within)) in
      absurd (omega (arith, apart, next, here, le))
]

-- where a version has the bytes of one piece, it is in its place

ended_same : (x : ℕ) (pieces : List Version) → ((k : ℕ) → k < length pieces → (get_or pieces k no_version).off + (get_or pieces k no_version).len ≤ x) → ended x pieces ≡ pieces
ended_same x [] le = refl
ended_same x (q ∷ []) le = let same : min q.len (x - q.off) ≡ q.len = omega (arith, le 0 (omega arith)) in λ i. record q { len = same i } ∷ []
ended_same x (q ∷ r ∷ pieces) le = ap (λ (l : List Version). q ∷ l) (ended_same x (r ∷ pieces) (λ k lt. le (suc k) (omega (arith, lt))))

begun_same : (x : ℕ) (pieces : List Version) → (0 < length pieces → x ≤ (get_or pieces 0 no_version).off) → begun x pieces ≡ pieces
begun_same x pieces le = grind arith

pub laid_over : (v : Version) (first last : ℕ) (pieces : List Version) → Follow 0 pieces → last ≤ length pieces → last ≡ first + 1
    → (get_or pieces first no_version).off ≡ v.off → (get_or pieces first no_version).len ≡ v.len
    → fronts v.off pieces ≡ ended v.off (take first pieces) → backs (v.off + v.len) pieces ≡ begun (v.off + v.len) (drop last pieces)
    → set pieces first v ≡ laid v pieces
laid_over v first last pieces order within one off len front back =
    let before : ended v.off (take first pieces) ≡ take first pieces =
    ended_same v.off (take first pieces) (λ k lt.
    let below : k < first = omega (arith, lt, length-take-le first pieces (omega (arith, within, one))) in
    let there = ap (λ (q : Version). q.off + q.len) (get_or-take first pieces k no_version below) in
    omega (arith, there, off, apart_at 0 k first no_version pieces order below (omega (arith, within, one)))) in
    let behind : begun (v.off + v.len) (drop last pieces) ≡ drop last pieces =
    begun_same (v.off + v.len) (drop last pieces) (λ some.
    let below : last < length pieces = omega (arith, some, length-drop last pieces) in
    let same : last + 0 ≡ last = omega arith in
    let there = ap (λ (q : Version). q.off) (get_or-drop last pieces 0 no_version) ∙ ap (λ (n : ℕ). (get_or pieces n no_version).off) same in
    omega (arith, there, off, len, apart_at 0 first last no_version pieces order (omega (arith, one)) below)) in
    sym (take-append-drop first (set pieces first v)) ∙ (λ i. take-set pieces first v i ++ drop-set pieces first v (omega (arith, within, one)) i)
    ∙ ap (λ (n : ℕ). take first pieces ++ v ∷ drop n pieces) (sym one) ∙ (λ i. sym (front ∙ before) i ++ v ∷ sym (back ∙ behind) i)
