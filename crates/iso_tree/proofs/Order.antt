-- Keys in the order of bytes, and ranges of keys.
use Rattle.iso_tree.proofs.{Words.{◌≡◌, ◌∙◌, sym, refl, ap, ℕ, Bool, true, false, not, List, [], ◌∷◌, Option, Some, None, inl, inr, AllByRecursion, nat_cmp, is_lt, ordering_reverse, Ordering, Less, Equal, Greater, slice_cmp, nat_list_cmp_total, and_from, and_parts, cases_Bool, both_ways, before, in_range, ◌≢◌, subst, suc, ◌+◌, cond, IsTrue, ◌++◌, length, arith, flat_map, slice_cmp-IsAntisymmetric, nat_cmp-IsAntisymmetric, append_assoc, append-nil, length-append, flat_map-append, Cell, AreAfter, RiseAfter, Rise, put_after, all_append}, Shapes.{AreFrom, chosen, set_chosen, IsAdded, IsGrown}}

less_only : (o : Ordering) → is_lt o ≡ true → o ≡ Less
less_only Less e = refl
less_only Equal e = cc
less_only Greater e = cc

less_greater : Less ≡ Greater → ⊥
less_greater e = cc

-- x before y, and y not after z
pub before_through : (x y z : List ℕ) → before x y ≡ true → before z y ≡ false → before x z ≡ true
before_through x y z less not_after =
    elim (slice_cmp nat_cmp y z) as (λ o. slice_cmp nat_cmp y z ≡ o → before x z ≡ true) [
      | Less ↦ λ e. ap is_lt (nat_list_cmp_total.trans x y z (less_only _ less) e)
      | Equal ↦ λ e.
          (let same : slice_cmp nat_cmp y x ≡ slice_cmp nat_cmp z x = nat_list_cmp_total.congr y z x e in
          ap is_lt (nat_list_cmp_total.antisymm x z ∙ ap ordering_reverse (sym same) ∙ sym (nat_list_cmp_total.antisymm x y) ∙ less_only _ less))
      | Greater ↦ λ e.
          (let bad : slice_cmp nat_cmp z y ≡ Less = nat_list_cmp_total.antisymm z y ∙ ap ordering_reverse e in
          absurd (both_ways (before z y) not_after (ap is_lt bad)))
    ] refl

-- low not after mid, mid not after key
pub not_after_through : (low mid key : List ℕ) → before mid low ≡ false → before key mid ≡ false → before key low ≡ false
not_after_through low mid key a b = grind (arith, before_through) steps 100000

pub not_false : (t : Bool) → not t ≡ true → t ≡ false
not_false true e = cc
not_false false e = refl

pub low_of : (low : List ℕ) (high : Option (List ℕ)) (key : List ℕ) → in_range low high key ≡ true → before key low ≡ false
low_of low None key is = not_false _ is
low_of low (Some high) key is = not_false _ (and_parts _ _ is).0

-- a range within a range
pub range_within : (low mid : List ℕ) (high : Option (List ℕ)) (key : List ℕ) → before mid low ≡ false → in_range mid high key ≡ true → in_range low high key ≡ true
range_within low mid None key le is = ap not (not_after_through low mid key le (not_false _ is))
range_within low mid (Some high) key le is = grind (arith, not, not_after_through, not_false) steps 100000

pub after_not : (x y : List ℕ) → before x y ≡ true → before y x ≡ false
after_not x y less = elim (cases_Bool (before y x)) [
  | inl more ↦ (let e : slice_cmp nat_cmp y x ≡ ordering_reverse Less = nat_list_cmp_total.antisymm y x ∙ ap ordering_reverse (less_only _ less) in let f : slice_cmp nat_cmp y x ≡ Less = less_only _ more in absurd (less_greater (sym f ∙ e)))
  | inr is ↦ is
]

-- a range that ends before another's end
pub range_cut : (low end : List ℕ) (high : Option (List ℕ)) (key : List ℕ) → in_range low high end ≡ true → in_range low (Some end) key ≡ true → in_range low high key ≡ true
range_cut low end None key inside is = (and_parts _ _ is).0
range_cut low end (Some high) key inside is = search (arith, before_through, after_not) steps 100000

pub all_weaker : {X : Type 0} (P Q : X → Type 0) (xs : List X) → ((x : X) → P x → Q x) → AllByRecursion P xs → AllByRecursion Q xs
all_weaker P Q [] h all = tt
all_weaker P Q (x ∷ xs) h all = (h x all.0, all_weaker P Q xs h all.1)

-- Keys in a node: cutting a row of children in two, and putting two in place of one.
pub irreflexive : (x : List ℕ) → before x x ≡ false
irreflexive x = elim (cases_Bool (before x x)) [ inl less ↦ after_not x x less | inr is ↦ is ]

pub before_empty : (x y : List ℕ) → before x y ≡ true → before [] y ≡ true
before_empty x (b ∷ y) less = refl
before_empty [] [] less = less
before_empty (a ∷ x) [] less = cc

pub not_before_empty : (x : List ℕ) → before x [] ≡ false
not_before_empty [] = refl
not_before_empty (a ∷ x) = refl

pub before_trans : (x y z : List ℕ) → before x y ≡ true → before y z ≡ true → before x z ≡ true
before_trans x y z less more = before_through x y z less (after_not y z more)

-- low not after x, and x before y
pub through_before : (low x y : List ℕ) → before x low ≡ false → before x y ≡ true → before low y ≡ true
through_before low x y le less = grind (arith, not, before_through) steps 100000

-- not after each other
pub before_other : (x y : List ℕ) → before x y ≡ false → x ≢ y → before y x ≡ true
before_other x y le other =
    elim (slice_cmp nat_cmp x y) as (λ o. slice_cmp nat_cmp x y ≡ o → before y x ≡ true) [
      | Less ↦ λ e. absurd (both_ways (before x y) le (ap is_lt e))
      | Equal ↦ λ e. absurd (other (slice_cmp-IsAntisymmetric nat_cmp-IsAntisymmetric x y e))
      | Greater ↦ λ e. ap is_lt (nat_list_cmp_total.antisymm y x ∙ ap (λ o. Rattle.std.specs.Ordering.ordering_reverse o) e)
    ] refl

-- a range whose lower end rises
pub range_from : (low mid : List ℕ) (high : Option (List ℕ)) (key : List ℕ) → in_range low high key ≡ true → before key mid ≡ false → in_range mid high key ≡ true
range_from low mid None key is le = ap not le
range_from low mid (Some high) key is le = and_from _ _ (ap not le) (and_parts _ _ is).1

pub range_to : (low end : List ℕ) (high : Option (List ℕ)) (key : List ℕ) → in_range low high key ≡ true → before key end ≡ true → in_range low (Some end) key ≡ true
range_to low end high key is less = and_from _ _ (ap not (low_of low high key is)) less

abbrev pub head_key : {X : Type 0} → List (List ℕ × X) → List ℕ
head_key [] = []
head_key (c ∷ cs) = c.0

pub head_set : {X : Type 0} (key : List ℕ) (t : X) (more : List (List ℕ × X)) (c : List ℕ × X) (cs : List (List ℕ × X)) → head_key (set_chosen key t more c cs) ≡ c.0
head_set key t more c [] = refl
head_set key t more c (d ∷ ds) = elim (before key d.0) as (λ b. head_key (cond b ((c.0, t) ∷ more ++ d ∷ ds) (c ∷ set_chosen key t more d ds)) ≡ c.0) [ true ↦ refl | false ↦ refl ]

module _ {X : Type 0} (P : List ℕ → Option (List ℕ) → X → Type 0) where
  -- what is known of the keys after a cut
  pub from_empty : (last low : List ℕ) (high : Option (List ℕ)) (c : X) (cs : List (List ℕ × X)) → AreAfter P last low high c cs → AreAfter P [] low high c cs
  from_empty last low high c [] is = is
  from_empty last low high c (d ∷ ds) is = (before_empty last d.0 is.0, is.1, is.2, is.3)

  pub from_last : (last low : List ℕ) (high : Option (List ℕ)) (c : X) (cs : List (List ℕ × X)) → before low last ≡ false → AreAfter P low low high c cs → AreAfter P last low high c cs
  from_last last low high c [] le is = is
  from_last last low high c (d ∷ ds) le is = (through_before last low d.0 le is.0, is.1, is.2, is.3)

  -- a row of children cut at one of them
  pub cut_after : (last low : List ℕ) (high : Option (List ℕ)) (c : X) (xs : List (List ℕ × X)) (d : List ℕ × X) (ys : List (List ℕ × X)) → AreAfter P last low high c (xs ++ d ∷ ys)
      → IsTrue (before last d.0) × IsTrue (in_range low high d.0) × AreAfter P last low (Some d.0) c xs × AreAfter P [] d.0 high d.1 ys
  cut_after last low high c [] d ys is = (is.0, is.1, is.2, from_empty d.0 d.0 high d.1 ys is.3)
  cut_after last low high c (x ∷ xs) d ys is =
      let rest = cut_after x.0 x.0 high x.1 xs d ys is.3 in (
        before_trans last x.0 d.0 is.0 rest.0,
        range_within low x.0 high d.0 (low_of low high x.0 is.1) rest.1,
        (is.0, range_to low d.0 high x.0 is.1 rest.0, is.2, rest.2),
        rest.3,
      )

  -- the cut is above the lower end, where a key is before it
  pub cut_above : (last low : List ℕ) (high : Option (List ℕ)) (c : X) (x : List ℕ × X) (xs : List (List ℕ × X)) (d : List ℕ × X) (ys : List (List ℕ × X)) → AreAfter P last low high c (x ∷ xs ++ d ∷ ys)
      → before low d.0 ≡ true
  cut_above last low high c x xs d ys is = through_before low x.0 d.0 (low_of low high x.0 is.1) (cut_after x.0 x.0 high x.1 xs d ys is.3).0

  -- rows joined again
  pub join_after : (last low : List ℕ) (high : Option (List ℕ)) (t : X) (more : List (List ℕ × X)) (d : List ℕ × X) (ds : List (List ℕ × X)) → AreAfter P last low (Some d.0) t more
      → before last d.0 ≡ true → in_range low high d.0 ≡ true → AreAfter P d.0 d.0 high d.1 ds → AreAfter P last low high t (more ++ d ∷ ds)
  join_after last low high t [] d ds is less inside rest = (less, inside, is, rest)
  join_after last low high t (m ∷ more) d ds is less inside rest =
      let parts = and_parts _ _ is.1 in (
        is.0,
        range_cut low d.0 high m.0 inside is.1,
        is.2,
        join_after m.0 m.0 high m.1 more d ds is.3 parts.1 (range_from low m.0 high d.0 inside (after_not m.0 d.0 parts.1)) rest,
      )

  after_head : (last low : List ℕ) (high : Option (List ℕ)) (c d : List ℕ × X) (list : List (List ℕ × X)) → before last d.0 ≡ true → in_range low high d.0 ≡ true → P low (Some d.0) c.1
      → head_key list ≡ d.0 → AreFrom P d.0 d.0 high list → AreAfter P last low high c.1 list
  after_head last low high c d [] less inside is same rest = absurd rest
  after_head last low high c d (h ∷ hs) less inside is same rest = grind arith steps 100000

  -- one child replaced by what took its place
  pub set_ordered : (key last low : List ℕ) (high : Option (List ℕ)) (t : X) (more : List (List ℕ × X)) (c : List ℕ × X) (cs : List (List ℕ × X)) → AreAfter P last low high c.1 cs
      → before low last ≡ false → in_range low high key ≡ true
      → ((lo : List ℕ) (hi : Option (List ℕ)) → in_range lo hi key ≡ true → P lo hi (chosen key c.1 cs) → AreAfter P lo lo hi t more)
      → AreFrom P last low high (set_chosen key t more c cs)
  set_ordered key last low high t more c [] is le inside put = from_last last low high t more le (put low high inside is)
  set_ordered key last low high t more c (d ∷ ds) is le inside put =
      elim (before key d.0) as (λ b. before key d.0 ≡ b
      → ((lo : List ℕ) (hi : Option (List ℕ)) → in_range lo hi key ≡ true → P lo hi (cond b c.1 (chosen key d.1 ds)) → AreAfter P lo lo hi t more)
      → AreFrom P last low high (cond b ((c.0, t) ∷ more ++ d ∷ ds) (c ∷ set_chosen key t more d ds))) [
        | true ↦ λ b h. join_after last low high t more d ds (from_last last low (Some d.0) t more le (h low (Some d.0) (range_to low d.0 high key inside b) is.2)) is.0 is.1 is.3
        | false ↦ λ b h. after_head last low high c d (set_chosen key t more d ds) is.0 is.1 is.2 (head_set key t more d ds) (set_ordered key d.0 d.0 high t more d ds is.3 (irreflexive d.0) (range_from low d.0 high key inside b) h)
      ] refl put

-- a leaf cut at one of its cells
cut_rise_after : (last : List ℕ) (high : Option (List ℕ)) (xs : List Cell) (d : Cell) (ys : List Cell) → RiseAfter last high (xs ++ d ∷ ys)
    → IsTrue (before last d.0) × IsTrue (in_range last high d.0) × RiseAfter last (Some d.0) xs × RiseAfter d.0 high ys
cut_rise_after last high [] d ys is = (is.0, is.1, tt, is.2)
cut_rise_after last high (x ∷ xs) d ys is =
    let rest = cut_rise_after x.0 high xs d ys is.2 in (
      before_trans last x.0 d.0 is.0 rest.0,
      range_within last x.0 high d.0 (low_of last high x.0 is.1) rest.1,
      (is.0, range_to last d.0 high x.0 is.1 rest.0, rest.2),
      rest.3,
    )

pub cut_rise : (low : List ℕ) (high : Option (List ℕ)) (x : Cell) (xs : List Cell) (d : Cell) (ys : List Cell) → Rise low high (x ∷ xs ++ d ∷ ys)
    → IsTrue (before low d.0) × IsTrue (in_range low high d.0) × Rise low (Some d.0) (x ∷ xs) × Rise d.0 high (d ∷ ys)
cut_rise low high x xs d ys is = grind (arith, cut_rise_after, range_within, low_of, through_before, range_to, range_from, irreflexive) steps 100000

-- a new cell in a leaf
no_key : (key : List ℕ) → List Cell → Type 0
no_key key cs = AllByRecursion (λ c. key ≢ c.0) cs

put_rise_after : (last : List ℕ) (high : Option (List ℕ)) (key value : List ℕ) (cs : List Cell) → RiseAfter last high cs → before last key ≡ true → in_range last high key ≡ true
    → AllByRecursion (λ c. key ≢ c.0) cs → RiseAfter last high (put_after key (key, value) cs)
put_rise_after last high key value [] is less inside other = (less, inside, tt)
put_rise_after last high key value (d ∷ ds) is less inside other =
    elim (before key d.0) as (λ b. before key d.0 ≡ b → RiseAfter last high (cond b ((key, value) ∷ d ∷ ds) (d ∷ put_after key (key, value) ds))) [
      | true ↦ λ b. (less, inside, (b, range_from last key high d.0 is.1 (after_not key d.0 b), is.2))
      | false ↦ λ b. (is.0, is.1, put_rise_after d.0 high key value ds is.2 (before_other key d.0 b other.0) (range_from last d.0 high key inside b) other.1)
    ] refl

pub put_rise : (low : List ℕ) (high : Option (List ℕ)) (key value : List ℕ) (cs : List Cell) → Rise low high cs → in_range low high key ≡ true
    → AllByRecursion (λ c. key ≢ c.0) cs → Rise low high (put_after key (key, value) cs)
put_rise low high key value [] is inside other = (inside, tt)
put_rise low high key value (d ∷ ds) is inside other = grind (arith, range_from, after_not, put_rise_after, before_other) steps 100000

-- Lists that grow.
module _ {Y : Type 0} where
  added_front : (y : Y) (front old new : List Y) → IsAdded y old new → IsAdded y (front ++ old) (front ++ new)
  added_front y front old new is = (front ++ is.0, is.1, ap (λ l. front ++ l) is.2 ∙ sym (append_assoc front is.0 is.1), ap (λ l. front ++ l) is.3 ∙ sym (append_assoc front is.0 (y ∷ is.1)))

  added_back : (y : Y) (bs old new : List Y) → IsAdded y old new → IsAdded y (old ++ bs) (new ++ bs)
  added_back y bs old new is = (is.0, is.1 ++ bs, ap (λ l. l ++ bs) is.2 ∙ append_assoc is.0 is.1 bs, ap (λ l. l ++ bs) is.3 ∙ append_assoc is.0 (y ∷ is.1) bs)

  pub grown_front : (more front old new : List Y) → IsGrown more old new → IsGrown more (front ++ old) (front ++ new)
  grown_front [] front old new is = ap (λ l. front ++ l) is
  grown_front (y ∷ more) front old new is = (front ++ is.0, added_front y front old is.0 is.1, grown_front more front is.0 new is.2)

  pub grown_back : (more bs old new : List Y) → IsGrown more old new → IsGrown more (old ++ bs) (new ++ bs)
  grown_back [] bs old new is = ap (λ l. l ++ bs) is
  grown_back (y ∷ more) bs old new is = (is.0 ++ bs, added_back y bs old is.0 is.1, grown_back more bs is.0 new is.2)

  pub grown_more : (more rest old mid new : List Y) → IsGrown more old mid → IsGrown rest mid new → IsGrown (more ++ rest) old new
  grown_more [] rest old mid new is then = subst (λ (l : List Y). IsGrown rest l new) (sym is) then
  grown_more (y ∷ more) rest old mid new is then = (is.0, is.1, grown_more more rest is.0 mid new is.2 then)

-- what the children hold grows as what the chosen one holds
pub set_grown : {X Y : Type 0} (f : X → List Y) (more : List Y) (key : List ℕ) (t : X) (others : List (List ℕ × X)) (c : List ℕ × X) (cs : List (List ℕ × X))
    → IsGrown more (f (chosen key c.1 cs)) (f t ++ flat_map (λ x. f x.1) others)
    → IsGrown more (f c.1 ++ flat_map (λ x. f x.1) cs) (flat_map (λ x. f x.1) (set_chosen key t others c cs))
set_grown f more key t others c [] is = subst (λ l. IsGrown more l (f t ++ flat_map (λ x. f x.1) others)) (sym (append-nil (f c.1))) is
set_grown f more key t others c (d ∷ ds) is =
    elim (before key d.0) as (λ b. IsGrown more (f (cond b c.1 (chosen key d.1 ds))) (f t ++ flat_map (λ x. f x.1) others)
    → IsGrown more (f c.1 ++ (f d.1 ++ flat_map (λ x. f x.1) ds)) (flat_map (λ x. f x.1) (cond b ((c.0, t) ∷ others ++ d ∷ ds) (c ∷ set_chosen key t others d ds)))) [
      | true ↦ λ h. subst (λ l. IsGrown more (f c.1 ++ (f d.1 ++ flat_map (λ x. f x.1) ds)) l)
          (append_assoc (f t) (flat_map (λ x. f x.1) others) (f d.1 ++ flat_map (λ x. f x.1) ds) ∙ ap (λ l. f t ++ l) (sym (flat_map-append (λ x. f x.1) others (d ∷ ds))))
          (grown_back more (f d.1 ++ flat_map (λ x. f x.1) ds) (f c.1) (f t ++ flat_map (λ x. f x.1) others) h)
      | false ↦ λ h. grown_front more (f c.1) (f d.1 ++ flat_map (λ x. f x.1) ds) (flat_map (λ x. f x.1) (set_chosen key t others d ds)) (set_grown f more key t others d ds h)
    ] is

pub length-put_after : {X : Type 0} (key : List ℕ) (new : List ℕ × X) (cs : List (List ℕ × X)) → length (put_after key new cs) ≡ suc (length cs)
length-put_after key new [] = refl
length-put_after key new (d ∷ ds) = elim (before key d.0) as (λ b. length (cond b (new ∷ d ∷ ds) (d ∷ put_after key new ds)) ≡ suc (suc (length ds))) [
  | true ↦ refl
  | false ↦ ap suc (length-put_after key new ds)
]

pub all_put_after : {X : Type 0} (P : List ℕ × X → Type 0) (key : List ℕ) (new : List ℕ × X) (cs : List (List ℕ × X)) → P new → AllByRecursion P cs → AllByRecursion P (put_after key new cs)
all_put_after P key new [] is all = (is, tt)
all_put_after P key new (d ∷ ds) is all = elim (before key d.0) as (λ b. AllByRecursion P (cond b (new ∷ d ∷ ds) (d ∷ put_after key new ds))) [
  | true ↦ (is, all)
  | false ↦ (all.0, all_put_after P key new ds is all.1)
]

pub all_left : {X : Type 0} (P : X → Type 0) (xs ys : List X) → AllByRecursion P (xs ++ ys) → AllByRecursion P xs
all_left P [] ys all = tt
all_left P (x ∷ xs) ys all = (all.0, all_left P xs ys all.1)

pub all_right : {X : Type 0} (P : X → Type 0) (xs ys : List X) → AllByRecursion P (xs ++ ys) → AllByRecursion P ys
all_right P [] ys all = all
all_right P (x ∷ xs) ys all = all_right P xs ys all.1

-- what holds of the children, where it holds of those that took the place of one
pub set_all : {X : Type 0} (P : List ℕ × X → Type 0) (key : List ℕ) (t : X) (more : List (List ℕ × X)) (c : List ℕ × X) (cs : List (List ℕ × X)) → AllByRecursion P (c ∷ cs) → ((k : List ℕ) (x : X) → P (k, x) → P (k, t)) → AllByRecursion P more
    → AllByRecursion P (set_chosen key t more c cs)
set_all P key t more c [] all put rest = (put c.0 c.1 all.0, rest)
set_all P key t more c (d ∷ ds) all put rest = elim (before key d.0) as (λ b. AllByRecursion P (cond b ((c.0, t) ∷ more ++ d ∷ ds) (c ∷ set_chosen key t more d ds))) [
  | true ↦ (put c.0 c.1 all.0, all_append P more (d ∷ ds) rest all.1)
  | false ↦ (all.0, set_all P key t more d ds all.1 put rest)
]

pub length-set_chosen : {X : Type 0} (key : List ℕ) (t : X) (more : List (List ℕ × X)) (c : List ℕ × X) (cs : List (List ℕ × X)) → length (set_chosen key t more c cs) ≡ suc (length more + length cs)
length-set_chosen key t more c [] = omega arith
length-set_chosen key t more c (d ∷ ds) = elim (before key d.0) as (λ b. length (cond b ((c.0, t) ∷ more ++ d ∷ ds) (c ∷ set_chosen key t more d ds)) ≡ suc (length more + suc (length ds))) [
  | true ↦ omega (arith, length-append more (d ∷ ds))
  | false ↦ omega (arith, length-set_chosen key t more d ds)
]
