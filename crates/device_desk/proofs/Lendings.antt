-- Works that are lent to a group and given back.
use Rattle.iso_machine.proofs.Words.{◌≡◌, ◌≢◌, ◌∙◌, sym, refl, ap, subst, ℕ, zero, suc, ◌+◌, ◌<◌, List, [], ◌∷◌, ◌++◌, length, get_or, set, map, take, drop, arith, append_assoc, append-nil, false, Result, Ok, Err, OnOk, map-append, set-get_or, AllByRecursion, DiskState, CoreError, Geometry, Live, World, Core, GroupEnd, reply_in, Doing, Bool, true}
use Rattle.std.proofs.lemmas.List.{get_or-map, get_or-set_same, length-map, length-set, map-set, map_more}
use Rattle.std.proofs.lemmas.List.Sums.{sum_by-cons}
use Rattle.std.specs.Bool.{OnTrue}
use Rattle.iso_core.specs.Planned.{bare_end}
use Rattle.iso_model.specs.{Effect.{record_length, runs}, World.client}
use Rattle.device_desk.specs.{declared.seat.Seat.Seat, Lent.{ArePlaces, HasEnded, doing_of, items_at, members_with}, Numbers.member_of, Seats.{IsSized, live_of}, Waiting.needs}

-- an item of a list that is not empty
pub pick : {X : Type 0} (xs : List X) (i : ℕ) → i < length xs → X
pick [] i inside = absurd (omega (arith, inside))
pick (x ∷ xs) i inside = x

pub one_at : {X : Type 0} (xs : List X) (i : ℕ) (d : X) → i < length xs → take 1 (drop i xs) ≡ get_or xs i d ∷ []
one_at [] i d inside = absurd (omega (arith, inside))
one_at (x ∷ xs) zero d inside = refl
one_at (x ∷ xs) (suc i) d inside = one_at xs i d (omega (arith, inside))

other_at : {X : Type 0} (xs : List X) (i j : ℕ) (y : X) → j ≢ i → take 1 (drop j (set xs i y)) ≡ take 1 (drop j xs)
other_at [] i j y other = refl
other_at (x ∷ xs) zero zero y other = absurd (other refl)
other_at (x ∷ xs) zero (suc j) y other = refl
other_at (x ∷ xs) (suc i) zero y other = refl
other_at (x ∷ xs) (suc i) (suc j) y other = other_at xs i j y (λ e. other (ap suc e))

set_twice : {X : Type 0} (xs : List X) (i : ℕ) (y z : X) → set (set xs i y) i z ≡ set xs i z
set_twice [] i y z = refl
set_twice (x ∷ xs) zero y z = refl
set_twice {X = X} (x ∷ xs) (suc i) y z = ap (λ (l : List X). x ∷ l) (set_twice xs i y z)

-- two lists with one item after each
last_same : {X : Type 0} (xs ys : List X) (x y : X) → xs ++ x ∷ [] ≡ ys ++ y ∷ [] → (xs ≡ ys) × (x ≡ y)
last_same [] [] x y is = (refl, cc is)
last_same [] (y' ∷ []) x y is = absurd (cc is)
last_same [] (y' ∷ y'' ∷ ys) x y is = absurd (cc is)
last_same (x' ∷ []) [] x y is = absurd (cc is)
last_same (x' ∷ x'' ∷ xs) [] x y is = absurd (cc is)
last_same {X = X} (x' ∷ xs) (y' ∷ ys) x y is =
    let first : x' ≡ y' = cc is in
    let rest = last_same xs ys x y (cc is) in
    ((λ i. first i ∷ rest.0 i), rest.1)

items_apart : {X : Type 0} (places : List ℕ) (xs : List X) (i : ℕ) (y : X) → AllByRecursion (λ j. j ≢ i) places → items_at places (set xs i y) ≡ items_at places xs
items_apart [] xs i y apart = refl
items_apart (j ∷ places) xs i y apart = λ k. other_at xs i j y apart.0 k ++ items_apart places xs i y apart.1 k

-- nobody else has to lend
pub no_more : (so_far : List GroupEnd) (places : List ℕ) (live : List Seat) → length places ≡ 0 → members_with so_far places live ≡ so_far
no_more so_far [] live none = append-nil so_far
no_more so_far (i ∷ places) live none = absurd (omega (arith, none))

-- one more has lent its work
pub same_members : (so_far more : List GroupEnd) (all places : List ℕ) (live lent : List Seat) (i : ℕ) → all ≡ i ∷ places → ArePlaces (length live) all
    → ((d : Seat) → (lent ≡ set live i (get_or lent i d)) × ((get_or lent i d).tx ≡ (get_or live i d).tx)) → ((d : Seat) → more ≡ so_far ++ member_of (get_or live i d) ∷ [])
    → members_with more places lent ≡ members_with so_far all live
same_members so_far more all places live lent i are within is ends =
    let have : ArePlaces (length live) (i ∷ places) = subst (ArePlaces (length live)) are within in
    let d : Seat = pick live i have.0 in
    let m : GroupEnd = member_of (get_or live i d) in
    let rest : List GroupEnd = map member_of (items_at places live) in
    (λ k. ends d k ++ map member_of (items_at places ((is d).0 k)))
    ∙ ap (λ (l : List Seat). (so_far ++ m ∷ []) ++ map member_of l) (items_apart places live i (get_or lent i d) have.1)
    ∙ append_assoc so_far (m ∷ []) rest
    ∙ ap (λ (l : List Seat). so_far ++ map member_of (l ++ items_at places live)) (sym (one_at live i d have.0))
    ∙ ap (λ (l : List ℕ). members_with so_far l live) (sym are)

-- the others have places still
pub others_within : (all places : List ℕ) (live lent : List Seat) (i : ℕ) → all ≡ i ∷ places → ArePlaces (length live) all → length lent ≡ length live → ArePlaces (length lent) places
others_within all places live lent i are within same =
    let have : ArePlaces (length live) (i ∷ places) = subst (ArePlaces (length live)) are within in
    subst (λ (n : ℕ). ArePlaces n places) (sym same) have.2

-- what the end of the members says of the last of them and of those before it
pub last_kept : (count : ℕ) (ends lent kept : List GroupEnd) (m e : GroupEnd) → count < length kept → map bare_end (take (count + 1) kept) ≡ map bare_end (take (count + 1) lent) → take (count + 1) lent ≡ take count ends ++ m ∷ []
    → (map bare_end (take count kept) ≡ map bare_end (take count ends)) × (bare_end (get_or kept count e) ≡ bare_end m)
last_kept count ends lent kept m e inside same is =
    last_same (map bare_end (take count kept)) (map bare_end (take count ends)) (bare_end (get_or kept count e)) (bare_end m)
    (sym (map_more bare_end kept count e inside) ∙ same ∙ ap (map bare_end) is ∙ map-append bare_end (take count ends) (m ∷ []))

-- what was lent is given back
pub given_back : (old lent kept now : List Seat) (i : ℕ) (b c d : Seat) (m : GroupEnd) → i < length old → lent ≡ set old i b → map doing_of kept ≡ map doing_of lent → now ≡ set kept i c → b.tx ≡ (get_or old i d).tx → c.tx ≡ (get_or kept i d).tx
    → c.work.value ≡ m.work → bare_end m ≡ bare_end (member_of (get_or old i d)) → map doing_of now ≡ map doing_of old
given_back old lent kept now i b c d m inside lends keeps back number same_number work same_work =
    let a : Seat = get_or old i d in
    let lent_long : i < length lent = omega (arith, inside, ap length lends, length-set old i b) in
    let kept_long : i < length kept = omega (arith, lent_long, ap length keeps, length-map kept doing_of, length-map lent doing_of) in
    let same : doing_of (get_or kept i d) ≡ doing_of (get_or lent i d) =
    sym (get_or-map doing_of kept i d (doing_of d) kept_long) ∙ ap (λ (l : List (ℕ × Doing)). get_or l i (doing_of d)) keeps ∙ get_or-map doing_of lent i d (doing_of d) lent_long in
    let there : get_or lent i d ≡ b = ap (λ (l : List Seat). get_or l i d) lends ∙ get_or-set_same old i b d inside in
    let its_number : c.tx ≡ a.tx = same_number ∙ ap (λ (x : ℕ × Doing). x.0) same ∙ ap (λ (x : Seat). x.tx) there ∙ number in
    let its_work : record c.work.value { settled = false } ≡ record a.work.value { settled = false } =
    ap (λ (w : Doing). record w { settled = false }) work ∙ ap (λ (x : GroupEnd). x.work) same_work in
    let its_doing : doing_of c ≡ doing_of a = λ j. (its_number j, its_work j) in
    ap (λ (l : List Seat). map doing_of l) back ∙ map-set doing_of kept i c ∙ (λ j. set (keeps j) i (its_doing j)) ∙ sym (map-set doing_of lent i a)
    ∙ ap (λ (l : List Seat). map doing_of (set l i a)) lends ∙ ap (λ (l : List Seat). map doing_of l) (set_twice old i b a ∙ set-get_or old i d)

on_ok : {T E P Q : Type 0} (r : Result T E) → (P → Q) → OnOk r P → OnOk r Q
on_ok (Ok x) leads is = leads is
on_ok (Err e) leads is = tt

-- the replies are what matters of the ends
pub ended_so : {D T : Type 0} {state : D → DiskState} {old new : Core D} {W : World} {members : List Live} {ends : List GroupEnd} {result : Result T CoreError} (other : List GroupEnd) → map reply_in other ≡ map reply_in ends
    → HasEnded state old new W members ends result → HasEnded state old new W members other result
ended_so {result = result} other same is = record {
  ended = on_ok result (λ e. (same ∙ e.0, e.1)) is.ended;
  same = is.same;
  only = is.only;
  moments = is.moments;
  untouched = is.untouched;
  told = is.told;
  cause = is.cause;
}

pub item_live : (live : List Seat) (i : ℕ) (d : Seat) → i < length live → take 1 (drop i (map live_of live)) ≡ live_of (get_or live i d) ∷ []
item_live [] i d inside = absurd (omega (arith, inside))
item_live (a ∷ live) zero d inside = refl
item_live (a ∷ live) (suc i) d inside = item_live live i d (omega (arith, inside))

-- the records of the first and of the others
pub needs_first : (g : Geometry) (live : List Seat) (i : ℕ) (d : Seat) (all others : List ℕ) → all ≡ i ∷ others → i < length live
    → needs g (items_at all (map live_of live)) ≡ record_length (runs g (get_or live i d).work.value.accesses) + needs g (items_at others (map live_of live))
needs_first g live i d all others are inside =
    ap (λ (l : List ℕ). needs g (items_at l (map live_of live))) are ∙ ap (λ (l : List Live). needs g (l ++ items_at others (map live_of live))) (item_live live i d inside)
    ∙ sum_by-cons (λ (t : Live). record_length (runs g t.accesses)) (live_of (get_or live i d)) (items_at others (map live_of live))

pub on_true : {P Q : Type 0} (b : Bool) → (P → Q) → OnTrue b P → OnTrue b Q
on_true true leads is = leads is
on_true false leads is = tt

-- what transactions do says what they are
pub same_live : (xs ys : List Seat) → map doing_of xs ≡ map doing_of ys → map live_of xs ≡ map live_of ys
same_live [] [] same = refl
same_live [] (y ∷ ys) same = absurd (cc same)
same_live (x ∷ xs) [] same = absurd (cc same)
same_live (x ∷ xs) (y ∷ ys) same =
    let first : doing_of x ≡ doing_of y = cc same in
    let rest = same_live xs ys (cc same) in
    λ j. record { number = (first j).0; begin = (first j).1.begin; mode = (first j).1.mode; accesses = (first j).1.accesses; place = client (first j).0 } ∷ rest j

pub same_sized : (g : Geometry) (xs ys : List Seat) → map doing_of xs ≡ map doing_of ys → AllByRecursion (IsSized g) ys → AllByRecursion (IsSized g) xs
same_sized g [] [] same all = tt
same_sized g [] (y ∷ ys) same all = absurd (cc same)
same_sized g (x ∷ xs) [] same all = absurd (cc same)
same_sized g (x ∷ xs) (y ∷ ys) same all =
    let first : doing_of x ≡ doing_of y = cc same in
    (record { size = ap (λ (d : ℕ × Doing). d.1.size) first ∙ all.0.size; blocks = ap (λ (d : ℕ × Doing). d.1.blocks) first ∙ all.0.blocks }, same_sized g xs ys (cc same) all.1)
