-- What versions show that stand one after the other, and that hidden ones show nothing.
use Rattle.mv_index.proofs.{Words.{◌≡◌, ◌∙◌, sym, refl, ap, ℕ, ◌+◌, ◌-◌, ◌≤◌, Bool, true, false, ◌&&◌, ◌||◌, not, cond, nat_le, List, [], ◌∷◌, ◌++◌, Option, Some, None, get_or, arith, option_map, list_any, range_with_len, and_parts, leb-true, le-leb, or_else, Version, ShowTheSame, byte_in, byte_of, newest_with, place_in, place_of, has, hides, shown_since, still_shows, upto}, Again.{hidden_at, or_parts}}

pub or_else_twice : {A : Type 0} (x y z : Option A) → or_else x (or_else y z) ≡ or_else (or_else x y) z
or_else_twice x y z = grind arith

pub or_else_none : {A : Type 0} (x : Option A) → or_else x None ≡ x
or_else_none x = grind arith

-- the versions after come first
pub byte_in-append : (image : List ℕ) (xs ys : List Version) (p : ℕ) → byte_in image (xs ++ ys) p ≡ or_else (byte_in image ys p) (byte_in image xs p)
byte_in-append image [] ys p = sym (or_else_none (byte_in image ys p))
byte_in-append image (v ∷ xs) ys p =
    ap (λ (o : Option ℕ). or_else o (byte_of image v p)) (byte_in-append image xs ys p)
    ∙ sym (or_else_twice (byte_in image ys p) (byte_in image xs p) (byte_of image v p))

pub newest-append : (xs ys : List Version) (p : ℕ) → newest_with (xs ++ ys) p ≡ or_else (newest_with ys p) (newest_with xs p)
newest-append [] ys p = sym (or_else_none (newest_with ys p))
newest-append (v ∷ xs) ys p =
    ap (λ (o : Option Version). or_else o (cond (has p v) (Some v) None)) (newest-append xs ys p)
    ∙ sym (or_else_twice (newest_with ys p) (newest_with xs p) (cond (has p v) (Some v) None))

-- with one version more
pub newest_here : (versions : List Version) (v : Version) (p : ℕ) → has p v ≡ true → newest_with (versions ++ v ∷ []) p ≡ Some v
newest_here versions v p is = newest-append versions (v ∷ []) p ∙ ap (λ (b : Bool). or_else (cond b (Some v) None) (newest_with versions p)) is

pub newest_elsewhere : (versions : List Version) (v : Version) (p : ℕ) → has p v ≡ false → newest_with (versions ++ v ∷ []) p ≡ newest_with versions p
newest_elsewhere versions v p is = newest-append versions (v ∷ []) p ∙ ap (λ (b : Bool). or_else (cond b (Some v) None) (newest_with versions p)) is

-- a choice under a function
map_or : {A B : Type 0} (f : A → B) (x : A) (o : Option A) (b : Bool) → or_else (option_map f o) (cond b (Some (f x)) None) ≡ option_map f (or_else o (cond b (Some x) None))
map_or f x o b = grind arith

pub place_is : (versions : List Version) (p : ℕ) → place_in versions p ≡ option_map (λ v. v.place + (p - v.off)) (newest_with versions p)
place_is [] p = refl
place_is (v ∷ versions) p = ap (λ (o : Option ℕ). or_else o (place_of p v)) (place_is versions p) ∙ map_or (λ (w : Version). w.place + (p - w.off)) v (newest_with versions p) (has p v)

byte_there : (image : List ℕ) (versions : List Version) (p : ℕ) → byte_in image versions p ≡ option_map (λ k. get_or image k 0) (place_in versions p)
byte_there image [] p = refl
byte_there image (v ∷ versions) p =
    ap (λ (o : Option ℕ). or_else o (byte_of image v p)) (byte_there image versions p) ∙ map_or (λ k. get_or image k 0) (v.place + (p - v.off)) (place_in versions p) (has p v)

pub same_place : (xs ys : List Version) → ((p : ℕ) → place_in xs p ≡ place_in ys p) → ShowTheSame xs ys
same_place xs ys same image p = byte_there image xs p ∙ ap (option_map (λ k. get_or image k 0)) (same p) ∙ sym (byte_there image ys p)

pub place_newest : (xs ys : List Version) (p : ℕ) → newest_with xs p ≡ newest_with ys p → place_in xs p ≡ place_in ys p
place_newest xs ys p same = place_is xs p ∙ ap (option_map (λ (v : Version). v.place + (p - v.off))) same ∙ sym (place_is ys p)

pub same_newest : (xs ys : List Version) → ((p : ℕ) → newest_with xs p ≡ newest_with ys p) → ShowTheSame xs ys
same_newest xs ys same = same_place xs ys (λ p. place_newest xs ys p (same p))

is_upto : (n : ℕ) (v : Version) (versions : List Version) → v.number ≤ n → upto n (v ∷ versions) ≡ v ∷ upto n versions
is_upto n v versions le = ap (λ (t : Bool). cond t (v ∷ upto n versions) (upto n versions)) (le-leb v.number n le)

or_some : (x y : Option Version) (z : Version) → x ≡ Some z → or_else x y ≡ Some z
or_some x y z is = ap (λ (o : Option Version). or_else o y) is

-- a version shows the bytes that it has
shows_own : (v : Version) (p : ℕ) (o : Option Version) → has p v ≡ true → (x : Version) × (or_else o (cond (has p v) (Some v) None) ≡ Some x)
shows_own v p None is = (v, ap (λ (t : Bool). cond t (Some v) None) is)
shows_own v p (Some x) is = (x, refl)

-- the same with one version more
shows_some_step : (t n p : ℕ) (v : Version) (versions : List Version) → t ≤ n
    → (hides t p versions ≡ true → (x : Version) × (newest_with (upto n versions) p ≡ Some x))
    → (early here : Bool) → nat_le v.number n ≡ early → (nat_le v.number t && has p v) ≡ here → (here || hides t p versions) ≡ true
    → (x : Version) × (newest_with (cond early (v ∷ upto n versions) (upto n versions)) p ≡ Some x)
shows_some_step t n p v versions le before early true early_is here_is hidden =
    let both = and_parts (nat_le v.number t) (has p v) here_is in
    let under : v.number ≤ n = omega (arith, leb-true v.number t both.0) in
    let e : early ≡ true = sym early_is ∙ le-leb v.number n under in
    let own = shows_own v p (newest_with (upto n versions) p) both.1 in
    (own.0, ap (λ (b : Bool). newest_with (cond b (v ∷ upto n versions) (upto n versions)) p) e ∙ own.1)
shows_some_step t n p v versions le before true false early_is here_is hidden = grind (arith, or_some)
shows_some_step t n p v versions le before false false early_is here_is hidden = before hidden

-- where some version up to t has the byte, the versions up to n show one
pub shows_some : (t n p : ℕ) (versions : List Version) → t ≤ n → hides t p versions ≡ true → (x : Version) × (newest_with (upto n versions) p ≡ Some x)
shows_some t n p [] le hidden = cc
shows_some t n p (v ∷ versions) le hidden = shows_some_step t n p v versions le (shows_some t n p versions le) (nat_le v.number n) (nat_le v.number t && has p v) refl refl hidden

-- both sides with one version more
both_more : (n p : ℕ) (v : Version) (xs ys : List Version) → newest_with (upto n xs) p ≡ newest_with (upto n ys) p → (early : Bool)
    → newest_with (cond early (v ∷ upto n xs) (upto n xs)) p ≡ newest_with (cond early (v ∷ upto n ys) (upto n ys)) p
both_more n p v xs ys same true = ap (λ (o : Option Version). or_else o (cond (has p v) (Some v) None)) same
both_more n p v xs ys same false = same

or_kept : (x y : Option Version) (z : Version) → x ≡ Some z → or_else x y ≡ x
or_kept x y z is = or_some x y z is ∙ sym is

-- a hidden version changes nothing
hidden_none : (t n p : ℕ) (v : Version) (versions : List Version) → t ≤ n
    → list_any (λ p. not (hides t p versions)) (range_with_len v.off v.len) ≡ false
    → (here : Bool) → has p v ≡ here
    → or_else (newest_with (upto n versions) p) (cond (has p v) (Some v) None) ≡ newest_with (upto n versions) p
hidden_none t n p v versions le none true is =
    let some = shows_some t n p versions le (hidden_at t v versions p none is) in
    or_kept (newest_with (upto n versions) p) (cond (has p v) (Some v) None) some.0 some.1
hidden_none t n p v versions le none false is = grind (arith, or_else_none)

since_step : (t n p : ℕ) (v : Version) (versions : List Version) → t ≤ n
    → newest_with (upto n (shown_since t versions)) p ≡ newest_with (upto n versions) p
    → (shows : Bool) → still_shows t v versions ≡ shows
    → newest_with (upto n (cond shows (v ∷ shown_since t versions) (shown_since t versions))) p ≡ newest_with (upto n (v ∷ versions)) p
since_step t n p v versions le same true is = both_more n p v (shown_since t versions) versions same (nat_le v.number n)
since_step t n p v versions le same false is = grind (arith, or_parts, not, is_upto, hidden_none)

-- A version that shows no byte more at t shows none at any n from t on.
pub newest_since : (t n p : ℕ) (versions : List Version) → t ≤ n → newest_with (upto n (shown_since t versions)) p ≡ newest_with (upto n versions) p
newest_since t n p [] le = refl
newest_since t n p (v ∷ versions) le = since_step t n p v versions le (newest_since t n p versions le) (still_shows t v versions) refl

pub since_same : (image : List ℕ) (t n p : ℕ) (versions : List Version) → t ≤ n → byte_in image (upto n (shown_since t versions)) p ≡ byte_in image (upto n versions) p
since_same image t n p versions le = same_newest (upto n (shown_since t versions)) (upto n versions) (λ q. newest_since t n q versions le) image p

-- the number of no version is above this one
abbrev highest : List Version → ℕ
highest [] = 0
highest (v ∷ versions) = v.number + highest versions

all_upto : (n : ℕ) (versions : List Version) → highest versions ≤ n → upto n versions ≡ versions
all_upto n [] le = refl
all_upto n (v ∷ versions) le = is_upto n v versions (omega (arith, le)) ∙ ap (λ (l : List Version). v ∷ l) (all_upto n versions (omega (arith, le)))

shown_lower_cond : (t : ℕ) (v : Version) (versions : List Version) → highest (shown_since t versions) ≤ highest versions → (b : Bool) → highest (cond b (v ∷ shown_since t versions) (shown_since t versions)) ≤ v.number + highest versions
shown_lower_cond t v versions le b = grind arith

shown_lower : (t : ℕ) (versions : List Version) → highest (shown_since t versions) ≤ highest versions
shown_lower t [] = omega arith
shown_lower t (v ∷ versions) = shown_lower_cond t v versions (shown_lower t versions) (still_shows t v versions)

pub newest_kept : (t p : ℕ) (versions : List Version) → newest_with (shown_since t versions) p ≡ newest_with versions p
newest_kept t p versions =
    ap (λ (l : List Version). newest_with l p) (sym (all_upto (t + highest versions) (shown_since t versions) (omega (arith, shown_lower t versions))))
    ∙ newest_since t (t + highest versions) p versions (omega arith)
    ∙ ap (λ (l : List Version). newest_with l p) (all_upto (t + highest versions) versions (omega arith))
