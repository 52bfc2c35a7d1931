-- Live transactions stay distinct.
use Rattle.iso_model.proofs.Words.{◌≡◌, ◌∙◌, sym, refl, ap, ℕ, suc, ◌≤◌, Bool, true, false, ◌==◌, cond, List, [], ◌∷◌, ◌++◌, length, map, filter, find, Some, None, arith, eq-eqb, subst, AllByRecursion, eqb-true, both_ways, none-some, same_Some, Live, Place, client, label, unattached, is_at_client, with, AreApart, AreTwo, AreDistinct}

pub all_filter : {X : Type 0} (P : X → Type 0) (test : X → Bool) (xs : List X) → AllByRecursion P xs → AllByRecursion P (filter test xs)
all_filter P test [] all = tt
all_filter P test (x ∷ xs) all =
    elim (test x) as (λ t. AllByRecursion P (cond t (x ∷ filter test xs) (filter test xs))) [
      | true ↦ (all.0, all_filter P test xs all.1)
      | false ↦ all_filter P test xs all.1
    ]

pub all_find : {X : Type 0} (P : X → Type 0) (test : X → Bool) (xs : List X) (x : X) → AllByRecursion P xs → find test xs ≡ Some x → P x
all_find P test [] x all found = cc
all_find P test (y ∷ xs) x all found = go (test y) found (λ rest. all_find P test xs x all.1 rest)
  where
    go : (t : Bool) → cond t (Some y) (find test xs) ≡ Some x → (find test xs ≡ Some x → P x) → P x
    go true found rest = subst P (same_Some y x found) all.0
    go false found rest = rest found

pub length-filter : {X : Type 0} (test : X → Bool) (xs : List X) → length (filter test xs) ≤ length xs
length-filter test [] = omega arith
length-filter test (x ∷ xs) =
    elim (test x) as (λ t. length (cond t (x ∷ filter test xs) (filter test xs)) ≤ length (x ∷ xs)) [
      | true ↦ omega (arith, length-filter test xs)
      | false ↦ omega (arith, length-filter test xs)
    ]

pub distinct_filter : (test : Live → Bool) (live : List Live) → AreDistinct live → AreDistinct (filter test live)
distinct_filter test [] all = tt
distinct_filter test (t ∷ live) all =
    elim (test t) as (λ b. AreDistinct (cond b (t ∷ filter test live) (filter test live))) [
      | true ↦ (all_filter (AreTwo t) test live all.0, distinct_filter test live all.1)
      | false ↦ distinct_filter test live all.1
    ]

all_push_last : {X : Type 0} (P : X → Type 0) (xs : List X) (y : X) → AllByRecursion P xs → P y → AllByRecursion P (xs ++ y ∷ [])
all_push_last P [] y all is = (is, tt)
all_push_last P (x ∷ xs) y all is = (all.0, all_push_last P xs y all.1 is)

pub distinct_push : (live : List Live) (t : Live) → AreDistinct live → AllByRecursion (λ u. AreTwo u t) live → AreDistinct (live ++ t ∷ [])
distinct_push [] t all two = (tt, tt)
distinct_push (u ∷ live) t all two = (all_push_last (AreTwo u) live t all.0 two.0, distinct_push live t all.1 two.1)

-- a change that keeps number and place
abbrev pub Keeps : (Live → Live) → Live → Type 0
Keeps f u = ((f u).number ≡ u.number) × ((f u).place ≡ u.place)

two_map : (f : Live → Live) (t : Live) (live : List Live) → Keeps f t → AllByRecursion (Keeps f) live → AllByRecursion (AreTwo t) live → AllByRecursion (AreTwo (f t)) (map f live)
two_map f t [] here keeps all = tt
two_map f t (u ∷ live) here keeps all = (
  record {
    numbers = λ e. all.0.numbers (sym here.0 ∙ e ∙ keeps.0.0);
    places = subst (λ (p : Place). AreApart p (f u).place) (sym here.1) (subst (AreApart t.place) (sym keeps.0.1) all.0.places);
  },
  two_map f t live here keeps.1 all.1,
)

pub distinct_map : (f : Live → Live) (live : List Live) → AllByRecursion (Keeps f) live → AreDistinct live → AreDistinct (map f live)
distinct_map f [] keeps all = tt
distinct_map f (t ∷ live) keeps all = (two_map f t live keeps.0 keeps.1 all.0, distinct_map f live keeps.1 all.1)

-- those with the number of one of them are that one
pub same_number : (test : Live → Bool) (live : List Live) (t : Live) → AreDistinct live → find test live ≡ Some t → AllByRecursion (λ u. u.number ≡ t.number → u ≡ t) live
same_number test [] t all found = tt
same_number test (x ∷ live) t all found = go (test x) found (λ more. same_number test live t all.1 more)
  where
    others : (us : List Live) → AllByRecursion (AreTwo t) us → AllByRecursion (λ u. u.number ≡ t.number → u ≡ t) us
    others [] two = tt
    others (u ∷ us) two = ((λ e. absurd (two.0.numbers (sym e))), others us two.1)

    go : (b : Bool) → cond b (Some x) (find test live) ≡ Some t → (find test live ≡ Some t → AllByRecursion (λ u. u.number ≡ t.number → u ≡ t) live)
        → AllByRecursion (λ u. u.number ≡ t.number → u ≡ t) (x ∷ live)
    go true found rest =
        let same : x ≡ t = same_Some x t found in
        ((λ e. same), others live (subst (λ (y : Live). AllByRecursion (AreTwo y) live) same all.0))
    go false found rest = ((λ e. absurd ((all_find (AreTwo x) test live t all.0 found).numbers e)), rest found)

-- one of them in another state, with its number and place
pub distinct_with : (test : Live → Bool) (live : List Live) (t u : Live) → AreDistinct live → find test live ≡ Some t → u.number ≡ t.number → u.place ≡ t.place
    → AreDistinct (with u live)
distinct_with test live t u all found number place =
    distinct_map (λ v. cond (v.number == u.number) u v) live (each live (same_number test live t all found)) all
  where
    each : (vs : List Live) → AllByRecursion (λ v. v.number ≡ t.number → v ≡ t) vs → AllByRecursion (Keeps (λ v. cond (v.number == u.number) u v)) vs
    each [] same = tt
    each (v ∷ vs) same = (go (v.number == u.number) refl, each vs same.1)
      where
        go : (b : Bool) → (v.number == u.number) ≡ b → ((cond b u v).number ≡ v.number) × ((cond b u v).place ≡ v.place)
        go true e =
            let one : v.number ≡ u.number = eqb-true v.number u.number e in
            (sym one, place ∙ sym (ap (λ (w : Live). w.place) (same.0 (one ∙ number))))
        go false e = (refl, refl)

pub length-with : (u : Live) (live : List Live) → length (with u live) ≡ length live
length-with u [] = refl
length-with u (v ∷ live) = ap suc (length-with u live)

-- where a search by places finds none, all are apart from a place that each other place that it passes over is apart from
pub none_there : (test : Place → Bool) (at : Place) → ((p : Place) → test p ≡ false → AreApart p at) → (live : List Live) → find (λ t. test t.place) live ≡ None
    → AllByRecursion (λ t. AreApart t.place at) live
none_there test at apart [] none = tt
none_there test at apart (t ∷ live) none = go (test t.place) refl none (λ more. none_there test at apart live more)
  where
    go : (b : Bool) → test t.place ≡ b → cond b (Some t) (find (λ t. test t.place) live) ≡ None → (find (λ t. test t.place) live ≡ None → AllByRecursion (λ t. AreApart t.place at) live)
        → AllByRecursion (λ t. AreApart t.place at) (t ∷ live)
    go true e none rest = absurd (none-some t (sym none))
    go false e none rest = (apart t.place e, rest none)

-- where no transaction is attached to the client, all are apart from it
pub all_apart : (c : ℕ) (live : List Live) → find (λ t. is_at_client c t.place) live ≡ None → AllByRecursion (λ t. AreApart t.place (client c)) live
all_apart c = none_there (is_at_client c) (client c) apart
  where
    apart : (p : Place) → is_at_client c p ≡ false → AreApart p (client c)
    apart (client d) off = λ e. both_ways (c == d) off (eq-eqb c d (sym e))
    apart (label text) off = tt
    apart unattached off = tt
