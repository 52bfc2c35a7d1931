-- Live transactions stay distinct where one of them changes its place.
use Rattle.iso_model.proofs.{Distinct.none_there, Words.{◌≡◌, ◌∙◌, sym, refl, ℕ, Bool, true, false, ◌==◌, cond, List, [], ◌∷◌, find, None, bytes_eq, AllByRecursion, both_ways, eqb-true, eqb-false, bytes_eq-Decides, Live, Place, client, label, unattached, is_under_label, with, AreApart, AreTwo, AreDistinct}}

apart_sym : (p q : Place) → AreApart p q → AreApart q p
apart_sym (client c) (client d) apart = λ e. apart (sym e)
apart_sym (client c) (label text) apart = tt
apart_sym (client c) unattached apart = tt
apart_sym (label text) (label other) apart = λ e. apart (sym e)
apart_sym (label text) (client c) apart = tt
apart_sym (label text) unattached apart = tt
apart_sym unattached (client c) apart = tt
apart_sym unattached (label text) apart = tt
apart_sym unattached unattached apart = tt

-- two transactions, the one with the number of u in its place
two_with : (u x y : Live) → AreTwo x y → AreApart x.place u.place → AreApart y.place u.place
    → AreTwo (cond (x.number == u.number) u x) (cond (y.number == u.number) u y)
two_with u x y two first second = go (x.number == u.number) refl (y.number == u.number) refl
  where
    go : (a : Bool) → (x.number == u.number) ≡ a → (b : Bool) → (y.number == u.number) ≡ b → AreTwo (cond a u x) (cond b u y)
    go true e true f = absurd (two.numbers (eqb-true x.number u.number e ∙ sym (eqb-true y.number u.number f)))
    go true e false f = record { numbers = λ s. eqb-false y.number u.number f (sym s); places = apart_sym y.place u.place second }
    go false e true f = record { numbers = λ s. eqb-false x.number u.number e s; places = first }
    go false e false f = two

each_with : (u x : Live) (live : List Live) → AllByRecursion (AreTwo x) live → AreApart x.place u.place → AllByRecursion (λ v. AreApart v.place u.place) live
    → AllByRecursion (AreTwo (cond (x.number == u.number) u x)) (with u live)
each_with u x [] two first apart = tt
each_with u x (y ∷ live) two first apart = (two_with u x y two.0 first apart.0, each_with u x live two.1 first apart.1)

-- all stay two by two, where none is at the new place
pub distinct_placed : (u : Live) (live : List Live) → AreDistinct live → AllByRecursion (λ v. AreApart v.place u.place) live → AreDistinct (with u live)
distinct_placed u [] all apart = tt
distinct_placed u (x ∷ live) all apart = (each_with u x live all.0 apart.0 apart.1, distinct_placed u live all.1 apart.1)

-- where no transaction is under the label, all are apart from it
pub all_apart_from_label : (text : List ℕ) (live : List Live) → find (λ t. is_under_label text t.place) live ≡ None → AllByRecursion (λ t. AreApart t.place (label text)) live
all_apart_from_label text = none_there (is_under_label text) (label text) apart
  where
    apart : (p : Place) → is_under_label text p ≡ false → AreApart p (label text)
    apart (client d) off = tt
    apart (label other) off = λ e. both_ways (bytes_eq text other) off ((bytes_eq-Decides text other).1 (sym e))
    apart unattached off = tt
