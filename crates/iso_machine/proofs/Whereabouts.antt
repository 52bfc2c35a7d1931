-- Who is at a client and who under a label, and what is noted of them.
use Rattle.iso_machine.proofs.{Words.{◌≡◌, ◌≢◌, ◌∙◌, ◌⊎◌, inl, inr, sym, refl, ap, subst, ℕ, zero, suc, ◌<◌, Bool, true, false, IsTrue, cond, List, [], ◌∷◌, length, get_or, set, map, arith, ne_eqb, eqb-true, both_ways, bytes_eq, bytes_eq-Decides, cases_eq, Option, Some, None, slice_index_or, find, AllByRecursion, Live, Place, client, label, unattached, is_at_client, is_label, is_under_label, AreDistinct, AreTwo, Attached, AreListed, Finder, IsOff, live_of, number_at, number_under, place_of, AreApart, same_Some}, Lists.two_at}
use Rattle.iso_machine.specs.declared.attached.Spot.TheVariants as spot

-- of two places that are apart one alone passes
abbrev pub IsLone : (Place → Bool) → Type 0
IsLone test = (p q : Place) → AreApart p q → test p ≡ true → test q ≡ false

same_text : (xs ys : List ℕ) → (xs ≡ ys) ⊎ (xs ≢ ys)
same_text xs ys = go (bytes_eq xs ys) refl
  where
    go : (t : Bool) → bytes_eq xs ys ≡ t → (xs ≡ ys) ⊎ (xs ≢ ys)
    go true is = inl ((bytes_eq-Decides xs ys).0 is)
    go false is = inr (λ e. absurd (both_ways (bytes_eq xs ys) is ((bytes_eq-Decides xs ys).1 e)))

other_text : (xs ys : List ℕ) → xs ≢ ys → bytes_eq xs ys ≡ false
other_text xs ys other = go (bytes_eq xs ys) refl
  where
    go : (t : Bool) → bytes_eq xs ys ≡ t → bytes_eq xs ys ≡ false
    go true is = absurd (other ((bytes_eq-Decides xs ys).0 is))
    go false is = is

pub client_lone : (c : ℕ) → IsLone (is_at_client c)
client_lone c (client x) (client y) apart at = ne_eqb c y (λ e. apart (sym (eqb-true c x at) ∙ e))
client_lone c (client x) (label text) apart at = refl
client_lone c (client x) unattached apart at = refl
client_lone c (label text) q apart at = cc at
client_lone c unattached q apart at = cc at

pub label_lone : (text : List ℕ) → IsLone (is_under_label text)
label_lone text (label xs) (label ys) apart at = other_text text ys (λ e. apart (sym ((bytes_eq-Decides text xs).0 at) ∙ e))
label_lone text (label xs) (client y) apart at = refl
label_lone text (label xs) unattached apart at = refl
label_lone text (client x) q apart at = cc at
label_lone text unattached q apart at = cc at

module _ (test : Place → Bool) (lone : IsLone test) where
  before_off : (p q : Place) → AreApart p q → test q ≡ true → test p ≡ false
  before_off p q apart at = go (test p) refl
    where
      go : (t : Bool) → test p ≡ t → test p ≡ false
      go true is = absurd (both_ways (test q) (lone p q apart is) at)
      go false is = is

  others_off : (a : Attached) (live : List Attached) → AllByRecursion (AreTwo (live_of a)) (map live_of live) → test (place_of a.spot) ≡ true → AllByRecursion (IsOff test) live
  others_off a [] two at = tt
  others_off a (b ∷ live) two at = (lone (place_of a.spot) (place_of b.spot) two.0.places at, others_off a live two.1 at)

  -- where the one that was there is elsewhere, nobody is there
  pub alone : (live : List Attached) (i : ℕ) (d b : Attached) → AreDistinct (map live_of live) → i < length live → test (place_of (get_or live i d).spot) ≡ true → IsOff test b → AllByRecursion (IsOff test) (set live i b)
  alone [] i d b distinct inside at is = absurd (omega (arith, inside))
  alone (a ∷ live) zero d b distinct inside at is = (is, others_off a live distinct.0 at)
  alone (a ∷ live) (suc i) d b distinct inside at is =
      let two = two_at (live_of a) live i d distinct.0 (omega (arith, inside)) in
      (before_off (place_of a.spot) (place_of (get_or live i d).spot) two.places at, alone live i d b distinct.1 (omega (arith, inside)) at is)

  -- what is found there
  pub found_there : (live : List Attached) (i : ℕ) (d : Attached) → AreDistinct (map live_of live) → i < length live → test (place_of (get_or live i d).spot) ≡ true
      → find (λ t. test t.place) (map live_of live) ≡ Some (live_of (get_or live i d))
  found_there [] i d distinct inside at = absurd (omega (arith, inside))
  found_there (a ∷ live) zero d distinct inside at = rw at refl
  found_there (a ∷ live) (suc i) d distinct inside at =
      let two = two_at (live_of a) live i d distinct.0 (omega (arith, inside)) in
      let off = before_off (place_of a.spot) (place_of (get_or live i d).spot) two.places at in
      rw off (found_there live i d distinct.1 (omega (arith, inside)) at)

module _ (test : Place → Bool) where
  pub nobody_there : (live : List Attached) → AllByRecursion (IsOff test) live → find (λ t. test t.place) (map live_of live) ≡ None
  nobody_there [] all = refl
  nobody_there (a ∷ live) all = rw all.0 (nobody_there live all.1)

  pub all_off : (live : List Attached) → find (λ t. test t.place) (map live_of live) ≡ None → AllByRecursion (IsOff test) live
  all_off [] none = tt
  all_off (a ∷ live) none = go (test (place_of a.spot)) refl none (all_off live)
    where
      go : (b : Bool) → test (place_of a.spot) ≡ b → cond b (Some (live_of a)) (find (λ t. test t.place) (map live_of live)) ≡ None
          → (find (λ t. test t.place) (map live_of live) ≡ None → AllByRecursion (IsOff test) live) → AllByRecursion (IsOff test) (a ∷ live)
      go true at none rest = cc none
      go false at none rest = (at, rest none)

  pub is_there : (live : List Live) (t : Live) → find (λ t. test t.place) live ≡ Some t → test t.place ≡ true
  is_there [] t found = cc found
  is_there (u ∷ live) t found = go (test u.place) refl found (is_there live t)
    where
      go : (b : Bool) → test u.place ≡ b → cond b (Some u) (find (λ t. test t.place) live) ≡ Some t → (find (λ t. test t.place) live ≡ Some t → test t.place ≡ true) → test t.place ≡ true
      go true at found rest = subst (λ (v : Live). test v.place ≡ true) (same_Some u t found) at
      go false at found rest = rest found

abbrev AreAtClients : Finder → List Attached → Type 0
AreAtClients finder live = (c : ℕ) → c < 256 → number_at c finder ≡ None → AllByRecursion (IsOff (is_at_client c)) live

abbrev AreUnderLabels : Finder → List Attached → Type 0
AreUnderLabels finder live = (text : List ℕ) → IsTrue (is_label text) → number_under text finder ≡ None → AllByRecursion (IsOff (is_under_label text)) live

-- one comes to a client
pub clients_come : (finder new : Finder) (live list : List Attached) (b : Attached) (c tx : ℕ) → ((test : Place → Bool) → AllByRecursion (IsOff test) live → IsOff test b → AllByRecursion (IsOff test) list)
    → AreAtClients finder live → b.spot ≡ spot.Client c → number_at c new ≡ Some tx → ((k : ℕ) → k ≢ c → number_at k new ≡ number_at k finder) → AreAtClients new list
clients_come finder new live list b c tx more listed at own others k fits none = elim (cases_eq k c) [
  | inl same ↦ (let here : number_at k new ≡ Some tx = ap (λ (n : ℕ). number_at n new) same ∙ own in absurd (cc (here, none)))
  | inr other ↦ more (is_at_client k) (listed k fits (sym (others k other) ∙ none)) (ap (λ s. is_at_client k (place_of s)) at ∙ ne_eqb k c other)
]

-- the one at a client goes
pub clients_go : (finder new : Finder) (live list : List Attached) (c : ℕ) → ((k : ℕ) → AllByRecursion (IsOff (is_at_client k)) live → AllByRecursion (IsOff (is_at_client k)) list)
    → AllByRecursion (IsOff (is_at_client c)) list → AreAtClients finder live → ((k : ℕ) → k ≢ c → number_at k new ≡ number_at k finder) → AreAtClients new list
clients_go finder new live list c stay gone listed others k fits none = elim (cases_eq k c) [
  | inl same ↦ subst (λ (n : ℕ). AllByRecursion (IsOff (is_at_client n)) list) (sym same) gone
  | inr other ↦ stay k (listed k fits (sym (others k other) ∙ none))
]

-- one comes under a label
pub labels_come : (finder new : Finder) (live list : List Attached) (b : Attached) (text : List ℕ) (tx : ℕ) → ((test : Place → Bool) → AllByRecursion (IsOff test) live → IsOff test b → AllByRecursion (IsOff test) list)
    → AreUnderLabels finder live → place_of b.spot ≡ label text → number_under text new ≡ Some tx → ((other : List ℕ) → number_under other new ≡ number_under other finder) → AreUnderLabels new list
labels_come finder new live list b text tx more listed at own same other is none = elim (same_text other text) [
  | inl e ↦ (let here : number_under other new ≡ Some tx = ap (λ (l : List ℕ). number_under l new) e ∙ own in absurd (cc (here, none)))
  | inr apart ↦ more (is_under_label other) (listed other is (sym (same other) ∙ none)) (ap (is_under_label other) at ∙ other_text other text apart)
]

-- the one under a label goes
pub labels_go : (finder new : Finder) (live list : List Attached) (text : List ℕ) → ((other : List ℕ) → AllByRecursion (IsOff (is_under_label other)) live → AllByRecursion (IsOff (is_under_label other)) list)
    → AllByRecursion (IsOff (is_under_label text)) list → AreUnderLabels finder live
    → ((other : List ℕ) → IsTrue (is_label other) → other ≢ text → number_under other new ≡ number_under other finder) → AreUnderLabels new list
labels_go finder new live list text stay gone listed others other is none = elim (same_text other text) [
  | inl e ↦ subst (λ (l : List ℕ). AllByRecursion (IsOff (is_under_label l)) list) (sym e) gone
  | inr apart ↦ stay other (listed other is (sym (others other is apart) ∙ none))
]

-- what is noted of a label goes, where nobody is under it any more
pub listed_less : (finder new : Finder) (live list : List Attached) (text : List ℕ) → ((test : Place → Bool) → AllByRecursion (IsOff test) live → AllByRecursion (IsOff test) list)
    → AllByRecursion (IsOff (is_under_label text)) list → AreListed finder live
    → ((other : List ℕ) → IsTrue (is_label other) → other ≢ text → number_under other new ≡ number_under other finder) → new.clients ≡ finder.clients → AreListed new list
listed_less finder new live list text stay gone listed others same = record {
  clients = λ c fits none. stay (is_at_client c) (listed.clients c fits (ap (λ (l : List (Option ℕ)). slice_index_or l c None) (sym same) ∙ none));
  labels = labels_go finder new live list text (λ other all. stay (is_under_label other) all) gone listed.labels others;
}
