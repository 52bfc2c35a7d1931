-- The live transactions of a core and those of its world.
use Rattle.iso_core.proofs.Words.{◌≡◌, ◌≢◌, ◌⊎◌, inl, inr, ◌∙◌, sym, refl, ap, ℕ, suc, ◌<◌, List, [], ◌∷◌, length, map, Some, ◌≤◌, arith, eq-eqb, ne_eqb, subst, nat_eq, min, AllByRecursion, lookup, remove_entry, cases_eq, Live, floor_of, least_begin, without, AreDistinct, AreTwo, at_work, AreBefore, Begun, IsAmong, bare}

-- what holds of all live transactions by their begins and modes holds of each of them
pub among : (P : Live → Type 0) → ((t : Live) → P (bare t) → P t) → ((t : Live) → P t → P (bare t)) → (t : Live) (live : List Live) → AllByRecursion P live → IsAmong t live → P t
among P to from t [] all in_it = absurd in_it
among P to from t (u ∷ live) all (inl same) = to t (subst P same (from u all.0))
among P to from t (u ∷ live) all (inr rest) = among P to from t live all.1 rest

-- a transaction of the world is one that the core keeps, with its begin and its mode
pub kept_tx : (tx : ℕ) (t : Live) (live : List (ℕ × Begun)) (all : List Live) → map at_work live ≡ map bare all → t.number ≡ tx → AreDistinct all → IsAmong t all
    → lookup (nat_eq tx) live ≡ Some (record { at = t.begin; mode = t.mode })
kept_tx tx t live [] same number distinct in_it = absurd in_it
kept_tx tx t [] (u ∷ all) same number distinct in_it = cc same
kept_tx tx t (e ∷ live) (u ∷ all) same number distinct in_it = elim (cases_eq tx e.0) [
  | inl here ↦ at_head here
  | inr other ↦ behind other (kept_tx tx t live all rest number distinct.1)
]
  where
    head : at_work e ≡ bare u
    head = cc same

    rest : map at_work live ≡ map bare all
    rest = cc same

    key : e.0 ≡ u.number
    key = ap (λ (v : Live). v.number) head

    -- another transaction of the list has another number
    apart : (us : List Live) → AllByRecursion (AreTwo u) us → IsAmong t us → u.number ≢ tx
    apart [] all_two there e = absurd there
    apart (v ∷ us) all_two (inl there) e = all_two.0.numbers (e ∙ sym number ∙ sym (ap (λ (w : Live). w.number) there))
    apart (v ∷ us) all_two (inr there) e = apart us all_two.1 there e

    at_head : tx ≡ e.0 → lookup (nat_eq tx) (e ∷ live) ≡ Some (record { at = t.begin; mode = t.mode })
    at_head here = rw (eq-eqb tx e.0 here) (found in_it)
      where
        found : (bare u ≡ bare t) ⊎ IsAmong t all → Some e.1 ≡ Some (record { at = t.begin; mode = t.mode })
        found (inl there) =
            let at : e.1.at ≡ t.begin = ap (λ (v : Live). v.begin) (head ∙ there) in
            let mode : e.1.mode ≡ t.mode = ap (λ (v : Live). v.mode) (head ∙ there) in
            λ i. Some (record { at = at i; mode = mode i })
        found (inr there) = absurd (apart all distinct.0 there (sym key ∙ sym here))

    behind : tx ≢ e.0 → (IsAmong t all → lookup (nat_eq tx) live ≡ Some (record { at = t.begin; mode = t.mode })) → lookup (nat_eq tx) (e ∷ live) ≡ Some (record { at = t.begin; mode = t.mode })
    behind other more_of = rw (ne_eqb tx e.0 other) (more_of (there in_it))
      where
        there : (bare u ≡ bare t) ⊎ IsAmong t all → IsAmong t all
        there (inl same_tx) = absurd (other (sym number ∙ sym (ap (λ (v : Live). v.number) same_tx) ∙ sym key))
        there (inr more) = more

-- without its number the lists are the same still
pub kept_without : (tx : ℕ) (live : List (ℕ × Begun)) (all : List Live) → map at_work live ≡ map bare all → AreDistinct all
    → map at_work (remove_entry (nat_eq tx) live) ≡ map bare (without tx all)
kept_without tx [] [] same distinct = refl
kept_without tx [] (u ∷ all) same distinct = cc same
kept_without tx (e ∷ live) [] same distinct = cc same
kept_without tx (e ∷ live) (u ∷ all) same distinct = elim (cases_eq tx e.0) [
  | inl here ↦ rw (eq-eqb tx e.0 here, eq-eqb u.number tx (sym key ∙ sym here)) (rest ∙ ap (λ (l : List Live). map bare l) (sym (none_left all distinct.0 here)))
  | inr other ↦ rw (ne_eqb tx e.0 other, ne_eqb u.number tx (λ is. other (sym is ∙ sym key))) (let more = kept_without tx live all rest distinct.1 in λ i. head i ∷ more i)
]
  where
    head : at_work e ≡ bare u
    head = cc same

    rest : map at_work live ≡ map bare all
    rest = cc same

    key : e.0 ≡ u.number
    key = ap (λ (v : Live). v.number) head

    -- no other one has the number
    none_left : (us : List Live) → AllByRecursion (AreTwo u) us → tx ≡ e.0 → without tx us ≡ us
    none_left [] all_two here = refl
    none_left (v ∷ us) all_two here =
        rw (ne_eqb v.number tx (λ is. all_two.0.numbers (sym key ∙ sym here ∙ sym is))) (ap (λ (l : List Live). v ∷ l) (none_left us all_two.1 here))

-- as many as there are
pub kept_count : (live : List (ℕ × Begun)) (all : List Live) → map at_work live ≡ map bare all → length live ≡ length all
kept_count [] [] same = refl
kept_count [] (u ∷ all) same = cc same
kept_count (e ∷ live) [] same = cc same
kept_count (e ∷ live) (u ∷ all) same = ap suc (kept_count live all (cc same))

-- the floor hangs on the begins alone
pub kept_floor : (n : ℕ) (all : List Live) → floor_of n (map bare all) ≡ floor_of n all
kept_floor n [] = refl
kept_floor n (t ∷ all) = least t.begin all
  where
    least : (m : ℕ) (us : List Live) → least_begin m (map bare us) ≡ least_begin m us
    least m [] = refl
    least m (u ∷ us) = least (min m u.begin) us

-- all that are kept are before a transaction that begins now
pub kept_before : (tx at : ℕ) (live : List (ℕ × Begun)) (all : List Live) → map at_work live ≡ map bare all → AllByRecursion (λ t. (t.number < tx) × (t.begin ≤ at)) all → AreBefore tx at live
kept_before tx at [] all same below = tt
kept_before tx at (e ∷ live) [] same below = cc same
kept_before tx at (e ∷ live) (u ∷ all) same below =
    let head : at_work e ≡ bare u = cc same in
    let rest : map at_work live ≡ map bare all = cc same in
    ((omega (arith, ap (λ (v : Live). v.number) head, below.0.0), omega (arith, ap (λ (v : Live). v.begin) head, below.0.1)), kept_before tx at live all rest below.1)
