-- A client finds its transaction with other accesses where it had it.
use Rattle.store_scripts.proofs.Words.{◌≡◌, ◌∙◌, sym, ap, subst, ℕ, ◌==◌, Bool, true, cond, List, [], ◌∷◌, Some, inl, inr, eq-eqb, ne_eqb, find, AllByRecursion, cases_Bool, cases_eq, same_Some, Access, with_accesses, Live, World, attached, is_at_client, with, IsWorld, same_number}

abbrev at : ℕ → Live → Bool
at c t = is_at_client c t.place

found_passes : (test : Live → Bool) (live : List Live) (t : Live) → find test live ≡ Some t → test t ≡ true
found_passes test [] t is = cc
found_passes test (u ∷ live) t is = elim (cases_Bool (test u)) [
  | inl pass ↦ (let e : u ≡ t = same_Some u t (sym (ap (λ (b : Bool). cond b (Some u) (find test live)) pass) ∙ is) in subst (λ (v : Live). test v ≡ true) e pass)
  | inr fail ↦ found_passes test live t (sym (ap (λ (b : Bool). cond b (Some u) (find test live)) fail) ∙ is)
]

found_with : (c : ℕ) (t : Live) (accesses : List Access) (live : List Live) → at c t ≡ true → AllByRecursion (λ u. u.number ≡ t.number → u ≡ t) live → find (at c) live ≡ Some t
    → find (at c) (with (record t { accesses = accesses }) live) ≡ Some (record t { accesses = accesses })
found_with c t accesses [] here same is = cc
found_with c t accesses (u ∷ live) here same is =
    let new : Live = record t { accesses = accesses } in
    elim (cases_eq u.number t.number) [
      | inl owner ↦
          (let e : cond (u.number == t.number) new u ≡ new = ap (λ (b : Bool). cond b new u) (eq-eqb u.number t.number owner) in
          ap (λ (v : Live). cond (at c v) (Some v) (find (at c) (with new live))) e ∙ ap (λ (b : Bool). cond b (Some new) (find (at c) (with new live))) here)
      | inr other ↦
          (let e : cond (u.number == t.number) new u ≡ u = ap (λ (b : Bool). cond b new u) (ne_eqb u.number t.number other) in
          ap (λ (v : Live). cond (at c v) (Some v) (find (at c) (with new live))) e
          ∙ elim (cases_Bool (at c u)) [
            | inl pass ↦ (let same_one : u ≡ t = same_Some u t (sym (ap (λ (b : Bool). cond b (Some u) (find (at c) live)) pass) ∙ is) in absurd (other (ap (λ (v : Live). v.number) same_one)))
            | inr fail ↦
                ap (λ (b : Bool). cond b (Some u) (find (at c) (with new live))) fail
                ∙ found_with c t accesses live here same.1 (sym (ap (λ (b : Bool). cond b (Some u) (find (at c) live)) fail) ∙ is)
          ])
    ]

pub attached_with : (W : World) (c : ℕ) (t : Live) (accesses : List Access) → IsWorld W → attached W c ≡ Some t → attached (with_accesses W t accesses) c ≡ Some (record t { accesses = accesses })
attached_with W c t accesses is found =
    found_with c t accesses W.live (found_passes (at c) W.live t found) (same_number (at c) W.live t is.distinct found) found
