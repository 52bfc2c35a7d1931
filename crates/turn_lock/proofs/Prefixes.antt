-- Beginnings of one list.
use Rattle.turn_lock.proofs.Words.{◌≡◌, ◌≤◌, ◌⊎◌, inl, inr, ⊎_elim, Bool, true, false, nat_lt, List, [], ◌∷◌, ◌++◌, length, refl, ap, sym, ◌∙◌, subst, arith, append_assoc, length-append, append-nil, nat_tests, longer, IsPrefix}

module _ {A : Type 0} where
  -- each list begins with itself
  pub prefix_self : (xs : List A) → IsPrefix xs xs
  prefix_self xs = ([], append-nil xs)

  pub prefix_trans : (xs ys zs : List A) → IsPrefix xs ys → IsPrefix ys zs → IsPrefix xs zs
  prefix_trans xs ys zs p q = (p.0 ++ q.0, sym (append_assoc xs p.0 q.0) ∙ (ap (λ w. w ++ q.0) p.1 ∙ q.1))

  -- of two beginnings of one list the shorter begins the longer
  pub prefix_shorter : (xs ys zs : List A) → IsPrefix xs zs → IsPrefix ys zs → length xs ≤ length ys → IsPrefix xs ys
  prefix_shorter [] ys zs p q le = (ys, refl)
  prefix_shorter (x ∷ xs) [] zs p q le = absurd (omega arith)
  prefix_shorter (x ∷ xs) (y ∷ ys) [] p q le = absurd (cc (p.1))
  prefix_shorter (x ∷ xs) (y ∷ ys) (z ∷ zs) p q le =
      let heads : x ≡ y = cc (p.1, q.1) in
      let rest = prefix_shorter xs ys zs (p.0, cc (p.1)) (q.0, cc (q.1)) (omega arith) in
      (rest.0, cc (heads, rest.1))

  -- a beginning as long as the whole is the whole
  pub prefix_whole : (xs ys : List A) → IsPrefix xs ys → length ys ≤ length xs → xs ≡ ys
  prefix_whole [] [] p le = refl
  prefix_whole [] (y ∷ ys) p le = absurd (omega arith)
  prefix_whole (x ∷ xs) [] p le = absurd (cc (p.1))
  prefix_whole (x ∷ xs) (y ∷ ys) p le =
      let rest = prefix_whole xs ys (p.0, cc (p.1)) (omega arith) in cc (p.1, rest)

  pub prefix_length : (xs ys : List A) → IsPrefix xs ys → length xs ≤ length ys
  prefix_length xs ys p = omega (arith, sym (ap length p.1) ∙ length-append xs p.0)

  -- a beginning stays one where the list grows
  pub prefix_more : (xs ys zs : List A) → IsPrefix xs ys → IsPrefix xs (ys ++ zs)
  prefix_more xs ys zs p = prefix_trans xs ys (ys ++ zs) p (zs, refl)

  longer_by : (xs ys : List A) (b : Bool) → nat_lt (length xs) (length ys) ≡ b
      → ((longer xs ys ≡ ys) × (length xs ≤ length ys)) ⊎ ((longer xs ys ≡ xs) × (length ys ≤ length xs))
  longer_by xs ys true is = inl (rw is refl, grind (arith, nat_tests))
  longer_by xs ys false is = inr (rw is refl, grind (arith, nat_tests))

  -- the longer one is one of the two, and the other is no longer
  pub longer_is : (xs ys : List A) → ((longer xs ys ≡ ys) × (length xs ≤ length ys)) ⊎ ((longer xs ys ≡ xs) × (length ys ≤ length xs))
  longer_is xs ys = longer_by xs ys (nat_lt (length xs) (length ys)) refl

  pub longer_left : (xs ys : List A) → length xs ≤ length (longer xs ys)
  longer_left xs ys = grind (arith, longer_is)

  pub longer_right : (xs ys : List A) → length ys ≤ length (longer xs ys)
  longer_right xs ys = grind (arith, longer_is)

  pub prefix_longer : (xs ys zs : List A) → IsPrefix xs zs → IsPrefix ys zs → IsPrefix (longer xs ys) zs
  prefix_longer xs ys zs p q = ⊎_elim
      (λ (t : (longer xs ys ≡ ys) × (length xs ≤ length ys)). subst (λ (l : List A). IsPrefix l zs) (sym t.0) q)
      (λ (t : (longer xs ys ≡ xs) × (length ys ≤ length xs)). subst (λ (l : List A). IsPrefix l zs) (sym t.0) p)
      (longer_is xs ys)

  -- the whole list is the longer one
  pub longer_whole : (xs ys : List A) → IsPrefix ys xs → longer xs ys ≡ xs
  longer_whole xs ys p = grind (arith, prefix_whole, longer_is)
