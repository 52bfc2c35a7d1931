-- Where an element is in a list that has one more at its end, or in one after another.
use Rattle.accounts.proofs.SumWords.{◌≡◌, ◌⊎◌, ◌+◌, ◌<◌, inl, inr, refl, ap, arith, AllByRecursion, List, [], ◌∷◌, ◌++◌, Option, Some, ◌∙◌, length, slice_get, suc, zero, ℕ}

module _ {X : Type 0} where
  some_more : (b l : List X) (y : X) → [] ≡ b ++ y ∷ l → ⊥
  some_more [] l y e = cc e
  some_more (z ∷ b) l y e = cc e

  head_is : (x y : X) (xs ys : List X) → x ∷ xs ≡ y ∷ ys → (x ≡ y) × (xs ≡ ys)
  head_is x y xs ys e = (cc e, cc e)

  pub snoc_split : (xs b l : List X) (x y : X) → xs ++ x ∷ [] ≡ b ++ y ∷ l → ((xs ≡ b) × (x ≡ y) × (l ≡ [])) ⊎ ((m : List X) × (xs ≡ b ++ y ∷ m))
  snoc_split [] [] l x y e = let h = head_is x y [] l e in inl (refl, h.0, Rattle.std.proofs.Common.sym h.1)
  snoc_split [] (z ∷ b) l x y e = absurd (some_more b l y (head_is x z [] (b ++ y ∷ l) e).1)
  snoc_split (z ∷ xs) [] l x y e = let h = head_is z y (xs ++ x ∷ []) l e in inr (xs, ap (λ w. w ∷ xs) h.0)
  snoc_split (z ∷ xs) (w ∷ b) l x y e =
      let h = head_is z w (xs ++ x ∷ []) (b ++ y ∷ l) e in
      elim (snoc_split xs b l x y h.1) [
        | inl is ↦ inl ((λ i. h.0 i ∷ is.0 i), is.1, is.2)
        | inr is ↦ inr (is.0, (λ i. h.0 i ∷ is.1 i))
      ]

  pub slice_get_behind : (xs ys : List X) (j : ℕ) → slice_get (xs ++ ys) (length xs + j) ≡ slice_get ys j
  slice_get_behind [] ys j = ap (slice_get ys) (let e : 0 + j ≡ j = omega arith in e)
  slice_get_behind (x ∷ xs) ys j = ap (slice_get (x ∷ (xs ++ ys))) (let e : length (x ∷ xs) + j ≡ suc (length xs + j) = omega arith in e) ∙ slice_get_behind xs ys j

  -- one of several, with what holds of all of them
  pub record One (P Q : X → Type 0) (o : Option X) : Type 0 where
    pub one : X
    pub is : o ≡ Some one
    pub first : P one
    pub second : Q one

  pub nth_of : (xs : List X) (j : ℕ) (P Q : X → Type 0) → j < length xs → AllByRecursion P xs → AllByRecursion Q xs → One P Q (slice_get xs j)
  nth_of [] j P Q below p q = absurd (omega arith)
  nth_of (x ∷ xs) zero P Q below p q = record { one = x; is = refl; first = p.0; second = q.0 }
  nth_of (x ∷ xs) (suc j) P Q below p q = nth_of xs j P Q (omega arith) p.1 q.1
