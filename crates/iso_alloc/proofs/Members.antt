-- The numbers of two lists, one after the other.
use Rattle.iso_alloc.proofs.Words.{◌⊎◌, ℕ, List, [], ◌∷◌, ◌++◌, inl, inr, IsIn}

pub in_front : (k : ℕ) (xs ys : List ℕ) → IsIn k xs → IsIn k (xs ++ ys)
in_front k [] ys is = absurd is
in_front k (x ∷ xs) ys is = elim is [ inl here ↦ inl here | inr later ↦ inr (in_front k xs ys later) ]

pub in_back : (k : ℕ) (xs ys : List ℕ) → IsIn k ys → IsIn k (xs ++ ys)
in_back k [] ys is = is
in_back k (x ∷ xs) ys is = inr (in_back k xs ys is)

pub in_cases : (k : ℕ) (xs ys : List ℕ) → IsIn k (xs ++ ys) → IsIn k xs ⊎ IsIn k ys
in_cases k [] ys is = inr is
in_cases k (x ∷ xs) ys is = elim is [
  | inl here ↦ inl (inl here)
  | inr later ↦ elim (in_cases k xs ys later) [ inl left ↦ inl (inr left) | inr right ↦ inr right ]
]
