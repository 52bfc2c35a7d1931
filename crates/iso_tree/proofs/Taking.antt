-- The free blocks that a put takes.
use Rattle.iso_tree.proofs.{Words.{◌≡◌, refl, subst, ℕ, zero, suc, ◌+◌, ◌-◌, ◌<◌, ◌≤◌, Bool, true, false, not, cond, List, [], ◌∷◌, take, length, arith, inl, inr, filter, range_with_len, length-take-le, Area, IsIn, map_bit, free_count, IsApart, free_list, Up, free_are, ◌∙◌, sym, ap, ◌==◌, ◌||◌, ◌++◌, Option, Some, None, ne_eqb, set, take_at, first_from, with_bit, lowest_free, with_used}, MapBits.up_in, Shapes.same_some}

up_less : (low mid : ℕ) (xs : List ℕ) → low ≤ mid → Up mid xs → Up low xs
up_less low mid [] le up = tt
up_less low mid (x ∷ xs) le up = (omega (arith, up.0), up.1)

up_filter : (p : ℕ → Bool) (from n : ℕ) → Up from (filter p (range_with_len from n))
up_filter p from zero = tt
up_filter p from (suc n) =
    let rest : Up (suc from) (filter p (range_with_len (from + 1) n)) = subst (λ (k : ℕ). Up k (filter p (range_with_len (from + 1) n))) (let e : from + 1 ≡ suc from = omega arith in e) (up_filter p (from + 1) n) in
    grind (arith, up_less)

up_take : (low n : ℕ) (xs : List ℕ) → Up low xs → Up low (take n xs)
up_take low zero [] up = tt
up_take low zero (x ∷ xs) up = tt
up_take low (suc n) [] up = tt
up_take low (suc n) (x ∷ xs) up = (up.0, up_take (suc x) n xs up.1)

in_take : (n k : ℕ) (xs : List ℕ) → IsIn k (take n xs) → IsIn k xs
in_take zero k [] is = absurd is
in_take zero k (x ∷ xs) is = absurd is
in_take (suc n) k [] is = absurd is
in_take (suc n) k (x ∷ xs) is = elim is [ inl here ↦ inl here | inr later ↦ inr (in_take n k xs later) ]

-- a number of a filtered range passes, and is of the range
record IsOf (p : ℕ → Bool) (from n k : ℕ) : Type 0 where
  pub passes : p k ≡ true
  pub low : from ≤ k
  pub high : k < from + n

of_more : (p : ℕ → Bool) (from n k : ℕ) → IsOf p (from + 1) n k → IsOf p from (suc n) k
of_more p from n k is = let l = is.low in let h = is.high in record { passes = is.passes; low = omega arith; high = omega arith }

in_filter : (p : ℕ → Bool) (from n k : ℕ) → IsIn k (filter p (range_with_len from n)) → IsOf p from n k
in_filter p from zero k is = absurd is
in_filter p from (suc n) k is =
    elim (p from) as (λ t. p from ≡ t → IsIn k (cond t (from ∷ filter p (range_with_len (from + 1) n)) (filter p (range_with_len (from + 1) n))) → IsOf p from (suc n) k) [
      | true ↦ λ e at. elim at [
        | inl here ↦ subst (λ (j : ℕ). IsOf p from (suc n) j) here (record { passes = e; low = omega arith; high = omega arith })
        | inr later ↦ of_more p from n k (in_filter p (from + 1) n k later)
      ]
      | false ↦ λ e at. of_more p from n k (in_filter p (from + 1) n k at)
    ] refl is

not_true : (t : Bool) → not t ≡ true → t ≡ false
not_true true e = cc
not_true false e = refl

pub up_apart : (low : ℕ) (xs : List ℕ) → Up low xs → IsApart xs
up_apart low [] up = tt
up_apart low (x ∷ xs) up = (λ is. absurd (omega (arith, up_in (suc x) xs x up.1 is)), up_apart (suc x) xs up.1)

-- the blocks taken: they rise, are free, and are as many as are needed
pub record AreTaken (a : Area) (first : List ℕ) (need : ℕ) (taken : List ℕ) : Type 0 where
  pub up : Up 1 taken
  pub count : length taken ≡ need
  pub past : (k : ℕ) → IsIn k taken → 1 ≤ k
  pub below : (k : ℕ) → IsIn k taken → k < a.blocks
  pub free : (k : ℕ) → IsIn k taken → map_bit first k ≡ false

pub taken_are : (a : Area) (first : List ℕ) (need : ℕ) → 1 ≤ a.blocks → need ≤ free_count first 1 (a.blocks - 1) → AreTaken a first need (take need (free_list a first))
taken_are a first need some enough =
    let p : ℕ → Bool = λ k. not (map_bit first k) in
    let of : (k : ℕ) → IsIn k (take need (free_list a first)) → IsOf p 1 (a.blocks - 1) k = λ k is. in_filter p 1 (a.blocks - 1) k (in_take need k (free_list a first) is) in
    record {
      up = up_take 1 need (free_list a first) (up_filter p 1 (a.blocks - 1));
      count = length-take-le need (free_list a first) (omega (arith, free_are first 1 (a.blocks - 1)));
      past = λ k is. (of k is).low;
      below = λ k is. (let h = (of k is).high in omega arith);
      free = λ k is. not_true (map_bit first k) (of k is).passes;
    }

-- The loop that takes free blocks, lowest first.
some_none : (i : ℕ) → ◌≡◌ {A = Option ℕ} (Some i) None → ⊥
some_none i e = cc

first_of_filter : (p : ℕ → Bool) (from n b : ℕ) → first_from p from n ≡ Some b → filter p (range_with_len from n) ≡ b ∷ filter p (range_with_len (b + 1) (from + n - (b + 1)))
first_of_filter p from zero b e = absurd (cc e)
first_of_filter p from (suc n) b e =
    elim (p from) as (λ t. cond t (Some from) (first_from p (from + 1) n) ≡ Some b
    → cond t (from ∷ filter p (range_with_len (from + 1) n)) (filter p (range_with_len (from + 1) n)) ≡ b ∷ filter p (range_with_len (b + 1) (from + suc n - (b + 1)))) [
      | true ↦ λ h.
          (let same : from ≡ b = same_some from b h in
          let left : n ≡ from + suc n - (b + 1) = omega arith in
          λ i. same i ∷ filter p (range_with_len (same i + 1) (left i)))
      | false ↦ λ h.
          (let s : from + 1 + n ≡ from + suc n = omega arith in
          first_of_filter p (from + 1) n b h ∙ ap (λ (k : ℕ). b ∷ filter p (range_with_len (b + 1) (k - (b + 1)))) s)
    ] e

none_of_filter : (p : ℕ → Bool) (from n : ℕ) → first_from p from n ≡ None → filter p (range_with_len from n) ≡ []
none_of_filter p from zero e = refl
none_of_filter p from (suc n) e =
    elim (p from) as (λ t. cond t (Some from) (first_from p (from + 1) n) ≡ None → cond t (from ∷ filter p (range_with_len (from + 1) n)) (filter p (range_with_len (from + 1) n)) ≡ []) [
      | true ↦ λ h. absurd (some_none from h)
      | false ↦ λ h. none_of_filter p (from + 1) n h
    ] e

same_filter : (p q : ℕ → Bool) (from n : ℕ) → ((k : ℕ) → from ≤ k → p k ≡ q k) → filter p (range_with_len from n) ≡ filter q (range_with_len from n)
same_filter p q from zero same = refl
same_filter p q from (suc n) same = λ i. cond (same from (omega arith) i) (from ∷ same_filter p q (from + 1) n (λ k le. same k (omega arith)) i) (same_filter p q (from + 1) n (λ k le. same k (omega arith)) i)

-- the free blocks from one on
abbrev pub free_from : (map : List ℕ) → (size first : ℕ) → List ℕ
free_from map size first = filter (λ k. not (map_bit map k)) (range_with_len first (size - first))

pub used_more : (map xs : List ℕ) (b : ℕ) → with_used map (xs ++ b ∷ []) ≡ with_bit (with_used map xs) b
used_more map [] b = refl
used_more map (x ∷ xs) b = used_more (with_bit map x) xs b

pub free_some : (map new : List ℕ) (size first b : ℕ) → first ≤ size → lowest_free map first (size - first) ≡ Some b → ((k : ℕ) → map_bit new k ≡ ((k == b) || map_bit map k)) → free_from map size first ≡ b ∷ free_from new size (b + 1)
free_some map new size first b le found bits =
    let s : first + (size - first) ≡ size = omega arith in
    first_of_filter (λ k. not (map_bit map k)) first (size - first) b found
    ∙ ap (λ (m : ℕ). b ∷ filter (λ k. not (map_bit map k)) (range_with_len (b + 1) (m - (b + 1)))) s
    ∙ ap (λ l. b ∷ l) (same_filter (λ k. not (map_bit map k)) (λ k. not (map_bit new k)) (b + 1) (size - (b + 1))
    (λ k le. ap not (sym (bits k ∙ ap (λ t. t || map_bit map k) (ne_eqb k b (λ e. absurd (omega arith)))))))

pub free_none : (map : List ℕ) (size first : ℕ) → lowest_free map first (size - first) ≡ None → free_from map size first ≡ []
free_none map size first found = none_of_filter (λ k. not (map_bit map k)) first (size - first) found

nothing_taken : (b : ℕ) (xs : List ℕ) → take (zero + 1) (b ∷ xs) ≡ b ∷ []
nothing_taken b xs = grind arith

pub take_set : (xs : List ℕ) (i b : ℕ) → i < length xs → take (i + 1) (set xs i b) ≡ take i xs ++ b ∷ []
take_set [] i b inside = absurd (omega arith)
take_set (x ∷ xs) zero b inside = nothing_taken b xs
take_set (x ∷ xs) (suc i) b inside =
    let e : suc i + 1 ≡ suc (i + 1) = omega arith in
    ap (λ (n : ℕ). take n (x ∷ set xs i b)) e ∙ ap (λ l. x ∷ l) (take_set xs i b (omega arith))

pub take_all : (xs ys : List ℕ) (n : ℕ) → length xs ≡ n → take n (xs ++ ys) ≡ xs
take_all xs ys n is = take_at xs ys n is
