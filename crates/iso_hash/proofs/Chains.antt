-- The blocks of chains: where they stand, and what the chain is.
use Rattle.iso_hash.proofs.Words.{◌≡◌, ◌≢◌, ◌∙◌, sym, refl, ap, subst, ℕ, zero, suc, ◌+◌, ◌<◌, ◌≤◌, true, false, ◌==◌, cond, nat_eq, List, [], ◌∷◌, ◌++◌, length, arith, inl, inr, eq-eqb, ne_eqb, AllByRecursion, IsDistinct, cases_eq, and_parts, eqb-true, Area, word_at, are_key_parts, buckets, last_position, next_of, is_next, is_linked, chain_from, chain, IsIn, AreLinked, IsHashArea, in_back}

-- what the head of a linked block says
pub record IsHead (a : Area) (bucket position : ℕ) (x : List ℕ) : Type 0 where
  pub bucket_is : word_at 4 x ≡ cond (position == 0) 0 bucket
  pub position_is : word_at 8 x ≡ position
  pub next_is : is_next a position (next_of x) ≡ true
  pub parts : are_key_parts a.size x ≡ true

pub head_of : (a : Area) (bucket position : ℕ) (x : List ℕ) → is_linked a bucket position x ≡ true → IsHead a bucket position x
unfolding is_linked
head_of a bucket position x linked =
    let first = and_parts _ _ linked in
    let second = and_parts _ _ first.0 in
    let third = and_parts _ _ second.0 in
    let fourth = and_parts _ _ third.0 in
    record { bucket_is = eqb-true _ _ fourth.0; position_is = eqb-true _ _ fourth.1; next_is = second.1; parts = first.1 }

-- the next block is an overflow block, and there may be one at this position
pub record IsNextIn (a : Area) (position next : ℕ) : Type 0 where
  pub past : buckets a < next
  pub inside : next < a.blocks
  pub more : position ≢ last_position a

pub next_in : (a : Area) (position next : ℕ) → is_next a position next ≡ true → next ≢ 0 → IsNextIn a position next
next_in a position next is some = grind arith steps 100000

-- where a block of the list is
pub record Placed (a : Area) (keys : ℕ → List ℕ) (bucket position first k : ℕ) : Type 0 where
  pub place : ℕ
  pub low : position ≤ place
  pub linked : is_linked a bucket place (keys k) ≡ true
  pub some : 0 < k
  pub head : place ≡ position → first ≡ k
  pub past : position < place → (buckets a < k) × (k < a.blocks)

pub placed : (a : Area) (keys : ℕ → List ℕ) (bucket position : ℕ) (blocks : List ℕ) (first end k : ℕ) → AreLinked a keys bucket position blocks first end → IsIn k blocks → Placed a keys bucket position first k
placed a keys bucket position [] first end k linked has = absurd has
placed a keys bucket position (m ∷ blocks) first end k linked (inl same) = grind arith steps 100000
placed a keys bucket position (m ∷ blocks) first end k linked (inr rest) =
    let ih = placed a keys bucket (position + 1) blocks (next_of (keys m)) end k linked.3 rest in
    record {
      place = ih.place;
      low = omega (arith, ih.low);
      linked = ih.linked;
      some = ih.some;
      head = λ e. absurd (omega (arith, ih.low));
      past = λ less. elim (cases_eq ih.place (position + 1)) [
        | inl here ↦
            (let is = ih.head here in
            let next = next_in a position (next_of (keys m)) (head_of a bucket position (keys m) linked.2).next_is (λ e. absurd (omega (arith, ih.some))) in
            (subst (λ (n : ℕ). buckets a < n) is next.past, subst (λ (n : ℕ). n < a.blocks) is next.inside))
        | inr on ↦ ih.past (omega (arith, ih.low))
      ];
    }

-- a block of a bucket's chain: inside the region, and an overflow block exactly past the first position
module _ (a : Area) (keys : ℕ → List ℕ) (b k : ℕ) (area : IsHashArea a) (below : b < buckets a) (linked : AreLinked a keys b 0 (chain a keys b) (1 + b) 0) (has : IsIn k (chain a keys b)) where
  pub stand : Placed a keys b 0 (1 + b) k
  stand = placed a keys b 0 (chain a keys b) (1 + b) 0 k linked has

  pub block_inside : k < a.blocks
  block_inside = elim (cases_eq stand.place 0) [
    | inl first ↦ (let is = stand.head first in omega (arith, area.least))
    | inr later ↦ (stand.past (omega arith)).1
  ]

-- no block is in two chains
pub one_bucket : (a : Area) (keys : ℕ → List ℕ) (b c k : ℕ) → AreLinked a keys b 0 (chain a keys b) (1 + b) 0 → AreLinked a keys c 0 (chain a keys c) (1 + c) 0
    → IsIn k (chain a keys b) → IsIn k (chain a keys c) → b ≡ c
one_bucket a keys b c k first second has_b has_c =
    let p = placed a keys b 0 (chain a keys b) (1 + b) 0 k first has_b in
    let q = placed a keys c 0 (chain a keys c) (1 + c) 0 k second has_c in
    let hp = head_of a b p.place (keys k) p.linked in
    let hq = head_of a c q.place (keys k) q.linked in
    let same : p.place ≡ q.place = sym hp.position_is ∙ hq.position_is in
    elim (cases_eq p.place 0) [
      | inl zero_place ↦ (let e = p.head zero_place in let f = q.head (sym same ∙ zero_place) in omega arith)
      | inr some ↦
          (let bp : cond (p.place == 0) 0 b ≡ b = ap (λ t. cond t 0 b) (ne_eqb p.place 0 some) in
          let cq : cond (q.place == 0) 0 c ≡ c = ap (λ t. cond t 0 c) (ne_eqb q.place 0 (λ e. some (same ∙ e))) in
          sym bp ∙ sym hp.bucket_is ∙ hq.bucket_is ∙ cq)
    ]

-- a list that is followed by another
pub linked_split : (a : Area) (keys : ℕ → List ℕ) (bucket position : ℕ) (xs ys : List ℕ) (first end : ℕ) → AreLinked a keys bucket position (xs ++ ys) first end
    → (mid : ℕ) × (AreLinked a keys bucket position xs first mid × AreLinked a keys bucket (position + length xs) ys mid end)
linked_split a keys bucket position [] ys first end linked = grind arith
linked_split a keys bucket position (k ∷ xs) ys first end linked =
    let ih = linked_split a keys bucket (position + 1) xs ys (next_of (keys k)) end linked.3 in
    let e : position + 1 + length xs ≡ position + suc (length xs) = omega arith in
    (ih.0, ((linked.0, linked.1, linked.2, ih.1.0), subst (λ (n : ℕ). AreLinked a keys bucket n ys ih.0 end) e ih.1.1))

pub linked_join : (a : Area) (keys : ℕ → List ℕ) (bucket position : ℕ) (xs ys : List ℕ) (first mid end : ℕ) → AreLinked a keys bucket position xs first mid → AreLinked a keys bucket (position + length xs) ys mid end
    → AreLinked a keys bucket position (xs ++ ys) first end
linked_join a keys bucket position [] ys first mid end one two = grind arith steps 100000
linked_join a keys bucket position (k ∷ xs) ys first mid end one two =
    let e : position + suc (length xs) ≡ position + 1 + length xs = omega arith in
    (one.0, one.1, one.2, linked_join a keys bucket (position + 1) xs ys (next_of (keys k)) mid end one.3 (subst (λ (n : ℕ). AreLinked a keys bucket n ys mid end) e two))

-- other key bytes under which each block is as well linked, and names the same next one
abbrev pub LinkedAlike : Area → (keys new : ℕ → List ℕ) → (bucket : ℕ) → List ℕ → Type 0
LinkedAlike a keys new bucket blocks = (k p : ℕ) → IsIn k blocks → is_linked a bucket p (keys k) ≡ true → (is_linked a bucket p (new k) ≡ true) × (next_of (new k) ≡ next_of (keys k))

pub linked_alike : (a : Area) (keys new : ℕ → List ℕ) (bucket position : ℕ) (blocks : List ℕ) (first end : ℕ) → LinkedAlike a keys new bucket blocks
    → AreLinked a keys bucket position blocks first end → AreLinked a new bucket position blocks first end
linked_alike a keys new bucket position [] first end same linked = linked
linked_alike a keys new bucket position (k ∷ blocks) first end same linked =
    let here = same k position (inl refl) linked.2 in (
      linked.0,
      linked.1,
      here.0,
      subst (λ (n : ℕ). AreLinked a new bucket (position + 1) blocks n end) (sym here.1)
          (linked_alike a keys new bucket (position + 1) blocks (next_of (keys k)) end (λ m p has. same m p (inr has)) linked.3),
    )

-- the chain from a block on is the list that is linked to its end
pub chain_is : (a : Area) (keys : ℕ → List ℕ) (bucket position left k : ℕ) (rest : List ℕ) (first : ℕ) → AreLinked a keys bucket position (k ∷ rest) first 0 → length rest < left
    → chain_from keys left k ≡ k ∷ rest
chain_is a keys bucket position zero k rest first linked fits = absurd (omega arith)
chain_is a keys bucket position (suc left) k [] first linked fits = let test = eq-eqb (next_of (keys k)) 0 linked.3 in rw test refl
chain_is a keys bucket position (suc left) k (m ∷ rest) first linked fits =
    let test : (next_of (keys k) == 0) ≡ false = ne_eqb (next_of (keys k)) 0 (λ e. absurd (omega (arith, linked.3.0, linked.3.1))) in
    let ih = chain_is a keys bucket (position + 1) left m rest (next_of (keys k)) linked.3 (omega arith) in
    ap (λ t. k ∷ cond t [] (chain_from keys left (next_of (keys k)))) test ∙ ap (λ (n : ℕ). k ∷ chain_from keys left n) linked.3.0 ∙ ap (λ xs. k ∷ xs) ih

pub length-chain_from : (keys : ℕ → List ℕ) (left block : ℕ) → length (chain_from keys left block) ≤ left
length-chain_from keys zero block = omega arith
length-chain_from keys (suc left) block = elim (next_of (keys block) == 0) as (λ t. length (block ∷ cond t [] (chain_from keys left (next_of (keys block)))) ≤ suc left) [
  | true ↦ omega arith
  | false ↦ (let ih = length-chain_from keys left (next_of (keys block)) in omega arith)
]

-- a block of the first part does not stand in the second
pub not_twice : (a : Area) (keys : ℕ → List ℕ) (bucket position : ℕ) (xs ys : List ℕ) (first end k : ℕ) → AreLinked a keys bucket position (xs ++ ys) first end → IsIn k xs → IsIn k ys → ⊥
not_twice a keys bucket position (x ∷ xs) ys first end k linked (inl e) has =
    let later = placed a keys bucket (position + 1) (xs ++ ys) (next_of (keys x)) end k linked.3 (in_back k xs ys has) in
    let here = head_of a bucket position (keys x) linked.2 in
    let there = head_of a bucket later.place (keys k) later.linked in
    let same : position ≡ later.place = sym here.position_is ∙ ap (λ (m : ℕ). word_at 8 (keys m)) e ∙ there.position_is in
    absurd (omega (arith, later.low))
not_twice a keys bucket position (x ∷ xs) ys first end k linked (inr more) has = not_twice a keys bucket (position + 1) xs ys (next_of (keys x)) end k linked.3 more has
not_twice a keys bucket position [] ys first end k linked more has = absurd more

pub all_in : (P : ℕ → Type 0) (xs : List ℕ) → ((k : ℕ) → IsIn k xs → P k) → AllByRecursion P xs
all_in P [] each = tt
all_in P (x ∷ xs) each = (each x (inl refl), all_in P xs (λ k has. each k (inr has)))

-- the blocks of a list that is linked are distinct
pub distinct : (a : Area) (keys : ℕ → List ℕ) (bucket position : ℕ) (blocks : List ℕ) (first end : ℕ) → AreLinked a keys bucket position blocks first end → IsDistinct nat_eq blocks
unfolding IsDistinct
distinct a keys bucket position [] first end linked = tt
distinct a keys bucket position (k ∷ blocks) first end linked = (
  all_in (λ y. nat_eq k y ≡ false) blocks (λ y has. ne_eqb k y (λ e. not_twice a keys bucket position (k ∷ []) blocks first end k linked (inl refl) (subst (λ (m : ℕ). IsIn m blocks) (sym e) has))),
  distinct a keys bucket (position + 1) blocks (next_of (keys k)) end linked.3,
)
