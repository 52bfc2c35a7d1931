-- Blocks that are reached once, and the trees that stay as they were.
use Rattle.iso_tree.proofs.{Words.{arith, ◌≡◌, ◌⊎◌, ◌∙◌, sym, refl, ap, subst, ℕ, zero, suc, true, false, cond, List, [], ◌∷◌, ◌++◌, inl, inr, flat_map, before, Cell, child_of, Tree, tree_at, nodes_in, put_after, IsApart, IsIn, in_front, in_back, in_cases}, Shapes.{kids, chosen, set_chosen, IsAdded, IsGrown}}

pub apart_parts : (xs ys : List ℕ) → IsApart (xs ++ ys) → IsApart xs × IsApart ys × ((k : ℕ) → IsIn k xs → IsIn k ys → ⊥)
apart_parts [] ys is = (tt, is, λ k left right. absurd left)
apart_parts (x ∷ xs) ys is =
    let rest = apart_parts xs ys is.1 in (
      (λ left. is.0 (in_front x xs ys left), rest.0),
      rest.1,
      λ k left right. elim left [
        | inl here ↦ is.0 (in_back x xs ys (subst (λ (j : ℕ). IsIn j ys) (sym here) right))
        | inr later ↦ rest.2 k later right
      ],
    )

pub apart_join : (xs ys : List ℕ) → IsApart xs → IsApart ys → ((k : ℕ) → IsIn k xs → IsIn k ys → ⊥) → IsApart (xs ++ ys)
apart_join [] ys first second none = second
apart_join (x ∷ xs) ys first second none = (
  λ is. elim (in_cases x xs ys is) [ inl left ↦ first.0 left | inr right ↦ none x (inl refl) right ],
  apart_join xs ys first.1 second (λ k left right. none k (inr left) right),
)

-- a new block moved in among those that are reached
pub apart_moved : (x : ℕ) (xs ys rest : List ℕ) → IsApart ((xs ++ ys) ++ x ∷ rest) → IsApart ((xs ++ x ∷ ys) ++ rest)
apart_moved x xs ys rest is =
    let outer = apart_parts (xs ++ ys) (x ∷ rest) is in
    let inner = apart_parts xs ys outer.0 in
    apart_join (xs ++ x ∷ ys) rest
    (apart_join xs (x ∷ ys) inner.0 (λ here. outer.2 x (in_back x xs ys here) (inl refl), inner.1)
    (λ k left right. elim right [ inl here ↦ outer.2 k (in_front k xs ys left) (inl here) | inr later ↦ inner.2 k left later ]))
    outer.1.1
    (λ k left right. elim (in_cases k xs (x ∷ ys) left) [
      | inl first ↦ outer.2 k (in_front k xs ys first) (inr right)
      | inr second ↦ elim second [
        | inl here ↦ outer.1.0 (subst (λ (j : ℕ). IsIn j rest) (sym here) right)
        | inr later ↦ outer.2 k (in_back k xs ys later) (inr right)
      ]
    ])

pub added_apart : (x : ℕ) (old new rest : List ℕ) → IsAdded x old new → IsApart (old ++ x ∷ rest) → IsApart (new ++ rest)
added_apart x old new rest is apart = grind (arith, apart_moved)

pub grown_apart : (more old new rest : List ℕ) → IsGrown more old new → IsApart (old ++ (more ++ rest)) → IsApart (new ++ rest)
grown_apart [] old new rest is apart = subst (λ (l : List ℕ). IsApart (l ++ rest)) is apart
grown_apart (x ∷ more) old new rest is apart = grown_apart more is.0 new rest is.2 (added_apart x old is.0 (more ++ rest) is.1 apart)

pub added_in : (x k : ℕ) (old new : List ℕ) → IsAdded x old new → IsIn k new → IsIn k old ⊎ (x ≡ k)
added_in x k old new is has = elim (in_cases k is.0 (x ∷ is.1) (subst (λ (l : List ℕ). IsIn k l) is.3 has)) [
  | inl first ↦ inl (subst (λ (l : List ℕ). IsIn k l) (sym is.2) (in_front k is.0 is.1 first))
  | inr second ↦ elim second [
    | inl here ↦ inr here
    | inr later ↦ inl (subst (λ (l : List ℕ). IsIn k l) (sym is.2) (in_back k is.0 is.1 later))
  ]
]

-- what is reached was reached before or is new
pub grown_in : (more old new : List ℕ) (k : ℕ) → IsGrown more old new → IsIn k new → IsIn k old ⊎ IsIn k more
grown_in [] old new k is has = inl (subst (λ (l : List ℕ). IsIn k l) (sym is) has)
grown_in (x ∷ more) old new k is has = elim (grown_in more is.0 new k is.2 has) [
  | inl mid ↦ elim (added_in x k old is.0 is.1 mid) [ inl before ↦ inl before | inr here ↦ inr (inl here) ]
  | inr later ↦ inr (inr later)
]

kids_same : (cells cells' : ℕ → List Cell) (level : ℕ) (cs : List Cell)
    → ((block : ℕ) → ((k : ℕ) → IsIn k (nodes_in level (tree_at cells level block)) → cells' k ≡ cells k) → tree_at cells' level block ≡ tree_at cells level block)
    → ((k : ℕ) → IsIn k (flat_map (λ c. nodes_in level c.1) (kids cells level cs)) → cells' k ≡ cells k) → kids cells' level cs ≡ kids cells level cs
kids_same cells cells' level [] each kept = refl
kids_same cells cells' level (c ∷ cs) each kept =
    let first : tree_at cells' level (child_of c.1) ≡ tree_at cells level (child_of c.1) =
    each (child_of c.1) (λ k is. kept k (in_front k (nodes_in level (tree_at cells level (child_of c.1))) _ is)) in
    let rest : kids cells' level cs ≡ kids cells level cs =
    kids_same cells cells' level cs each (λ k is. kept k (in_back k (nodes_in level (tree_at cells level (child_of c.1))) _ is)) in
    λ i. (c.0, first i) ∷ rest i

-- a tree none of whose blocks changed
pub tree_same : (cells cells' : ℕ → List Cell) (level block : ℕ) → ((k : ℕ) → IsIn k (nodes_in level (tree_at cells level block)) → cells' k ≡ cells k)
    → tree_at cells' level block ≡ tree_at cells level block
tree_same cells cells' zero block kept = ap (λ (cs : List Cell). (block, cs)) (kept block (inl refl))
tree_same cells cells' (suc level) block kept =
    let below : kids cells' level (cells block) ≡ kids cells level (cells block) =
    kids_same cells cells' level (cells block) (tree_same cells cells' level) (λ k is. kept k (inr is)) in
    ap (λ (cs : List Cell). (block, kids cells' level cs)) (kept block (inl refl)) ∙ ap (λ ts. (block, ts)) below

pub kids_kept : (cells cells' : ℕ → List Cell) (level : ℕ) (cs : List Cell) → ((k : ℕ) → IsIn k (flat_map (λ c. nodes_in level c.1) (kids cells level cs)) → cells' k ≡ cells k)
    → kids cells' level cs ≡ kids cells level cs
kids_kept cells cells' level cs kept = kids_same cells cells' level cs (tree_same cells cells' level) kept

module _ (cells : ℕ → List Cell) (level : ℕ) (key : List ℕ) where
  abbrev kid : Cell → List ℕ × Tree level
  kid c = (c.0, tree_at cells level (child_of c.1))

  abbrev below : List ℕ → List ℕ
  below part = nodes_in level (tree_at cells level (child_of part))

  pub chosen_kid : (c : Cell) (cs : List Cell) → chosen key (tree_at cells level (child_of c.1)) (kids cells level cs) ≡ tree_at cells level (child_of (chosen key c.1 cs))
  chosen_kid c [] = refl
  chosen_kid c (d ∷ ds) = elim (before key d.0) as (λ b. cond b (tree_at cells level (child_of c.1)) (chosen key (tree_at cells level (child_of d.1)) (kids cells level ds)) ≡ tree_at cells level (child_of (cond b c.1 (chosen key d.1 ds)))) [
    | true ↦ refl
    | false ↦ chosen_kid d ds
  ]

  pub chosen_in : (k : ℕ) (c : Cell) (cs : List Cell) → IsIn k (nodes_in level (tree_at cells level (child_of (chosen key c.1 cs))))
      → IsIn k (nodes_in level (tree_at cells level (child_of c.1)) ++ flat_map (λ c. nodes_in level c.1) (kids cells level cs))
  chosen_in k c [] is = in_front k (below c.1) [] is
  chosen_in k c (d ∷ ds) is = elim (before key d.0) as (λ b. IsIn k (below (cond b c.1 (chosen key d.1 ds))) → IsIn k (below c.1 ++ flat_map (λ c. nodes_in level c.1) (kids cells level (d ∷ ds)))) [
    | true ↦ λ h. in_front k (below c.1) _ h
    | false ↦ λ h. in_back k (below c.1) _ (chosen_in k d ds h)
  ] is

  -- the children after the chosen one changed, and another came beside it
  pub set_one : (cells' : ℕ → List Cell) (c : Cell) (cs : List Cell) → IsApart (below c.1 ++ flat_map (λ c. nodes_in level c.1) (kids cells level cs))
      → ((k : ℕ) → IsIn k (below c.1 ++ flat_map (λ c. nodes_in level c.1) (kids cells level cs)) → (IsIn k (below (chosen key c.1 cs)) → ⊥) → cells' k ≡ cells k)
      → kids cells' level (c ∷ cs) ≡ set_chosen key (tree_at cells' level (child_of (chosen key c.1 cs))) [] (kid c) (kids cells level cs)
  set_one cells' c [] apart kept = refl
  set_one cells' c (d ∷ ds) apart kept =
      let parts = apart_parts (below c.1) (flat_map (λ c. nodes_in level c.1) (kids cells level (d ∷ ds))) apart in
      elim (before key d.0) as (λ b. ((k : ℕ) → IsIn k (below c.1 ++ flat_map (λ c. nodes_in level c.1) (kids cells level (d ∷ ds))) → (IsIn k (below (cond b c.1 (chosen key d.1 ds))) → ⊥) → cells' k ≡ cells k)
      → kids cells' level (c ∷ d ∷ ds) ≡ cond b ((c.0, tree_at cells' level (child_of (cond b c.1 (chosen key d.1 ds)))) ∷ [] ++ kids cells level (d ∷ ds)) (kid c ∷ set_chosen key (tree_at cells' level (child_of (cond b c.1 (chosen key d.1 ds)))) [] (kid d) (kids cells level ds))) [
        | true ↦ λ h. ap (λ ts. (c.0, tree_at cells' level (child_of c.1)) ∷ ts) (kids_kept cells cells' level (d ∷ ds) (λ k is. h k (in_back k (below c.1) _ is) (λ mine. parts.2 k mine is)))
        | false ↦ λ h.
            (let first : tree_at cells' level (child_of c.1) ≡ tree_at cells level (child_of c.1) = tree_same cells cells' level (child_of c.1)
            (λ k is. h k (in_front k (below c.1) _ is) (λ other. parts.2 k is (chosen_in k d ds other))) in
            λ i. (c.0, first i) ∷ (set_one cells' d ds parts.1 (λ k is not. h k (in_back k (below c.1) _ is) not)) i)
      ] kept

  pub set_two : (cells' : ℕ → List Cell) (new : Cell) (c : Cell) (cs : List Cell) → IsApart (below c.1 ++ flat_map (λ c. nodes_in level c.1) (kids cells level cs))
      → ((k : ℕ) → IsIn k (below c.1 ++ flat_map (λ c. nodes_in level c.1) (kids cells level cs)) → (IsIn k (below (chosen key c.1 cs)) → ⊥) → cells' k ≡ cells k)
      → kids cells' level (c ∷ put_after key new cs) ≡ set_chosen key (tree_at cells' level (child_of (chosen key c.1 cs))) ((new.0, tree_at cells' level (child_of new.1)) ∷ []) (kid c) (kids cells level cs)
  set_two cells' new c [] apart kept = refl
  set_two cells' new c (d ∷ ds) apart kept =
      let parts = apart_parts (below c.1) (flat_map (λ c. nodes_in level c.1) (kids cells level (d ∷ ds))) apart in
      elim (before key d.0) as (λ b. ((k : ℕ) → IsIn k (below c.1 ++ flat_map (λ c. nodes_in level c.1) (kids cells level (d ∷ ds))) → (IsIn k (below (cond b c.1 (chosen key d.1 ds))) → ⊥) → cells' k ≡ cells k)
      → kids cells' level (c ∷ cond b (new ∷ d ∷ ds) (d ∷ put_after key new ds)) ≡ cond b ((c.0, tree_at cells' level (child_of (cond b c.1 (chosen key d.1 ds)))) ∷ ((new.0, tree_at cells' level (child_of new.1)) ∷ []) ++ kids cells level (d ∷ ds)) (kid c ∷ set_chosen key (tree_at cells' level (child_of (cond b c.1 (chosen key d.1 ds)))) ((new.0, tree_at cells' level (child_of new.1)) ∷ []) (kid d) (kids cells level ds))) [
        | true ↦ λ h. ap (λ ts. (c.0, tree_at cells' level (child_of c.1)) ∷ (new.0, tree_at cells' level (child_of new.1)) ∷ ts) (kids_kept cells cells' level (d ∷ ds) (λ k is. h k (in_back k (below c.1) _ is) (λ mine. parts.2 k mine is)))
        | false ↦ λ h.
            (let first : tree_at cells' level (child_of c.1) ≡ tree_at cells level (child_of c.1) = tree_same cells cells' level (child_of c.1)
            (λ k is. h k (in_front k (below c.1) _ is) (λ other. parts.2 k is (chosen_in k d ds other))) in
            λ i. (c.0, first i) ∷ (set_two cells' new d ds parts.1 (λ k is not. h k (in_back k (below c.1) _ is) not)) i)
      ] kept
