-- What the proofs say of trees and of what a put makes of them.
use Rattle.iso_tree.proofs.Words.{AllByRecursion, before, Cell, child_of, Tree, tree_at, AreAfter, put_after, Put, fit, length, ◌≡◌, refl, ap, suc, Option, Some, List, [], ◌∷◌}
use Rattle.std.specs.Prelude.{◌≡◌, ℕ, zero, suc, ◌≤◌, ◌&&◌, ◌==◌, cond, List, [], ◌∷◌, ◌++◌, Option, Some, None, length, map}

abbrev pub kids : (ℕ → List Cell) → (level : ℕ) → List Cell → List (List ℕ × Tree level)
kids cells level cs = map (λ c. (c.0, tree_at cells level (child_of c.1))) cs

-- where the range of a child ends: at the next key, or where the range of the node ends
abbrev pub end_of : {X : Type 0} → Option (List ℕ) → List (List ℕ × X) → Option (List ℕ)
end_of high [] = high
end_of high (d ∷ ds) = Some d.0

-- the last cell whose key is at most the searched one, c if there is none
abbrev pub chosen : {X : Type 0} → (key : List ℕ) → X → List (List ℕ × X) → X
chosen key c [] = c
chosen key c (d ∷ ds) = cond (before key d.0) c (chosen key d.1 ds)

-- the value part that names a block
abbrev pub after_child : (n : ℕ) → (part : ℕ → List ℕ) → (key : List ℕ) → (level block : ℕ) → List Cell → Put → Option (List ℕ × ℕ) → Put
after_child n part key level block [] p second = p
after_child n part key level block (c ∷ cs) p None = p
after_child n part key level block (c ∷ cs) p (Some new) =
    let q = fit n (suc level) block (c ∷ put_after key (new.0, part new.1) cs) p.left in
    record { writes = p.writes ++ q.writes; second = q.second; taken = p.taken ++ q.taken; left = q.left; enough = p.enough && q.enough }

-- the part of the first cell
abbrev pub child_for : (key : List ℕ) → List Cell → List ℕ
child_for key [] = []
child_for key (c ∷ cs) = chosen key c.1 cs

abbrev pub put_below : (n : ℕ) → (part : ℕ → List ℕ) → (ℕ → List Cell) → (key value : List ℕ) → (level block : ℕ) → List ℕ → Put
put_below n part cells key value zero block news = fit n zero block (put_after key (key, value) (cells block)) news
put_below n part cells key value (suc level) block news =
    let p = put_below n part cells key value level (child_of (child_for key (cells block))) news in
    after_child n part key level block (cells block) p p.second

-- the cells after writes
abbrev pub write_cells : (ℕ → List Cell) → ℕ × ℕ × List Cell → ℕ → List Cell
write_cells cells w k = cond (k == w.0) w.2 (cells k)

abbrev pub written : (ℕ → List Cell) → List (ℕ × ℕ × List Cell) → ℕ → List Cell
written cells [] = cells
written cells (w ∷ ws) = written (write_cells cells w) ws

-- the children with t and perhaps more in place of the chosen one, which is c where no later key is at most the searched one
abbrev pub set_chosen : {X : Type 0} → (key : List ℕ) → X → List (List ℕ × X) → List ℕ × X → List (List ℕ × X) → List (List ℕ × X)
set_chosen key t more c [] = (c.0, t) ∷ more
set_chosen key t more c (d ∷ ds) = cond (before key d.0) ((c.0, t) ∷ more ++ d ∷ ds) (c ∷ set_chosen key t more d ds)

-- the children, whatever the first key is
abbrev pub AreFrom : {X : Type 0} → (List ℕ → Option (List ℕ) → X → Type 0) → (last low : List ℕ) → (high : Option (List ℕ)) → List (List ℕ × X) → Type 0
AreFrom P last low high [] = ⊥
AreFrom P last low high (c ∷ cs) = AreAfter P last low high c.1 cs

-- a list with one more element
abbrev pub IsAdded : {X : Type 0} → X → List X → List X → Type 0
IsAdded {X} x old new = (xs : List X) × (ys : List X) × (old ≡ xs ++ ys) × (new ≡ xs ++ x ∷ ys)

-- a list with these more elements
abbrev pub IsGrown : {X : Type 0} → List X → List X → List X → Type 0
IsGrown [] old new = old ≡ new
IsGrown {X} (x ∷ more) old new = (mid : List X) × IsAdded x old mid × IsGrown more mid new

-- the second node where there is one
abbrev pub second_kid : (ℕ → List Cell) → (level : ℕ) → Option (List ℕ × ℕ) → List (List ℕ × Tree level)
second_kid cells level None = []
second_kid cells level (Some s) = (s.0, tree_at cells level s.1) ∷ []

-- a cell of a leaf that fits its place
abbrev pub IsFitCell : Cell → Type 0
IsFitCell c = (length c.0 ≤ 28) × (length c.1 ≡ 33)

-- how many cells the nodes have: at most n, and an inner node at least 2
abbrev pub IsSized : (n level : ℕ) → Tree level → Type 0
IsSized n zero t = (length t.1 ≤ n) × AllByRecursion IsFitCell t.1
IsSized n (suc level) t = (2 ≤ length t.1) × (length t.1 ≤ n) × AllByRecursion (λ (c : List ℕ × Tree level). (length c.0 ≤ 28) × IsSized n level c.1) t.1

-- the same, with one cell more at the top
abbrev pub IsLoose : (n level : ℕ) → Tree level → Type 0
IsLoose n zero t = (length t.1 ≤ suc n) × AllByRecursion IsFitCell t.1
IsLoose n (suc level) t = (2 ≤ length t.1) × (length t.1 ≤ suc n) × AllByRecursion (λ (c : List ℕ × Tree level). (length c.0 ≤ 28) × IsSized n level c.1) t.1

abbrev pub AreSized : (n level : ℕ) → List (List ℕ × Tree level) → Type 0
AreSized n level cs = AllByRecursion (λ (c : List ℕ × Tree level). (length c.0 ≤ 28) × IsSized n level c.1) cs

pub length-kids : (cells : ℕ → List Cell) (level : ℕ) (cs : List Cell) → length (kids cells level cs) ≡ length cs
length-kids cells level [] = refl
length-kids cells level (c ∷ cs) = ap suc (length-kids cells level cs)

pub same_some : {X : Type 0} (x y : X) → ◌≡◌ {A = Option X} (Some x) (Some y) → x ≡ y
same_some x y e = cc
