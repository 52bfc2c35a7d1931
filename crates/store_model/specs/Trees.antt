-- The tree that a region holds, and what a put makes of it.
use Rattle.std.specs.{Prelude.{◌≡◌, ℕ, zero, suc, ◌+◌, ◌/◌, Bool, true, false, ◌&&◌, not, cond, IsTrue, List, [], ◌∷◌, Option, Some, None, nat_le, take, drop, length, map}, List.flat_map}
use Rattle.store_model.specs.{Cells.text_of, HashRegion.IsIn, TreeNodes.{before, Cell, child_of}}

-- A tree of a level: the block of a leaf and its cells, or the block of an inner node and under their keys the trees below.
abbrev pub Tree : (level : ℕ) → Type 0
Tree zero = ℕ × List Cell
Tree (suc level) = ℕ × List (List ℕ × Tree level)

-- the tree from a block on, by the used cells of each block
abbrev pub tree_at : (ℕ → List Cell) → (level block : ℕ) → Tree level
tree_at cells zero block = (block, cells block)
tree_at cells (suc level) block = (block, map (λ c. (c.0, tree_at cells level (child_of c.1))) (cells block))

-- its pairs, and the blocks of its nodes
abbrev pub pairs_in : (level : ℕ) → Tree level → List (List ℕ × List ℕ)
pairs_in zero t = map (λ c. (c.0, text_of c.1)) t.1
pairs_in (suc level) t = flat_map (λ c. pairs_in level c.1) t.1

abbrev pub nodes_in : (level : ℕ) → Tree level → List ℕ
nodes_in zero t = t.0 ∷ []
nodes_in (suc level) t = t.0 ∷ flat_map (λ c. nodes_in level c.1) t.1

-- a list without doubles
abbrev pub IsApart : List ℕ → Type 0
IsApart [] = Unit {0}
IsApart (x ∷ xs) = (IsIn x xs → ⊥) × IsApart xs

-- a key of a range: at least the first, and before the second where there is one
abbrev pub in_range : (low : List ℕ) → (high : Option (List ℕ)) → List ℕ → Bool
in_range low None key = not (before key low)
in_range low (Some high) key = not (before key low) && before key high

-- keys that rise strictly, and lie in the range
abbrev pub RiseAfter : (last : List ℕ) → (high : Option (List ℕ)) → List Cell → Type 0
RiseAfter last high [] = Unit {0}
RiseAfter last high (c ∷ cs) = IsTrue (before last c.0) × IsTrue (in_range last high c.0) × RiseAfter c.0 high cs

abbrev pub Rise : (low : List ℕ) → (high : Option (List ℕ)) → List Cell → Type 0
Rise low high [] = Unit {0}
Rise low high (c ∷ cs) = IsTrue (in_range low high c.0) × RiseAfter c.0 high cs

-- The keys rise strictly from `last` on and lie in the range from `low` to `high`; each child has the property for its range,
-- which is from its key (`low` for the first child) to the next.
abbrev pub AreAfter : {X : Type 0} → (List ℕ → Option (List ℕ) → X → Type 0) → (last low : List ℕ) → (high : Option (List ℕ)) → X → List (List ℕ × X) → Type 0
AreAfter P last low high c [] = P low high c
AreAfter P last low high c (d ∷ ds) = IsTrue (before last d.0) × IsTrue (in_range low high d.0) × P low (Some d.0) c × AreAfter P d.0 d.0 high d.1 ds

-- the children of an inner node, the first under the empty key
abbrev pub AreChildren : {X : Type 0} → (List ℕ → Option (List ℕ) → X → Type 0) → (low : List ℕ) → (high : Option (List ℕ)) → List (List ℕ × X) → Type 0
AreChildren P low high [] = ⊥
AreChildren P low high (c ∷ cs) = (c.0 ≡ []) × AreAfter P [] low high c.1 cs

-- all keys of the tree lie in the ranges of their ancestors, and rise in each node
abbrev pub IsOrdered : (level : ℕ) → (low : List ℕ) → (high : Option (List ℕ)) → Tree level → Type 0
IsOrdered zero low high t = Rise low high t.1
IsOrdered (suc level) low high t = AreChildren (IsOrdered level) low high t.1

-- the cells with a new one, before the first whose key is above the searched one
abbrev pub put_after : {X : Type 0} → (key : List ℕ) → List ℕ × X → List (List ℕ × X) → List (List ℕ × X)
put_after key new [] = new ∷ []
put_after key new (d ∷ ds) = cond (before key d.0) (new ∷ d ∷ ds) (d ∷ put_after key new ds)

-- What a put does at a node, or from the leaf up to it: the writes of nodes (block, level, cells) in order; the separator and the
-- new block where the node was split; the new blocks that were taken, and those that are left; and whether there were enough.
pub record Put : Type 0 where
  pub writes : List (ℕ × ℕ × List Cell)
  pub second : Option (List ℕ × ℕ)
  pub taken : List ℕ
  pub left : List ℕ
  pub enough : Bool

-- the first key, and the cells with the empty key in place of it
abbrev pub first_key : {X : Type 0} → List (List ℕ × X) → List ℕ
first_key [] = []
first_key (c ∷ cs) = c.0

abbrev pub without_first : {X : Type 0} → List (List ℕ × X) → List (List ℕ × X)
without_first [] = []
without_first (c ∷ cs) = ([], c.1) ∷ cs

-- the cells of a right half: in an inner node the first key becomes empty
abbrev pub emptied : (level : ℕ) → List Cell → List Cell
emptied zero cs = cs
emptied (suc level) cs = without_first cs

-- how many of n + 1 cells stay
abbrev pub half : ℕ → ℕ
half n = (n + 1) / 2

-- the writes of a node's two halves
abbrev pub halves : (n : ℕ) → (level block : ℕ) → List Cell → List ℕ → Put
halves n level block cs [] = record { writes = []; second = None; taken = []; left = []; enough = false }
halves n level block cs (new ∷ news) = record {
  writes = (block, level, take (half n) cs) ∷ (new, level, emptied level (drop (half n) cs)) ∷ [];
  second = Some (first_key (drop (half n) cs), new);
  taken = new ∷ [];
  left = news;
  enough = true;
}

-- the write of a node of at most n cells, or the writes of its halves
abbrev pub fit : (n : ℕ) → (level block : ℕ) → List Cell → List ℕ → Put
fit n level block cs news =
    cond (nat_le (length cs) n) (record { writes = (block, level, cs) ∷ []; second = None; taken = []; left = news; enough = true }) (halves n level block cs news)
