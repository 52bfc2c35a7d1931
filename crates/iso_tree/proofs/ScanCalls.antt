-- The pairs of an ordered tree rise: they are the entries of the region's map.
use Rattle.iso_tree.proofs.{Words.{arith, ◌≡◌, ◌∙◌, sym, refl, ap, subst, ℕ, zero, suc, Bool, true, List, [], ◌∷◌, ◌++◌, Option, Some, AllByRecursion, flat_map, nat_cmp, slice_cmp, nat_list_cmp_total, from_entries, from_sorted, entries, entries-from_sorted, get-from_entries, get-from_sorted, same_map, slice_cmp-IsAntisymmetric, nat_cmp-IsAntisymmetric, is_sorted, below_all, T, and_from, and_parts, append-nil, before, Cell, in_range, Tree, pairs_in, AreAfter, AreChildren, IsOrdered, Rise, RiseAfter, Result, Ok, IfOk, Area, StoreError, Array, own, is_key, AreReads, accesses_of, answer_of, IsLocal, Tx, HasRun, IsLocalCall, own_reads, whole_reads, IsCorrect, local_from, run_local, tree_at, scan_below, scan_program, cells_in, root_of, level_of, scan_op, tree_map, tree_pairs, IsTreeRegion, cond_reads, same_ok}, Edits.leaf_pairs, Gets.{ordered_in, pairs_after, head_reads}, Order.{before_trans, all_weaker, before_through, low_of}, ScanTrees.{scan_finds, scan_reads}}

abbrev pub sorted : List (List ℕ × List ℕ) → Bool
sorted pairs = is_sorted (slice_cmp nat_cmp) pairs

abbrev above : List ℕ → List (List ℕ × List ℕ) → Bool
above key pairs = below_all (slice_cmp nat_cmp) key pairs

above_all : (key : List ℕ) (pairs : List (List ℕ × List ℕ)) → AllByRecursion (λ (pair : List ℕ × List ℕ). before key pair.0 ≡ true) pairs → above key pairs ≡ true
above_all key [] all = refl
above_all key (pair ∷ pairs) all = and_from _ _ all.0 (above_all key pairs all.1)

above_both : (key : List ℕ) (xs ys : List (List ℕ × List ℕ)) → above key xs ≡ true → above key ys ≡ true → above key (xs ++ ys) ≡ true
above_both key [] ys one two = two
above_both key (x ∷ xs) ys one two = and_from _ _ (and_parts _ _ one).0 (above_both key xs ys (and_parts _ _ one).1 two)

-- pairs before a key, and pairs from it on
sorted_join : (low mid : List ℕ) (high : Option (List ℕ)) (xs ys : List (List ℕ × List ℕ)) → sorted xs ≡ true → sorted ys ≡ true → AllByRecursion (λ (pair : List ℕ × List ℕ). in_range low (Some mid) pair.0 ≡ true) xs
    → AllByRecursion (λ (pair : List ℕ × List ℕ). in_range mid high pair.0 ≡ true) ys → sorted (xs ++ ys) ≡ true
sorted_join low mid high [] ys one two left right = two
sorted_join low mid high (x ∷ xs) ys one two left right =
    let parts = and_parts (above x.0 xs) (sorted xs) one in
    and_from _ _
    (above_both x.0 xs ys parts.0 (above_all x.0 ys
    (all_weaker (λ (pair : List ℕ × List ℕ). in_range mid high pair.0 ≡ true) (λ (pair : List ℕ × List ℕ). before x.0 pair.0 ≡ true) ys (λ pair is. before_through x.0 mid pair.0 ((and_parts _ _ left.0).1) (low_of mid high pair.0 is)) right)))
    (sorted_join low mid high xs ys parts.1 two left.1 right)

-- a leaf
rise_above : (last : List ℕ) (high : Option (List ℕ)) (cs : List Cell) → RiseAfter last high cs → AllByRecursion (λ (pair : List ℕ × List ℕ). before last pair.0 ≡ true) (leaf_pairs cs)
rise_above last high [] is = tt
rise_above last high (c ∷ cs) is = (
  is.0,
  all_weaker (λ (pair : List ℕ × List ℕ). before c.0 pair.0 ≡ true) (λ (pair : List ℕ × List ℕ). before last pair.0 ≡ true) (leaf_pairs cs) (λ pair more. before_trans last c.0 pair.0 is.0 more) (rise_above c.0 high cs is.2),
)

after_sorted : (last : List ℕ) (high : Option (List ℕ)) (cs : List Cell) → RiseAfter last high cs → sorted (leaf_pairs cs) ≡ true
after_sorted last high [] is = refl
after_sorted last high (c ∷ cs) is = and_from _ _ (above_all c.0 (leaf_pairs cs) (rise_above c.0 high cs is.2)) (after_sorted c.0 high cs is.2)

leaf_sorted : (low : List ℕ) (high : Option (List ℕ)) (cs : List Cell) → Rise low high cs → sorted (leaf_pairs cs) ≡ true
leaf_sorted low high [] is = refl
leaf_sorted low high (c ∷ cs) is = and_from _ _ (above_all c.0 (leaf_pairs cs) (rise_above c.0 high cs is.1)) (after_sorted c.0 high cs is.1)

-- an inner node
module _ (level : ℕ) (each : (low : List ℕ) (high : Option (List ℕ)) (t : Tree level) → IsOrdered level low high t → sorted (pairs_in level t) ≡ true) where
  row_sorted : (last low : List ℕ) (high : Option (List ℕ)) (t : Tree level) (ts : List (List ℕ × Tree level)) → AreAfter (IsOrdered level) last low high t ts → sorted (pairs_in level t ++ flat_map (λ c. pairs_in level c.1) ts) ≡ true
  row_sorted last low high t [] is = ap sorted (append-nil (pairs_in level t)) ∙ each low high t is
  row_sorted last low high t (d ∷ ds) is =
      sorted_join low d.0 high (pairs_in level t) (pairs_in level d.1 ++ flat_map (λ c. pairs_in level c.1) ds) (each low (Some d.0) t is.2) (row_sorted d.0 d.0 high d.1 ds is.3)
      (ordered_in level low (Some d.0) t is.2) (pairs_after (IsOrdered level) (pairs_in level) (ordered_in level) d.0 d.0 high d.1 ds is.3)

  children_sorted : (low : List ℕ) (high : Option (List ℕ)) (ts : List (List ℕ × Tree level)) → AreChildren (IsOrdered level) low high ts → sorted (flat_map (λ c. pairs_in level c.1) ts) ≡ true
  children_sorted low high [] is = absurd is
  children_sorted low high (t ∷ ts) is = row_sorted [] low high t.1 ts is.1

pub tree_sorted : (level : ℕ) (low : List ℕ) (high : Option (List ℕ)) (t : Tree level) → IsOrdered level low high t → sorted (pairs_in level t) ≡ true
tree_sorted zero low high t is = leaf_sorted low high t.1 is
tree_sorted (suc level) low high t is = children_sorted level (tree_sorted level) low high t.1 is

-- the entries of a map of pairs that rise
pub entries_are : (pairs : List (List ℕ × List ℕ)) → sorted pairs ≡ true → ◌≡◌ {A = List (List ℕ × List ℕ)} (entries {R = slice_cmp nat_cmp} (from_entries pairs)) pairs
entries_are pairs equal =
    let is : T (sorted pairs) = subst T (sym equal) tt in
    ap entries (same_map nat_list_cmp_total (slice_cmp-IsAntisymmetric nat_cmp-IsAntisymmetric) (from_entries pairs) (from_sorted pairs)
    (λ q. get-from_entries nat_list_cmp_total pairs q ∙ sym (get-from_sorted (slice_cmp nat_cmp) pairs q is)))
    ∙ entries-from_sorted (slice_cmp nat_cmp) pairs is

-- A scan is that of the region's map.
-- what is wanted of an empty tree, and below a root
module _ (a : Area) (A : Array) (region : IsTreeRegion a A) where
  abbrev root : ℕ
  root = root_of a A

  abbrev level : ℕ
  level = level_of a A

  abbrev below : List (List ℕ × List ℕ)
  below = pairs_in level (tree_at (cells_in a A) level root)

  map_entries : entries (tree_map a A) ≡ tree_pairs a A
  unfolding tree_map
  map_entries = grind (arith, entries_are, tree_sorted)

  below_finds : (from to : List ℕ) (most : ℕ) → answer_of (scan_below a from to most root level) A ≡ Ok (scan_op from to most (tree_map a A)).0
  below_finds from to most = grind (arith, map_entries, scan_finds)

-- A scan answers the first pairs of its range that the map of a well-formed region has.
pub scan_answers : (a : Area) (A : Array) (from to : List ℕ) (most : ℕ) → IsTreeRegion a A → is_key from ≡ true → is_key to ≡ true → answer_of (scan_program a from to most) A ≡ Ok (scan_op from to most (tree_map a A)).0
unfolding scan_program
scan_answers a A from to most region from_is to_is = grind (arith, below_finds)

-- It reads alone.
pub program_reads : (a : Area) (from to : List ℕ) (most : ℕ) (A : Array) → AreReads (accesses_of (scan_program a from to most) A)
unfolding scan_program
program_reads a from to most A = grind (arith, cond_reads, head_reads, scan_reads)

pub scan_correct : (a : Area) (from to : List ℕ) (most : ℕ) → is_key from ≡ true → is_key to ≡ true → IsCorrect (IsTreeRegion a) (tree_map a) (scan_op from to most) Ok (scan_program a from to most)
scan_correct a from to most from_is to_is = record {
  answer = λ B r region e. same_ok _ _ StoreError (sym (scan_answers a B from to most region from_is to_is) ∙ e);
  well_formed = λ B r region e. subst (IsTreeRegion a) (sym (own_reads B (accesses_of (scan_program a from to most) B) (program_reads a from to most B))) region;
  maps = λ B r region e. ap (tree_map a) (own_reads B (accesses_of (scan_program a from to most) B) (program_reads a from to most B));
}

pub scan_local : (a : Area) (from to : List ℕ) (most : ℕ) (A : Array) (r : List (List ℕ × List ℕ)) → is_key from ≡ true → is_key to ≡ true → answer_of (scan_program a from to most) A ≡ Ok r
    → IsLocal (IsTreeRegion a) (tree_map a) (scan_op from to most) A (accesses_of (scan_program a from to most) A) r
scan_local a from to most A r from_is to_is e =
    local_from (IsTreeRegion a) (tree_map a) (scan_op from to most) Ok (scan_program a from to most) A r (scan_correct a from to most from_is to_is) (whole_reads A (accesses_of (scan_program a from to most) A) (program_reads a from to most A)) e

-- A scan that was made is local.
pub scan_call : (a : Area) (from to : List ℕ) (most : ℕ) (t u : Tx) (result : Result (List (List ℕ × List ℕ)) StoreError) → is_key from ≡ true → is_key to ≡ true
    → HasRun (scan_program a from to most) t u result → IfOk result (IsLocalCall (IsTreeRegion a) (tree_map a) (scan_op from to most) t u)
scan_call a from to most t u result from_is to_is run =
    run_local (IsTreeRegion a) (tree_map a) (scan_op from to most) (scan_program a from to most) t u result (λ A x told answer. scan_local a from to most (own A t.accesses) x from_is to_is answer) run
