-- What the tests of nodes and heads say.
use Rattle.iso_tree.proofs.Words.{◌≡◌, ◌∙◌, sym, refl, ap, ℕ, ◌<◌, ◌≤◌, Bool, true, false, ◌&&◌, ◌||◌, ◌==◌, nat_le, List, length, Option, Some, None, Result, Ok, arith, bytes_eq, and_parts, leb-true, ltb-true, Area, cell_count, key_at, are_key_parts, word_at, found_or, cell_of, count_of, has_head, has_level, are_cells, is_node, is_child, child_of, is_head, first_below, suc, ◌+◌, ◌-◌, cond, before, below_from, place_from, subst, [], ◌∷◌, option_map, AllByRecursion, nat_cmp, eq_by_cmp, slice_cmp, first_from, in_range, ties, not_bytes_eq, found_in}

pub record IsParts (size level : ℕ) (keys : List ℕ) : Type 0 where
  pub head : has_head size level keys ≡ true
  pub few : count_of keys ≤ cell_count size
  pub parts : are_key_parts size keys ≡ true
  pub cells : are_cells size keys (count_of keys) ≡ true
  pub level_is : has_level size level keys (count_of keys) ≡ true

pub node_parts : (size level : ℕ) (keys : List ℕ) → is_node size level keys ≡ true → IsParts size level keys
unfolding is_node
node_parts size level keys is =
    let one = and_parts (has_head size level keys) _ is in
    let two = and_parts (are_key_parts size keys) _ one.1 in
    let three = and_parts (are_cells size keys (count_of keys)) _ two.1 in
    record { head = one.0; few = leb-true _ _ (and_parts _ _ one.0).1; parts = two.0; cells = three.0; level_is = three.1 }

-- an inner node has at least two cells
pub inner_many : (size level : ℕ) (keys : List ℕ) → is_node size level keys ≡ true → 0 < level → 2 ≤ count_of keys
inner_many size level keys is some =
    let not : (level == 0) ≡ false = Rattle.std.proofs.Common.ne_eqb level 0 (λ e. absurd (omega arith)) in
    let many = nat_le 2 (count_of keys) in
    let empty = length (key_at keys 0) == 0 in
    leb-true 2 (count_of keys) (and_parts many empty (sym (ap (λ (t : Bool). t || (many && empty)) not) ∙ ((and_parts ((level == 0) || (many && empty)) _ (node_parts size level keys is).level_is).0))).0

-- a child is a block of the region
pub record IsBelow (blocks : ℕ) (part : List ℕ) : Type 0 where
  pub some : 1 ≤ child_of part
  pub below : child_of part < blocks

pub child_below : (blocks : ℕ) (part : List ℕ) → is_child blocks part ≡ true → IsBelow blocks part
child_below blocks part is = grind arith steps 100000

pub record IsRoot (a : Area) (head : List ℕ) : Type 0 where
  pub root : word_at 0 head < a.blocks
  pub level : word_at 4 head ≤ 31

pub head_parts : (a : Area) (head : List ℕ) → is_head a head ≡ true → IsRoot a head
head_parts a head is = let front = (and_parts _ _ is).0 in record { root = ltb-true _ _ (and_parts _ _ front).0; level = leb-true _ _ (and_parts _ _ front).1 }

-- where a look-up in a node finds no cell
pub found_none : (o : Option ℕ) (place : ℕ) (r : Result ℕ ℕ) → r ≡ found_or o place → ((cell : ℕ) → r ≡ Ok cell → ⊥) → o ≡ None
found_none None place r is other = refl
found_none (Some i) place r is other = absurd (other i is)

pub cell_used : (key keys : List ℕ) (i : ℕ) → cell_of key keys ≡ Some i → i < count_of keys
cell_used key keys i e = let below = first_below (λ j. bytes_eq (key_at keys j) key) 0 (count_of keys) i e in omega arith

pub nothing_is : false ≡ true → ⊥
nothing_is e = cc

-- a look-up that was not Some
pub missing : (o : Option ℕ) → ((i : ℕ) → o ≡ Some i → ⊥) → o ≡ None
missing None other = refl
missing (Some i) other = absurd (other i refl)

pub missing_pair : (o : Option (ℕ × ℕ)) → ((i : ℕ × ℕ) → o ≡ Some i → ⊥) → o ≡ None
missing_pair None other = refl
missing_pair (Some i) other = absurd (other i refl)

-- Steps of the loops over keys.
below_step : (key keys : List ℕ) (i n : ℕ) → i < n → below_from key keys i (n - i) ≡ cond (before (key_at keys i) key) (suc (below_from key keys (i + 1) (n - (i + 1)))) 0
below_step key keys i n below = let e : n - i ≡ suc (n - (i + 1)) = omega arith in rw e refl

pub below_goes_on : (key keys : List ℕ) (i n c total : ℕ) → i < n → c + below_from key keys i (n - i) ≡ total → before (key_at keys i) key ≡ true → c + 1 + below_from key keys (i + 1) (n - (i + 1)) ≡ total
below_goes_on key keys i n c total below so less = grind (arith, below_step) steps 100000

pub below_ends : (key keys : List ℕ) (i n c total : ℕ) → i < n → c + below_from key keys i (n - i) ≡ total → before (key_at keys i) key ≡ false → c ≡ total
below_ends key keys i n c total below so not = grind (arith, below_step) steps 100000

place_step : (key keys : List ℕ) (j i n : ℕ) → i < n → place_from key keys j i (n - i) ≡ cond (before key (key_at keys i)) j (place_from key keys i (i + 1) (n - (i + 1)))
place_step key keys j i n below = let e : n - i ≡ suc (n - (i + 1)) = omega arith in rw e refl

pub place_ends : (key keys : List ℕ) (j i n p : ℕ) → i < n → place_from key keys j i (n - i) ≡ p → before key (key_at keys i) ≡ true → j ≡ p
place_ends key keys j i n p below so less = sym (place_step key keys j i n below ∙ ap (λ t. cond t j (place_from key keys i (i + 1) (n - (i + 1)))) less) ∙ so

pub place_goes_on : (key keys : List ℕ) (j i n p : ℕ) → i < n → place_from key keys j i (n - i) ≡ p → before key (key_at keys i) ≡ false → place_from key keys (i + 1 - 1) (i + 1) (n - (i + 1)) ≡ p
place_goes_on key keys j i n p below so not = grind (arith, place_step) steps 100000

-- What a look-up finds among pairs.
-- the first number that passes, and what is there
pub at_test : (t : Bool) (x : List ℕ) (i n : ℕ) (f : ℕ → List ℕ) (test : ℕ → Bool) {rest : Option (List ℕ)} → x ≡ f i → rest ≡ option_map f (first_from test (i + 1) n)
    → cond t (Some x) rest ≡ option_map f (cond t (Some i) (first_from test (i + 1) n))
at_test true x i n f test e ih = ap (λ y. Some y) e
at_test false x i n f test e ih = ih

-- a key outside of the range of all pairs is not found
pub find_outside : (key low : List ℕ) (high : Option (List ℕ)) (pairs : List (List ℕ × List ℕ)) → AllByRecursion (λ (pair : List ℕ × List ℕ). in_range low high pair.0 ≡ true) pairs → (in_range low high key ≡ true → ⊥) → found_in key pairs ≡ None
find_outside key low high [] all out = refl
find_outside key low high (pair ∷ pairs) all out =
    let not : eq_by_cmp (slice_cmp nat_cmp) key pair.0 ≡ false = ties key pair.0 ∙ not_bytes_eq key pair.0 (λ e. out (subst (λ (k : List ℕ). in_range low high k ≡ true) (sym e) all.0)) in
    rw not (find_outside key low high pairs all.1 out)
