-- The calls of the tree store write blocks of its area alone.
use Rattle.iso_tree.proofs.{Words.{ℕ, zero, suc, ◌-◌, ◌<◌, ◌==◌, ◌&&◌, Bool, false, List, [], ◌∷◌, map, take, Option, Some, None, Result, Ok, refl, inl, inr, arith, nat_lt, AllByRecursion, and_parts, nat_tests, Area, StoreError, cell_count, value_part, free_count, is_key, is_value, IsIn, Done, Program, then_do, AtBroken, AtLeaf, Climb, Descent, climb, climb_on, del_at, del_below, del_program, descend, first_write, free_list, full_row, look_again, placed, put_at, put_below_root, put_new, put_program, put_writes, store_nodes, with_head, with_map, Cell, cell_of, child_of, child_part, count_of, is_child, is_head, is_node, used_cells, IsTreeArea, Put, fit, halves, in_area, in_its_area, start_in, Answers, StoresIn, answers_cond, stores_cell, stores_cond, stores_if, stores_then, all_append}, Facts.{child_below, head_parts}, Taking.taken_are}

-- blocks of the area: of a path, of nodes, and of writes
abbrev PathIn : Area → List (ℕ × ℕ) → Type 0
PathIn a path = AllByRecursion (λ (p : ℕ × ℕ). p.0 < a.blocks) path

abbrev BlocksIn : Area → List ℕ → Type 0
BlocksIn a blocks = AllByRecursion (λ (k : ℕ). k < a.blocks) blocks

abbrev NodesIn : Area → List (ℕ × List Cell) → Type 0
NodesIn a nodes = AllByRecursion (λ (node : ℕ × List Cell). node.0 < a.blocks) nodes

abbrev WritesIn : Area → List (ℕ × ℕ × List Cell) → Type 0
WritesIn a writes = AllByRecursion (λ (w : ℕ × ℕ × List Cell). w.0 < a.blocks) writes

-- where a descent ends lies in the area
abbrev EndsIn : Area → Descent → Type 0
EndsIn a (AtLeaf path leaf keys value) = (leaf < a.blocks) × PathIn a path
EndsIn a (AtBroken block) = Unit {0}

descent_ends : (a : Area) (key : List ℕ) (with_value : Bool) (level block : ℕ) (path : List (ℕ × ℕ)) → block < a.blocks → PathIn a path → Answers (EndsIn a) (descend a key with_value level block path)
descent_ends a key with_value zero block path below passed = λ keys value. answers_cond (EndsIn a) (is_node a.size 0 keys) _ _ (λ is. (below, passed)) (λ broken. tt)
descent_ends a key with_value (suc level) block path below passed = λ keys value.
    answers_cond (EndsIn a) (is_node a.size (suc level) keys && is_child a.blocks value) _ _
    (λ is. descent_ends a key with_value level (child_of value) ((block, count_of keys) ∷ path) (child_below a.blocks value (and_parts _ _ is).1).below (below, passed))
    (λ broken. tt)

-- a descent stores nothing
descent_stores : (has : ℕ → Bool) (a : Area) (key : List ℕ) (with_value : Bool) (level block : ℕ) (path : List (ℕ × ℕ)) → StoresIn has (descend a key with_value level block path)
descent_stores has a key with_value zero block path = λ keys value. stores_cond has (is_node a.size 0 keys) _ _ tt tt
descent_stores has a key with_value (suc level) block path = λ keys value.
    stores_cond has (is_node a.size (suc level) keys && is_child a.blocks value) _ _ (descent_stores has a key with_value level (child_of value) ((block, count_of keys) ∷ path)) tt

after_head : {X : Type 0} (a : Area) (next : ℕ → ℕ → Program (Result X StoreError)) → ((root level : ℕ) → root < a.blocks → StoresIn (in_area a) (next root level)) → StoresIn (in_area a) (with_head a next)
after_head a next each = λ head none. stores_if (in_area a) (is_head a head) _ _ (λ is. each _ _ (head_parts a head is).root) (λ broken. tt)

after_descent : {R : Type 0} (a : Area) (key : List ℕ) (level root : ℕ) (f : Descent → Program R) → root < a.blocks → ((d : Descent) → EndsIn a d → StoresIn (in_area a) (f d))
    → StoresIn (in_area a) (then_do (descend a key false level root []) f)
after_descent a key level root f below each =
    stores_then (in_area a) (EndsIn a) (descend a key false level root []) f (descent_stores (in_area a) a key false level root []) (descent_ends a key false level root [] below tt) each

-- THE WAY UP
record IsInside (a : Area) (q : Put) : Type 0 where
  writes : WritesIn a q.writes
  left : BlocksIn a q.left

halves_inside : (a : Area) (n level block : ℕ) (cs : List Cell) (news : List ℕ) → block < a.blocks → BlocksIn a news → IsInside a (halves n level block cs news)
halves_inside a n level block cs [] below free = record { writes = tt; left = tt }
halves_inside a n level block cs (new ∷ news) below free = record { writes = (below, (free.0, tt)); left = free.1 }

fit_inside : (a : Area) (n level block : ℕ) (cs : List Cell) (news : List ℕ) → block < a.blocks → BlocksIn a news → IsInside a (fit n level block cs news)
fit_inside a n level block cs news below free = grind (arith, halves_inside) steps 100000

on_inside : (a : Area) (q : Put) (on : List ℕ × ℕ → Climb) (o : Option (List ℕ × ℕ)) → WritesIn a q.writes → ((s : List ℕ × ℕ) → WritesIn a (on s).writes) → WritesIn a (climb_on q on o).writes
on_inside a q on None writes each = writes
on_inside a q on (Some s) writes each = all_append (λ (w : ℕ × ℕ × List Cell). w.0 < a.blocks) q.writes (on s).writes writes (each s)

climb_inside : (a : Area) (n : ℕ) (key : List ℕ) (level : ℕ) (new : Cell) (below : ℕ) (nodes : List (ℕ × List Cell)) (news : List ℕ) → NodesIn a nodes → BlocksIn a news
    → WritesIn a (climb n key level new below nodes news).writes
climb_inside a n key level new below [] [] read free = tt
climb_inside a n key level new below [] (r ∷ news) read free = (free.0, tt)
climb_inside a n key level new below (node ∷ nodes) news read free =
    let q = fit n level node.0 (placed level key new node.1) news in
    let inside = fit_inside a n level node.0 (placed level key new node.1) news read.0 free in
    on_inside a q (λ s. climb n key (suc level) (s.0, child_part s.1) node.0 nodes q.left) q.second inside.writes
    (λ s. climb_inside a n key (suc level) (s.0, child_part s.1) node.0 nodes q.left read.1 inside.left)

-- THE WRITES
nodes_stores : {R : Type 0} (a : Area) (writes : List (ℕ × ℕ × List Cell)) (next : Program R) → WritesIn a writes → StoresIn (in_area a) next → StoresIn (in_area a) (store_nodes a writes next)
nodes_stores a [] next inside stores = stores
nodes_stores a (w ∷ writes) next inside stores = (in_its_area a w.0 inside.0, nodes_stores a writes next inside.1 stores)

first_stores : {R : Type 0} (a : Area) (first taken : List ℕ) (root : Option (ℕ × ℕ)) (next : Program R) → 0 < a.blocks → StoresIn (in_area a) next → StoresIn (in_area a) (first_write a first taken root next)
first_stores a first taken None next some stores = (start_in a some, stores)
first_stores a first taken (Some root) next some stores = (start_in a some, stores)

again_stores : {R : Type 0} (a : Area) (blocks : List ℕ) (f : List (ℕ × List Cell) → Program R) → BlocksIn a blocks → ((nodes : List (ℕ × List Cell)) → NodesIn a nodes → StoresIn (in_area a) (f nodes))
    → StoresIn (in_area a) (look_again a blocks f)
again_stores a [] f inside each = each [] tt
again_stores a (k ∷ blocks) f inside each = λ bytes.
    again_stores a blocks (λ nodes. f ((k, used_cells a.size bytes) ∷ nodes)) inside.1 (λ nodes read. each ((k, used_cells a.size bytes) ∷ nodes) (inside.0, read))

path_blocks : (a : Area) (n : ℕ) (path : List (ℕ × ℕ)) → PathIn a path → BlocksIn a (map (λ (p : ℕ × ℕ). p.0) (take n path))
path_blocks a zero [] passed = tt
path_blocks a zero (p ∷ path) passed = tt
path_blocks a (suc n) [] passed = tt
path_blocks a (suc n) (p ∷ path) passed = (passed.0, path_blocks a n path passed.1)

all_in : (a : Area) (blocks : List ℕ) → ((k : ℕ) → IsIn k blocks → k < a.blocks) → BlocksIn a blocks
all_in a [] each = tt
all_in a (k ∷ blocks) each = (each k (inl refl), all_in a blocks (λ j is. each j (inr is)))

new_stores : (a : Area) (key value : List ℕ) (path : List (ℕ × ℕ)) (first : List ℕ) (need : ℕ) → IsTreeArea a → PathIn a path → StoresIn (in_area a) (put_new a key value path first need)
new_stores a key value path first need area passed =
    let n = cell_count a.size in
    let taken = take need (free_list a first) in
    let way : List (ℕ × List Cell) → Climb = λ nodes. climb n key 0 (key, value_part value) 0 nodes taken in
    stores_if (in_area a) (nat_lt (free_count first 1 (a.blocks - 1)) need) _ _ (λ few. tt)
    (λ enough.
    let free : BlocksIn a taken = all_in a taken (taken_are a first need (omega arith) (grind (arith, nat_tests))).below in
    again_stores a (map (λ (p : ℕ × ℕ). p.0) (take (suc (full_row n path)) path)) (λ nodes. put_writes a first taken (way nodes)) (path_blocks a (suc (full_row n path)) path passed)
    (λ nodes read.
    first_stores a first taken (way nodes).root (store_nodes a (way nodes).writes (Done (Ok tt))) (omega arith)
    (nodes_stores a (way nodes).writes (Done (Ok tt)) (climb_inside a n key 0 (key, value_part value) 0 nodes taken read free) tt)))

map_stores : (a : Area) (key value : List ℕ) (path : List (ℕ × ℕ)) → IsTreeArea a → PathIn a path → StoresIn (in_area a) (with_map a key value path)
map_stores a key value path area passed = λ first none. new_stores a key value path first _ area passed

put_stores : (a : Area) (key value : List ℕ) (d : Descent) → IsTreeArea a → EndsIn a d → StoresIn (in_area a) (put_at a key value d)
put_stores a key value (AtLeaf path leaf keys x) area ends =
    stores_cell (in_area a) (cell_of key keys) _ _ (λ i. (in_its_area a leaf ends.0, tt))
    (stores_cond (in_area a) (nat_lt (count_of keys) (cell_count a.size)) _ _ (λ bytes. (in_its_area a leaf ends.0, tt)) (map_stores a key value ((leaf, count_of keys) ∷ path) area (ends.0, ends.1)))
put_stores a key value (AtBroken block) area ends = tt

del_stores : (a : Area) (key : List ℕ) (d : Descent) → EndsIn a d → StoresIn (in_area a) (del_at a key d)
del_stores a key (AtLeaf path leaf keys x) ends = stores_cell (in_area a) (cell_of key keys) _ _ (λ i. (λ bytes. (in_its_area a leaf ends.0, tt))) tt
del_stores a key (AtBroken block) ends = tt

pub put_program_stores : (a : Area) (key value : List ℕ) → IsTreeArea a → StoresIn (in_area a) (put_program a key value)
unfolding put_program
put_program_stores a key value area =
    stores_cond (in_area a) (is_key key) _ _
    (stores_cond (in_area a) (is_value value) _ _
    (after_head a (put_below_root a key value) (λ root level below.
    stores_cond (in_area a) (root == 0) _ _ (map_stores a key value [] area tt) (after_descent a key level root (put_at a key value) below (λ d ends. put_stores a key value d area ends)))) tt) tt

pub del_program_stores : (a : Area) (key : List ℕ) → StoresIn (in_area a) (del_program a key)
unfolding del_program
del_program_stores a key =
    stores_cond (in_area a) (is_key key) _ _
    (after_head a (del_below a key) (λ root level below. stores_cond (in_area a) (root == 0) _ _ tt (after_descent a key level root (del_at a key) below (del_stores a key)))) tt
