-- A call of a store that is refused has made reads alone: a program writes only once nothing can refuse it.
use Rattle.store_scripts.proofs.Words.{◌≡◌, refl, subst, ℕ, zero, suc, ◌+◌, ◌≤◌, ◌==◌, ◌&&◌, Bool, true, false, cond, nat_le, List, [], ◌∷◌, length, Option, Some, None, Result, Ok, Err, arith, nat_lt, both_ways, leb-true, Access, Area, Spot, StoreError, Array, put, cell_count, cell_with, lowest_free, AtBroken, AtCell, AtEnd, Walked, at_cell, is_key, is_spent, spare_in, walk, walk_from, buckets, is_linked, last_position, next_of, block_at, AreReads, Done, Look, LookWhole, Program, Reserve, Store, accesses_of, bytes_in, further_bytes, outcome, store_access, then_do, Descent, descend, first_write, look_again, need_of, put_new, store_nodes, with_head, with_map, Cell, cell_of, child_of, count_of, is_child, is_head, is_node}
use Rattle.store_model.specs.HashCalls as hash
use Rattle.store_model.specs.TreeCalls as tree

-- a program that ended so has not answered Ok
abbrev pub IsRefusal : {R : Type 0} → Option (Result R StoreError) → Type 0
IsRefusal None = Unit {0}
IsRefusal (Some (Err e)) = Unit {0}
IsRefusal (Some (Ok r)) = ⊥

-- at most `count` writes, and then the answer Ok
abbrev Writes : {R : Type 0} → (count : ℕ) → Program (Result R StoreError) → Type 0
Writes count (Done (Ok r)) = Unit {0}
Writes count (Done (Err e)) = ⊥
Writes count (Look block mark further next) = ⊥
Writes count (LookWhole block next) = ⊥
Writes count (Reserve more next) = ⊥
Writes zero (Store block spans bytes next) = ⊥
Writes (suc count) (Store block spans bytes next) = Writes count next

-- a program that writes at its end alone: as much as it has reserved, or once
abbrev pub WritesLast : {R : Type 0} → Program (Result R StoreError) → Type 0
WritesLast (Done r) = Unit {0}
WritesLast (Look block mark further next) = (xs ys : List ℕ) → WritesLast (next xs ys)
WritesLast (LookWhole block next) = (xs : List ℕ) → WritesLast (next xs)
WritesLast (Reserve count next) = Writes count next
WritesLast (Store block spans bytes next) = Writes 0 next

writes_end : {R : Type 0} (count room : ℕ) (p : Program (Result R StoreError)) (A : Array) → Writes count p → count ≤ room → IsRefusal (outcome room p A).1 → ⊥
writes_end count room (Done (Ok r)) A writes enough refused = refused
writes_end count room (Done (Err e)) A writes enough refused = writes
writes_end count room (Look block mark further next) A writes enough refused = writes
writes_end count room (LookWhole block next) A writes enough refused = writes
writes_end count room (Reserve more next) A writes enough refused = writes
writes_end zero room (Store block spans bytes next) A writes enough refused = writes
writes_end (suc count) zero (Store block spans bytes next) A writes enough refused = omega arith
writes_end (suc count) (suc room) (Store block spans bytes next) A writes enough refused =
    writes_end count room next (put A (store_access block spans bytes)) writes (omega arith) refused

-- refused, it has read alone
pub refused_reads : {R : Type 0} (room : ℕ) (p : Program (Result R StoreError)) (A : Array) → WritesLast p → IsRefusal (outcome room p A).1 → AreReads (outcome room p A).0
refused_reads room (Done r) A last refused = tt
refused_reads zero (Look block mark further next) A last refused = tt
refused_reads (suc room) (Look block mark further next) A last refused =
    let x = bytes_in mark (block_at A block) in
    let y = further_bytes (further x) (block_at A block) in
    (refl, refused_reads room (next x y) A (last x y) refused)
refused_reads zero (LookWhole block next) A last refused = tt
refused_reads (suc room) (LookWhole block next) A last refused = (refl, refused_reads room (next (block_at A block)) A (last (block_at A block)) refused)
refused_reads {R = R} room (Reserve count next) A last refused = go (nat_le count room) refl refused
  where
    go : (b : Bool) → nat_le count room ≡ b → IsRefusal (cond {A = List Access × Option (Result R StoreError)} b (outcome room next A) ([], None)).1
        → AreReads (cond {A = List Access × Option (Result R StoreError)} b (outcome room next A) ([], None)).0
    go true fits is = absurd (writes_end count room next A last (leb-true count room fits) is)
    go false full is = tt
refused_reads zero (Store block spans bytes next) A last refused = tt
refused_reads (suc room) (Store block spans bytes next) A last refused = grind (arith, writes_end)

-- a program that reads alone has read alone wherever it ends
pub reads_so_far : {R : Type 0} (room : ℕ) (p : Program R) (A : Array) → AreReads (accesses_of p A) → AreReads (outcome room p A).0
reads_so_far room (Done r) A all = tt
reads_so_far zero (Look block mark further next) A all = tt
reads_so_far (suc room) (Look block mark further next) A all =
    let x = bytes_in mark (block_at A block) in
    let y = further_bytes (further x) (block_at A block) in
    (refl, reads_so_far room (next x y) A all.1)
reads_so_far zero (LookWhole block next) A all = tt
reads_so_far (suc room) (LookWhole block next) A all = (refl, reads_so_far room (next (block_at A block)) A all.1)
reads_so_far {R = R} room (Reserve count next) A all = go (nat_le count room) (reads_so_far room next A all)
  where
    go : (b : Bool) → AreReads (outcome room next A).0 → AreReads (cond {A = List Access × Option R} b (outcome room next A) ([], None)).0
    go true rest = rest
    go false rest = tt
reads_so_far zero (Store block spans bytes next) A all = tt
reads_so_far (suc room) (Store block spans bytes next) A all = absurd (both_ways true all.0 refl)

-- a program of reads alone, whatever bytes it reads
abbrev OnlyLooks : {R : Type 0} → Program R → Type 0
OnlyLooks (Done r) = Unit {0}
OnlyLooks (Look block mark further next) = (xs ys : List ℕ) → OnlyLooks (next xs ys)
OnlyLooks (LookWhole block next) = (xs : List ℕ) → OnlyLooks (next xs)
OnlyLooks (Reserve count next) = ⊥
OnlyLooks (Store block spans bytes next) = ⊥

last_then : {R S : Type 0} (p : Program R) (f : R → Program (Result S StoreError)) → OnlyLooks p → ((r : R) → WritesLast (f r)) → WritesLast (then_do p f)
last_then (Done r) f looks each = each r
last_then (Look block mark further next) f looks each = λ xs ys. last_then (next xs ys) f (looks xs ys) each
last_then (LookWhole block next) f looks each = λ xs. last_then (next xs) f (looks xs) each
last_then (Reserve count next) f looks each = absurd looks
last_then (Store block spans bytes next) f looks each = absurd looks

looks_cond : {R : Type 0} (t : Bool) (p q : Program R) → OnlyLooks p → OnlyLooks q → OnlyLooks (cond t p q)
looks_cond true p q one two = one
looks_cond false p q one two = two

looks_cell : {R : Type 0} (c : Option ℕ) (f : ℕ → Program R) (q : Program R) → ((i : ℕ) → OnlyLooks (f i)) → OnlyLooks q → OnlyLooks (at_cell c f q)
looks_cell None f q found other = other
looks_cell (Some i) f q found other = found i

last_cond : {R : Type 0} (t : Bool) (p q : Program (Result R StoreError)) → WritesLast p → WritesLast q → WritesLast (cond t p q)
last_cond true p q one two = one
last_cond false p q one two = two

last_cell : {R : Type 0} (c : Option ℕ) (f : ℕ → Program (Result R StoreError)) (q : Program (Result R StoreError)) → ((i : ℕ) → WritesLast (f i)) → WritesLast q → WritesLast (at_cell c f q)
last_cell None f q found other = other
last_cell (Some i) f q found other = found i

-- THE HASH STORE
walk_looks : (a : Area) (key : List ℕ) (bucket : ℕ) (with_value : Bool) (left position before block : ℕ) (spare : Option Spot) → OnlyLooks (walk_from a key bucket with_value left position before block spare)
walk_looks a key bucket with_value zero position before block spare = tt
walk_looks a key bucket with_value (suc left) position before block spare = λ xs ys.
    looks_cond (is_linked a bucket position xs) _ _
    (looks_cell (cell_with a.size key xs) _ _ (λ i. tt) (looks_cond (next_of xs == 0) _ _ tt (walk_looks a key bucket with_value left (position + 1) block (next_of xs) (spare_in a spare block xs)))) tt

after_walk : {R : Type 0} (a : Area) (key : List ℕ) (with_value : Bool) (f : Walked → Program (Result R StoreError)) → ((w : Walked) → WritesLast (f w)) → WritesLast (then_do (walk a key with_value) f)
unfolding walk
after_walk a key with_value f each = grind (arith, last_then, walk_looks)

hash_new_last : (a : Area) (key value : List ℕ) (last position : ℕ) (bytes : List ℕ) (o : Option ℕ) → WritesLast (hash.put_new a key value last position bytes o)
hash_new_last a key value last position bytes None = tt
hash_new_last a key value last position bytes (Some block) = tt

hash_put_at_last : (a : Area) (key value : List ℕ) (w : Walked) → WritesLast (hash.put_at a key value w)
hash_put_at_last a key value (AtCell s before ks v) = tt
hash_put_at_last a key value (AtEnd (Some s) last place) = tt
hash_put_at_last a key value (AtEnd None last place) = λ bytes none. hash_new_last a key value last place bytes (lowest_free bytes (buckets a + 1) (last_position a))
hash_put_at_last a key value (AtBroken block) = tt

hash_del_at_last : (a : Area) (w : Walked) → WritesLast (hash.del_at a w)
hash_del_at_last a (AtCell s before ks v) = last_cond (is_spent a s ks) _ _ (λ bytes none. tt) tt
hash_del_at_last a (AtEnd spare last place) = tt
hash_del_at_last a (AtBroken block) = tt

pub hash_put_last : (a : Area) (key value : List ℕ) → WritesLast (hash.put_program a key value)
unfolding hash.put_program
hash_put_last a key value = grind (arith, last_cond, after_walk, hash_put_at_last)

pub hash_del_last : (a : Area) (key : List ℕ) → WritesLast (hash.del_program a key)
unfolding hash.del_program
hash_del_last a key = last_cond (is_key key) _ _ (after_walk a key false (hash.del_at a) (hash_del_at_last a)) tt

-- THE TREE STORE
descent_looks : (a : Area) (key : List ℕ) (with_value : Bool) (level block : ℕ) (path : List (ℕ × ℕ)) → OnlyLooks (descend a key with_value level block path)
descent_looks a key with_value zero block path = λ keys value. looks_cond (is_node a.size 0 keys) _ _ tt tt
descent_looks a key with_value (suc level) block path = λ keys value.
    looks_cond (is_node a.size (suc level) keys && is_child a.blocks value) _ _ (descent_looks a key with_value level (child_of value) ((block, count_of keys) ∷ path)) tt

again_last : {R : Type 0} (a : Area) (blocks : List ℕ) (f : List (ℕ × List Cell) → Program (Result R StoreError)) → ((nodes : List (ℕ × List Cell)) → WritesLast (f nodes)) → WritesLast (look_again a blocks f)
again_last a [] f each = each []
again_last a (block ∷ blocks) f each = λ bytes. again_last a blocks _ (λ nodes. each _)

abbrev done : Program (Result (Unit {0}) StoreError)
done = Done (Ok tt)

nodes_last : (a : Area) (writes : List (ℕ × ℕ × List Cell)) → Writes (length writes) (store_nodes a writes done)
nodes_last a [] = tt
nodes_last a (w ∷ writes) = nodes_last a writes

first_last : (a : Area) (first taken : List ℕ) (root : Option (ℕ × ℕ)) (writes : List (ℕ × ℕ × List Cell)) → Writes (1 + length writes) (first_write a first taken root (store_nodes a writes done))
first_last a first taken root writes =
    let e : suc (length writes) ≡ 1 + length writes = omega arith in
    subst (λ (n : ℕ). Writes n (first_write a first taken root (store_nodes a writes done))) e (go root)
  where
    go : (o : Option (ℕ × ℕ)) → Writes (suc (length writes)) (first_write a first taken o (store_nodes a writes done))
    go None = nodes_last a writes
    go (Some head) = nodes_last a writes

tree_new_last : (a : Area) (key value : List ℕ) (path : List (ℕ × ℕ)) (first : List ℕ) (need : ℕ) → WritesLast (put_new a key value path first need)
tree_new_last a key value path first need = grind (arith, last_cond, again_last, first_last)

map_last : (a : Area) (key value : List ℕ) (path : List (ℕ × ℕ)) → WritesLast (with_map a key value path)
map_last a key value path = λ first none. tree_new_last a key value path first (need_of (cell_count a.size) path)

tree_put_at_last : (a : Area) (key value : List ℕ) (d : Descent) → WritesLast (tree.put_at a key value d)
tree_put_at_last a key value (tree.AtLeaf path leaf keys x) =
    last_cell (cell_of key keys) _ _ (λ i. tt) (last_cond (nat_lt (count_of keys) (cell_count a.size)) _ _ (λ bytes. tt) (map_last a key value ((leaf, count_of keys) ∷ path)))
tree_put_at_last a key value (tree.AtBroken block) = tt

tree_del_at_last : (a : Area) (key : List ℕ) (d : Descent) → WritesLast (tree.del_at a key d)
tree_del_at_last a key (tree.AtLeaf path leaf keys x) = last_cell (cell_of key keys) _ _ (λ i. λ bytes. tt) tt
tree_del_at_last a key (tree.AtBroken block) = tt

head_last : {R : Type 0} (a : Area) (f : ℕ → ℕ → Program (Result R StoreError)) → ((root level : ℕ) → WritesLast (f root level)) → WritesLast (with_head a f)
head_last a f each = λ head none. last_cond (is_head a head) _ _ (each _ _) tt

pub tree_put_last : (a : Area) (key value : List ℕ) → WritesLast (tree.put_program a key value)
unfolding tree.put_program
tree_put_last a key value = grind (arith, last_cond, head_last, map_last, last_then, descent_looks, tree_put_at_last)

pub tree_del_last : (a : Area) (key : List ℕ) → WritesLast (tree.del_program a key)
unfolding tree.del_program
tree_del_last a key = grind (arith, last_cond, head_last, last_then, descent_looks, tree_del_at_last)
