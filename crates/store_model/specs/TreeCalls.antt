-- The calls of the tree store, each as a program of reads and writes.
use Rattle.std.specs.{Prelude.{ℕ, zero, suc, ◌+◌, ◌*◌, ◌-◌, ◌/◌, Bool, true, false, ◌&&◌, ◌==◌, not, cond, List, [], ◌∷◌, ◌++◌, Option, Some, None, Result, Ok, Err, nat_lt, length, option_map, take, drop, map}, List.{list_all, filter, range_with_len}, Int.{w32, to_be_bytes}, Str.bytes_eq}
use Rattle.iso_model.specs.declared.access.Span.{Span}
use Rattle.store_model.specs.{declared.stores.Area.Area, declared.stores.StoreError.StoreError, declared.stores.StoreError.TheVariants.{BadKey, BadValue, Broken, NoBlocks}, Stores.{Program, Done, Look, LookWhole, Reserve, Store, bytes_in, then_do}, Cells.{cell_count, keys_end, keys_mark, value_mark, word_at, is_part, text_of, value_part, key_at, block_with, laid_at}, FreeMap.{map_mark, map_bit, with_bit, free_count, bit_place}, HashCalls.{at_cell, is_key, is_value}, TreeNodes.{Cell, count_of, is_node, cell_of, place_of, below_from, child_of, is_child, child_part, used_cells, node_bytes, head_mark, is_head}, Trees.{put_after, Put, fit}}

-- what is done with root and level of a head that is well formed
abbrev pub at_head : {X : Type 0} → Area → (ℕ → ℕ → Program (Result X StoreError)) → (head : List ℕ) → Program (Result X StoreError)
at_head a next head = cond (is_head a head) (next (word_at 0 head) (word_at 4 head)) (Done (Err (Broken a.start)))

-- a call that reads root and level first
abbrev pub with_head : {X : Type 0} → Area → (ℕ → ℕ → Program (Result X StoreError)) → Program (Result X StoreError)
with_head a next = Look a.start head_mark (λ head. None) (λ head none. at_head a next head)

-- Where a descent ends: at a leaf, with the inner nodes that it passed (block and count of each, the last one first), the leaf's
-- head and key parts, and the bytes of the key's value part where they were read; or at a block of the image that is not well formed.
pub data Descent : Type 0 where
  AtLeaf : (path : List (ℕ × ℕ)) → (leaf : ℕ) → (keys value : List ℕ) → Descent
  AtBroken : (block : ℕ) → Descent

-- the further mark of a leaf: where it is wanted, the value part of the key's cell
abbrev pub leaf_further : Area → (key : List ℕ) → (with_value : Bool) → (keys : List ℕ) → Option Span
leaf_further a key with_value keys = cond (with_value && is_node a.size 0 keys) (option_map (value_mark a.size) (cell_of key keys)) None

-- the further mark of an inner node: the value part of the child that is next
abbrev pub inner_further : Area → (key : List ℕ) → (level : ℕ) → (keys : List ℕ) → Option Span
inner_further a key level keys = cond (is_node a.size level keys) (Some (value_mark a.size (place_of key keys))) None

-- the descent of a key from a node of this level on; the path so far has the last node first
abbrev pub descend : Area → (key : List ℕ) → (with_value : Bool) → (level block : ℕ) → List (ℕ × ℕ) → Program Descent
descend a key with_value zero block path =
    Look (a.start + block) (keys_mark a.size) (leaf_further a key with_value)
    (λ keys value. cond (is_node a.size 0 keys) (Done (AtLeaf path block keys value)) (Done (AtBroken (a.start + block))))
descend a key with_value (suc level) block path =
    Look (a.start + block) (keys_mark a.size) (inner_further a key (suc level))
    (λ keys value.
    cond (is_node a.size (suc level) keys && is_child a.blocks value) (descend a key with_value level (child_of value) ((block, count_of keys) ∷ path))
    (Done (AtBroken (a.start + block))))

-- what get answers where the descent ends
abbrev pub got : Area → (key : List ℕ) → Descent → Result (Option (List ℕ)) StoreError
got a key (AtLeaf path leaf keys value) =
    at_cell (cell_of key keys) (λ i. cond (is_part 32 value) (Ok (Some (text_of value))) (Err (Broken (a.start + leaf)))) (Ok None)
got a key (AtBroken block) = Err (Broken block)

-- a get below a root
abbrev pub get_below : Area → (key : List ℕ) → (root level : ℕ) → Program (Result (Option (List ℕ)) StoreError)
get_below a key root level = cond (root == 0) (Done (Ok None)) (then_do (descend a key true level root []) (λ d. Done (got a key d)))

unfoldable pub get_program : Area → (key : List ℕ) → Program (Result (Option (List ℕ)) StoreError)
get_program a key = cond (is_key key) (with_head a (get_below a key)) (Done (Err BadKey))

-- the free blocks, lowest first
abbrev pub free_list : Area → (first : List ℕ) → List ℕ
free_list a first = filter (λ k. not (map_bit first k)) (range_with_len 1 (a.blocks - 1))

-- block 0 with these blocks in use
abbrev pub with_used : (first : List ℕ) → (blocks : List ℕ) → List ℕ
with_used first [] = first
with_used first (k ∷ blocks) = with_used (with_bit first k) blocks

abbrev pub last_of : (x : ℕ) → List ℕ → ℕ
last_of x [] = x
last_of x (y ∷ ys) = last_of y ys

-- the mark from the lowest to the highest byte of the map with the bit of one of these blocks, which rise
abbrev pub changed_mark : (blocks : List ℕ) → Span
changed_mark [] = record { off = 64; len = 0 }
changed_mark (k ∷ blocks) = record { off = bit_place k; len = last_of k blocks / 8 + 1 - k / 8 }

-- zeros but for the changed bytes of the map
abbrev pub changed_map : Area → (first taken : List ℕ) → List ℕ
changed_map a first taken = block_with a.size (changed_mark taken).off (bytes_in (changed_mark taken) (with_used first taken))

-- the write of block 0: the map, and root and level where the root changes
abbrev pub first_write : {R : Type 0} → Area → (first taken : List ℕ) → (root : Option (ℕ × ℕ)) → Program R → Program R
first_write a first taken None next = Store a.start (changed_mark taken ∷ []) (changed_map a first taken) next
first_write a first taken (Some root) next =
    Store a.start (changed_mark taken ∷ head_mark ∷ []) (laid_at 0 (to_be_bytes w32 root.0 ++ to_be_bytes w32 root.1) (changed_map a first taken)) next

-- the writes of nodes, in order, and the new root with its level where there is one
pub record Climb : Type 0 where
  pub writes : List (ℕ × ℕ × List Cell)
  pub root : Option (ℕ × ℕ)

-- the cells of a node with a new one in its place; an inner node's first cell stays the first
abbrev pub placed : (level : ℕ) → (key : List ℕ) → Cell → List Cell → List Cell
placed zero key new cs = put_after key new cs
placed (suc level) key new [] = []
placed (suc level) key new (c ∷ cs) = c ∷ put_after key new cs

-- the cells of a new root: of the first leaf, or over the old root and the new block
abbrev pub root_cells : (level below : ℕ) → Cell → List Cell
root_cells zero below new = new ∷ []
root_cells (suc level) below new = ([], child_part below) ∷ new ∷ []

-- the node's writes, and where it was split those of the way on
abbrev pub climb_on : Put → (List ℕ × ℕ → Climb) → Option (List ℕ × ℕ) → Climb
climb_on q on None = record { writes = q.writes; root = None }
climb_on q on (Some s) = record { writes = q.writes ++ (on s).writes; root = (on s).root }

-- Up from a node of this level, which gets the new cell: each node is written, or its two halves, and then the one above it gets
-- the separator. Past the root a new root is written; the block under it is `below`.
abbrev pub climb : (n : ℕ) → (key : List ℕ) → (level : ℕ) → Cell → (below : ℕ) → List (ℕ × List Cell) → (news : List ℕ) → Climb
climb n key level new below [] [] = record { writes = []; root = None }
climb n key level new below [] (r ∷ news) = record { writes = (r, level, root_cells level below new) ∷ []; root = Some (r, level) }
climb n key level new below (node ∷ nodes) news =
    climb_on (fit n level node.0 (placed level key new node.1) news)
    (λ s. climb n key (suc level) (s.0, child_part s.1) node.0 nodes (fit n level node.0 (placed level key new node.1) news).left)
    (fit n level node.0 (placed level key new node.1) news).second

-- unmarked writes of nodes
abbrev pub store_nodes : {R : Type 0} → Area → List (ℕ × ℕ × List Cell) → Program R → Program R
store_nodes a [] next = next
store_nodes a (w ∷ writes) next = Store (a.start + w.0) [] (node_bytes a.size w.1 w.2) (store_nodes a writes next)

-- unmarked reads of nodes
abbrev pub look_again : {R : Type 0} → Area → List ℕ → (List (ℕ × List Cell) → Program R) → Program R
look_again a [] next = next []
look_again a (block ∷ blocks) next = LookWhole (a.start + block) (λ bytes. look_again a blocks (λ nodes. next ((block, used_cells a.size bytes) ∷ nodes)))

-- how many nodes in a row from the leaf up are full, and how many new blocks a put into them needs
abbrev pub full_row : (n : ℕ) → List (ℕ × ℕ) → ℕ
full_row n [] = 0
full_row n (node ∷ path) = cond (node.1 == n) (suc (full_row n path)) 0

abbrev pub need_of : (n : ℕ) → List (ℕ × ℕ) → ℕ
need_of n path = full_row n path + cond (full_row n path == length path) 1 0

abbrev pub Answer : Type 0
Answer = Result (Unit {0}) StoreError

-- the writes of a put that takes new blocks
abbrev pub put_writes : Area → (first taken : List ℕ) → Climb → Program Answer
put_writes a first taken way = Reserve (1 + length way.writes) (first_write a first taken way.root (store_nodes a way.writes (Done (Ok tt))))

-- a put that needs `need` new blocks, once the map is read; the nodes to be written are read again before the first write
abbrev pub put_new : Area → (key value : List ℕ) → List (ℕ × ℕ) → (first : List ℕ) → (need : ℕ) → Program Answer
put_new a key value path first need =
    cond (nat_lt (free_count first 1 (a.blocks - 1)) need) (Done (Err (NoBlocks need (free_count first 1 (a.blocks - 1)))))
    (look_again a (map (λ p. p.0) (take (suc (full_row (cell_count a.size) path)) path)) (λ nodes.
    put_writes a first (take need (free_list a first)) (climb (cell_count a.size) key 0 (key, value_part value) 0 nodes (take need (free_list a first)))))

-- the same from the read of the map on; the path has the leaf first, and is empty for an empty tree
abbrev pub with_map : Area → (key value : List ℕ) → List (ℕ × ℕ) → Program Answer
with_map a key value path = Look a.start (map_mark a.blocks) (λ first. None) (λ first none. put_new a key value path first (need_of (cell_count a.size) path))

-- a leaf read again and written with its cells changed
abbrev pub edit_leaf : {R : Type 0} → Area → (leaf : ℕ) → (List Cell → List Cell) → R → Program R
edit_leaf a leaf change r = LookWhole (a.start + leaf) (λ bytes. Store (a.start + leaf) [] (node_bytes a.size 0 (change (used_cells a.size bytes))) (Done r))

-- what put does where the descent ends
abbrev pub put_at : Area → (key value : List ℕ) → Descent → Program Answer
put_at a key value (AtLeaf path leaf keys x) =
    at_cell (cell_of key keys)
    (λ i. Store (a.start + leaf) (value_mark a.size i ∷ []) (block_with a.size (keys_end a.size + 33 * i) (value_part value)) (Done (Ok tt)))
    (cond (nat_lt (count_of keys) (cell_count a.size)) (edit_leaf a leaf (put_after key (key, value_part value)) (Ok tt))
    (with_map a key value ((leaf, count_of keys) ∷ path)))
put_at a key value (AtBroken block) = Done (Err (Broken block))

abbrev pub put_below_root : Area → (key value : List ℕ) → (root level : ℕ) → Program Answer
put_below_root a key value root level = cond (root == 0) (with_map a key value []) (then_do (descend a key false level root []) (put_at a key value))

unfoldable pub put_program : Area → (key value : List ℕ) → Program Answer
put_program a key value = cond (is_key key) (cond (is_value value) (with_head a (put_below_root a key value)) (Done (Err BadValue))) (Done (Err BadKey))

-- the cells without those of a key
abbrev pub without_key : (key : List ℕ) → List Cell → List Cell
without_key key cs = filter (λ c. not (bytes_eq c.0 key)) cs

-- what del does where the descent ends
abbrev pub del_at : Area → (key : List ℕ) → Descent → Program (Result Bool StoreError)
del_at a key (AtLeaf path leaf keys x) = at_cell (cell_of key keys) (λ i. edit_leaf a leaf (without_key key) (Ok true)) (Done (Ok false))
del_at a key (AtBroken block) = Done (Err (Broken block))

abbrev pub del_below : Area → (key : List ℕ) → (root level : ℕ) → Program (Result Bool StoreError)
del_below a key root level = cond (root == 0) (Done (Ok false)) (then_do (descend a key false level root []) (del_at a key))

unfoldable pub del_program : Area → (key : List ℕ) → Program (Result Bool StoreError)
del_program a key = cond (is_key key) (with_head a (del_below a key)) (Done (Err BadKey))

abbrev pub Scanned : Type 0
Scanned = Result (List (List ℕ × List ℕ)) StoreError

abbrev pub and_then : Scanned → (List (List ℕ × List ℕ) → Program Scanned) → Program Scanned
and_then (Err e) next = Done (Err e)
and_then (Ok pairs) next = next pairs

-- the children in turn, until `most` more pairs are found
abbrev pub scan_children : (ℕ → ℕ → Program Scanned) → List ℕ → (most : ℕ) → List (List ℕ × List ℕ) → Program Scanned
scan_children scan [] most found = Done (Ok found)
scan_children scan (child ∷ children) zero found = Done (Ok found)
scan_children scan (child ∷ children) (suc most) found =
    then_do (scan child (suc most)) (λ r. and_then r (λ pairs. scan_children scan children (suc most - length pairs) (found ++ pairs)))

-- The cells of a node that a scan visits: the first, and how many. In a leaf they are those of the range. In an inner node each
-- whose next key is above `from` or is not there, and which is the first or has a key before `to`.
abbrev pub first_in : (level : ℕ) → (from keys : List ℕ) → ℕ
first_in zero from keys = below_from from keys 0 (count_of keys)
first_in (suc level) from keys = place_of from keys

abbrev pub many_in : (level : ℕ) → (from to keys : List ℕ) → ℕ
many_in zero from to keys = below_from to keys 0 (count_of keys) - first_in zero from keys
many_in (suc level) from to keys = 1 + below_from to keys 1 (count_of keys - 1) - first_in (suc level) from keys

-- the mark over their value parts, where there are any
abbrev pub scan_further : Area → (level : ℕ) → (from to : List ℕ) → (keys : List ℕ) → Option Span
scan_further a level from to keys =
    cond (is_node a.size level keys && not (many_in level from to keys == 0))
    (Some (record { off = keys_end a.size + 33 * first_in level from keys; len = 33 * many_in level from to keys })) None

-- n value parts that lie in a row
abbrev pub parts_of : List ℕ → (n : ℕ) → List (List ℕ)
parts_of bytes zero = []
parts_of bytes (suc n) = take 33 bytes ∷ parts_of (drop 33 bytes) n

-- the keys of cells from one on, with the texts of these parts
abbrev pub pairs_with : (keys : List ℕ) → (i : ℕ) → List (List ℕ) → List (List ℕ × List ℕ)
pairs_with keys i [] = []
pairs_with keys i (part ∷ parts) = (key_at keys i, text_of part) ∷ pairs_with keys (i + 1) parts

-- the first pairs of the range below a node of this level, at most `most`
abbrev pub scan_from : Area → (from to : List ℕ) → (level block most : ℕ) → Program Scanned
scan_from a from to zero block most =
    Look (a.start + block) (keys_mark a.size) (scan_further a 0 from to)
    (λ keys values.
    cond (is_node a.size 0 keys && list_all (is_part 32) (parts_of values (many_in 0 from to keys)))
    (Done (Ok (take most (pairs_with keys (first_in 0 from keys) (parts_of values (many_in 0 from to keys))))))
    (Done (Err (Broken (a.start + block)))))
scan_from a from to (suc level) block most =
    Look (a.start + block) (keys_mark a.size) (scan_further a (suc level) from to)
    (λ keys values.
    cond (is_node a.size (suc level) keys && list_all (is_child a.blocks) (parts_of values (many_in (suc level) from to keys)))
    (scan_children (scan_from a from to level) (map child_of (parts_of values (many_in (suc level) from to keys))) most [])
    (Done (Err (Broken (a.start + block)))))

abbrev pub scan_below : Area → (from to : List ℕ) → (most root level : ℕ) → Program Scanned
scan_below a from to most root level = cond (root == 0) (Done (Ok [])) (scan_from a from to level root most)

unfoldable pub scan_program : Area → (from to : List ℕ) → (most : ℕ) → Program Scanned
scan_program a from to most = cond (is_key from && is_key to) (with_head a (scan_below a from to most)) (Done (Err BadKey))
