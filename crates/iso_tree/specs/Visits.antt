-- The nodes that a scan visits, one after the other.
use Rattle.std.specs.{Prelude.{◌≡◌, ◌⊎◌, ℕ, zero, suc, ◌+◌, ◌-◌, ◌*◌, ◌<◌, ◌≤◌, ◌&&◌, true, cond, List, [], ◌∷◌, ◌++◌, Result, Ok, Err, length}, List.{list_all, AllByRecursion}}
use Rattle.iso_model.specs.{Marks.marked, declared.access.Span.Span}
use Rattle.store_model.specs.{declared.stores.Area.Area, declared.stores.StoreError.StoreError, declared.stores.StoreError.TheVariants.Broken, Cells.{cell_count, keys_end, keys_mark}, Stores.{Program, Done, Look, bytes_in, further_bytes, then_do}, TreeNodes.{count_of, is_node}, TreeCalls.{and_then, first_in, many_in, parts_of, scan_from, scan_further, Scanned}, TreeRegion.is_part_at}
use Rattle.tx_blocks.{proofs.Progress.IsAt, specs.Runs.{HasRun, Ran, WantsMemory}, specs.Tx.{Device, Tx}}
use Rattle.iso_tree.specs.{Sizes.IsSize, Walks.OnlyReads, declared.key_range.KeyRange.KeyRange, declared.visit.Visit.Visit}

-- the mark over the value parts of `many` cells from one on
abbrev pub values_mark : (size first many : ℕ) → Span
values_mark size first many = record { off = keys_end size + 33 * first; len = 33 * many }

-- cells of a block of this size
pub record IsVisitIn (n : ℕ) (visit : Visit) : Type 0 where
  pub size : IsSize n
  pub inside : visit.first + visit.many ≤ cell_count n

-- the used cells of a node that a scan visits
pub record AreBetween (level : ℕ) (from to keys : List ℕ) (visit : Visit) : Type 0 where
  pub first : visit.first ≡ first_in level from keys
  pub many : visit.many ≡ many_in level from to keys
  pub inside : visit.first + visit.many ≤ count_of keys

-- the last access has a mark over the value parts of cells, where there are any
pub record HasMarked (n : ℕ) (visit : Visit) (t u : Tx) (before now : Device) : Type 0 where
  pub none : visit.many ≡ 0 → u ≡ t
  pub some : 0 < visit.many → u ≡ record t { accesses = marked (values_mark n visit.first visit.many) t.accesses }
  pub device : now ≡ before

-- one access was made
abbrev pub HasMadeOne : (t u : Tx) → Type 0
HasMadeOne t u = length u.accesses ≡ length t.accesses + 1

-- head and key parts of a block, and the value parts of the cells that were visited
abbrev pub keys_of : Area → (bytes : List ℕ) → List ℕ
keys_of a bytes = bytes_in (keys_mark a.size) bytes

abbrev pub values_of : Area → Visit → (bytes : List ℕ) → List ℕ
values_of a visit bytes = bytes_in (values_mark a.size visit.first visit.many) bytes

-- the read of a node: its head and key parts, and the value parts of the cells that a scan visits
abbrev pub visit_program : Area → (from to : List ℕ) → (level block : ℕ) → Program (Result (List ℕ × List ℕ) StoreError)
visit_program a from to level block =
    Look (a.start + block) (keys_mark a.size) (scan_further a level from to)
    (λ keys values.
    Done (cond (is_node a.size level keys && list_all (is_part_at a level) (parts_of values (many_in level from to keys))) (Ok (keys, values))
    (Err (Broken (a.start + block)))))

-- what it reads of a block
abbrev pub node_read : Area → (from to : List ℕ) → (level : ℕ) → (bytes : List ℕ) → List ℕ × List ℕ
node_read a from to level bytes = (keys_of a bytes, further_bytes (scan_further a level from to (keys_of a bytes)) bytes)

-- how the read of a node ends; after it, the buffer has these bytes
abbrev pub HasVisited : KeyRange → (level block : ℕ) → (t u : Tx) → (bytes : List ℕ) → Result Visit StoreError → Type 0
HasVisited r level block t u bytes (Ok visit) = Ran (visit_program r.area r.from.now r.to.now level block) t u (Ok (node_read r.area r.from.now r.to.now level bytes))
HasVisited r level block t u bytes (Err e) = HasRun (visit_program r.area r.from.now r.to.now level block) t u (Err e)

-- a node of a level that is well formed, with the value parts of the cells that a scan visits
pub record IsVisited (a : Area) (from to : List ℕ) (level : ℕ) (bytes : List ℕ) (visit : Visit) : Type 0 where
  pub node : is_node a.size level (keys_of a bytes) ≡ true
  pub first : visit.first ≡ first_in level from (keys_of a bytes)
  pub many : visit.many ≡ many_in level from to (keys_of a bytes)
  pub parts : list_all (is_part_at a level) (parts_of (values_of a visit bytes) visit.many) ≡ true
  pub inside : visit.first + visit.many ≤ cell_count a.size

-- The scans of nodes (level and block) in turn, until `most` more pairs are found; these were found before.
abbrev pub scan_nodes : Area → (from to : List ℕ) → List (ℕ × ℕ) → (most : ℕ) → List (List ℕ × List ℕ) → Program Scanned
scan_nodes a from to [] most found = Done (Ok found)
scan_nodes a from to (node ∷ nodes) zero found = Done (Ok found)
scan_nodes a from to (node ∷ nodes) (suc most) found =
    then_do (scan_from a from to node.0 node.1 (suc most)) (λ r. and_then r (λ pairs. scan_nodes a from to nodes (suc most - length pairs) (found ++ pairs)))

-- what is left of a scan, where these nodes are unread still and these pairs were found
abbrev pub left_of : KeyRange → List (ℕ × ℕ) → List (List ℕ × List ℕ) → Program Scanned
left_of r nodes found = scan_nodes r.area r.from.now r.to.now nodes (r.max - length found) found

-- how a part of a scan ends: as its program does, or without memory for the pairs and the nodes that it has read
abbrev pub HasScanned : {X : Type 0} → Program (Result X StoreError) → (t u : Tx) → Result X StoreError → Type 0
HasScanned p t u result = HasRun p t u result ⊎ WantsMemory p t u result

-- how a step ends: what is left of the scan is left with these nodes and pairs; or the step is refused, and so is the scan
abbrev pub HasStepped : KeyRange → (nodes after : List (ℕ × ℕ)) → (found more : List (List ℕ × List ℕ)) → (t u : Tx) → Result (Unit {0}) StoreError → Type 0
HasStepped r nodes after found more t u (Ok done) = IsAt (left_of r nodes found) (left_of r after more) t u
HasStepped r nodes after found more t u (Err e) = HasScanned (left_of r nodes found) t u (Err e)

-- a part of a scan: how it ends, and what it leaves
pub record IsScan {X : Type 0} (p : Program (Result X StoreError)) (t u : Tx) (before now : Device) (result : Result X StoreError) : Type 0 where
  pub run : HasScanned p t u result
  pub reads : OnlyReads t u before now result

-- blocks of the region
abbrev pub AreIn : Area → List (ℕ × ℕ) → Type 0
AreIn a nodes = AllByRecursion (λ (node : ℕ × ℕ). node.1 < a.blocks) nodes
