-- A program of a store's call that answered Ok is local for its store, and spares the other.
use Rattle.store_scripts.proofs.{Words.{StoreError, ◌≡◌, ◌≢◌, refl, ℕ, zero, suc, ◌+◌, ◌<◌, ◌&&◌, Bool, true, false, cond, IsTrue, List, length, Option, Some, Result, Ok, Err, arith, and_parts, Access, Geometry, Area, BadKey, BadValue, Array, is_valid, is_key, is_value, IsHashRegion, Pairs, del_op, get_op, hash_map, put_op, HasShape, block_at, hash_area, tree_area, Done, IsLocal, Program, accesses_of, answer_of, outcome, IsTreeRegion, scan_op, tree_map, limits, hash_area_is, tree_area_is, outcome_whole, Del, Found, Got, WasPut, WasThere, OnKey, Scan, ShareNoBlock, SpareRegion, reads_spare, spare_where_apart, writes_within, IfAny, image_hash, pairs_if_any, SecondStore, second_store, the_tree, MapStore, sym, ◌∙◌}, Blocks.tree_second, Seconds.{IsCallOf, IsSecond}}
use Rattle.store_model.specs.HashCalls as hash
use Rattle.store_model.specs.TreeCalls as tree
use Rattle.iso_hash.proofs.Changes as hash_changes
use Rattle.iso_hash.proofs.Gets as hash_gets
use Rattle.iso_tree.proofs.DelCalls as tree_dels
use Rattle.iso_tree.proofs.Gets as tree_gets
use Rattle.iso_tree.proofs.PutWhole as tree_puts
use Rattle.iso_tree.proofs.ScanCalls as tree_scans
use Rattle.store_laws.specs.Calls.{Get, Put}
use Rattle.store_laws.proofs.HashWrites as hash_writes
use Rattle.store_laws.proofs.TreeWrites as tree_writes

-- what is local for a store is local for that of the image which has blocks, with the answer under its name
pub if_local : {R X : Type 0} (n : ℕ) (Well : Array → Type 0) (map_of : Array → Pairs) (name : R → X) (op : Pairs → R × Pairs) (B : Array) (accesses : List Access) (r : R) → n ≢ 0
    → IsLocal Well map_of op B accesses r
    → IsLocal (λ (A : Array). IfAny n (Well A)) (λ (A : Array). pairs_if_any n (map_of A)) (λ m. (name (op m).0, (op m).1)) B accesses (name r)
if_local zero Well map_of name op B accesses r some local = absurd (some refl)
if_local (suc n) Well map_of name op B accesses r some local = grind arith

-- a test of the arguments was passed where the answer is Ok
pub passed : {E R : Type 0} (test : Bool) (p : Program (Result R E)) (e : E) (B : Array) (r : R) → answer_of (cond test p (Done (Err e))) B ≡ Ok r
    → (test ≡ true) × (answer_of p B ≡ Ok r)
passed true p e B r is = (refl, is)
passed false p e B r is = cc

-- the arguments of a call of a key store that answered Ok are right
record AreRight (g : List ℕ → Program (Result (Option (List ℕ)) StoreError)) (p : List ℕ → List ℕ → Program (Result (Unit {0}) StoreError)) (d : List ℕ → Program (Result Bool StoreError)) (B : Array) : Type 0 where
  pub get : (key : List ℕ) (r : Option (List ℕ)) → answer_of (g key) B ≡ Ok r → is_key key ≡ true
  pub put : (key value : List ℕ) (r : Unit {0}) → answer_of (p key value) B ≡ Ok r → (is_key key ≡ true) × (is_value value ≡ true)
  pub del : (key : List ℕ) (r : Bool) → answer_of (d key) B ≡ Ok r → is_key key ≡ true

are_right : (g : List ℕ → Program (Result (Option (List ℕ)) StoreError)) (p : List ℕ → List ℕ → Program (Result (Unit {0}) StoreError)) (d : List ℕ → Program (Result Bool StoreError)) (B : Array)
    → AreRight (λ key. cond (is_key key) (g key) (Done (Err BadKey))) (λ key value. cond (is_key key) (cond (is_value value) (p key value) (Done (Err BadValue))) (Done (Err BadKey))) (λ key. cond (is_key key) (d key) (Done (Err BadKey))) B
are_right g p d B = record {
  get = λ key r is. (passed (is_key key) (g key) BadKey B r is).0;
  put = λ key value r is. let one = passed (is_key key) _ BadKey B r is in (one.0, (passed (is_value value) (p key value) BadValue B r one.1).0);
  del = λ key r is. (passed (is_key key) (d key) BadKey B r is).0;
}

hash_right : (a : Area) (B : Array) → AreRight (λ key. hash.get_program a key) (λ key value. hash.put_program a key value) (λ key. hash.del_program a key) B
unfolding hash.get_program hash.put_program hash.del_program
hash_right a B = are_right _ _ _ B

tree_right : (a : Area) (B : Array) → AreRight (λ key. tree.get_program a key) (λ key value. tree.put_program a key value) (λ key. tree.del_program a key) B
unfolding tree.get_program tree.put_program tree.del_program
tree_right a B = are_right _ _ _ B

tree_scan_keys : (a : Area) (from to : List ℕ) (most : ℕ) (B : Array) (r : List (List ℕ × List ℕ)) → answer_of (tree.scan_program a from to most) B ≡ Ok r → (is_key from ≡ true) × (is_key to ≡ true)
unfolding tree.scan_program
tree_scan_keys a from to most B r is = and_parts (is_key from) (is_key to) (passed (is_key from && is_key to) _ BadKey B r is).0

-- apart in either order
pub turned : (s t : MapStore) → ShareNoBlock s t → ShareNoBlock t s
turned s t apart = λ b has. not_both (s.has_block b) (t.has_block b) (apart b) has
  where
    not_both : (x y : Bool) → (x ≡ true → y ≡ false) → y ≡ true → x ≡ false
    not_both true y other is = absurd (let e : true ≡ false = sym is ∙ other refl in cc)
    not_both false y other is = refl

-- a call that answered Ok, by what its program does
pub call_is : {E R : Type 0} (s t : MapStore) (call : s.Call) (B : Array) (room : ℕ) (p : Program (Result R E)) (r : R) (answer : s.Answer) → (outcome room p B).1 ≡ Some (Ok r)
    → (answer_of p B ≡ Ok r → IsLocal s.IsWellFormed s.map_of (s.act call) B (accesses_of p B) answer) → SpareRegion t (accesses_of p B) → IsCallOf s t call B (outcome room p B).0 answer
call_is s t call B room p r answer is local spare = grind (arith, outcome_whole)

-- THE HASH STORE
module _ (S : SecondStore) (lawful : IsSecond S) (g : Geometry) (valid : IsTrue (is_valid g)) (B : Array) (shape : HasShape g B) (room : ℕ) where
  hash_blocks : (k : ℕ) → k < g.hash → length (block_at B (0 + k)) ≡ g.block
  hash_blocks k below = shape.bytes (0 + k) (let bounds = limits g valid in let within = bounds.regions in omega arith)

  pub hash_got : (key : List ℕ) (r : Option (List ℕ)) → g.hash ≢ 0 → (outcome room (hash.get_program (hash_area g) key) B).1 ≡ Some (Ok r)
      → IsCallOf (image_hash g) (second_store S g) (Get key) B (outcome room (hash.get_program (hash_area g) key) B).0 (Got r)
  hash_got key r some is =
      call_is (image_hash g) (second_store S g) (Get key) B room (hash.get_program (hash_area g) key) r (Got r) is
      (λ answered. if_local g.hash (IsHashRegion (hash_area g)) (hash_map (hash_area g)) (λ value. Got value) (get_op key) B _ r some
      (hash_gets.get_local (hash_area g) key B r (hash_area_is g valid some) ((hash_right (hash_area g) B).get key r answered) answered))
      (reads_spare (second_store S g) _ (hash_gets.get_reads (hash_area g) key B))

  pub hash_was_put : (key value : List ℕ) (r : Unit {0}) → g.hash ≢ 0 → (outcome room (hash.put_program (hash_area g) key value) B).1 ≡ Some (Ok r)
      → IsCallOf (image_hash g) (second_store S g) (Put key value) B (outcome room (hash.put_program (hash_area g) key value) B).0 WasPut
  hash_was_put key value r some is =
      call_is (image_hash g) (second_store S g) (Put key value) B room (hash.put_program (hash_area g) key value) r WasPut is
      (λ answered.
      let right = (hash_right (hash_area g) B).put key value r answered in
      if_local g.hash (IsHashRegion (hash_area g)) (hash_map (hash_area g)) (λ done. WasPut) (put_op key value) B _ r some (hash_changes.put_local (hash_area g) key value B r (hash_area_is g valid some) right.0 right.1 hash_blocks answered))
      (spare_where_apart (image_hash g) (second_store S g) _ (lawful.apart g valid) (writes_within (image_hash g) (hash.put_program (hash_area g) key value) B (hash_writes.put_program_stores (hash_area g) key value (hash_area_is g valid some))))

  pub hash_was_there : (key : List ℕ) (r : Bool) → g.hash ≢ 0 → (outcome room (hash.del_program (hash_area g) key) B).1 ≡ Some (Ok r)
      → IsCallOf (image_hash g) (second_store S g) (Del key) B (outcome room (hash.del_program (hash_area g) key) B).0 (WasThere r)
  hash_was_there key r some is =
      call_is (image_hash g) (second_store S g) (Del key) B room (hash.del_program (hash_area g) key) r (WasThere r) is
      (λ answered. if_local g.hash (IsHashRegion (hash_area g)) (hash_map (hash_area g)) (λ there. WasThere there) (del_op key) B _ r some
      (hash_changes.del_local (hash_area g) key B r (hash_area_is g valid some) ((hash_right (hash_area g) B).del key r answered) hash_blocks answered))
      (spare_where_apart (image_hash g) (second_store S g) _ (lawful.apart g valid) (writes_within (image_hash g) (hash.del_program (hash_area g) key) B (hash_writes.del_program_stores (hash_area g) key (hash_area_is g valid some))))

-- THE TREE STORE
module _ (g : Geometry) (valid : IsTrue (is_valid g)) (B : Array) (shape : HasShape g B) (room : ℕ) where
  apart_too : ShareNoBlock (second_store the_tree g) (image_hash g)
  apart_too = turned (image_hash g) (second_store the_tree g) (tree_second.apart g valid)

  tree_blocks : (k : ℕ) → k < g.tree → length (block_at B (g.hash + k)) ≡ g.block
  tree_blocks k below = shape.bytes (g.hash + k) (let bounds = limits g valid in let within = bounds.regions in omega arith)

  pub tree_got : (key : List ℕ) (r : Option (List ℕ)) → g.tree ≢ 0 → (outcome room (tree.get_program (tree_area g) key) B).1 ≡ Some (Ok r)
      → IsCallOf (second_store the_tree g) (image_hash g) (OnKey (Get key)) B (outcome room (tree.get_program (tree_area g) key) B).0 (Got r)
  tree_got key r some is =
      call_is (second_store the_tree g) (image_hash g) (OnKey (Get key)) B room (tree.get_program (tree_area g) key) r (Got r) is
      (λ answered. if_local g.tree (IsTreeRegion (tree_area g)) (tree_map (tree_area g)) (λ value. Got value) (get_op key) B _ r some (tree_gets.get_local (tree_area g) key B r ((tree_right (tree_area g) B).get key r answered) answered))
      (reads_spare (image_hash g) _ (tree_gets.get_reads (tree_area g) key B))

  pub tree_was_put : (key value : List ℕ) (r : Unit {0}) → g.tree ≢ 0 → (outcome room (tree.put_program (tree_area g) key value) B).1 ≡ Some (Ok r)
      → IsCallOf (second_store the_tree g) (image_hash g) (OnKey (Put key value)) B (outcome room (tree.put_program (tree_area g) key value) B).0 WasPut
  tree_was_put key value r some is =
      call_is (second_store the_tree g) (image_hash g) (OnKey (Put key value)) B room (tree.put_program (tree_area g) key value) r WasPut is
      (λ answered.
      let right = (tree_right (tree_area g) B).put key value r answered in
      if_local g.tree (IsTreeRegion (tree_area g)) (tree_map (tree_area g)) (λ done. WasPut) (put_op key value) B _ r some (tree_puts.put_local (tree_area g) key value B r (tree_area_is g valid some) right.0 right.1 tree_blocks answered))
      (spare_where_apart (second_store the_tree g) (image_hash g) _ apart_too (writes_within (second_store the_tree g) (tree.put_program (tree_area g) key value) B (tree_writes.put_program_stores (tree_area g) key value (tree_area_is g valid some))))

  pub tree_was_there : (key : List ℕ) (r : Bool) → g.tree ≢ 0 → (outcome room (tree.del_program (tree_area g) key) B).1 ≡ Some (Ok r)
      → IsCallOf (second_store the_tree g) (image_hash g) (OnKey (Del key)) B (outcome room (tree.del_program (tree_area g) key) B).0 (WasThere r)
  tree_was_there key r some is =
      call_is (second_store the_tree g) (image_hash g) (OnKey (Del key)) B room (tree.del_program (tree_area g) key) r (WasThere r) is
      (λ answered. if_local g.tree (IsTreeRegion (tree_area g)) (tree_map (tree_area g)) (λ there. WasThere there) (del_op key) B _ r some
      (tree_dels.del_local (tree_area g) key B r (tree_area_is g valid some) ((tree_right (tree_area g) B).del key r answered) tree_blocks answered))
      (spare_where_apart (second_store the_tree g) (image_hash g) _ apart_too (writes_within (second_store the_tree g) (tree.del_program (tree_area g) key) B (tree_writes.del_program_stores (tree_area g) key)))

  pub tree_found : (from to : List ℕ) (most : ℕ) (r : List (List ℕ × List ℕ)) → g.tree ≢ 0 → (outcome room (tree.scan_program (tree_area g) from to most) B).1 ≡ Some (Ok r)
      → IsCallOf (second_store the_tree g) (image_hash g) (Scan from to most) B (outcome room (tree.scan_program (tree_area g) from to most) B).0 (Found r)
  tree_found from to most r some is =
      call_is (second_store the_tree g) (image_hash g) (Scan from to most) B room (tree.scan_program (tree_area g) from to most) r (Found r) is
      (λ answered.
      let right = tree_scan_keys (tree_area g) from to most B r answered in
      if_local g.tree (IsTreeRegion (tree_area g)) (tree_map (tree_area g)) (λ pairs. Found pairs) (scan_op from to most) B _ r some (tree_scans.scan_local (tree_area g) from to most B r right.0 right.1 answered))
      (reads_spare (image_hash g) _ (tree_scans.program_reads (tree_area g) from to most B))
