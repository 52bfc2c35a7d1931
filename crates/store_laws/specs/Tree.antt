-- The tree store as a store over the blocks of its region.
use Rattle.std.specs.Prelude.{ℕ, List}
use Rattle.store_model.specs.{declared.stores.Area.Area, HashRegion.Pairs, TreeRegion.{IsTreeRegion, scan_op, tree_map}}
use Rattle.store_laws.specs.{Calls.{Found, KeyCall, StoreAnswer, in_area, key_act}, Region.{MapStore, pairs_store}}

-- a call on one key, or a scan: the pairs with a key from one on and before another, at most `most`
pub data TreeCall : Type 0 where
  OnKey : (call : KeyCall) → TreeCall
  Scan : (from to : List ℕ) → (most : ℕ) → TreeCall

-- the operations on the map
abbrev pub tree_act : TreeCall → Pairs → StoreAnswer × Pairs
tree_act (OnKey call) m = key_act call m
tree_act (Scan from to most) m = (Found (scan_op from to most m).0, (scan_op from to most m).1)

abbrev pub tree_store : Area → MapStore
tree_store a = pairs_store TreeCall StoreAnswer (in_area a) (IsTreeRegion a) (tree_map a) tree_act
