-- Transactions that call a hash store in one area and a tree store in another.
use Rattle.std.specs.Prelude.{List}
use Rattle.store_model.specs.declared.stores.Area.{Area}
use Rattle.iso_model.specs.Array.{Array}
use Rattle.tx_blocks.specs.Tx.{Tx}
use Rattle.store_laws.specs.{Both.Mixed, Calls.{KeyCall, StoreAnswer}, Growing.IsMadeOfBoth, Hash.hash_store, Tree.{TreeCall, tree_store}}

-- a part: `First` is a call of the hash store, `Second` one of the tree store
abbrev pub StorePart : Type 0
StorePart = Mixed KeyCall StoreAnswer TreeCall StoreAnswer

-- the transaction began with this array, and its accesses are those of these parts
abbrev pub IsMadeOfStores : (hash tree : Area) → Array → Tx → List StorePart → Type 0
IsMadeOfStores hash tree A t parts = IsMadeOfBoth (hash_store hash) (tree_store tree) A t parts
