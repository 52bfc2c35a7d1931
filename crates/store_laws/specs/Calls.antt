-- What the stores share: the calls on one key with their operations on the map, what calls answer, and the blocks of an area.
use Rattle.std.specs.Prelude.{◌≡◌, ◌⊎◌, ℕ, ◌+◌, ◌<◌, ◌≤◌, Bool, List, Option, replicate}
use Rattle.iso_model.specs.{Array.Array, Premises.block_at}
use Rattle.store_model.specs.{declared.stores.Area.Area, HashRegion.{Pairs, del_op, get_op, put_op}}
pub use Rattle.store_model.specs.Areas.{in_area}

-- a call on one key
pub data KeyCall : Type 0 where
  Get : (key : List ℕ) → KeyCall
  Put : (key value : List ℕ) → KeyCall
  Del : (key : List ℕ) → KeyCall

-- what a call that answered Ok answers
pub data StoreAnswer : Type 0 where
  Got : (value : Option (List ℕ)) → StoreAnswer
  WasPut : StoreAnswer
  WasThere : (there : Bool) → StoreAnswer
  Found : (pairs : List (List ℕ × List ℕ)) → StoreAnswer

-- the operations on the map
abbrev pub key_act : KeyCall → Pairs → StoreAnswer × Pairs
key_act (Get key) m = (Got (get_op key m).0, (get_op key m).1)
key_act (Put key value) m = (WasPut, (put_op key value m).1)
key_act (Del key) m = (WasThere (del_op key m).0, (del_op key m).1)

-- areas that have no block in common: one ends before the other begins
abbrev pub AreDisjoint : Area → Area → Type 0
AreDisjoint a b = (a.start + a.blocks ≤ b.start) ⊎ (b.start + b.blocks ≤ a.start)

-- the area's blocks are zeros
abbrev pub IsBlank : Area → Array → Type 0
IsBlank a A = (k : ℕ) → k < a.blocks → block_at A (a.start + k) ≡ replicate a.size 0
