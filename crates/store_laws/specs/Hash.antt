-- The hash store as a store over the blocks of its region.
use Rattle.store_model.specs.{declared.stores.Area.Area, HashRegion.{IsHashRegion, hash_map}}
use Rattle.store_laws.specs.{Calls.{KeyCall, StoreAnswer, in_area, key_act}, Region.{MapStore, pairs_store}}

abbrev pub hash_store : Area → MapStore
hash_store a = pairs_store KeyCall StoreAnswer (in_area a) (IsHashRegion a) (hash_map a) key_act
