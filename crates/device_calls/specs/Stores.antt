-- What calls of the stores do to a transaction over blocks.
use Rattle.std.specs.Prelude.{◌≡◌, ◌↔◌, ◌⊎◌, ℕ, ◌&&◌, Bool, IsFalse, IsTrue, List, Option, Result, Err, IfErr, IfOk, OnOk}
use Rattle.iso_model.specs.Array.{Array}
use Rattle.store_model.specs.{declared.stores.Area.Area, declared.stores.StoreError.StoreError, declared.stores.StoreError.TheVariants.{BadKey, BadValue}, HashCalls.{is_key, is_value}, HashRegion.{IsHashRegion, del_op, get_op, hash_map, put_op}, Stores.Program, TreeRegion.{IsTreeRegion, scan_op, tree_map}}
use Rattle.store_model.specs.HashCalls as hash
use Rattle.store_model.specs.TreeCalls as tree
use Rattle.tx_blocks.specs.{Runs.{HasEnded, HasRead, IsLocalCall, IsStoreCause, IsUnwritten, Passed, WantsMemory}, Tx.{Device, IsLater, Tx}}

-- A call that makes at most `writes` writes. With an answer it is local for the operation on the map of its region. A refusal has its
-- cause, and is the key's exactly where it is no key.
pub record Answers {M X : Type 0} (IsWellFormed : Array → Type 0) (map_of : Array → M) (op : M → X × M) (are_keys : Bool) (writes : ℕ) (result : Result X StoreError) (t u : Tx) (before now : Device) : Type 0 where
  pub local : IfOk result (IsLocalCall IsWellFormed map_of op t u)
  pub bad_key : result ≡ Err BadKey ↔ IsFalse are_keys
  pub cause : IfErr result (IsStoreCause u writes before now)
  pub later : IsLater before now
  pub passed : OnOk result (Passed before now)

-- a look-up, which writes nothing
pub record Gets {M : Type 0} (IsWellFormed : Array → Type 0) (map_of : Array → M) (op : M → Option (List ℕ) × M) (p : Program (Result (Option (List ℕ)) StoreError)) (key : List ℕ) (result : Result (Option (List ℕ)) StoreError)
    (t u : Tx) (before now : Device) : Type 0 where
  pub answers : Answers IsWellFormed map_of op (is_key key) 1 result t u before now
  pub ended : HasEnded p t u result
  pub reads : HasRead t u

-- a put: a refusal has written nothing, but where memory is wanted between two writes
pub record Puts {M : Type 0} (IsWellFormed : Array → Type 0) (map_of : Array → M) (op : M → (Unit {0}) × M) (p : Program (Result (Unit {0}) StoreError)) (writes : ℕ) (key value : List ℕ) (result : Result (Unit {0}) StoreError)
    (t u : Tx) (before now : Device) : Type 0 where
  pub answers : Answers IsWellFormed map_of op (is_key key) writes result t u before now
  pub ended : HasEnded p t u result
  pub bad_value : result ≡ Err BadValue ↔ (IsTrue (is_key key) × IsFalse (is_value value))
  pub unwritten : IfErr result (IsUnwritten t u writes)

-- a removal
pub record Removes {M : Type 0} (IsWellFormed : Array → Type 0) (map_of : Array → M) (op : M → Bool × M) (p : Program (Result Bool StoreError)) (writes : ℕ) (key : List ℕ) (result : Result Bool StoreError)
    (t u : Tx) (before now : Device) : Type 0 where
  pub answers : Answers IsWellFormed map_of op (is_key key) writes result t u before now
  pub ended : HasEnded p t u result
  pub unwritten : IfErr result (IsUnwritten t u writes)

-- the calls of the hash store
abbrev pub HashGets : Area → List ℕ → Result (Option (List ℕ)) StoreError → (t u : Tx) → (before now : Device) → Type 0
HashGets a key r t u before now = Gets (IsHashRegion a) (hash_map a) (get_op key) (hash.get_program a key) key r t u before now

abbrev pub HashPuts : Area → (key value : List ℕ) → Result (Unit {0}) StoreError → (t u : Tx) → (before now : Device) → Type 0
HashPuts a key value r t u before now = Puts (IsHashRegion a) (hash_map a) (put_op key value) (hash.put_program a key value) 3 key value r t u before now

abbrev pub HashRemoves : Area → List ℕ → Result Bool StoreError → (t u : Tx) → (before now : Device) → Type 0
HashRemoves a key r t u before now = Removes (IsHashRegion a) (hash_map a) (del_op key) (hash.del_program a key) 2 key r t u before now

-- and those of the tree store
abbrev pub TreeGets : Area → List ℕ → Result (Option (List ℕ)) StoreError → (t u : Tx) → (before now : Device) → Type 0
TreeGets a key r t u before now = Gets (IsTreeRegion a) (tree_map a) (get_op key) (tree.get_program a key) key r t u before now

abbrev pub TreePuts : Area → (key value : List ℕ) → Result (Unit {0}) StoreError → (t u : Tx) → (before now : Device) → Type 0
TreePuts a key value r t u before now = Puts (IsTreeRegion a) (tree_map a) (put_op key value) (tree.put_program a key value) 66 key value r t u before now

abbrev pub TreeRemoves : Area → List ℕ → Result Bool StoreError → (t u : Tx) → (before now : Device) → Type 0
TreeRemoves a key r t u before now = Removes (IsTreeRegion a) (tree_map a) (del_op key) (tree.del_program a key) 1 key r t u before now

-- a scan, which may want memory for its pairs after its last read too
pub record TreeScans (a : Area) (from to : List ℕ) (most : ℕ) (result : Result (List (List ℕ × List ℕ)) StoreError) (t u : Tx) (before now : Device) : Type 0 where
  pub answers : Answers (IsTreeRegion a) (tree_map a) (scan_op from to most) (is_key from && is_key to) 1 result t u before now
  pub ended : HasEnded (tree.scan_program a from to most) t u result ⊎ WantsMemory (tree.scan_program a from to most) t u result
  pub reads : HasRead t u
