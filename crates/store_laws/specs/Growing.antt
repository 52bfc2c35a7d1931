-- A transaction over blocks, as the parts that it was made of so far.
use Rattle.std.specs.Prelude.{◌≡◌, [], ◌∷◌, ◌++◌, Ok, Result, Some}
use Rattle.iso_model.specs.Array.{Array}
use Rattle.tx_blocks.specs.{Runs.IsLocalCall, Tx.{Tx, added}}
use Rattle.store_laws.specs.{Both.{AreMixed, First, Mixed, MixedParts, Second, firsts}, Parts.{AreMade, Called, Part, PartsOf, accesses_in}, Region.MapStore}

-- The transaction began with this array, and its accesses are those of these parts.
pub record IsMadeOf (s : MapStore) (A : Array) (t : Tx) (parts : PartsOf s) : Type 0 where
  pub base : t.base ≡ Some A
  pub are : accesses_in parts ≡ t.accesses
  pub made : AreMade s A parts

-- The transaction began with this array, and its accesses are those of these parts of two stores.
pub record IsMadeOfBoth (s t : MapStore) (A : Array) (tx : Tx) (parts : MixedParts s t) : Type 0 where
  pub base : tx.base ≡ Some A
  pub are : accesses_in (firsts parts) ≡ tx.accesses
  pub made : AreMixed s t A parts

-- from t to u the transaction came to this one part more
abbrev pub Grows : (s : MapStore) → (t u : Tx) → Part s.Call s.Answer → Type 0
Grows s t u part = (A : Array) (parts : PartsOf s) → IsMadeOf s A t parts → IsMadeOf s A u (parts ++ part ∷ [])

-- so does a transaction that calls two stores
abbrev pub BothGrow : (s t : MapStore) → (x y : Tx) → Mixed s.Call s.Answer t.Call t.Answer → Type 0
BothGrow s t x y part = (A : Array) (parts : MixedParts s t) → IsMadeOfBoth s t A x parts → IsMadeOfBoth s t A y (parts ++ part ∷ [])

-- A call of the store's code is a part of its transaction, where it ended Ok so, and is local for this operation on the map.
abbrev pub MakesPart : {R E : Type 0} → (s : MapStore) → (ends : (t u : Tx) → Result R E → Type 0) → (op : s.Map → R × s.Map) → (call : s.Call) → (answer : R → s.Answer) → Type 0
MakesPart {R = R} s ends op call answer = (t u : Tx) (r : R) → ends t u (Ok r) → IsLocalCall s.IsWellFormed s.map_of op t u r → Grows s t u (Called call (added t u) (answer r))

-- so is one of the first of two stores, and one of the second
abbrev pub MakesFirstPart : {R E : Type 0} → (s t : MapStore) → (ends : (x y : Tx) → Result R E → Type 0) → (op : s.Map → R × s.Map) → (call : s.Call) → (answer : R → s.Answer) → Type 0
MakesFirstPart {R = R} s t ends op call answer = (x y : Tx) (r : R) → ends x y (Ok r) → IsLocalCall s.IsWellFormed s.map_of op x y r → BothGrow s t x y (First call (added x y) (answer r))

abbrev pub MakesSecondPart : {R E : Type 0} → (s t : MapStore) → (ends : (x y : Tx) → Result R E → Type 0) → (op : t.Map → R × t.Map) → (call : t.Call) → (answer : R → t.Answer) → Type 0
MakesSecondPart {R = R} s t ends op call answer = (x y : Tx) (r : R) → ends x y (Ok r) → IsLocalCall t.IsWellFormed t.map_of op x y r → BothGrow s t x y (Second call (added x y) (answer r))
