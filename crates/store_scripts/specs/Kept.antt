-- Transactions of a script that keep to the stores of its image.
use Rattle.std.specs.Prelude.{◌≡◌, ◌⊎◌, ℕ, IsTrue, List, [], ◌++◌, Some, length, map}
use Rattle.iso_model.specs.{declared.access.Access.Access, declared.access.Geometry.Geometry, declared.access.Mode.Mode, declared.access.Mode.TheVariants.Serial, Array.Array, History.{array_at, last}, World.{Live, World, attached}, Worlds.IsWorld}
use Rattle.script_model.specs.{declared.script.Line.Line, declared.script.Op.Op, Script.after}
use Rattle.store_laws.specs.{Both.{AreMixed, BothWellFormed, MixedParts, firsts, seconds}, Parts.{accesses_in, answers_in, calls_in, run}, Region.SpareRegion}
use Rattle.store_scripts.specs.{Stores.{SecondStore, image_hash, second_store}, Told.{Notes, Told, noted, told_after}}

-- The accesses of a transaction that began with this array are those of parts, whose calls are those that are told, and of the rest
-- since the last of them, which writes neither region.
pub record IsToldOf (S : SecondStore) (g : Geometry) (A : Array) (accesses : List Access) (mode : Mode) (told : Told S) : Type 0 where
  pub parts : MixedParts (image_hash g) (second_store S g)
  pub rest : List Access
  pub are : accesses_in (firsts parts) ++ rest ≡ accesses
  pub over : length (accesses_in (firsts parts)) ≡ told.over
  pub made : AreMixed (image_hash g) (second_store S g) A parts
  pub spare_hash : SpareRegion (image_hash g) rest
  pub spare_second : SpareRegion (second_store S g) rest
  pub hash_calls : calls_in (firsts parts) ≡ told.hash.calls
  pub hash_answers : answers_in (firsts parts) ≡ told.hash.answers
  pub second_calls : calls_in (seconds parts) ≡ told.second.calls
  pub second_answers : answers_in (seconds parts) ≡ told.second.answers
  pub serial : ((told.hash.calls ≡ []) × (told.second.calls ≡ [])) ⊎ (mode ≡ Serial)

-- After these lines it is so of each live transaction that keeps to the stores.
abbrev pub TellParts : (S : SecondStore) → World → List (ℕ × Line) → Type 0
TellParts S W lines =
    let V = after W lines in
    (client : ℕ) (t : Live) → attached V client ≡ Some t → IsTrue (told_after S W lines t.number).kept
    → IsToldOf S V.geometry (array_at V.history t.begin) t.accesses t.mode (told_after S W lines t.number)

-- whatever is noted, after this line each transaction keeps to the stores as before
abbrev pub StaysKept : (S : SecondStore) → World → (client : ℕ) → Op → Type 0
StaysKept S W client op = (notes : Notes S) (number : ℕ) → (noted S W notes client op number).kept ≡ (notes number).kept

-- The calls of each store answered as one thread's calls on its map in A, which end in its map in B.
pub record ToldInOrder (S : SecondStore) (g : Geometry) (told : Told S) (A B : Array) : Type 0 where
  pub hash_answers : (run (image_hash g) ((image_hash g).map_of A) told.hash.calls).0 ≡ told.hash.answers
  pub hash_ends : (run (image_hash g) ((image_hash g).map_of A) told.hash.calls).1 ≡ (image_hash g).map_of B
  pub second_answers : (run (second_store S g) ((second_store S g).map_of A) told.second.calls).0 ≡ told.second.answers
  pub second_ends : (run (second_store S g) ((second_store S g).map_of A) told.second.calls).1 ≡ (second_store S g).map_of B

-- each call answered by its store's map in A
pub record ToldByMap (S : SecondStore) (g : Geometry) (told : Told S) (A : Array) : Type 0 where
  pub hash : told.hash.answers ≡ map (λ call. ((image_hash g).act call ((image_hash g).map_of A)).0) told.hash.calls
  pub second : told.second.answers ≡ map (λ call. (S.act call ((second_store S g).map_of A)).0) told.second.calls

-- a sound world without transactions, whose stores are well formed at its last commit
pub record BeginsWell (S : SecondStore) (W : World) : Type 0 where
  pub world : IsWorld W
  pub none : W.live ≡ []
  pub stores : BothWellFormed (image_hash W.geometry) (second_store S W.geometry) (array_at W.history (last W.history))
