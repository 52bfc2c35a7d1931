-- The stores of an image, as stores over the blocks of their regions. One that has no blocks is always well formed and empty.
use Rattle.std.specs.{Prelude.{◌≡◌, ◌↔◌, ℕ, zero, suc, Bool, false, cond, ◌==◌, Option}, FinMap.empty}
use Rattle.iso_model.specs.{declared.access.Geometry.Geometry, Array.Array}
use Rattle.script_model.specs.{declared.script.Op.Op, declared.script.Reply.Reply, FilesArea.{file_blocks, files_area}}
use Rattle.store_model.specs.{HashRegion.{IsHashRegion, Pairs, hash_map}, Areas.{hash_area, tree_area}, TreeRegion.{IsTreeRegion, tree_map}, FileRegion.{AreFileRegions, files}}
use Rattle.store_laws.specs.{Calls.{KeyCall, StoreAnswer, in_area, key_act}, Files.{FileAnswer, FileCall, file_act, in_areas}, Region.MapStore, Tree.{TreeCall, tree_act}}
use Rattle.store_scripts.specs.Answers.{Answered, answered, file_answered}

-- what holds of a store of `blocks` blocks, if it has any
abbrev pub IfAny : (blocks : ℕ) → Type 0 → Type 0
IfAny zero P = Unit {0}
IfAny (suc n) P = P

abbrev pub pairs_if_any : (blocks : ℕ) → Pairs → Pairs
pairs_if_any zero m = empty
pairs_if_any (suc n) m = m

-- A store of pairs in `blocks` blocks, by what it is where there are any.
abbrev pub store_if_any : (Call Answer : Type 0) (blocks : ℕ) (has_block : ℕ → Bool) (IsWellFormed : Array → Type 0) (map_of : Array → Pairs) (act : Call → Pairs → Answer × Pairs) → MapStore
store_if_any Call Answer blocks has_block IsWellFormed map_of act = record {
  Map = Pairs;
  Call = Call;
  Answer = Answer;
  has_block = has_block;
  IsWellFormed = λ A. IfAny blocks (IsWellFormed A);
  map_of = λ A. pairs_if_any blocks (map_of A);
  act = act;
}

abbrev pub image_hash : Geometry → MapStore
image_hash g = store_if_any KeyCall StoreAnswer g.hash (in_area (hash_area g)) (IsHashRegion (hash_area g)) (hash_map (hash_area g)) key_act

abbrev pub image_tree : Geometry → MapStore
image_tree g = store_if_any TreeCall StoreAnswer g.tree (in_area (tree_area g)) (IsTreeRegion (tree_area g)) (tree_map (tree_area g)) tree_act

-- The files of an image, whose names are in its tree store: the blocks of both regions are theirs, where there are files.
abbrev pub image_files : Geometry → MapStore
image_files g =
    store_if_any FileCall FileAnswer (file_blocks g) (λ b. cond (file_blocks g == 0) false (in_areas (files_area g) b)) (AreFileRegions (files_area g)) (files (files_area g)) file_act

-- the store is that of regions which are well formed so, and hold this map
abbrev pub IsStoreOf : (s : MapStore) → (IsWellFormed : Array → Type 0) → (map_of : Array → s.Map) → Type 0
IsStoreOf s IsWellFormed map_of = (A : Array) → (s.IsWellFormed A ↔ IsWellFormed A) × (s.map_of A ≡ map_of A)

-- A store of an image that is looked at beside the hash store, by the image's geometry, and which operations call it or the hash
-- store. The tree store and the files are two such, and no transaction writes both: the names of files are in the tree store.
pub record SecondStore : Type 1 where
  pub Map : Type 0
  pub Call : Type 0
  pub Answer : Type 0
  pub has_block : Geometry → ℕ → Bool
  pub IsWellFormed : Geometry → Array → Type 0
  pub map_of : Geometry → Array → Map
  pub act : Call → Map → Answer × Map
  pub answered : Op → Reply → Option (Answered Call Answer)

-- a second store of pairs
abbrev pub second_of_pairs : (Call Answer : Type 0) (has_block : Geometry → ℕ → Bool) (IsWellFormed : Geometry → Array → Type 0) (map_of : Geometry → Array → Pairs) (act : Call → Pairs → Answer × Pairs)
    (answered : Op → Reply → Option (Answered Call Answer)) → SecondStore
second_of_pairs Call Answer has_block IsWellFormed map_of act answered =
    record { Map = Pairs; Call = Call; Answer = Answer; has_block = has_block; IsWellFormed = IsWellFormed; map_of = map_of; act = act; answered = answered }

abbrev pub the_tree : SecondStore
the_tree = second_of_pairs TreeCall StoreAnswer (λ g. (image_tree g).has_block) (λ g. (image_tree g).IsWellFormed) (λ g. (image_tree g).map_of) tree_act answered

abbrev pub the_files : SecondStore
the_files = second_of_pairs FileCall FileAnswer (λ g. (image_files g).has_block) (λ g. (image_files g).IsWellFormed) (λ g. (image_files g).map_of) file_act file_answered

-- it in an image of this geometry, whose form says nothing of the stores
abbrev pub second_store : SecondStore → Geometry → MapStore
second_store S g = record {
  Map = S.Map;
  Call = S.Call;
  Answer = S.Answer;
  has_block = S.has_block (record g { form = 1 });
  IsWellFormed = S.IsWellFormed (record g { form = 1 });
  map_of = S.map_of (record g { form = 1 });
  act = S.act;
}
