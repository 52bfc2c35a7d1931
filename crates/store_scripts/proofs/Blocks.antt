-- The stores of an image depend on their blocks alone.
use Rattle.store_scripts.proofs.{Words.{IsPlain, ◌≢◌, refl, ℕ, zero, suc, Bool, IsTrue, arith, Geometry, Array, is_valid, IsHashRegion, Pairs, hash_map, hash_area, tree_area, IsTreeRegion, tree_map, hash_area_is, tree_area_is, in_area, hash_is_of_its_blocks, IsOfItsBlocks, MapStore, tree_is_of_its_blocks, IfAny, image_hash, pairs_if_any, second_store, the_tree, the_files, true, false, cond, ◌==◌, ◌||◌, ◌≡◌, ◌∙◌, sym, ap, inl, disjoint_blocks, Op, Reply, None, HashPut, HashGet, HashDelete, TreePut, TreeGet, TreeDelete, TreeScan, FileNew, FileWrite, FileRead, FileMove, FileDelete, file_blocks, files_area, AreFileRegions, files, FileCall, FileAnswer, file_act, file_store, in_areas, files_are_of_their_blocks, SameRegion, Option, Some, option_map, CallsStore, answered, put_answer, get_answer, del_answer, KeyCall, StoreAnswer, TreeCall, key_act, tree_act, ne_eqb}, Seconds.IsSecond}
pub use Rattle.script_model.proofs.FilesPlace.{HasFiles, has_files}
use Rattle.script_model.specs.declared.script.Reply.TheVariants as reply

abbrev store_of : (Call Answer : Type 0) → (Call → Pairs → Answer × Pairs) → (ℕ → Bool) → (Array → Type 0) → (Array → Pairs) → MapStore
store_of Call Answer act has Well map_of = record { Map = Pairs; Call = Call; Answer = Answer; has_block = has; IsWellFormed = Well; map_of = map_of; act = act }

if_any_blocks : (Call Answer : Type 0) (act : Call → Pairs → Answer × Pairs) (has : ℕ → Bool) (Well : Array → Type 0) (map_of : Array → Pairs) (n : ℕ)
    → (n ≢ 0 → IsOfItsBlocks (store_of Call Answer act has Well map_of))
    → IsOfItsBlocks (store_of Call Answer act has (λ (A : Array). IfAny n (Well A)) (λ (A : Array). pairs_if_any n (map_of A)))
if_any_blocks Call Answer act has Well map_of zero is = record { well_formed = λ A B same well. tt; map_is = λ A B same well. refl }
if_any_blocks Call Answer act has Well map_of (suc n) is = let blocks = is (λ e. absurd (omega arith)) in record { well_formed = blocks.well_formed; map_is = blocks.map_is }

pub hash_blocks : (g : Geometry) → IsTrue (is_valid g) → IsOfItsBlocks (image_hash g)
hash_blocks g valid =
    if_any_blocks KeyCall StoreAnswer key_act (in_area (hash_area g)) (IsHashRegion (hash_area g)) (hash_map (hash_area g)) g.hash (λ some. hash_is_of_its_blocks (hash_area g) (hash_area_is g valid some))

pub tree_blocks : (g : Geometry) → IsTrue (is_valid g) → IsOfItsBlocks (second_store the_tree g)
tree_blocks g valid =
    if_any_blocks TreeCall StoreAnswer tree_act (in_area (tree_area g)) (IsTreeRegion (tree_area g)) (tree_map (tree_area g)) g.tree (λ some. tree_is_of_its_blocks (tree_area g) (tree_area_is g valid some))

-- the tree store beside the hash store
pub tree_second : IsSecond the_tree
tree_second = grind (arith, tree_blocks, disjoint_blocks, tree_quiet, tree_outside)
  where
    tree_quiet : (op : Op) → IsPlain op → (r : Reply) → the_tree.answered op r ≡ None
    tree_quiet (HashPut key value) none r = absurd none
    tree_quiet (HashGet key) none r = absurd none
    tree_quiet (HashDelete key) none r = absurd none
    tree_quiet (TreePut key value) none r = absurd none
    tree_quiet (TreeGet key) none r = absurd none
    tree_quiet (TreeDelete key) none r = absurd none
    tree_quiet (TreeScan from to most) none r = absurd none
    tree_quiet op none r = refl

    tree_outside : (op : Op) → the_tree.answered op reply.NotInTx ≡ None
    tree_outside (HashPut key value) = refl
    tree_outside op = refl

-- THE FILES
-- of blocks where there are any
some_blocks : (n : ℕ) → n ≢ 0 → (n == 0) ≡ false
some_blocks n some = ne_eqb n 0 some

files_same : (g : Geometry) (A B : Array) → file_blocks g ≢ 0 → SameRegion (second_store the_files g) A B → SameRegion (file_store (files_area g)) A B
files_same g A B some same = λ b has. same b (ap (λ (t : Bool). cond t false (in_areas (files_area g) b)) (some_blocks (file_blocks g) some) ∙ has)

pub file_blocks_are : (g : Geometry) → IsTrue (is_valid g) → IsOfItsBlocks (second_store the_files g)
file_blocks_are g valid =
    if_any_blocks FileCall FileAnswer file_act (the_files.has_block g) (AreFileRegions (files_area g)) (files (files_area g)) (file_blocks g) (λ some.
    let is = files_are_of_their_blocks (files_area g) (has_files g valid some).areas in
    record {
      well_formed = λ A B same well. is.well_formed A B (files_same g A B some same) well;
      map_is = λ A B same well. is.map_is A B (files_same g A B some same) well;
    })

hash_apart : (g : Geometry) (b : ℕ) → in_area (hash_area g) b ≡ true → in_areas (files_area g) b ≡ false
hash_apart g b has =
    let tree = disjoint_blocks (hash_area g) (tree_area g) (inl (omega arith)) b has in
    let files = disjoint_blocks (hash_area g) (files_area g).files (inl (omega arith)) b has in
    λ i. tree i || files i

pub files_apart : (g : Geometry) (b : ℕ) → in_areas (files_area g) b ≡ true → in_area (hash_area g) b ≡ false
files_apart g b has = not_both (in_area (hash_area g) b) (in_areas (files_area g) b) (hash_apart g b) has
  where
    not_both : (x y : Bool) → (x ≡ true → y ≡ false) → y ≡ true → x ≡ false
    not_both true y other is = absurd (let e : true ≡ false = sym is ∙ other refl in cc)
    not_both false y other is = refl

-- the files beside the hash store
pub files_second : IsSecond the_files
files_second = grind (arith, file_blocks_are, none_or, hash_apart, file_quiet, file_refused, file_outside)
  where
    none_or : (t x : Bool) → x ≡ false → cond t false x ≡ false
    none_or true x is = refl
    none_or false x is = is

    file_quiet : (op : Op) → IsPlain op → (r : Reply) → the_files.answered op r ≡ None
    file_quiet (HashPut key value) none r = absurd none
    file_quiet (HashGet key) none r = absurd none
    file_quiet (HashDelete key) none r = absurd none
    file_quiet (FileNew name) none r = absurd none
    file_quiet (FileWrite name off bytes) none r = absurd none
    file_quiet (FileRead name off len) none r = absurd none
    file_quiet (FileMove from to) none r = absurd none
    file_quiet (FileDelete name) none r = absurd none
    file_quiet op none r = refl

    file_outside : (op : Op) → the_files.answered op reply.NotInTx ≡ None
    file_outside (HashPut key value) = refl
    file_outside op = refl

    none_of : {X Y Z : Type 0} (f : X → Y) (k : X → Z) (o : Option X) → option_map f o ≡ None → option_map k o ≡ None
    none_of f k None is = refl
    none_of f k (Some x) is = cc

    file_refused : (op : Op) → CallsStore op → (r : Reply) → answered op r ≡ None → the_files.answered op r ≡ None
    file_refused (HashPut key value) calls r none = none_of _ _ (put_answer r) none
    file_refused (HashGet key) calls r none = none_of _ _ (get_answer r) none
    file_refused (HashDelete key) calls r none = none_of _ _ (del_answer r) none
    file_refused (TreePut key value) calls r none = refl
    file_refused (TreeGet key) calls r none = refl
    file_refused (TreeDelete key) calls r none = refl
    file_refused (TreeScan from to most) calls r none = refl
    file_refused op calls r none = absurd calls
