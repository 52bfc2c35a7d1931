-- The regions of the file store depend on the blocks of its areas alone.
use Rattle.std.{proofs.Common.{◌≡◌, ◌∙◌, sym, ap, ℕ, ◌+◌, ◌<◌, true, List, Option, Some, None, option_map, length, take, arith}, specs.List.list_all, specs.FinMap.{get, same_map, slice_cmp-IsAntisymmetric, nat_cmp-IsAntisymmetric}, specs.Cmp.Lexicographic.nat_list_cmp_total, proofs.lemmas.Bool.{or_left, or_right}}
use Rattle.iso_model.specs.{Array.Array, Premises.block_at}
use Rattle.store_model.{specs.declared.files.FileAreas.FileAreas, specs.Areas.in_area, specs.Cells.is_zero, specs.FreeMap.map_bit, specs.TreeRegion.tree_map, specs.FileNodes.{is_file, number_of}, specs.FileRegion.{AreFileAreas, AreFileRegions, Uses, content, file_at, files, number_at}, proofs.AreaBlocks.{in_its_area, start_in}}
use Rattle.iso_tree.proofs.TreeBlocks.{map_new, region_new}
use Rattle.iso_fs.proofs.{Files.uses_handed, Kept.{kept_content, kept_uses, still_uses}, Lookups.files_get}
use Rattle.store_laws.specs.{Files.{file_store, in_areas}, Region.IsOfItsBlocks}

module _ (a : FileAreas) (areas : AreFileAreas a) (A B : Array) (same : (b : ℕ) → in_areas a b ≡ true → block_at B b ≡ block_at A b) (regions : AreFileRegions a A) where
  in_tree : (b : ℕ) → in_area a.tree b ≡ true → block_at B b ≡ block_at A b
  in_tree b has = same b (or_left (in_area a.tree b) (in_area a.files b) has)

  in_files : (b : ℕ) → in_area a.files b ≡ true → block_at B b ≡ block_at A b
  in_files b has = same b (or_right (in_area a.tree b) (in_area a.files b) has)

  tree_same : tree_map a.tree B ≡ tree_map a.tree A
  tree_same = map_new a.tree A B areas.tree in_tree regions.tree

  number_same : (name : List ℕ) → number_at a B name ≡ number_at a A name
  number_same name = ap (λ m. option_map number_of (get m name)) tree_same

  block_same : (k : ℕ) → k < a.files.blocks → file_at a B k ≡ file_at a A k
  block_same k below = in_files (a.files.start + k) (in_its_area a.files k below)

  first_same : block_at B a.files.start ≡ block_at A a.files.start
  first_same = in_files a.files.start (start_in a.files (let l = areas.least in omega arith))

  kept : (name : List ℕ) (place block : ℕ) → Uses a A name place block → file_at a B block ≡ file_at a A block
  kept name place block uses = block_same block (uses_handed a A regions name place block uses).below

  uses_was : (name : List ℕ) (place block : ℕ) → Uses a B name place block → Uses a A name place block
  uses_was name place block uses = kept_uses a A B name uses.number (sym (number_same name) ∙ uses.named) uses.named (kept name) place block uses

  uses_is : (name : List ℕ) (place block : ℕ) → Uses a A name place block → Uses a B name place block
  uses_is name place block uses = still_uses a A B name uses.number uses.named (number_same name ∙ uses.named) (kept name) place block uses

  used_below : (name : List ℕ) (number : ℕ) → number_at a A name ≡ Some number → number < a.files.blocks
  used_below name number named = (uses_handed a A regions name 0 number (record { number = number; named = named; inside = omega arith; is = Rattle.std.proofs.Common.refl })).below

  pub regions_same : AreFileRegions a B
  regions_same = record {
    tree = region_new a.tree A B areas.tree in_tree regions.tree;
    shape = λ k below. ap length (block_same k below) ∙ regions.shape k below;
    named = λ name value there. regions.named name value (ap (λ m. get m name) (sym tree_same) ∙ there);
    files = λ name number there.
        let was = sym (number_same name) ∙ there in
        ap (is_file a.files) (block_same number (used_below name number was)) ∙ regions.files name number was;
    apart = λ x y i j k one two. regions.apart x y i j k (uses_was x i k one) (uses_was y j k two);
    bits = λ k below.
        let bit : map_bit (block_at B a.files.start) k ≡ map_bit (block_at A a.files.start) k = ap (λ (first : List ℕ). map_bit first k) first_same in
        let was = regions.bits k below in (
          λ set. (let used = was.0 (sym bit ∙ set) in record { name = used.name; place = used.place; uses = uses_is used.name used.place k used.uses }),
          λ used. bit ∙ was.1 (record { name = used.name; place = used.place; uses = uses_was used.name used.place k used.uses }),
        );
    head = ap (λ (first : List ℕ). list_all is_zero (take 64 first)) first_same ∙ regions.head;
  }

  content_same : (name : List ℕ) (o : Option (List ℕ)) → get (tree_map a.tree A) name ≡ o → option_map (λ v. content a B (number_of v)) o ≡ option_map (λ v. content a A (number_of v)) o
  content_same name None missing = Rattle.std.proofs.Common.refl
  content_same name (Some value) there =
      let was : number_at a A name ≡ Some (number_of value) = ap (option_map number_of) there in
      ap (λ (bytes : List ℕ). Some bytes) (kept_content a A B name (number_of value) was (number_same name ∙ was) (kept name) (let s = areas.size in let l = areas.tree.least_size in omega arith))

  pub files_same : files a B ≡ files a A
  files_same = same_map nat_list_cmp_total (slice_cmp-IsAntisymmetric nat_cmp-IsAntisymmetric) (files a B) (files a A) (λ name.
      files_get a B name ∙ ap (λ m. option_map (λ v. content a B (number_of v)) (get m name)) tree_same ∙ content_same name (get (tree_map a.tree A) name) Rattle.std.proofs.Common.refl ∙ sym (files_get a A name))

pub files_are_of_their_blocks : (a : FileAreas) → AreFileAreas a → IsOfItsBlocks (file_store a)
files_are_of_their_blocks a areas = record {
  well_formed = λ A B same regions. regions_same a areas A B same regions;
  map_is = λ A B same regions. files_same a areas A B same regions;
}
