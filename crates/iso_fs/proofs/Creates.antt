-- A new file is that of the files.
use Rattle.iso_fs.proofs.{Words.{byte_far, byte_here, head_far, map_byte, ◌≡◌, ◌≢◌, ◌⊎◌, ◌∙◌, sym, refl, ap, subst, ℕ, ◌+◌, ◌*◌, ◌<◌, ◌≤◌, Bool, true, false, ◌||◌, ◌==◌, cond, List, [], ◌∷◌, length, get_or, take, map, Option, Some, None, option_map, Ok, arith, inl, inr, eq-eqb, ne_eqb, list_all, get, insert, same_map, slice_cmp-IsAntisymmetric, nat_cmp-IsAntisymmetric, nat_list_cmp_total, w32, to_be_bytes, both_ways, cases_Bool, cases_eq, or_left, or_right, nat_tests, from_be_bytes-to_be_bytes_4, Access, Array, merged, put, own, block_with, is_zero, bit_mark, bit_place, map_bit, map_bytes, map_mark, set_bit, is_key, block_at, accesses_of, answer_of, bytes_in, store_access, put_program, IsTreeRegion, tree_map, length-block_own, length-block_put, other_block, written_block, bits_with, laid_whole, sizes_of, put_correct, FileAreas, bytes_of, data_count, is_file, is_number, number_of, AreFileAreas, AreFileRegions, IsUsed, Uses, block_in, content, file_at, files, number_at, in_area, kept_outside, map_new, region_new, put_program_stores}, Changes.HasFiles, Files.uses_handed, Kept.{kept_content, kept_uses, still_uses}, Lookups.{files_get, insert_get, name_is, name_self, same_name, no_some, same_some}, MapByte.IsFree, NewFile.{empty_file, empty_is_file, length-empty_file, no_data_of}}

same_value : (v w : List ℕ) → ◌≡◌ {A = Option (List ℕ)} (Some v) (Some w) → v ≡ w
same_value v w e = cc

module _ (a : FileAreas) (areas : AreFileAreas a) (A : Array) (regions : AreFileRegions a A) (name : List ℕ) (key : is_key name ≡ true) (fresh : get (tree_map a.tree A) name ≡ None)
    (k : ℕ) (free : IsFree a.files (block_at A a.files.start) k) (u : Unit {0}) (ok : answer_of (put_program a.tree name (to_be_bytes w32 k)) A ≡ Ok u) where
  abbrev value : List ℕ
  value = to_be_bytes w32 k

  abbrev start : ℕ
  start = a.files.start

  abbrev size : ℕ
  size = a.files.size

  abbrev F : List ℕ
  F = block_at A start

  abbrev x : ℕ
  x = set_bit (get_or (bytes_in (map_mark a.files.blocks) F) (bit_place k) 0) k

  abbrev w1 : Access
  w1 = store_access start (bit_mark k ∷ []) (block_with size (bit_place k) (x ∷ []))

  abbrev w2 : Access
  w2 = store_access (start + k) [] (empty_file size)

  abbrev B : Array
  B = own A (accesses_of (put_program a.tree name value) A)

  abbrev C : Array
  C = put (put B w1) w2

  size_some : 256 ≤ size
  size_some = let s = areas.size in let l = areas.tree.least_size in omega arith

  most_size : size ≤ 4096
  most_size = let s = areas.size in let b = sizes_of a.tree areas.tree in let m = b.sized.most in omega arith

  zero_start : start + 0 ≡ start
  zero_start = omega arith

  number_is : number_of value ≡ k
  number_is = let high = free.high in let most = areas.most in let s = areas.size in let b = most_size in from_be_bytes-to_be_bytes_4 k (omega arith)

  -- THE TREE
  region_B : IsTreeRegion a.tree B
  region_B = (put_correct a.tree name value areas.tree key refl).well_formed A u regions.tree ok

  map_B : tree_map a.tree B ≡ insert (tree_map a.tree A) name value
  map_B = (put_correct a.tree name value areas.tree key refl).maps A u regions.tree ok

  file_out : (j : ℕ) → in_area a.tree (start + j) ≡ false
  file_out j = let f = areas.follows in grind (arith, nat_tests)

  start_out : in_area a.tree start ≡ false
  start_out = ap (in_area a.tree) (sym zero_start) ∙ file_out 0

  file_B : (j : ℕ) → file_at a B j ≡ file_at a A j
  file_B j = kept_outside (in_area a.tree) (put_program a.tree name value) A (start + j) (put_program_stores a.tree name value areas.tree) (file_out j)

  first_B : block_at B start ≡ F
  first_B = ap (block_at B) (sym zero_start) ∙ file_B 0 ∙ ap (block_at A) zero_start

  tree_C : (b : ℕ) → in_area a.tree b ≡ true → block_at C b ≡ block_at B b
  tree_C b inside = grind (arith, other_block, file_out, start_out) steps 100000

  region_C : IsTreeRegion a.tree C
  region_C = region_new a.tree B C areas.tree tree_C region_B

  map_C : tree_map a.tree C ≡ insert (tree_map a.tree A) name value
  map_C = map_new a.tree B C areas.tree tree_C region_B ∙ map_B

  -- THE BLOCKS OF THE FILE REGION
  long : (j : ℕ) → j < a.files.blocks → length (file_at a C j) ≡ size
  long j below = length-block_put (put B w1) w2 (start + j) ∙ length-block_put B w1 (start + j) ∙ length-block_own A (accesses_of (put_program a.tree name value) A) (start + j) ∙ regions.shape j below

  new_C : file_at a C k ≡ empty_file size
  new_C =
      written_block (put B w1) w2
      ∙ laid_whole (block_at (put B w1) (start + k)) (empty_file size)
      (length-empty_file size (let s = size_some in omega arith)
      ∙ sym (length-block_put B w1 (start + k) ∙ length-block_own A (accesses_of (put_program a.tree name value) A) (start + k) ∙ regions.shape k free.high))

  other_C : (j : ℕ) → 1 ≤ j → j ≢ k → file_at a C j ≡ file_at a A j
  other_C j some other = grind (arith, other_block, file_B) steps 100000

  first_long : length F ≡ size
  first_long = ap (λ (b : ℕ). length (block_at A b)) (sym zero_start) ∙ regions.shape 0 (let l = areas.least in omega arith)

  first_C : block_at C start ≡ merged (bit_mark k ∷ []) 0 F (block_with (length F) (bit_place k) (x ∷ []))
  first_C =
      other_block (put B w1) w2 start (λ e. absurd (omega arith))
      ∙ written_block B w1
      ∙ (λ i. merged (bit_mark k ∷ []) 0 (first_B i) (block_with (sym first_long i) (bit_place k) (x ∷ [])))

  -- THE NAMES
  get_same : get (tree_map a.tree C) name ≡ Some value
  get_same = ap (λ m. get m name) map_C ∙ insert_get (tree_map a.tree A) name value name ∙ ap (λ (t : Bool). cond t (Some value) (get (tree_map a.tree A) name)) (name_self name)

  get_other : (q : List ℕ) → same_name q name ≡ false → get (tree_map a.tree C) q ≡ get (tree_map a.tree A) q
  get_other q other = ap (λ m. get m q) map_C ∙ insert_get (tree_map a.tree A) name value q ∙ ap (λ (t : Bool). cond t (Some value) (get (tree_map a.tree A) q)) other

  number_same : number_at a C name ≡ Some k
  number_same = ap (option_map number_of) get_same ∙ ap (λ (n : ℕ). Some n) number_is

  number_other : (q : List ℕ) → same_name q name ≡ false → number_at a C q ≡ number_at a A q
  number_other q other = ap (option_map number_of) (get_other q other)

  -- WHO USES WHAT
  bit_fits : k < 8 * map_bytes a.files.blocks
  bit_fits = let high = free.high in omega arith

  not_used : (q : List ℕ) (place : ℕ) → Uses a A q place k → ⊥
  not_used q place uses = both_ways (map_bit F k) free.clear ((regions.bits k bit_fits).1 (record { name = q; place = place; uses = uses }))

  kept : (q : List ℕ) (place block : ℕ) → Uses a A q place block → file_at a C block ≡ file_at a A block
  kept q place block uses = other_C block (uses_handed a A regions q place block uses).some (λ e. not_used q place (subst (Uses a A q place) e uses))

  record IsNew (q : List ℕ) (place block : ℕ) : Type 0 where
    at_name : q ≡ name
    at_place : place ≡ 0
    at_block : block ≡ k

  record IsOld (q : List ℕ) (place block : ℕ) : Type 0 where
    other : same_name q name ≡ false
    uses : Uses a A q place block

  new_uses : (q : List ℕ) (place block : ℕ) → q ≡ name → Uses a C q place block → IsNew q place block
  new_uses q place block same uses =
      let number : uses.number ≡ k = same_some uses.number k (sym uses.named ∙ ap (number_at a C) same ∙ number_same) in
      let none : data_count size (file_at a C uses.number) ≡ 0 = ap (data_count size) (ap (file_at a C) number ∙ new_C) ∙ no_data_of size (let s = size_some in omega arith) in
      let at : place ≡ 0 = (let inside = uses.inside in omega arith) in
      record { at_name = same; at_place = at; at_block = sym uses.is ∙ ap (block_in uses.number (file_at a C uses.number)) at ∙ number }

  old_uses : (q : List ℕ) (place block : ℕ) → same_name q name ≡ false → Uses a C q place block → IsOld q place block
  old_uses q place block other uses =
      record { other = other; uses = kept_uses a A C q uses.number (sym (number_other q other) ∙ uses.named) uses.named (kept q) place block uses }

  split : (q : List ℕ) (place block : ℕ) → Uses a C q place block → IsNew q place block ⊎ IsOld q place block
  split q place block uses = elim (cases_Bool (same_name q name)) [
    | inl same ↦ inl (new_uses q place block (name_is q name same) uses)
    | inr other ↦ inr (old_uses q place block other uses)
  ]

  -- a file that was there has another name
  was_other : (q : List ℕ) (place block : ℕ) → Uses a A q place block → same_name q name ≡ false
  was_other q place block uses = elim (cases_Bool (same_name q name)) [
    | inl same ↦ absurd (no_some uses.number (sym (ap (option_map number_of) fresh) ∙ ap (number_at a A) (sym (name_is q name same)) ∙ uses.named))
    | inr other ↦ other
  ]

  goes_on_using : (q : List ℕ) (place block : ℕ) → Uses a A q place block → Uses a C q place block
  goes_on_using q place block uses = still_uses a A C q uses.number uses.named (number_other q (was_other q place block uses) ∙ uses.named) (kept q) place block uses

  uses_new : Uses a C name 0 k
  uses_new = record { number = k; named = number_same; inside = omega arith; is = refl }

  -- THE REGIONS
  named_C : (q v : List ℕ) → get (tree_map a.tree C) q ≡ Some v → is_number a.files v ≡ true
  named_C q v e = elim (cases_Bool (same_name q name)) [
    | inl same ↦
        (let is : v ≡ value = same_value v value (sym e ∙ ap (get (tree_map a.tree C)) (name_is q name same) ∙ get_same) in
        ap (is_number a.files) is ∙ ap (λ (n : ℕ). Rattle.store_model.specs.FileNodes.is_handed a.files.blocks n) number_is ∙ grind (arith, nat_tests))
    | inr other ↦ regions.named q v (sym (get_other q other) ∙ e)
  ]

  files_C : (q : List ℕ) (number : ℕ) → number_at a C q ≡ Some number → is_file a.files (file_at a C number) ≡ true
  files_C q number e = elim (cases_Bool (same_name q name)) [
    | inl same ↦
        (let is : number ≡ k = same_some number k (sym e ∙ ap (number_at a C) (name_is q name same) ∙ number_same) in
        ap (λ (n : ℕ). is_file a.files (file_at a C n)) is ∙ ap (is_file a.files) new_C ∙ empty_is_file a.files (let s = size_some in omega arith))
    | inr other ↦
        (let was : number_at a A q ≡ Some number = sym (number_other q other) ∙ e in
        ap (is_file a.files) (kept q 0 number (record { number = number; named = was; inside = omega arith; is = refl })) ∙ regions.files q number was)
  ]

  apart_C : (p q : List ℕ) (i j b : ℕ) → Uses a C p i b → Uses a C q j b → (p ≡ q) × (i ≡ j)
  apart_C p q i j b one two = elim (split p i b one) [
    | inl new ↦ elim (split q j b two) [
      | inl also ↦ (new.at_name ∙ sym also.at_name, new.at_place ∙ sym also.at_place)
      | inr old ↦ absurd (not_used q j (subst (Uses a A q j) new.at_block old.uses))
    ]
    | inr old ↦ elim (split q j b two) [
      | inl new ↦ absurd (not_used p i (subst (Uses a A p i) new.at_block old.uses))
      | inr also ↦ regions.apart p q i j b old.uses also.uses
    ]
  ]

  bits_are : (j : ℕ) → map_bit (block_at C start) j ≡ ((j == k) || map_bit F j)
  bits_are j = grind (arith, first_long, first_C, bits_with, byte_here, map_byte, byte_far) steps 100000

  used_C : (j : ℕ) → j < 8 * map_bytes a.files.blocks → map_bit (block_at C start) j ≡ true → IsUsed a C j
  used_C j below set = elim (cases_eq j k) [
    | inl same ↦ record { name = name; place = 0; uses = subst (Uses a C name 0) (sym same) uses_new }
    | inr other ↦
        (let was : map_bit F j ≡ true = ap (λ (t : Bool). t || map_bit F j) (sym (ne_eqb j k other)) ∙ sym (bits_are j) ∙ set in
        let used = (regions.bits j below).0 was in
        record { name = used.name; place = used.place; uses = goes_on_using used.name used.place j used.uses })
  ]

  set_C : (j : ℕ) → j < 8 * map_bytes a.files.blocks → IsUsed a C j → map_bit (block_at C start) j ≡ true
  set_C j below used = bits_are j ∙ elim (split used.name used.place j used.uses) [
    | inl new ↦ or_left (j == k) (map_bit F j) (eq-eqb j k new.at_block)
    | inr old ↦ or_right (j == k) (map_bit F j) ((regions.bits j below).1 (record { name = used.name; place = used.place; uses = old.uses }))
  ]

  regions_C : AreFileRegions a C
  regions_C = record {
    tree = region_C;
    shape = long;
    named = named_C;
    files = files_C;
    apart = apart_C;
    bits = λ j below. (used_C j below, set_C j below);
    head =
        (let high = free.high in
        ap (λ (m : List ℕ). list_all is_zero (take 64 m)) first_C ∙ ap (list_all is_zero) (head_far F k x (omega (arith, first_long))) ∙ regions.head);
  }

  -- THE FILES
  some_same : (q : List ℕ) → same_name q name ≡ false → (o : Option (List ℕ)) → get (tree_map a.tree A) q ≡ o
      → option_map (λ v. content a C (number_of v)) o ≡ option_map (λ v. content a A (number_of v)) o
  some_same q other None e = refl
  some_same q other (Some v) e =
      let was : number_at a A q ≡ Some (number_of v) = ap (option_map number_of) e in
      ap (λ (bytes : List ℕ). Some bytes) (kept_content a A C q (number_of v) was (number_other q other ∙ was) (kept q) (let s = size_some in omega arith))

  new_content : content a C (number_of value) ≡ []
  new_content =
      ap (content a C) number_is
      ∙ ap (λ (f : List ℕ). map (Rattle.store_model.specs.FileRegion.file_byte a C f) (Rattle.std.specs.List.range_with_len 0 (bytes_of f))) new_C

  each : (q : List ℕ) → get (files a C) q ≡ get (insert (files a A) name []) q
  each q = files_get a C q ∙ elim (cases_Bool (same_name q name)) [
    | inl same ↦
        (let is = name_is q name same in
        ap (λ (n : List ℕ). option_map (λ v. content a C (number_of v)) (get (tree_map a.tree C) n)) is
        ∙ ap (option_map (λ v. content a C (number_of v))) get_same ∙ ap (λ (bytes : List ℕ). Some bytes) new_content
        ∙ sym (insert_get (files a A) name [] q ∙ ap (λ (t : Bool). cond t (Some []) (get (files a A) q)) same))
    | inr other ↦
        ap (option_map (λ v. content a C (number_of v))) (get_other q other)
        ∙ some_same q other (get (tree_map a.tree A) q) refl
        ∙ sym (insert_get (files a A) name [] q ∙ ap (λ (t : Bool). cond t (Some []) (get (files a A) q)) other ∙ files_get a A q)
  ]

  pub created : HasFiles a (insert (files a A) name []) C
  created = record {
    regions = regions_C;
    files_are = same_map nat_list_cmp_total (slice_cmp-IsAntisymmetric nat_cmp-IsAntisymmetric) (files a C) (insert (files a A) name []) each;
  }
