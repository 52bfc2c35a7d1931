-- A file under another name.
use Rattle.iso_fs.proofs.{Words.{◌≡◌, ◌≢◌, ◌∙◌, sym, refl, ap, subst, ℕ, ◌+◌, ◌≤◌, ◌==◌, Bool, true, false, cond, List, length, take, Option, Some, None, option_map, Ok, arith, inl, inr, list_all, get, get-remove, insert, remove, same_map, slice_cmp-IsAntisymmetric, nat_cmp-IsAntisymmetric, nat_list_cmp_total, and_parts, cases_Bool, nat_tests, Array, own, is_zero, map_bit, is_key, is_value, Pairs, block_at, accesses_of, answer_of, del_program, put_program, IsTreeRegion, tree_map, del_correct, put_correct, FileAreas, is_file, is_number, number_of, AreFileAreas, AreFileRegions, Uses, block_in, content, file_at, files, number_at, in_area, kept_outside, del_program_stores, put_program_stores}, Changes.HasFiles, Kept.same_bytes_by, Lookups.{files_get, insert_get, name_is, name_other, name_self, names_by, same_name, no_some}}

pub remove_get : (m : Pairs) (name q : List ℕ) → get (remove m name) q ≡ cond (same_name q name) None (get m q)
remove_get m name q = get-remove nat_list_cmp_total m name q

pub short_value : (a : FileAreas) (value : List ℕ) → is_number a.files value ≡ true → is_value value ≡ true
short_value a value is = let four = (and_parts (length value == 4) (Rattle.store_model.specs.FileNodes.is_handed a.files.blocks (number_of value)) is).0 in grind (arith, nat_tests)

same_value : (v w : List ℕ) → ◌≡◌ {A = Option (List ℕ)} (Some v) (Some w) → v ≡ w
same_value v w e = cc

module _ (a : FileAreas) (areas : AreFileAreas a) (A : Array) (regions : AreFileRegions a A) (old new : List ℕ) (old_key : is_key old ≡ true) (new_key : is_key new ≡ true)
    (value : List ℕ) (there : get (tree_map a.tree A) old ≡ Some value) (free : get (tree_map a.tree A) new ≡ None)
    (u : Unit {0}) (put_ok : answer_of (put_program a.tree new value) A ≡ Ok u)
    (r : Bool) (del_ok : answer_of (del_program a.tree old) (own A (accesses_of (put_program a.tree new value) A)) ≡ Ok r) where
  abbrev start : ℕ
  start = a.files.start

  abbrev B : Array
  B = own A (accesses_of (put_program a.tree new value) A)

  abbrev C : Array
  C = own B (accesses_of (del_program a.tree old) B)

  zero_start : start + 0 ≡ start
  zero_start = omega arith

  good : is_number a.files value ≡ true
  good = regions.named old value there

  region_B : IsTreeRegion a.tree B
  region_B = (put_correct a.tree new value areas.tree new_key (short_value a value good)).well_formed A u regions.tree put_ok

  map_B : tree_map a.tree B ≡ insert (tree_map a.tree A) new value
  map_B = (put_correct a.tree new value areas.tree new_key (short_value a value good)).maps A u regions.tree put_ok

  region_C : IsTreeRegion a.tree C
  region_C = (del_correct a.tree old areas.tree old_key).well_formed B r region_B del_ok

  map_C : tree_map a.tree C ≡ remove (insert (tree_map a.tree A) new value) old
  map_C = (del_correct a.tree old areas.tree old_key).maps B r region_B del_ok ∙ ap (λ m. remove m old) map_B

  file_out : (j : ℕ) → in_area a.tree (start + j) ≡ false
  file_out j = let f = areas.follows in grind (arith, nat_tests)

  file_C : (j : ℕ) → file_at a C j ≡ file_at a A j
  file_C j = grind (arith, kept_outside, del_program_stores, file_out, put_program_stores) steps 100000

  first_C : block_at C start ≡ block_at A start
  first_C = ap (block_at C) (sym zero_start) ∙ file_C 0 ∙ ap (block_at A) zero_start

  -- THE NAMES
  get_C : (q : List ℕ) → get (tree_map a.tree C) q ≡ cond (same_name q old) None (cond (same_name q new) (Some value) (get (tree_map a.tree A) q))
  get_C q = ap (λ m. get m q) map_C ∙ remove_get (insert (tree_map a.tree A) new value) old q ∙ ap (cond (same_name q old) None) (insert_get (tree_map a.tree A) new value q)

  abbrev was : List ℕ → List ℕ
  was q = cond (same_name q new) old q

  new_is_not_old : same_name new old ≡ false
  new_is_not_old = name_other new old (λ e. no_some value (sym free ∙ ap (get (tree_map a.tree A)) e ∙ there))

  -- a name that has a value is not the old one, and had it, perhaps under that one
  record HasCome (q v : List ℕ) : Type 0 where
    other : same_name q old ≡ false
    before : get (tree_map a.tree A) (was q) ≡ Some v

  come : (q v : List ℕ) → get (tree_map a.tree C) q ≡ Some v → HasCome q v
  come q v e = grind (arith, no_some, get, get_C) steps 100000

  -- and a name that had it still does, perhaps under the new one
  abbrev now : List ℕ → List ℕ
  now p = cond (same_name p old) new p

  goes : (p v : List ℕ) → get (tree_map a.tree A) p ≡ Some v → get (tree_map a.tree C) (now p) ≡ Some v
  goes p v e = elim (cases_Bool (same_name p old)) [
    | inl is ↦
        ap (λ (t : Bool). get (tree_map a.tree C) (cond t new p)) is ∙ get_C new
        ∙ (λ i. cond (new_is_not_old i) None (cond (name_self new i) (Some value) (get (tree_map a.tree A) new)))
        ∙ sym there ∙ ap (get (tree_map a.tree A)) (sym (name_is p old is)) ∙ e
    | inr other ↦
        (let fresh : same_name p new ≡ false = name_other p new (λ s. no_some v (sym free ∙ ap (get (tree_map a.tree A)) (sym s) ∙ e)) in
        ap (λ (t : Bool). get (tree_map a.tree C) (cond t new p)) other ∙ get_C p
        ∙ (λ i. cond (other i) None (cond (fresh i) (Some value) (get (tree_map a.tree A) p))) ∙ e)
  ]

  -- WHO USES WHAT
  number_was : (q : List ℕ) (n : ℕ) → number_at a C q ≡ Some n → number_at a A (was q) ≡ Some n
  number_was q n e =
      let by = names_by (get (tree_map a.tree C) q) n e in
      ap (option_map number_of) (come q by.value by.is).before ∙ ap (λ (k : ℕ). Some k) by.number_is

  number_now : (p : List ℕ) (n : ℕ) → number_at a A p ≡ Some n → number_at a C (now p) ≡ Some n
  number_now p n e =
      let by = names_by (get (tree_map a.tree A) p) n e in
      ap (option_map number_of) (goes p by.value by.is) ∙ ap (λ (k : ℕ). Some k) by.number_is

  used_before : (q : List ℕ) (place block : ℕ) → Uses a C q place block → Uses a A (was q) place block
  used_before q place block uses = record {
    number = uses.number;
    named = number_was q uses.number uses.named;
    inside = subst (λ (f : List ℕ). place ≤ Rattle.store_model.specs.FileNodes.data_count a.files.size f) (file_C uses.number) uses.inside;
    is = ap (λ (f : List ℕ). block_in uses.number f place) (sym (file_C uses.number)) ∙ uses.is;
  }

  used_now : (p : List ℕ) (place block : ℕ) → Uses a A p place block → Uses a C (now p) place block
  used_now p place block uses = record {
    number = uses.number;
    named = number_now p uses.number uses.named;
    inside = subst (λ (f : List ℕ). place ≤ Rattle.store_model.specs.FileNodes.data_count a.files.size f) (sym (file_C uses.number)) uses.inside;
    is = ap (λ (f : List ℕ). block_in uses.number f place) (file_C uses.number) ∙ uses.is;
  }

  not_old : (q : List ℕ) (place block : ℕ) → Uses a C q place block → q ≢ old
  not_old q place block uses is = grind (arith, names_by, get, come, name_self) steps 100000

  -- two names that were one are one
  were_one : (p q : List ℕ) → p ≢ old → q ≢ old → was p ≡ was q → p ≡ q
  were_one p q one two same = elim (cases_Bool (same_name p new)) [
    | inl is ↦ elim (cases_Bool (same_name q new)) [
      | inl also ↦ name_is p new is ∙ sym (name_is q new also)
      | inr not ↦ absurd (two (ap (λ (t : Bool). cond t old q) (sym not) ∙ sym same ∙ ap (λ (t : Bool). cond t old p) is))
    ]
    | inr not ↦ elim (cases_Bool (same_name q new)) [
      | inl is ↦ absurd (one (ap (λ (t : Bool). cond t old p) (sym not) ∙ same ∙ ap (λ (t : Bool). cond t old q) is))
      | inr also ↦ ap (λ (t : Bool). cond t old p) (sym not) ∙ same ∙ ap (λ (t : Bool). cond t old q) also
    ]
  ]

  regions_C : AreFileRegions a C
  regions_C = record {
    tree = region_C;
    shape = λ k below. ap length (file_C k) ∙ regions.shape k below;
    named = λ q v e. regions.named (was q) v (come q v e).before;
    files = λ q n e. ap (is_file a.files) (file_C n) ∙ regions.files (was q) n (number_was q n e);
    apart = λ p q i j k one two.
        let both = regions.apart (was p) (was q) i j k (used_before p i k one) (used_before q j k two) in
        (were_one p q (not_old p i k one) (not_old q j k two) both.0, both.1);
    bits = λ k below.
        let bit = regions.bits k below in (
          λ set.
              let used = bit.0 (ap (λ (m : List ℕ). map_bit m k) (sym first_C) ∙ set) in
              record { name = now used.name; place = used.place; uses = used_now used.name used.place k used.uses },
          λ used.
              ap (λ (m : List ℕ). map_bit m k) first_C ∙ bit.1 (record { name = was used.name; place = used.place; uses = used_before used.name used.place k used.uses }),
        );
    head = ap (λ (m : List ℕ). list_all is_zero (take 64 m)) first_C ∙ regions.head;
  }

  -- THE FILES
  same_content : (n : ℕ) → content a C n ≡ content a A n
  same_content n = grind (arith, file_C, same_bytes_by) steps 100000

  same_found : (o : Option (List ℕ)) → option_map (λ v. content a C (number_of v)) o ≡ option_map (λ v. content a A (number_of v)) o
  same_found None = refl
  same_found (Some v) = ap (λ (bytes : List ℕ). Some bytes) (same_content (number_of v))

  abbrev f : List ℕ → List ℕ
  f v = content a A (number_of v)

  mapped : (x y : Bool) (o : Option (List ℕ)) → option_map f (cond x None (cond y (Some value) o)) ≡ cond x None (cond y (Some (f value)) (option_map f o))
  mapped true y o = refl
  mapped false true o = refl
  mapped false false o = refl

  each : (q : List ℕ) → get (files a C) q ≡ get (remove (insert (files a A) new (f value)) old) q
  each q =
      files_get a C q ∙ same_found (get (tree_map a.tree C) q) ∙ ap (option_map f) (get_C q) ∙ mapped (same_name q old) (same_name q new) (get (tree_map a.tree A) q)
      ∙ ap (λ (o : Option (List ℕ)). cond (same_name q old) None (cond (same_name q new) (Some (f value)) o)) (sym (files_get a A q))
      ∙ sym (remove_get (insert (files a A) new (f value)) old q ∙ ap (cond (same_name q old) None) (insert_get (files a A) new (f value) q))

  pub renamed : HasFiles a (remove (insert (files a A) new (content a A (number_of value))) old) C
  renamed = record {
    regions = regions_C;
    files_are = same_map nat_list_cmp_total (slice_cmp-IsAntisymmetric nat_cmp-IsAntisymmetric) (files a C) (remove (insert (files a A) new (f value)) old) each;
  }
