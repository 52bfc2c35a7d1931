-- A file that is removed.
use Rattle.iso_fs.proofs.{Words.{◌≡◌, ◌∙◌, sym, refl, ap, subst, ℕ, zero, suc, ◌+◌, ◌*◌, ◌%◌, ◌<◌, ◌≤◌, ◌==◌, Bool, true, false, cond, List, [], ◌∷◌, length, get_or, take, map, Option, Some, None, option_map, Ok, arith, inl, inr, list_all, range_with_len, get, remove, same_map, slice_cmp-IsAntisymmetric, nat_cmp-IsAntisymmetric, nat_list_cmp_total, both_ways, cases_Bool, nat_tests, get_or-take, length-take-le, Access, Span, Array, in_span, merged, put, own, block_with, is_zero, bit_place, map_bit, map_bytes, map_mark, is_key, IsIn, block_at, accesses_of, answer_of, bytes_in, store_access, del_program, IsTreeRegion, tree_map, length-block_own, length-block_put, other_block, written_block, del_correct, kept_1, FileAreas, data_count, entries_of, entry_at, is_file, number_of, bits_mark, AreFileAreas, AreFileRegions, IsUsed, Uses, content, file_at, files, number_at, in_area, kept_outside, map_new, region_new, del_program_stores}, Changes.HasFiles, Files.uses_handed, Kept.{kept_content, kept_uses, still_uses}, Lookups.{files_get, name_is, name_self, names_by, same_name, no_some, same_some}, MapLaid.{bits_left, high_below, high_is, laid_as, length-without, low_is, low_least, without_other}, Renames.remove_get}
use Rattle.store_model.specs.FileCalls as calls

-- a number of a list that is made of a range
pub in_range_map : (f : ℕ → ℕ) (from n x : ℕ) → IsIn x (map f (range_with_len from n)) → (i : ℕ) × (from ≤ i) × (i < from + n) × (f i ≡ x)
in_range_map f from zero x is = absurd is
in_range_map f from (suc n) x is = elim is [
  | inl here ↦ (from, omega arith, omega arith, here)
  | inr later ↦ (let more = in_range_map f (from + 1) n x later in (more.0, (let l = more.1 in omega arith), (let h = more.2 in omega arith), more.3))
]

pub range_map_in : (f : ℕ → ℕ) (from n i : ℕ) → from ≤ i → i < from + n → IsIn (f i) (map f (range_with_len from n))
range_map_in f from zero i low high = absurd (omega arith)
range_map_in f from (suc n) i low high = elim (Rattle.std.proofs.lemmas.Bool.cases_eq from i) [
  | inl here ↦ inl (ap f here)
  | inr other ↦ inr (range_map_in f (from + 1) n i (omega arith) (omega arith))
]

module _ (a : FileAreas) (areas : AreFileAreas a) (A : Array) (regions : AreFileRegions a A) (name : List ℕ) (key : is_key name ≡ true) (value : List ℕ) (there : get (tree_map a.tree A) name ≡ Some value)
    (r : Bool) (ok : answer_of (del_program a.tree name) A ≡ Ok r) where
  abbrev number : ℕ
  number = number_of value

  abbrev file : List ℕ
  file = file_at a A number

  abbrev entries : List ℕ
  entries = entries_of a.files.size file

  abbrev F : List ℕ
  F = block_at A a.files.start

  abbrev first : List ℕ
  first = bytes_in (map_mark a.files.blocks) F

  abbrev U : List ℕ
  U = calls.without_bits first (number ∷ entries)

  abbrev m : Span
  m = bits_mark number entries

  abbrev w : Access
  w = store_access a.files.start (m ∷ []) (block_with a.files.size m.off (bytes_in m U))

  abbrev B : Array
  B = own A (accesses_of (del_program a.tree name) A)

  abbrev C : Array
  C = put B w

  named : number_at a A name ≡ Some number
  named = ap (option_map number_of) there

  zero_start : a.files.start + 0 ≡ a.files.start
  zero_start = omega arith

  size_some : 256 ≤ a.files.size
  size_some = let s = areas.size in let l = areas.tree.least_size in omega arith

  -- the blocks of the file
  to_use : (j : ℕ) → IsIn j (number ∷ entries) → (place : ℕ) × Uses a A name place j
  to_use j is = elim is [
    | inl here ↦ (0, record { number = number; named = named; inside = omega arith; is = here })
    | inr later ↦
        (let at = in_range_map (entry_at file) 0 (data_count a.files.size file) j later in
        (suc at.0, record { number = number; named = named; inside = (let h = at.2 in omega arith); is = at.3 }))
  ]

  from_use : (place j : ℕ) → Uses a A name place j → IsIn j (number ∷ entries)
  from_use zero j uses = inl (same_some number uses.number (sym named ∙ uses.named) ∙ uses.is)
  from_use (suc i) j uses =
      let same : uses.number ≡ number = same_some uses.number number (sym uses.named ∙ named) in
      let inside : suc i ≤ data_count a.files.size file = subst (λ (n : ℕ). suc i ≤ data_count a.files.size (file_at a A n)) same uses.inside in
      let is : entry_at file i ≡ j = ap (λ (n : ℕ). entry_at (file_at a A n) i) (sym same) ∙ uses.is in
      inr (subst (λ (x : ℕ). IsIn x entries) is (range_map_in (entry_at file) 0 (data_count a.files.size file) i (omega arith) (omega arith)))

  below : (j : ℕ) → IsIn j (number ∷ entries) → j < a.files.blocks
  below j is = let found = to_use j is in (uses_handed a A regions name found.0 j found.1).below

  -- THE TREE
  region_B : IsTreeRegion a.tree B
  region_B = (del_correct a.tree name areas.tree key).well_formed A r regions.tree ok

  map_B : tree_map a.tree B ≡ remove (tree_map a.tree A) name
  map_B = (del_correct a.tree name areas.tree key).maps A r regions.tree ok

  file_out : (j : ℕ) → in_area a.tree (a.files.start + j) ≡ false
  file_out j = let f = areas.follows in grind (arith, nat_tests)

  start_out : in_area a.tree a.files.start ≡ false
  start_out = ap (in_area a.tree) (sym zero_start) ∙ file_out 0

  file_B : (j : ℕ) → file_at a B j ≡ file_at a A j
  file_B j = kept_outside (in_area a.tree) (del_program a.tree name) A (a.files.start + j) (del_program_stores a.tree name) (file_out j)

  first_B : block_at B a.files.start ≡ F
  first_B = ap (block_at B) (sym zero_start) ∙ file_B 0 ∙ ap (block_at A) zero_start

  tree_C : (b : ℕ) → in_area a.tree b ≡ true → block_at C b ≡ block_at B b
  tree_C b inside = other_block B w b (λ e. both_ways (in_area a.tree b) (ap (in_area a.tree) e ∙ start_out) inside)

  region_C : IsTreeRegion a.tree C
  region_C = region_new a.tree B C areas.tree tree_C region_B

  map_C : tree_map a.tree C ≡ remove (tree_map a.tree A) name
  map_C = map_new a.tree B C areas.tree tree_C region_B ∙ map_B

  -- THE BLOCKS OF THE FILE REGION
  other_C : (j : ℕ) → 1 ≤ j → file_at a C j ≡ file_at a A j
  other_C j some = other_block B w (a.files.start + j) (λ e. absurd (omega arith)) ∙ file_B j

  first_long : length F ≡ a.files.size
  first_long = ap (λ (b : ℕ). length (block_at A b)) (sym zero_start) ∙ regions.shape 0 (let l = areas.least in omega arith)

  room : 64 + map_bytes a.files.blocks ≤ a.files.size
  room = let x = areas.most in let s = size_some in omega arith

  first_size : length first ≡ 64 + map_bytes a.files.blocks
  first_size = length-take-le (64 + map_bytes a.files.blocks) F (let x = room in omega (arith, first_long))

  U_long : length U ≡ 64 + map_bytes a.files.blocks
  U_long = length-without first (number ∷ entries) ∙ first_size

  place_inside : (j : ℕ) → IsIn j (number ∷ entries) → bit_place j < 64 + map_bytes a.files.blocks
  place_inside j is = let b = below j is in omega arith

  m_fits : m.off + m.len ≤ 64 + map_bytes a.files.blocks
  m_fits =
      let high = high_below number entries (64 + map_bytes a.files.blocks) place_inside in
      let l = low_is number entries number (inl refl) in
      let h = high_is number entries number (inl refl) in
      omega arith

  outside_same : (p : ℕ) → in_span p m ≡ false → p < length U → get_or F p 0 ≡ get_or U p 0
  outside_same p out inside =
      sym (get_or-take (64 + map_bytes a.files.blocks) F p 0 (omega (arith, U_long)))
      ∙ sym (without_other first (number ∷ entries) p (λ j is e.
      let l = low_is number entries j is in
      let h = high_is number entries j is in
      let has : in_span p m ≡ true = grind (arith, nat_tests) in
      both_ways (in_span p m) out has))

  first_C : block_at C a.files.start ≡ merged (m ∷ []) 0 F (block_with a.files.size m.off (bytes_in m U))
  first_C = written_block B w ∙ ap (λ (old : List ℕ). merged (m ∷ []) 0 old (block_with a.files.size m.off (bytes_in m U))) first_B

  byte_C : (p : ℕ) → p < length U → get_or (block_at C a.files.start) p 0 ≡ get_or U p 0
  byte_C p inside =
      ap (λ (b : List ℕ). get_or b p 0) first_C
      ∙ laid_as a.files.size F U m first_long (let x = m_fits in omega (arith, U_long)) (let x = m_fits in let y = room in omega arith) outside_same p inside

  bit_C : (k : ℕ) → k < 8 * map_bytes a.files.blocks → map_bit (block_at C a.files.start) k ≡ map_bit U k
  bit_C k low = ap (λ (x : ℕ). Rattle.std.specs.Int.bit_at x (k % 8) == 1) (byte_C (bit_place k) (omega (arith, U_long)))

  bit_first : (k : ℕ) → k < 8 * map_bytes a.files.blocks → map_bit first k ≡ map_bit F k
  bit_first k low = ap (λ (x : ℕ). Rattle.std.specs.Int.bit_at x (k % 8) == 1) (get_or-take (64 + map_bytes a.files.blocks) F (bit_place k) 0 (omega arith))

  -- THE NAMES
  get_C : (q : List ℕ) → get (tree_map a.tree C) q ≡ cond (same_name q name) None (get (tree_map a.tree A) q)
  get_C q = ap (λ t. get t q) map_C ∙ remove_get (tree_map a.tree A) name q

  record HasStayed (q v : List ℕ) : Type 0 where
    other : same_name q name ≡ false
    before : get (tree_map a.tree A) q ≡ Some v

  stayed : (q v : List ℕ) → get (tree_map a.tree C) q ≡ Some v → HasStayed q v
  stayed q v e = grind (arith, no_some, get, get_C) steps 100000

  number_was : (q : List ℕ) (n : ℕ) → number_at a C q ≡ Some n → number_at a A q ≡ Some n
  number_was q n e =
      let by = names_by (get (tree_map a.tree C) q) n e in
      ap (option_map number_of) (stayed q by.value by.is).before ∙ ap (λ (k : ℕ). Some k) by.number_is

  number_now : (q : List ℕ) (n : ℕ) → same_name q name ≡ false → number_at a A q ≡ Some n → number_at a C q ≡ Some n
  number_now q n other e = ap (option_map number_of) (get_C q) ∙ ap (λ (t : Bool). option_map number_of (cond t None (get (tree_map a.tree A) q))) other ∙ e

  kept : (q : List ℕ) (place block : ℕ) → Uses a A q place block → file_at a C block ≡ file_at a A block
  kept q place block uses = other_C block (uses_handed a A regions q place block uses).some

  used_before : (q : List ℕ) (place block : ℕ) → Uses a C q place block → Uses a A q place block
  used_before q place block uses = kept_uses a A C q uses.number (number_was q uses.number uses.named) uses.named (kept q) place block uses

  is_other : (q : List ℕ) (place block : ℕ) → Uses a C q place block → same_name q name ≡ false
  is_other q place block uses = let by = names_by (get (tree_map a.tree C) q) uses.number uses.named in (stayed q by.value by.is).other

  used_now : (q : List ℕ) (place block : ℕ) → same_name q name ≡ false → Uses a A q place block → Uses a C q place block
  used_now q place block other uses = still_uses a A C q uses.number uses.named (number_now q uses.number other uses.named) (kept q) place block uses

  bits_C : (k : ℕ) → k < 8 * map_bytes a.files.blocks → map_bit (block_at C a.files.start) k ≡ true → IsUsed a C k
  bits_C k low set =
      let left = bits_left first (number ∷ entries) (λ j is. omega (arith, place_inside j is, first_size)) k in
      let both = left.0 (sym (bit_C k low) ∙ set) in
      let used = (regions.bits k low).0 (sym (bit_first k low) ∙ both.1) in
      elim (cases_Bool (same_name used.name name)) [
        | inl is ↦ absurd (both.0 (from_use used.place k (subst (λ (n : List ℕ). Uses a A n used.place k) (name_is used.name name is) used.uses)))
        | inr other ↦ record { name = used.name; place = used.place; uses = used_now used.name used.place k other used.uses }
      ]

  set_C : (k : ℕ) → k < 8 * map_bytes a.files.blocks → IsUsed a C k → map_bit (block_at C a.files.start) k ≡ true
  set_C k low used =
      let left = bits_left first (number ∷ entries) (λ j is. omega (arith, place_inside j is, first_size)) k in
      let was = used_before used.name used.place k used.uses in
      let set : map_bit first k ≡ true = bit_first k low ∙ (regions.bits k low).1 (record { name = used.name; place = used.place; uses = was }) in
      bit_C k low
      ∙ left.1 (
        λ is.
            let found = to_use k is in
            both_ways (same_name used.name name) (is_other used.name used.place k used.uses) (ap (λ (n : List ℕ). same_name n name) ((regions.apart used.name name used.place found.0 k was found.1).0) ∙ name_self name),
        set,
      )

  head_C : list_all is_zero (take 64 (block_at C a.files.start)) ≡ true
  head_C =
      let low = low_least number entries in
      ap (λ (b : List ℕ). list_all is_zero (take 64 b)) first_C
      ∙ ap (list_all is_zero) (kept_1 (record { off = 0; len = 64 }) m F (block_with a.files.size m.off (bytes_in m U)) (inl (omega arith))) ∙ regions.head

  regions_C : AreFileRegions a C
  regions_C = record {
    tree = region_C;
    shape = λ k inside. length-block_put B w (a.files.start + k) ∙ length-block_own A (accesses_of (del_program a.tree name) A) (a.files.start + k) ∙ regions.shape k inside;
    named = λ q v e. regions.named q v (stayed q v e).before;
    files = λ q n e.
        let was = number_was q n e in
        ap (is_file a.files) (kept q 0 n (record { number = n; named = was; inside = omega arith; is = refl })) ∙ regions.files q n was;
    apart = λ p q i j k one two. regions.apart p q i j k (used_before p i k one) (used_before q j k two);
    bits = λ k inside. (bits_C k inside, set_C k inside);
    head = head_C;
  }

  -- THE FILES
  some_same : (q : List ℕ) → same_name q name ≡ false → (o : Option (List ℕ)) → get (tree_map a.tree A) q ≡ o
      → option_map (λ v. content a C (number_of v)) o ≡ option_map (λ v. content a A (number_of v)) o
  some_same q other None e = refl
  some_same q other (Some v) e =
      let was : number_at a A q ≡ Some (number_of v) = ap (option_map number_of) e in
      ap (λ (bytes : List ℕ). Some bytes) (kept_content a A C q (number_of v) was (number_now q (number_of v) other was) (kept q) (let s = size_some in omega arith))

  each : (q : List ℕ) → get (files a C) q ≡ get (remove (files a A) name) q
  each q = files_get a C q ∙ ap (option_map (λ v. content a C (number_of v))) (get_C q) ∙ elim (cases_Bool (same_name q name)) [
    | inl is ↦
        ap (λ (t : Bool). option_map (λ v. content a C (number_of v)) (cond t None (get (tree_map a.tree A) q))) is
        ∙ sym (remove_get (files a A) name q ∙ ap (λ (t : Bool). cond t None (get (files a A) q)) is)
    | inr other ↦
        ap (λ (t : Bool). option_map (λ v. content a C (number_of v)) (cond t None (get (tree_map a.tree A) q))) other
        ∙ some_same q other (get (tree_map a.tree A) q) refl
        ∙ sym (remove_get (files a A) name q ∙ ap (λ (t : Bool). cond t None (get (files a A) q)) other ∙ files_get a A q)
  ]

  pub removed : HasFiles a (remove (files a A) name) C
  removed = record {
    regions = regions_C;
    files_are = same_map nat_list_cmp_total (slice_cmp-IsAntisymmetric nat_cmp-IsAntisymmetric) (files a C) (remove (files a A) name) each;
  }
