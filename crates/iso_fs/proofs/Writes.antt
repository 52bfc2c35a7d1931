-- A file that is written.
use Rattle.iso_fs.proofs.{Words.{◌≡◌, ◌≢◌, ◌⊎◌, ◌↔◌, ◌∙◌, sym, refl, ap, subst, ℕ, zero, suc, ◌+◌, ◌-◌, ◌*◌, ◌/◌, ◌%◌, ◌<◌, ◌≤◌, Bool, true, false, cond, IsTrue, List, ◌++◌, length, get_or, take, drop, map, nat_le, Option, Some, None, option_map, arith, inl, inr, length-append, list_all, range_with_len, get, insert, same_map, slice_cmp-IsAntisymmetric, nat_cmp-IsAntisymmetric, nat_list_cmp_total, both_ways, cases_Bool, cases_lt, nat_tests, ext_get_or, get_or-append_right, get_or-drop, get_or-take, get_or_append_left, length-drop, length-take-le, get_or-map-range_with_len, length-map-range_with_len, Array, byte_at, own, is_zero, map_bit, map_bytes, IsIn, block_at, accesses_of, IsTreeRegion, tree_map, IsApart, length-block_own, FileAreas, bytes_of, data_count, entries_of, entry_at, is_file, number_of, write_pieces, written, AreFileAreas, AreFileRegions, IsUsed, Uses, content, file_at, file_byte, files, number_at, in_area, map_new, region_new}, Changes.HasFiles, FileBlocks.{apart_places, at_place, place_in}, Files.{IsHanded, count_covers, place_below, uses_handed}, Kept.{kept_content, kept_uses, still_uses}, Lookups.{files_get, insert_get, name_is, name_self, same_name, same_some}, WritePieces.{bytes_behind, bytes_written, others_stay}}

-- These blocks were taken: they were free, and the map has their bits; all else is as before.
pub record HasTaken (a : FileAreas) (A : Array) (news : List ℕ) (X : Array) : Type 0 where
  pub others : (b : ℕ) → b ≢ a.files.start → block_at X b ≡ block_at A b
  pub long : (b : ℕ) → length (block_at X b) ≡ length (block_at A b)
  pub handed : (k : ℕ) → IsIn k news → IsHanded a.files.blocks k
  pub free : (k : ℕ) → IsIn k news → map_bit (block_at A a.files.start) k ≡ false
  pub apart : IsApart news
  pub bits : (j : ℕ) → j < 8 * map_bytes a.files.blocks → IsTrue (map_bit (block_at X a.files.start) j) ↔ (IsIn j news ⊎ IsTrue (map_bit (block_at A a.files.start) j))
  pub head : list_all is_zero (take 64 (block_at X a.files.start)) ≡ true

-- The file block is this one: well formed, of `size` bytes, with these numbers.
pub record HasBlock (a : FileAreas) (X1 X2 : Array) (number size : ℕ) (E : List ℕ) : Type 0 where
  pub others : (b : ℕ) → b ≢ a.files.start + number → block_at X2 b ≡ block_at X1 b
  pub long : (b : ℕ) → length (block_at X2 b) ≡ length (block_at X1 b)
  pub good : is_file a.files (file_at a X2 number) ≡ true
  pub bytes : bytes_of (file_at a X2 number) ≡ size
  pub count : data_count a.files.size (file_at a X2 number) ≡ length E
  pub entries : (i : ℕ) → i < length E → entry_at (file_at a X2 number) i ≡ get_or E i 0

-- a block of the written file
data IsMine (number : ℕ) (E : List ℕ) (place k : ℕ) : Type 0 where
  Head : place ≡ 0 → k ≡ number → IsMine number E place k
  Data : (i : ℕ) → place ≡ suc i → i < length E → get_or E i 0 ≡ k → IsMine number E place k

module _ (a : FileAreas) (areas : AreFileAreas a) (A : Array) (regions : AreFileRegions a A) (name value : List ℕ) (there : get (tree_map a.tree A) name ≡ Some value)
    (news : List ℕ) (X1 : Array) (taken : HasTaken a A news X1) where
  abbrev start : ℕ
  start = a.files.start

  abbrev size : ℕ
  size = a.files.size

  abbrev number : ℕ
  number = number_of value

  abbrev file : List ℕ
  file = file_at a A number

  abbrev before : ℕ
  before = bytes_of file

  abbrev K : ℕ
  K = data_count size file

  abbrev entries : List ℕ
  entries = entries_of size file

  abbrev E : List ℕ
  E = entries ++ news

  abbrev F : List ℕ
  F = block_at A start

  named : number_at a A name ≡ Some number
  named = ap (option_map number_of) there

  size_some : 0 < size
  size_some = let s = areas.size in let l = areas.tree.least_size in omega arith

  -- THE NUMBERS
  pub entries_long : length entries ≡ K
  entries_long = length-map-range_with_len (entry_at file) 0 K

  pub old_entry : (i : ℕ) → i < K → get_or E i 0 ≡ entry_at file i
  old_entry i below =
      get_or_append_left entries news 0 i (omega (arith, entries_long)) ∙ get_or-map-range_with_len (entry_at file) 0 K i i 0 below (omega arith)

  pub new_entry : (i : ℕ) → K ≤ i → get_or E i 0 ≡ get_or news (i - K) 0
  new_entry i past = get_or-append_right entries news K i 0 entries_long past

  pub E_long : length E ≡ K + length news
  E_long = omega (arith, length-append entries news, entries_long)

  -- an old number is that of a block of the file, a new one that of a block that was taken
  pub old_uses : (i : ℕ) → i < K → Uses a A name (suc i) (get_or E i 0)
  old_uses i below = record { number = number; named = named; inside = omega arith; is = sym (old_entry i below) }

  head_uses : Uses a A name 0 number
  head_uses = record { number = number; named = named; inside = omega arith; is = refl }

  pub new_in : (i : ℕ) → K ≤ i → i < length E → IsIn (get_or E i 0) news
  new_in i past below = subst (λ (k : ℕ). IsIn k news) (sym (new_entry i past)) (place_in news (i - K) (omega (arith, E_long)))

  bit_of : (k : ℕ) → k < a.files.blocks → k < 8 * map_bytes a.files.blocks
  bit_of k below = omega arith

  not_used : (k : ℕ) → IsIn k news → (q : List ℕ) (place : ℕ) → Uses a A q place k → ⊥
  not_used k is q place uses = both_ways (map_bit F k) (taken.free k is) ((regions.bits k (bit_of k (taken.handed k is).below)).1 (record { name = q; place = place; uses = uses }))

  pub E_handed : (i : ℕ) → i < length E → IsHanded a.files.blocks (get_or E i 0)
  E_handed i below = elim (cases_lt i K) [
    | inl young ↦ uses_handed a A regions name (suc i) (get_or E i 0) (old_uses i young)
    | inr past ↦ taken.handed (get_or E i 0) (new_in i past below)
  ]

  pub E_not_number : (i : ℕ) → i < length E → get_or E i 0 ≢ number
  E_not_number i below e = elim (cases_lt i K) [
    | inl young ↦ absurd (let same = (regions.apart name name (suc i) 0 number (subst (Uses a A name (suc i)) e (old_uses i young)) head_uses).1 in omega arith)
    | inr past ↦ not_used number (subst (λ (k : ℕ). IsIn k news) e (new_in i past below)) name 0 head_uses
  ]

  pub E_apart : (i j : ℕ) → i < length E → j < length E → get_or E i 0 ≡ get_or E j 0 → i ≡ j
  E_apart i j one two e = elim (cases_lt i K) [
    | inl young ↦ elim (cases_lt j K) [
      | inl also ↦ (let same = (regions.apart name name (suc i) (suc j) (get_or E j 0) (subst (Uses a A name (suc i)) e (old_uses i young)) (old_uses j also)).1 in omega arith)
      | inr past ↦ absurd (not_used (get_or E j 0) (new_in j past two) name (suc i) (subst (Uses a A name (suc i)) e (old_uses i young)))
    ]
    | inr past ↦ elim (cases_lt j K) [
      | inl young ↦ absurd (not_used (get_or E i 0) (new_in i past one) name (suc j) (subst (Uses a A name (suc j)) (sym e) (old_uses j young)))
      | inr also ↦
          (let same = apart_places news taken.apart (i - K) (j - K) (omega (arith, E_long)) (omega (arith, E_long)) (sym (new_entry i past) ∙ e ∙ new_entry j also) in
          omega arith)
    ]
  ]

  -- no other file has one of them
  not_other : (q : List ℕ) (place k : ℕ) → same_name q name ≡ false → Uses a A q place k → (i : ℕ) → i < length E → get_or E i 0 ≢ k
  not_other q place k other uses i below e = elim (cases_lt i K) [
    | inl young ↦
        (let same = (regions.apart q name place (suc i) k uses (subst (Uses a A name (suc i)) e (old_uses i young))).0 in
        both_ways (same_name q name) other (ap (λ (n : List ℕ). same_name n name) same ∙ name_self name))
    | inr past ↦ not_used k (subst (λ (x : ℕ). IsIn x news) e (new_in i past below)) q place uses
  ]

  other_number : (q : List ℕ) (place k : ℕ) → same_name q name ≡ false → Uses a A q place k → k ≢ number
  other_number q place k other uses e =
      both_ways (same_name q name) other (ap (λ (n : List ℕ). same_name n name) ((regions.apart q name place 0 number (subst (Uses a A q place) e uses) head_uses).0) ∙ name_self name)

  module _ (off : ℕ) (bytes : List ℕ) (low : off ≤ bytes_of (file_at a A (number_of value)))
      (after : ℕ) (X2 : Array) (made : HasBlock a X1 X2 (number_of value) after (entries_of a.files.size (file_at a A (number_of value)) ++ news))
      (reach : off + length bytes ≤ after) (keeps : bytes_of (file_at a A (number_of value)) ≤ after) (ends : (after ≡ off + length bytes) ⊎ (after ≡ bytes_of (file_at a A (number_of value)))) where
    abbrev end : ℕ
    end = off + length bytes

    abbrev C : Array
    C = own X2 (accesses_of (write_pieces a.files E K (length bytes) off end bytes) X2)

    -- THE BLOCKS
    end_inside : end ≤ length E * size
    end_inside = grind (arith, count_covers, size_some) steps 100000

    shape_E : (i : ℕ) → i < length E → length (block_at X2 (start + get_or E i 0)) ≡ size
    shape_E i below = made.long (start + get_or E i 0) ∙ taken.long (start + get_or E i 0) ∙ regions.shape (get_or E i 0) (E_handed i below).below

    stay_C : (b : ℕ) → ((i : ℕ) → i < length E → start + get_or E i 0 ≢ b) → block_at C b ≡ block_at X2 b
    stay_C b apart = others_stay a.files E K end size_some end_inside (length bytes) off bytes X2 b (λ i from below. apart i below)

    C_old : (b : ℕ) → ((i : ℕ) → i < length E → start + get_or E i 0 ≢ b) → b ≢ start + number → b ≢ start → block_at C b ≡ block_at A b
    C_old b apart not_number not_start = stay_C b apart ∙ made.others b not_number ∙ taken.others b not_start

    out_of_tree : (b k : ℕ) → in_area a.tree b ≡ true → b ≢ start + k
    out_of_tree b k inside e = let f = areas.follows in let out : in_area a.tree (start + k) ≡ false = grind (arith, nat_tests) in both_ways (in_area a.tree b) (ap (in_area a.tree) e ∙ out) inside

    tree_C : (b : ℕ) → in_area a.tree b ≡ true → block_at C b ≡ block_at A b
    tree_C b inside = C_old b (λ i below e. out_of_tree b (get_or E i 0) inside (sym e)) (out_of_tree b number inside) (λ e. out_of_tree b 0 inside (e ∙ (let z : start ≡ start + 0 = omega arith in z)))

    region_C : IsTreeRegion a.tree C
    region_C = region_new a.tree A C areas.tree tree_C regions.tree

    map_C : tree_map a.tree C ≡ tree_map a.tree A
    map_C = map_new a.tree A C areas.tree tree_C regions.tree

    number_C : (q : List ℕ) → number_at a C q ≡ number_at a A q
    number_C q = ap (λ m. option_map number_of (get m q)) map_C

    handed : IsHanded a.files.blocks number
    handed = uses_handed a A regions name 0 number head_uses

    file_C : file_at a C number ≡ file_at a X2 number
    file_C = stay_C (start + number) (λ i below e. E_not_number i below (omega arith))

    first_C : block_at C start ≡ block_at X1 start
    first_C =
        stay_C start (λ i below e. absurd (let s = (E_handed i below).some in omega arith))
        ∙ made.others start (λ e. absurd (let s = handed.some in omega arith))

    kept : (q : List ℕ) → same_name q name ≡ false → (place k : ℕ) → Uses a A q place k → file_at a C k ≡ file_at a A k
    kept q other place k uses =
        C_old (start + k) (λ i below e. not_other q place k other uses i below (omega arith)) (λ e. other_number q place k other uses (omega arith))
        (λ e. absurd (let s = (uses_handed a A regions q place k uses).some in omega arith))

    -- WHO USES WHAT
    mine : (place k : ℕ) → Uses a C name place k → IsMine number E place k
    mine zero k uses = Head refl (sym uses.is ∙ same_some uses.number number (sym uses.named ∙ number_C name ∙ named))
    mine (suc i) k uses =
        let same : uses.number ≡ number = same_some uses.number number (sym uses.named ∙ number_C name ∙ named) in
        let file_is : file_at a C uses.number ≡ file_at a X2 number = ap (file_at a C) same ∙ file_C in
        let inside : suc i ≤ length E = subst (λ (n : ℕ). suc i ≤ n) (ap (data_count size) file_is ∙ made.count) uses.inside in
        Data i refl (omega arith) (sym (made.entries i (omega arith)) ∙ ap (λ (f : List ℕ). entry_at f i) (sym file_is) ∙ uses.is)

    is_mine : (place k : ℕ) → IsMine number E place k → Uses a C name place k
    is_mine place k (Head at is) = subst (λ (p : ℕ). Uses a C name p k) (sym at) (record { number = number; named = number_C name ∙ named; inside = omega arith; is = sym is })
    is_mine place k (Data i at below is) = subst (λ (p : ℕ). Uses a C name p k) (sym at) (record {
      number = number;
      named = number_C name ∙ named;
      inside = subst (λ (n : ℕ). suc i ≤ n) (sym (ap (data_count size) file_C ∙ made.count)) (omega arith);
      is = ap (λ (f : List ℕ). entry_at f i) file_C ∙ made.entries i below ∙ is;
    })

    mine_apart : (p q k : ℕ) → IsMine number E p k → IsMine number E q k → p ≡ q
    mine_apart p q k (Head at is) (Head also too) = at ∙ sym also
    mine_apart p q k (Head at is) (Data j also below too) = absurd (E_not_number j below (too ∙ is))
    mine_apart p q k (Data i at below is) (Head also too) = absurd (E_not_number i below (is ∙ too))
    mine_apart p q k (Data i at one is) (Data j also two too) = at ∙ ap suc (E_apart i j one two (is ∙ sym too)) ∙ sym also

    mine_not_other : (q : List ℕ) (p place k : ℕ) → same_name q name ≡ false → Uses a A q place k → IsMine number E p k → ⊥
    mine_not_other q p place k other uses (Head at is) = other_number q place k other uses is
    mine_not_other q p place k other uses (Data i at below is) = not_other q place k other uses i below is

    was : (q : List ℕ) (place k : ℕ) → same_name q name ≡ false → Uses a C q place k → Uses a A q place k
    was q place k other uses = kept_uses a A C q uses.number (sym (number_C q) ∙ uses.named) uses.named (kept q other) place k uses

    still : (q : List ℕ) (place k : ℕ) → same_name q name ≡ false → Uses a A q place k → Uses a C q place k
    still q place k other uses = still_uses a A C q uses.number uses.named (number_C q ∙ uses.named) (kept q other) place k uses

    as_name : (q : List ℕ) (place k : ℕ) → same_name q name ≡ true → Uses a C q place k → IsMine number E place k
    as_name q place k same uses = mine place k (subst (λ (n : List ℕ). Uses a C n place k) (name_is q name same) uses)

    apart_C : (p q : List ℕ) (i j k : ℕ) → Uses a C p i k → Uses a C q j k → (p ≡ q) × (i ≡ j)
    apart_C p q i j k one two = elim (cases_Bool (same_name p name)) [
      | inl is ↦ elim (cases_Bool (same_name q name)) [
        | inl also ↦ (name_is p name is ∙ sym (name_is q name also), mine_apart i j k (as_name p i k is one) (as_name q j k also two))
        | inr other ↦ absurd (mine_not_other q i j k other (was q j k other two) (as_name p i k is one))
      ]
      | inr other ↦ elim (cases_Bool (same_name q name)) [
        | inl is ↦ absurd (mine_not_other p j i k other (was p i k other one) (as_name q j k is two))
        | inr also ↦ regions.apart p q i j k (was p i k other one) (was q j k also two)
      ]
    ]

    -- the blocks that the file had are its own still
    had : (place k : ℕ) → Uses a A name place k → IsMine number E place k
    had zero k uses = Head refl (sym uses.is ∙ same_some uses.number number (sym uses.named ∙ named))
    had (suc i) k uses =
        let same : uses.number ≡ number = same_some uses.number number (sym uses.named ∙ named) in
        let inside : suc i ≤ K = subst (λ (n : ℕ). suc i ≤ data_count size (file_at a A n)) same uses.inside in
        Data i refl (omega (arith, E_long)) (old_entry i (omega arith) ∙ ap (λ (n : ℕ). entry_at (file_at a A n) i) (sym same) ∙ uses.is)

    used_C : (j : ℕ) → j < 8 * map_bytes a.files.blocks → map_bit (block_at C start) j ≡ true → IsUsed a C j
    used_C j below set = elim ((taken.bits j below).0 (ap (λ (m : List ℕ). map_bit m j) (sym first_C) ∙ set)) [
      | inl new ↦
          (let at = at_place news j new in
          let e : K + at.0 - K ≡ at.0 = omega arith in
          record {
            name = name;
            place = suc (K + at.0);
            uses = is_mine (suc (K + at.0)) j
                (Data (K + at.0) refl (let l = at.1 in omega (arith, E_long)) (new_entry (K + at.0) (omega arith) ∙ ap (λ (n : ℕ). get_or news n 0) e ∙ at.2));
          })
      | inr old ↦
          (let used = (regions.bits j below).0 old in
          elim (cases_Bool (same_name used.name name)) [
            | inl is ↦ record { name = name; place = used.place; uses = is_mine used.place j (had used.place j (subst (λ (n : List ℕ). Uses a A n used.place j) (name_is used.name name is) used.uses)) }
            | inr other ↦ record { name = used.name; place = used.place; uses = still used.name used.place j other used.uses }
          ])
    ]

    mine_set : (place j : ℕ) → j < 8 * map_bytes a.files.blocks → IsMine number E place j → IsIn j news ⊎ IsTrue (map_bit F j)
    mine_set place j below (Head at is) = inr ((regions.bits j below).1 (record { name = name; place = 0; uses = subst (Uses a A name 0) (sym is) head_uses }))
    mine_set place j below (Data i at inside is) = elim (cases_lt i K) [
      | inl young ↦ inr ((regions.bits j below).1 (record { name = name; place = suc i; uses = subst (Uses a A name (suc i)) is (old_uses i young) }))
      | inr past ↦ inl (subst (λ (k : ℕ). IsIn k news) is (new_in i past inside))
    ]

    set_C : (j : ℕ) → j < 8 * map_bytes a.files.blocks → IsUsed a C j → map_bit (block_at C start) j ≡ true
    set_C j below used = ap (λ (m : List ℕ). map_bit m j) first_C ∙ (taken.bits j below).1 (elim (cases_Bool (same_name used.name name)) [
      | inl is ↦ mine_set used.place j below (as_name used.name used.place j is used.uses)
      | inr other ↦ inr ((regions.bits j below).1 (record { name = used.name; place = used.place; uses = was used.name used.place j other used.uses }))
    ])

    files_C : (q : List ℕ) (n : ℕ) → number_at a C q ≡ Some n → is_file a.files (file_at a C n) ≡ true
    files_C q n e = elim (cases_Bool (same_name q name)) [
      | inl is ↦
          (let same : n ≡ number = same_some n number (sym e ∙ ap (number_at a C) (name_is q name is) ∙ number_C name ∙ named) in
          ap (λ (k : ℕ). is_file a.files (file_at a C k)) same ∙ ap (is_file a.files) file_C ∙ made.good)
      | inr other ↦
          (let old : number_at a A q ≡ Some n = sym (number_C q) ∙ e in
          ap (is_file a.files) (kept q other 0 n (record { number = n; named = old; inside = omega arith; is = refl })) ∙ regions.files q n old)
    ]

    regions_C : AreFileRegions a C
    regions_C = record {
      tree = region_C;
      shape = λ k below. length-block_own X2 (accesses_of (write_pieces a.files E K (length bytes) off end bytes) X2) (start + k) ∙ made.long (start + k) ∙ taken.long (start + k) ∙ regions.shape k below;
      named = λ q v e. regions.named q v (ap (λ m. get m q) (sym map_C) ∙ e);
      files = files_C;
      apart = apart_C;
      bits = λ j below. (used_C j below, set_C j below);
      head = ap (λ (m : List ℕ). list_all is_zero (take 64 m)) first_C ∙ taken.head;
    }

    -- THE BYTES
    abbrev old : List ℕ
    old = content a A number

    old_long : length old ≡ before
    old_long = length-map-range_with_len (file_byte a A file) 0 before

    old_at : (p : ℕ) → p < before → get_or old p 0 ≡ file_byte a A file p
    old_at p below = get_or-map-range_with_len (file_byte a A file) 0 before p p 0 below (omega arith)

    head_long : length (take off old) ≡ off
    head_long = length-take-le off old (omega (arith, old_long))

    now_long : length (written off bytes old) ≡ after
    now_long =
        let sum : length (written off bytes old) ≡ off + (length bytes + (before - end)) = omega (arith, length-append (take off old) (bytes ++ drop end old), length-append bytes (drop end old), length-drop end old, head_long, old_long) in
        elim ends [ inl is ↦ (let k = keeps in omega arith) | inr is ↦ (let r = reach in omega arith) ]

    place_E : (p : ℕ) → p < after → p / size < length E
    place_E p below =
        let count = sym made.count ∙ ap (λ (n : ℕ). Rattle.store_model.specs.FileNodes.blocks_for size n) made.bytes in
        let inside = place_below size after p size_some below in
        omega arith

    -- a byte of a block of the file, as it was
    byte_old : (p : ℕ) → p < before → byte_at X2 (start + get_or E (p / size) 0) (p % size) ≡ get_or old p 0
    byte_old p below =
        let young : p / size < K = place_below size before p size_some below in
        let inside : p / size < length E = omega (arith, E_long) in
        ap (λ (b : List ℕ). get_or b (p % size) 0)
        (made.others (start + get_or E (p / size) 0) (λ e. E_not_number (p / size) inside (omega arith))
        ∙ taken.others (start + get_or E (p / size) 0) (λ e. absurd (let s = (E_handed (p / size) inside).some in omega arith)))
        ∙ ap (λ (k : ℕ). byte_at A (start + k) (p % size)) (old_entry (p / size) young) ∙ sym (old_at p below)

    -- and as it is written
    byte_now : (p : ℕ) → p < after → byte_at C (start + get_or E (p / size) 0) (p % size) ≡ get_or (written off bytes old) p 0
    byte_now p below = elim (cases_lt p end) [
      | inl within ↦
          (let left : length bytes ≡ end - off = omega arith in
          let make = bytes_written a.files E K end size_some end_inside E_apart (length bytes) off bytes X2 (omega arith) (omega arith) left shape_E p within in
          elim (cases_lt p off) [
            | inl early ↦
                (let test : nat_le off p ≡ false = grind (arith, nat_tests) in
                make (inr (inl (place_below size before p size_some (omega arith))))
                ∙ ap (λ (t : Bool). cond t (get_or bytes (p - off) 0) (byte_at X2 (start + get_or E (p / size) 0) (p % size))) test
                ∙ byte_old p (omega arith)
                ∙ sym (get_or_append_left (take off old) (bytes ++ drop end old) 0 p (omega (arith, head_long)) ∙ get_or-take off old p 0 early))
            | inr late ↦
                (let test : nat_le off p ≡ true = grind (arith, nat_tests) in
                make (inl late)
                ∙ ap (λ (t : Bool). cond t (get_or bytes (p - off) 0) (byte_at X2 (start + get_or E (p / size) 0) (p % size))) test
                ∙ sym (get_or-append_right (take off old) (bytes ++ drop end old) off p 0 head_long late ∙ get_or_append_left bytes (drop end old) 0 (p - off) (omega arith)))
          ])
      | inr past ↦
          (let all : after ≡ before = elim ends [ inl is ↦ absurd (omega arith) | inr is ↦ is ] in
          let inside : p < before = omega arith in
          let left : length bytes ≡ end - off = omega arith in
          let sum : end + (p - off - length bytes) ≡ p = omega arith in
          bytes_behind a.files E K end size_some end_inside E_apart (length bytes) off bytes X2 (omega arith) left shape_E p past (place_below size before p size_some inside) (place_E p below)
          ∙ byte_old p inside
          ∙ sym (get_or-append_right (take off old) (bytes ++ drop end old) off p 0 head_long (omega arith) ∙ get_or-append_right bytes (drop end old) (length bytes) (p - off) 0 refl (omega arith)
          ∙ get_or-drop end old (p - off - length bytes) 0 ∙ ap (λ (k : ℕ). get_or old k 0) sum))
    ]

    content_C : content a C number ≡ written off bytes old
    content_C =
        ap (λ (n : ℕ). map (file_byte a C (file_at a C number)) (range_with_len 0 n)) (ap bytes_of file_C ∙ made.bytes)
        ∙ ext_get_or 0 (map (file_byte a C (file_at a C number)) (range_with_len 0 after)) (written off bytes old) (length-map-range_with_len (file_byte a C (file_at a C number)) 0 after ∙ sym now_long)
        (λ p low_p.
        let below : p < after = omega (arith, length-map-range_with_len (file_byte a C (file_at a C number)) 0 after) in
        get_or-map-range_with_len (file_byte a C (file_at a C number)) 0 after p p 0 below (omega arith)
        ∙ ap (λ (k : ℕ). byte_at C (start + k) (p % size)) (ap (λ (f : List ℕ). entry_at f (p / size)) file_C ∙ made.entries (p / size) (place_E p below))
        ∙ byte_now p below)

    -- THE FILES
    some_same : (q : List ℕ) → same_name q name ≡ false → (o : Option (List ℕ)) → get (tree_map a.tree A) q ≡ o
        → option_map (λ v. content a C (number_of v)) o ≡ option_map (λ v. content a A (number_of v)) o
    some_same q other None e = refl
    some_same q other (Some v) e =
        let is : number_at a A q ≡ Some (number_of v) = ap (option_map number_of) e in
        ap (λ (xs : List ℕ). Some xs) (kept_content a A C q (number_of v) is (number_C q ∙ is) (kept q other) size_some)

    each : (q : List ℕ) → get (files a C) q ≡ get (insert (files a A) name (written off bytes old)) q
    each q = files_get a C q ∙ ap (λ m. option_map (λ v. content a C (number_of v)) (get m q)) map_C ∙ elim (cases_Bool (same_name q name)) [
      | inl is ↦
          ap (λ (n : List ℕ). option_map (λ v. content a C (number_of v)) (get (tree_map a.tree A) n)) (name_is q name is)
          ∙ ap (option_map (λ v. content a C (number_of v))) there ∙ ap (λ (xs : List ℕ). Some xs) content_C
          ∙ sym (insert_get (files a A) name (written off bytes old) q ∙ ap (λ (t : Bool). cond t (Some (written off bytes old)) (get (files a A) q)) is)
      | inr other ↦
          some_same q other (get (tree_map a.tree A) q) refl
          ∙ sym (insert_get (files a A) name (written off bytes old) q ∙ ap (λ (t : Bool). cond t (Some (written off bytes old)) (get (files a A) q)) other ∙ files_get a A q)
    ]

    pub has_written : HasFiles a (insert (files a A) name (written off bytes (content a A (number_of value)))) C
    has_written = record {
      regions = regions_C;
      files_are = same_map nat_list_cmp_total (slice_cmp-IsAntisymmetric nat_cmp-IsAntisymmetric) (files a C) (insert (files a A) name (written off bytes old)) each;
    }
