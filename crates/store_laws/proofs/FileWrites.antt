-- The calls of the file store write blocks of its areas alone.
use Rattle.store_laws.proofs.{Words.{◌≡◌, refl, sym, ap, subst, ℕ, zero, suc, ◌+◌, ◌-◌, ◌<◌, ◌&&◌, ◌||◌, Bool, true, false, cond, nat_le, nat_lt, List, [], ◌∷◌, ◌++◌, length, take, Option, Some, None, Result, Ok, Err, arith, inl, inr, both_ways, nat_tests, get_or, get_or_past, StoreError, Span, Array, IsIn, Program, Done, Look, LookWhole, Reserve, Store, accesses_of, bytes_in, further_bytes, store_access, then_do, put, is_key, free_list, get_reads, taken_are, in_area, in_its_area, start_in, StoresIn, WriteWithin, all_append, block_at, lowest_free, free_count, cases_lt, or_right, first_below, FileAreas, blocks_for, bytes_of, data_count, entries_of, entry_at, is_file, most_bytes, Call, at_file, create_at, create_new, create_program, goes_on, in_tree, is_many, read_program, remove_file, remove_program, remove_writes, rename_found, rename_free, rename_program, with_new, write_pieces, write_program, write_sized, write_to, AreFileAreas, accesses_then, del_program_stores, put_program_stores, place_in, read_reads, entry_handed, file_parts, handed_is, in_range_map, file_store, in_areas}, Programs.{reads_within, writes_within}}
use Rattle.store_model.specs.TreeCalls.{del_program, get_program, put_program}

-- on each array it writes blocks of the areas alone
pub record WritesIn {R : Type 0} (a : FileAreas) (p : Program R) : Type 0 where
  pub within : (B : Array) → WriteWithin (file_store a) (accesses_of p B)

-- THE PARTS OF A PROGRAM
stores_more : {R : Type 0} (has more : ℕ → Bool) (p : Program R) → ((b : ℕ) → has b ≡ true → more b ≡ true) → StoresIn has p → StoresIn more p
stores_more has more (Done r) wider stores = tt
stores_more has more (Look block mark further next) wider stores = λ xs ys. stores_more has more (next xs ys) wider (stores xs ys)
stores_more has more (LookWhole block next) wider stores = λ xs. stores_more has more (next xs) wider (stores xs)
stores_more has more (Reserve count next) wider stores = stores_more has more next wider stores
stores_more has more (Store block spans bytes next) wider stores = (wider block stores.0, stores_more has more next wider stores.1)

module _ (a : FileAreas) where
  done_in : {R : Type 0} (r : R) → WritesIn a (Done r)
  done_in r = record { within = λ B. tt }

  then_in : {R S : Type 0} (p : Program R) (f : R → Program S) → WritesIn a p → ((r : R) → WritesIn a (f r)) → WritesIn a (then_do p f)
  then_in p f one each = grind (arith, accesses_then, all_append) steps 100000

  goes_in : {X Y : Type 0} (next : X → Call Y) → ((x : X) → WritesIn a (next x)) → (r : Result X StoreError) → WritesIn a (goes_on next r)
  goes_in next each (Ok x) = each x
  goes_in next each (Err e) = done_in _

  tree_in : {X Y : Type 0} (p : Program (Result X StoreError)) (next : X → Call Y) → WritesIn a p → ((x : X) → WritesIn a (next x)) → WritesIn a (in_tree p next)
  tree_in p next one each = then_in p (goes_on next) one (goes_in next each)

  cond_in : {R : Type 0} (t : Bool) (p q : Program R) → (t ≡ true → WritesIn a p) → (t ≡ false → WritesIn a q) → WritesIn a (cond t p q)
  cond_in true p q one two = one refl
  cond_in false p q one two = two refl

  look_in : {R : Type 0} (block : ℕ) (mark : Span) (further : List ℕ → Option Span) (next : List ℕ → List ℕ → Program R) → ((xs ys : List ℕ) → WritesIn a (next xs ys)) → WritesIn a (Look block mark further next)
  look_in block mark further next each = record { within = λ B. (λ write. absurd (both_ways false refl write), (each (bytes_in mark (block_at B block)) (further_bytes (further (bytes_in mark (block_at B block))) (block_at B block))).within B) }

  whole_in : {R : Type 0} (block : ℕ) (next : List ℕ → Program R) → ((xs : List ℕ) → WritesIn a (next xs)) → WritesIn a (LookWhole block next)
  whole_in block next each = record { within = λ B. (λ write. absurd (both_ways false refl write), (each (block_at B block)).within B) }

  store_in : {R : Type 0} (block : ℕ) (spans : List Span) (bytes : List ℕ) (next : Program R) → in_areas a block ≡ true → WritesIn a next → WritesIn a (Store block spans bytes next)
  store_in block spans bytes next has rest = record { within = λ B. (λ write. has, rest.within (put B (store_access block spans bytes))) }

  get_in : (name : List ℕ) → WritesIn a (get_program a.tree name)
  get_in name = record { within = λ B. reads_within (file_store a) (accesses_of (get_program a.tree name) B) (get_reads a.tree name B) }

  of_tree : (b : ℕ) → in_area a.tree b ≡ true → in_areas a b ≡ true
  of_tree b has = or_left_is (in_area a.tree b) (in_area a.files b) has
    where
      or_left_is : (x y : Bool) → x ≡ true → (x || y) ≡ true
      or_left_is x y is = ap (λ (t : Bool). t || y) is

  of_files : (k : ℕ) → k < a.files.blocks → in_areas a (a.files.start + k) ≡ true
  of_files k below = or_right (in_area a.tree (a.files.start + k)) (in_area a.files (a.files.start + k)) (in_its_area a.files k below)

  put_in : AreFileAreas a → (name value : List ℕ) → WritesIn a (put_program a.tree name value)
  put_in areas name value = record { within = λ B. writes_within (file_store a) (put_program a.tree name value) B (stores_more (in_area a.tree) (in_areas a) (put_program a.tree name value) of_tree (put_program_stores a.tree name value areas.tree)) }

  del_in : (name : List ℕ) → WritesIn a (del_program a.tree name)
  del_in name = record { within = λ B. writes_within (file_store a) (del_program a.tree name) B (stores_more (in_area a.tree) (in_areas a) (del_program a.tree name) of_tree (del_program_stores a.tree name)) }

  module _ (areas : AreFileAreas a) where
    of_first : in_areas a a.files.start ≡ true
    of_first = or_right (in_area a.tree a.files.start) (in_area a.files a.files.start) (start_in a.files (let l = areas.least in omega arith))

    -- CREATE
    made_in : (name first : List ℕ) (o : Option ℕ) → ((block : ℕ) → o ≡ Some block → block < a.files.blocks) → WritesIn a (create_at a name first o)
    made_in name first None below = done_in _
    made_in name first (Some block) below = tree_in (put_program a.tree name _) _ (put_in areas name _) (λ put. store_in a.files.start _ _ _ of_first (store_in (a.files.start + block) _ _ _ (of_files block (below block refl)) (done_in _)))

    new_in : (name : List ℕ) (o : Option (List ℕ)) → WritesIn a (create_new a name o)
    new_in name (Some value) = done_in _
    new_in name None = look_in a.files.start _ _ _ (λ first none. made_in name first (lowest_free first 1 (a.files.blocks - 1)) (λ block e. (let low = first_below _ 1 (a.files.blocks - 1) block e in let l = areas.least in omega arith)))

    pub create_in : (name : List ℕ) → WritesIn a (create_program a name)
    unfolding create_program
    create_in name = cond_in (is_key name) _ _ (λ key. tree_in (get_program a.tree name) (create_new a name) (get_in name) (new_in name)) (λ bad. done_in _)

    -- THE FILE BLOCK
    found_in : {Y : Type 0} (none : Y) (next : ℕ → List ℕ → Call Y) → ((number : ℕ) (file : List ℕ) → number < a.files.blocks → is_file a.files file ≡ true → WritesIn a (next number file)) → (o : Option (List ℕ)) → WritesIn a (at_file a none next o)
    found_in none next each None = done_in _
    found_in none next each (Some value) = grind (arith, cond_in, whole_in, handed_is, done_in) steps 100000

    -- WRITE
    item_below : (E : List ℕ) → ((k : ℕ) → IsIn k E → k < a.files.blocks) → (i : ℕ) → get_or E i 0 < a.files.blocks
    item_below E each i = elim (cases_lt i (length E)) [
      | inl inside ↦ each (get_or E i 0) (place_in E i inside)
      | inr past ↦ subst (λ (n : ℕ). n < a.files.blocks) (sym (get_or_past E i 0 past)) (let l = areas.least in omega arith)
    ]

    pieces_in : (E : List ℕ) (old most from to : ℕ) (bytes : List ℕ) → ((k : ℕ) → IsIn k E → k < a.files.blocks) → WritesIn a (write_pieces a.files E old most from to bytes)
    pieces_in E old zero from to bytes each = done_in _
    pieces_in E old (suc most) from to bytes each =
        cond_in (nat_lt from to) _ _ (λ less. store_in _ _ _ _ (of_files _ (item_below E each _)) (pieces_in E old most _ to _ each)) (λ over. done_in _)

    entry_below : (file : List ℕ) → is_file a.files file ≡ true → (k : ℕ) → IsIn k (entries_of a.files.size file) → k < a.files.blocks
    entry_below file good k is =
        let which = in_range_map (entry_at file) 0 (data_count a.files.size file) k is in
        let handed = entry_handed a.files file (file_parts a.files file good) which.0 (omega (arith, which.2)) in
        omega (arith, handed.below, which.3)

    both_below : (xs ys : List ℕ) → ((k : ℕ) → IsIn k xs → k < a.files.blocks) → ((k : ℕ) → IsIn k ys → k < a.files.blocks) → (k : ℕ) → IsIn k (xs ++ ys) → k < a.files.blocks
    both_below [] ys one two k is = two k is
    both_below (x ∷ xs) ys one two k (inl at) = one k (inl at)
    both_below (x ∷ xs) ys one two k (inr later) = both_below xs ys (λ j is. one j (inr is)) two k later

    sized_in : (off : ℕ) (bytes : List ℕ) (number : ℕ) (file news : List ℕ) → number < a.files.blocks → is_file a.files file ≡ true → ((k : ℕ) → IsIn k news → k < a.files.blocks) → WritesIn a (write_sized a.files off bytes number file news)
    sized_in off bytes number file news below good each =
        cond_in (nat_lt (bytes_of file) (off + length bytes)) _ _
        (λ less. store_in (a.files.start + number) _ _ _ (of_files number below) (pieces_in (entries_of a.files.size file ++ news) (data_count a.files.size file) (length bytes) off (off + length bytes) bytes (both_below (entries_of a.files.size file) news (entry_below file good) each)))
        (λ kept. pieces_in (entries_of a.files.size file) (data_count a.files.size file) (length bytes) off (off + length bytes) bytes (entry_below file good))

    taken_in : (need : ℕ) (next : List ℕ → Call Bool) → ((news : List ℕ) → ((k : ℕ) → IsIn k news → k < a.files.blocks) → WritesIn a (next news)) → WritesIn a (with_new a.files need next)
    taken_in zero next each = each [] (λ k is. absurd is)
    taken_in (suc more) next each = look_in a.files.start _ _ _ (λ first none.
        cond_in (nat_lt (free_count first 1 (a.files.blocks - 1)) (suc more)) _ _ (λ few. done_in _)
        (λ enough.
        let are = taken_are a.files first (suc more) (let l = areas.least in omega arith) (grind (arith, nat_tests)) in
        store_in a.files.start _ _ _ of_first (each (take (suc more) (free_list a.files first)) are.below)))

    to_in : (off : ℕ) (bytes : List ℕ) (number : ℕ) (file : List ℕ) → number < a.files.blocks → is_file a.files file ≡ true → WritesIn a (write_to a.files off bytes number file)
    to_in off bytes number file below good =
        cond_in (nat_le off (bytes_of file) && nat_le (off + length bytes) (most_bytes a.files.size)) _ _
        (λ fits. taken_in (blocks_for a.files.size (off + length bytes) - data_count a.files.size file) (write_sized a.files off bytes number file) (λ news each. sized_in off bytes number file news below good each)) (λ bad. done_in _)

    pub write_in : (name : List ℕ) (off : ℕ) (bytes : List ℕ) → WritesIn a (write_program a name off bytes)
    unfolding write_program
    write_in name off bytes =
        cond_in (is_key name) _ _
        (λ key. cond_in (is_many (length bytes)) _ _
        (λ many. tree_in (get_program a.tree name) (at_file a false (write_to a.files off bytes)) (get_in name) (found_in false (write_to a.files off bytes) (to_in off bytes))) (λ few. done_in _)) (λ bad. done_in _)

    -- REMOVE
    pub remove_in : (name : List ℕ) → WritesIn a (remove_program a name)
    unfolding remove_program
    remove_in name =
        cond_in (is_key name) _ _
        (λ key. tree_in (get_program a.tree name) (at_file a false (remove_file a name)) (get_in name) (found_in false (remove_file a name) (λ number file below good.
        look_in a.files.start _ _ _ (λ first none. tree_in (del_program a.tree name) (remove_writes a.files number file first) (del_in name) (λ there. store_in a.files.start _ _ _ of_first (done_in _))))))
        (λ bad. done_in _)

    -- RENAME
    free_in : (old new value : List ℕ) (o : Option (List ℕ)) → WritesIn a (rename_free a old new value o)
    free_in old new value (Some other) = done_in _
    free_in old new value None = tree_in (put_program a.tree new value) _ (put_in areas new value) (λ put. tree_in (del_program a.tree old) _ (del_in old) (λ there. done_in _))

    moved_in : (old new : List ℕ) (o : Option (List ℕ)) → WritesIn a (rename_found a old new o)
    moved_in old new None = done_in _
    moved_in old new (Some value) = tree_in (get_program a.tree new) (rename_free a old new value) (get_in new) (free_in old new value)

    pub rename_in : (old new : List ℕ) → WritesIn a (rename_program a old new)
    unfolding rename_program
    rename_in old new = cond_in (is_key old && is_key new) _ _ (λ keys. tree_in (get_program a.tree old) (rename_found a old new) (get_in old) (moved_in old new)) (λ bad. done_in _)

  -- READ
  pub read_in : (name : List ℕ) (off len : ℕ) → WritesIn a (read_program a name off len)
  read_in name off len = record { within = λ B. reads_within (file_store a) (accesses_of (read_program a name off len) B) (read_reads a name off len B) }
