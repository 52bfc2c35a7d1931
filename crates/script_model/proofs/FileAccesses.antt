-- The accesses of the calls on files are accesses to the array, whatever its blocks hold.
use Rattle.script_model.proofs.{Words.{◌≡◌, ◌≢◌, ◌∙◌, refl, inl, inr, ℕ, zero, suc, ◌+◌, ◌-◌, ◌/◌, ◌%◌, ◌<◌, ◌≤◌, ◌&&◌, ◌⊎◌, Bool, true, false, cond, IsTrue, List, [], ◌∷◌, ◌++◌, length, take, drop, replicate, slice_index, Option, Some, None, Result, Ok, Err, nat_le, nat_lt, arith, and_parts, leb-true, ltb-false, ltb-true, cases_lt, nat_tests, AllByRecursion, all_append, first_below, Geometry, Area, FileAreas, StoreError, Call, Program, AreBytes, HasShape, IsAccess, IsSpan, block_at, FitsOn, fits_cond, fits_then, IsTreeIn, tree_get_fits, tree_put_fits, tree_del_fits, file_blocks, files_area, is_key, is_many, goes_on, in_tree, look_map, at_file, create_program, write_program, read_program, rename_program, remove_program, bytes_in, store_access, block_with, bit_mark, bit_place, map_mark, set_bit, clear_bit, without_bit, lowest_free, free_count, free_list, changed_map, changed_mark, first_write, with_used, laid_bytes, length-laid_at, length-append, length-replicate, length-take, length-map-range_with_len, no_bytes, bytes_cons, bytes_drop, bytes_take, replicate_bytes, set_bytes, word_bytes, bit_small, or_lt, xor_lt, and_le_r, to_be_bytes, w32, ◌^◌, Array, is_valid, Span, NoBlocks, refuse, bits_mark, create_at, create_new, empty_writes, high_place, low_place, read_from, read_pieces, remove_file, remove_writes, rename_found, rename_free, with_new, without_bits, write_pieces, write_sized, write_to, blocks_for, bytes_of, data_count, entries_of, entry_at, file_block, is_file, is_number, most_bytes, piece_len, piece_mark}, ProgramAnswers.{Answers, FindsBytes, answers_any, answers_on, get_answers}, TakenBlocks.{AreBelow, RiseIn, count_free, last_rises, rise_below, taken_rise, used_bytes}, FilesPlace.{has_files, least_parts}, FileParts.{IsFileBlock, count_fits, file_block_bytes, file_block_is, length-file_block, piece_is, place_below}}
use Rattle.store_model.specs.{TreeCalls.{get_program, put_program, del_program}, FileNodes.number_of}
use Rattle.store_model.specs.declared.files.FsError.TheVariants as fs

-- the regions of files in an array of the image
pub record IsFilesIn (g : Geometry) (a : FileAreas) (A : Array) : Type 0 where
  pub tree : IsTreeIn g a.tree A
  pub files : IsTreeIn g a.files A

-- the files of a valid image that has room for them
pub files_area_is : (g : Geometry) (A : Array) → IsTrue (is_valid g) → HasShape g A → file_blocks g ≢ 0 → IsFilesIn g (files_area g) A
files_area_is g A valid shape some =
    let has = has_files g valid some in
    let tree = has.areas.tree in
    grind arith

abbrev Whole : {R : Type 0} → R → Array → Type 0
Whole r B = Unit {0}

-- whatever the array of this shape holds
at_shape : (g : Geometry) (a : FileAreas) (A B : Array) → IsFilesIn g a A → HasShape g B → IsFilesIn g a B
at_shape g a A B is shape = grind arith

-- a number of the list, or 0
index_below : (high : ℕ) (xs : List ℕ) (i : ℕ) → 0 < high → AreBelow high xs → slice_index xs i < high
index_below high [] i some all = some
index_below high (x ∷ xs) zero some all = all.0
index_below high (x ∷ xs) (suc i) some all = index_below high xs i some all.1

-- a mark, or none
either_spans : (size : ℕ) (t : Bool) (mark : Span) → IsSpan size mark → AllByRecursion (IsSpan size) (cond t (mark ∷ []) [])
either_spans size true mark is = (is, tt)
either_spans size false mark is = tt

either_few : (t : Bool) (mark : Span) → length (cond t (mark ∷ []) []) ≤ 8
either_few t mark = grind arith

-- A call that goes on where a tree call has answered.
in_tree_fits : {X Y : Type 0} (g : Geometry) (Q : Result X StoreError → Type 0) (p : Program (Result X StoreError)) (next : X → Call Y) (A : Array) → HasShape g A → FitsOn g Whole p A → Answers Q p
    → ((x : X) (B : Array) → HasShape g B → Q (Ok x) → FitsOn g Whole (next x) B) → FitsOn g Whole (in_tree p next) A
in_tree_fits {X} {Y} g Q p next A shape fit is more = fits_then g (λ r B. HasShape g B × Q r) Whole p (goes_on next) A (answers_on g Q p A shape fit is) goes
  where
    goes : (r : Result X StoreError) (B : Array) → HasShape g B × Q r → FitsOn g Whole (goes_on next r) B
    goes (Ok x) B ends = more x B ends.0 ends.1
    goes (Err e) B ends = tt

module _ (g : Geometry) (a : FileAreas) (A : Array) (is : IsFilesIn g a A) where
  abbrev f : Area
  f = a.files

  inside : (block : ℕ) → block < f.blocks → f.start + block < g.blocks
  inside block below = omega (arith, is.files.fits)

  zero_block : 0 < f.blocks
  zero_block = omega (arith, is.files.area.least)

  some_size : 0 < f.size
  some_size = omega (arith, is.files.area.least_size)

  -- a write of a block of the files
  stored : (block : ℕ) (spans : List Span) (bytes : List ℕ) → block < f.blocks → AllByRecursion (IsSpan g.block) spans → length spans ≤ 8 → length bytes ≡ f.size → AreBytes bytes
      → IsAccess g (store_access (f.start + block) spans bytes)
  stored block spans bytes below all few long values = grind arith

  -- a write of the first one
  stored_first : (mark : Span) (bytes : List ℕ) → IsSpan g.block mark → length bytes ≡ f.size → AreBytes bytes → IsAccess g (store_access f.start (mark ∷ []) bytes)
  stored_first mark bytes span long values = grind (arith, zero_block)

  length-zeros : (at : ℕ) (bytes : List ℕ) → at + length bytes ≤ f.size → length (block_with f.size at bytes) ≡ f.size
  length-zeros at bytes fits =
      length-laid_at at bytes (replicate f.size 0) (omega (arith, fits, length-replicate {A = ℕ} f.size 0)) ∙ length-replicate f.size 0

  zeros_bytes : (at : ℕ) (bytes : List ℕ) → AreBytes bytes → AreBytes (block_with f.size at bytes)
  zeros_bytes at bytes values = laid_bytes at bytes (replicate f.size 0) values (replicate_bytes f.size 0 (omega arith))

  -- the byte of the map with a block's bit
  place_fits : (block : ℕ) → block < f.blocks → bit_place block < f.size
  place_fits block below = omega (arith, is.files.area.most, is.files.area.least_size)

  map_span : IsSpan g.block (map_mark f.blocks)
  map_span = record { some = omega arith; fits = omega (arith, is.files.size, is.files.area.least_size, is.files.area.most) }

  map_fits : {Y : Type 0} (next : List ℕ → Call Y) → ((first : List ℕ) → AreBytes first → FitsOn g Whole (next first) A) → FitsOn g Whole (look_map f next) A
  map_fits next fit = grind (arith, zero_block, map_span, bytes_take, bytes_drop)

  -- what is done with the file that a name has
  at_file_fits : {Y : Type 0} (none : Y) (next : ℕ → List ℕ → Call Y)
      → ((number : ℕ) (file : List ℕ) → number < f.blocks → IsFileBlock f file → AreBytes file → FitsOn g Whole (next number file) A) → (o : Option (List ℕ)) → FitsOn g Whole (at_file a none next o) A
  at_file_fits none next fit None = tt
  at_file_fits none next fit (Some value) =
      let number = number_of value in
      let file = block_at A (f.start + number) in
      fits_cond g Whole (is_number f value) _ _ A
      (λ good.
      let below : number < f.blocks = ltb-true _ _ (and_parts _ _ (and_parts _ _ good).1).1 in (
        inside number below,
        fits_cond g Whole (is_file f file) (next number file) _ A (λ right. fit number file below (file_block_is f file right) (is.files.shape.values (f.start + number))) (λ bad. tt),
      ))
      (λ bad. tt)

  -- READ
  pieces_read : (file : List ℕ) → IsFileBlock f file → (most from to : ℕ) (found : List ℕ) → to ≤ bytes_of file → FitsOn g Whole (read_pieces f file most from to found) A
  pieces_read file parts zero from to found within = tt
  pieces_read file parts (suc most) from to found within =
      fits_cond g Whole (nat_lt from to) _ _ A
      (λ less.
      let before : from < to = ltb-true from to less in
      let piece = piece_is f.size from to some_size before in (
        inside (entry_at file (from / f.size)) (parts.entry (from / f.size) (place_below f.size (bytes_of file) from some_size (omega arith))),
        record { some = piece.some; fits = omega (arith, piece.fits, is.files.size) },
        tt,
        pieces_read file parts most (from + piece_len f.size from to) to _ within,
      ))
      (λ past. tt)

  read_file : (off len number : ℕ) (file : List ℕ) → IsFileBlock f file → FitsOn g Whole (read_from f off len number file) A
  read_file off len number file parts = grind (arith, fits_cond, pieces_read, least_parts)

  -- CREATE
  empty_fits : (block byte : ℕ) → block < f.blocks → byte < 256 → (B : Array) → FitsOn g Whole (empty_writes a block byte) B
  empty_fits block byte below small B =
      let place = place_fits block below in (
        stored_first (bit_mark block) (block_with f.size (bit_place block) (byte ∷ [])) (record { some = omega arith; fits = omega (arith, place, is.files.size) })
            (length-zeros (bit_place block) (byte ∷ []) (omega (arith, place))) (zeros_bytes (bit_place block) (byte ∷ []) (bytes_cons byte [] small no_bytes)),
        (
          stored block [] (file_block f.size 0 []) below tt (omega arith) (length-file_block f.size 0 [] is.files.area.least_size (omega arith)) (file_block_bytes f.size 0 []),
          tt,
        ),
      )

  -- WRITE
  pieces_written : (entries : List ℕ) → AreBelow f.blocks entries → (old most from to : ℕ) (bytes : List ℕ) → AreBytes bytes → (B : Array) → FitsOn g Whole (write_pieces f entries old most from to bytes) B
  pieces_written entries all old zero from to bytes values B = tt
  pieces_written entries all old (suc most) from to bytes values B =
      fits_cond g Whole (nat_lt from to) _ _ B
      (λ less.
      let piece = piece_is f.size from to some_size (ltb-true from to less) in
      let n = piece_len f.size from to in
      let t = nat_lt (from / f.size) old in
      let span : IsSpan g.block (piece_mark f.size from to) = record { some = piece.some; fits = omega (arith, piece.fits, is.files.size) } in (
        stored (slice_index entries (from / f.size)) (cond t (piece_mark f.size from to ∷ []) []) (block_with f.size (from % f.size) (take n bytes)) (index_below f.blocks entries (from / f.size) zero_block all)
            (either_spans g.block t (piece_mark f.size from to) span) (either_few t (piece_mark f.size from to))
            (length-zeros (from % f.size) (take n bytes) (omega (arith, piece.fits, length-take n bytes))) (zeros_bytes (from % f.size) (take n bytes) (bytes_take n bytes values)),
        pieces_written entries all old most (from + n) to (drop n bytes) (bytes_drop n bytes values) _,
      ))
      (λ past. tt)

  -- the write of the map with these blocks in use
  taken_fits : {Y : Type 0} (next : Call Y) (first taken : List ℕ) → AreBytes first → RiseIn 1 f.blocks taken → 0 < length taken → ((B : Array) → FitsOn g Whole next B) → FitsOn g Whole (first_write f first taken None next) A
  taken_fits next first [] values rise some fit = absurd (omega arith)
  taken_fits next first (k ∷ ks) values rise some fit =
      let last = last_rises 1 f.blocks k ks rise in
      let mark = changed_mark (k ∷ ks) in
      let bytes = bytes_in mark (with_used first (k ∷ ks)) in
      let span : IsSpan g.block mark = record { some = omega (arith, last.0); fits = omega (arith, last.0, last.1, is.files.size, is.files.area.least_size, is.files.area.most) } in (
        stored_first mark (changed_map f first (k ∷ ks)) span
            (length-zeros mark.off bytes (omega (arith, length-take mark.len (drop mark.off (with_used first (k ∷ ks))), span.fits, is.files.size)))
            (zeros_bytes mark.off bytes (bytes_take mark.len _ (bytes_drop mark.off _ (used_bytes first (k ∷ ks) values)))),
        fit _,
      )

  -- what a call that takes `more` blocks and one more does once the map is read
  abbrev taking : {Y : Type 0} → (more : ℕ) → (List ℕ → Call Y) → (first : List ℕ) → Call Y
  taking more next first =
      cond (nat_lt (free_count first 1 (f.blocks - 1)) (suc more)) (refuse (fs.Store (NoBlocks (suc more) (free_count first 1 (f.blocks - 1)))))
      (first_write f first (take (suc more) (free_list f first)) None (next (take (suc more) (free_list f first))))

  new_fits : {Y : Type 0} (need : ℕ) (next : List ℕ → Call Y) → ((news : List ℕ) → AreBelow f.blocks news → length news ≤ need → (B : Array) → FitsOn g Whole (next news) B) → FitsOn g Whole (with_new f need next) A
  new_fits zero next fit = fit [] tt (omega arith) A
  new_fits {Y} (suc more) next fit = map_fits (taking more next) (λ first values.
      fits_cond g Whole (nat_lt (free_count first 1 (f.blocks - 1)) (suc more)) _ _ A (λ few. tt)
      (λ enough.
      let taken = take (suc more) (free_list f first) in
      let rise = taken_rise f first (suc more) zero_block in
      let free = ltb-false (free_count first 1 (f.blocks - 1)) (suc more) enough in
      let long = length-take (suc more) (free_list f first) in
      taken_fits (next taken) first taken values rise (omega (arith, count_free f first, free, long)) (fit taken (rise_below 1 f.blocks taken rise) (omega (arith, long)))))

  sized_fits : (off : ℕ) (bytes : List ℕ) (number : ℕ) (file news : List ℕ) → AreBytes bytes → number < f.blocks → IsFileBlock f file → off + length bytes ≤ most_bytes f.size → AreBelow f.blocks news
      → length news ≤ blocks_for f.size (off + length bytes) - data_count f.size file → (B : Array) → FitsOn g Whole (write_sized f off bytes number file news) B
  sized_fits off bytes number file news values below parts fits all few B =
      let old = entries_of f.size file in
      let many = old ++ news in
      let so : AreBelow f.blocks many = all_append (λ (x : ℕ). x < f.blocks) old news parts.entries all in
      let count = length-map-range_with_len (entry_at file) 0 (data_count f.size file) in
      let now = count_fits f.size (bytes_of file) is.files.area.least_size parts.few in
      let then = count_fits f.size (off + length bytes) is.files.area.least_size fits in
      fits_cond g Whole (nat_lt (bytes_of file) (off + length bytes)) _ _ B
      (λ grown. (
        stored number [] (file_block f.size (off + length bytes) many) below tt (omega arith)
            (length-file_block f.size (off + length bytes) many is.files.area.least_size (omega (arith, length-append old news, count, now, then, few)))
            (file_block_bytes f.size (off + length bytes) many),
        pieces_written many so (data_count f.size file) (length bytes) off (off + length bytes) bytes values _,
      ))
      (λ same. pieces_written old parts.entries (data_count f.size file) (length bytes) off (off + length bytes) bytes values B)

  write_file : (off : ℕ) (bytes : List ℕ) (number : ℕ) (file : List ℕ) → AreBytes bytes → number < f.blocks → IsFileBlock f file → FitsOn g Whole (write_to f off bytes number file) A
  write_file off bytes number file values below parts =
      fits_cond g Whole (nat_le off (bytes_of file) && nat_le (off + length bytes) (most_bytes f.size)) _ _ A
      (λ good.
      let fits : off + length bytes ≤ most_bytes f.size = leb-true _ _ (and_parts _ _ good).1 in
      new_fits (blocks_for f.size (off + length bytes) - data_count f.size file) (write_sized f off bytes number file)
      (λ news all few B. sized_fits off bytes number file news values below parts fits all few B))
      (λ bad. tt)

  -- REMOVE
  low_high : (x : ℕ) (ys : List ℕ) → (low_place x ys ≤ bit_place x) × (bit_place x ≤ high_place x ys)
  low_high x [] = (omega arith, omega arith)
  low_high x (y ∷ ys) = (low (cases_lt (bit_place x) (low_place y ys)), high (cases_lt (high_place y ys) (bit_place x)))
    where
      low : (bit_place x < low_place y ys) ⊎ (low_place y ys ≤ bit_place x) → low_place x (y ∷ ys) ≤ bit_place x
      low (inl less) = let test : nat_lt (bit_place x) (low_place y ys) ≡ true = grind (arith, nat_tests) in rw test (omega arith)
      low (inr more) = let test : nat_lt (bit_place x) (low_place y ys) ≡ false = grind (arith, nat_tests) in rw test (omega arith)

      high : (high_place y ys < bit_place x) ⊎ (bit_place x ≤ high_place y ys) → bit_place x ≤ high_place x (y ∷ ys)
      high (inl less) = let test : nat_lt (high_place y ys) (bit_place x) ≡ true = grind (arith, nat_tests) in rw test (omega arith)
      high (inr more) = let test : nat_lt (high_place y ys) (bit_place x) ≡ false = grind (arith, nat_tests) in rw test (omega arith)

  high_below : (x : ℕ) (ys : List ℕ) → x < f.blocks → AreBelow f.blocks ys → high_place x ys < f.size
  high_below x [] below all = place_fits x below
  high_below x (y ∷ ys) below all =
      elim (nat_lt (high_place y ys) (bit_place x)) as (λ t. cond t (bit_place x) (high_place y ys) < f.size) [
        | true ↦ place_fits x below
        | false ↦ high_below y ys all.0 all.1
      ]

  without_bytes : (first blocks : List ℕ) → AreBytes first → AreBytes (without_bits first blocks)
  without_bytes first [] values = values
  without_bytes first (k ∷ blocks) values =
      without_bytes (without_bit first k) blocks
      (set_bytes first (bit_place k) (clear_bit (slice_index first (bit_place k)) k)
      (xor_lt 8 _ _ (values (bit_place k)) (omega (arith, and_le_r (slice_index first (bit_place k)) (2 ^ (k % 8)), bit_small k))) values)

  removed_fits : (number : ℕ) (file first : List ℕ) → number < f.blocks → IsFileBlock f file → AreBytes first → (there : Bool) (B : Array) → FitsOn g Whole (remove_writes f number file first there) B
  removed_fits number file first below parts values there B =
      let es = entries_of f.size file in
      let mark = bits_mark number es in
      let bytes = bytes_in mark (without_bits first (number ∷ es)) in
      let ends = low_high number es in
      let last = high_below number es below parts.entries in
      let span : IsSpan g.block mark = record { some = omega (arith, ends.0, ends.1); fits = omega (arith, ends.0, ends.1, last, is.files.size) } in (
        stored_first mark (block_with f.size mark.off bytes) span
            (length-zeros mark.off bytes (omega (arith, length-take mark.len (drop mark.off (without_bits first (number ∷ es))), span.fits, is.files.size)))
            (zeros_bytes mark.off bytes (bytes_take mark.len _ (bytes_drop mark.off _ (without_bytes first (number ∷ es) values)))),
        tt,
      )

-- THE CALLS
module _ (g : Geometry) (a : FileAreas) (A : Array) (is : IsFilesIn g a A) where
  -- a call that begins with the name in the tree
  get_fits : {Y : Type 0} (B : Array) → HasShape g B → (name : List ℕ) (next : Option (List ℕ) → Call Y)
      → ((o : Option (List ℕ)) (C : Array) → HasShape g C → FindsBytes (Ok o) → FitsOn g Whole (next o) C) → FitsOn g Whole (in_tree (get_program a.tree name) next) B
  get_fits B shape name next fit =
      in_tree_fits g FindsBytes (get_program a.tree name) next B shape (tree_get_fits g a.tree B (at_shape g a A B is shape).tree name) (get_answers a.tree name) fit

  shaped : HasShape g A
  shaped = is.tree.shape

  pub read_fits : (name : List ℕ) (off len : ℕ) → FitsOn g Whole (read_program a name off len) A
  unfolding read_program
  read_fits name off len =
      fits_cond g Whole (is_key name) _ _ A
      (λ good. fits_cond g Whole (is_many len) _ _ A
      (λ some. get_fits A shaped name _ (λ o B shape found.
      let on = at_shape g a A B is shape in
      at_file_fits g a B on None (read_from a.files off len) (λ number file below parts values. read_file g a B on off len number file parts) o)) (λ none. tt)) (λ bad. tt)

  new_name : (name : List ℕ) → AreBytes name → (o : Option (List ℕ)) (B : Array) → HasShape g B → FitsOn g Whole (create_new a name o) B
  new_name name values (Some value) B shape = tt
  new_name name values None B shape =
      let on = at_shape g a A B is shape in
      map_fits g a B on (λ first. create_at a name first (lowest_free first 1 (a.files.blocks - 1))) (λ first first_are. at first first_are (lowest_free first 1 (a.files.blocks - 1)) refl)
    where
      at : (first : List ℕ) → AreBytes first → (o : Option ℕ) → lowest_free first 1 (a.files.blocks - 1) ≡ o → FitsOn g Whole (create_at a name first o) B
      at first first_are None e = tt
      at first first_are (Some block) e =
          let on = at_shape g a A B is shape in
          let some = is.files.area.least in
          let below = first_below _ 1 (a.files.blocks - 1) block e in
          let byte = set_bit (slice_index first (bit_place block)) block in
          in_tree_fits g (λ r. Unit {0}) (put_program a.tree name (to_be_bytes w32 block)) (λ done. empty_writes a block byte) B shape
          (tree_put_fits g a.tree B on.tree name (to_be_bytes w32 block) values (word_bytes block)) (answers_any (put_program a.tree name (to_be_bytes w32 block)))
          (λ done C shape_C any. empty_fits g a B on block byte (omega arith) (or_lt 8 _ _ (first_are (bit_place block)) (bit_small block)) C)

  pub create_fits : (name : List ℕ) → AreBytes name → FitsOn g Whole (create_program a name) A
  unfolding create_program
  create_fits name values =
      fits_cond g Whole (is_key name) _ _ A (λ good. get_fits A shaped name (create_new a name) (λ o B shape found. new_name name values o B shape)) (λ bad. tt)

  pub write_fits : (name : List ℕ) (off : ℕ) (bytes : List ℕ) → AreBytes bytes → FitsOn g Whole (write_program a name off bytes) A
  unfolding write_program
  write_fits name off bytes values =
      fits_cond g Whole (is_key name) _ _ A
      (λ good. fits_cond g Whole (is_many (length bytes)) _ _ A
      (λ some. get_fits A shaped name _ (λ o B shape found.
      let on = at_shape g a A B is shape in
      at_file_fits g a B on false (write_to a.files off bytes) (λ number file below parts file_are. write_file g a B on off bytes number file values below parts) o)) (λ none. tt)) (λ bad. tt)

  -- the other name of a file, and then no more the old one
  free_fits : (old new value : List ℕ) → AreBytes new → AreBytes value → (o : Option (List ℕ)) (B : Array) → HasShape g B → FitsOn g Whole (rename_free a old new value o) B
  free_fits old new value new_are values (Some other) B shape = tt
  free_fits old new value new_are values None B shape =
      in_tree_fits g (λ r. Unit {0}) (put_program a.tree new value) _ B shape (tree_put_fits g a.tree B (at_shape g a A B is shape).tree new value new_are values) (answers_any (put_program a.tree new value))
      (λ done C shape_C any.
      in_tree_fits g (λ r. Unit {0}) (del_program a.tree old) _ C shape_C (tree_del_fits g a.tree C (at_shape g a A C is shape_C).tree old) (answers_any (del_program a.tree old))
      (λ there D shape_D none. tt))

  found_fits : (old new : List ℕ) → AreBytes new → (o : Option (List ℕ)) (B : Array) → HasShape g B → FindsBytes (Ok o) → FitsOn g Whole (rename_found a old new o) B
  found_fits old new new_are None B shape found = tt
  found_fits old new new_are (Some value) B shape found =
      get_fits B shape new (rename_free a old new value) (λ o C shape_C other. free_fits old new value new_are found o C shape_C)

  pub rename_fits : (old new : List ℕ) → AreBytes new → FitsOn g Whole (rename_program a old new) A
  unfolding rename_program
  rename_fits old new values =
      fits_cond g Whole (is_key old && is_key new) _ _ A (λ good. get_fits A shaped old (rename_found a old new) (λ o B shape found. found_fits old new values o B shape found)) (λ bad. tt)

  pub remove_fits : (name : List ℕ) → FitsOn g Whole (remove_program a name) A
  unfolding remove_program
  remove_fits name =
      fits_cond g Whole (is_key name) _ _ A
      (λ good. get_fits A shaped name _ (λ o B shape found.
      let on = at_shape g a A B is shape in
      at_file_fits g a B on false (remove_file a name) (λ number file below parts file_are.
      map_fits g a B on (λ first. in_tree (del_program a.tree name) (remove_writes a.files number file first)) (λ first values.
      in_tree_fits g (λ r. Unit {0}) (del_program a.tree name) (remove_writes a.files number file first) B shape (tree_del_fits g a.tree B on.tree name) (answers_any (del_program a.tree name))
      (λ there C shape_C any. removed_fits g a B on number file first below parts values there C))) o)) (λ bad. tt)
