-- A write is that of the files.
use Rattle.iso_fs.proofs.{Words.{map_byte, ◌≡◌, ◌∙◌, sym, refl, ap, subst, ℕ, zero, suc, ◌+◌, ◌-◌, ◌*◌, ◌/◌, ◌%◌, ◌^◌, ◌<◌, ◌≤◌, ◌==◌, ◌&&◌, Bool, true, false, cond, List, [], ◌∷◌, ◌++◌, length, get_or, take, nat_le, Option, Some, None, option_map, Ok, arith, inl, inr, nat_lt, list_all, get, insert, and_parts, cases_Bool, leb-true, nat_tests, append-nil, Access, NoBlocks, Array, put, own, is_zero, free_count, map_bit, map_bytes, map_mark, is_key, block_at, Done, Store, accesses_of, answer_of, bytes_in, store_access, changed_map, changed_mark, first_write, free_list, get_program, tree_map, length-block_put, other_block, written_block, IsCorrect, kept_1, laid_whole, bits_after, sizes_of, same_ok, AreTaken, taken_are, up_apart, FsError, FileAreas, blocks_for, bytes_of, data_count, entries_of, entry_at, file_block, is_file, is_handed, most_bytes, number_of, Call, at_file, in_tree, is_many, refuse, with_new, write_in, write_op, write_pieces, write_program, write_sized, write_to, written, AreFileAreas, AreFileRegions, Uses, content, file_at, files}, AfterTree.{answer_at_file, answer_got, own_at_file, own_got}, Changes.{HasDone, HasFiles, correct_by, no_ok}, FileBlocks.{block_bytes, block_count, block_entry, block_is_file, length-file_block}, Files.{IsHanded, count_fits, count_mono, uses_handed}, Lookups.files_get, Writes.{E_handed, E_long, HasBlock, HasTaken, has_written, old_entry}}
use Rattle.store_model.specs.declared.files.FsError.TheVariants as fs

pub most_is : (size : ℕ) → size ≤ 4096 → most_bytes size ≤ 1008 * 4096
most_is size m = grind arith steps 100000

no_news : (xs : List ℕ) → length xs ≡ 0 → xs ≡ []
no_news [] none = refl
no_news (x ∷ xs) none = absurd (omega arith)

-- NEW BLOCKS
-- `need` blocks were taken, and then the rest of the call was done
record TakesOn (a : FileAreas) (A : Array) (need : ℕ) (next : List ℕ → Call Bool) (r : Bool) : Type 0 where
  news : List ℕ
  X : Array
  taken : HasTaken a A news X
  count : length news ≡ need
  answer : answer_of (next news) X ≡ Ok r
  same : own A (accesses_of (with_new a.files need next) A) ≡ own X (accesses_of (next news) X)

none_taken : (a : FileAreas) (A : Array) → AreFileRegions a A → HasTaken a A [] A
none_taken a A regions = record {
  others = λ b other. refl;
  long = λ b. refl;
  handed = λ k is. absurd is;
  free = λ k is. absurd is;
  apart = tt;
  bits = λ j below. (λ set. inr set, λ is. elim is [ inl never ↦ absurd never | inr set ↦ set ]);
  head = regions.head;
}

module _ (a : FileAreas) (areas : AreFileAreas a) (A : Array) (regions : AreFileRegions a A) where
  abbrev start : ℕ
  start = a.files.start

  abbrev F : List ℕ
  F = block_at A start

  abbrev first : List ℕ
  first = bytes_in (map_mark a.files.blocks) F

  long : length F ≡ a.files.size
  long = let e : start + 0 ≡ start = omega arith in ap (λ (b : ℕ). length (block_at A b)) (sym e) ∙ regions.shape 0 (let l = areas.least in omega arith)

  size_least : 256 ≤ a.files.size
  size_least = let s = areas.size in let l = areas.tree.least_size in omega arith

  room : 64 + map_bytes a.files.blocks ≤ a.files.size
  room = let m = areas.most in let s = size_least in omega arith

  abbrev map_write : List ℕ → Access
  map_write news = store_access start (changed_mark news ∷ []) (changed_map a.files first news)

  clear : (j : ℕ) → j < a.files.blocks → map_bit first j ≡ false → map_bit F j ≡ false
  clear j below is = ap (λ (x : ℕ). Rattle.std.specs.Int.bit_at x (j % 8) == 1) (sym (map_byte a.files F j below)) ∙ is

  some_taken : (need : ℕ) (news : List ℕ) → AreTaken a.files first need news → 1 ≤ need → HasTaken a A news (put A (map_write news))
  some_taken need [] are some = absurd (omega (arith, are.count))
  some_taken need (k ∷ ks) are some =
      let w = map_write (k ∷ ks) in
      let block : block_at (put A w) start ≡ Rattle.iso_model.specs.Array.merged (changed_mark (k ∷ ks) ∷ []) 0 F (changed_map a.files first (k ∷ ks)) = written_block A w in
      let bits = bits_after a.files F long room k ks are.up are.below None in
      record {
        others = λ b other. other_block A w b other;
        long = λ b. length-block_put A w b;
        handed = λ j is. record { some = are.past j is; below = are.below j is };
        free = λ j is. clear j (are.below j is) (are.free j is);
        apart = up_apart 1 (k ∷ ks) are.up;
        bits = λ j below. (
          λ set. (bits j below).0 (ap (λ (m : List ℕ). map_bit m j) (sym block) ∙ set),
          λ is. ap (λ (m : List ℕ). map_bit m j) block ∙ (bits j below).1 is,
        );
        head =
            ap (λ (m : List ℕ). list_all is_zero (take 64 m)) block
            ∙ ap (list_all is_zero) (kept_1 (record { off = 0; len = 64 }) (changed_mark (k ∷ ks)) F (changed_map a.files first (k ∷ ks)) (inl (omega arith))) ∙ regions.head;
      }

  takes_on : (need : ℕ) (next : List ℕ → Call Bool) (r : Bool) → answer_of (with_new a.files need next) A ≡ Ok r → TakesOn a A need next r
  takes_on zero next r e = record { news = []; X = A; taken = none_taken a A regions; count = refl; answer = e; same = refl }
  takes_on (suc more) next r e =
      let free = free_count first 1 (a.files.blocks - 1) in
      let news = take (suc more) (free_list a.files first) in
      let go : Call Bool = first_write a.files first news None (next news) in
      let stop : Call Bool = refuse (fs.Store (NoBlocks (suc more) free)) in
      elim (cases_Bool (nat_lt free (suc more))) [
        | inl few ↦ absurd (no_ok (fs.Store (NoBlocks (suc more) free)) r (ap (λ (t : Bool). answer_of (cond t stop go) A) (sym few) ∙ e))
        | inr enough ↦
            (let are = taken_are a.files first (suc more) (let l = areas.least in omega arith) (grind (arith, nat_tests)) in
            record {
              news = news;
              X = put A (map_write news);
              taken = some_taken (suc more) news are (omega arith);
              count = are.count;
              answer = ap (λ (t : Bool). answer_of (cond t stop go) A) (sym enough) ∙ e;
              same = ap (λ (t : Bool). own A (accesses_of (cond t stop go) A)) enough;
            })
      ]

  -- THE FILE BLOCK AND THE DATA
  module _ (name value : List ℕ) (there : get (tree_map a.tree A) name ≡ Some value) (off : ℕ) (bytes : List ℕ) (low : off ≤ bytes_of (file_at a A (number_of value)))
      (high : off + length bytes ≤ most_bytes a.files.size) (news : List ℕ) (X : Array) (taken : HasTaken a A news X)
      (count : length news ≡ blocks_for a.files.size (off + length bytes) - data_count a.files.size (file_at a A (number_of value))) where
    abbrev number : ℕ
    number = number_of value

    abbrev file : List ℕ
    file = file_at a A number

    abbrev size : ℕ
    size = a.files.size

    abbrev end : ℕ
    end = off + length bytes

    abbrev E : List ℕ
    E = entries_of size file ++ news

    total : length E ≡ data_count size file + length news
    total = E_long a areas A regions name value there news X taken

    most_size : size ≤ 4096
    most_size = let s = areas.size in let b = sizes_of a.tree areas.tree in let m = b.sized.most in omega arith

    small_end : end < 2 ^ 32
    small_end = grind (arith, most_size, most_is) steps 100000

    uses_it : Uses a A name 0 number
    uses_it = record { number = number; named = ap (option_map number_of) there; inside = omega arith; is = refl }

    number_handed : IsHanded a.files.blocks number
    number_handed = uses_handed a A regions name 0 number uses_it

    number_below : number < a.files.blocks
    number_below = number_handed.below

    file_X : file_at a X number ≡ file
    file_X = taken.others (start + number) (λ e. absurd (let s = number_handed.some in omega arith))

    sized_does : (r : Bool) → answer_of (write_sized a.files off bytes number file news) X ≡ Ok r
        → HasFiles a (insert (files a A) name (written off bytes (content a A number))) (own X (accesses_of (write_sized a.files off bytes number file news) X))
    sized_does r e = elim (cases_Bool (nat_lt (bytes_of file) end)) [
      | inl grows ↦
          (let less : bytes_of file < end = grind (arith, nat_tests) in
          let w = store_access (start + number) [] (file_block size end E) in
          let mono = count_mono size (bytes_of file) end (let s = size_least in omega arith) (omega arith) in
          let covers : blocks_for size end ≡ length E = omega (arith, total) in
          let fits : 64 + 4 * length E ≤ size = (let c = count_fits size end size_least high in omega arith) in
          let small : end < 2 ^ 32 = small_end in
          let handed = E_handed a areas A regions name value there news X taken in
          let blocks_small : a.files.blocks < 2 ^ 32 = (let m = areas.most in let s = most_size in omega arith) in
          let each : (i : ℕ) → i < length E → (get_or E i 0 < 2 ^ 32) × (is_handed a.files.blocks (get_or E i 0) ≡ true) = λ i below. (let h = handed i below in let s = h.some in let b = h.below in (omega arith, grind (arith, nat_tests))) in
          let stored : file_at a (put X w) number ≡ file_block size end E =
          written_block X w ∙ laid_whole (block_at X (start + number)) (file_block size end E) (length-file_block size end E fits small ∙ sym (taken.long (start + number) ∙ regions.shape number number_below)) in
          let made : HasBlock a X (put X w) number end E = record {
            others = λ b other. other_block X w b other;
            long = λ b. length-block_put X w b;
            good = ap (is_file a.files) stored ∙ block_is_file size end E fits small a.files refl high covers each;
            bytes = ap bytes_of stored ∙ block_bytes size end E fits small;
            count = ap (data_count size) stored ∙ block_count size end E fits small covers;
            entries = λ i below. ap (λ (f : List ℕ). entry_at f i) stored ∙ block_entry size end E fits small i below (each i below).0;
          } in
          subst (HasFiles a (insert (files a A) name (written off bytes (content a A number))))
          (sym (ap (λ (t : Bool). own X (accesses_of (cond t (Store (start + number) [] (file_block size end E) (write_pieces a.files E (data_count size file) (length bytes) off end bytes))
          (write_pieces a.files (entries_of size file) (data_count size file) (length bytes) off end bytes)) X)) grows))
          (has_written a areas A regions name value there news X taken off bytes low end (put X w) made (omega arith) (omega arith) (inl refl)))
      | inr keeps ↦
          (let past : end ≤ bytes_of file = grind (arith, nat_tests) in
          let mono = count_mono size end (bytes_of file) (let s = size_least in omega arith) past in
          let none : length news ≡ 0 = omega arith in
          let made : HasBlock a X X number (bytes_of file) E = record {
            others = λ b other. refl;
            long = λ b. refl;
            good = ap (is_file a.files) file_X ∙ regions.files name number (ap (option_map number_of) there);
            bytes = ap bytes_of file_X;
            count = ap (data_count size) file_X ∙ (let t = total in omega arith);
            entries = λ i below. ap (λ (f : List ℕ). entry_at f i) file_X ∙ sym (old_entry a areas A regions name value there news X taken i (let t = total in omega arith));
          } in
          let same : E ≡ entries_of size file = ap (λ (xs : List ℕ). entries_of size file ++ xs) (no_news news none) ∙ append-nil (entries_of size file) in
          subst (HasFiles a (insert (files a A) name (written off bytes (content a A number))))
          (sym (ap (λ (t : Bool). own X (accesses_of (cond t (Store (start + number) [] (file_block size end E) (write_pieces a.files E (data_count size file) (length bytes) off end bytes))
          (write_pieces a.files (entries_of size file) (data_count size file) (length bytes) off end bytes)) X)) keeps
          ∙ ap (λ (xs : List ℕ). own X (accesses_of (write_pieces a.files xs (data_count size file) (length bytes) off end bytes) X)) (sym same)))
          (has_written a areas A regions name value there news X taken off bytes low (bytes_of file) X made past (omega arith) (inr refl)))
    ]

-- THE CALL
module _ (a : FileAreas) (areas : AreFileAreas a) (A : Array) (regions : AreFileRegions a A) (name : List ℕ) (key : is_key name ≡ true) (off : ℕ) (bytes : List ℕ) where
  pieces_true : (E : List ℕ) (old most from to : ℕ) (xs : List ℕ) (X : Array) → answer_of (write_pieces a.files E old most from to xs) X ≡ Ok true
  pieces_true E old zero from to xs X = refl
  pieces_true E old (suc most) from to xs X = elim (nat_lt from to) as (λ t. answer_of (cond t
      (Store (a.files.start + get_or E (from / a.files.size) 0) (cond (nat_lt (from / a.files.size) old) (Rattle.store_model.specs.FileNodes.piece_mark a.files.size from to ∷ []) [])
      (Rattle.store_model.specs.Cells.block_with a.files.size (from % a.files.size) (take (Rattle.store_model.specs.FileNodes.piece_len a.files.size from to) xs))
      (write_pieces a.files E old most (from + Rattle.store_model.specs.FileNodes.piece_len a.files.size from to) to (Rattle.std.proofs.Common.drop (Rattle.store_model.specs.FileNodes.piece_len a.files.size from to) xs))) (Done (Ok true))) X ≡ Ok true) [
        | true ↦ pieces_true E old most (from + Rattle.store_model.specs.FileNodes.piece_len a.files.size from to) to (Rattle.std.proofs.Common.drop (Rattle.store_model.specs.FileNodes.piece_len a.files.size from to) xs) (put X _)
        | false ↦ refl
      ]

  sized_true : (number : ℕ) (file news : List ℕ) (X : Array) → answer_of (write_sized a.files off bytes number file news) X ≡ Ok true
  sized_true number file news X = grind (arith, pieces_true) steps 100000

  file_does : (value : List ℕ) → get (tree_map a.tree A) name ≡ Some value → (r : Bool) → answer_of (write_to a.files off bytes (number_of value) (file_at a A (number_of value))) A ≡ Ok r
      → HasDone a (write_op name off bytes (files a A)) (own A (accesses_of (write_to a.files off bytes (number_of value) (file_at a A (number_of value))) A)) r
  file_does value there r e =
      let number = number_of value in
      let file = file_at a A number in
      let end = off + length bytes in
      let need = blocks_for a.files.size end - data_count a.files.size file in
      let next = write_sized a.files off bytes number file in
      let tests = nat_le off (bytes_of file) && nat_le end (most_bytes a.files.size) in
      elim (cases_Bool tests) [
        | inr out ↦ absurd (no_ok fs.BadRange r (ap (λ (t : Bool). answer_of (cond t (with_new a.files need next) (refuse fs.BadRange)) A) (sym out) ∙ e))
        | inl good ↦
            (let both = and_parts (nat_le off (bytes_of file)) (nat_le end (most_bytes a.files.size)) good in
            let on = takes_on a areas A regions need next r (ap (λ (t : Bool). answer_of (cond t (with_new a.files need next) (refuse fs.BadRange)) A) (sym good) ∙ e) in
            let done = sized_does a areas A regions name value there off bytes (leb-true off (bytes_of file) both.0) (leb-true end (most_bytes a.files.size) both.1) on.news on.X on.taken on.count r on.answer in
            let same : own A (accesses_of (cond tests (with_new a.files need next) (refuse fs.BadRange)) A) ≡ own on.X (accesses_of (next on.news) on.X) =
            ap (λ (t : Bool). own A (accesses_of (cond t (with_new a.files need next) (refuse fs.BadRange)) A)) good ∙ on.same in
            let op = ap (write_in name off bytes (files a A)) (files_get a A name ∙ ap (option_map (λ v. content a A (number_of v))) there) in
            subst (λ (D : Array). HasDone a (write_op name off bytes (files a A)) D r) (sym same)
            (record { regions = done.regions; answers = ap (λ x. x.0) op ∙ same_ok true r FsError (sym (sized_true number file on.news on.X) ∙ on.answer); files_are = done.files_are ∙ sym (ap (λ x. x.1) op) }))
      ]

  found_does : (o : Option (List ℕ)) → get (tree_map a.tree A) name ≡ o → (r : Bool) → answer_of (at_file a false (write_to a.files off bytes) o) A ≡ Ok r
      → HasDone a (write_op name off bytes (files a A)) (own A (accesses_of (at_file a false (write_to a.files off bytes) o) A)) r
  found_does None missing r e =
      let op = ap (write_in name off bytes (files a A)) (files_get a A name ∙ ap (option_map (λ v. content a A (number_of v))) missing) in
      record { regions = regions; answers = ap (λ x. x.0) op ∙ same_ok false r FsError e; files_are = sym (ap (λ x. x.1) op) }
  found_does (Some value) there r e =
      subst (λ (D : Array). HasDone a (write_op name off bytes (files a A)) D r) (sym (own_at_file a A regions name value there (write_to a.files off bytes)))
      (file_does value there r (sym (answer_at_file a A regions name value there (write_to a.files off bytes)) ∙ e))

call_does : (a : FileAreas) (name : List ℕ) (off : ℕ) (bytes : List ℕ) (A : Array) → AreFileAreas a → is_key name ≡ true → is_many (length bytes) ≡ true → AreFileRegions a A → (r : Bool) → answer_of (write_program a name off bytes) A ≡ Ok r
    → HasDone a (write_op name off bytes (files a A)) (own A (accesses_of (write_program a name off bytes) A)) r
unfolding write_program
call_does a name off bytes A areas key many regions r e =
    let call : (k m : Bool) → Call Bool = λ k m. cond k (cond m (in_tree (get_program a.tree name) (at_file a false (write_to a.files off bytes))) (refuse fs.BadRange)) (refuse fs.BadName) in
    let found = at_file a false (write_to a.files off bytes) (get (tree_map a.tree A) name) in
    let answer : answer_of (call (is_key name) (is_many (length bytes))) A ≡ answer_of found A =
    (λ i. answer_of (call (key i) (many i)) A) ∙ answer_got a.tree A regions.tree name key (at_file a false (write_to a.files off bytes)) in
    let same : own A (accesses_of (call (is_key name) (is_many (length bytes))) A) ≡ own A (accesses_of found A) =
    (λ i. own A (accesses_of (call (key i) (many i)) A)) ∙ own_got a.tree A regions.tree name key (at_file a false (write_to a.files off bytes)) in
    subst (λ (D : Array). HasDone a (write_op name off bytes (files a A)) D r) (sym same) (found_does a areas A regions name key off bytes (get (tree_map a.tree A) name) refl r (sym answer ∙ e))

-- A write is that of the files.
pub write_correct : (a : FileAreas) (name : List ℕ) (off : ℕ) (bytes : List ℕ) → AreFileAreas a → is_key name ≡ true → is_many (length bytes) ≡ true
    → IsCorrect (AreFileRegions a) (files a) (write_op name off bytes) Ok (write_program a name off bytes)
write_correct a name off bytes areas key many = correct_by a (write_op name off bytes) (write_program a name off bytes) (λ B r regions e. call_does a name off bytes B areas key many regions r e)
