-- A write writes whole blocks, on whatever array, and is local.
use Rattle.iso_fs.proofs.{Words.{AreTaken, changed_map, length-changed, length-block_with, ◌≡◌, ◌∙◌, sym, refl, ap, subst, ℕ, zero, suc, ◌+◌, ◌-◌, ◌*◌, ◌/◌, ◌%◌, ◌^◌, ◌<◌, ◌≤◌, ◌==◌, ◌&&◌, Bool, true, false, cond, List, [], ◌∷◌, ◌++◌, length, get_or, take, drop, nat_le, Option, Some, None, Ok, arith, inl, inr, length-append, nat_lt, and_parts, cases_Bool, cases_lt, leb-true, nat_tests, get_or-append_right, get_or_append_left, length-drop, length-take-le, get_or-map-range_with_len, length-map-range_with_len, div-lt_iff_lt-mul, NoBlocks, Array, put, free_count, map_mark, is_key, IsIn, block_at, Done, IsLocal, LookWhole, accesses_of, answer_of, bytes_in, first_write, free_list, get_program, AreWhole, local_from, nothing_is, sizes_of, taken_are, FileAreas, blocks_for, bytes_of, data_count, entries_of, entry_at, file_block, is_file, is_handed, is_number, most_bytes, number_of, piece_len, at_file, broken, in_tree, is_many, refuse, with_new, write_op, write_pieces, write_program, write_sized, write_to, AreFileAreas, AreFileRegions, file_at, files}, AfterTree.whole_behind_get, CreateCalls.HaveBlocks, FileBlocks.{length-file_block, place_in}, Files.{FileParts, count_covers, count_fits, count_mono, entry_handed, file_parts, handed_is}, Pieces.piece_is, WriteCalls.{most_is, write_correct}, WritePieces.both}
use Rattle.store_model.specs.declared.files.FsError.TheVariants as fs

module _ (a : FileAreas) (areas : AreFileAreas a) (A : Array) (shape : HaveBlocks a A) where
  abbrev start : ℕ
  start = a.files.start

  abbrev size : ℕ
  size = a.files.size

  size_least : 256 ≤ size
  size_least = let s = areas.size in let l = areas.tree.least_size in omega arith

  most_size : size ≤ 4096
  most_size = let s = areas.size in let b = sizes_of a.tree areas.tree in let m = b.sized.most in omega arith

  first_size : length (block_at A start) ≡ size
  first_size = let e : start + 0 ≡ start = omega arith in ap (λ (b : ℕ). length (block_at A b)) (sym e) ∙ shape.files 0 (let x = areas.least in omega arith)

  pieces_whole : (E : List ℕ) (old to : ℕ) → ((i : ℕ) → i < length E → get_or E i 0 < a.files.blocks) → to ≤ length E * size → (most from : ℕ) (bytes : List ℕ) (X : Array) → length bytes ≡ to - from
      → AreWhole A (accesses_of (write_pieces a.files E old most from to bytes) X)
  pieces_whole E old to below inside zero from bytes X whole = tt
  pieces_whole E old to below inside (suc most) from bytes X whole = elim (cases_lt from to) [
    | inr past ↦
        (let test : nat_lt from to ≡ false = grind (arith, nat_tests) in
        subst (λ (t : Bool). AreWhole A (accesses_of (cond t (both a.files E old most from to bytes) (Done (Ok true))) X)) (sym test) tt)
    | inl less ↦
        (let test : nat_lt from to ≡ true = grind (arith, nat_tests) in
        let some : 0 < size = (let l = size_least in omega arith) in
        let is = piece_is size from to some less in
        let place : from / size < length E = (div-lt_iff_lt-mul {k = size} {x = from} {y = length E} some).1 (omega arith) in
        let n = piece_len size from to in
        let piece_long : length (take n bytes) ≡ n = length-take-le n bytes (omega arith) in
        subst (λ (t : Bool). AreWhole A (accesses_of (cond t (both a.files E old most from to bytes) (Done (Ok true))) X)) (sym test) (
          λ write. length-block_with size (from % size) (take n bytes) (omega (arith, piece_long)) ∙ sym (shape.files (get_or E (from / size) 0) (below (from / size) place)),
          pieces_whole E old to below inside most (from + n) (drop n bytes) (put X _) (omega (arith, length-drop n bytes)),
        ))
  ]

  map_long : (need : ℕ) (news : List ℕ) → AreTaken a.files (bytes_in (map_mark a.files.blocks) (block_at A start)) need news → 1 ≤ need
      → length (changed_map a.files (bytes_in (map_mark a.files.blocks) (block_at A start)) news) ≡ size
  map_long need [] are some = absurd (omega (arith, are.count))
  map_long need (k ∷ ks) are some = length-changed a.files (block_at A start) first_size (let m = areas.most in let s = size_least in omega arith) k ks are.up are.below

  module _ (number : ℕ) (inside : number < a.files.blocks) (file : List ℕ) (good : is_file a.files file ≡ true) (off : ℕ) (bytes : List ℕ) (low : off ≤ bytes_of file) (high : off + length bytes ≤ most_bytes size) where
    abbrev K : ℕ
    K = data_count size file

    abbrev entries : List ℕ
    entries = entries_of size file

    abbrev end : ℕ
    end = off + length bytes

    parts : FileParts a.files file
    parts = file_parts a.files file good

    entries_long : length entries ≡ K
    entries_long = length-map-range_with_len (entry_at file) 0 K

    old_below : (i : ℕ) → i < K → get_or entries i 0 < a.files.blocks
    old_below i below = subst (λ (n : ℕ). n < a.files.blocks) (sym (get_or-map-range_with_len (entry_at file) 0 K i i 0 below (omega arith))) (entry_handed a.files file parts i below).below

    small_end : end < 2 ^ 32
    small_end = let m = most_is size most_size in omega arith

    sized_whole : (news : List ℕ) → ((k : ℕ) → IsIn k news → k < a.files.blocks) → length news ≡ blocks_for size end - K → (X : Array) → AreWhole A (accesses_of (write_sized a.files off bytes number file news) X)
    sized_whole news new_below count X =
        let some : 0 < size = (let l = size_least in omega arith) in
        let E = entries ++ news in
        let total : length E ≡ K + length news = omega (arith, length-append entries news, entries_long) in
        let below : (i : ℕ) → i < length E → get_or E i 0 < a.files.blocks = λ i here. elim (cases_lt i K) [
          | inl young ↦ subst (λ (n : ℕ). n < a.files.blocks) (sym (get_or_append_left entries news 0 i (omega (arith, entries_long)))) (old_below i young)
          | inr past ↦ subst (λ (n : ℕ). n < a.files.blocks) (sym (get_or-append_right entries news K i 0 entries_long past)) (new_below (get_or news (i - K) 0) (place_in news (i - K) (omega (arith, total))))
        ] in
        let left : length bytes ≡ end - off = omega arith in
        elim (cases_Bool (nat_lt (bytes_of file) end)) [
          | inl grows ↦
              (let less : bytes_of file < end = grind (arith, nat_tests) in
              let mono = count_mono size (bytes_of file) end some (omega arith) in
              let all : blocks_for size end ≡ length E = omega (arith, total) in
              let fits : 64 + 4 * length E ≤ size = (let c = count_fits size end size_least high in omega arith) in
              let covers : end ≤ length E * size = subst (λ (n : ℕ). end ≤ n * size) all (count_covers size end some) in
              subst (λ (t : Bool). AreWhole A (accesses_of (cond t (Rattle.store_model.specs.Stores.Store (start + number) [] (file_block size end E) (write_pieces a.files E K (length bytes) off end bytes))
              (write_pieces a.files entries K (length bytes) off end bytes)) X)) (sym grows) (
                λ write. length-file_block size end E fits small_end ∙ sym (shape.files number inside),
                pieces_whole E K end below covers (length bytes) off bytes (put X _) left,
              ))
          | inr keeps ↦
              (let past : end ≤ bytes_of file = grind (arith, nat_tests) in
              let top = count_covers size (bytes_of file) some in
              let covers : end ≤ length entries * size = subst (λ (n : ℕ). end ≤ n * size) (sym entries_long) (omega arith) in
              subst (λ (t : Bool). AreWhole A (accesses_of (cond t (Rattle.store_model.specs.Stores.Store (start + number) [] (file_block size end E) (write_pieces a.files E K (length bytes) off end bytes))
              (write_pieces a.files entries K (length bytes) off end bytes)) X)) (sym keeps)
              (pieces_whole entries K end (λ i here. old_below i (omega (arith, entries_long))) covers (length bytes) off bytes X left))
        ]

    new_whole : (need : ℕ) → need ≡ blocks_for size end - K → AreWhole A (accesses_of (with_new a.files need (write_sized a.files off bytes number file)) A)
    new_whole zero is = sized_whole [] (λ k never. absurd never) is A
    new_whole (suc more) is =
        let first = bytes_in (map_mark a.files.blocks) (block_at A start) in
        let free = free_count first 1 (a.files.blocks - 1) in
        let news = take (suc more) (free_list a.files first) in
        let next = write_sized a.files off bytes number file in (
          λ write. absurd (nothing_is write),
          elim (cases_Bool (nat_lt free (suc more))) [
            | inl few ↦ subst (λ (t : Bool). AreWhole A (accesses_of (cond t (refuse (fs.Store (NoBlocks (suc more) free))) (first_write a.files first news None (next news))) A)) (sym few) tt
            | inr enough ↦
                (let are = taken_are a.files first (suc more) (let l = areas.least in omega arith) (grind (arith, nat_tests)) in
                subst (λ (t : Bool). AreWhole A (accesses_of (cond t (refuse (fs.Store (NoBlocks (suc more) free))) (first_write a.files first news None (next news))) A)) (sym enough)
                (λ write. map_long (suc more) news are (omega arith) ∙ sym first_size, sized_whole news are.below (are.count ∙ is) (put A _)))
          ],
        )

  -- where the tests fail there is no write
  to_whole : (number : ℕ) → number < a.files.blocks → (file : List ℕ) → is_file a.files file ≡ true → (off : ℕ) (bytes : List ℕ) → AreWhole A (accesses_of (write_to a.files off bytes number file) A)
  to_whole number inside file good off bytes =
      let end = off + length bytes in
      let go = with_new a.files (blocks_for size end - data_count size file) (write_sized a.files off bytes number file) in
      elim (cases_Bool (nat_le off (bytes_of file) && nat_le end (most_bytes size))) [
        | inr out ↦ subst (λ (t : Bool). AreWhole A (accesses_of (cond t go (refuse fs.BadRange)) A)) (sym out) tt
        | inl both_good ↦
            (let two = and_parts (nat_le off (bytes_of file)) (nat_le end (most_bytes size)) both_good in
            subst (λ (t : Bool). AreWhole A (accesses_of (cond t go (refuse fs.BadRange)) A)) (sym both_good)
            (new_whole number inside file good off bytes (leb-true off (bytes_of file) two.0) (leb-true end (most_bytes size) two.1) (blocks_for size end - data_count size file) refl))
      ]

  found_whole : (off : ℕ) (bytes : List ℕ) (o : Option (List ℕ)) → AreWhole A (accesses_of (at_file a false (write_to a.files off bytes) o) A)
  found_whole off bytes None = tt
  found_whole off bytes (Some value) =
      let number = number_of value in
      let file = file_at a A number in
      elim (is_number a.files value) as (λ t. is_number a.files value ≡ t
      → AreWhole A (accesses_of (cond t (LookWhole (start + number) (λ xs. cond (is_file a.files xs) (write_to a.files off bytes number xs) (broken (start + number)))) (broken a.tree.start)) A)) [
        | false ↦ λ e. tt
        | true ↦ λ e.
            (let handed = handed_is a.files.blocks number (and_parts (length value == 4) (is_handed a.files.blocks number) e).1 in (
              λ write. absurd (nothing_is write),
              elim (is_file a.files file) as (λ t. is_file a.files file ≡ t → AreWhole A (accesses_of (cond t (write_to a.files off bytes number file) (broken (start + number))) A)) [
                | true ↦ λ good. to_whole number handed.below file good off bytes
                | false ↦ λ not. tt
              ] refl,
            ))
      ] refl

write_whole : (a : FileAreas) (name : List ℕ) (off : ℕ) (bytes : List ℕ) (A : Array) → AreFileAreas a → HaveBlocks a A → is_key name ≡ true → is_many (length bytes) ≡ true → AreWhole A (accesses_of (write_program a name off bytes) A)
unfolding write_program
write_whole a name off bytes A areas shape key many =
    subst (λ (k : Bool). AreWhole A (accesses_of (cond k (cond (is_many (length bytes)) (in_tree (get_program a.tree name) (at_file a false (write_to a.files off bytes))) (refuse fs.BadRange)) (refuse fs.BadName)) A)) (sym key)
    (subst (λ (m : Bool). AreWhole A (accesses_of (cond m (in_tree (get_program a.tree name) (at_file a false (write_to a.files off bytes))) (refuse fs.BadRange)) A)) (sym many)
    (whole_behind_get a.tree A name (at_file a false (write_to a.files off bytes)) (found_whole a areas A shape off bytes)))

-- A write is local.
pub write_local : (a : FileAreas) (name : List ℕ) (off : ℕ) (bytes : List ℕ) (A : Array) (r : Bool) → AreFileAreas a → HaveBlocks a A → is_key name ≡ true → is_many (length bytes) ≡ true → answer_of (write_program a name off bytes) A ≡ Ok r
    → IsLocal (AreFileRegions a) (files a) (write_op name off bytes) A (accesses_of (write_program a name off bytes) A) r
write_local a name off bytes A r areas shape key many e =
    local_from (AreFileRegions a) (files a) (write_op name off bytes) Ok (write_program a name off bytes) A r (write_correct a name off bytes areas key many) (write_whole a name off bytes A areas shape key many) e
