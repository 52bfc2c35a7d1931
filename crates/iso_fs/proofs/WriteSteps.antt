-- A write, part by part.
use Rattle.iso_fs.proofs.{Words.{◌≡◌, ◌∙◌, sym, refl, ap, subst, ℕ, zero, suc, ◌+◌, ◌-◌, ◌*◌, ◌/◌, ◌%◌, ◌<◌, ◌≤◌, ◌&&◌, Bool, true, false, not, cond, List, [], ◌∷◌, ◌++◌, length, take, drop, get_or, nat_le, None, Result, Ok, Err, IfOk, arith, nat_lt, slice_index, filter, range_with_len, nat_tests, append-nil, drop-drop, get_or-append_right, get_or_append_left, take_rest, get_or-map-range_with_len, length-map-range_with_len, mul-le-mul_right, Access, Span, own, Area, TxError, FsError, FileAreas, FsRegion, block_with, free_count, map_bit, map_mark, is_key, Done, Store, bytes_in, store_access, first_write, free_list, get_program, IsTreeArea, blocks_for, bytes_of, data_count, entries_of, entry_at, file_block, is_file, most_bytes, piece_len, piece_mark, Call, at_file, goes_on, in_tree, is_many, look_map, refuse, with_new, write_op, write_pieces, write_program, write_sized, write_to, AreFileAreas, AreFileRegions, files, Tx, Device, IsTx, with_accesses, IsCause, IsLocalCall, HasAccess, IsAt, at_start, at_store, ran_at, cut_at_store, at_as, AreBlocks, free_same, taken_same, taken_are, HasRun, areas_of, with_taken, Up, blocks_from, Region, div-lt_iff_lt-mul}, CreateSteps.have_blocks, Ended.{has_then, call_local}, Files.{count_covers, entry_handed, file_parts}, Finding.get_has, Lefts.HasLeft, WriteWhole.write_local}
use Rattle.store_model.specs.declared.stores.StoreError.TheVariants as store
use Rattle.store_model.specs.declared.files.FsError.TheVariants as fs

-- THE NUMBERS OF THE DATA BLOCKS
module _ (a : Area) (file news : List ℕ) (count : ℕ) (count_is : count ≡ data_count a.size file) where
  entries_long : length (entries_of a.size file) ≡ count
  entries_long = length-map-range_with_len (entry_at file) 0 (data_count a.size file) ∙ sym count_is

  pub number_old : (place : ℕ) → place < count → slice_index (entries_of a.size file ++ news) place ≡ entry_at file place
  number_old place below =
      get_or_append_left (entries_of a.size file) news 0 place (omega (arith, entries_long, below)) ∙ get_or-map-range_with_len (entry_at file) 0 (data_count a.size file) place place 0 (omega (arith, count_is, below)) (omega arith)

  pub number_new : (place : ℕ) → count ≤ place → slice_index (entries_of a.size file ++ news) place ≡ get_or news (place - count) 0
  number_new place past = get_or-append_right (entries_of a.size file) news count place 0 entries_long past

pub old_below : (a : Area) (file : List ℕ) (place : ℕ) → is_file a file ≡ true → place < data_count a.size file → entry_at file place < a.blocks
old_below a file place good below = (entry_handed a file (file_parts a file good) place below).below

pub news_below : (a : Area) (news : List ℕ) (i : ℕ) → AreBlocks a news → i < length news → get_or news i 0 < a.blocks
news_below a [] i all below = absurd (omega arith)
news_below a (k ∷ ks) zero all below = all.0
news_below a (k ∷ ks) (suc i) all below = news_below a ks i all.1 (omega arith)

-- ONE PIECE
abbrev step_of : Area → (E : List ℕ) → (old from to : ℕ) → (bytes : List ℕ) → (most : ℕ) → Call Bool
step_of a E old from to bytes most =
    Store (a.start + slice_index E (from / a.size)) (cond (nat_lt (from / a.size) old) (piece_mark a.size from to ∷ []) []) (block_with a.size (from % a.size) (take (piece_len a.size from to) bytes))
    (write_pieces a E old most (from + piece_len a.size from to) to (drop (piece_len a.size from to) bytes))

module _ (a : Area) (E : List ℕ) (old from to : ℕ) (bytes : List ℕ) (less : from < to) (t : Tx) where
  abbrev piece : ℕ → Call Bool
  piece most = step_of a E old from to bytes most

  as_piece : (most : ℕ) → write_pieces a E old (suc most) from to bytes ≡ piece most
  as_piece most = (let test : nat_lt from to ≡ true = grind (arith, nat_tests) in ap (λ (b : Bool). cond b (piece most) (Done (Ok true))) test)

  at_piece : (most : ℕ) → IsAt (write_pieces a E old (suc most) from to bytes) (piece most) t t
  at_piece most = at_as (write_pieces a E old (suc most) from to bytes) (write_pieces a E old (suc most) from to bytes) (piece most) t t (as_piece most) (at_start (write_pieces a E old (suc most) from to bytes) t)

  module _ (u : Tx) (number : ℕ) (span : Span) (laid : List ℕ) (is_old : Bool) (number_is : number ≡ slice_index E (from / a.size)) (span_is : span ≡ piece_mark a.size from to)
      (laid_is : laid ≡ block_with a.size span.off (take span.len bytes)) (old_is : is_old ≡ nat_lt (from / a.size) old) where
    access_is : store_access (a.start + number) (cond is_old (span ∷ []) []) laid
        ≡ store_access (a.start + slice_index E (from / a.size)) (cond (nat_lt (from / a.size) old) (piece_mark a.size from to ∷ []) []) (block_with a.size (from % a.size) (take (piece_len a.size from to) bytes))
    access_is =
        (λ i. store_access (a.start + number_is i) (cond (old_is i) (span_is i ∷ []) []) laid)
        ∙ ap (store_access (a.start + slice_index E (from / a.size)) (cond (nat_lt (from / a.size) old) (piece_mark a.size from to ∷ []) []))
        (laid_is ∙ ap (λ (s : Span). block_with a.size s.off (take s.len bytes)) span_is)

    pub piece_done : IsTx u → u ≡ with_accesses t (store_access (a.start + number) (cond is_old (span ∷ []) []) laid ∷ []) → (most : ℕ)
        → IsAt (write_pieces a E old (suc most) from to bytes) (write_pieces a E old most (from + span.len) to (drop span.len bytes)) t u
    piece_done tx is most =
        let whole = write_pieces a E old (suc most) from to bytes in
        subst (λ (n : ℕ). IsAt whole (write_pieces a E old most (from + n) to (drop n bytes)) t u) (sym (ap (λ (s : Span). s.len) span_is))
        (at_store whole (a.start + slice_index E (from / a.size)) (cond (nat_lt (from / a.size) old) (piece_mark a.size from to ∷ []) []) (block_with a.size (from % a.size) (take (piece_len a.size from to) bytes))
        (write_pieces a E old most (from + piece_len a.size from to) to (drop (piece_len a.size from to) bytes)) t t u (at_piece most) tx.count (is ∙ ap (λ (x : Access). with_accesses t (x ∷ [])) access_is))

  pub piece_refused : (v : Tx) (before now : Device) (e : TxError) → v ≡ t → IsCause v 1 before now e → (most : ℕ) → HasRun (write_pieces a E old (suc most) from to bytes) t v (Err (fs.Store (store.Tx e)))
  piece_refused v before now e same cause most =
      cut_at_store (write_pieces a E old (suc most) from to bytes) (a.start + slice_index E (from / a.size)) (cond (nat_lt (from / a.size) old) (piece_mark a.size from to ∷ []) []) (block_with a.size (from % a.size) (take (piece_len a.size from to) bytes))
      (write_pieces a E old most (from + piece_len a.size from to) to (drop (piece_len a.size from to) bytes)) t t v before now e (at_piece most) same cause

-- ALL PIECES
over : (a : Area) (E : List ℕ) (old most at to : ℕ) (bytes : List ℕ) → to ≤ at → write_pieces a E old most at to bytes ≡ Done (Ok true)
over a E old zero at to bytes past = refl
over a E old (suc most) at to bytes past = let test : nat_lt at to ≡ false = grind (arith, nat_tests) in ap (λ (b : Bool). cond b (step_of a E old at to bytes most) (Done (Ok true))) test

pub all_written : {whole : Call Bool} {left : ℕ} {t u : Tx} (a : Area) (E : List ℕ) (old at to : ℕ) (bytes : List ℕ) → to ≤ at → HasLeft whole (λ most. write_pieces a E old most at to bytes) left t u → HasRun whole t u (Ok true)
all_written {whole = whole} {t = t} {u = u} a E old at to bytes past has =
    ran_at whole t u (Ok true) (at_as whole (write_pieces a E old has.most at to bytes) (Done (Ok true)) t u (over a E old has.most at to bytes past) has.here)

pub left_whole : (a : Area) (E : List ℕ) (old from to : ℕ) (bytes : List ℕ) (t : Tx) → length bytes ≡ to - from → HasLeft (write_pieces a E old (length bytes) from to bytes) (λ most. write_pieces a E old most from to (drop (from - from) bytes)) (to - from) t t
left_whole a E old from to bytes t is =
    let whole = write_pieces a E old (length bytes) from to bytes in
    let none : from - from ≡ 0 = omega arith in
    record {
      most = length bytes;
      fits = omega (arith, is);
      here = subst (λ (xs : List ℕ). IsAt whole (write_pieces a E old (length bytes) from to xs) t t) (sym (ap (λ (n : ℕ). drop n bytes) none)) (at_start whole t);
    }

-- THE FILE BLOCK
module _ (a : Area) (off number : ℕ) (bytes file news : List ℕ) where
  abbrev end : ℕ
  end = off + length bytes

  abbrev E : List ℕ
  E = entries_of a.size file ++ news

  abbrev grown : Call Bool
  grown = Store (a.start + number) [] (file_block a.size end E) (write_pieces a E (data_count a.size file) (length bytes) off end bytes)

  abbrev kept : Call Bool
  kept = write_pieces a (entries_of a.size file) (data_count a.size file) (length bytes) off end bytes

  pub as_grown : (n : ℕ) (laid : List ℕ) → n ≡ data_count a.size file → laid ≡ file_block a.size (off + length bytes) (entries_of a.size file ++ news) → bytes_of file < off + length bytes
      → write_sized a off bytes number file news ≡ Store (a.start + number) [] laid (write_pieces a (entries_of a.size file ++ news) n (length bytes) off (off + length bytes) bytes)
  as_grown n laid count laid_is less =
      let test : nat_lt (bytes_of file) end ≡ true = grind (arith, nat_tests) in
      ap (λ (b : Bool). cond b grown kept) test ∙ (λ i. Store (a.start + number) [] (sym laid_is i) (write_pieces a E (sym count i) (length bytes) off end bytes))

  pub as_kept : (n : ℕ) → n ≡ data_count a.size file → off + length bytes ≤ bytes_of file → news ≡ []
      → write_sized a off bytes number file news ≡ write_pieces a (entries_of a.size file ++ news) n (length bytes) off (off + length bytes) bytes
  as_kept n count past none =
      let test : nat_lt (bytes_of file) end ≡ false = grind (arith, nat_tests) in
      let same : entries_of a.size file ≡ E = sym (ap (λ (n : List ℕ). entries_of a.size file ++ n) none ∙ append-nil (entries_of a.size file)) in
      ap (λ (b : Bool). cond b grown kept) test ∙ (λ i. write_pieces a (same i) (sym count i) (length bytes) off end bytes)

-- THE WHOLE CALL
pub write_as : (a : FileAreas) (name : List ℕ) (off : ℕ) (bytes : List ℕ) → is_key name ≡ true → is_many (length bytes) ≡ true → write_program a name off bytes ≡ in_tree (get_program a.tree name) (at_file a false (write_to a.files off bytes))
unfolding write_program
write_as a name off bytes key many =
    (λ i. cond (key i) (cond (many i) (in_tree (get_program a.tree name) (at_file a false (write_to a.files off bytes))) (refuse fs.BadRange)) (refuse fs.BadName))

pub write_has : (a : FileAreas) (name : List ℕ) (off : ℕ) (bytes : List ℕ) → is_key name ≡ true → is_many (length bytes) ≡ true → HasAccess (write_program a name off bytes)
write_has a name off bytes key many =
    subst (λ (p : Call Bool). HasAccess p) (sym (write_as a name off bytes key many)) (has_then (get_program a.tree name) (goes_on (at_file a false (write_to a.files off bytes))) (get_has a.tree name key))

pub write_bad_name : (a : FileAreas) (name : List ℕ) (off : ℕ) (bytes : List ℕ) (t : Tx) → is_key name ≡ false → HasRun (write_program a name off bytes) t t (Err fs.BadName)
unfolding write_program
write_bad_name a name off bytes t not_key = rw not_key (ran_at (refuse fs.BadName) t t (Err fs.BadName) (at_start (refuse fs.BadName) t))

pub write_bad_range : (a : FileAreas) (name : List ℕ) (off : ℕ) (bytes : List ℕ) (t : Tx) → is_key name ≡ true → is_many (length bytes) ≡ false → HasRun (write_program a name off bytes) t t (Err fs.BadRange)
unfolding write_program
write_bad_range a name off bytes t key few = rw (key, few) (ran_at (refuse fs.BadRange) t t (Err fs.BadRange) (at_start (refuse fs.BadRange) t))

pub write_call : (t u : Tx) (at : FsRegion) (name : List ℕ) (off : ℕ) (bytes : List ℕ) (result : Result Bool FsError) → IsTx t → AreFileAreas (areas_of t at) → at.files.start + at.files.size ≤ t.blocks → is_key name ≡ true → is_many (length bytes) ≡ true
    → HasRun (write_program (areas_of t at) name off bytes) t u result → IfOk result (IsLocalCall (AreFileRegions (areas_of t at)) (files (areas_of t at)) (write_op name off bytes) t u)
write_call t u at name off bytes result tx areas fits key many run =
    let a = areas_of t at in
    call_local (AreFileRegions a) (files a) (write_op name off bytes) (write_program a name off bytes) t u result run (λ A x told is. write_local a name off bytes (own A t.accesses) x areas (have_blocks t at A tx areas fits told) key many is)

-- THE BYTES THAT ARE LEFT
pub rest_is : (bytes rest : List ℕ) (from at to : ℕ) → from ≤ at → at ≤ to → length bytes ≡ to - from → rest ≡ take (to - at) (drop (at - from) bytes) → rest ≡ drop (at - from) bytes
rest_is bytes rest from at to low up long is =
    let e : to - at ≡ length bytes - (at - from) = omega (arith, low, up, long) in
    is ∙ ap (λ (n : ℕ). take n (drop (at - from) bytes)) e ∙ take_rest bytes (at - from)

pub rest_more : (bytes rest : List ℕ) (from at n : ℕ) → from ≤ at → rest ≡ drop (at - from) bytes → drop n rest ≡ drop (at + n - from) bytes
rest_more bytes rest from at n low is =
    let e : at - from + n ≡ at + n - from = omega arith in
    ap (drop n) is ∙ drop-drop n (at - from) bytes ∙ ap (λ (k : ℕ). drop k bytes) e

-- HOW MANY BLOCKS
pub place_covered : (size from to count : ℕ) → 0 < size → from < to → to ≤ count * size → from / size < count
place_covered size from to count some less covered = (div-lt_iff_lt-mul {k = size} {x = from} {y = count} some).1 (omega (arith, less, covered))

pub covered_by : (size end count : ℕ) → 0 < size → count ≡ blocks_for size end → end ≤ count * size
covered_by size end count some is = subst (λ (n : ℕ). end ≤ n * size) (sym is) (count_covers size end some)

pub covered_old : (size end bytes old more : ℕ) → 0 < size → old ≡ blocks_for size bytes → end ≤ bytes → end ≤ (old + more) * size
covered_old size end bytes old more some is past =
    let two : old * size ≤ (old + more) * size = mul-le-mul_right size (omega arith) in
    omega (arith, (covered_by size bytes old some is), two, past)

-- NEW BLOCKS
-- the blocks that were taken, and what is done with them
pub record AreNew (a : Area) (need : ℕ) (next : List ℕ → Call Bool) (F news : List ℕ) : Type 0 where
  pub up : Up 1 news
  pub blocks : AreBlocks a news
  pub is : with_taken a need next (bytes_in (map_mark a.blocks) F) ≡ first_write a (bytes_in (map_mark a.blocks) F) news None (next news)

module _ (a : Area) (area : IsTreeArea a) (F : List ℕ) (need free : ℕ) (region : Region) (region_is : region ≡ record { start = a.start; size = a.blocks }) (free_is : free ≡ free_count F 1 (region.size - 1)) (next : List ℕ → Call Bool) where
  abbrev first : List ℕ
  first = bytes_in (map_mark a.blocks) F

  abbrev taken : List ℕ
  taken = take need (free_list a first)

  abbrev go : Call Bool
  go = first_write a first taken None (next taken)

  abbrev stop : Call Bool
  stop = refuse (fs.Store (store.NoBlocks need (free_count first 1 (a.blocks - 1))))

  free_are : free ≡ free_count first 1 (a.blocks - 1)
  free_are = free_is ∙ ap (λ (r : Region). free_count F 1 (r.size - 1)) region_is ∙ sym (free_same a area F)

  pub few_is : free < need → with_taken a need next (bytes_in (map_mark a.blocks) F) ≡ refuse (fs.Store (store.NoBlocks need free))
  few_is few =
      let e = free_are in
      let test : nat_lt (free_count first 1 (a.blocks - 1)) need ≡ true = grind (arith, nat_tests) in
      ap (λ (b : Bool). cond b stop go) test ∙ (λ i. refuse (fs.Store (store.NoBlocks need (sym e i))))

  pub new_are : (news : List ℕ) (again : Region) → again ≡ record { start = a.start; size = a.blocks } → need ≤ free → news ≡ take need (filter (λ k. not (map_bit F k)) (range_with_len 1 (again.size - 1))) → AreNew a need next F news
  new_are news again again_is enough is =
      let l = area.least in
      let e = free_are in
      let mine : news ≡ taken = is ∙ ap (λ (r : Region). take need (filter (λ k. not (map_bit F k)) (range_with_len 1 (r.size - 1)))) again_is ∙ sym (taken_same a area F need) in
      let all = taken_are a first need (omega arith) (omega (arith, enough, e)) in
      let test : nat_lt (free_count first 1 (a.blocks - 1)) need ≡ false = grind (arith, nat_tests) in
      record {
        up = subst (Up 1) (sym mine) all.up;
        blocks = subst (AreBlocks a) (sym mine) (blocks_from a taken all.below);
        is = ap (λ (b : Bool). cond b stop go) test ∙ ap (λ (n : List ℕ). first_write a first n None (next n)) (sym mine);
      }

-- THE MAP
pub new_as : (a : Area) (need : ℕ) (next : List ℕ → Call Bool) → 1 ≤ need → with_new a need next ≡ look_map a (with_taken a need next)
new_as a zero next some = absurd (omega arith)
new_as a (suc more) next some = refl

-- THE TEST OF THE RANGE
pub range_bad : (a : Area) (off number : ℕ) (bytes file : List ℕ) → (nat_le off (bytes_of file) && nat_le (off + length bytes) (most_bytes a.size)) ≡ false → write_to a off bytes number file ≡ refuse fs.BadRange
range_bad a off number bytes file bad =
    ap (λ (b : Bool). cond b (with_new a (blocks_for a.size (off + length bytes) - data_count a.size file) (write_sized a off bytes number file)) (refuse fs.BadRange)) bad

pub many_is : (bytes : List ℕ) → 1 ≤ length bytes → length bytes ≤ 4096 → is_many (length bytes) ≡ true
many_is bytes some few = grind (arith, nat_tests)

pub off_bad : (off bytes : ℕ) (b : Bool) → bytes < off → (nat_le off bytes && b) ≡ false
off_bad off bytes b past = let low : nat_le off bytes ≡ false = grind (arith, nat_tests) in ap (λ (t : Bool). t && b) low

pub size_bad : (a b : Bool) → b ≡ false → (a && b) ≡ false
size_bad true b is = is
size_bad false b is = refl
