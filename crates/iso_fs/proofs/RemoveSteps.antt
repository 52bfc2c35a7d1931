-- A removal, part by part.
use Rattle.iso_fs.proofs.{Words.{◌≡◌, ◌∙◌, sym, refl, ap, ℕ, ◌+◌, ◌-◌, ◌*◌, ◌<◌, ◌≤◌, Bool, true, false, cond, List, [], ◌∷◌, length, take, drop, get_or, set, Result, Err, IfOk, arith, inl, inr, map, range_with_len, drop-take, get_or-take, take-take, own, Span, Area, FsError, FileAreas, FsRegion, block_with, bit_place, clear_bit, map_bytes, map_mark, without_bit, is_key, IsIn, bytes_in, store_access, get_program, IsTreeArea, data_count, entries_of, entry_at, is_file, at_file, bits_mark, high_place, in_tree, low_place, refuse, remove_file, remove_op, remove_program, without_bits, AreFileAreas, AreFileRegions, files, Tx, IsTx, IsLocalCall, HasAccess, at_start, ran_at, take-set-lt, HasRun, areas_of, ArePlaces}, CreateSteps.have_blocks, Ended.{has_then, call_local}, Files.{entry_handed, file_parts}, Finding.get_has, MapLaid.{high_below, high_is, low_is}, RemoveCalls.remove_local, Removes.in_range_map}
use Rattle.store_model.specs.declared.files.FsError.TheVariants as fs

-- THE NUMBERS THAT ARE LEFT
abbrev pub entries_from : (file : List ℕ) → (i count : ℕ) → List ℕ
entries_from file i count = map (entry_at file) (range_with_len i (count - i))

pub entries_step : (file : List ℕ) (i count : ℕ) → i < count → entries_from file i count ≡ entry_at file i ∷ entries_from file (i + 1) count
entries_step file i count less = grind arith steps 100000

pub bits_inside : (a : Area) (number : ℕ) (file : List ℕ) → number < a.blocks → is_file a file ≡ true → (j : ℕ) → IsIn j (number ∷ entries_of a.size file) → j < a.blocks
bits_inside a number file below good j (inl at) = omega (arith, at)
bits_inside a number file below good j (inr is) =
    let which = in_range_map (entry_at file) 0 (data_count a.size file) j is in
    let handed = entry_handed a file (file_parts a file good) which.0 (omega (arith, which.2)) in
    omega (arith, handed.below, which.3)

pub places_are : (a : Area) (number : ℕ) (file : List ℕ) → 2 ≤ a.blocks → a.blocks ≤ 8 * (a.size - 64) → number < a.blocks → is_file a file ≡ true
    → ArePlaces a (low_place number (entries_of a.size file)) (high_place number (entries_of a.size file))
places_are a number file least most below good =
    let es = entries_of a.size file in
    record {
      rising = omega (arith, (low_is number es number (inl refl)), (high_is number es number (inl refl)));
      inside = high_below number es (64 + map_bytes a.blocks) (λ j is. let b = bits_inside a number file below good j is in omega (arith, b));
      fits = omega (arith, least, most);
    }

-- the bytes of the map that were read, without these bits, are those of the block without them
left_taken : (m : ℕ) (ks F : List ℕ) → ((k : ℕ) → IsIn k ks → bit_place k < m) → take m (without_bits F ks) ≡ without_bits (take m F) ks
left_taken m [] F inside = refl
left_taken m (k ∷ ks) F inside =
    let here = inside k (inl refl) in
    left_taken m ks (without_bit F k) (λ j is. inside j (inr is))
    ∙ ap (λ l. without_bits l ks) (take-set-lt m F (bit_place k) (clear_bit (get_or F (bit_place k) 0) k) here
    ∙ ap (λ (x : ℕ). set (take m F) (bit_place k) (clear_bit x k)) (sym (get_or-take m F (bit_place k) 0 here)))

in_taken : (s : Span) (m : ℕ) (F : List ℕ) → s.off + s.len ≤ m → bytes_in s (take m F) ≡ bytes_in s F
in_taken s m F inside =
    let e : s.off + (m - s.off) ≡ m = omega arith in
    ap (λ (n : ℕ). take s.len (drop s.off (take n F))) (sym e) ∙ ap (take s.len) (drop-take s.off (m - s.off) F) ∙ take-take s.len (m - s.off) (drop s.off F) (omega (arith, inside))

pub left_same : (a : Area) (number : ℕ) (file F : List ℕ) → 2 ≤ a.blocks → a.blocks ≤ 8 * (a.size - 64) → number < a.blocks → is_file a file ≡ true
    → bytes_in (bits_mark number (entries_of a.size file)) (without_bits F (number ∷ entries_of a.size file))
    ≡ bytes_in (bits_mark number (entries_of a.size file)) (without_bits (bytes_in (map_mark a.blocks) F) (number ∷ entries_of a.size file))
left_same a number file F least most below good =
    let es = entries_of a.size file in
    let m = 64 + map_bytes a.blocks in
    let p = places_are a number file least most below good in
    sym (in_taken (bits_mark number es) m (without_bits F (number ∷ es)) (omega (arith, p.rising, p.inside)))
    ∙ ap (bytes_in (bits_mark number es)) (left_taken m (number ∷ es) F (λ k is. let b = bits_inside a number file below good k is in omega (arith, b)))

-- THE WHOLE CALL
pub remove_as : (a : FileAreas) (name : List ℕ) → is_key name ≡ true → remove_program a name ≡ in_tree (get_program a.tree name) (at_file a false (remove_file a name))
unfolding remove_program
remove_as a name key = ap (λ (k : Bool). cond k (in_tree (get_program a.tree name) (at_file a false (remove_file a name))) (refuse fs.BadName)) key

pub remove_has : (a : FileAreas) (name : List ℕ) → is_key name ≡ true → HasAccess (remove_program a name)
remove_has a name key = grind (arith, remove_as, has_then, get_has) steps 100000

pub remove_bad : (a : FileAreas) (name : List ℕ) (t : Tx) → is_key name ≡ false → HasRun (remove_program a name) t t (Err fs.BadName)
unfolding remove_program
remove_bad a name t not_key = rw not_key (ran_at (refuse fs.BadName) t t (Err fs.BadName) (at_start (refuse fs.BadName) t))

pub remove_call : (t u : Tx) (at : FsRegion) (name : List ℕ) (result : Result Bool FsError) → IsTx t → AreFileAreas (areas_of t at) → at.files.start + at.files.size ≤ t.blocks → is_key name ≡ true
    → HasRun (remove_program (areas_of t at) name) t u result → IfOk result (IsLocalCall (AreFileRegions (areas_of t at)) (files (areas_of t at)) (remove_op name) t u)
remove_call t u at name result tx areas fits key run =
    let a = areas_of t at in
    call_local (AreFileRegions a) (files a) (remove_op name) (remove_program a name) t u result run (λ A x told is. remove_local a name (own A t.accesses) x areas (have_blocks t at A tx areas fits told) key is)

-- WHAT THE CODE WRITES
pub entries_all : (a : Area) (file : List ℕ) (count : ℕ) → count ≡ data_count a.size file → entries_from file 0 count ≡ entries_of a.size file
entries_all a file count is = let e : count - 0 ≡ data_count a.size file = omega arith in ap (λ (n : ℕ). map (entry_at file) (range_with_len 0 n)) e

pub left_access : (a : Area) (area : IsTreeArea a) (number : ℕ) (file : List ℕ) → number < a.blocks → is_file a file ≡ true → (x : ℕ × ℕ) → ◌≡◌ {A = ℕ × ℕ} x (low_place number (entries_of a.size file), high_place number (entries_of a.size file))
    → (F one two piece room into : List ℕ) → one ≡ without_bit F number → two ≡ without_bits one (entries_of a.size file) → piece ≡ take (x.1 + 1 - x.0) (drop x.0 two) → length room ≡ a.size → into ≡ block_with (length room) x.0 piece
    → store_access a.start (record { off = x.0; len = x.1 + 1 - x.0 } ∷ []) into
    ≡ store_access a.start (bits_mark number (entries_of a.size file) ∷ []) (block_with a.size (low_place number (entries_of a.size file)) (bytes_in (bits_mark number (entries_of a.size file)) (without_bits (bytes_in (map_mark a.blocks) F) (number ∷ entries_of a.size file))))
left_access a area number file below good x is F one two piece room into one_is two_is piece_is long into_is = grind (arith, left_same) steps 100000
