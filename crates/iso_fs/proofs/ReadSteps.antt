-- A read, part by part.
use Rattle.iso_fs.proofs.{Words.{◌≡◌, ◌∙◌, sym, refl, ap, subst, ℕ, zero, suc, ◌+◌, ◌-◌, ◌*◌, ◌/◌, ◌<◌, ◌≤◌, Bool, true, false, cond, List, [], ◌∷◌, ◌++◌, length, take, drop, append_assoc, length-append, nat_le, Option, Some, None, Result, Ok, Err, IfOk, arith, inl, inr, nat_lt, option_map, ForSome, length-take-le, take_at, nat_tests, div-lt_iff_lt-mul, Span, Area, TxError, own, is_key, block_at, Done, bytes_in, look_access, laid_at, get_program, Tx, Device, IsTx, with_accesses, IsCause, IsLocalCall, HasAccess, IsAt, at_look, at_start, ran_at, cut_at_look, at_as, FsError, FileAreas, FsRegion, bytes_of, entry_at, entry_count, is_file, piece_len, piece_mark, Call, at_file, goes_on, in_tree, is_many, least, read_from, read_op, read_pieces, read_program, refuse, AreFileAreas, AreFileRegions, files, HasRun, areas_of}, Ended.{has_then, call_local}, Finding.get_has, Lefts.HasLeft, FileReads.read_local, Files.{entry_inside, file_parts, least_is}, Pieces.step}
use Rattle.std.specs.Prelude.{min}
use Rattle.store_model.specs.declared.stores.StoreError.TheVariants as store
use Rattle.store_model.specs.declared.files.FsError.TheVariants as fs

-- WHERE A BYTE OF A FILE STANDS
pub entry_fits : (a : Area) (file : List ℕ) → is_file a file ≡ true → 256 ≤ a.size → (p : ℕ) → p < bytes_of file → 64 + 4 * (p / a.size) + 4 ≤ a.size
entry_fits a file good least p below =
    let few = (file_parts a file good).few in
    let inside : p / a.size < entry_count a.size = (div-lt_iff_lt-mul {k = a.size} {x = p} {y = entry_count a.size} (omega arith)).1 (omega arith) in
    omega arith

pub entry_below : (a : Area) (file : List ℕ) → is_file a file ≡ true → 256 ≤ a.size → (p : ℕ) → p < bytes_of file → entry_at file (p / a.size) < a.blocks
entry_below a file good least p below = (entry_inside a file (file_parts a file good) (omega arith) p below).below

-- ONE PIECE
module _ (a : Area) (file : List ℕ) (most from to : ℕ) (found : List ℕ) (less : from < to) (t : Tx) where
  abbrev whole : Call (Option (List ℕ))
  whole = read_pieces a file (suc most) from to found

  abbrev block : ℕ
  block = a.start + entry_at file (from / a.size)

  abbrev next : List ℕ → List ℕ → Call (Option (List ℕ))
  next piece none = read_pieces a file most (from + piece_len a.size from to) to (found ++ piece)

  as_step : whole ≡ step a file most from to found
  as_step = (let test : nat_lt from to ≡ true = grind (arith, nat_tests) in ap (λ (b : Bool). cond b (step a file most from to found) (Done (Ok (Some found)))) test)

  now_step : IsAt whole (step a file most from to found) t t
  now_step = at_as whole whole (step a file most from to found) t t as_step (at_start whole t)

  pub piece_refused : (v : Tx) (before now : Device) (e : TxError) → v ≡ t → IsCause v 1 before now e → HasRun (read_pieces a file (suc most) from to found) t v (Err (fs.Store (store.Tx e)))
  piece_refused v before now e same cause = cut_at_look whole block (piece_mark a.size from to) (λ piece. None) next t t v before now e now_step same cause

  module _ (u : Tx) (bytes : List ℕ) (told : ForSome t.base (λ A. bytes ≡ block_at (own A t.accesses) block)) (tx : IsTx u) (is : u ≡ with_accesses t (look_access block (piece_mark a.size from to ∷ []) ∷ [])) where
    pub piece_done : IsAt (read_pieces a file (suc most) from to found) (read_pieces a file most (from + piece_len a.size from to) to (found ++ bytes_in (piece_mark a.size from to) bytes)) t u
    piece_done = at_look whole block (piece_mark a.size from to) (λ piece. None) next t t u bytes now_step told tx.count is

-- ALL PIECES
over : (a : Area) (file : List ℕ) (most at to : ℕ) (found : List ℕ) → to ≤ at → read_pieces a file most at to found ≡ Done (Ok (Some found))
over a file zero at to found past = refl
over a file (suc most) at to found past = let test : nat_lt at to ≡ false = grind (arith, nat_tests) in ap (λ (b : Bool). cond b (step a file most at to found) (Done (Ok (Some found)))) test

pub all_done : {whole : Call (Option (List ℕ))} {left : ℕ} {t u : Tx} (a : Area) (file : List ℕ) (at to : ℕ) (found : List ℕ) → to ≤ at → HasLeft whole (λ most. read_pieces a file most at to found) left t u → HasRun whole t u (Ok (Some found))
all_done {whole = whole} {t = t} {u = u} a file at to found past has =
    ran_at whole t u (Ok (Some found)) (at_as whole (read_pieces a file has.most at to found) (Done (Ok (Some found))) t u (over a file has.most at to found past) has.here)

-- A RANGE OF A FILE
pub least_as : (off len bytes to : ℕ) → off ≤ bytes → to ≡ off + min len (bytes - off) → to ≡ least (off + len) bytes
least_as off len bytes to inside is =
    let l = least_is (off + len) bytes in
    elim l.either as (λ e. to ≡ least (off + len) bytes) [
      | inl all ↦ omega (arith, is, all, l.first, l.second)
      | inr end ↦ omega (arith, is, end, l.first, l.second)
    ]

module _ (a : Area) (off len number : ℕ) (file : List ℕ) where
  abbrev passes : Call (Option (List ℕ))
  passes = read_pieces a file len off (least (off + len) (bytes_of file)) []

  pub range_is : (to : ℕ) → off ≤ bytes_of file → to ≡ least (off + len) (bytes_of file) → read_from a off len number file ≡ read_pieces a file len off to []
  range_is to inside is =
      let test : nat_le off (bytes_of file) ≡ true = grind (arith, nat_tests) in
      ap (λ (b : Bool). cond b passes (refuse fs.BadRange)) test ∙ ap (λ (n : ℕ). read_pieces a file len off n []) (sym is)

  pub range_bad : bytes_of file < off → read_from a off len number file ≡ refuse fs.BadRange
  range_bad out = (let test : nat_le off (bytes_of file) ≡ false = grind (arith, nat_tests) in ap (λ (b : Bool). cond b passes (refuse fs.BadRange)) test)

-- THE WHOLE CALL
pub read_as : (a : FileAreas) (name : List ℕ) (off len : ℕ) → is_key name ≡ true → is_many len ≡ true → read_program a name off len ≡ in_tree (get_program a.tree name) (at_file a None (read_from a.files off len))
unfolding read_program
read_as a name off len key many =
    (λ i. cond (key i) (cond (many i) (in_tree (get_program a.tree name) (at_file a None (read_from a.files off len))) (refuse fs.BadRange)) (refuse fs.BadName))

pub read_has : (a : FileAreas) (name : List ℕ) (off len : ℕ) → is_key name ≡ true → is_many len ≡ true → HasAccess (read_program a name off len)
read_has a name off len key many =
    subst (λ (p : Call (Option (List ℕ))). HasAccess p) (sym (read_as a name off len key many)) (has_then (get_program a.tree name) (goes_on (at_file a None (read_from a.files off len))) (get_has a.tree name key))

-- the answer, by the areas and the bytes that the code has
pub read_answer : (a b : FileAreas) (name : List ℕ) (off len : ℕ) (t u : Tx) (found : Option ℕ) (room : List ℕ) (o : Option (List ℕ)) → a ≡ b → o ≡ option_map (λ n. take n room) found
    → HasRun (read_program a name off len) t u (Ok (option_map (λ n. take n room) found)) → HasRun (read_program b name off len) t u (Ok o)
read_answer a b name off len t u found room o areas is run =
    subst (λ (x : Option (List ℕ)). HasRun (read_program b name off len) t u (Ok x)) (sym is) (subst (λ (c : FileAreas). HasRun (read_program c name off len) t u (Ok (option_map (λ n. take n room) found))) areas run)

pub read_bad_name : (a : FileAreas) (name : List ℕ) (off len : ℕ) (t : Tx) → is_key name ≡ false → HasRun (read_program a name off len) t t (Err fs.BadName)
unfolding read_program
read_bad_name a name off len t not_key = rw not_key (ran_at (refuse fs.BadName) t t (Err fs.BadName) (at_start (refuse fs.BadName) t))

pub read_bad_range : (a : FileAreas) (name : List ℕ) (off len : ℕ) (t : Tx) → is_key name ≡ true → is_many len ≡ false → HasRun (read_program a name off len) t t (Err fs.BadRange)
unfolding read_program
read_bad_range a name off len t key few = rw (key, few) (ran_at (refuse fs.BadRange) t t (Err fs.BadRange) (at_start (refuse fs.BadRange) t))

pub read_call : (t u : Tx) (at : FsRegion) (name : List ℕ) (off len : ℕ) (result : Result (Option (List ℕ)) FsError) → AreFileAreas (areas_of t at) → is_key name ≡ true → is_many len ≡ true
    → HasRun (read_program (areas_of t at) name off len) t u result → IfOk result (IsLocalCall (AreFileRegions (areas_of t at)) (files (areas_of t at)) (read_op name off len) t u)
read_call t u at name off len result areas key many run =
    let a = areas_of t at in
    call_local (AreFileRegions a) (files a) (read_op name off len) (read_program a name off len) t u result run (λ A x told is. read_local a name off len (own A t.accesses) x areas key many is)

-- THE ANSWERS OF THE CODE
module _ (a : Area) (file : List ℕ) (from to : ℕ) (found : List ℕ) (less : from < to) (t u : Tx) (bytes : List ℕ) (number : ℕ) (span : Span) (number_is : number ≡ entry_at file (from / a.size)) (span_is : span ≡ piece_mark a.size from to)
    (told : ForSome t.base (λ A. bytes ≡ block_at (own A t.accesses) (a.start + number))) (tx : IsTx u) (is : u ≡ with_accesses t (look_access (a.start + number) (span ∷ []) ∷ [])) where
  told_so : ForSome t.base (λ A. bytes ≡ block_at (own A t.accesses) (a.start + entry_at file (from / a.size)))
  told_so = subst (λ (n : ℕ). ForSome t.base (λ A. bytes ≡ block_at (own A t.accesses) (a.start + n))) number_is told

  is_so : u ≡ with_accesses t (look_access (a.start + entry_at file (from / a.size)) (piece_mark a.size from to ∷ []) ∷ [])
  is_so = is ∙ (λ i. with_accesses t (look_access (a.start + number_is i) (span_is i ∷ []) ∷ []))

  pub code_piece : (n : ℕ) (piece new : List ℕ) → n ≡ span.len → piece ≡ bytes_in span bytes → new ≡ found ++ piece → (most : ℕ)
      → IsAt (read_pieces a file (suc most) from to found) (read_pieces a file most (from + n) to new) t u
  code_piece n piece new n_is piece_is new_is most =
      let all : new ≡ found ++ bytes_in (piece_mark a.size from to) bytes = new_is ∙ ap (λ (p : List ℕ). found ++ p) (piece_is ∙ ap (λ (s : Span). bytes_in s bytes) span_is) in
      subst (λ (m : ℕ). IsAt (read_pieces a file (suc most) from to found) (read_pieces a file most (from + m) to new) t u) (sym (n_is ∙ ap (λ (s : Span). s.len) span_is))
      (subst (λ (xs : List ℕ). IsAt (read_pieces a file (suc most) from to found) (read_pieces a file most (from + piece_len a.size from to) to xs) t u) (sym all)
      (piece_done a file most from to found less t u bytes told_so tx is_so))

-- the bytes that were read, once a piece more is laid after them
pub more_read : (at n : ℕ) (piece room : List ℕ) → length piece ≡ n → at + n ≤ length room → take (at + n) (laid_at at piece room) ≡ take at room ++ piece
more_read at n piece room is fits =
    let old : length (take at room) ≡ at = length-take-le at room (omega arith) in
    ap (take (at + n)) (sym (append_assoc (take at room) piece (drop (at + length piece) room))) ∙ take_at (take at room ++ piece) (drop (at + length piece) room) (at + n) (length-append (take at room) piece ∙ (λ i. old i + is i))

take_none : (xs : List ℕ) → take 0 xs ≡ []
take_none [] = refl
take_none (x ∷ xs) = refl

pub left_first : (a : Area) (file : List ℕ) (most from to : ℕ) (room : List ℕ) (t : Tx) → to - from ≤ most → HasLeft (read_pieces a file most from to []) (λ m. read_pieces a file m from to (take 0 room)) (to - from) t t
left_first a file most from to room t fits = record {
  most = most;
  fits = fits;
  here = subst (λ (xs : List ℕ). IsAt (read_pieces a file most from to []) (read_pieces a file most from to xs) t t) (sym (take_none room)) (at_start (read_pieces a file most from to []) t);
}
