-- A read is that of the files.
use Rattle.iso_fs.proofs.{Words.{◌≡◌, ◌∙◌, sym, refl, ap, subst, ℕ, zero, suc, ◌+◌, ◌/◌, ◌<◌, ◌≤◌, Bool, true, cond, List, [], length, take, drop, nat_le, Option, Some, None, option_map, Result, Ok, Err, arith, inl, inr, nat_lt, get, cases_Bool, leb-true, Area, Array, is_key, block_at, AreReads, IsLocal, accesses_of, answer_of, get_program, tree_map, IsCorrect, local_from, own_reads, whole_reads, cond_reads, same_ok, FsError, FileAreas, bytes_of, entry_at, number_of, piece_len, Call, at_file, in_tree, is_many, least, read_from, read_of, read_op, read_pieces, read_program, refuse, AreFileAreas, AreFileRegions, content, file_at, file_byte, files}, AfterTree.{answer_at_file, answer_got, reads_behind_file, reads_behind_get}, Files.{FileParts, file_parts, entry_inside, least_is}, Lookups.files_get, Pieces.{read_gives, slice_range}}
use Rattle.store_model.specs.declared.files.FsError.TheVariants as fs

pub pieces_read : (a : Area) (file : List ℕ) (A : Array) (most from to : ℕ) (found : List ℕ) → AreReads (accesses_of (read_pieces a file most from to found) A)
pieces_read a file A zero from to found = tt
pieces_read a file A (suc most) from to found = cond_reads (nat_lt from to) _ _ A (refl, pieces_read a file A most (from + piece_len a.size from to) to _) tt

from_reads : (a : Area) (off len : ℕ) (A : Array) (number : ℕ) (file : List ℕ) → AreReads (accesses_of (read_from a off len number file) A)
from_reads a off len A number file = cond_reads (nat_le off (bytes_of file)) _ _ A (pieces_read a file A len off (least (off + len) (bytes_of file)) []) tt

-- a read writes nothing
pub read_reads : (a : FileAreas) (name : List ℕ) (off len : ℕ) (A : Array) → AreReads (accesses_of (read_program a name off len) A)
unfolding read_program
read_reads a name off len A =
    cond_reads (is_key name) _ _ A
    (cond_reads (is_many len) _ _ A (reads_behind_get a.tree A name (at_file a None (read_from a.files off len)) (reads_behind_file a A None (read_from a.files off len) (from_reads a.files off len A))) tt) tt

no_range : (r : Option (List ℕ)) → ◌≡◌ {A = Result (Option (List ℕ)) FsError} (Err fs.BadRange) (Ok r) → ⊥
no_range r e = cc

module _ (a : FileAreas) (areas : AreFileAreas a) (A : Array) (regions : AreFileRegions a A) (name value : List ℕ) (named : get (tree_map a.tree A) name ≡ Some value) (off len : ℕ) where
  abbrev number : ℕ
  number = number_of value

  abbrev file : List ℕ
  file = file_at a A number

  size_some : 0 < a.files.size
  size_some = let s = areas.size in let l = areas.tree.least_size in omega arith

  parts : FileParts a.files file
  parts = file_parts a.files file (regions.files name number (ap (option_map number_of) named))

  shape : (p : ℕ) → p < bytes_of file → length (block_at A (a.files.start + entry_at file (p / a.files.size))) ≡ a.files.size
  shape p below = regions.shape (entry_at file (p / a.files.size)) (entry_inside a.files file parts size_some p below).below

  -- what is read of a file
  from_gives : (r : Option (List ℕ)) → answer_of (read_from a.files off len number file) A ≡ Ok r → r ≡ Some (take len (drop off (content a A number)))
  from_gives r e =
      elim (cases_Bool (nat_le off (bytes_of file))) [
        | inr out ↦ absurd (no_range r (ap (λ (t : Bool). answer_of (cond t (read_pieces a.files file len off (least (off + len) (bytes_of file)) []) (refuse fs.BadRange)) A) (sym out) ∙ e))
        | inl inside ↦
            (let low : off ≤ bytes_of file = leb-true off (bytes_of file) inside in
            let end = least (off + len) (bytes_of file) in
            let ends = least_is (off + len) (bytes_of file) in
            let gives = read_gives a A file size_some shape len off end [] (let x = ends.first in omega arith) (let x = ends.either in elim x [ inl is ↦ omega (arith, is) | inr is ↦ omega (arith, is) ]) ends.second in
            same_ok r _ FsError
            (sym e ∙ ap (λ (t : Bool). answer_of (cond t (read_pieces a.files file len off end []) (refuse fs.BadRange)) A) inside ∙ gives)
            ∙ ap (λ (xs : List ℕ). Some xs) (sym (slice_range (file_byte a A file) (bytes_of file) off len low)))
      ]

read_answers : (a : FileAreas) (areas : AreFileAreas a) (A : Array) (regions : AreFileRegions a A) (name : List ℕ) (off len : ℕ) (o : Option (List ℕ)) → get (tree_map a.tree A) name ≡ o
    → (r : Option (List ℕ)) → answer_of (at_file a None (read_from a.files off len) o) A ≡ Ok r → read_of off len (option_map (λ v. content a A (number_of v)) o) ≡ r
read_answers a areas A regions name off len None named r e = same_ok _ _ FsError e
read_answers a areas A regions name off len (Some value) named r e =
    sym (from_gives a areas A regions name value named off len r (sym (answer_at_file a A regions name value named (read_from a.files off len)) ∙ e))

-- A read is that of the files.
pub read_correct : (a : FileAreas) (name : List ℕ) (off len : ℕ) → AreFileAreas a → is_key name ≡ true → is_many len ≡ true → IsCorrect (AreFileRegions a) (files a) (read_op name off len) Ok (read_program a name off len)
unfolding read_program
read_correct a name off len areas key many = record {
  answer = λ B r regions e.
      let call : (k m : Bool) → Call (Option (List ℕ)) = λ k m. cond k (cond m (in_tree (get_program a.tree name) (at_file a None (read_from a.files off len))) (refuse fs.BadRange)) (refuse fs.BadName) in
      let is : answer_of (at_file a None (read_from a.files off len) (get (tree_map a.tree B) name)) B ≡ Ok r =
      sym (answer_got a.tree B regions.tree name key (at_file a None (read_from a.files off len))) ∙ (λ i. answer_of (call (sym key i) (sym many i)) B) ∙ e in
      ap (read_of off len) (files_get a B name) ∙ read_answers a areas B regions name off len (get (tree_map a.tree B) name) refl r is;
  well_formed = λ B r regions e. subst (AreFileRegions a) (sym (own_reads B (accesses_of (read_program a name off len) B) (read_reads a name off len B))) regions;
  maps = λ B r regions e. ap (files a) (own_reads B (accesses_of (read_program a name off len) B) (read_reads a name off len B));
}

-- A read is local.
pub read_local : (a : FileAreas) (name : List ℕ) (off len : ℕ) (A : Array) (r : Option (List ℕ)) → AreFileAreas a → is_key name ≡ true → is_many len ≡ true → answer_of (read_program a name off len) A ≡ Ok r
    → IsLocal (AreFileRegions a) (files a) (read_op name off len) A (accesses_of (read_program a name off len) A) r
read_local a name off len A r areas key many e =
    local_from (AreFileRegions a) (files a) (read_op name off len) Ok (read_program a name off len) A r (read_correct a name off len areas key many)
    (whole_reads A (accesses_of (read_program a name off len) A) (read_reads a name off len A)) e
