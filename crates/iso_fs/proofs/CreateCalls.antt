-- A create is local.
use Rattle.iso_fs.proofs.{Words.{length-block_with, ◌≡◌, ◌∙◌, sym, refl, ap, subst, ℕ, ◌+◌, ◌-◌, ◌<◌, ◌≤◌, Bool, true, cond, List, [], ◌∷◌, length, Option, Some, None, Result, Ok, Err, arith, get, insert, w32, to_be_bytes, StoreError, NoBlocks, Array, put, own, bit_place, lowest_free, map_mark, set_bit, is_key, block_at, IsLocal, accesses_of, answer_of, bytes_in, get_program, put_program, tree_map, AreWhole, IsCorrect, accesses_then, answer_then, local_from, HasBlocks, whole_append, nothing_is, put_whole, FileAreas, Call, create_at, create_new, create_op, create_program, empty_writes, goes_on, in_tree, refuse, AreFileAreas, AreFileRegions, files}, AfterTree.{answer_got, own_got, own_then, whole_behind_get}, Changes.{HasFiles, no_ok}, Creates.created, MapByte.{IsFree, is_free}, NewFile.length-empty_file}
use Rattle.store_model.specs.declared.files.FsError.TheVariants as fs

-- the writes after the put of the name
abbrev writes : FileAreas → (first : List ℕ) → (k : ℕ) → Unit {0} → Call (Unit {0})
writes a first k put = empty_writes a k (set_bit (Rattle.std.specs.Prelude.slice_index first (bit_place k)) k)

module _ (a : FileAreas) (areas : AreFileAreas a) (A : Array) (regions : AreFileRegions a A) (name : List ℕ) (key : is_key name ≡ true) where
  abbrev first : List ℕ
  first = bytes_in (map_mark a.files.blocks) (block_at A a.files.start)

  put_does : (fresh : get (tree_map a.tree A) name ≡ None) (k : ℕ) (free : IsFree a.files (block_at A a.files.start) k) (result : Result (Unit {0}) StoreError)
      → answer_of (put_program a.tree name (to_be_bytes w32 k)) A ≡ result → (r : Unit {0})
      → answer_of (goes_on (writes a first k) result) (own A (accesses_of (put_program a.tree name (to_be_bytes w32 k)) A)) ≡ Ok r
      → HasFiles a (insert (files a A) name []) (own (own A (accesses_of (put_program a.tree name (to_be_bytes w32 k)) A)) (accesses_of (goes_on (writes a first k) result) (own A (accesses_of (put_program a.tree name (to_be_bytes w32 k)) A))))
  put_does fresh k free (Ok u) is r e = created a areas A regions name key fresh k free u is
  put_does fresh k free (Err x) is r e = absurd (no_ok (fs.Store x) r e)

  at_does : (fresh : get (tree_map a.tree A) name ≡ None) (o : Option ℕ) → lowest_free first 1 (a.files.blocks - 1) ≡ o → (r : Unit {0}) → answer_of (create_at a name first o) A ≡ Ok r
      → HasFiles a (insert (files a A) name []) (own A (accesses_of (create_at a name first o) A))
  at_does fresh None is r e = absurd (no_ok (fs.Store (NoBlocks 1 0)) r e)
  at_does fresh (Some k) is r e =
      let p = put_program a.tree name (to_be_bytes w32 k) in
      subst (HasFiles a (insert (files a A) name [])) (sym (own_then p (goes_on (writes a first k)) A))
      (put_does fresh k (is_free a.files (block_at A a.files.start) k areas.least is) (answer_of p A) refl r (sym (answer_then p (goes_on (writes a first k)) A) ∙ e))

  new_does : (o : Option (List ℕ)) → get (tree_map a.tree A) name ≡ o → (r : Unit {0}) → answer_of (create_new a name o) A ≡ Ok r → HasFiles a (insert (files a A) name []) (own A (accesses_of (create_new a name o) A))
  new_does None fresh r e = at_does fresh (lowest_free first 1 (a.files.blocks - 1)) refl r e
  new_does (Some value) there r e = absurd (no_ok fs.Exists r e)

call_does : (a : FileAreas) (name : List ℕ) (A : Array) → AreFileAreas a → is_key name ≡ true → AreFileRegions a A → (r : Unit {0}) → answer_of (create_program a name) A ≡ Ok r
    → HasFiles a (insert (files a A) name []) (own A (accesses_of (create_program a name) A))
unfolding create_program
call_does a name A areas key regions r e =
    let call : Bool → Call (Unit {0}) = λ k. cond k (in_tree (get_program a.tree name) (create_new a name)) (refuse fs.BadName) in
    let answer : answer_of (call (is_key name)) A ≡ answer_of (create_new a name (get (tree_map a.tree A) name)) A =
    (λ i. answer_of (call (key i)) A) ∙ answer_got a.tree A regions.tree name key (create_new a name) in
    let same : own A (accesses_of (call (is_key name)) A) ≡ own A (accesses_of (create_new a name (get (tree_map a.tree A) name)) A) =
    (λ i. own A (accesses_of (call (key i)) A)) ∙ own_got a.tree A regions.tree name key (create_new a name) in
    subst (HasFiles a (insert (files a A) name [])) (sym same) (new_does a areas A regions name key (get (tree_map a.tree A) name) refl r (sym answer ∙ e))

-- A create is that of the files.
pub create_correct : (a : FileAreas) (name : List ℕ) → AreFileAreas a → is_key name ≡ true → IsCorrect (AreFileRegions a) (files a) (create_op name) Ok (create_program a name)
create_correct a name areas key = record {
  answer = λ B r regions e. refl;
  well_formed = λ B r regions e. (call_does a name B areas key regions r e).regions;
  maps = λ B r regions e. (call_does a name B areas key regions r e).files_are;
}

-- WHOLE BLOCKS
-- each block of both regions has the size of one
pub record HaveBlocks (a : FileAreas) (A : Array) : Type 0 where
  pub tree : HasBlocks a.tree A
  pub files : HasBlocks a.files A

module _ (a : FileAreas) (areas : AreFileAreas a) (A : Array) (shape : HaveBlocks a A) (name : List ℕ) (key : is_key name ≡ true) where
  first_size : length (block_at A a.files.start) ≡ a.files.size
  first_size = let e : a.files.start + 0 ≡ a.files.start = omega arith in ap (λ (b : ℕ). length (block_at A b)) (sym e) ∙ shape.files 0 (let x = areas.least in omega arith)

  size_least : 256 ≤ a.files.size
  size_least = let s = areas.size in let l = areas.tree.least_size in omega arith

  writes_whole : (k : ℕ) → k < a.files.blocks → (bytes : List ℕ) (result : Result (Unit {0}) StoreError) (B : Array) → AreWhole A (accesses_of (goes_on (writes a bytes k) result) B)
  writes_whole k below bytes (Err x) B = tt
  writes_whole k below bytes (Ok u) B = (
    λ write. length-block_with a.files.size (bit_place k) (set_bit (Rattle.std.specs.Prelude.slice_index bytes (bit_place k)) k ∷ []) (let m = areas.most in let l = size_least in omega arith) ∙ sym first_size,
    (λ write. length-empty_file a.files.size (let l = size_least in omega arith) ∙ sym (shape.files k below), tt),
  )

  at_whole : (o : Option ℕ) → lowest_free (bytes_in (map_mark a.files.blocks) (block_at A a.files.start)) 1 (a.files.blocks - 1) ≡ o
      → AreWhole A (accesses_of (create_at a name (bytes_in (map_mark a.files.blocks) (block_at A a.files.start)) o) A)
  at_whole None is = tt
  at_whole (Some k) is =
      let p = put_program a.tree name (to_be_bytes w32 k) in
      let bytes = bytes_in (map_mark a.files.blocks) (block_at A a.files.start) in
      subst (AreWhole A) (sym (accesses_then p (goes_on (writes a bytes k)) A))
      (whole_append A (accesses_of p A) (accesses_of (goes_on (writes a bytes k) (answer_of p A)) (own A (accesses_of p A))) (put_whole a.tree areas.tree A shape.tree name (to_be_bytes w32 k) key refl)
      (writes_whole k ((is_free a.files (block_at A a.files.start) k areas.least is).high) bytes (answer_of p A) (own A (accesses_of p A))))

  new_whole : (o : Option (List ℕ)) → AreWhole A (accesses_of (create_new a name o) A)
  new_whole (Some value) = tt
  new_whole None = (λ write. absurd (nothing_is write), at_whole (lowest_free (bytes_in (map_mark a.files.blocks) (block_at A a.files.start)) 1 (a.files.blocks - 1)) refl)

create_whole : (a : FileAreas) (name : List ℕ) (A : Array) → AreFileAreas a → HaveBlocks a A → is_key name ≡ true → AreWhole A (accesses_of (create_program a name) A)
unfolding create_program
create_whole a name A areas shape key =
    subst (λ (k : Bool). AreWhole A (accesses_of (cond k (in_tree (get_program a.tree name) (create_new a name)) (refuse fs.BadName)) A)) (sym key)
    (whole_behind_get a.tree A name (create_new a name) (new_whole a areas A shape name key))

-- A create is local.
pub create_local : (a : FileAreas) (name : List ℕ) (A : Array) (r : Unit {0}) → AreFileAreas a → HaveBlocks a A → is_key name ≡ true → answer_of (create_program a name) A ≡ Ok r
    → IsLocal (AreFileRegions a) (files a) (create_op name) A (accesses_of (create_program a name) A) r
create_local a name A r areas shape key e =
    local_from (AreFileRegions a) (files a) (create_op name) Ok (create_program a name) A r (create_correct a name areas key) (create_whole a name A areas shape key) e
