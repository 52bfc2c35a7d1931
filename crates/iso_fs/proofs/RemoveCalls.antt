-- A removal is local.
use Rattle.iso_fs.proofs.{Words.{length-block_with, ◌≡◌, ◌∙◌, sym, refl, ap, subst, ℕ, ◌+◌, ◌<◌, ◌==◌, Bool, true, false, cond, List, ◌∷◌, length, drop, Option, Some, None, option_map, Result, Ok, Err, arith, inl, inr, is_some, get, remove, and_parts, cases_Bool, length-take, StoreError, Array, own, map_bytes, map_mark, IsIn, is_key, block_at, IsLocal, LookWhole, accesses_of, answer_of, bytes_in, del_program, get_program, tree_map, AreWhole, IsCorrect, accesses_then, answer_then, local_from, del_whole, whole_append, nothing_is, area_block, same_ok, FsError, FileAreas, data_count, entries_of, entry_at, is_file, is_handed, is_number, number_of, Call, at_file, bits_mark, broken, goes_on, in_tree, refuse, without_bits, remove_file, remove_op, remove_program, remove_writes, AreFileAreas, AreFileRegions, content, file_at, files, same_map, slice_cmp-IsAntisymmetric, nat_cmp-IsAntisymmetric, nat_list_cmp_total}, AfterTree.{answer_at_file, answer_got, own_at_file, own_got, own_then, whole_behind_get}, Changes.{HasDone, correct_by, no_ok}, CreateCalls.HaveBlocks, Files.{IsHanded, entry_handed, file_parts, handed_is}, MapLaid.{high_below, high_is, low_is}, Lookups.{files_get, name_is, same_name}, Removes.{in_range_map, removed}, Renames.remove_get}
use Rattle.store_model.specs.declared.files.FsError.TheVariants as fs

module _ (a : FileAreas) (areas : AreFileAreas a) (A : Array) (regions : AreFileRegions a A) (name : List ℕ) (key : is_key name ≡ true) where
  abbrev first : List ℕ
  first = bytes_in (map_mark a.files.blocks) (block_at A a.files.start)

  has : (o : Option (List ℕ)) → get (tree_map a.tree A) name ≡ o → is_some (get (files a A) name) ≡ is_some (option_map (λ v. content a A (number_of v)) o)
  has o is = ap (λ (x : Option (List ℕ)). is_some x) (files_get a A name ∙ ap (option_map (λ v. content a A (number_of v))) is)

  del_does : (value : List ℕ) (there : get (tree_map a.tree A) name ≡ Some value) (result : Result Bool StoreError) → answer_of (del_program a.tree name) A ≡ result → (r : Bool)
      → answer_of (goes_on (remove_writes a.files (number_of value) (file_at a A (number_of value)) first) result) (own A (accesses_of (del_program a.tree name) A)) ≡ Ok r
      → HasDone a (remove_op name (files a A)) (own (own A (accesses_of (del_program a.tree name) A)) (accesses_of (goes_on (remove_writes a.files (number_of value) (file_at a A (number_of value)) first) result) (own A (accesses_of (del_program a.tree name) A)))) r
  del_does value there (Err x) is r e = absurd (no_ok (fs.Store x) r e)
  del_does value there (Ok d) is r e =
      let done = removed a areas A regions name key value there d is in
      record { regions = done.regions; answers = has (Some value) there ∙ same_ok true r FsError e; files_are = done.files_are }

  missing_files : get (tree_map a.tree A) name ≡ None → files a A ≡ remove (files a A) name
  missing_files missing = same_map nat_list_cmp_total (slice_cmp-IsAntisymmetric nat_cmp-IsAntisymmetric) (files a A) (remove (files a A) name) (λ q.
      elim (cases_Bool (same_name q name)) [
        | inl is ↦
            ap (get (files a A)) (name_is q name is) ∙ files_get a A name ∙ ap (option_map (λ v. content a A (number_of v))) missing
            ∙ sym (remove_get (files a A) name q ∙ ap (λ (t : Bool). cond t None (get (files a A) q)) is)
        | inr other ↦ sym (remove_get (files a A) name q ∙ ap (λ (t : Bool). cond t None (get (files a A) q)) other)
      ])

  found_does : (o : Option (List ℕ)) → get (tree_map a.tree A) name ≡ o → (r : Bool) → answer_of (at_file a false (remove_file a name) o) A ≡ Ok r → HasDone a (remove_op name (files a A)) (own A (accesses_of (at_file a false (remove_file a name) o) A)) r
  found_does None missing r e = record { regions = regions; answers = has None missing ∙ same_ok false r FsError e; files_are = missing_files missing }
  found_does (Some value) there r e =
      let p = del_program a.tree name in
      let f = remove_writes a.files (number_of value) (file_at a A (number_of value)) first in
      subst (λ (D : Array). HasDone a (remove_op name (files a A)) D r) (sym (own_at_file a A regions name value there (remove_file a name) ∙ own_then p (goes_on f) A))
      (del_does value there (answer_of p A) refl r (sym (answer_then p (goes_on f) A) ∙ (sym (answer_at_file a A regions name value there (remove_file a name)) ∙ e)))

call_does : (a : FileAreas) (name : List ℕ) (A : Array) → AreFileAreas a → is_key name ≡ true → AreFileRegions a A → (r : Bool) → answer_of (remove_program a name) A ≡ Ok r
    → HasDone a (remove_op name (files a A)) (own A (accesses_of (remove_program a name) A)) r
unfolding remove_program
call_does a name A areas key regions r e =
    let call : Bool → Call Bool = λ k. cond k (in_tree (get_program a.tree name) (at_file a false (remove_file a name))) (refuse fs.BadName) in
    let answer : answer_of (call (is_key name)) A ≡ answer_of (at_file a false (remove_file a name) (get (tree_map a.tree A) name)) A =
    (λ i. answer_of (call (key i)) A) ∙ answer_got a.tree A regions.tree name key (at_file a false (remove_file a name)) in
    let same : own A (accesses_of (call (is_key name)) A) ≡ own A (accesses_of (at_file a false (remove_file a name) (get (tree_map a.tree A) name)) A) =
    (λ i. own A (accesses_of (call (key i)) A)) ∙ own_got a.tree A regions.tree name key (at_file a false (remove_file a name)) in
    subst (λ (D : Array). HasDone a (remove_op name (files a A)) D r) (sym same) (found_does a areas A regions name key (get (tree_map a.tree A) name) refl r (sym answer ∙ e))

-- A removal is that of the files.
pub remove_correct : (a : FileAreas) (name : List ℕ) → AreFileAreas a → is_key name ≡ true → IsCorrect (AreFileRegions a) (files a) (remove_op name) Ok (remove_program a name)
remove_correct a name areas key = correct_by a (remove_op name) (remove_program a name) (λ B r regions e. call_does a name B areas key regions r e)

-- WHOLE BLOCKS
module _ (a : FileAreas) (areas : AreFileAreas a) (A : Array) (shape : HaveBlocks a A) (name : List ℕ) where
  write_whole : (number : ℕ) (file first : List ℕ) → ((j : ℕ) → IsIn j (number ∷ entries_of a.files.size file) → j < a.files.blocks) → (result : Result Bool StoreError) (B : Array)
      → AreWhole A (accesses_of (goes_on (remove_writes a.files number file first) result) B)
  write_whole number file first below (Err x) B = tt
  write_whole number file first below (Ok d) B =
      let entries = entries_of a.files.size file in
      let m = bits_mark number entries in
      let U = without_bits first (number ∷ entries) in
      let high = high_below number entries (64 + map_bytes a.files.blocks) (λ j is. let b = below j is in omega arith) in
      let l = low_is number entries number (inl refl) in
      let h = high_is number entries number (inl refl) in
      let s = areas.size in
      let least = areas.tree.least_size in
      let most = areas.most in
      let e : a.files.start + 0 ≡ a.files.start = omega arith in
      let start_size : length (block_at A a.files.start) ≡ a.files.size = ap (λ (b : ℕ). length (block_at A b)) (sym e) ∙ shape.files 0 (let x = areas.least in omega arith) in
      (λ write. length-block_with a.files.size m.off (bytes_in m U) (omega (arith, length-take m.len (drop m.off U))) ∙ sym start_size, tt)

  file_whole : (number : ℕ) (file : List ℕ) → IsHanded a.files.blocks number → is_file a.files file ≡ true → AreWhole A (accesses_of (remove_file a name number file) A)
  file_whole number file handed good =
      let first = bytes_in (map_mark a.files.blocks) (block_at A a.files.start) in
      let p = del_program a.tree name in
      let f = remove_writes a.files number file first in
      let below : (j : ℕ) → IsIn j (number ∷ entries_of a.files.size file) → j < a.files.blocks = λ j is. elim is [
        | inl here ↦ subst (λ (x : ℕ). x < a.files.blocks) here handed.below
        | inr later ↦
            (let at = in_range_map (entry_at file) 0 (data_count a.files.size file) j later in
            subst (λ (x : ℕ). x < a.files.blocks) at.3 (entry_handed a.files file (file_parts a.files file good) at.0 (let h = at.2 in omega arith)).below)
      ] in (
        λ write. absurd (nothing_is write),
        subst (AreWhole A) (sym (accesses_then p (goes_on f) A))
            (whole_append A (accesses_of p A) (accesses_of (goes_on f (answer_of p A)) (own A (accesses_of p A))) (del_whole a.tree name A (area_block a.tree areas.tree) shape.tree)
            (write_whole number file first below (answer_of p A) (own A (accesses_of p A)))),
      )

  found_whole : (o : Option (List ℕ)) → AreWhole A (accesses_of (at_file a false (remove_file a name) o) A)
  found_whole None = tt
  found_whole (Some value) =
      let number = number_of value in
      let file = file_at a A number in
      elim (is_number a.files value) as (λ t. is_number a.files value ≡ t
      → AreWhole A (accesses_of (cond t (LookWhole (a.files.start + number) (λ bytes. cond (is_file a.files bytes) (remove_file a name number bytes) (broken (a.files.start + number)))) (broken a.tree.start)) A)) [
        | false ↦ λ e. tt
        | true ↦ λ e.
            (let handed = handed_is a.files.blocks number (and_parts (length value == 4) (is_handed a.files.blocks number) e).1 in (
              λ write. absurd (nothing_is write),
              elim (is_file a.files file) as (λ t. is_file a.files file ≡ t → AreWhole A (accesses_of (cond t (remove_file a name number file) (broken (a.files.start + number))) A)) [
                | true ↦ λ good. file_whole number file handed good
                | false ↦ λ not. tt
              ] refl,
            ))
      ] refl

remove_whole : (a : FileAreas) (name : List ℕ) (A : Array) → AreFileAreas a → HaveBlocks a A → is_key name ≡ true → AreWhole A (accesses_of (remove_program a name) A)
unfolding remove_program
remove_whole a name A areas shape key =
    subst (λ (k : Bool). AreWhole A (accesses_of (cond k (in_tree (get_program a.tree name) (at_file a false (remove_file a name))) (refuse fs.BadName)) A)) (sym key)
    (whole_behind_get a.tree A name (at_file a false (remove_file a name)) (found_whole a areas A shape name))

-- A removal is local.
pub remove_local : (a : FileAreas) (name : List ℕ) (A : Array) (r : Bool) → AreFileAreas a → HaveBlocks a A → is_key name ≡ true → answer_of (remove_program a name) A ≡ Ok r
    → IsLocal (AreFileRegions a) (files a) (remove_op name) A (accesses_of (remove_program a name) A) r
remove_local a name A r areas shape key e =
    local_from (AreFileRegions a) (files a) (remove_op name) Ok (remove_program a name) A r (remove_correct a name areas key) (remove_whole a name A areas shape key) e
