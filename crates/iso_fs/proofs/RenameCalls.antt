-- A rename is local.
use Rattle.iso_fs.proofs.{Words.{arith, ◌≡◌, ◌∙◌, sym, refl, ap, subst, ℕ, Bool, true, false, ◌&&◌, cond, List, [], ◌∷◌, Option, Some, None, option_map, Result, Ok, Err, get, and_from, Access, StoreError, Array, own, is_key, is_value, Done, IsLocal, accesses_of, answer_of, del_program, get_program, put_program, tree_map, AreWhole, IsCorrect, accesses_then, answer_then, local_from, length-block_own, HasBlocks, del_whole, whole_append, area_block, put_whole, same_ok, FsError, FileAreas, number_of, Call, goes_on, in_tree, refuse, rename_found, rename_free, rename_in, rename_op, rename_program, AreFileAreas, AreFileRegions, content, files}, AfterTree.{answer_got, own_got, own_then, whole_behind_get}, Changes.{HasDone, correct_by, no_ok}, Lookups.files_get, Renames.renamed}
use Rattle.store_model.specs.declared.files.FsError.TheVariants as fs

abbrev last : Bool → Call Bool
last there = Done (Ok true)

abbrev moved : FileAreas → (old : List ℕ) → Unit {0} → Call Bool
moved a old put = in_tree (del_program a.tree old) last

module _ (a : FileAreas) (areas : AreFileAreas a) (A : Array) (regions : AreFileRegions a A) (old new : List ℕ) (old_key : is_key old ≡ true) (new_key : is_key new ≡ true) where
  found_is : (value : List ℕ) → get (tree_map a.tree A) old ≡ Some value → get (files a A) old ≡ Some (content a A (number_of value))
  found_is value there = files_get a A old ∙ ap (option_map (λ v. content a A (number_of v))) there

  del_does : (value : List ℕ) (there : get (tree_map a.tree A) old ≡ Some value) (free : get (tree_map a.tree A) new ≡ None) (u : Unit {0}) (put_ok : answer_of (put_program a.tree new value) A ≡ Ok u)
      (result : Result Bool StoreError) → answer_of (del_program a.tree old) (own A (accesses_of (put_program a.tree new value) A)) ≡ result → (r : Bool)
      → answer_of (goes_on last result) (own (own A (accesses_of (put_program a.tree new value) A)) (accesses_of (del_program a.tree old) (own A (accesses_of (put_program a.tree new value) A)))) ≡ Ok r
      → HasDone a (rename_op old new (files a A)) (own (own (own A (accesses_of (put_program a.tree new value) A)) (accesses_of (del_program a.tree old) (own A (accesses_of (put_program a.tree new value) A))))
      (accesses_of (goes_on last result) (own (own A (accesses_of (put_program a.tree new value) A)) (accesses_of (del_program a.tree old) (own A (accesses_of (put_program a.tree new value) A)))))) r
  del_does value there free u put_ok (Err x) is r e = absurd (no_ok (fs.Store x) r e)
  del_does value there free u put_ok (Ok d) is r e =
      let done = renamed a areas A regions old new old_key new_key value there free u put_ok d is in
      let op = ap (rename_in old new (files a A)) (found_is value there) in
      record { regions = done.regions; answers = ap (λ x. x.0) op ∙ same_ok true r FsError e; files_are = done.files_are ∙ sym (ap (λ x. x.1) op) }

  put_does : (value : List ℕ) (there : get (tree_map a.tree A) old ≡ Some value) (free : get (tree_map a.tree A) new ≡ None) (result : Result (Unit {0}) StoreError) → answer_of (put_program a.tree new value) A ≡ result → (r : Bool)
      → answer_of (goes_on (moved a old) result) (own A (accesses_of (put_program a.tree new value) A)) ≡ Ok r
      → HasDone a (rename_op old new (files a A)) (own (own A (accesses_of (put_program a.tree new value) A)) (accesses_of (goes_on (moved a old) result) (own A (accesses_of (put_program a.tree new value) A)))) r
  put_does value there free (Err x) is r e = absurd (no_ok (fs.Store x) r e)
  put_does value there free (Ok u) is r e =
      let B = own A (accesses_of (put_program a.tree new value) A) in
      let p = del_program a.tree old in
      subst (λ (D : Array). HasDone a (rename_op old new (files a A)) D r) (sym (own_then p (goes_on last) B))
      (del_does value there free u is (answer_of p B) refl r (sym (answer_then p (goes_on last) B) ∙ e))

  free_does : (value : List ℕ) (there : get (tree_map a.tree A) old ≡ Some value) (o : Option (List ℕ)) → get (tree_map a.tree A) new ≡ o → (r : Bool) → answer_of (rename_free a old new value o) A ≡ Ok r
      → HasDone a (rename_op old new (files a A)) (own A (accesses_of (rename_free a old new value o) A)) r
  free_does value there (Some other) is r e = absurd (no_ok fs.Exists r e)
  free_does value there None free r e =
      let p = put_program a.tree new value in
      subst (λ (D : Array). HasDone a (rename_op old new (files a A)) D r) (sym (own_then p (goes_on (moved a old)) A))
      (put_does value there free (answer_of p A) refl r (sym (answer_then p (goes_on (moved a old)) A) ∙ e))

  found_does : (o : Option (List ℕ)) → get (tree_map a.tree A) old ≡ o → (r : Bool) → answer_of (rename_found a old new o) A ≡ Ok r → HasDone a (rename_op old new (files a A)) (own A (accesses_of (rename_found a old new o) A)) r
  found_does None missing r e =
      let op = ap (rename_in old new (files a A)) (files_get a A old ∙ ap (option_map (λ v. content a A (number_of v))) missing) in
      record { regions = regions; answers = ap (λ x. x.0) op ∙ same_ok false r FsError e; files_are = sym (ap (λ x. x.1) op) }
  found_does (Some value) there r e =
      subst (λ (D : Array). HasDone a (rename_op old new (files a A)) D r) (sym (own_got a.tree A regions.tree new new_key (rename_free a old new value)))
      (free_does value there (get (tree_map a.tree A) new) refl r (sym (answer_got a.tree A regions.tree new new_key (rename_free a old new value)) ∙ e))

call_does : (a : FileAreas) (old new : List ℕ) (A : Array) → AreFileAreas a → is_key old ≡ true → is_key new ≡ true → AreFileRegions a A → (r : Bool) → answer_of (rename_program a old new) A ≡ Ok r
    → HasDone a (rename_op old new (files a A)) (own A (accesses_of (rename_program a old new) A)) r
unfolding rename_program
call_does a old new A areas old_key new_key regions r e =
    let call : Bool → Call Bool = λ k. cond k (in_tree (get_program a.tree old) (rename_found a old new)) (refuse fs.BadName) in
    let key : (is_key old && is_key new) ≡ true = and_from (is_key old) (is_key new) old_key new_key in
    let answer : answer_of (call (is_key old && is_key new)) A ≡ answer_of (rename_found a old new (get (tree_map a.tree A) old)) A =
    (λ i. answer_of (call (key i)) A) ∙ answer_got a.tree A regions.tree old old_key (rename_found a old new) in
    let same : own A (accesses_of (call (is_key old && is_key new)) A) ≡ own A (accesses_of (rename_found a old new (get (tree_map a.tree A) old)) A) =
    (λ i. own A (accesses_of (call (key i)) A)) ∙ own_got a.tree A regions.tree old old_key (rename_found a old new) in
    subst (λ (D : Array). HasDone a (rename_op old new (files a A)) D r) (sym same) (found_does a areas A regions old new old_key new_key (get (tree_map a.tree A) old) refl r (sym answer ∙ e))

-- A rename is that of the files.
pub rename_correct : (a : FileAreas) (old new : List ℕ) → AreFileAreas a → is_key old ≡ true → is_key new ≡ true → IsCorrect (AreFileRegions a) (files a) (rename_op old new) Ok (rename_program a old new)
rename_correct a old new areas old_key new_key = correct_by a (rename_op old new) (rename_program a old new) (λ B r regions e. call_does a old new B areas old_key new_key regions r e)

-- WHOLE BLOCKS
pub whole_back : (A : Array) (xs ys : List Access) → AreWhole (own A xs) ys → AreWhole A ys
whole_back A xs [] all = tt
whole_back A xs (y ∷ ys) all = (λ write. all.0 write ∙ length-block_own A xs y.block, whole_back A xs ys all.1)

bad_value_none : (a : FileAreas) (name value : List ℕ) (A : Array) → is_value value ≡ false → accesses_of (put_program a.tree name value) A ≡ []
unfolding put_program
bad_value_none a name value A long = grind arith steps 100000

pub put_whole_any : (a : FileAreas) (areas : AreFileAreas a) (A : Array) → HasBlocks a.tree A → (name value : List ℕ) → is_key name ≡ true → AreWhole A (accesses_of (put_program a.tree name value) A)
put_whole_any a areas A shape name value key = grind (arith, put_whole, bad_value_none) steps 100000

module _ (a : FileAreas) (areas : AreFileAreas a) (A : Array) (shape : HasBlocks a.tree A) (old new : List ℕ) (old_key : is_key old ≡ true) (new_key : is_key new ≡ true) where
  moved_whole : (value : List ℕ) (result : Result (Unit {0}) StoreError)
      → AreWhole A (accesses_of (goes_on (moved a old) result) (own A (accesses_of (put_program a.tree new value) A)))
  moved_whole value (Err x) = tt
  moved_whole value (Ok u) = grind (arith, accesses_then, whole_append, whole_back, del_whole, area_block, length-block_own) steps 100000

  free_whole : (value : List ℕ) (o : Option (List ℕ)) → AreWhole A (accesses_of (rename_free a old new value o) A)
  free_whole value (Some other) = tt
  free_whole value None =
      let p = put_program a.tree new value in
      subst (AreWhole A) (sym (accesses_then p (goes_on (moved a old)) A))
      (whole_append A (accesses_of p A) (accesses_of (goes_on (moved a old) (answer_of p A)) (own A (accesses_of p A))) (put_whole_any a areas A shape new value new_key) (moved_whole value (answer_of p A)))

  found_whole : (o : Option (List ℕ)) → AreWhole A (accesses_of (rename_found a old new o) A)
  found_whole None = tt
  found_whole (Some value) = whole_behind_get a.tree A new (rename_free a old new value) (free_whole value)

rename_whole : (a : FileAreas) (old new : List ℕ) (A : Array) → AreFileAreas a → HasBlocks a.tree A → is_key old ≡ true → is_key new ≡ true → AreWhole A (accesses_of (rename_program a old new) A)
unfolding rename_program
rename_whole a old new A areas shape old_key new_key =
    subst (λ (k : Bool). AreWhole A (accesses_of (cond k (in_tree (get_program a.tree old) (rename_found a old new)) (refuse fs.BadName)) A)) (sym (and_from (is_key old) (is_key new) old_key new_key))
    (whole_behind_get a.tree A old (rename_found a old new) (found_whole a areas A shape old new old_key new_key))

-- A rename is local.
pub rename_local : (a : FileAreas) (old new : List ℕ) (A : Array) (r : Bool) → AreFileAreas a → HasBlocks a.tree A → is_key old ≡ true → is_key new ≡ true → answer_of (rename_program a old new) A ≡ Ok r
    → IsLocal (AreFileRegions a) (files a) (rename_op old new) A (accesses_of (rename_program a old new) A) r
rename_local a old new A r areas shape old_key new_key e =
    local_from (AreFileRegions a) (files a) (rename_op old new) Ok (rename_program a old new) A r (rename_correct a old new areas old_key new_key) (rename_whole a old new A areas shape old_key new_key) e
