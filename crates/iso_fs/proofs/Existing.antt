-- Where a file call answers that a file exists.
use Rattle.iso_fs.proofs.{Words.{arith, ◌≡◌, ◌∙◌, ◌↔◌, sym, refl, ap, ℕ, Bool, true, false, ◌&&◌, cond, IsTrue, List, Option, Some, None, option_map, Result, Ok, Err, is_some, get, and_parts, Array, own, StoreError, FsError, FileAreas, is_key, Done, answer_of, del_program, get_program, tree_map, number_of, Call, create_at, create_new, create_program, empty_writes, goes_on, in_tree, refuse, rename_found, rename_free, rename_program, AreFileRegions, content, files, Tx, room_of, outcome_whole, answer_then, ExistsWhere, HasAnswered, HasRun}, AfterTree.answer_got, Lookups.files_get}
use Rattle.store_model.specs.declared.stores.StoreError.TheVariants as store
use Rattle.store_model.specs.declared.files.FsError.TheVariants as fs

-- a call that came to its answer gives its program's
answer_is : {X : Type 0} (p : Call X) (t u : Tx) (result : Result X FsError) → HasRun p t u result → HasAnswered result → (A : Array) → t.base ≡ Some A → answer_of p (own A t.accesses) ≡ result
answer_is p t u (Ok x) run answered A at = (outcome_whole (room_of t) p (own A t.accesses) (Ok x) (ap (λ e. e.1) (run.told A at))).answer_is
answer_is p t u (Err fs.BadName) run answered A at = (outcome_whole (room_of t) p (own A t.accesses) (Err fs.BadName) (ap (λ e. e.1) (run.told A at))).answer_is
answer_is p t u (Err fs.BadRange) run answered A at = (outcome_whole (room_of t) p (own A t.accesses) (Err fs.BadRange) (ap (λ e. e.1) (run.told A at))).answer_is
answer_is p t u (Err fs.Exists) run answered A at = (outcome_whole (room_of t) p (own A t.accesses) (Err fs.Exists) (ap (λ e. e.1) (run.told A at))).answer_is
answer_is p t u (Err (fs.Store store.BadKey)) run answered A at = (outcome_whole (room_of t) p (own A t.accesses) (Err (fs.Store store.BadKey)) (ap (λ e. e.1) (run.told A at))).answer_is
answer_is p t u (Err (fs.Store store.BadValue)) run answered A at = (outcome_whole (room_of t) p (own A t.accesses) (Err (fs.Store store.BadValue)) (ap (λ e. e.1) (run.told A at))).answer_is
answer_is p t u (Err (fs.Store (store.NoBlocks need free))) run answered A at =
    (outcome_whole (room_of t) p (own A t.accesses) (Err (fs.Store (store.NoBlocks need free))) (ap (λ e. e.1) (run.told A at))).answer_is
answer_is p t u (Err (fs.Store (store.Broken block))) run answered A at =
    (outcome_whole (room_of t) p (own A t.accesses) (Err (fs.Store (store.Broken block))) (ap (λ e. e.1) (run.told A at))).answer_is
answer_is p t u (Err (fs.Store (store.Tx e))) run answered A at = absurd answered
answer_is p t u (Err (fs.Store store.Memory)) run answered A at = absurd answered

-- an answer is `Exists` exactly where a test holds
abbrev Tells : {X : Type 0} → Result X FsError → Bool → Type 0
Tells result test = result ≡ Err fs.Exists ↔ IsTrue test

exists_so : {X : Type 0} → Tells {X = X} (Err fs.Exists) true
exists_so = ((λ is. refl), λ is. refl)

-- a name has a file where the tree has it
there_is : (a : FileAreas) (A : Array) (name : List ℕ) (o : Option (List ℕ)) → get (tree_map a.tree A) name ≡ o → is_some (get (files a A) name) ≡ is_some o
there_is a A name o is = ap is_some (files_get a A name ∙ ap (option_map (λ v. content a A (number_of v))) is) ∙ same o
  where
    same : (o : Option (List ℕ)) → is_some (option_map (λ v. content a A (number_of v)) o) ≡ is_some o
    same None = refl
    same (Some v) = refl

-- CREATE
made_tells : (a : FileAreas) (k byte : ℕ) (B : Array) (result : Result (Unit {0}) StoreError) → Tells (answer_of (goes_on (λ put. empty_writes a k byte) result) B) false
made_tells a k byte B (Ok u) = ((λ is. cc), λ is. cc)
made_tells a k byte B (Err e) = ((λ is. cc), λ is. cc)

at_tells : (a : FileAreas) (name first : List ℕ) (A : Array) (o : Option ℕ) → Tells (answer_of (create_at a name first o) A) false
at_tells a name first A None = ((λ is. cc), λ is. cc)
at_tells a name first A (Some k) = grind (arith, made_tells, answer_then) steps 100000

new_tells : (a : FileAreas) (name : List ℕ) (A : Array) (o : Option (List ℕ)) → Tells (answer_of (create_new a name o) A) (is_some o)
new_tells a name A (Some value) = exists_so
new_tells a name A None = grind (arith, at_tells) steps 100000

create_tells : (a : FileAreas) (name : List ℕ) (A : Array) → AreFileRegions a A → is_key name ≡ true → Tells (answer_of (create_program a name) A) (is_some (get (files a A) name))
unfolding create_program
create_tells a name A regions key =
    let call : Bool → Call (Unit {0}) = λ k. cond k (in_tree (get_program a.tree name) (create_new a name)) (refuse fs.BadName) in
    let o = get (tree_map a.tree A) name in
    let answer : answer_of (call (is_key name)) A ≡ answer_of (create_new a name o) A = (λ i. answer_of (call (key i)) A) ∙ answer_got a.tree A regions.tree name key (create_new a name) in
    let there = there_is a A name o refl in
    let told = new_tells a name A o in
    ((λ is. there ∙ told.0 (sym answer ∙ is)), λ is. answer ∙ told.1 (sym there ∙ is))

pub create_exists : (a : FileAreas) (name : List ℕ) (t u : Tx) (result : Result (Unit {0}) FsError) → is_key name ≡ true → HasRun (create_program a name) t u result
    → ExistsWhere a t (λ m. is_some (get m name)) result
create_exists a name t u result key run = λ A at regions answered.
    let is = answer_is (create_program a name) t u result run answered A at in
    let told = create_tells a name (own A t.accesses) regions key in
    ((λ exists. told.0 (is ∙ exists)), λ there. sym is ∙ told.1 there)

-- RENAME
abbrev last : Bool → Call Bool
last there = Done (Ok true)

del_tells : (B : Array) (result : Result Bool StoreError) → Tells (answer_of (goes_on last result) B) false
del_tells B (Ok d) = ((λ is. cc), λ is. cc)
del_tells B (Err e) = ((λ is. cc), λ is. cc)

abbrev moved : FileAreas → (old : List ℕ) → Unit {0} → Call Bool
moved a old put = in_tree (del_program a.tree old) last

put_tells : (a : FileAreas) (old : List ℕ) (B : Array) (result : Result (Unit {0}) StoreError) → Tells (answer_of (goes_on (moved a old) result) B) false
put_tells a old B (Err e) = ((λ is. cc), λ is. cc)
put_tells a old B (Ok u) = grind (arith, del_tells, answer_then) steps 100000

free_tells : (a : FileAreas) (old new value : List ℕ) (A : Array) (o : Option (List ℕ)) → Tells (answer_of (rename_free a old new value o) A) (is_some o)
free_tells a old new value A (Some other) = exists_so
free_tells a old new value A None = grind (arith, put_tells, answer_then) steps 100000

module _ (a : FileAreas) (old new : List ℕ) (A : Array) (regions : AreFileRegions a A) (old_key : is_key old ≡ true) (new_key : is_key new ≡ true) where
  found_tells : (o : Option (List ℕ)) → Tells (answer_of (rename_found a old new o) A) (is_some o && is_some (get (tree_map a.tree A) new))
  found_tells None = ((λ is. cc), λ is. cc)
  found_tells (Some value) =
      let answer = answer_got a.tree A regions.tree new new_key (rename_free a old new value) in
      let told = free_tells a old new value A (get (tree_map a.tree A) new) in
      ((λ is. told.0 (sym answer ∙ is)), λ is. answer ∙ told.1 is)

  rename_tells : (is_key old && is_key new) ≡ true → Tells (answer_of (rename_program a old new) A) (is_some (get (files a A) old) && is_some (get (files a A) new))
  unfolding rename_program
  rename_tells keys =
      let call : Bool → Call Bool = λ k. cond k (in_tree (get_program a.tree old) (rename_found a old new)) (refuse fs.BadName) in
      let o = get (tree_map a.tree A) old in
      let answer : answer_of (call (is_key old && is_key new)) A ≡ answer_of (rename_found a old new o) A =
      (λ i. answer_of (call (keys i)) A) ∙ answer_got a.tree A regions.tree old old_key (rename_found a old new) in
      let there : (is_some (get (files a A) old) && is_some (get (files a A) new)) ≡ (is_some o && is_some (get (tree_map a.tree A) new)) = λ i. (there_is a A old o refl) i && (there_is a A new (get (tree_map a.tree A) new) refl) i in
      let told = found_tells o in
      ((λ is. there ∙ told.0 (sym answer ∙ is)), λ is. answer ∙ told.1 (sym there ∙ is))

pub rename_exists : (a : FileAreas) (old new : List ℕ) (t u : Tx) (result : Result Bool FsError) → (is_key old && is_key new) ≡ true → HasRun (rename_program a old new) t u result
    → ExistsWhere a t (λ m. is_some (get m old) && is_some (get m new)) result
rename_exists a old new t u result keys run = λ A at regions answered.
    let is = answer_is (rename_program a old new) t u result run answered A at in
    let both = and_parts (is_key old) (is_key new) keys in
    let told = rename_tells a old new (own A t.accesses) regions both.0 both.1 keys in
    ((λ exists. told.0 (is ∙ exists)), λ there. sym is ∙ told.1 there)
