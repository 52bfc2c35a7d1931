-- The look-up of a file block, part by part, and what follows it in a call.
use Rattle.iso_fs.proofs.{Words.{◌≡◌, ◌∙◌, sym, refl, ap, subst, ℕ, ◌+◌, Bool, true, false, cond, List, Option, Some, None, Result, Ok, Err, arith, Area, StoreError, FsError, FileAreas, is_key, is_value, Done, LookWhole, Program, then_do, del_program, get_program, put_program, is_file, is_number, number_of, Call, at_file, broken, goes_on, in_tree, numbered, with_file, Tx, Device, HasAccess, IsAt, at_start, at_then, ran_at, stopped_then, cut_then, then_assoc, HasRun, Found, find_program, found_file, on_found, IsPart, HasRead}, Ended.{behaves_after, run_as, run_from}}
use Rattle.store_model.specs.declared.stores.StoreError.TheVariants as store
use Rattle.store_model.specs.declared.files.FsError.TheVariants as fs

-- THE CALLS OF THE TREE MAKE AN ACCESS
pub get_has : (a : Area) (key : List ℕ) → is_key key ≡ true → HasAccess (get_program a key)
unfolding get_program
get_has a key is = rw is (λ A. omega arith)

pub del_has : (a : Area) (key : List ℕ) → is_key key ≡ true → HasAccess (del_program a key)
unfolding del_program
del_has a key is = rw is (λ A. omega arith)

pub put_has : (a : Area) (key value : List ℕ) → is_key key ≡ true → is_value value ≡ true → HasAccess (put_program a key value)
unfolding put_program
put_has a key value key_is value_is = rw (key_is, value_is) (λ A. omega arith)

-- THE FILE BLOCK
pub file_broken : (a : Area) (number : ℕ) (file : List ℕ) → is_file a file ≡ false → cond (is_file a file) (found_file number file) (broken (a.start + number)) ≡ broken (a.start + number)
file_broken a number file bad = ap (λ (b : Bool). cond b (found_file number file) (broken (a.start + number))) bad

pub file_found : (a : Area) (number : ℕ) (file : List ℕ) → is_file a file ≡ true → cond (is_file a file) (found_file number file) (broken (a.start + number)) ≡ found_file number file
file_found a number file good = ap (λ (b : Bool). cond b (found_file number file) (broken (a.start + number))) good

-- THE VALUE OF THE NAME
pub value_bad : (a : FileAreas) (value : List ℕ) → is_number a.files value ≡ false → with_file a found_file value ≡ broken a.tree.start
value_bad a value bad = ap (λ (b : Bool). cond b (numbered a.files found_file (number_of value)) (broken a.tree.start)) bad

pub value_named : (a : FileAreas) (value : List ℕ) (number : ℕ) → is_number a.files value ≡ true → number ≡ number_of value → with_file a found_file value ≡ numbered a.files found_file number
value_named a value number good is = ap (λ (b : Bool). cond b (numbered a.files found_file (number_of value)) (broken a.tree.start)) good ∙ ap (numbered a.files found_file) (sym is)

-- A PART THAT IS REFUSED
refused_in : {X Y : Type 0} (p : Call X) (f : Result X FsError → Call Y) (t u : Tx) (e : FsError) → f (Err e) ≡ Done (Err e) → HasRun p t u (Err e) → HasRun (then_do p f) t u (Err e)
refused_in p f t u fs.BadName stops run = ran_at (then_do p f) t u (Err fs.BadName) (subst (λ (q : Call _). IsAt (then_do p f) q t u) stops (at_then (then_do p f) p f t t u (Err fs.BadName) (at_start (then_do p f) t) run))
refused_in p f t u fs.BadRange stops run = ran_at (then_do p f) t u (Err fs.BadRange) (subst (λ (q : Call _). IsAt (then_do p f) q t u) stops (at_then (then_do p f) p f t t u (Err fs.BadRange) (at_start (then_do p f) t) run))
refused_in p f t u fs.Exists stops run = ran_at (then_do p f) t u (Err fs.Exists) (subst (λ (q : Call _). IsAt (then_do p f) q t u) stops (at_then (then_do p f) p f t t u (Err fs.Exists) (at_start (then_do p f) t) run))
refused_in p f t u (fs.Store store.BadKey) stops run = ran_at (then_do p f) t u (Err (fs.Store store.BadKey)) (subst (λ (q : Call _). IsAt (then_do p f) q t u) stops (at_then (then_do p f) p f t t u (Err (fs.Store store.BadKey)) (at_start (then_do p f) t) run))
refused_in p f t u (fs.Store store.BadValue) stops run = ran_at (then_do p f) t u (Err (fs.Store store.BadValue)) (subst (λ (q : Call _). IsAt (then_do p f) q t u) stops (at_then (then_do p f) p f t t u (Err (fs.Store store.BadValue)) (at_start (then_do p f) t) run))
refused_in p f t u (fs.Store (store.NoBlocks need free)) stops run = ran_at (then_do p f) t u (Err (fs.Store (store.NoBlocks need free))) (subst (λ (q : Call _). IsAt (then_do p f) q t u) stops (at_then (then_do p f) p f t t u (Err (fs.Store (store.NoBlocks need free))) (at_start (then_do p f) t) run))
refused_in p f t u (fs.Store (store.Broken block)) stops run = ran_at (then_do p f) t u (Err (fs.Store (store.Broken block))) (subst (λ (q : Call _). IsAt (then_do p f) q t u) stops (at_then (then_do p f) p f t t u (Err (fs.Store (store.Broken block))) (at_start (then_do p f) t) run))
refused_in p f t u (fs.Store (store.Tx e)) stops run = cut_then p f t u e run
refused_in p f t u (fs.Store store.Memory) stops run = stopped_then p f t u run

-- WHAT FOLLOWS
then_cond : {R S : Type 0} (t : Bool) (p q : Program R) (f : R → Program S) → then_do (cond t p q) f ≡ cond t (then_do p f) (then_do q f)
then_cond true p q f = refl
then_cond false p q f = refl

module _ {Y : Type 0} (a : FileAreas) (name : List ℕ) (none : Y) (next : ℕ → List ℕ → Call Y) where
  abbrev call : Call Y
  call = in_tree (get_program a.tree name) (at_file a none next)

  file_then : (number : ℕ) → then_do (numbered a.files found_file number) (on_found none next) ≡ numbered a.files next number
  file_then number = λ i. LookWhole (a.files.start + number) (λ file. then_cond (is_file a.files file) (found_file number file) (broken (a.files.start + number)) (on_found none next) i)

  value_then : (value : List ℕ) → then_do (with_file a found_file value) (on_found none next) ≡ with_file a next value
  value_then value =
      then_cond (is_number a.files value) (numbered a.files found_file (number_of value)) (broken a.tree.start) (on_found none next)
      ∙ ap (λ (p : Call Y). cond (is_number a.files value) p (broken a.tree.start)) (file_then (number_of value))

  each_then : (r : Result (Option (List ℕ)) StoreError) → then_do (goes_on (at_file a None found_file) r) (on_found none next) ≡ goes_on (at_file a none next) r
  each_then (Err e) = refl
  each_then (Ok None) = refl
  each_then (Ok (Some value)) = value_then value

  find_then : then_do (find_program a name) (on_found none next) ≡ call
  find_then = then_assoc (get_program a.tree name) (goes_on (at_file a None found_file)) (on_found none next) ∙ (λ i. then_do (get_program a.tree name) (λ r. each_then r i))

  -- what is done after the look-up
  pub found_part : {late : Bool} {writes : ℕ} {t u v : Tx} {before mid now : Device} {x : Found} {result : Result Y FsError} → IsPart false 1 (find_program a name) t u before mid (Ok x) → HasRead t u
      → IsPart late writes (on_found none next (Ok x)) u v mid now result → IsPart late writes (in_tree (get_program a.tree name) (at_file a none next)) t v before now result
  found_part {writes = writes} {t = t} {u = u} {v = v} {before = before} {mid = mid} {now = now} {x = x} {result = result} found read part =
      let whole = then_do (find_program a name) (on_found none next) in
      record {
        run = run_as whole call t v result (sym find_then)
            (run_from whole (on_found none next (Ok x)) t u v result (at_then whole (find_program a name) (on_found none next) t t u (Ok x) (at_start whole t) found.run) part.run);
        behaves = behaves_after t u v writes before mid now result read found.behaves.leaves.later found.behaves.leaves.passed part.behaves;
      }

  -- the look-up was refused
  pub found_stops : {t u : Tx} {before now : Device} {e : FsError} → IsPart false 1 (find_program a name) t u before now (Err e) → IsPart false 1 (in_tree (get_program a.tree name) (at_file a none next)) t u before now (Err e)
  found_stops {t = t} {u = u} {e = e} found =
      let b = found.behaves in
      record {
        run = run_as (then_do (find_program a name) (on_found none next)) call t u (Err e) (sym find_then) (refused_in (find_program a name) (on_found none next) t u e refl found.run);
        behaves = record { leaves = record { cause = b.leaves.cause; unwritten = b.leaves.unwritten; later = b.leaves.later; passed = tt }; known = b.known };
      }
