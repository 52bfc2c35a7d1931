-- The writes that a record represents have the effect of those that it was made of.
use Rattle.iso_model.proofs.{Words.{◌≡◌, ◌∙◌, sym, refl, ap, ℕ, zero, suc, ◌+◌, ◌-◌, ◌<◌, ◌≤◌, Bool, true, false, ◌&&◌, ◌||◌, ◌==◌, cond, IfSome, List, [], ◌∷◌, ◌++◌, length, get_or, map, take, replicate, Some, None, slice_get, unwrap_or, arith, AllByRecursion, and_parts, length-replicate, length-append, get_or_append_left, get_or-append_right, ext_get_or, Access, Commit, Geometry, Run, Span, Write, Array, in_span, byte_at, put, is_write, covers, or_else, effect_at, own, runs, History, array_at, all_own, AreRuns, SameEffect, SameCommit, written, commits_of, recorded, put_access, block_at, AreBytes, HasShape, HasBytes, AreAccesses, IsHistory, in_run, value_of, value_in}, ByteLists.merged_bytes, Bytes.{written_block, other_block, own_at, length-own, length-block_own}, Lookups.value_runs, Maximal.are_runs}

-- a byte of bytes between two others
between : (off n p : ℕ) (bytes : List ℕ) → off ≤ p → p < off + length bytes → get_or (replicate off 0 ++ bytes ++ replicate n 0) p 0 ≡ get_or bytes (p - off) 0
between off n p bytes from below =
    get_or_append_left (replicate off 0 ++ bytes) (replicate n 0) 0 p (omega (arith, length-append (replicate off 0) bytes, length-replicate {A = ℕ} off 0))
    ∙ get_or-append_right (replicate off 0) bytes off p 0 (length-replicate {A = ℕ} off 0) from

or_false : (t : Bool) → (t || false) ≡ t
or_false t = grind arith

span_bounds : (p : ℕ) (span : Span) → in_span p span ≡ true → (span.off ≤ p) × (p < span.off + span.len)
span_bounds p span within = grind arith

-- a value where the test holds
same_where : (test : Bool) (x y : ℕ) → (test ≡ true → x ≡ y) → cond test (Some x) None ≡ cond test (Some y) None
same_where true x y same = ap Some (same refl)
same_where false x y same = refl

-- a write of a run has the run's values
recorded_at : (size : ℕ) (run : Run) (b p : ℕ)
    → cond (covers Write b p (put_access size run.block run.off run.bytes)) (Some (get_or (put_access size run.block run.off run.bytes).bytes p 0)) None ≡ value_of run b p
recorded_at size run b p =
    ap (λ t. cond ((run.block == b) && t) (Some (get_or (put_access size run.block run.off run.bytes).bytes p 0)) None)
    (or_false (in_span p (record { off = run.off; len = length run.bytes })))
    ∙ same_where (in_run b p run) (get_or (put_access size run.block run.off run.bytes).bytes p 0) (get_or run.bytes (p - run.off) 0)
    (λ within.
    let bounds = span_bounds p (record { off = run.off; len = length run.bytes }) (and_parts _ _ within).1 in
    between run.off (size - (run.off + length run.bytes)) p run.bytes bounds.0 bounds.1)

pub effect_recorded : (g : Geometry) (list : List Run) (b p : ℕ) → effect_at (recorded g list) b p ≡ value_in list b p
effect_recorded g [] b p = refl
effect_recorded g (run ∷ more) b p =
    ap (λ o. or_else o (cond (covers Write b p (put_access g.block run.block run.off run.bytes)) (Some (get_or (put_access g.block run.block run.off run.bytes).bytes p 0)) None))
    (effect_recorded g more b p)
    ∙ ap (or_else (value_in more b p)) (recorded_at g.block run b p)

-- a record's writes have the effect of the accesses
pub same_effect : (g : Geometry) (accesses : List Access) → SameEffect g (recorded g (runs g accesses)) accesses
same_effect g accesses b p block inside = effect_recorded g (runs g accesses) b p ∙ value_runs g accesses b p block inside

pub length-recorded : (size : ℕ) (run : Run) → run.off + length run.bytes ≤ size → length (put_access size run.block run.off run.bytes).bytes ≡ size
length-recorded size run fits =
    length-append (replicate run.off 0 ++ run.bytes) (replicate (size - (run.off + length run.bytes)) 0)
    ∙ omega (arith, length-append (replicate run.off 0) run.bytes, length-replicate {A = ℕ} run.off 0, length-replicate {A = ℕ} (size - (run.off + length run.bytes)) 0)

recorded_bytes : (g : Geometry) (list : List Run) → AreRuns g list → AllByRecursion (HasBytes g.block) (recorded g list)
recorded_bytes g [] all = tt
recorded_bytes g (x ∷ []) all = (λ write. length-recorded g.block x all.fits, tt)
recorded_bytes g (x ∷ y ∷ more) all = (λ write. length-recorded g.block x all.0.fits, recorded_bytes g (y ∷ more) all.2)

pub bytes_of_accesses : (g : Geometry) (accesses : List Access) → AreAccesses g accesses → AllByRecursion (HasBytes g.block) accesses
bytes_of_accesses g [] all = tt
bytes_of_accesses g (a ∷ accesses) all = (all.0.bytes, bytes_of_accesses g accesses all.1)

-- commits of accesses to the array
abbrev pub CommitsOf : Geometry → List Commit → Type 0
CommitsOf g commits = AllByRecursion (λ c. AreAccesses g c.accesses) commits

-- an array of the geometry's blocks, each of its length, whatever it holds
pub record HasSize (g : Geometry) (A : Array) : Type 0 where
  pub blocks : length A ≡ g.blocks
  pub bytes : (b : ℕ) → b < g.blocks → length (block_at A b) ≡ g.block

pub size_of : (g : Geometry) (A : Array) → HasShape g A → HasSize g A
size_of g A shape = record { blocks = shape.blocks; bytes = shape.bytes }

-- arrays of one size with the same bytes are one
pub same_arrays : (g : Geometry) (A B : Array) → HasSize g A → HasSize g B
    → ((b p : ℕ) → b < g.blocks → p < g.block → byte_at A b p ≡ byte_at B b p) → A ≡ B
same_arrays g A B first second each =
    let la : length A ≡ g.blocks = first.blocks in
    let lb : length B ≡ g.blocks = second.blocks in
    ext_get_or [] A B (la ∙ sym lb) (λ b below.
    let block : b < g.blocks = omega arith in
    let ba : length (get_or A b []) ≡ g.block = first.bytes b block in
    ext_get_or 0 (get_or A b []) (get_or B b []) (ba ∙ sym (second.bytes b block)) (λ p inside. each b p block (omega arith)))

pub own_size : (g : Geometry) (A : Array) (accesses : List Access) → HasSize g A → HasSize g (own A accesses)
own_size g A accesses size = grind (arith, length-own, length-block_own)

-- writes of bytes leave bytes
pub put_values : (A : Array) (w : Access) → ((b : ℕ) → AreBytes (block_at A b)) → AreBytes w.bytes → (b : ℕ) → AreBytes (block_at (put A w) b)
put_values A w values bytes b = grind (arith, written_block, merged_bytes, other_block)

access_values : (test : Bool) (A : Array) (a : Access) → ((b : ℕ) → AreBytes (block_at A b)) → AreBytes a.bytes → (b : ℕ) → AreBytes (block_at (cond test (put A a) A) b)
access_values true A a values bytes = put_values A a values bytes
access_values false A a values bytes = values

own_values : (g : Geometry) (A : Array) (accesses : List Access) → AreAccesses g accesses → ((b : ℕ) → AreBytes (block_at A b)) → (b : ℕ) → AreBytes (block_at (own A accesses) b)
own_values g A [] all values = values
own_values g A (a ∷ accesses) all values =
    own_values g (cond (is_write a) (put A a) A) accesses all.1 (access_values (is_write a) A a values all.0.values)

pub own_shape : (g : Geometry) (A : Array) (accesses : List Access) → AreAccesses g accesses → HasShape g A → HasShape g (own A accesses)
own_shape g A accesses all shape = grind (arith, length-own, length-block_own, own_values)

-- the array after each commit has the shape
all_own_shape : (g : Geometry) (A : Array) (n : ℕ) (commits : List Commit) → CommitsOf g commits → HasShape g A → HasShape g (all_own A (take n commits))
all_own_shape g A zero commits all shape = shape
all_own_shape g A (suc n) [] all shape = shape
all_own_shape g A (suc n) (c ∷ commits) all shape = all_own_shape g (own A c.accesses) n commits all.1 (own_shape g A c.accesses all.0 shape)

pub array_shape : (g : Geometry) (H : History) (n : ℕ) → IsHistory g H → HasShape g (array_at H n)
array_shape g H n is = all_own_shape g H.base (n + 1 - H.first) H.commits is.commits is.base

-- lists with one effect leave one array
own_same : (g : Geometry) (A : Array) (xs ys : List Access) → HasSize g A → AllByRecursion (HasBytes g.block) xs → AllByRecursion (HasBytes g.block) ys
    → SameEffect g xs ys → own A xs ≡ own A ys
own_same g A xs ys shape first second same =
    same_arrays g (own A xs) (own A ys) (own_size g A xs shape) (own_size g A ys shape) (λ b p block inside.
    own_at A xs b p g.block first (shape.bytes b block) inside
    ∙ ap (λ o. unwrap_or o (byte_at A b p)) (same b p block inside)
    ∙ sym (own_at A ys b p g.block second (shape.bytes b block) inside))

-- the commits as their records tell them leave the same arrays
pub all_own_logged : (g : Geometry) (A : Array) (n m : ℕ) (commits : List Commit) → HasSize g A → CommitsOf g commits
    → all_own A (take m (commits_of g n (map (written g) commits))) ≡ all_own A (take m commits)
all_own_logged g A n zero commits shape all = refl
all_own_logged g A n (suc m) [] shape all = refl
all_own_logged g A n (suc m) (c ∷ commits) shape all =
    ap (λ B. all_own B (take m (commits_of g (n + 1) (map (written g) commits))))
    (own_same g A (recorded g (runs g c.accesses)) c.accesses shape (recorded_bytes g (runs g c.accesses) (are_runs g c.accesses))
    (bytes_of_accesses g c.accesses all.0) (same_effect g c.accesses))
    ∙ all_own_logged g (own A c.accesses) (n + 1) m commits (own_size g A c.accesses shape) all.1

pub length-logged : (g : Geometry) (n : ℕ) (commits : List Commit) → length (commits_of g n (map (written g) commits)) ≡ length commits
length-logged g n [] = refl
length-logged g n (c ∷ commits) = ap suc (length-logged g (n + 1) commits)

pub same_commits : (g : Geometry) (n i : ℕ) (commits : List Commit)
    → IfSome (slice_get (commits_of g n (map (written g) commits)) i) (λ c. IfSome (slice_get commits i) (SameCommit g c))
same_commits g n i [] = tt
same_commits g n zero (c ∷ commits) = record { mode = refl; effect = same_effect g c.accesses }
same_commits g n (suc i) (c ∷ commits) = same_commits g (n + 1) i commits
