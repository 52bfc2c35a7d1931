-- The history that an image holds is a sound one: the world that it opens to is sound.
use Rattle.iso_model.proofs.{Words.{◌≡◌, ◌⊎◌, ◌∙◌, sym, refl, ap, ℕ, zero, suc, ◌+◌, ◌-◌, ◌*◌, ◌<◌, ◌≤◌, Bool, true, false, cond, List, [], ◌∷◌, length, get_or, map, take, drop, slice_get, sum_by, Some, nat_lt, arith, inl, inr, subst, AllByRecursion, length-append, length-take, length-drop, length-take-le, sum_by-cons, none-some, same_Some, Access, Commit, Geometry, Read, Mode, Serial, Snapshot, Run, LAST, Array, covers, runs, record_length, image_size, base_place, log_place, History, AreRuns, IsRecord, IsImage, Written, written, commits_of, records, spell, part, kind_of, blocks_of, chosen_half, recorded, IsIsolated, IsIsolatedAt, block_at, AreAccesses, AreBytes, used, fresh, IsWorld}, ByteLists.{no_bytes, bytes_back, bytes_drop, bytes_front, bytes_take}, Isolation.if_some_from, Unique.runs_recorded, Accesses.put_is_access, FreshWorlds.fresh_is}
use Rattle.std.proofs.Common.{flat_map}

-- the half is the first or the second
pub half_is : (a : Bool) (m : ℕ) (b : Bool) (n half : ℕ) → chosen_half a m b n ≡ Some half → (half ≡ 0) ⊎ (half ≡ 1)
half_is true m true n half chosen = go (nat_lt m n) (same_Some _ half chosen)
  where
    go : (t : Bool) → cond t 1 0 ≡ half → (half ≡ 0) ⊎ (half ≡ 1)
    go true e = inr (sym e)
    go false e = inl (sym e)
half_is true m false n half chosen = inl (sym (same_Some 0 half chosen))
half_is false m true n half chosen = inr (sym (same_Some 1 half chosen))
half_is false m false n half chosen = absurd (none-some half chosen)

length-blocks_of : (size n : ℕ) (bytes : List ℕ) → length (blocks_of size n bytes) ≡ n
length-blocks_of size zero bytes = refl
length-blocks_of size (suc n) bytes = ap suc (length-blocks_of size n (drop size bytes))

block_length : (size n : ℕ) (bytes : List ℕ) (b : ℕ) → n * size ≤ length bytes → b < n → length (get_or (blocks_of size n bytes) b []) ≡ size
block_length size zero bytes b enough below = absurd (omega arith)
block_length size (suc n) bytes zero enough below = length-take-le size bytes (omega arith)
block_length size (suc n) bytes (suc b) enough below =
    block_length size n (drop size bytes) b (omega (arith, length-drop size bytes)) (omega arith)

-- the base lies in the image
base_inside : (g : Geometry) (bytes : List ℕ) (half : ℕ) → length bytes ≡ image_size g → (half ≡ 0) ⊎ (half ≡ 1)
    → g.blocks * g.block ≤ length (drop (base_place g half) bytes)
base_inside g bytes half size (inl first) = rw first (omega (arith, length-drop (base_place g 0) bytes))
base_inside g bytes half size (inr second) = rw second (omega (arith, length-drop (base_place g 1) bytes))

-- what the records tell
abbrev HaveBytes : List Run → Type 0
HaveBytes list = AllByRecursion (λ run. AreBytes run.bytes) list

recorded_accesses : (g : Geometry) (list : List Run) → AreRuns g list → HaveBytes list → AreAccesses g (recorded g list)
recorded_accesses g [] all values = tt
recorded_accesses g (x ∷ []) all values = (put_is_access g x.block x.off x.bytes all.block all.some all.fits values.0, tt)
recorded_accesses g (x ∷ y ∷ list) all values =
    (put_is_access g x.block x.off x.bytes all.0.block all.0.some all.0.fits values.0, recorded_accesses g (y ∷ list) all.2 values.1)

-- the bytes of parts that stand in bytes are bytes
parts_bytes : (list : List Run) → AreBytes (flat_map part list) → HaveBytes list
parts_bytes [] values = tt
parts_bytes (x ∷ list) values =
    (bytes_drop 8 (part x) (bytes_front (part x) (flat_map part list) values), parts_bytes list (bytes_back (part x) (flat_map part list) values))

record_bytes : (gate kind n : ℕ) (list : List Run) → AreBytes (spell gate kind n list) → HaveBytes list
unfolding spell
record_bytes gate kind n list values = parts_bytes list (bytes_drop 20 (spell gate kind n list) values)

told_accesses : (g : Geometry) (n : ℕ) (told : List Written) → AllByRecursion (IsRecord g) told → AreBytes (records g n told)
    → AllByRecursion (λ c. AreAccesses g c.accesses) (commits_of g n told)
told_accesses g n [] each values = tt
told_accesses g n (w ∷ told) each values = (
  recorded_accesses g w.parts each.0.runs
      (record_bytes 1 (kind_of g w.mode) n w.parts (bytes_front (spell 1 (kind_of g w.mode) n w.parts) (records g (n + 1) told) values)),
  told_accesses g (n + 1) told each.1 (bytes_back (spell 1 (kind_of g w.mode) n w.parts) (records g (n + 1) told) values),
)

-- the blocks of bytes
blocks_bytes : (size n : ℕ) (bytes : List ℕ) (b : ℕ) → AreBytes bytes → AreBytes (block_at (blocks_of size n bytes) b)
blocks_bytes size zero bytes b values = no_bytes
blocks_bytes size (suc n) bytes zero values = bytes_take size bytes values
blocks_bytes size (suc n) bytes (suc b) values = blocks_bytes size n (drop size bytes) b (bytes_drop size bytes values)

length-told : (g : Geometry) (n : ℕ) (told : List Written) → length (commits_of g n told) ≡ length told
length-told g n [] = refl
length-told g n (w ∷ told) = ap suc (length-told g (n + 1) told)

-- the records of these commits are the ones told
pub told_again : (g : Geometry) (n : ℕ) (told : List Written) → AllByRecursion (IsRecord g) told → map (written g) (commits_of g n told) ≡ told
told_again g n [] each = refl
told_again g n (w ∷ told) each =
    let parts : runs g (recorded g w.parts) ≡ w.parts = runs_recorded g w.parts each.0.runs in
    let rest = told_again g (n + 1) told each.1 in
    λ i. record { mode = w.mode; parts = parts i } ∷ rest i

-- a write is no read
no_read : (g : Geometry) (list : List Run) (i : ℕ) (a : Access) (b p : ℕ) → slice_get (recorded g list) i ≡ Some a → covers Read b p a ≡ true → ⊥
no_read g [] i a b p at reads = none-some a at
no_read g (x ∷ list) zero a b p at reads = grind arith
no_read g (x ∷ list) (suc i) a b p at reads = no_read g list i a b p at reads

-- a commit that was told: it began directly before its number, and has a record's writes
record IsTold (g : Geometry) (k : ℕ) (c : Commit) : Type 0 where
  list : List Run
  begin : c.begin ≡ k - 1
  accesses : c.accesses ≡ recorded g list

told_at : (g : Geometry) (n i : ℕ) (told : List Written) (c : Commit) → slice_get (commits_of g n told) i ≡ Some c → IsTold g (n + i) c
told_at g n i [] c at = absurd (none-some c at)
told_at g n zero (w ∷ told) c at = grind arith
told_at g n (suc i) (w ∷ told) c at =
    let e : n + suc i ≡ n + 1 + i = omega arith in
    rw e (told_at g (n + 1) i told c at)

told_isolated_at : (g : Geometry) (H : History) (k : ℕ) (mode : Mode)
    → ((c : Commit) → slice_get H.commits (k - H.first) ≡ Some c → IsTold g k c) → IsIsolatedAt g H mode k
told_isolated_at g H k Serial told = if_some_from _ (slice_get H.commits (k - H.first)) (λ c at i p.
    if_some_from _ (slice_get c.accesses i) (λ a is reads.
    let t = told c at in
    absurd (no_read g t.list i a a.block p (subst (λ (list : List Access). slice_get list i ≡ Some a) t.accesses is) reads)))
told_isolated_at g H k Snapshot told = if_some_from _ (slice_get H.commits (k - H.first)) (λ c at j from after before.
    let t = told c at in
    absurd (omega arith))

told_isolated : (g : Geometry) (H : History) (told : List Written) → 0 < H.first → H.commits ≡ commits_of g H.first told → IsIsolated g H
told_isolated g H told first is k from to = if_some_from _ (slice_get H.commits (k - H.first)) (λ d there.
    let t = at_number d there in
    record { since = omega arith; before = omega arith; isolated = told_isolated_at g H k d.mode at_number })
  where
    at_number : (c : Commit) → slice_get H.commits (k - H.first) ≡ Some c → IsTold g k c
    at_number c at =
        let e : H.first + (k - H.first) ≡ k = omega arith in
        rw e at (told_at g H.first (k - H.first) told c (ap (λ commits. slice_get commits (k - H.first)) (sym is) ∙ at))

-- the length of the records
pub length-part : (run : Run) → length (part run) ≡ 8 + length run.bytes
length-part run = grind arith

pub length-parts : (parts : List Run) → length (flat_map part parts) ≡ sum_by (λ run. 8 + length run.bytes) parts
length-parts [] = refl
length-parts (x ∷ more) =
    length-append (part x) (flat_map part more)
    ∙ omega (arith, length-part x, length-parts more, sum_by-cons (λ (run : Run). 8 + length run.bytes) x more)

pub length-spell : (gate kind n : ℕ) (parts : List Run) → length (spell gate kind n parts) ≡ record_length parts
unfolding spell
length-spell gate kind n parts = omega (arith, length-parts parts)

pub length-records : (g : Geometry) (n : ℕ) (told : List Written) → length (records g n told) ≡ sum_by (λ w. record_length w.parts) told
length-records g n [] = refl
length-records g n (w ∷ told) =
    length-append (spell 1 (kind_of g w.mode) n w.parts) (records g (n + 1) told)
    ∙ omega (arith, length-spell 1 (kind_of g w.mode) n w.parts, length-records g (n + 1) told, sum_by-cons (λ (v : Written). record_length v.parts) w told)

pub sum_by-map : {X Y : Type 0} (f : Y → ℕ) (h : X → Y) (xs : List X) → sum_by f (map h xs) ≡ sum_by (λ x. f (h x)) xs
sum_by-map f h [] = refl
sum_by-map f h (x ∷ xs) = sum_by-cons f (h x) (map h xs) ∙ ap (λ n. f (h x) + n) (sum_by-map f h xs) ∙ sym (sum_by-cons (λ y. f (h y)) x xs)

-- the world that an image opens to
pub opened_is : (bytes : List ℕ) (g : Geometry) (generation : ℕ) (H : History) → AreBytes bytes → IsImage bytes g generation H → IsWorld (fresh g generation H)
opened_is bytes g generation H values is =
    let half = half_is _ _ _ _ is.half is.current in
    let first : 0 < H.first = is.first in
    let count : length H.commits ≡ length is.told = ap length is.commits ∙ length-told g H.first is.told in
    let (gate, rest, closed, log) = is.log in
    let in_records : AreBytes (records g H.first is.told) =
    bytes_front (records g H.first is.told) (gate ∷ rest)
    (subst AreBytes log (bytes_take g.log (drop (log_place g is.half) bytes) (bytes_drop (log_place g is.half) bytes values))) in
    let again : map (written g) H.commits ≡ is.told = ap (map (written g)) is.commits ∙ told_again g H.first is.told is.each in
    let dropped : H.first - 1 + 1 - H.first ≡ 0 = omega arith in
    let taken : used (fresh g generation H) ≡ length (records g H.first is.told) =
    (rw dropped (sym (sum_by-map (λ (w : Written). record_length w.parts) (written g) H.commits)
    ∙ ap (sum_by (λ (w : Written). record_length w.parts)) again ∙ sym (length-records g H.first is.told))) in
    let fits : length (take g.log (drop (log_place g is.half) bytes)) ≤ g.log = omega (arith, length-take g.log (drop (log_place g is.half) bytes)) in
    let whole : length (take g.log (drop (log_place g is.half) bytes)) ≡ length (records g H.first is.told) + suc (length rest) =
    ap length log ∙ length-append (records g H.first is.told) (gate ∷ rest) in
    fresh_is g generation H is.valid
    (record {
      first = is.first;
      base = record {
        blocks = ap length is.base ∙ length-blocks_of g.block g.blocks (drop (base_place g is.half) bytes);
        bytes = λ b below. ap (λ (A : Array). length (get_or A b [])) is.base
            ∙ block_length g.block g.blocks (drop (base_place g is.half) bytes) b (base_inside g bytes is.half is.size half) below;
        values = λ b. rw is.base (blocks_bytes g.block g.blocks (drop (base_place g is.half) bytes) b (bytes_drop (base_place g is.half) bytes values));
      };
      commits = rw is.commits (told_accesses g H.first is.told is.each in_records);
    })
    (told_isolated g H is.told is.first is.commits)
    (subst (AllByRecursion (IsRecord g)) (sym again) is.each)
    (let bound : H.first + length is.told - 1 ≤ LAST = is.last in omega arith)
    is.generation_bound
    (omega arith)
