-- What the definitions refuse: histories that are not isolated, and images that show something else.
use Rattle.iso_model.proofs.{Words.{◌≡◌, ◌∙◌, ◌⊎◌, ◌<◌, inl, inr, sym, refl, ap, subst, ℕ, zero, suc, ◌-◌, ◌≤◌, List, [], ◌∷◌, IfSome, Option, slice_get, unwrap_or, arith, Access, AreRuns, Commit, IsClash, IsRecord, NotAfter, Run, Geometry, Mode, Serial, Snapshot, put, zeros, IsSerialAt, IsSnapshotAt, History, array_at, last, IsImage, SameCommit, Shows, mode_byte, IsIsolated, put_access, read_access, Live, Place, client, label, AreDistinct}, OneHistory.image_tells_one, Rows.small}

-- a put of bytes in a transaction of this mode that began at a commit
abbrev put_in : (mode : Mode) → (begin block off : ℕ) → List ℕ → Commit
put_in mode begin block off bytes = record { begin = begin; mode = mode; accesses = put_access 64 block off bytes ∷ [] }

-- a history of these commits on the small image, the first of which has this number
abbrev from_first : ℕ → List Commit → History
from_first first commits = record { first = first; base = zeros 64 4; commits = commits }

some_number : (n : ℕ) → zero ≡ suc n → ⊥
some_number n e = cc

-- The second transaction read what the first then wrote, and wrote itself.
abbrev lost_read : History
lost_read = from_first 1 (put_in Serial 0 0 0 (170 ∷ []) ∷ record { begin = 0; mode = Serial; accesses = read_access 0 ∷ put_access 64 0 1 (187 ∷ []) ∷ [] } ∷ [])

pub a_lost_read_is_not_serial : IsSerialAt lost_read 2 → ⊥
unfolding put
a_lost_read_is_not_serial is = some_number 169 (is 0 0 refl)

pub a_lost_read_is_not_isolated : IsIsolated small lost_read → ⊥
a_lost_read_is_not_isolated is = a_lost_read_is_not_serial (is 2 (omega arith) (omega arith)).isolated

-- Both wrote the last byte of a block, and neither saw the other.
abbrev two_writers : List Commit
two_writers = put_in Snapshot 0 0 63 (1 ∷ []) ∷ put_in Snapshot 0 0 63 (2 ∷ []) ∷ []

pub two_writers_are_no_snapshot : IsSnapshotAt small (from_first 1 two_writers) 2 → ⊥
two_writers_are_no_snapshot is = is 1 (omega arith) (omega arith) (omega arith) 0 0 refl refl (refl, (63, omega arith, refl, refl))

-- The same, where what was lost is the second of two accesses, and not the first byte of its block.
pub a_later_lost_read_is_not_serial :
    IsSerialAt (from_first 1 (put_in Serial 0 0 5 (170 ∷ []) ∷ record { begin = 0; mode = Serial; accesses = read_access 1 ∷ read_access 0 ∷ put_access 64 2 0 (1 ∷ []) ∷ [] } ∷ [])) 2 → ⊥
unfolding put
a_later_lost_read_is_not_serial is = some_number 169 (is 1 5 refl)

-- a transaction that wrote two blocks, from the same begin
abbrev two_puts : (block : ℕ) → Commit
two_puts block = record { begin = 0; mode = Snapshot; accesses = put_access 64 block 0 (1 ∷ []) ∷ put_access 64 0 7 (1 ∷ 2 ∷ []) ∷ [] }

pub two_later_writers_are_no_snapshot : IsSnapshotAt small (from_first 1 (two_puts 1 ∷ two_puts 2 ∷ [])) 2 → ⊥
two_later_writers_are_no_snapshot is = is 1 (omega arith) (omega arith) (omega arith) 1 1 refl refl (refl, (8, omega arith, refl, refl))

-- A commit up to the begin clashes with nothing, and the least clash is the one of the lower block.
pub a_commit_that_was_seen_is_no_clash : (accesses : List Access) (mode : Mode) → IsClash small lost_read mode 1 accesses (record { commit = 1; block = 0; at = 0 }) → ⊥
a_commit_that_was_seen_is_no_clash accesses mode is = let after : 1 < 1 = is.after in omega (arith, after)

pub a_higher_block_is_after : NotAfter (record { commit = 1; block = 3; at = 0 }) (record { commit = 1; block = 0; at = 9 }) → ⊥
a_higher_block_is_after is = by is
  where
    by : (1 < 1) ⊎ ((◌≡◌ {A = ℕ} 1 1) × ((3 < 0) ⊎ ((◌≡◌ {A = ℕ} 3 0) × (0 ≤ 9)))) → ⊥
    by (inl commit) = omega (arith, commit)
    by (inr (same, inl block)) = omega (arith, block)
    by (inr (same, inr (block, byte))) = omega (arith, block)

pub a_later_commit_is_after : NotAfter (record { commit = 2; block = 0; at = 0 }) (record { commit = 1; block = 3; at = 9 }) → ⊥
a_later_commit_is_after is = by is
  where
    by : (2 < 1) ⊎ ((◌≡◌ {A = ℕ} 2 1) × ((0 < 3) ⊎ ((◌≡◌ {A = ℕ} 0 3) × (0 ≤ 9)))) → ⊥
    by (inl commit) = omega (arith, commit)
    by (inr (same, rest)) = omega (arith, same)

-- A commit that began at its own number would have seen itself.
pub a_begin_at_its_own_number_is_not_isolated :
    IsIsolated small (from_first 1 (put_in Snapshot 0 0 0 (1 ∷ []) ∷ put_in Snapshot 2 0 0 (2 ∷ []) ∷ [])) → ⊥
a_begin_at_its_own_number_is_not_isolated is = grind arith

-- One that began before the base saw an array that is not told.
pub a_begin_before_the_base_is_not_isolated : IsIsolated small (from_first 5 (put_in Snapshot 2 0 0 (1 ∷ []) ∷ [])) → ⊥
a_begin_before_the_base_is_not_isolated is = grind arith

-- what an image holds is what it shows
pub shows_what_it_holds : (bytes : List ℕ) (g : Geometry) (form generation : ℕ) (K H : History) (p : ℕ)
    → IsImage bytes (record g { form = form }) generation K → Shows bytes g H p → (last K ≡ p) × (array_at K p ≡ array_at H p)
shows_what_it_holds bytes g form generation K H p image shows =
    let one = image_tells_one bytes (record g { form = form }) (record g { form = shows.form }) generation shows.generation K shows.held image shows.image in
    (ap last one.2 ∙ shows.last, ap (λ (G : History). array_at G p) one.2 ∙ shows.arrays p (omega arith) (omega arith))

-- two histories that an image shows agree at that commit
pub shows_one_history : (bytes : List ℕ) (g : Geometry) (H G : History) (p q : ℕ) → Shows bytes g H p → Shows bytes g G q
    → (p ≡ q) × (array_at H p ≡ array_at G q)
shows_one_history bytes g H G p q first second =
    let one = shows_what_it_holds bytes g first.form first.generation first.held G q first.image second in
    let same : p ≡ q = sym first.last ∙ one.0 in
    let here = shows_what_it_holds bytes g first.form first.generation first.held H p first.image first in
    (same, sym here.1 ∙ ap (array_at first.held) same ∙ one.1)

-- a live transaction without accesses
abbrev live_at : (number : ℕ) → Place → Live
live_at number place = record { number = number; begin = 0; mode = Serial; accesses = []; place = place }

-- Two live transactions have not one number, nor one client, nor one label.
pub one_number_is_not_two : AreDistinct (live_at 7 (client 1) ∷ live_at 7 (client 2) ∷ []) → ⊥
one_number_is_not_two is = is.0.0.numbers refl

pub one_client_is_not_two : AreDistinct (live_at 7 (client 1) ∷ live_at 8 (client 1) ∷ []) → ⊥
one_client_is_not_two is = is.0.0.places refl

pub one_label_is_not_two : AreDistinct (live_at 7 (label (97 ∷ [])) ∷ live_at 8 (label (97 ∷ [])) ∷ []) → ⊥
one_label_is_not_two is = is.0.0.places refl

-- A commit of another mode is another commit.
pub another_mode_is_another_commit : SameCommit small (put_in Serial 0 0 0 (1 ∷ [])) (put_in Snapshot 0 0 0 (1 ∷ [])) → ⊥
another_mode_is_another_commit is = some_number 0 (ap mode_byte is.mode)

-- A commit of another value is another commit, also where the byte is not the first one.
pub another_value_is_another_commit : SameCommit small (put_in Serial 0 3 63 (1 ∷ [])) (put_in Serial 0 3 63 (2 ∷ [])) → ⊥
another_value_is_another_commit is = some_number 0 (ap (λ (o : Option ℕ). unwrap_or o 0 - 1) (is.effect 3 63 (omega arith) (omega arith)))

-- one byte, as a run
abbrev one_byte : (block off : ℕ) → Run
one_byte block off = record { block = block; off = off; bytes = 1 ∷ [] }

-- Runs that touch are one run; runs rise; a run has a byte, and lies in a block of the array.
pub runs_that_touch_are_no_runs : AreRuns small (one_byte 0 4 ∷ one_byte 0 5 ∷ []) → ⊥
runs_that_touch_are_no_runs is = no_gap is.1
  where
    no_gap : (0 < 0) ⊎ ((◌≡◌ {A = ℕ} 0 0) × (5 < 5)) → ⊥
    no_gap (inl block) = omega (arith, block)
    no_gap (inr (same, off)) = omega (arith, off)

pub runs_that_fall_are_no_runs : AreRuns small (one_byte 1 4 ∷ one_byte 0 9 ∷ []) → ⊥
runs_that_fall_are_no_runs is = no_rise is.1
  where
    no_rise : (1 < 0) ⊎ ((◌≡◌ {A = ℕ} 1 0) × (5 < 9)) → ⊥
    no_rise (inl block) = omega (arith, block)
    no_rise (inr (same, off)) = omega (arith, same)

pub runs_that_fall_in_a_block_are_no_runs : AreRuns small (one_byte 0 9 ∷ one_byte 0 4 ∷ []) → ⊥
runs_that_fall_in_a_block_are_no_runs is = no_rise is.1
  where
    no_rise : (0 < 0) ⊎ ((◌≡◌ {A = ℕ} 0 0) × (10 < 4)) → ⊥
    no_rise (inl block) = omega (arith, block)
    no_rise (inr (same, off)) = omega (arith, off)

pub no_byte_is_no_run : AreRuns small (record { block = 0; off = 4; bytes = [] } ∷ []) → ⊥
no_byte_is_no_run is = let some : 0 < 0 = is.some in omega (arith, some)

pub a_byte_past_the_block_is_no_run : AreRuns small (one_byte 0 64 ∷ []) → ⊥
a_byte_past_the_block_is_no_run is = let fits : 65 ≤ 64 = is.fits in omega (arith, fits)

pub a_block_past_the_array_is_no_run : AreRuns small (one_byte 4 0 ∷ []) → ⊥
a_block_past_the_array_is_no_run is = let block : 4 < 4 = is.block in omega (arith, block)

-- A record without a part is none, nor, in form 1, one of another mode than the image's.
pub no_part_is_no_record : IsRecord small (record { mode = Serial; parts = [] }) → ⊥
no_part_is_no_record is = let some : 0 < 0 = is.some in omega (arith, some)

pub another_mode_is_no_record_of_form_1 : IsRecord small (record { mode = Snapshot; parts = one_byte 0 4 ∷ [] }) → ⊥
another_mode_is_no_record_of_form_1 is = some_number 0 (sym (ap mode_byte (is.mode refl)))

-- each commit that an image holds is the one that it shows
pub shows_its_commits : (bytes : List ℕ) (g : Geometry) (form generation : ℕ) (K H : History) (p n : ℕ)
    → IsImage bytes (record g { form = form }) generation K → Shows bytes g H p → K.first ≤ n → n ≤ p
    → IfSome (slice_get K.commits (n - K.first)) (λ c. IfSome (slice_get H.commits (n - H.first)) (SameCommit g c))
shows_its_commits bytes g form generation K H p n image shows from to =
    let one = image_tells_one bytes (record g { form = form }) (record g { form = shows.form }) generation shows.generation K shows.held image shows.image in
    subst (λ (G : History). G.first ≤ n → IfSome (slice_get G.commits (n - G.first)) (λ c. IfSome (slice_get H.commits (n - H.first)) (SameCommit g c)))
    (sym one.2) (λ begins. shows.commits n begins to) from
