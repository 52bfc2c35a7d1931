-- The versions that an image keeps of its blocks.
use Rattle.std.specs.{Prelude.{◌≡◌, ◌⊎◌, ℕ, ◌+◌, ◌-◌, ◌<◌, ◌≤◌, Bool, true, false, ◌&&◌, ◌||◌, not, List, [], ◌∷◌, Some, length, filter, slice_get, nat_le, nat_lt}, List.{list_any, range_with_len}}
use Rattle.iso_model.specs.{declared.access.Commit.Commit, declared.access.Geometry.Geometry, declared.access.Kind.TheVariants.Write, declared.access.Run.Run, Effect.{runs, touches}, World.{World, logged_commits}}

-- whether one of these commits up to the trim number, the first of which has the number k, writes the byte
abbrev pub is_written : (trim k : ℕ) → List Commit → (b p : ℕ) → Bool
is_written trim k [] b p = false
is_written trim k (c ∷ later) b p = (nat_le k trim && touches Write c.accesses b p) || is_written trim (k + 1) later b p

-- one of these commits does: the words of the test
abbrev pub IsWritten : (trim k : ℕ) → List Commit → (b p : ℕ) → Type 0
IsWritten trim k commits b p =
    (j : ℕ) × (c : Commit) × (k ≤ j) × (j ≤ trim) × (slice_get commits (j - k) ≡ Some c) × (touches Write c.accesses b p ≡ true)

-- whether a run of commit n, which these follow, is kept: the commit is above the trim number, or a byte of the run still
-- shows there
abbrev pub is_kept : (trim n : ℕ) → (later : List Commit) → Run → Bool
is_kept trim n later run =
    nat_lt trim n || list_any (λ p. not (is_written trim (n + 1) later run.block p)) (range_with_len run.off (length run.bytes))

-- the words of that test
abbrev pub StillShows : (trim n : ℕ) → (later : List Commit) → Run → Type 0
StillShows trim n later run =
    (trim < n) ⊎ ((p : ℕ) × (run.off ≤ p) × (p < run.off + length run.bytes) × (IsWritten trim (n + 1) later run.block p → ⊥))

-- how many runs of these commits are kept, the first of which has the number n
abbrev pub kept_from : Geometry → (trim n : ℕ) → List Commit → ℕ
kept_from g trim n [] = 0
kept_from g trim n (c ∷ later) = length (filter (is_kept trim n later) (runs g c.accesses)) + kept_from g trim (n + 1) later

-- how many parts of the records above the base number are kept
unfoldable pub versions : World → ℕ
versions W = kept_from W.geometry W.trim (W.base + 1) (logged_commits W)
