-- What holds of an image holds of it in another form: the numbers of its array are the same.
use Rattle.iso_model.proofs.{Words.{◌≡◌, refl, sym, ℕ, ◌-◌, ◌≤◌, IsTrue, List, [], ◌∷◌, Option, Some, None, IfSome, slice_get, sum_by, arith, subst, Access, Commit, Geometry, Mode, Serial, Snapshot, Run, record_length, runs, is_valid, History, AreRuns, IsRecord, Written, written, HasSeen, IsIsolated, IsIsolatedAt, AreAccesses, IsAccess, IsHistory, AreRecords}, Growth.all_weaker}

abbrev pub in_form : Geometry → ℕ → Geometry
in_form g form = record g { form = form }

pub valid_in : (g : Geometry) (form : ℕ) → IsTrue (is_valid g) → 1 ≤ form → form ≤ 2 → IsTrue (is_valid (in_form g form))
unfolding is_valid
valid_in g form valid least largest = search (arith)

access_in : (g : Geometry) (form : ℕ) (a : Access) → IsAccess g a → IsAccess (in_form g form) a
access_in g form a is = record { block = is.block; spans = is.spans; few = is.few; bytes = is.bytes; none = is.none; values = is.values }

pub accesses_in : (g : Geometry) (form : ℕ) (accesses : List Access) → AreAccesses g accesses → AreAccesses (in_form g form) accesses
accesses_in g form accesses all = all_weaker (IsAccess g) (IsAccess (in_form g form)) (access_in g form) accesses all

pub history_in : (g : Geometry) (form : ℕ) (H : History) → IsHistory g H → IsHistory (in_form g form) H
history_in g form H is = grind (arith, all_weaker)

seen_in : (g : Geometry) (form : ℕ) (H : History) (k : ℕ) (o : Option Commit) → IfSome o (HasSeen g H k) → IfSome o (HasSeen (in_form g form) H k)
seen_in g form H k None seen = tt
seen_in g form H k (Some c) seen = record { since = seen.since; before = seen.before; isolated = go c.mode seen.isolated }
  where
    go : (mode : Mode) → IsIsolatedAt g H mode k → IsIsolatedAt (in_form g form) H mode k
    go Serial is = is
    go Snapshot is = is

pub isolated_in : (g : Geometry) (form : ℕ) (H : History) → IsIsolated g H → IsIsolated (in_form g form) H
isolated_in g form H is = λ k from to. seen_in g form H k (slice_get H.commits (k - H.first)) (is k from to)

pub runs_in : (g : Geometry) (form : ℕ) (accesses : List Access) → runs (in_form g form) accesses ≡ runs g accesses
unfolding runs
runs_in g form accesses = refl

are_runs_in : (g : Geometry) (form : ℕ) (list : List Run) → AreRuns g list → AreRuns (in_form g form) list
are_runs_in g form [] is = tt
are_runs_in g form (x ∷ []) is = record { block = is.block; some = is.some; fits = is.fits }
are_runs_in g form (x ∷ y ∷ more) is = (record { block = is.0.block; some = is.0.some; fits = is.0.fits }, is.1, are_runs_in g form (y ∷ more) is.2)

record_in : (g : Geometry) (form : ℕ) (w : Written) → 1 ≤ g.form → g.form ≤ form → IsRecord g w → IsRecord (in_form g form) w
record_in g form w least rises is = grind (arith, are_runs_in)

pub records_in : (g : Geometry) (form : ℕ) (commits : List Commit) → 1 ≤ g.form → g.form ≤ form → AreRecords g commits → AreRecords (in_form g form) commits
records_in g form [] least rises all = tt
records_in g form (c ∷ commits) least rises all = (
  subst (λ (parts : List Run). IsRecord (in_form g form) (record { mode = c.mode; parts = parts })) (sym (runs_in g form c.accesses))
      (record_in g form (written g c) least rises all.0),
  records_in g form commits least rises all.1,
)

pub lengths_in : (g : Geometry) (form : ℕ) (commits : List Commit)
    → sum_by (λ c. record_length (runs (in_form g form) c.accesses)) commits ≡ sum_by (λ c. record_length (runs g c.accesses)) commits
unfolding runs
lengths_in g form commits = refl
