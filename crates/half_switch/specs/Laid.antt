-- Runs laid over the bytes of blocks.
use Rattle.std.specs.{Prelude.{◌≡◌, ℕ, ◌+◌, ◌*◌, ◌≤◌, cond, nat_le, List, [], ◌∷◌, ◌++◌, length, take}, List.AllByRecursion}
use Rattle.iso_model.specs.{declared.access.Geometry.Geometry, declared.access.Run.Run, declared.limits.TheConstants.LAST, Image.{IsRecord, Written, records}}
use Rattle.iso_disk.specs.Disk.{spliced}

-- where a run is among the bytes of blocks of this size
abbrev pub run_place : (size : ℕ) → Run → ℕ
run_place size run = run.block * size + run.off

-- one run, where it fits
abbrev pub one_laid : (size : ℕ) → Run → List ℕ → List ℕ
one_laid size run bytes = cond (nat_le (run_place size run + length run.bytes) (length bytes)) (spliced bytes (run_place size run) run.bytes) bytes

-- the runs, in order
abbrev pub laid : (size : ℕ) → List Run → List ℕ → List ℕ
laid size [] bytes = bytes
laid size (run ∷ runs) bytes = laid size runs (one_laid size run bytes)

-- the runs of records, in order
abbrev pub all_laid : (size : ℕ) → List Written → List ℕ → List ℕ
all_laid size [] bytes = bytes
all_laid size (w ∷ told) bytes = all_laid size told (laid size w.parts bytes)

-- the bytes are these records, the first of them with the number n, and then one gate at least
abbrev pub AreBytesOf : Geometry → (n : ℕ) → List Written → List ℕ → Type 0
AreBytesOf g n told bytes = (gate : ℕ) × (rest : List ℕ) × (bytes ≡ records g n told ++ gate ∷ rest)

-- So many records of this log, the first of them with the number after this one, are laid over the bytes of a base, and have `at`
-- bytes; where the log does not begin with them, fewer may be.
pub record LaysRecords (g : Geometry) (number count : ℕ) (log old new : List ℕ) (at : ℕ) : Type 0 where
  pub within : at ≤ length log
  pub long : length new ≡ length old
  pub shows : (told : List Written) → AllByRecursion (IsRecord g) told → count ≤ length told → number + count ≤ LAST → AreBytesOf g (number + 1) told log
      → (new ≡ all_laid g.block (take count told) old) × (at ≡ length (records g (number + 1) (take count told)))
