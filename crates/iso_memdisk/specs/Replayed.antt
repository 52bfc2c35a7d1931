-- A disk whose first bytes were stable, and whose calls since are these, as the trait sees it: the calls are replayed for
-- every question.
use Rattle.std.specs.Prelude.{◌≡◌, ◌≤◌, ℕ, List, length, take, Option, Some}
use Rattle.iso_memdisk.specs.{declared.record.Call.Call, Record.{written, images_after}}
use Rattle.iso_disk.specs.Disk.{DiskState}

-- the images that a crash now may leave
abbrev pub images : List ℕ → List Call → List ℕ → Type 0
images first calls = images_after calls first (λ c. c ≡ first)

-- the images of each moment since t; a moment is a number of calls
abbrev pub images_since : List ℕ → List Call → ℕ → List ℕ → Type 0
images_since first calls t c = (k : ℕ) × (t ≤ k) × (k ≤ length calls) × images first (take k calls) c

abbrev pub replayed : (first : List ℕ) (calls : List Call) (faults binds : ℕ) → Option (ℕ × List ℕ) → (List ℕ → Option (List ℕ)) → DiskState
replayed first calls faults binds bound named = record {
  size = length first;
  contents = Some (written calls first);
  now = images first calls;
  clock = length calls;
  left = images_since first calls;
  faults = faults;
  bound = bound;
  binds = binds;
  named = named;
}
