-- What becomes of the bytes that are told.
use Rattle.std.specs.Prelude.{◌≡◌, List, Option, Some, None, ℕ}
use Rattle.mirror_disk.specs.Header.{body}

-- what two disks tell, before and after: bytes so related after the header, and nothing where nothing was told
pub record Becomes (R : List ℕ → List ℕ → Type 0) (old new : Option (List ℕ)) : Type 0 where
  pub told : (x : List ℕ) → old ≡ Some x → (y : List ℕ) × (new ≡ Some y) × R (body x) (body y)
  pub untold : old ≡ None → new ≡ None

-- what a mirror tells, before and after: bytes so related, and nothing where nothing was told
pub record MirrorBecomes (R : List ℕ → List ℕ → Type 0) (old new : Option (List ℕ)) : Type 0 where
  pub told : (c : List ℕ) → old ≡ Some c → (d : List ℕ) × (new ≡ Some d) × R c d
  pub untold : old ≡ None → new ≡ None
