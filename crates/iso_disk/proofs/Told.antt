-- When a disk goes on telling its bytes.
use Rattle.std.{proofs.Common.{◌≡◌, ℕ, List, Option, Some, None, IsSome, sym, subst}, specs.Option.option_map}
use Rattle.iso_disk.specs.Disk.{DiskState, Splices, StaysTold, spliced}

-- after a call that leaves the contents
pub told_same : (old new : DiskState) → new.contents ≡ old.contents → StaysTold old new
told_same old new same told = subst (λ (c : Option (List ℕ)). IsSome c) (sym same) told

-- after a write that is done
pub told_written : (old new : DiskState) (at : ℕ) (bytes : List ℕ) → Splices at bytes old new → StaysTold old new
told_written old new at bytes written told = subst (λ (c : Option (List ℕ)). IsSome c) (sym written) (still old.contents told)
  where
    still : (c : Option (List ℕ)) → IsSome c → IsSome (option_map (λ (l : List ℕ). spliced l at bytes) c)
    still (Some c) is = is
    still None is = is
