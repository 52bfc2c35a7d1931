-- A commit before the first call of the disk.
use Rattle.iso_core.proofs.{Words.{◌≡◌, sym, ℕ, ◌+◌, ◌^◌, ◌<◌, ◌≤◌, List, [], ◌∷◌, length, map, arith, subst, AllByRecursion, Held, MayFollow, half_of_world, runs, World, Live, are_runs, BlockVersions, versions_in, Doing, PartSpan, BlocksRise, part_of, parts_below, parts_few, parts_rise, Kept, IsSpelled, MayCommit, written_of, IsOf}, Nexts.may_follow, Numbers.{log_used, log_room}, Standings.kept_with}

-- what is kept besides the index and the notes, which show the same
pub keeps_on : (kept : Kept) (W : World) (index : List BlockVersions) (notes : Held) → IsOf kept W → length index ≡ length kept.index
    → ((b : ℕ) → versions_in index b ≡ versions_in kept.index b) → notes.notes ≡ kept.notes.notes → IsOf (record kept { index = index; notes = notes }) W
keeps_on kept W index notes of blocks same noted = grind (arith, kept_with)

module _ (kept : Kept) (W : World) (tx : ℕ) (t : Live) (work : Doing) (of : IsOf kept W) (may : MayCommit W tx t work) where
  -- its parts may be taken in
  pub follows : IsSpelled W t kept → kept.log.used + length kept.buffer.records + 1 ≤ kept.log.room → MayFollow W.geometry (half_of_world W kept.half) (written_of W t ∷ [])
  follows spelled fits =
      let taken = log_used kept W of.world of.keeps in
      may_follow W kept.half (written_of W t ∷ []) kept.buffer.records of.world spelled.next (omega (arith, fits, taken, log_room kept W of.world of.keeps))

  pub parts_lie : (parts : List PartSpan) → parts ≡ map part_of (written_of W t).parts → AllByRecursion (λ part. part.block < length kept.index) parts
  parts_lie parts is =
      subst (λ (l : List PartSpan). AllByRecursion (λ part. part.block < length kept.index) l) (sym is)
      (subst (λ (n : ℕ). AllByRecursion (λ part. part.block < n) (map part_of (written_of W t).parts)) (sym of.keeps.index.blocks)
      (parts_below W.geometry (runs W.geometry t.accesses) (are_runs W.geometry t.accesses)))

  pub parts_order : (parts : List PartSpan) → parts ≡ map part_of (written_of W t).parts → BlocksRise parts
  parts_order parts is = subst BlocksRise (sym is) (parts_rise W.geometry (runs W.geometry t.accesses) (are_runs W.geometry t.accesses))

  pub parts_count : (parts : List PartSpan) → parts ≡ map part_of (written_of W t).parts → MayFollow W.geometry (half_of_world W kept.half) (written_of W t ∷ []) → length parts < 2 ^ 32
  parts_count parts is may_next = subst (λ (l : List PartSpan). length l < 2 ^ 32) (sym is) (parts_few W.geometry (half_of_world W kept.half) (written_of W t) of.world.valid may_next)
