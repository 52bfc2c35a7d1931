-- Whether a core is up, and what its images show.
use Rattle.std.specs.Prelude.{◌⊎◌, ℕ, Bool, true, false, List}
use Rattle.iso_model.specs.{declared.access.Commit.Commit, Between.ShowsLast, History.with_commits, World.World}

-- a core is up, or a fault of the disk set it down; then these commits may stand after its history
pub data Standing : Type 0 where
  up : Standing
  down : List Commit → Standing

abbrev pub is_down : Standing → Bool
is_down up = false
is_down (down lost) = true

-- or that history with the lost commits
abbrev pub ShowsWith : World → (lost : List Commit) → List ℕ → Type 0
ShowsWith W lost bytes = ShowsLast W bytes ⊎ ShowsLast (record W { history = with_commits lost W.history }) bytes
