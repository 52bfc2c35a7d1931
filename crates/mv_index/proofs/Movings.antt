-- A list whose versions after a place are gathered at its front.
use Rattle.mv_index.proofs.Words.{◌≡◌, ℕ, ◌≤◌, List, length, take, get_or, Version, moved_to, no_version}

-- The versions before `at` were looked at, and those of them that stand behind the place are at the front, moved.
pub record AreMoved (from to : ℕ) (whole versions : List Version) (at kept : ℕ) : Type 0 where
  pub order : kept ≤ at
  pub size : length versions ≡ length whole
  pub same : (k : ℕ) → at ≤ k → get_or versions k no_version ≡ get_or whole k no_version
  pub front : take kept versions ≡ moved_to from to (take at whole)
