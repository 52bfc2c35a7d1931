-- The numbers that a core shows are those of its world.
use Rattle.iso_core.proofs.{Words.{◌≡◌, ◌+◌, length, refl, log_place, is_written, kept_from, versions, World, logged_commits, count_of, count_is, Kept, IsOf}, Transactions.kept_count}

module _ (kept : Kept) (W : World) (of : IsOf kept W) where
  pub live_is : length kept.live ≡ length W.live
  live_is = kept_count kept.live W.live of.keeps.live

  pub versions_are : count_of kept.index ≡ versions W
  unfolding versions
  versions_are = count_is W.geometry W.trim (is_written W.trim) (kept_from W.geometry W.trim) (λ k b p. refl) (λ k c later b p. refl) (λ n. refl) (λ n c later. refl) (W.base + 1) (log_place W.geometry kept.half) (logged_commits W) kept.index of.keeps.index
