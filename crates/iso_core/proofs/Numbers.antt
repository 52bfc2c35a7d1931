-- The numbers of a core's log are those of its world.
use Rattle.iso_core.proofs.Words.{◌≡◌, ◌∙◌, ap, ℕ, ◌+◌, ◌-◌, ◌<◌, ◌≤◌, drop, arith, length-drop, length-map, half_of_world, last_told, world_bytes, last, written, World, used, IsWorld, Kept, Keeps}
use Rattle.iso_log.specs.Extent.{Extent}

pub last_is : (W : World) (at : ℕ) → IsWorld W → last_told (half_of_world W at) ≡ last W.history
last_is W at is =
    let first : 0 < W.history.first = is.history.first in
    let base : W.base ≤ W.trim = is.base in
    omega (arith, length-map (drop (W.base + 1 - W.history.first) W.history.commits) (written W.geometry), length-drop (W.base + 1 - W.history.first) W.history.commits)

module _ (kept : Kept) (W : World) (is : IsWorld W) (keeps : Keeps kept W) where
  pub log_last : kept.log.last ≡ last W.history
  log_last = ap (λ (e : Extent). e.last) keeps.log ∙ last_is W kept.half is

  pub log_used : kept.log.used ≡ used W
  log_used = ap (λ (e : Extent). e.used) keeps.log ∙ world_bytes W kept.half

  pub log_room : kept.log.room ≡ W.geometry.log
  log_room = ap (λ (e : Extent). e.room) keeps.log
