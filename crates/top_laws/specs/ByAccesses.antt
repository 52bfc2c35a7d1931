-- What the store calls of a history are, by the accesses of its commits alone, whatever lines and replies told of them.
use Rattle.std.specs.Prelude.{ℕ, ◌-◌, ◌<◌, ◌≤◌, IfSome, slice_get}
use Rattle.iso_model.specs.{History.{History, array_at, last}, World.World}
use Rattle.store_laws.specs.{Both.{AreOfBoth, BothInOrder, BothWellFormed, IsOfBoth}, Region.MapStore}
use Rattle.store_scripts.specs.{Kept.BeginsWell, Stores.{SecondStore, image_hash, second_store}}

-- The calls of each commit after n answer as one thread's calls on the maps directly before it, and end in those directly after it. Both
-- stores are well formed at each commit from n on.
pub record AnswerByAccesses (s t : MapStore) (H : History) (n : ℕ) : Type 0 where
  pub commits : (k : ℕ) → n < k → k ≤ last H → IfSome (slice_get H.commits (k - H.first)) (λ c. (of : IsOfBoth s t H c) → BothInOrder s t of.parts (array_at H (k - 1)) (array_at H k))
  pub well : (m : ℕ) → n ≤ m → m ≤ last H → BothWellFormed s t (array_at H m)

-- It is so of the world V that was reached from W, where the stores begin well formed, and each commit since writes their regions by calls
-- of them alone.
abbrev pub AnswersByAccesses : SecondStore → (W V : World) → Type 0
AnswersByAccesses S W V =
    let s = image_hash V.geometry in
    let t = second_store S V.geometry in
    BeginsWell S W → AreOfBoth s t V.history (last W.history) → AnswerByAccesses s t V.history (last W.history)
