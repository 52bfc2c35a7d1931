-- Workers at their desks, where one more comes, or the last one goes.
use Rattle.std.specs.Prelude.{◌≡◌, ℕ, zero, suc, ◌<◌, List, [], ◌∷◌, ◌++◌, length, slice_get, slice_index_or}
use Rattle.std.proofs.Common.{arith}
use Rattle.iso_shared.specs.declared.shared.Shared.{Shared}
use Rattle.commit_load.specs.Seats.{DeskOf, IsSeated, IsWorker}
use Rattle.commit_load.specs.declared.seats.Worker.{Worker}

module _ {D O P : Type 0} (s : Shared D O) where
  pub seated_more : (ds : List (DeskOf D O P)) (ws : List (Worker D O P)) (d : DeskOf D O P) (x : Worker D O P) → length ws ≡ length ds
      → ((i : ℕ) (w : Worker D O P) → i < length ws → IsSeated s (slice_get ds i) (slice_index_or ws i w)) → IsWorker s d x
      → (i : ℕ) (w : Worker D O P) → i < length (ws ++ x ∷ []) → IsSeated s (slice_get (ds ++ d ∷ []) i) (slice_index_or (ws ++ x ∷ []) i w)
  seated_more [] [] d x same each new zero w lt = new
  seated_more [] [] d x same each new (suc i) w lt = absurd (omega (arith, lt))
  seated_more [] (y ∷ ws) d x same each new i w lt = absurd (omega (arith, same))
  seated_more (e ∷ ds) [] d x same each new i w lt = absurd (omega (arith, same))
  seated_more (e ∷ ds) (y ∷ ws) d x same each new zero w lt = each zero w (omega arith)
  seated_more (e ∷ ds) (y ∷ ws) d x same each new (suc i) w lt =
      seated_more ds ws d x (omega (arith, same)) (λ k v within. each (suc k) v (omega (arith, within))) new i w (omega (arith, lt))

  pub seated_front : (ds : List (DeskOf D O P)) (ws : List (Worker D O P)) (d : DeskOf D O P) (x : Worker D O P) → length ws ≡ length ds
      → ((i : ℕ) (w : Worker D O P) → i < length (ws ++ x ∷ []) → IsSeated s (slice_get (ds ++ d ∷ []) i) (slice_index_or (ws ++ x ∷ []) i w))
      → (i : ℕ) (w : Worker D O P) → i < length ws → IsSeated s (slice_get ds i) (slice_index_or ws i w)
  seated_front [] ws d x same each i w lt = absurd (omega (arith, same, lt))
  seated_front (e ∷ ds) [] d x same each i w lt = absurd (omega (arith, lt))
  seated_front (e ∷ ds) (y ∷ ws) d x same each zero w lt = each zero w (omega arith)
  seated_front (e ∷ ds) (y ∷ ws) d x same each (suc i) w lt =
      seated_front ds ws d x (omega (arith, same)) (λ k v within. each (suc k) v (omega (arith, within))) i w (omega (arith, lt))
