-- What the images of a core show before a commit, in the middle of it and after it.
use Rattle.iso_core.proofs.{Words.{◌≡◌, ◌≢◌, ◌⊎◌, inl, inr, sym, refl, ap, ℕ, ◌+◌, ◌-◌, ◌<◌, ◌≤◌, List, [], ◌∷◌, length, arith, subst, None, eq-eqb, ne_eqb, le-ltb, lt-ltb, DiskState, IsLawful, LeavesOnly, started, Half, IsHeld, half_of_world, with_records, half_shows, LAST, last, after_commit, commit_step, need, World, Live, used, IsWorld, length-records, Kept, AreOf, AreNextRecords, written_of, up, ShowsEither, ShowsLast}, Commits.next_half}
use Rattle.iso_model.specs.declared.core_reply.CoreReply.TheVariants as reply

-- an image that holds the half of a world shows its history
pub shows_world : (W : World) (at : ℕ) → IsWorld W → (c : List ℕ) → IsHeld W.geometry (half_of_world W at) c → ShowsLast W c
shows_world W at is c held = half_shows W.geometry W.geometry.form at W.generation W.base W.history c is.history is.since (omega (arith, is.base)) held

module _ (d : DiskState) (laws : IsLawful d) (kept : Kept) (W V : World) (of : AreOf d kept W up) where
  -- where nothing is written
  pub stays_shown : LeavesOnly d d (ShowsEither W V)
  stays_shown = started laws (λ c image. inl (shows_world W kept.half of.kept_of.world c (of.images.each c image)))

module _ (W : World) (t : Live) (at : ℕ) (is : IsWorld W) (next : IsWorld (after_commit W t)) where
  -- an image that holds the half without the commit or with it
  pub shows_either : (c : List ℕ) → IsHeld W.geometry (half_of_world W at) c ⊎ IsHeld W.geometry (with_records (written_of W t ∷ []) (half_of_world W at)) c → ShowsEither W (after_commit W t) c
  shows_either c (inl before) = inl (shows_world W at is c before)
  shows_either c (inr after) = inr (shows_world (after_commit W t) at next c (subst (λ (h : Half). IsHeld W.geometry h c) (sym (next_half W t at is)) after))

-- the bytes of the next record are what the commit needs, but for the gate after it
pub record_needs : (W : World) (t : Live) (bytes : List ℕ) → AreNextRecords W (written_of W t ∷ []) bytes → length bytes + 1 ≡ need W t
record_needs W t bytes next = omega (arith, length-records W.geometry (last W.history + 1) (written_of W t ∷ []), ap (λ (l : List ℕ). length l) next.bytes_are)

-- how a commit ends
module _ (W : World) (t : Live) where
  pub is_worn : last W.history ≡ LAST → (commit_step W t None).0 ≡ reply.Worn
  unfolding commit_step
  is_worn is = rw (eq-eqb (last W.history) LAST is) refl

  pub is_full : last W.history ≢ LAST → W.geometry.log - used W < need W t → (commit_step W t None).0 ≡ reply.LogFull (need W t) (W.geometry.log - used W)
  unfolding commit_step
  is_full fresh full = rw (ne_eqb (last W.history) LAST fresh, lt-ltb (W.geometry.log - used W) (need W t) full) refl

  pub is_committed : last W.history ≢ LAST → need W t ≤ W.geometry.log - used W → commit_step W t None ≡ (reply.Committed (last W.history + 1), after_commit W t)
  unfolding commit_step
  is_committed fresh fits = rw (ne_eqb (last W.history) LAST fresh, le-ltb (W.geometry.log - used W) (need W t) fits) refl
