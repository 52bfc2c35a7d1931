-- How the loops over the calls go on.
use Rattle.iso_memdisk.proofs.{Words.{◌≡◌, ◌⊎◌, ⊎_elim, ◌<◌, ◌≤◌, ◌+◌, ℕ, zero, suc, List, [], ◌∷◌, ◌++◌, length, take, drop, get_or, Some, slice_get, refl, sym, ◌∙◌, ap, subst, arith, drop_more, take_more, same_Some, slice_get-get_or, slice_get_within, Global, spliced, Torn, Call, Write, Sync, written, synced, AllFit, NoSync, TornBy}, Calls.written-append}
use Rattle.std.specs.Prelude.{Vec}

-- of the first i calls, none after the first `stable` is a sync, and these come to what was synced
pub record IsStable (calls : List Call) (i stable : ℕ) : Type 0 where
  pub within : stable ≤ i
  pub synced : (bytes : List ℕ) → synced calls bytes bytes ≡ synced (drop i calls) (written (take i calls) bytes) (written (take stable calls) bytes)
  pub pending : (k : ℕ) → stable ≤ k → k < i → slice_get calls k ≡ Some Sync → ⊥

-- of the first i writes each may have left any bytes in its range; for 0 they left the old bytes, for 1 the new ones
pub record IsTornSoFar (calls : List Call) (first : List ℕ) (pick i : ℕ) (image : List ℕ) : Type 0 where
  pub torn : (new : List ℕ) → TornBy (drop i calls) image new → TornBy calls first new
  pub synced : pick ≡ 0 → image ≡ first
  pub written : pick ≡ 1 → written (drop i calls) image ≡ written calls first
  pub size : length image ≡ length first

module _ (calls : List Call) (i : ℕ) (call : Call) (within : i < length calls) (is : call ≡ get_or calls i call) where
  here : drop i calls ≡ call ∷ drop (i + 1) calls
  here = drop_more calls i call within ∙ ap (λ (c : Call). c ∷ drop (i + 1) calls) (sym is)

  front : take (i + 1) calls ≡ take i calls ++ call ∷ []
  front = take_more calls i call within ∙ ap (λ (c : Call). take i calls ++ c ∷ []) (sym is)

  got : slice_get calls i ≡ Some call
  got = slice_get-get_or calls i call within ∙ ap Some (sym is)

  pub stable_sync : (stable : ℕ) → call ≡ Sync → IsStable calls i stable → IsStable calls (i + 1) (i + 1)
  stable_sync stable sync so_far =
      let now = λ (bytes : List ℕ). ap (λ (l : List Call). written l bytes) (front ∙ ap (λ (c : Call). take i calls ++ c ∷ []) sync) ∙ written-append (take i calls) (Sync ∷ []) bytes in
      record {
        within = omega arith;
        synced = λ bytes.
            so_far.synced bytes
            ∙ ap (λ (l : List Call). synced l (written (take i calls) bytes) (written (take stable calls) bytes)) (here ∙ ap (λ (c : Call). c ∷ drop (i + 1) calls) sync)
            ∙ (λ j. synced (drop (i + 1) calls) (sym (now bytes) j) (sym (now bytes) j));
        pending = λ k from to is_sync. absurd (omega arith);
      }

  pub stable_write : (stable at : ℕ) (new : Vec ℕ Global) → call ≡ Write at new → IsStable calls i stable → IsStable calls (i + 1) stable
  stable_write stable at new write so_far =
      let now = λ (bytes : List ℕ). ap (λ (l : List Call). written l bytes) (front ∙ ap (λ (c : Call). take i calls ++ c ∷ []) write) ∙ written-append (take i calls) (Write at new ∷ []) bytes in
      record {
        within = omega (arith, so_far.within);
        synced = λ bytes.
            so_far.synced bytes
            ∙ ap (λ (l : List Call). synced l (written (take i calls) bytes) (written (take stable calls) bytes)) (here ∙ ap (λ (c : Call). c ∷ drop (i + 1) calls) write)
            ∙ (λ j. synced (drop (i + 1) calls) (sym (now bytes) j) (written (take stable calls) bytes));
        pending = λ k from to is_sync. ⊎_elim (λ (below : k < i). so_far.pending k from below is_sync) (λ (same : k ≡ i). let clash : Write at new ≡ Sync = sym write ∙ same_Some call Sync (sym got ∙ ap (slice_get calls) (sym same) ∙ is_sync) in absurd (cc clash)) (let cases : (k < i) ⊎ (k ≡ i) = grind arith in cases);
      }

  pub torn_write : (first image next : List ℕ) (pick at : ℕ) (new : Vec ℕ Global) → call ≡ Write at new → Torn at (length new.items) image next → (pick ≡ 0 → next ≡ image) → (pick ≡ 1 → next ≡ spliced image at new.items) → IsTornSoFar calls first pick i image → IsTornSoFar calls first pick (i + 1) next
  torn_write first image next pick at new write torn old_bytes new_bytes so_far =
      let there : drop i calls ≡ Write at new ∷ drop (i + 1) calls = here ∙ ap (λ (c : Call). c ∷ drop (i + 1) calls) write in
      record {
        torn = λ last rest. so_far.torn last (subst (λ (l : List Call). TornBy l image last) (sym there) (next, torn, rest));
        synced = λ none. old_bytes none ∙ so_far.synced none;
        written = λ all. ap (written (drop (i + 1) calls)) (new_bytes all) ∙ sym (ap (λ (l : List Call). written l image) there) ∙ so_far.written all;
        size = torn.size ∙ so_far.size;
      }

-- the call at a place, by what it is
module _ (calls : List Call) (i : ℕ) (call : Call) (within : i < length calls) (is : call ≡ get_or calls i call) where
  pub fits_at : (n at : ℕ) (new : Vec ℕ Global) → call ≡ Write at new → AllFit n calls → at + length new.items ≤ n
  fits_at n at new write fit = fit i at new (got calls i call within is ∙ ap Some write)

  pub no_sync_at : call ≡ Sync → NoSync calls → ⊥
  no_sync_at sync none = none i (got calls i call within is ∙ ap Some sync)

-- a call further on
slice_get-drop : (n k m : ℕ) (calls : List Call) → m ≡ n + k → slice_get (drop n calls) k ≡ slice_get calls m
slice_get-drop zero k m calls is = ap (slice_get calls) (let same : k ≡ m = omega arith in same)
slice_get-drop (suc n) k m [] is = refl
slice_get-drop (suc n) k zero (call ∷ calls) is = absurd (omega arith)
slice_get-drop (suc n) k (suc m) (call ∷ calls) is = slice_get-drop n k m calls (omega arith)

-- once all calls are seen, those after the stable ones have no sync
pub no_sync_left : (calls : List Call) (i stable : ℕ) → IsStable calls i stable → length calls ≤ i → NoSync (drop stable calls)
no_sync_left calls i stable so_far all k is_sync =
    let there : slice_get calls (stable + k) ≡ Some Sync = sym (slice_get-drop stable k (stable + k) calls refl) ∙ is_sync in
    let inside = slice_get_within calls (stable + k) Sync there in
    so_far.pending (stable + k) (omega arith) (omega (arith, inside)) there
