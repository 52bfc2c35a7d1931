-- The steps of a commit: what is kept, and the disk, between two of them.
use Rattle.iso_core.proofs.{Words.{◌≡◌, ◌≢◌, ◌∙◌, inr, sym, ap, ℕ, ◌+◌, ◌-◌, ◌<◌, ◌≤◌, Ok, Err, IsErrOf, Disk, CoreError, CoreReply, EndReply, EndsAs, Refuses, reply_of, Becomes, Stays, SpellsOnly, ReservesOnly, IsNextCommit, Bool, true, List, [], ◌∷◌, ◌++◌, length, arith, subst, length_push, Extent, DiskState, IsLawful, IsSettled, LeavesOnly, at_end, Half, IsHeld, MayFollow, half_of_world, next_gate, with_records, extent_of, LAST, image_size, last, after_commit, after_leaving, need, commit_from, World, Live, unattached, used, IsWorld, commits, Doing, Kept, AreOf, IsGrownBy, IsPrepared, IsSpelled, MayCommit, written_of, IsOf, up, down, ShowsEither}, Commits.next_half, Leaves.has_begun, Moments.{record_needs, stays_shown}, Numbers.{log_last, log_room, log_used}, Standings.{kept_with, stands_as}}

-- other things that are kept change, and the core is as before
pub keeps_stand : (d : DiskState) (kept new : Kept) (W : World) → AreOf d kept W up → Becomes kept new W → AreOf d new W up
keeps_stand d kept new W of is = stands_as d kept new W up W.live W.next W.trim of (record { of = is.of; half = is.half; down = is.down })

pub buffer_on : (kept : Kept) (W : World) (new : Kept) → IsOf kept W → SpellsOnly kept new → IsOf new W
buffer_on kept W new of is = grind (arith, kept_with)

pub spells_so : (kept new : Kept) (W : World) → IsOf kept W → SpellsOnly kept new → Becomes kept new W
spells_so kept new W of is = record { of = buffer_on kept W new of is; half = ap (λ (k : Kept). k.half) is; down = ap (λ (k : Kept). k.down) is }

pub reserves_so : (kept new : Kept) (W : World) → IsOf kept W → Stays kept new → ReservesOnly kept new → Becomes kept new W
reserves_so kept new W of same is = record { of = same W of; half = ap (λ (k : Kept). k.half) is; down = ap (λ (k : Kept). k.down) is }

pub down_on : (kept : Kept) (W : World) (b : Bool) → IsOf kept W → IsOf (record kept { down = b }) W
down_on kept W b of = kept_with kept (record kept { down = b }) W of of.keeps.index of.keeps.notes

pub spelled_stage : (d : DiskState) (kept new : Kept) (W : World) → AreOf d kept W up → SpellsOnly kept new → AreOf d new W up
spelled_stage d kept new W of is = keeps_stand d kept new W of (spells_so kept new W of.kept_of is)

pub prepared_stage : (d : DiskState) (kept new : Kept) (W : World) → AreOf d kept W up → Stays kept new → ReservesOnly kept new → AreOf d new W up
prepared_stage d kept new W of same is = keeps_stand d kept new W of (reserves_so kept new W of.kept_of same is)

-- the transaction is the next commit
pub next_commit : (d : DiskState) (kept : Kept) (W : World) (tx : ℕ) (t : Live) (work : Doing) (number : ℕ) → AreOf d kept W up → MayCommit W tx t work → number ≡ kept.log.last → number < LAST
    → IsNextCommit W tx t kept.geometry work (number + 1)
next_commit d kept W tx t work number of may is fresh =
    let last_is : number ≡ last W.history = is ∙ log_last kept W of.kept_of.world of.kept_of.keeps in
    record {
      geometry = of.kept_of.keeps.geometry;
      world = of.kept_of.world;
      may = may;
      number_is = ap (λ (n : ℕ). n + 1) last_is;
      fresh = omega (arith, last_is, fresh);
    }

-- an end that is refused before the first call of the disk
pub refused_so : (d : DiskState) (laws : IsLawful d) (kept new : Kept) (W : World) (t : Live) (step : CoreReply × World) (e : CoreError) → AreOf d kept W up → Refuses step.0 e
    → (IsErrOf {T = EndReply} (Err e) Disk → ⊥) → EndsAs W t step d d new (Err e)
refused_so d laws kept new W t step e of is other = record { ended = tt; refused = inr is; lost = λ failed. absurd (other failed); moments = stays_shown d laws kept W step.1 of }

-- and one that is none
pub passes_so : (old new : DiskState) (kept : Kept) (W : World) (t : Live) (step : CoreReply × World) (r : EndReply) → (step.0 ≡ reply_of r) × AreOf new kept step.1 up → LeavesOnly old new (ShowsEither W step.1)
    → EndsAs W t step old new kept (Ok r)
passes_so old new kept W t step r is moments = record { ended = is; refused = tt; lost = λ failed. absurd cc; moments = moments }

-- the free bytes hold the record and the gate after it
pub fits_log : (kept : Kept) (bytes : List ℕ) (free : ℕ) → bytes ≡ kept.buffer.records ++ 0 ∷ [] → free ≡ kept.log.room - kept.log.used → length bytes ≤ free
    → kept.log.used + length kept.buffer.records + 1 ≤ kept.log.room
fits_log kept bytes free is free_is le = omega (arith, ap (λ (l : List ℕ). length l) is ∙ length_push kept.buffer.records 0, free_is, le)

pub full_log : (kept : Kept) (W : World) (t : Live) (bytes : List ℕ) (free : ℕ) → IsOf kept W → IsSpelled W t kept → bytes ≡ kept.buffer.records ++ 0 ∷ [] → free ≡ kept.log.room - kept.log.used
    → (length bytes ≡ need W t) × (free ≡ W.geometry.log - used W)
full_log kept W t bytes free of spelled is free_is =
    let same : length bytes ≡ length kept.buffer.records + 1 = ap (λ (l : List ℕ). length l) is ∙ length_push kept.buffer.records 0 in
    let room = log_room kept W of.world of.keeps in
    let taken = log_used kept W of.world of.keeps in
    (same ∙ record_needs W t kept.buffer.records spelled.next, free_is ∙ (λ i. room i - taken i))

-- the world with the commit is a sound one
pub next_world : (W : World) (tx : ℕ) (t : Live) (work : Doing) → IsWorld W → MayCommit W tx t work → last W.history ≢ LAST → need W t ≤ W.geometry.log - used W → IsWorld (after_commit W t)
next_world W tx t work is may fresh fits =
    let begun = has_begun W tx t is may.here in
    (commits W (record t { place = unattached }) is (record {
      accesses = may.settled.accesses;
      count = may.settled.count;
      since = begun.since;
      begin = begun.begin;
      mode = begun.mode;
      number = begun.number;
      place = tt;
    }) may.write may.none fresh fits).world

-- the record was appended
pub grown_by : (W : World) (tx : ℕ) (t : Live) (kept new : Kept) (gate : ℕ) (writes : List (ℕ × List Extent)) → IsOf kept W
    → new ≡ record kept { log = extent_of W.geometry (with_records (written_of W t ∷ []) (half_of_world W kept.half)) }
    → (work : Doing) → MayCommit W tx t work → IsWorld (after_commit W t) → IsPrepared W t kept writes → MayFollow W.geometry (half_of_world W kept.half) (written_of W t ∷ [])
    → gate ≡ next_gate W.geometry (half_of_world W kept.half) → IsGrownBy W tx t new gate writes
grown_by W tx t kept new gate writes of is work may next prepared may_follow gate_is = grind arith

-- a core that committed
pub committed_core : (old new : DiskState) (kept fin : Kept) (W : World) (t : Live) → AreOf old kept W up → Becomes kept fin (after_commit W t) → new.size ≡ old.size → IsSettled new
    → ((c : List ℕ) → new.now c → IsHeld W.geometry (with_records (written_of W t ∷ []) (half_of_world W kept.half)) c) → AreOf new fin (after_commit W t) up
committed_core old new kept fin W t of is same settled held = record {
  kept_of = is.of;
  is_down = is.down ∙ of.is_down;
  size = same ∙ of.size;
  images = record {
    settled = settled;
    each = λ c image. subst (λ (n : ℕ). IsHeld W.geometry (half_of_world (after_commit W t) n) c) (sym is.half)
        (subst (λ (h : Half). IsHeld W.geometry h c) (sym (next_half W t kept.half of.kept_of.world)) (held c image));
  };
}

-- a core that a fault set down in a commit
pub lost_core : (new : DiskState) (old : DiskState) (fin : Kept) (W : World) (t : Live) → IsLawful new → old.size ≡ new.size → IsOf fin (after_leaving W t) → fin.down ≡ true
    → old.size ≡ image_size W.geometry → LeavesOnly old new (ShowsEither W (after_commit W t)) → AreOf new fin (after_leaving W t) (down (commit_from t ∷ []))
lost_core new old fin W t laws same is fin_down size run = record {
  kept_of = is;
  is_down = fin_down;
  size = sym same ∙ size;
  images = at_end laws run;
}
