-- The next epoch is put after the closed gate of the slot that does not hold the one so far, and the gate is opened.
use Rattle.mirror_disk.proofs.{Words.{◌≡◌, ◌≤◌, ◌+◌, ◌-◌, ◌<◌, ◌^◌, ℕ, List, length, take, drop, Result, OnOk, OnErr, ap, subst, sym, ◌∙◌, arith, slice_range, at_end, weakened, DiskState, IsLawful, IsSettled, LeavesOnly, Splices, TellsTorn, TornFrom, IsClosed, IsOpen, Slot, last_epoch, slot_body, HasEpoch, HoldsEpoch, KeepsBody, Raising, Still, place, other}, Raises.{body_image, both_hold, by_result, holds_body, keeps_spliced, keeps_torn, open_image, raised_image}}

-- a write inside the header keeps what is told of the mirrored bytes
pub keeps_inside : {T E : Type 0} {old new : DiskState} (r : Result T E) (at : ℕ) (bytes : List ℕ) → IsLawful old → 64 ≤ old.size → at + length bytes ≤ 64 → OnOk r (Splices at bytes old new) → OnErr r (TellsTorn at (length bytes) old new) → KeepsBody old new
keeps_inside r at bytes law room within written failed = by_result r written failed (λ is. keeps_spliced at bytes law room within is) (λ is. keeps_torn at (length bytes) within is)

-- the number after a gate, by the bytes that were put there
pub holds_put : (gate next : ℕ) (bytes x : List ℕ) → next < 2 ^ 64 → bytes ≡ slot_body next → slice_range x (gate + 1) (gate + 1 + length bytes) ≡ bytes → HoldsEpoch gate next x
holds_put gate next bytes x fits is has =
    let count : gate + 1 + length bytes - (gate + 1) ≡ 15 = omega (arith, ap length is) in
    holds_body gate next x fits (ap (λ (n : ℕ). take n (drop (gate + 1) x)) (sym count) ∙ has ∙ is)

module _ {old new : DiskState} (slot : Slot) (gate : ℕ) (is : gate ≡ place (other slot)) where
  -- while it is put
  pub put_moments : (e : ℕ) (bytes : List ℕ) → length bytes ≡ 15 → ((x : List ℕ) → old.now x → HasEpoch slot e x) → LeavesOnly old new (TornFrom (gate + 1) (length bytes) old.now) → LeavesOnly old new (IsClosed gate) → LeavesOnly old new (Still slot e old)
  put_moments e bytes len each torn closed =
      weakened (both_hold torn closed) (λ x p. body_image {old = old} slot e each x (subst (λ (m : ℕ). IsClosed m x) is p.1)
      (subst (λ (n : ℕ). TornFrom (place (other slot) + 1) n old.now x) len (subst (λ (m : ℕ). TornFrom (m + 1) (length bytes) old.now x) is p.0)))

  module _ (e next : ℕ) (each : (x : List ℕ) → old.now x → HasEpoch slot e x) (le : e ≤ next) (last : next ≤ last_epoch) (holds : (x : List ℕ) → old.now x → HoldsEpoch gate next x) (run : LeavesOnly old new (TornFrom gate 1 old.now)) where
    held : (x : List ℕ) → old.now x → HoldsEpoch (place (other slot)) next x
    held x now = subst (λ (m : ℕ). HoldsEpoch m next x) is (holds x now)

    -- while the gate is opened
    pub open_moments : IsSettled old → LeavesOnly old new (Raising e next old)
    open_moments settled = weakened run (λ x t. open_image old slot e next settled each le last held x (subst (λ (m : ℕ). TornFrom m 1 old.now x) is t))

    -- and once it is open
    pub open_raised : IsLawful new → ((x : List ℕ) → new.now x → IsOpen gate x) → (x : List ℕ) → new.now x → HasEpoch (other slot) next x
    open_raised law is_open x now = raised_image old slot e next each le last held x (subst (λ (m : ℕ). TornFrom m 1 old.now x) is (at_end law run x now)) (subst (λ (m : ℕ). IsOpen m x) is (is_open x now))
