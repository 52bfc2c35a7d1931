-- One image while a slot is written.
use Rattle.mirror_disk.proofs.{Words.{◌≡◌, ◌⊎◌, inl, inr, ⊎_elim, ◌≤◌, ◌<◌, ◌+◌, ℕ, List, take, drop, ◌∙◌, ap, arith, nat_lt, ◌==◌, cond, slice_index, w64, from_be_bytes, cases_eq, cases_Bool, cases_lt, cond-true, cond-false, lt-ltb, le-ltb, eqb-true, eq-eqb, Torn, slice-torn, get_or-torn, drop-torn, IsClosed, IsOpen, Slot, First, Second, IsHeader, last_epoch, number_at, slot_epoch, larger, epoch, body, chosen, place, other, HasEpoch, HoldsEpoch}, Headers.{header_slot, slot_closed, slot_held, slot_in, slot_shut}}

-- the larger of two numbers
pub larger_left : (m n : ℕ) → n ≤ m → larger m n ≡ m
larger_left m n le = cond-false (nat_lt m n) n m (le-ltb m n le)

pub larger_right : (m n : ℕ) → m ≤ n → larger m n ≡ n
larger_right m n le = elim (cases_lt m n) [
  | inl less ↦ cond-true (nat_lt m n) n m (lt-ltb m n less)
  | inr not ↦ cond-false (nat_lt m n) n m (le-ltb m n not) ∙ (let same : m ≡ n = omega (arith, le, not) in same)
]

pub larger_above : (m n : ℕ) → (m ≤ larger m n) × (n ≤ larger m n)
larger_above m n = elim (cases_lt m n) [
  | inl less ↦ let is = larger_right m n (omega (arith, less)) in (omega (arith, less, is), omega (arith, is))
  | inr not ↦ let is = larger_left m n not in (omega (arith, is), omega (arith, not, is))
]

-- a slot outside what is torn keeps its epoch
pub slot-torn : {k n : ℕ} {x y : List ℕ} → Torn k n x y → (at : ℕ) → (at + 16 ≤ k) ⊎ (k + n ≤ at) → slot_epoch at y ≡ slot_epoch at x
slot-torn {k = k} {n = n} {x = x} {y = y} torn at outside =
    let gate : slice_index y at ≡ slice_index x at = get_or-torn torn at 0 (⊎_elim (λ (before : at + 16 ≤ k). inl (omega (arith, before))) (λ (behind : k + n ≤ at). inr behind) outside) in
    let number : take 8 (drop (at + 8) y) ≡ take 8 (drop (at + 8) x) = slice-torn torn (at + 8) 8 (⊎_elim (λ (before : at + 16 ≤ k). inl (omega (arith, before))) (λ (behind : k + n ≤ at). inr (omega (arith, behind))) outside) in
    λ i. cond (gate i == 1) (from_be_bytes w64 (number i)) 0

-- the epoch of an image whose slots are outside of what is torn
pub epoch-torn : {k n : ℕ} {x y : List ℕ} → Torn k n x y → 64 ≤ k → epoch y ≡ epoch x
epoch-torn torn le =
    let first = slot-torn torn 16 (inl (omega (arith, le))) in
    let second = slot-torn torn 32 (inl (omega (arith, le))) in
    λ i. larger (first i) (second i)

-- what is torn within the header leaves the mirrored bytes
pub body-torn : {k n : ℕ} {x y : List ℕ} → Torn k n x y → k + n ≤ 64 → body y ≡ body x
body-torn torn le = drop-torn torn 64 le

-- a closed slot has no epoch
pub closed_slot : (at : ℕ) (x : List ℕ) → IsClosed at x → slot_epoch at x ≡ 0
closed_slot at x closed = elim (cases_Bool (slice_index x at == 1)) [
  | inl is ↦ absurd (closed (eqb-true _ _ is))
  | inr not ↦ cond-false _ _ _ not
]

-- an open one has that of its number
pub open_slot : (at : ℕ) (x : List ℕ) → IsOpen at x → slot_epoch at x ≡ number_at (at + 8) x
open_slot at x is = cond-true _ _ _ (eq-eqb _ _ is)

-- the epoch by that of a slot
pub by_slot : (slot : Slot) (e : ℕ) (x : List ℕ) → slot_epoch (place slot) x ≡ e → slot_epoch (place (other slot)) x ≤ e → 1 ≤ e → (1 ≤ epoch x → IsHeader x) → HasEpoch slot e x
by_slot First e x is le has header = let same : epoch x ≡ e = larger_left _ _ (omega (arith, is, le)) ∙ is in record { epoch_is = same; slot_is = is; header = header (omega (arith, has, same)) }
by_slot Second e x is le has header = let same : epoch x ≡ e = larger_right _ _ (omega (arith, is, le)) ∙ is in record { epoch_is = same; slot_is = is; header = header (omega (arith, has, same)) }

-- an epoch is 1 at least
pub least_epoch : {slot : Slot} {e : ℕ} {x : List ℕ} → HasEpoch slot e x → 1 ≤ e
least_epoch has = omega (arith, has.epoch_is, has.header.has_epoch)

-- the other slot has no larger one
pub other_below : (slot : Slot) (e : ℕ) (x : List ℕ) → HasEpoch slot e x → slot_epoch (place (other slot)) x ≤ e
other_below First e x has = omega (arith, has.epoch_is, (larger_above (slot_epoch 16 x) (slot_epoch 32 x)).1)
other_below Second e x has = omega (arith, has.epoch_is, (larger_above (slot_epoch 16 x) (slot_epoch 32 x)).0)

other_other : (slot : Slot) → other (other slot) ≡ slot
other_other slot = grind arith

-- the range of a slot is outside the other one
apart : (slot : Slot) (k n : ℕ) → place (other slot) ≤ k → k + n ≤ place (other slot) + 16 → (place slot + 16 ≤ k) ⊎ (k + n ≤ place slot)
apart First k n from to = inl from
apart Second k n from to = inr to

pub inside : (slot : Slot) → place (other slot) + 16 ≤ 64
inside First = arith_le
  where
    arith_le : 48 ≤ 64
    arith_le = omega arith
inside Second = omega arith

module _ (slot : Slot) (e : ℕ) {k n : ℕ} {x y : List ℕ} (torn : Torn k n x y) (from : place (other slot) ≤ k) (to : k + n ≤ place (other slot) + 16) where
  -- what is torn in a slot leaves the epoch of the other one, and the mirrored bytes
  pub slot_stays : slot_epoch (place slot) x ≡ e → slot_epoch (place slot) y ≡ e
  slot_stays is = slot-torn torn (place slot) (apart slot k n from to) ∙ is

  pub body_stays : body y ≡ body x
  body_stays = body-torn torn (omega (arith, to, inside slot))

-- the gate of a slot that was open is written: it stays open with its number, or it is closed
pub shut_stays : (slot : Slot) (e : ℕ) {x y : List ℕ} → HasEpoch slot e x → IsOpen (place (other slot)) x → Torn (place (other slot)) 1 x y → HasEpoch slot e y
shut_stays slot e {x = x} {y = y} has open_before torn =
    let at = place (other slot) in
    let stays = slot_stays slot e torn (omega arith) (omega arith) has.slot_is in
    by_slot slot e y stays (elim (cases_eq (slice_index y at) 1) [
      | inl is ↦
          let number : number_at (at + 8) y ≡ number_at (at + 8) x = ap (from_be_bytes w64) (slice-torn torn (at + 8) 8 (inr (omega arith))) in
          omega (arith, open_slot at y is, number, open_slot at x open_before, other_below slot e x has)
      | inr closed ↦ omega (arith, closed_slot at y closed)
    ]) (least_epoch has) (header_slot (other slot) has.header torn (omega arith) (omega arith) (slot_shut at (slot_in (other slot) has.header) open_before torn))

-- what is after a closed gate is written
pub body_written : (slot : Slot) (e : ℕ) {x y : List ℕ} → HasEpoch slot e x → IsClosed (place (other slot)) y → Torn (place (other slot) + 1) 15 x y → HasEpoch slot e y
body_written slot e {x = x} {y = y} has closed torn =
    let at = place (other slot) in
    by_slot slot e y (slot_stays slot e torn (omega arith) (omega arith) has.slot_is) (omega (arith, closed_slot at y closed)) (least_epoch has) (header_slot (other slot) has.header torn (omega arith) (omega arith) (slot_closed at y closed))

-- the gate is opened: the epoch is the old one or the next
pub gate_written : (slot : Slot) (e next : ℕ) {x y : List ℕ} → HasEpoch slot e x → e ≤ next → next ≤ last_epoch → HoldsEpoch (place (other slot)) next x → Torn (place (other slot)) 1 x y
    → HasEpoch slot e y ⊎ HasEpoch (other slot) next y
gate_written slot e next {x = x} {y = y} has le last holds torn =
    let at = place (other slot) in
    let stays = slot_stays slot e torn (omega arith) (omega arith) has.slot_is in
    let least : 1 ≤ next = omega (arith, le, least_epoch has) in
    let header : 1 ≤ epoch y → IsHeader y = header_slot (other slot) has.header torn (omega arith) (omega arith) (slot_held at next holds least last torn) in
    elim (cases_eq (slice_index y at) 1) [
      | inl is ↦
          let here : slot_epoch at y ≡ next = open_slot at y is ∙ ap (from_be_bytes w64) (slice-torn torn (at + 8) 8 (inr (omega arith))) ∙ holds.number in
          inr (by_slot (other slot) next y here (omega (arith, ap (λ (s : Slot). slot_epoch (place s) y) (other_other slot), stays, le)) least header)
      | inr closed ↦ inl (by_slot slot e y stays (omega (arith, closed_slot at y closed)) (least_epoch has) header)
    ]

-- once it is open the epoch is the next
pub open_raises : (slot : Slot) (e next : ℕ) {x y : List ℕ} → HasEpoch slot e x → e ≤ next → next ≤ last_epoch → HoldsEpoch (place (other slot)) next x → Torn (place (other slot)) 1 x y → IsOpen (place (other slot)) y
    → HasEpoch (other slot) next y
open_raises slot e next {x = x} {y = y} has le last holds torn is =
    let at = place (other slot) in
    let stays = slot_stays slot e torn (omega arith) (omega arith) has.slot_is in
    let here : slot_epoch at y ≡ next = open_slot at y is ∙ ap (from_be_bytes w64) (slice-torn torn (at + 8) 8 (inr (omega arith))) ∙ holds.number in
    let least : 1 ≤ next = omega (arith, le, least_epoch has) in
    let header : 1 ≤ epoch y → IsHeader y = header_slot (other slot) has.header torn (omega arith) (omega arith) (slot_held at next holds least last torn) in
    by_slot (other slot) next y here (omega (arith, ap (λ (s : Slot). slot_epoch (place s) y) (other_other slot), stays, le)) least header

-- which of two is chosen
pub chosen_first : (x y : List ℕ) → epoch y ≤ epoch x → chosen x y ≡ body x
chosen_first x y le = cond-false _ _ _ (le-ltb _ _ le)

pub chosen_second : (x y : List ℕ) → epoch x < epoch y → chosen x y ≡ body y
chosen_second x y lt = cond-true _ _ _ (lt-ltb _ _ lt)
