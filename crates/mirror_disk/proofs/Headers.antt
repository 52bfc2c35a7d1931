-- The header of an image, while bytes of it are written.
use Rattle.mirror_disk.proofs.Words.{◌≡◌, ◌⊎◌, inl, inr, ⊎_elim, ◌≤◌, ◌+◌, ℕ, List, take, drop, ◌∙◌, ap, arith, slice_index, w64, from_be_bytes, Torn, slice-torn, get_or-torn, IsClosed, IsOpen, Slot, First, Second, IsHeader, IsSlot, epoch, last_epoch, number_at, HoldsEpoch, place}

-- a slot outside of what is torn
pub slot_stands : {k n : ℕ} {x y : List ℕ} (at : ℕ) → IsSlot at x → Torn k n x y → (at + 16 ≤ k) ⊎ (k + n ≤ at) → IsSlot at y
slot_stands {k = k} {n = n} {x = x} {y = y} at slot torn outside =
    let gate : slice_index y at ≡ slice_index x at = get_or-torn torn at 0 (⊎_elim (λ (before : at + 16 ≤ k). inl (omega (arith, before))) (λ (behind : k + n ≤ at). inr behind) outside) in
    let zeros : take 7 (drop (at + 1) y) ≡ take 7 (drop (at + 1) x) = slice-torn torn (at + 1) 7 (⊎_elim (λ (before : at + 16 ≤ k). inl (omega (arith, before))) (λ (behind : k + n ≤ at). inr (omega (arith, behind))) outside) in
    let number : number_at (at + 8) y ≡ number_at (at + 8) x = ap (from_be_bytes w64) (slice-torn torn (at + 8) 8 (⊎_elim (λ (before : at + 16 ≤ k). inl (omega (arith, before))) (λ (behind : k + n ≤ at). inr (omega (arith, behind))) outside)) in
    grind arith

-- a closed slot
pub slot_closed : (at : ℕ) (x : List ℕ) → IsClosed at x → IsSlot at x
slot_closed at x closed = record { zeros = λ is. absurd (closed is); least = λ is. absurd (closed is); most = λ is. absurd (closed is) }

-- a slot that was open, and whose gate is written
pub slot_shut : {x y : List ℕ} (at : ℕ) → IsSlot at x → IsOpen at x → Torn at 1 x y → IsSlot at y
slot_shut {x = x} {y = y} at slot was torn =
    let zeros : take 7 (drop (at + 1) y) ≡ take 7 (drop (at + 1) x) = slice-torn torn (at + 1) 7 (inr (omega arith)) in
    let number : number_at (at + 8) y ≡ number_at (at + 8) x = ap (from_be_bytes w64) (slice-torn torn (at + 8) 8 (inr (omega arith))) in
    grind arith

-- a slot with this epoch after its gate, which is written
pub slot_held : {x y : List ℕ} (at e : ℕ) → HoldsEpoch at e x → 1 ≤ e → e ≤ last_epoch → Torn at 1 x y → IsSlot at y
slot_held {x = x} {y = y} at e holds least most torn =
    let zeros : take 7 (drop (at + 1) y) ≡ take 7 (drop (at + 1) x) = slice-torn torn (at + 1) 7 (inr (omega arith)) in
    let number : number_at (at + 8) y ≡ number_at (at + 8) x = ap (from_be_bytes w64) (slice-torn torn (at + 8) 8 (inr (omega arith))) in
    grind arith

pub slot_in : (slot : Slot) {x : List ℕ} → IsHeader x → IsSlot (place slot) x
slot_in First header = header.first
slot_in Second header = header.second

-- bytes after the header are written
pub header_behind : {k n : ℕ} {x y : List ℕ} → IsHeader x → Torn k n x y → 64 ≤ k → epoch y ≡ epoch x → IsHeader y
header_behind header torn le same = record {
  size = omega (arith, header.size, torn.size);
  begins = slice-torn torn 0 8 (inl (omega (arith, le))) ∙ header.begins;
  gap = slice-torn torn 8 8 (inl (omega (arith, le))) ∙ header.gap;
  first = slot_stands 16 header.first torn (inl (omega (arith, le)));
  second = slot_stands 32 header.second torn (inl (omega (arith, le)));
  end = slice-torn torn 48 16 (inl (omega (arith, le))) ∙ header.end;
  has_epoch = omega (arith, header.has_epoch, same);
}

-- bytes of one slot are
pub header_slot : (slot : Slot) {k n : ℕ} {x y : List ℕ} → IsHeader x → Torn k n x y → place slot ≤ k → k + n ≤ place slot + 16 → IsSlot (place slot) y → 1 ≤ epoch y → IsHeader y
header_slot First header torn from to slot has = record {
  size = omega (arith, header.size, torn.size);
  begins = slice-torn torn 0 8 (inl (omega (arith, from))) ∙ header.begins;
  gap = slice-torn torn 8 8 (inl (omega (arith, from))) ∙ header.gap;
  first = slot;
  second = slot_stands 32 header.second torn (inr (omega (arith, to)));
  end = slice-torn torn 48 16 (inr (omega (arith, to))) ∙ header.end;
  has_epoch = has;
}
header_slot Second header torn from to slot has = record {
  size = omega (arith, header.size, torn.size);
  begins = slice-torn torn 0 8 (inl (omega (arith, from))) ∙ header.begins;
  gap = slice-torn torn 8 8 (inl (omega (arith, from))) ∙ header.gap;
  first = slot_stands 16 header.first torn (inl (omega (arith, from)));
  second = slot;
  end = slice-torn torn 48 16 (inr (omega (arith, to))) ∙ header.end;
  has_epoch = has;
}
