-- The header of an image is in its first 64 bytes.
use Rattle.mirror_disk.proofs.Words.{◌≡◌, ◌≤◌, ◌+◌, ◌-◌, ◌<◌, ℕ, List, length, take, drop, Option, Some, None, sym, ◌∙◌, ap, subst, arith, length-take-le, cond, slice_index, ◌==◌, IfSome, IfNone, w64, from_be_bytes, drop-take, get_or-take, take-take, DiskState, IsLawful, IsSettled, Mark, Slot, IsHeader, IsSlot, epoch, larger, last_epoch, number_at, slot_epoch, HasEpoch, place}

-- a part of it
part : (x : List ℕ) (k n : ℕ) → k + n ≤ 64 → take n (drop k (take 64 x)) ≡ take n (drop k x)
part x k n le =
    let rest : k + (64 - k) ≡ 64 = omega (arith, le) in
    ap (λ (m : ℕ). take n (drop k (take m x))) (sym rest) ∙ ap (take n) (drop-take k (64 - k) x) ∙ take-take n (64 - k) (drop k x) (omega (arith, le))

byte : (x : List ℕ) (k : ℕ) → k < 64 → slice_index (take 64 x) k ≡ slice_index x k
byte x k less = get_or-take 64 x k 0 less

front_epoch : (x : List ℕ) (at : ℕ) → at + 16 ≤ 64 → slot_epoch at (take 64 x) ≡ slot_epoch at x
front_epoch x at le =
    let gate = byte x at (omega (arith, le)) in
    let number : number_at (at + 8) (take 64 x) ≡ number_at (at + 8) x = ap (from_be_bytes w64) (part x (at + 8) 8 (omega (arith, le))) in
    λ i. cond (gate i == 1) (number i) 0

epoch_of_front : (x : List ℕ) → epoch (take 64 x) ≡ epoch x
epoch_of_front x = λ i. larger (front_epoch x 16 (omega arith) i) (front_epoch x 32 (omega arith) i)

slot_of_front : (x : List ℕ) (at : ℕ) → at + 16 ≤ 64 → IsSlot at (take 64 x) → IsSlot at x
slot_of_front x at le slot =
    let gate = byte x at (omega (arith, le)) in
    let number : number_at (at + 8) (take 64 x) ≡ number_at (at + 8) x = ap (from_be_bytes w64) (part x (at + 8) 8 (omega (arith, le))) in
    record {
      zeros = λ is. sym (part x (at + 1) 7 (omega (arith, le))) ∙ slot.zeros (gate ∙ is);
      least = λ is. let least = slot.least (gate ∙ is) in omega (arith, least, number);
      most = λ is. let most = slot.most (gate ∙ is) in omega (arith, most, number);
    }

front_of_slot : (x : List ℕ) (at : ℕ) → at + 16 ≤ 64 → IsSlot at x → IsSlot at (take 64 x)
front_of_slot x at le slot =
    let gate = byte x at (omega (arith, le)) in
    let number : number_at (at + 8) (take 64 x) ≡ number_at (at + 8) x = ap (from_be_bytes w64) (part x (at + 8) 8 (omega (arith, le))) in
    record {
      zeros = λ is. part x (at + 1) 7 (omega (arith, le)) ∙ slot.zeros (sym gate ∙ is);
      least = λ is. let least = slot.least (sym gate ∙ is) in omega (arith, least, number);
      most = λ is. let most = slot.most (sym gate ∙ is) in omega (arith, most, number);
    }

-- an image has the header of its front
pub header_of_front : (x : List ℕ) → 64 ≤ length x → IsHeader (take 64 x) → IsHeader x
header_of_front x long header = record {
  size = long;
  begins = sym (part x 0 8 (omega arith)) ∙ header.begins;
  gap = sym (part x 8 8 (omega arith)) ∙ header.gap;
  first = slot_of_front x 16 (omega arith) header.first;
  second = slot_of_front x 32 (omega arith) header.second;
  end = sym (part x 48 16 (omega arith)) ∙ header.end;
  has_epoch = omega (arith, header.has_epoch, epoch_of_front x);
}

pub front_of_header : (x : List ℕ) → IsHeader x → IsHeader (take 64 x)
front_of_header x header = record {
  size = (let len = length-take-le 64 x header.size in omega (arith, len));
  begins = part x 0 8 (omega arith) ∙ header.begins;
  gap = part x 8 8 (omega arith) ∙ header.gap;
  first = front_of_slot x 16 (omega arith) header.first;
  second = front_of_slot x 32 (omega arith) header.second;
  end = part x 48 16 (omega arith) ∙ header.end;
  has_epoch = omega (arith, header.has_epoch, epoch_of_front x);
}

slot_in_front : (slot : Slot) (x : List ℕ) → slot_epoch (place slot) (take 64 x) ≡ slot_epoch (place slot) x
slot_in_front slot x = grind (arith, front_epoch)

pub has_of_front : (slot : Slot) (e : ℕ) (x : List ℕ) → 64 ≤ length x → HasEpoch slot e (take 64 x) → HasEpoch slot e x
has_of_front slot e x long has = record { epoch_is = sym (epoch_of_front x) ∙ has.epoch_is; slot_is = sym (slot_in_front slot x) ∙ has.slot_is; header = header_of_front x long has.header }

-- what was read of a header, in each image of a side that is settled
pub read_mark_of : (d : DiskState) (h : List ℕ) → IsLawful d → IsSettled d → 64 ≤ d.size → ((c : List ℕ) → d.contents ≡ Some c → h ≡ take 64 c)
    → (mark : Option Mark) → IfSome mark (λ m. (m.epoch ≤ last_epoch) × HasEpoch m.slot m.epoch h) → IfSome mark (λ m. (m.epoch ≤ last_epoch) × ((x : List ℕ) → d.now x → HasEpoch m.slot m.epoch x))
read_mark_of d h laws settled long read None is = tt
read_mark_of d h laws settled long read (Some m) is = (
  is.0,
  λ x now.
      let size = laws.image_size d.clock x (laws.counts_now d.clock x (omega arith) now) in
      has_of_front m.slot m.epoch x (omega (arith, long, size)) (subst (HasEpoch m.slot m.epoch) (read x (settled x now)) is.1),
)

pub read_none_of : (c h : List ℕ) → h ≡ take 64 c → (mark : Option Mark) → IfNone mark (IsHeader h → ⊥) → mark ≡ None → IsHeader c → ⊥
read_none_of c h same None not is header = not (subst IsHeader (sym same) (front_of_header c header))
read_none_of c h same (Some m) not is header = absurd (cc is)
