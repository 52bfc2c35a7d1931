-- A record says the same on its own bytes and one more as on all that follow.
use Rattle.iso_format.proofs.Words.{◌≡◌, ◌<◌, ◌≤◌, ◌+◌, ◌-◌, ◌*◌, ◌==◌, ◌||◌, ◌&&◌, not, cond, ℕ, List, length, take, drop, get_or, Some, None, nat_lt, nat_le, refl, sym, ◌∙◌, ap, arith, from_be_bytes, w32, w64, lt-ltb, le-ltb, drop-take, take-take, get_or-take, length-take-le, Geometry, LAST, or_else, Short, Kind, NotZero, Count, Number, number_at, fault_of, parts_fault, body_of, is_kind, record_window, recorded}

-- a slice of the front
slice_front : (k at n : ℕ) (bytes : List ℕ) → at + n ≤ k → take n (drop at (take k bytes)) ≡ take n (drop at bytes)
slice_front k at n bytes inside =
    let far : at + (k - at) ≡ k = omega arith in
    ap (λ (m : ℕ). take n (drop at (take m bytes))) (sym far) ∙ ap (take n) (drop-take at (k - at) bytes) ∙ take-take n (k - at) (drop at bytes) (omega arith)

number_front : (k at : ℕ) (bytes : List ℕ) → at + 4 ≤ k → number_at w32 at (take k bytes) ≡ number_at w32 at bytes
number_front k at bytes inside = ap (from_be_bytes w32) (slice_front k at 4 bytes inside)

pub window_front : (bytes : List ℕ) (k : ℕ) → 12 ≤ k → record_window (take k bytes) ≡ record_window bytes
window_front bytes k inside = ap (λ (n : ℕ). 21 + n) (number_front k 8 bytes inside)

-- what the head says, and the parts
record SameFields (k : ℕ) (bytes : List ℕ) : Type 0 where
  kind : get_or (take k bytes) 1 0 ≡ get_or bytes 1 0
  count : number_at w32 4 (take k bytes) ≡ number_at w32 4 bytes
  len : number_at w32 8 (take k bytes) ≡ number_at w32 8 bytes
  number : number_at w64 12 (take k bytes) ≡ number_at w64 12 bytes
  body : body_of (take k bytes) ≡ body_of bytes

same_fields : (k : ℕ) (bytes : List ℕ) → record_window bytes ≤ k → SameFields k bytes
same_fields k bytes is =
    let len : number_at w32 8 (take k bytes) ≡ number_at w32 8 bytes = number_front k 8 bytes (omega (arith, is)) in
    record {
      kind = get_or-take k bytes 1 0 (omega (arith, is));
      count = number_front k 4 bytes (omega (arith, is));
      len = len;
      number = ap (from_be_bytes w64) (slice_front k 12 8 bytes (omega (arith, is)));
      body = ap (λ (m : ℕ). take m (drop 20 (take k bytes))) len ∙ slice_front k 20 (number_at w32 8 bytes) bytes (omega (arith, is));
    }

pub fault_front : (g : Geometry) (n : ℕ) (bytes : List ℕ) (k : ℕ) → record_window bytes ≤ k → k ≤ length bytes → fault_of g n (take k bytes) ≡ fault_of g n bytes
unfolding fault_of
fault_front g n bytes k is inside =
    let long : length (take k bytes) ≡ k = length-take-le k bytes inside in
    let same = same_fields k bytes is in
    let len = same.len in
    let a : nat_lt (length (take k bytes)) 20 ≡ nat_lt (length bytes) 20 = le-ltb (length (take k bytes)) 20 (omega (arith, long, is)) ∙ sym (le-ltb (length bytes) 20 (omega (arith, is, inside))) in
    let b : nat_lt (length (take k bytes)) (record_window (take k bytes)) ≡ nat_lt (length bytes) (record_window bytes) =
    le-ltb (length (take k bytes)) (record_window (take k bytes)) (omega (arith, long, is, len)) ∙ sym (le-ltb (length bytes) (record_window bytes) (omega (arith, is, inside))) in
    let k2 : get_or (take k bytes) 2 0 ≡ get_or bytes 2 0 = get_or-take k bytes 2 0 (omega (arith, is)) in
    let k3 : get_or (take k bytes) 3 0 ≡ get_or bytes 3 0 = get_or-take k bytes 3 0 (omega (arith, is)) in
    λ i. or_else (cond (a i) (Some (Short 0)) (cond (b i) (Some (Short 8)) (cond (not (is_kind g (same.kind i))) (Some (Kind 1)) (cond (not (k2 i == 0)) (Some (NotZero 2))
    (cond (not (k3 i == 0)) (Some (NotZero 3)) (cond ((same.count i == 0) || nat_lt (same.len i) (9 * same.count i)) (Some (Count 4)) None))))))
    (or_else (parts_fault g None 20 (same.count i) (same.body i)) (cond ((same.number i == n) && nat_le n LAST) None (Some (Number 12))))

pub recorded_front : (bytes : List ℕ) (k : ℕ) → record_window bytes ≤ k → recorded (take k bytes) ≡ recorded bytes
recorded_front bytes k is = grind (arith, same_fields)

pub short_head : (g : Geometry) (n : ℕ) (bytes : List ℕ) → length bytes < 20 → fault_of g n bytes ≡ Some (Short 0)
unfolding fault_of
short_head g n bytes short = rw (lt-ltb (length bytes) 20 short) refl

pub short_body : (g : Geometry) (n : ℕ) (bytes : List ℕ) → 20 ≤ length bytes → length bytes < record_window bytes → fault_of g n bytes ≡ Some (Short 8)
unfolding fault_of
short_body g n bytes long short = rw (le-ltb (length bytes) 20 long, lt-ltb (length bytes) (record_window bytes) short) refl
