-- The bits of a map of which one was set or cleared.
use Rattle.iso_alloc.proofs.Words.{◌≡◌, ◌≢◌, ◌⊎◌, ◌∙◌, sym, refl, ap, ℕ, zero, suc, ◌+◌, ◌-◌, ◌/◌, ◌%◌, ◌^◌, ◌<◌, ◌≤◌, Bool, true, false, ◌&&◌, ◌||◌, ◌==◌, not, List, length, get_or, max, min, arith, inl, inr, eq-eqb, ne_eqb, bit_and, bit_at, cases_eq, get_or-set_same, get_or-set_other, bit_at_or, bit_at_xor, bit_at_and, bit_at-pow_same, bit_at-pow_other, bit_at-lt, bit_place, map_bit, set_bit, clear_bit, with_bit, without_bit}

set_here : (byte k : ℕ) → bit_at (set_bit byte k) (k % 8) ≡ 1
set_here byte k = let low = bit_at-lt byte (k % 8) in bit_at_or byte (2 ^ (k % 8)) (k % 8) ∙ ap (max (bit_at byte (k % 8))) (bit_at-pow_same (k % 8)) ∙ omega arith

set_other : (byte k i : ℕ) → i ≢ k % 8 → bit_at (set_bit byte k) i ≡ bit_at byte i
set_other byte k i other = bit_at_or byte (2 ^ (k % 8)) i ∙ ap (max (bit_at byte i)) (bit_at-pow_other (k % 8) i other) ∙ omega arith

cleared_here : (byte k : ℕ) → bit_at (clear_bit byte k) (k % 8) ≡ 0
cleared_here byte k =
    let low = bit_at-lt byte (k % 8) in
    let same : bit_at (bit_and byte (2 ^ (k % 8))) (k % 8) ≡ bit_at byte (k % 8) = bit_at_and byte (2 ^ (k % 8)) (k % 8) ∙ ap (min (bit_at byte (k % 8))) (bit_at-pow_same (k % 8)) ∙ omega arith in
    bit_at_xor byte (bit_and byte (2 ^ (k % 8))) (k % 8) ∙ ap (λ (n : ℕ). (bit_at byte (k % 8) + n) % 2) same ∙ omega arith

cleared_other : (byte k i : ℕ) → i ≢ k % 8 → bit_at (clear_bit byte k) i ≡ bit_at byte i
cleared_other byte k i other =
    let low = bit_at-lt byte i in
    let none : bit_at (bit_and byte (2 ^ (k % 8))) i ≡ 0 = bit_at_and byte (2 ^ (k % 8)) i ∙ ap (min (bit_at byte i)) (bit_at-pow_other (k % 8) i other) ∙ omega arith in
    bit_at_xor byte (bit_and byte (2 ^ (k % 8))) i ∙ ap (λ (n : ℕ). (bit_at byte i + n) % 2) none ∙ omega arith

-- bytes whose bits are all the same
none_set : (r : ℕ) → r < 8 → bit_at 0 r ≡ 0
none_set zero low = refl
none_set (suc zero) low = refl
none_set (suc (suc zero)) low = refl
none_set (suc (suc (suc zero))) low = refl
none_set (suc (suc (suc (suc zero)))) low = refl
none_set (suc (suc (suc (suc (suc zero))))) low = refl
none_set (suc (suc (suc (suc (suc (suc zero)))))) low = refl
none_set (suc (suc (suc (suc (suc (suc (suc zero))))))) low = refl
none_set (suc (suc (suc (suc (suc (suc (suc (suc r)))))))) low = absurd (omega arith)

all_set : (r : ℕ) → r < 8 → bit_at 255 r ≡ 1
all_set zero low = refl
all_set (suc zero) low = refl
all_set (suc (suc zero)) low = refl
all_set (suc (suc (suc zero))) low = refl
all_set (suc (suc (suc (suc zero)))) low = refl
all_set (suc (suc (suc (suc (suc zero))))) low = refl
all_set (suc (suc (suc (suc (suc (suc zero)))))) low = refl
all_set (suc (suc (suc (suc (suc (suc (suc zero))))))) low = refl
all_set (suc (suc (suc (suc (suc (suc (suc (suc r)))))))) low = absurd (omega arith)

same_bits : (byte r q : ℕ) → (byte ≡ 0) ⊎ (byte ≡ 255) → r < 8 → q < 8 → bit_at byte r ≡ bit_at byte q
same_bits byte r q (inl is) low under = ap (λ (b : ℕ). bit_at b r) is ∙ none_set r low ∙ sym (none_set q under) ∙ ap (λ (b : ℕ). bit_at b q) (sym is)
same_bits byte r q (inr is) low under = ap (λ (b : ℕ). bit_at b r) is ∙ all_set r low ∙ sym (all_set q under) ∙ ap (λ (b : ℕ). bit_at b q) (sym is)

-- the blocks of a byte from one on, where its bits are all the same
pub bits_alike : (map : List ℕ) (block k : ℕ) → (get_or map (bit_place block) 0 ≡ 0) ⊎ (get_or map (bit_place block) 0 ≡ 255) → block ≤ k → k < block + (8 - block % 8) → map_bit map k ≡ map_bit map block
bits_alike map block k is low high =
    let place : k / 8 ≡ block / 8 = omega arith in
    ap (λ (n : ℕ). bit_at (get_or map (64 + n) 0) (k % 8) == 1) place
    ∙ ap (λ (bit : ℕ). bit == 1) (same_bits (get_or map (bit_place block) 0) (k % 8) (block % 8) is (omega arith) (omega arith))

-- the bits of a map of which one byte is changed at the bit of a block, and the others are as before
bits_changed : (change : ℕ → ℕ → ℕ) (bit : Bool → Bool → Bool) → ((b : Bool) → bit false b ≡ b) → ((byte k : ℕ) (b : Bool) → (bit_at (change byte k) (k % 8) == 1) ≡ bit true b)
    → ((byte k i : ℕ) → i ≢ k % 8 → bit_at (change byte k) i ≡ bit_at byte i) → (map new : List ℕ) (block : ℕ) → get_or new (bit_place block) 0 ≡ change (get_or map (bit_place block) 0) block
    → ((k : ℕ) → k / 8 ≢ block / 8 → get_or new (bit_place k) 0 ≡ get_or map (bit_place k) 0) → (k : ℕ) → map_bit new k ≡ bit (k == block) (map_bit map k)
bits_changed change bit kept at_bit other_bit map new block here others k =
    let as_before : (k == block) ≡ false → map_bit map k ≡ bit (k == block) (map_bit map k) = λ test. sym (kept (map_bit map k)) ∙ ap (λ (t : Bool). bit t (map_bit map k)) (sym test) in
    elim (cases_eq (k / 8) (block / 8)) [
      | inr apart ↦ ap (λ (x : ℕ). bit_at x (k % 8) == 1) (others k apart) ∙ as_before (ne_eqb k block (λ e. apart (ap (λ (n : ℕ). n / 8) e)))
      | inl same ↦
          (let byte : get_or new (bit_place k) 0 ≡ change (get_or map (bit_place k) 0) block =
          ap (λ (n : ℕ). get_or new (64 + n) 0) same ∙ here ∙ ap (λ (n : ℕ). change (get_or map (64 + n) 0) block) (sym same) in
          elim (cases_eq k block) [
            | inl is ↦
                ap (λ (x : ℕ). bit_at x (k % 8) == 1) byte ∙ ap (λ (n : ℕ). bit_at (change (get_or map (bit_place k) 0) block) (n % 8) == 1) is
                ∙ at_bit (get_or map (bit_place k) 0) block (map_bit map k) ∙ ap (λ (t : Bool). bit t (map_bit map k)) (sym (eq-eqb k block is))
            | inr other ↦
                ap (λ (x : ℕ). bit_at x (k % 8) == 1) byte ∙ ap (λ (n : ℕ). n == 1) (other_bit (get_or map (bit_place k) 0) block (k % 8) (λ e. other (omega arith)))
                ∙ as_before (ne_eqb k block other)
          ])
    ]

pub bits_with : (map new : List ℕ) (block : ℕ) → get_or new (bit_place block) 0 ≡ set_bit (get_or map (bit_place block) 0) block
    → ((k : ℕ) → k / 8 ≢ block / 8 → get_or new (bit_place k) 0 ≡ get_or map (bit_place k) 0) → (k : ℕ) → map_bit new k ≡ ((k == block) || map_bit map k)
bits_with map new block here others k = bits_changed set_bit (λ t b. t || b) (λ b. refl) (λ byte j b. ap (λ (n : ℕ). n == 1) (set_here byte j)) set_other map new block here others k

pub bits_without : (map new : List ℕ) (block : ℕ) → get_or new (bit_place block) 0 ≡ clear_bit (get_or map (bit_place block) 0) block
    → ((k : ℕ) → k / 8 ≢ block / 8 → get_or new (bit_place k) 0 ≡ get_or map (bit_place k) 0) → (k : ℕ) → map_bit new k ≡ (not (k == block) && map_bit map k)
bits_without map new block here others k = bits_changed clear_bit (λ t b. not t && b) (λ b. refl) (λ byte j b. ap (λ (n : ℕ). n == 1) (cleared_here byte j)) cleared_other map new block here others k

-- a map with a bit set, and with a bit clear
pub with_bits : (map : List ℕ) (block : ℕ) → bit_place block < length map → (k : ℕ) → map_bit (with_bit map block) k ≡ ((k == block) || map_bit map k)
with_bits map block inside = bits_with map (with_bit map block) block (get_or-set_same map (bit_place block) (set_bit (get_or map (bit_place block) 0) block) 0 inside)
    (λ k apart. get_or-set_other map (bit_place block) (bit_place k) (set_bit (get_or map (bit_place block) 0) block) 0 (λ e. apart (omega arith)))

pub without_bits : (map : List ℕ) (block : ℕ) → bit_place block < length map → (k : ℕ) → map_bit (without_bit map block) k ≡ (not (k == block) && map_bit map k)
without_bits map block inside = bits_without map (without_bit map block) block (get_or-set_same map (bit_place block) (clear_bit (get_or map (bit_place block) 0) block) 0 inside)
    (λ k apart. get_or-set_other map (bit_place block) (bit_place k) (clear_bit (get_or map (bit_place block) 0) block) 0 (λ e. apart (omega arith)))
