-- Which lanes a mask of bits chooses, and what they lay over a block.
use Rattle.merge_write.proofs.Words.{◌≡◌, ◌∙◌, sym, refl, ap, ℕ, zero, suc, ◌+◌, ◌*◌, ◌/◌, ◌%◌, ◌^◌, ◌<◌, ◌≤◌, Bool, true, false, cond, List, ◌++◌, length, get_or, map, subst, arith, eqb, bit_and, w64, zip2, sel_l, chunk, put_chunk, bit_at, to_le_bytes, range_with_len, div-one, pow_pos, shr-shr, div-add-mod', and_pow, bit_at-lt, bit_at_cat_low, common_steps, get_or-map-range_with_len, length-zip2, get_or-zip2, length-sel_l, get_or-sel_l, length-chunk, get_or-chunk, get_or-put_chunk_at, get_or-put_chunk_below, get_or-put_chunk_above, IsLaid}

-- the bit of each lane
abbrev pub lane_bits : List ℕ
lane_bits = map (λ k. 2 ^ (k % 8)) (range_with_len 0 64)

-- the lanes whose bit is set
abbrev pub chosen : List ℕ → List Bool
chosen masks = zip2 eqb (zip2 bit_and masks lane_bits) lane_bits

bit_eq : (b p : ℕ) → b < 2 → 0 < p → eqb (b * p) p ≡ eqb b 1
bit_eq zero p small some = let e : zero * p ≡ 0 = omega arith in rw e (grind (arith, common_steps))
bit_eq (suc zero) p small some = let e : suc zero * p ≡ p = omega arith in rw e (grind (arith, common_steps))
bit_eq (suc (suc b)) p small some = absurd (omega arith)

length-chosen : (masks : List ℕ) → length masks ≡ 64 → length (chosen masks) ≡ 64
length-chosen masks long =
    let inner : length (zip2 bit_and masks lane_bits) ≡ 64 = length-zip2 bit_and masks lane_bits long ∙ long in
    length-zip2 eqb (zip2 bit_and masks lane_bits) lane_bits inner ∙ inner

chosen_at : (masks : List ℕ) (k : ℕ) → length masks ≡ 64 → k < 64 → get_or (chosen masks) k false ≡ eqb (bit_at (get_or masks k 0) (k % 8)) 1
chosen_at masks k long below =
    let inner : length (zip2 bit_and masks lane_bits) ≡ 64 = length-zip2 bit_and masks lane_bits long ∙ long in
    let bit : get_or lane_bits k 0 ≡ 2 ^ (k % 8) = get_or-map-range_with_len (λ k. 2 ^ (k % 8)) 0 64 k k 0 below (omega arith) in
    get_or-zip2 eqb (zip2 bit_and masks lane_bits) lane_bits k 0 0 false (omega arith) below
    ∙ ap (λ (a : ℕ). eqb a (get_or lane_bits k 0)) (get_or-zip2 bit_and masks lane_bits k 0 0 0 (omega arith) below)
    ∙ ap (λ (b : ℕ). eqb (bit_and (get_or masks k 0) b) b) bit
    ∙ ap (λ (a : ℕ). eqb a (2 ^ (k % 8))) (and_pow (get_or masks k 0) (k % 8))
    ∙ bit_eq (bit_at (get_or masks k 0) (k % 8)) (2 ^ (k % 8)) (bit_at-lt (get_or masks k 0) (k % 8)) (pow_pos (k % 8))

-- what a step of 64 lanes writes
pub length-selected : (at : ℕ) (masks values into : List ℕ) → length masks ≡ 64 → at + 64 ≤ length values → at + 64 ≤ length into
    → length (sel_l (chosen masks) (chunk at 64 values) (chunk at 64 into)) ≡ 64
length-selected at masks values into long room space =
    let ms = length-chosen masks long in
    length-sel_l (chosen masks) (chunk at 64 values) (chunk at 64 into) (ms ∙ sym (length-chunk at 64 values room)) (ms ∙ sym (length-chunk at 64 into space)) ∙ ms

pub selected_at : (at k : ℕ) (masks values into : List ℕ) → length masks ≡ 64 → at + 64 ≤ length values → at + 64 ≤ length into → k < 64
    → get_or (put_chunk at into (sel_l (chosen masks) (chunk at 64 values) (chunk at 64 into))) (at + k) 0
    ≡ cond (eqb (bit_at (get_or masks k 0) (k % 8)) 1) (get_or values (at + k) 0) (get_or into (at + k) 0)
selected_at at k masks values into long room space below =
    let ms = length-chosen masks long in
    let vs : length (chunk at 64 values) ≡ 64 = length-chunk at 64 values room in
    let is : length (chunk at 64 into) ≡ 64 = length-chunk at 64 into space in
    let all = length-selected at masks values into long room space in
    get_or-put_chunk_at at into (sel_l (chosen masks) (chunk at 64 values) (chunk at 64 into)) k 0 (omega (arith, all)) (omega (arith, all))
    ∙ get_or-sel_l (chosen masks) (chunk at 64 values) (chunk at 64 into) k 0 (omega (arith, ms)) (omega (arith, vs)) (omega (arith, is))
    ∙ rw (chosen_at masks k long below, get_or-chunk at 64 values k 0 below, get_or-chunk at 64 into k 0 below) refl

-- a part of some bytes that is put in its place among others
pub part_laid : (at count : ℕ) (bytes into : List ℕ) → at + count ≤ length bytes → at + count ≤ length into → IsLaid at count (λ k. true) bytes into (put_chunk at into (chunk at count bytes))
part_laid at count bytes into room space =
    let long : length (chunk at count bytes) ≡ count = length-chunk at count bytes room in
    record {
      lanes = λ k below. get_or-put_chunk_at at into (chunk at count bytes) k 0 (omega (arith, long)) (omega (arith, long)) ∙ get_or-chunk at count bytes k 0 below;
      before = λ k below. get_or-put_chunk_below at into (chunk at count bytes) k 0 below;
      behind = λ k past. get_or-put_chunk_above at into (chunk at count bytes) k 0 (omega (arith, long));
    }

-- a bit of a byte of a number
bit_of_byte : (n a i : ℕ) → i < 8 → bit_at (n / 2 ^ a % 256) i ≡ bit_at n (a + i)
bit_of_byte n a i below =
    let m = n / 2 ^ a in
    let low : bit_at (m / 256 * 2 ^ 8 + m % 256) i ≡ bit_at (m % 256) i = bit_at_cat_low (m / 256) 8 (m % 256) i below in
    let whole : m / 256 * 256 + m % 256 ≡ m = div-add-mod' m 256 in
    sym low ∙ ap (λ (x : ℕ). bit_at x i) whole ∙ ap (λ (x : ℕ). x % 2) (shr-shr n a i)

byte_is : (n j : ℕ) → j < 8 → get_or (to_le_bytes w64 n) j 0 ≡ n / 2 ^ (8 * j) % 256
byte_is n zero below = ap (λ (x : ℕ). x % 256) (sym (div-one n))
byte_is n (suc zero) below = refl
byte_is n (suc (suc zero)) below = refl
byte_is n (suc (suc (suc zero))) below = refl
byte_is n (suc (suc (suc (suc zero)))) below = refl
byte_is n (suc (suc (suc (suc (suc zero))))) below = refl
byte_is n (suc (suc (suc (suc (suc (suc zero)))))) below = refl
byte_is n (suc (suc (suc (suc (suc (suc (suc zero))))))) below = refl
byte_is n (suc (suc (suc (suc (suc (suc (suc (suc j)))))))) below = absurd (omega arith)

-- the bit of a lane, in the lanes to which the bytes of a number are spread
pub spread_bit : (n k : ℕ) (f : ℕ → ℕ) → k < 64 → f k < 8 → f k ≡ k / 8
    → bit_at (get_or (map (λ k. get_or (to_le_bytes w64 n) (f k) 0) (range_with_len 0 64)) k 0) (k % 8) ≡ bit_at n k
spread_bit n k f below small is =
    let e : 8 * f k + k % 8 ≡ k = omega arith in
    rw (get_or-map-range_with_len (λ k. get_or (to_le_bytes w64 n) (f k) 0) 0 64 k k 0 below (omega arith), byte_is n (f k) small)
    (bit_of_byte n (8 * f k) (k % 8) (omega arith) ∙ ap (bit_at n) e)

-- the bytes of a word of masks, spread to the lanes
pub lanes_of_word : (n k : ℕ) (r : List ℕ) → r ≡ to_le_bytes w64 n → k < 64
    → bit_at (get_or (map (λ (j : ℕ). get_or (r ++ r) (j / 8) 0) (range_with_len 0 64)) k 0) (k % 8) ≡ bit_at n k
lanes_of_word n k r is below =
    subst (λ (bytes : List ℕ). bit_at (get_or (map (λ (j : ℕ). get_or (bytes ++ bytes) (j / 8) 0) (range_with_len 0 64)) k 0) (k % 8) ≡ bit_at n k) (sym is)
    (spread_bit n k (λ (j : ℕ). j / 8) below (omega arith) (omega arith))
