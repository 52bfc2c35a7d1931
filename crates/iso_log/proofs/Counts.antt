-- The records of a list of bytes, one by one.
use Rattle.iso_log.proofs.Words.{◌≡◌, ◌<◌, ◌≤◌, ◌+◌, ◌-◌, ◌^◌, ℕ, List, [], ◌∷◌, ◌++◌, length, take, drop, get_or, min, refl, sym, ◌∙◌, ap, arith, length-append, append_assoc, to_be_bytes, w32, drop_at, from_be_bytes-to_be_bytes_4, Geometry, Run, Written, body_length, kind_of, records, spell, length-spell, record_window}

pub spell_gate : (gate kind n : ℕ) (parts : List Run) (rest : List ℕ) → get_or (spell gate kind n parts ++ rest) 0 0 ≡ gate
unfolding spell
spell_gate gate kind n parts rest = refl

spell_body : (gate kind n : ℕ) (parts : List Run) (rest : List ℕ) → take 4 (drop 8 (spell gate kind n parts ++ rest)) ≡ to_be_bytes w32 (body_length parts)
unfolding spell
spell_body gate kind n parts rest = refl

-- the window of a record that is spelled is its length, and one byte more
pub window_is : (gate kind n : ℕ) (parts : List Run) (rest : List ℕ) → length (spell gate kind n parts) < 2 ^ 32 → record_window (spell gate kind n parts ++ rest) ≡ length (spell gate kind n parts) + 1
window_is gate kind n parts rest small = grind (arith, length-spell, spell_body, from_be_bytes-to_be_bytes_4)

-- These bytes are the records that are left of those of a list, once `count` were counted.
pub record AreLeft (g : Geometry) (n : ℕ) (more : List Written) (count : ℕ) (rest : List ℕ) : Type 0 where
  pub left : List Written
  pub bytes_are : rest ≡ records g (n + count) left ++ 0 ∷ []
  pub count_is : count + length left ≡ length more

pub none_counted : (g : Geometry) (n : ℕ) (more : List Written) (bytes : List ℕ) → bytes ≡ records g n more ++ 0 ∷ [] → AreLeft g n more 0 bytes
none_counted g n more bytes is = let e : n + 0 ≡ n = omega arith in record { left = more; bytes_are = is ∙ ap (λ (k : ℕ). records g k more ++ 0 ∷ []) (sym e); count_is = omega arith }

-- one more of them
pub one_counted : (g : Geometry) (n : ℕ) (more : List Written) (count : ℕ) (rest : List ℕ) → AreLeft g n more count rest → 20 < length rest → length rest < 2 ^ 32
    → (size : ℕ) → size ≡ min (record_window rest - 1) (length rest) → AreLeft g n more (count + 1) (drop size rest)
one_counted g n more count rest are long small size size_is = next are.left are.bytes_are are.count_is
  where
    next : (ws : List Written) → rest ≡ records g (n + count) ws ++ 0 ∷ [] → count + length ws ≡ length more → AreLeft g n more (count + 1) (drop size rest)
    next [] is sum = absurd (omega (arith, ap length is))
    next (w ∷ ws) is sum =
        let s : List ℕ = spell 1 (kind_of g w.mode) (n + count) w.parts in
        let tail : List ℕ = records g (n + count + 1) ws ++ 0 ∷ [] in
        let split : rest ≡ s ++ tail = is ∙ append_assoc s (records g (n + count + 1) ws) (0 ∷ []) in
        let total = ap length split ∙ length-append s tail in
        let window : record_window rest ≡ length s + 1 = ap record_window split ∙ window_is 1 (kind_of g w.mode) (n + count) w.parts tail (omega (arith, total, small)) in
        let whole : size ≡ length s = omega (arith, size_is, window, total) in
        let number : n + count + 1 ≡ n + (count + 1) = omega arith in
        record {
          left = ws;
          bytes_are = ap (drop size) split ∙ drop_at s tail size (sym whole) ∙ ap (λ (k : ℕ). records g k ws ++ 0 ∷ []) number;
          count_is = omega (arith, sum);
        }

-- none is left
pub all_counted : (g : Geometry) (n : ℕ) (more : List Written) (count : ℕ) (rest : List ℕ) → AreLeft g n more count rest → length rest ≤ 20 → count ≡ length more
all_counted g n more count rest are short = end are.left are.bytes_are are.count_is
  where
    end : (ws : List Written) → rest ≡ records g (n + count) ws ++ 0 ∷ [] → count + length ws ≡ length more → count ≡ length more
    end [] is sum = omega (arith, sum)
    end (w ∷ ws) is sum =
        let s : List ℕ = spell 1 (kind_of g w.mode) (n + count) w.parts in
        let size = length-spell 1 (kind_of g w.mode) (n + count) w.parts in
        let total = ap length is ∙ length-append (s ++ records g (n + count + 1) ws) (0 ∷ []) in
        let front = length-append s (records g (n + count + 1) ws) in
        absurd (omega (arith, total, front, size))
