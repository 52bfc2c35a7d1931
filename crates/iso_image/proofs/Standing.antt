-- Where a record is in a log.
use Rattle.iso_image.proofs.{Words.{◌≡◌, ◌≤◌, ◌+◌, ◌-◌, ℕ, suc, List, ◌∷◌, ◌++◌, length, take, drop, refl, sym, ◌∙◌, ap, arith, length-append, subst, take_at, drop_at, drop-take, take-take, drop-drop, length-take, Geometry, log_place, Written, kind_of, records, spell, Half, HasLog, IsHeld}, Adds.held_log, Logs.{log_front, records-append}}

slice_front : (k at n : ℕ) (bytes : List ℕ) → at + n ≤ k → take n (drop at (take k bytes)) ≡ take n (drop at bytes)
slice_front k at n bytes inside =
    let far : at + (k - at) ≡ k = omega arith in
    ap (λ (m : ℕ). take n (drop at (take m bytes))) (sym far) ∙ ap (take n) (drop-take at (k - at) bytes) ∙ take-take n (k - at) (drop at bytes) (omega arith)

-- the record is after those before it
pub record_at : (place room : ℕ) (g : Geometry) (first : ℕ) (before : List Written) (w : Written) (after : List Written) (c : List ℕ)
    → HasLog place room g first (before ++ w ∷ after) c
    → take (length (spell 1 (kind_of g w.mode) (first + length before) w.parts)) (drop (place + length (records g first before)) c) ≡ spell 1 (kind_of g w.mode) (first + length before) w.parts
record_at place room g first before w after c has =
    let (gate, rest, closed, is) = has in
    let all : records g first (before ++ w ∷ after) ≡ records g first before ++ (spell 1 (kind_of g w.mode) (first + length before) w.parts ++ records g (first + length before + 1) after) =
    records-append g first before (w ∷ after) in
    let count : length (records g first (before ++ w ∷ after)) ≡ length (records g first before) + (length (spell 1 (kind_of g w.mode) (first + length before) w.parts) + length (records g (first + length before + 1) after)) =
    ap length all ∙ length-append (records g first before) (spell 1 (kind_of g w.mode) (first + length before) w.parts ++ records g (first + length before + 1) after)
    ∙ ap (λ (n : ℕ). length (records g first before) + n) (length-append (spell 1 (kind_of g w.mode) (first + length before) w.parts) (records g (first + length before + 1) after)) in
    let long : length (take room (drop place c)) ≡ length (records g first (before ++ w ∷ after)) + suc (length rest) = ap length is ∙ length-append (records g first (before ++ w ∷ after)) (gate ∷ rest) in
    let room_is : length (records g first (before ++ w ∷ after)) ≤ room = omega (arith, long, length-take room (drop place c)) in
    let front : take (length (records g first (before ++ w ∷ after))) (drop place c) ≡ records g first (before ++ w ∷ after) =
    sym (take-take (length (records g first (before ++ w ∷ after))) room (drop place c) room_is) ∙ log_front place room g first (before ++ w ∷ after) c has in
    ap (take (length (spell 1 (kind_of g w.mode) (first + length before) w.parts))) (sym (drop-drop (length (records g first before)) place c))
    ∙ sym (slice_front (length (records g first (before ++ w ∷ after))) (length (records g first before)) (length (spell 1 (kind_of g w.mode) (first + length before) w.parts)) (drop place c) (omega (arith, count)))
    ∙ ap (λ (l : List ℕ). take (length (spell 1 (kind_of g w.mode) (first + length before) w.parts)) (drop (length (records g first before)) l)) (front ∙ all)
    ∙ ap (take (length (spell 1 (kind_of g w.mode) (first + length before) w.parts))) (drop_at (records g first before) (spell 1 (kind_of g w.mode) (first + length before) w.parts ++ records g (first + length before + 1) after) (length (records g first before)) refl)
    ∙ take_at (spell 1 (kind_of g w.mode) (first + length before) w.parts) (records g (first + length before + 1) after) (length (spell 1 (kind_of g w.mode) (first + length before) w.parts)) refl

-- so in an image
pub record_stands : (g : Geometry) (x : Half) (before : List Written) (w : Written) (after : List Written) (c : List ℕ) → IsHeld g x c → x.told ≡ before ++ w ∷ after
    → take (length (spell 1 (kind_of g w.mode) (x.base + 1 + length before) w.parts)) (drop (log_place g x.at + length (records g (x.base + 1) before)) c)
    ≡ spell 1 (kind_of g w.mode) (x.base + 1 + length before) w.parts
record_stands g x before w after c has is =
    record_at (log_place g x.at) g.log g (x.base + 1) before w after c (subst (λ (told : List Written). HasLog (log_place g x.at) g.log g (x.base + 1) told c) is (held_log g x c has))
